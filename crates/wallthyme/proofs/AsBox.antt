-- The `Box` whose fields a seal and its parts have: they own what it owns, so that walks may turn one into the other.
use lib.Dec.{T, lit<}
use mathlib.Core.List.{[]}
use mir.Syntax.{impl, tnil, dnil}
use mir.Val.{Val, vstruct, vnil, vcons, has_ty, WT}
use denote.RawPtr.{Ptr, block_ptr, null_ptr, ptr_val}
use denote.RattleType.{RattleType}
use denote.Signature.{Slot, plain}
use Rattle.core.proofs.alloc.Calls.{α, Fits}
use Rattle.std_alloc.proofs.ResultValues.{and_tt}
use Rattle.std_alloc.proofs.BoxSteps.Form.{Bx, box_ty, box_typed}
use Rattle.std_heap.specs.contracts.Global as Heap
use Rattle.std_heap.specs.contracts.GlobalAllocator.TheImpl.{ghosts, dict}
use Rattle.std_heap.proofs.Global.TheLaws as heap
use Rattle.wallthyme.specs.contracts.kept.KeptDesk as Kept
use Rattle.wallthyme.proofs.kept.KeptDesk.TheLaws as kept
use Rattle.wallthyme.specs.contracts.seal.parts.Parts as Parts
use Rattle.wallthyme.specs.contracts.seal.Seal as Seal

-- a box of a kept desk, with its allocator
abbrev pub kept_box : Bx
kept_box = record {
  row = Kept.the_row;
  laws = kept.the_row_laws;
  al = record { row = Heap.the_row; laws = heap.the_row_laws; g = ghosts; d = dict; drops = impl [] tnil dnil };
}

-- parts and a seal, as what a function takes
abbrev pub parts_slot : Slot 0
parts_slot = plain (λ _. Parts.the_row Kept.the_row Heap.the_row ghosts)

abbrev pub seal_row : RattleType
seal_row = Seal.the_row

abbrev pub seal_slot : Slot 0
seal_slot = plain (λ _. Seal.the_row)

-- the bits of a seal: a pointer, which may be any, and a handle of the allocator
abbrev pub seal_word : Ptr → Val → Val
seal_word p handle = vstruct (vcons (ptr_val p) (vcons handle vnil))

-- they have the type of a box's
pub seal_word_typed : (handle : Val) (p : Ptr) → Fits kept_box.al handle
    → T (has_ty (box_ty kept_box) (seal_word p handle)) × WT (seal_word p handle)
seal_word_typed handle (block_ptr b o) fits = box_typed kept_box handle b o fits
seal_word_typed handle null_ptr fits =
    (and_tt (has_ty (α kept_box.al) handle) fits.0, (record { fits = lit< tt }, (fits.1, tt)))
