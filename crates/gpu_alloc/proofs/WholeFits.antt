-- The chunks and the live blocks of allocators of fit chunks, as they are listed and counted.
use Rattle.std.proofs.Common.{◌≡◌, ℕ, List, map, refl, sym, ◌∙◌, ap, subst}
use Rattle.std.specs.FinSet as set
use Rattle.std.specs.List.{IsDistinct}
use Rattle.std.specs.Ordering.{eq_by_cmp}
use Rattle.gpu_alloc_base.specs.Slots.{slot_cmp}
use Rattle.gpu_alloc_base.specs.declared.free_list_block.Slot.{Slot}
use Rattle.gpu_alloc_base.proofs.Slots.{slot_exact, slot_total}
use Rattle.gpu_alloc_block.specs.Parts.{HaveOwnObjects}
use Rattle.gpu_alloc_block.specs.State.{Span, span_cmp}
use Rattle.gpu_alloc_block.specs.declared.block.Kind.TheVariants.{FitChunk}
use Rattle.gpu_alloc_fit.specs.Fit.{FitState}
use Rattle.gpu_alloc_fit.specs.FitRule.{fit_rule}
use Rattle.gpu_alloc_fit.specs.FitSound.{IsSoundFit}
use Rattle.gpu_alloc_runs.specs.Inside.{chunk_of_row, leaf_of_slot}
use Rattle.gpu_alloc_runs.specs.Listed.{ListsChunks}
use Rattle.gpu_alloc_runs.specs.declared.fits.Chunk.{Chunk as Row}
use Rattle.gpu_alloc.specs.Listing.{AreOnce}
use Rattle.gpu_alloc.specs.Spans.{span_in}
use Rattle.gpu_alloc.specs.Stores.{block_span, chunk_row, part}
use Rattle.gpu_alloc.specs.declared.spans.HeldRow.{HeldRow}
use Rattle.gpu_alloc.proofs.Tables.Listed.{mapped_twice}
use Rattle.gpu_alloc.proofs.WholeRows.{AreRowsOf, listed_by_key, rows_of, own_spans_are, own_spans_once}
use Rattle.gpu_alloc.proofs.Wholes.{one_fit}

-- The fit chunks.

-- what a chunk of a memory type is listed as
abbrev pub fit_row : {M : Type 0} → (M → ℕ) → ℕ → ℕ × Row M → ℕ × HeldRow
fit_row object memory_type e =
    (object e.1.memory, record { memory_type = memory_type; counted = e.1.size; kind = FitChunk })

pub fit_rows : {M : Type 0} (object : M → ℕ) (f : FitState) → HaveOwnObjects f.space.chunks → (listed : List (ℕ × Row M)) → ListsChunks object f.space.chunks listed → (memory_type : ℕ) → f.memory_type ≡ memory_type
    → AreRowsOf (part fit_rule (λ key. FitChunk) f).held (fit_row object memory_type) listed
fit_rows object f named listed lists memory_type typed =
    rows_of named (listed_by_key (chunk_of_row object) f.space.chunks named lists.rows lists.exact listed lists.are) (chunk_row fit_rule (λ key. FitChunk) f) (fit_row object memory_type)
    (λ e i. (object e.1.memory, record { memory_type = sym typed i; counted = e.1.size; kind = FitChunk }))

-- The live blocks in them.

module _ (f : FitState) (sound : IsSoundFit f) (slots : List Slot) (exact : set.from_list slots ≡ f.space.live) (once : IsDistinct (eq_by_cmp slot_cmp) slots) where
  named_so : map span_in (map leaf_of_slot slots) ≡ map (block_span fit_rule) slots
  named_so = mapped_twice leaf_of_slot span_in (block_span fit_rule) (λ e. refl) slots

  pub fit_spans_are : set.from_list (map span_in (map leaf_of_slot slots)) ≡ (part fit_rule (λ key. FitChunk) f).live
  fit_spans_are = ap (λ (xs : List Span). set.from_list {R = span_cmp} xs) named_so ∙ own_spans_are slot_total slot_exact (block_span fit_rule) f.space.live (one_fit f sound) slots exact once

  pub fit_spans_once : AreOnce (map span_in (map leaf_of_slot slots))
  fit_spans_once = subst AreOnce (sym named_so) (own_spans_once slot_total slot_exact (block_span fit_rule) f.space.live (one_fit f sound) slots exact once)
