-- Whether a block with an object of its own is live here.
use Rattle.std.proofs.Common.{◌≡◌, ◌↔◌, ℕ, zero, ◌≤◌, false, List, length, None, IsTrue, refl, sym, ◌∙◌, ap, subst, arith}
use Rattle.std.specs.FinMap as finite
use Rattle.std.specs.FinSet as set
use Rattle.gpu_alloc_base.specs.declared.heap.Heap.{Heap}
use Rattle.gpu_alloc_base.proofs.Maps.{one_value}
use Rattle.gpu_alloc_base.proofs.Names.{here}
use Rattle.gpu_alloc_block.specs.Parts.{Part}
use Rattle.gpu_alloc_block.specs.State.{Block, HeldObject, IsOwned, Span, State, is_shared, span_of}
use Rattle.gpu_alloc_block.proofs.Parts.Unions.{live_of}
use Rattle.gpu_alloc.specs.Inside.{properties_in, state_in}
use Rattle.gpu_alloc.specs.Own.{OwnTable, IsRowOf, own_held, own_span}
use Rattle.gpu_alloc.specs.Spans.{span_at}
use Rattle.gpu_alloc.specs.Whole.{IsKept, own_part as part_of_own, parts_of, whole}
use Rattle.gpu_alloc.specs.declared.limits.Limits.{Limits}
use Rattle.gpu_alloc.specs.declared.own.OwnRow.{OwnRow}
use Rattle.gpu_alloc.proofs.Wholes.{held_here, held_whole, live_here}
use Rattle.gpu_alloc.specs.declared.allocator.stores.TypeStores.{TypeStores}

module _ {A M X : Type 0} (l : Limits A) (heaps : List Heap) (ss : List (TypeStores M X)) (own : OwnTable) (remaining : ℕ) (kept : IsKept l.sharing l.config (properties_in l heaps) heaps ss own remaining) (b : Block) where
  abbrev state : State
  state = state_in l heaps ss (whole own ss) remaining

  abbrev ps : List Part
  ps = parts_of own ss

  -- not where there is no such memory type
  pub unknown_unowned : (count : ℕ) → count ≡ length (properties_in l heaps).memory_types → count ≤ b.memory_type → IsOwned state b → ⊥
  unknown_unowned count counted none owned =
      let known = (here _ _ (kept.books.known b.object) owned.held.0 owned.held.1).of_type in
      omega (arith, known, owned.held.2, counted, none)

  module _ (kind : is_shared b.kind ≡ false) where
    pub unheld_unowned : finite.get own.held b.object ≡ None → IsOwned state b → ⊥
    unheld_unowned none owned = let held = held_here own ss kept.apart b.object owned.held.0 owned.held.1 (ap is_shared owned.held.3 ∙ kind) in absurd (cc)

    pub row_owned : (row : OwnRow) → IsRowOf own.held own.live b.object row
        → ((◌≡◌ {A = Span} (own_span row) (span_at row.object b.offset b.size)) × (((own_held row).memory_type ≡ b.memory_type) × ((own_held row).kind ≡ b.kind))) ↔ IsOwned state b
    row_owned row is = (
      λ yes. record {
        live = live_of ps zero (part_of_own own) (span_of b) refl (subst (λ (s : Span). IsTrue (set.contains own.live s)) (yes.0 ∙ (λ i. span_at (is.named i) b.offset b.size)) is.is_live);
        held = (own_held row, held_whole own ss kept.apart b.object (own_held row) is.is_held, yes.1.0, yes.1.1);
      },
      λ owned.
          let held = held_here own ss kept.apart b.object owned.held.0 owned.held.1 (ap is_shared owned.held.3 ∙ kind) in
          let live = live_here own ss kept.apart (span_of b) owned.held.0 owned.live held in
          let same = one_value (finite.get own.held b.object) (own_held row) owned.held.0 is.is_held held in (
            sym (is.alone (span_of b) live refl) ∙ (λ i. span_at (sym is.named i) b.offset b.size),
            (ap (λ (h : HeldObject). h.memory_type) same ∙ owned.held.2, ap (λ (h : HeldObject). h.kind) same ∙ owned.held.3),
          ),
    )
