-- A block by its span, among blocks that are sorted by their spans.
use Rattle.std.proofs.Common.{◌≡◌, ◌<◌, inl, inr, ℕ, List, map, get_or, length, sym, ◌∙◌, ap, subst, arith, Less, Equal, Greater}
use Rattle.std.specs.declared.cmp.Ordering.{Ordering}
use Rattle.std.proofs.lemmas.Bool.{cases_lt}
use Rattle.std.proofs.lemmas.List.Elements.{Contains-get_or}
use Rattle.std.proofs.lemmas.List.Sorted.{searchable_from_sorted}
use Rattle.std.specs.Cmp.{tied_itself}
use Rattle.std.specs.List.{Contains, HoldsAt}
use Rattle.std.specs.List.Sorted.{IsNonDecreasingBy, IsPartitionPoint}
use Rattle.std.specs.Ordering.{ordering_index}
use Rattle.gpu_alloc.specs.State.{Span, span_cmp}
use Rattle.gpu_alloc_block.proofs.LiveSpans.{span_total, span_exact}
use Rattle.gpu_report.specs.Live.{live_block_span, AreBySpan}
use Rattle.gpu_report.specs.declared.live.LiveBlock.{LiveBlock}
use Rattle.gpu_report.proofs.Members.{from_mapped}

module _ (blocks : List LiveBlock) (x : Span) where
  abbrev pub beside : LiveBlock → Ordering
  beside b = span_cmp (live_block_span b) x

  pub found : (i : ℕ) (d : LiveBlock) → i < length blocks → HoldsAt (λ b. beside b ≡ Equal) blocks i → Contains blocks (get_or blocks i d) × (live_block_span (get_or blocks i d) ≡ x)
  found i d lt at = (Contains-get_or blocks i d lt, span_exact (live_block_span (get_or blocks i d)) x (at d))

  pub missing : (i : ℕ) → AreBySpan blocks → (IsNonDecreasingBy (λ b. ordering_index (beside b)) blocks → IsPartitionPoint (λ b. beside b ≡ Less) (λ b. beside b ≡ Greater) blocks i)
      → Contains (map live_block_span blocks) x → ⊥
  missing i sorted clause has =
      let point = clause (searchable_from_sorted span_total live_block_span blocks x sorted) in
      let b = from_mapped live_block_span blocks x has in
      let k : ℕ = b.1.0 in
      let at : get_or blocks k b.0 ≡ b.0 = b.1.2 in
      let equal : beside (get_or blocks k b.0) ≡ Equal = subst (λ y. span_cmp y x ≡ Equal) (sym (ap live_block_span at ∙ b.2)) (tied_itself span_total x) in
      elim (cases_lt k i) [
        | inl low ↦ let less = point.0 k b.0 (omega arith) low in absurd (cc)
        | inr high ↦ let greater = point.1 k b.0 high b.1.1 in absurd (cc)
      ]
