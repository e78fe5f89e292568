-- The tail of a run is cut off, or the run is removed whole where it starts with the tail.
use Rattle.std.proofs.Common.{◌≡◌, inl, inr, ℕ, ◌<◌, ◌≤◌, List, length, get_or, set, ◌∙◌, ap, refl, subst, arith}
use Rattle.std.specs.List.{remove}
use Rattle.std.proofs.lemmas.List.{get_or_default}
use Rattle.gpu_alloc_base.specs.declared.region.FreeListRegion.{FreeListRegion}
use Rattle.gpu_alloc_freelist.specs.Runs.{Cuts}
use Rattle.gpu_alloc_freelist.proofs.RunsKept.{cut_sorted}
use Rattle.gpu_alloc_freelist.proofs.freelist.runs.Runs.cut.Goals as goal

module _ (regions : List FreeListRegion) (i start : ℕ) (x : FreeListRegion) (is_x : x ≡ get_or regions i x) (within : i < length regions) where
  cuts_some : (y : FreeListRegion) → y ≡ get_or regions i y → x.start < start → Cuts regions i start (set regions i (record { chunk = y.chunk; start = y.start; end = start }))
  cuts_some y is_y less d =
      let at : x ≡ get_or regions i d = is_x ∙ get_or_default regions i x d within in
      let also : y ≡ get_or regions i d = is_y ∙ get_or_default regions i y d within in
      inl (subst (λ (q : FreeListRegion). q.start < start) at less, ap (λ (q : FreeListRegion). set regions i (record { chunk = q.chunk; start = q.start; end = start })) also)

  cuts_none : (get_or regions i x).start ≤ start → start ≤ x.start → Cuts regions i start (remove regions i)
  cuts_none le ge d =
      let at : x ≡ get_or regions i d = is_x ∙ get_or_default regions i x d within in
      let le' : x.start ≤ start = rw is_x le in
      let same : x.start ≡ start = omega (arith, le', ge) in
      inr (subst (λ (q : FreeListRegion). q.start ≡ start) at same, refl)

pub invariant_of-self : goal.invariant_of-self
invariant_of-self g c =
    let x = c.index.result.now in
    let within = rw (← c.self.view_is) at c.requires.in_range in
    let bounds = rw (← c.self.view_is) at (c.requires.within x) in
    cut_sorted c.self.inside.regions.items c.self.invariant _ c.args.index c.args.start x within bounds.0 bounds.1
    (cuts_some c.self.inside.regions.items c.args.index c.args.start x c.index.ensures within c.index_mut.result.now c.index_mut.ensures.value c.if-index-start.true)

pub invariant_of-self-else-index-start : goal.invariant_of-self-else-index-start
invariant_of-self-else-index-start g c =
    let x = c.index.result.now in
    let within = rw (← c.self.view_is) at c.requires.in_range in
    let bounds = rw (← c.self.view_is) at (c.requires.within x) in
    rw c.remove.ensures.items
    (cut_sorted c.self.inside.regions.items c.self.invariant _ c.args.index c.args.start x within bounds.0 bounds.1
    (cuts_none c.self.inside.regions.items c.args.index c.args.start x c.index.ensures within bounds.0 c.if-index-start.false))
