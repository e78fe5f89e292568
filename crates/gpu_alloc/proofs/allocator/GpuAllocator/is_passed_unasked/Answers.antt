use Rattle.std.proofs.Common.{◌⊎◌, ◌<◌, ◌≤◌, ℕ, arith, inl, inr}
use Rattle.std.proofs.lemmas.Bool.{iff_false, cases_lt}
use Rattle.gpu_alloc.specs.Whole.{whole}
use Rattle.gpu_alloc.proofs.HeapLists.{type_heap_is}
use Rattle.gpu_alloc.proofs.allocator.GpuAllocator.is_passed_unasked.Goals as goal

not_larger : {A : Type 0} (heap size : ℕ) → ((heap < size) ⊎ A → ⊥) → size ≤ heap
not_larger heap size neither = elim (cases_lt heap size) [
  | inl larger ↦ absurd (neither (inl larger))
  | inr fits ↦ fits
]

pub returns-then-not-fits-clause-passed : goal.returns-then-not-fits-clause-passed
returns-then-not-fits-clause-passed g c =
    let known = rw (← c.self.view_is) at c.requires.known in
    let of = type_heap_is c.self.inside.limits c.self.inside.heaps.items c.self.inside.types.items (whole c.self.inside.own c.self.inside.types.items) c.self.inside.allocations_remains c.self.invariant.books c.args.memory_type _ c.index.result.now known
    c.heap_index.ensures c.index.ensures in
    let ways = rw (← c.self.view_is) at c.is_passed_over_budget.ensures in
    rw (← c.self.view_is) (λ passed. elim (ways.0 passed) [
      | inl larger ↦ inl larger
      | inr more ↦ inr (more, omega (arith, iff_false c.fits.ensures c.if-not-fits.true, of.used, of.limit))
    ])

pub returns-then-not-fits-clause-fits : goal.returns-then-not-fits-clause-fits
returns-then-not-fits-clause-fits g c =
    let ways = rw (← c.self.view_is) at c.is_passed_over_budget.ensures in
    rw (← c.self.view_is) (λ stays. not_larger _ _ (iff_false ways stays))

pub returns-else-not-fits-clause-fits : goal.returns-else-not-fits-clause-fits
returns-else-not-fits-clause-fits g c =
    let known = rw (← c.self.view_is) at c.requires.known in
    let of = type_heap_is c.self.inside.limits c.self.inside.heaps.items c.self.inside.types.items (whole c.self.inside.own c.self.inside.types.items) c.self.inside.allocations_remains c.self.invariant.books c.args.memory_type _ c.index.result.now known
    c.heap_index.ensures c.index.ensures in
    rw (← c.self.view_is) (λ within. omega (arith, c.fits.ensures.0 c.if-not-fits.false, of.limited, of.size))

pub returns-else-not-fits-clause-within : goal.returns-else-not-fits-clause-within
returns-else-not-fits-clause-within g c =
    let known = rw (← c.self.view_is) at c.requires.known in
    let of = type_heap_is c.self.inside.limits c.self.inside.heaps.items c.self.inside.types.items (whole c.self.inside.own c.self.inside.types.items) c.self.inside.allocations_remains c.self.invariant.books c.args.memory_type _ c.index.result.now known
    c.heap_index.ensures c.index.ensures in
    rw (← c.self.view_is) (λ within some. omega (arith, c.fits.ensures.0 c.if-not-fits.false, of.used, of.limit))
