use Rattle.std.proofs.Common.{◌≡◌, ℕ, ◌+◌, List, [], false, refl, sym, ◌∙◌, ap, arith}
use Rattle.gpu_alloc_base.specs.Accounts.{account}
use Rattle.gpu_alloc_base.proofs.Lists.{contains_none}
use Rattle.gpu_alloc_block.specs.State.{State}
use Rattle.gpu_alloc.specs.Sound.{is_chosen}
use Rattle.gpu_alloc.proofs.ChosenStores.{not_buddies}
use Rattle.gpu_alloc.proofs.Fits.Named.{fit_in, fit_is_named, fit_named, fits_released}
use Rattle.gpu_alloc.proofs.ReturnedTotals.{fits_total}
use Rattle.gpu_alloc.proofs.Shared.Calls.{Handed, agrees_before, before, counted_before, handed, its, same_set, state_of, stood, IsLeft, IsNextGone, cleaned}
use Rattle.gpu_alloc.proofs.Shared.Stores.{linked}
use Rattle.gpu_alloc.proofs.allocator.GpuAllocator.clean_fit.Given.{Over}
use Rattle.gpu_alloc.proofs.allocator.GpuAllocator.clean_fit.Goals.{After-index_mut-in-Fit}
use Rattle.gpu_alloc.proofs.allocator.GpuAllocator.clean_fit.Goals as goal

-- What the allocator of fit chunks is handed, what its call did, and what it comes to.

given : (g : Over) (c : After-index_mut-in-Fit g)
    → Handed fit_named c.self.inside.limits c.self.inside.heaps.items c.self.inside.types.items c.self.inside.own c.self.inside.allocations_remains c.args.memory_type c.heap_index-heap.result c.index_mut.result.now c.in-Fit.fit c.index_mut-in-Fit.result.now
given g c = handed fit_named c.self.inside.limits c.self.invariant (rw (← c.self.view_is) at c.requires.known) c.index_mut.ensures.value (ap fit_in c.in-Fit.is) c.heap_index-heap.ensures c.index_mut-in-Fit.ensures.value

pub cleanup-requires : goal.cleanup-requires
cleanup-requires g c =
    let h = given g (goal.at.cleanup-requires g c).After-index_mut-in-Fit in
    let agrees = rw (← c.self.view_is) at c.requires.agrees in
    record { agrees = agrees_before fit_is_named h _ _ agrees; counted = counted_before fit_is_named h }

left : (g : Over) (c : goal.After-self-in-Fit-1 g) → (names : List ℕ) × IsLeft (given g (goal.at.invariant_of-self g c).After-index_mut-in-Fit) (before (given g (goal.at.invariant_of-self g c).After-index_mut-in-Fit)) names (account c.cleanup.new.self c.cleanup.new.heap c.cleanup.new.allocations_remains) c.cleanup.ensures.cleans.0
    (g.D.ObjectDevice.properties c.cleanup.new.device) (g.D.ObjectDevice.objects c.args.device.now) (g.D.ObjectDevice.objects c.cleanup.new.device) × IsNextGone fit_named c.in-Fit.fit false names
left g c =
    let agrees = rw (← c.self.view_is) at c.requires.agrees in
    cleaned fit_is_named (given g (goal.at.invariant_of-self g c).After-index_mut-in-Fit) agrees c.cleanup.ensures.properties c.cleanup.ensures.sound false (λ key free. free.unused) c.cleanup.ensures.cleans.2

pub invariant_of-self : goal.invariant_of-self
invariant_of-self g c = (left g c).1.kept

pub returns-in-Fit : goal.returns-in-Fit
returns-in-Fit g c =
    let has = (given g (goal.at.returns-in-Fit g c).After-index_mut-in-Fit).has in
    let st = stood fit_is_named has in
    let cleans = c.cleanup.ensures.cleans in
    let it = left g c in
    let released = fits_released _ _ (linked fit_is_named st.stands) st.stands.plain _ st.stands.of_type (its fit_is_named has).1.space.one_free it.0 it.2 in
    rw (← c.self.view_is) (record { gives = (it.0, cleans.0, cleans.1, record { chunks = released; lets = it.1.lets; objects = it.1.objects }); agrees = it.1.agreed; total = fits_total _ _ _ _ _ released it.1.lets })

pub returns-in_default-clause-gives : goal.returns-in_default-clause-gives
returns-in_default-clause-gives g c =
    let known = rw (← c.self.view_is) at c.requires.known in
    let l = c.self.inside.limits in
    let at_types : List _ → State = λ ss. state_of l c.self.inside.heaps.items ss c.self.inside.own c.self.inside.allocations_remains in
    let same = same_set c.self.inside.types.items c.args.memory_type c.index_mut.result.now c.index_mut.ensures.value in
    let zero : c.self.inside.allocations_remains ≡ c.self.inside.allocations_remains + 0 = omega arith in
    rw (← c.self.view_is) (
      [],
      [],
      refl,
      record {
        chunks = record {
          few = omega arith;
          all = λ object. (
            λ has. absurd (contains_none object has),
            λ unused. absurd (
                let of = unused.chunk in
                let chosen = ap (is_chosen l.sharing) (sym of.of_kind) ∙ c.self.invariant.chosen object of.chunk of.held in
                not_buddies l c.self.invariant known c.index_mut.ensures.value c.in_default.is chosen),
          );
        };
        lets = (refl, ap at_types same ∙ (λ k. record (at_types c.self.inside.types.items) { remaining = zero k }));
        objects = refl;
      },
    )
