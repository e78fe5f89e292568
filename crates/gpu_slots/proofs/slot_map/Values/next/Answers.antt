use Rattle.std.proofs.Common.{◌≡◌, ℕ, ◌+◌, ◌^◌, ◌≤◌, [], ◌∷◌, ◌++◌, length, arith, ◌∙◌, ap, subst, length-append}
use Rattle.gpu_slots.specs.Places.{live_in}
use Rattle.gpu_slots.specs.SlotMap.{TakesAt}
use Rattle.gpu_slots.proofs.Taken.{none_left, one_taken, none_at_all}
use Rattle.gpu_slots.proofs.slot_map.Values.next.Goals as goal

pub returns-in-Some-value-clause-taken : goal.returns-in-Some-value-clause-taken
returns-in-Some-value-clause-taken g c =
    let popped : c.loop-place.self-inside.places.items ≡ c.pop.new.self.items ++ c.in-Some.place ∷ [] = c.in-Some.ensures.items in
    subst (λ m. (key : ℕ) × TakesAt m key c.in-Some-value.value (live_in c.pop.new.self.items)) c.loop-place.invariant.live
    (one_taken _ _ c.in-Some.place popped c.loop-place.invariant.few c.in-Some-value.value c.in-Some-value.is)

pub loop-place-preserved : goal.loop-place-preserved
loop-place-preserved g c =
    let popped : c.loop-place.self-inside.places.items ≡ c.pop.new.self.items ++ c.in-Some.place ∷ [] = c.in-Some.ensures.items in
    let longer : length c.loop-place.self-inside.places.items ≡ length c.pop.new.self.items + 1 = ap length popped ∙ length-append c.pop.new.self.items (c.in-Some.place ∷ []) in
    let few : length c.loop-place.self-inside.places.items ≤ 2 ^ 32 = c.loop-place.invariant.few in
    record {
      few = omega (arith, longer, few);
      live = none_left _ _ c.in-Some.place popped few c.in-None.is ∙ c.loop-place.invariant.live;
    }

pub returns-clause-ended : goal.returns-clause-ended
returns-clause-ended g c = λ none.
    let spent : length c.pop.new.self.items ≡ 0 = let no = c.in_default.ensures.cases in let ok = c.pop.new.self.ok in omega arith in
    none_at_all _ spent
