-- What the calls make of a sound simulated device is sound.
use Rattle.std.proofs.Common.{◌≡◌, ℕ, ◌+◌, List, [], ◌∷◌, None, subst, sym, arith}
use Rattle.std.specs.FinMap as map
use Rattle.std.specs.FinMap.{FinMap}
use Rattle.std.specs.Ordering.{nat_cmp}
use Rattle.gpu_alloc_types.specs.Device.{Object, Range}
use Rattle.gpu_alloc_types.specs.Properties.{Properties}
use Rattle.gpu_sim.specs.ObjectLaws.{new_is_whole, whole-empty, whole-insert, whole-remove}
use Rattle.gpu_sim.specs.Objects.{ChangesAt, CopiesEach, IsWhole, new_object}
use Rattle.gpu_sim.specs.Sim.{IsNamedUpTo, IsSoundSim}
use Rattle.gpu_sim.specs.SimLaws.{change_keeps_whole, copies_keep_whole}
use Rattle.gpu_sim.specs.declared.sim.bytes.Direction.{Direction}
use Rattle.gpu_sim.specs.declared.sim.bytes.Part.{Part}
use Rattle.gpu_sim.proofs.SimNames.{named_up_to-empty, named_up_to-insert, named_up_to-replace, named_up_to-remove}

pub sound-empty : (p : Properties) → IsSoundSim 0 p map.empty
sound-empty p = record { named = named_up_to-empty 0; whole = whole-empty p }

module _ (last : ℕ) (p : Properties) (objects : FinMap nat_cmp Object) (sound : IsSoundSim last p objects) where
  pub sound-made : (size t : ℕ) → IsSoundSim (last + 1) p (map.insert objects (last + 1) (new_object p size t))
  sound-made size t = record {
    named = named_up_to-insert last (last + 1) objects (new_object p size t) (omega arith) sound.named;
    whole = whole-insert p objects (last + 1) (new_object p size t) sound.whole (new_is_whole p size t);
  }

  pub sound-removed : (name : ℕ) → IsSoundSim last p (map.remove objects name)
  sound-removed name =
      record { named = named_up_to-remove last objects name sound.named; whole = whole-remove p objects name sound.whole }

-- a change of one object
pub sound-changed : (last : ℕ) (p : Properties) (Q : Object → Type 0) (f : Object → Object) → ((o : Object) → IsWhole p o → Q o → IsWhole p (f o))
    → (old : FinMap nat_cmp Object) (name : ℕ) (new : FinMap nat_cmp Object) → ChangesAt Q f old name new → IsSoundSim last p old → IsSoundSim last p new
sound-changed last p Q f keeps old name new c sound = record {
  named = λ q above. subst (λ objects. map.get objects q ≡ None) (sym c.3) (named_up_to-replace last name old (f c.0) c.0 c.1 sound.named q above);
  whole = change_keeps_whole p Q f keeps old name new c sound.whole;
}

named-copies : (last : ℕ) (way : Direction) (part : Part) (rs : List Range) (old new : FinMap nat_cmp Object) → CopiesEach way part rs old new → IsNamedUpTo last old → IsNamedUpTo last new
named-copies last way part [] old new c named = subst (IsNamedUpTo last) (sym c) named
named-copies last way part (r ∷ rs) old new c named =
    named-copies last way part rs c.0 new c.2
    (λ q above. subst (λ objects. map.get objects q ≡ None) (sym c.1.3) (named_up_to-replace last r.object old _ c.1.0 c.1.1 named q above))

pub sound-copies : (last : ℕ) (p : Properties) (way : Direction) (part : Part) (rs : List Range) (old new : FinMap nat_cmp Object) → CopiesEach way part rs old new → IsSoundSim last p old → IsSoundSim last p new
sound-copies last p way part rs old new c sound = record {
  named = named-copies last way part rs old new c sound.named;
  whole = copies_keep_whole p way part rs old new c sound.whole;
}
