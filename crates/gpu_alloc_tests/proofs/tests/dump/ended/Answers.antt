use Rattle.std.proofs.Common.{rules, ◌≡◌, length, List, [], ◌∷◌, refl, arith}
use Rattle.gpu_alloc_tests.proofs.tests.dump.ended.Goals as goal

none : {X : Type 0} (xs : List X) → length xs ≡ 0 → xs ≡ []
none [] is = refl
none (x ∷ xs) is = absurd (let never : ⊥ = omega (arith, is) in never)

-- no name is left
pub close-requires-clause-told : goal.close-requires-clause-told
close-requires-clause-told g c = none c.loop-2-test.desk.device.held.gone (search rules)
