-- That an empty map adds up to nothing.
use Rattle.std.proofs.Common.{◌≡◌, ℕ, List, [], ◌∷◌, length, refl, sym, ◌∙◌, arith}
use Rattle.std.specs.Prelude.{sum_by}
use Rattle.std.specs.FinMap as map
use Rattle.std.specs.Ordering.{nat_cmp}

no_sum : {X : Type 0} (f : X → ℕ) (xs : List X) → length xs ≡ 0 → sum_by f xs ≡ 0
no_sum f [] none = refl
no_sum f (x ∷ xs) none = absurd (omega (arith, none))

pub nothing_added : {V : Type 0} (f : V → ℕ) → sum_by (λ e. f e.1) (map.entries {X = V} {R = nat_cmp} map.empty) ≡ 0
nothing_added {V} f =
    no_sum (λ e. f e.1) (map.entries {X = V} {R = nat_cmp} map.empty) (sym (map.len-entries {X = V} {R = nat_cmp} map.empty) ∙ map.len-empty nat_cmp V)
