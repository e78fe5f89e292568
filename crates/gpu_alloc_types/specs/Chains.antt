-- Laws of chains of steps.
use Rattle.std.specs.Prelude.{List, [], ◌∷◌, ◌++◌, refl}
use Rattle.std.proofs.Common.{subst}
use Rattle.gpu_alloc_types.specs.Device.{Event, Chain}

module _ {D : Type 0} (step : D → Event → D → Type 0) where
  -- an empty chain: nothing was asked
  pub chain_none : (d : D) → Chain step d [] d
  chain_none d = refl

  -- a chain of one question
  pub chain_one : (a : D) (e : Event) (b : D) → step a e b → Chain step a (e ∷ []) b
  chain_one a e b s = (b, s, refl)

  -- two chains that meet make one chain
  pub chain_append : (es fs : List Event) (a b c : D) → Chain step a es b → Chain step b fs c
      → Chain step a (es ++ fs) c
  chain_append [] fs a b c first second = subst (λ d. Chain step d fs c) first second
  chain_append (e ∷ es) fs a b c first second = (first.0, first.1, chain_append es fs first.0 b c first.2 second)

  -- a chain with one question more
  pub chain_more : (es : List Event) (e : Event) (a b c : D) → Chain step a es b → step b e c
      → Chain step a (es ++ e ∷ []) c
  chain_more es e a b c first s = chain_append es (e ∷ []) a b c first (chain_one b e c s)
