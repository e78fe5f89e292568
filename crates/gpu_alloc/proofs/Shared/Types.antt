-- The chunk sizes of each memory type, as one of the stores changes its own.
use Rattle.std.proofs.Common.{◌≡◌, ℕ, zero, suc, ◌<◌, List, [], ◌∷◌, length, Option, Some, slice_get, refl, sym, ◌∙◌, ap, arith}
use Rattle.std.proofs.Math.ListN.{set}
use Rattle.gpu_alloc_block.specs.Parts.{IsAt}
use Rattle.gpu_alloc_block.specs.State.{TypeState}
use Rattle.gpu_alloc.specs.Inside.{types_with}

-- one memory type's sizes are changed
abbrev pub changed : (TypeState → TypeState) → List TypeState → ℕ → List TypeState
changed h [] i = []
changed h (type ∷ types) zero = h type ∷ types
changed h (type ∷ types) (suc i) = type ∷ changed h types i

-- what is then read of it
pub read_changed : (read : Option TypeState → ℕ) (h : TypeState → TypeState) (types : List TypeState) (i n : ℕ) → i < length types → ((type : TypeState) → read (Some (h type)) ≡ n) → read (slice_get (changed h types i) i) ≡ n
read_changed read h [] i n within is = absurd (omega (arith, within))
read_changed read h (type ∷ types) zero n within is = is type
read_changed read h (type ∷ types) (suc i) n within is = read_changed read h types i n (omega (arith, within)) is

module _ {X : Type 0} (g : X → TypeState → TypeState) where
  -- another one is put in a place, which changes its memory type's sizes so
  pub types_set : (h : TypeState → TypeState) (types : List TypeState) (xs : List X) (i : ℕ) (x y : X) → IsAt xs i x → ((type : TypeState) → g y type ≡ h (g x type)) → types_with g types (set xs i y) ≡ changed h (types_with g types xs) i
  types_set h [] xs i x y at so = refl
  types_set h (type ∷ types) [] i x y at so = absurd at
  types_set h (type ∷ types) (z ∷ xs) zero x y at so = λ k. (so type ∙ ap (λ w. h (g w type)) (sym at)) k ∷ types_with g types xs
  types_set h (type ∷ types) (z ∷ xs) (suc i) x y at so = ap (λ ts. g z type ∷ ts) (types_set h types xs i x y at so)

  -- a memory type with a store stays one
  pub types_within : (types : List TypeState) (xs : List X) (i : ℕ) → i < length types → i < length xs → i < length (types_with g types xs)
  types_within [] xs i within lt = absurd (omega (arith, within))
  types_within (type ∷ types) [] i within lt = absurd (omega (arith, lt))
  types_within (type ∷ types) (x ∷ xs) zero within lt = omega (arith)
  types_within (type ∷ types) (x ∷ xs) (suc i) within lt = let rest = types_within types xs i (omega (arith, within)) (omega (arith, lt)) in omega (arith, rest)
