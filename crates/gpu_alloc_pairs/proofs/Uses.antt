-- What the halves of a stored pair are used for, by its state.
use Rattle.std.proofs.Common.{◌≡◌, ◌≢◌, ℕ, Bool, true, false, Option, Some, None, refl}
use Rattle.gpu_alloc_pairs.specs.Entry.{entry_of, other_side, taken_as, use_in, use_of, with_use}
use Rattle.gpu_alloc_pairs.specs.Links.{free_side}
use Rattle.gpu_alloc_pairs.specs.declared.pair.Pair.{Pair}
use Rattle.gpu_alloc_pairs.specs.declared.pair.Parent.{Parent}
use Rattle.gpu_alloc_pairs.specs.declared.pair.Side.{Side}
use Rattle.gpu_alloc_pairs.specs.declared.pair.Side.TheVariants.{Left, Right}
use Rattle.gpu_alloc_pairs.specs.declared.pair.State.{State}
use Rattle.gpu_alloc_pairs.specs.declared.pair.State.TheVariants.{Exhausted, Ready}
use Rattle.gpu_alloc_pairs.specs.declared.pair.Use.TheVariants.{Free}

free_at : (state : State) (side : Side) (divided : Bool) → use_in state side divided ≡ Free → free_side state ≡ Some side
free_at Exhausted side true e = cc
free_at Exhausted side false e = cc
free_at (Ready Left next prev) Left divided e = refl
free_at (Ready Left next prev) Right true e = cc
free_at (Ready Left next prev) Right false e = cc
free_at (Ready Right next prev) Left true e = cc
free_at (Ready Right next prev) Left false e = cc
free_at (Ready Right next prev) Right divided e = refl

is_free : (state : State) (side : Side) (divided : Bool) → free_side state ≡ Some side → use_in state side divided ≡ Free
is_free Exhausted side divided e = cc
is_free (Ready Left next prev) Left divided e = refl
is_free (Ready Left next prev) Right divided e = cc
is_free (Ready Right next prev) Left divided e = cc
is_free (Ready Right next prev) Right divided e = refl

-- the half that is free
pub side_of_free : (p : Pair) (side : Side) → use_of (entry_of p) side ≡ Free → free_side p.state ≡ Some side
side_of_free p Left e = free_at p.state Left p.left_divided e
side_of_free p Right e = free_at p.state Right p.right_divided e

pub use_of_side : (p : Pair) (side : Side) → free_side p.state ≡ Some side → use_of (entry_of p) side ≡ Free
use_of_side p Left e = is_free p.state Left p.left_divided e
use_of_side p Right e = is_free p.state Right p.right_divided e

-- no half of an exhausted pair is free
pub none_is_free : (p : Pair) (side : Side) → free_side p.state ≡ None → use_of (entry_of p) side ≢ Free
none_is_free p side x e = let f = side_of_free p side e in cc

-- the half beside one in use, where one is free
pub other_is_free : (p : Pair) (side free : Side) → free_side p.state ≡ Some free → use_of (entry_of p) side ≢ Free
    → use_of (entry_of p) (other_side side) ≡ Free
other_is_free p Left Left e used = absurd (used (use_of_side p Left e))
other_is_free p Left Right e used = use_of_side p Right e
other_is_free p Right Left e used = use_of_side p Left e
other_is_free p Right Right e used = absurd (used (use_of_side p Right e))

exhausted_use : (state : State) (side : Side) (divided : Bool) → free_side state ≡ None → taken_as divided ≡ use_in state side divided
exhausted_use Exhausted side divided e = refl
exhausted_use (Ready free next prev) side divided e = cc

-- an exhausted pair becomes ready
pub freed_entry : (p : Pair) (state : State) (side : Side) → free_side p.state ≡ None → free_side state ≡ Some side
    → entry_of (record p { state = state }) ≡ with_use (entry_of p) side Free
freed_entry p Exhausted side x f = cc
freed_entry p (Ready Left next prev) Left x f = let e = exhausted_use p.state Right p.right_divided x in cc
freed_entry p (Ready Left next prev) Right x f = cc
freed_entry p (Ready Right next prev) Left x f = cc
freed_entry p (Ready Right next prev) Right x f = let e = exhausted_use p.state Left p.left_divided x in cc

-- a pair whose right half is free
pub right_is_free : (chunk offset : ℕ) (parent : Option Parent) (left right : Bool) (state : State)
    → free_side state ≡ Some Right
    → entry_of (record { chunk = chunk; offset = offset; parent = parent; left_divided = left; right_divided = right; state = state })
    ≡ record { chunk = chunk; offset = offset; parent = parent; left = taken_as left; right = Free }
right_is_free chunk offset parent left right Exhausted e = cc
right_is_free chunk offset parent left right (Ready Left next prev) e = cc
right_is_free chunk offset parent left right (Ready Right next prev) e = refl
