-- A slab of rows as contracts see it: by the rows' names, or by their keys.
use Rattle.std.specs.Prelude.{◌≡◌, ℕ, Some, map}
use Rattle.std.specs.FinMap as map_of
use Rattle.std.specs.FinSet as set
use Rattle.std.specs.declared.cmp.Ordering.{Ordering}
use Rattle.std.specs.Ordering.{nat_cmp}
use Rattle.slab.specs.Slab.{Slab, get, entries}

module _ {T K : Type 0} {R : K → K → Ordering} where
  -- the names of the rows, as a finite set
  abbrev pub set_by : (T → K) → Slab T → set.FinSet R
  set_by name s = set.from_list (map (λ e. name e.1) (entries s))

module _ {T K X : Type 0} {R : K → K → Ordering} where
  -- a finite map from the names of the rows to their values
  abbrev pub map_by : (T → K) → (T → X) → Slab T → map_of.FinMap R X
  map_by name value s = map_of.from_entries (map (λ e. (name e.1, value e.1)) (entries s))

-- a finite map from the keys to the values of their rows
abbrev pub by_key : {T X : Type 0} → (T → X) → Slab T → map_of.FinMap nat_cmp X
by_key value s = map_of.from_entries (map (λ e. (e.0, value e.1)) (entries s))

-- no two keys have rows of the same name
abbrev pub HasOneKeyEach : {T K : Type 0} → (T → K) → Slab T → Type 0
HasOneKeyEach {T} name s = (i k : ℕ) (a b : T) → get s i ≡ Some a → get s k ≡ Some b → name a ≡ name b → i ≡ k
