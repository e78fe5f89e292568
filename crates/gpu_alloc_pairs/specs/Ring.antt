-- A ring of keys: each has a next and a previous one, and from each key the next ones lead to every other.
use Rattle.std.specs.Prelude.{◌≡◌, ℕ, zero, suc}

-- the key that is this many steps after a key
abbrev pub steps : (ℕ → ℕ) → ℕ → ℕ → ℕ
steps next zero key = key
steps next (suc count) key = steps next count (next key)

-- the keys that are on form one ring
pub record IsRing (On : ℕ → Type 0) (next prev : ℕ → ℕ) : Type 0 where
  pub next_on : (key : ℕ) → On key → On (next key)
  pub prev_on : (key : ℕ) → On key → On (prev key)
  pub prev_next : (key : ℕ) → On key → prev (next key) ≡ key
  pub next_prev : (key : ℕ) → On key → next (prev key) ≡ key
  pub one : (from to : ℕ) → On from → On to → (count : ℕ) × (steps next count from ≡ to)
