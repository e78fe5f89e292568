-- Free space: the bytes of held chunks that lie in no live span, and the longest ranges of them.
use Rattle.std.specs.Prelude.{◌≡◌, ℕ, ◌+◌, ◌*◌, ◌^◌, ◌<◌, ◌≤◌}

-- the byte lies in the range with this start and length
pub record IsIn (start length at : ℕ) : Type 0 where
  pub from : start ≤ at
  pub to : at < start + length

-- x is a multiple of n
abbrev pub IsMultipleOf : ℕ → ℕ → Type 0
IsMultipleOf n x = (m : ℕ) × (x ≡ m * n)

abbrev pub IsPowerOfTwo : ℕ → Type 0
IsPowerOfTwo n = (k : ℕ) × (n ≡ 2 ^ k)

-- a power of two, of at most this order
abbrev pub IsPowerUpTo : ℕ → ℕ → Type 0
IsPowerUpTo limit n = (k : ℕ) × ((k ≤ limit) × (n ≡ 2 ^ k))

-- F says which bytes of which objects are free.
module _ (F : ℕ → ℕ → Type 0) where
  -- each byte of the range is free
  abbrev pub IsFreeRange : ℕ → ℕ → ℕ → Type 0
  IsFreeRange object start length = (at : ℕ) → IsIn start length at → F object at

  -- a free range whose length is a power of two and which starts at a multiple of it
  pub record IsPlace (object start length : ℕ) : Type 0 where
    pub power : IsPowerOfTwo length
    pub aligned : IsMultipleOf length start
    pub free : IsFreeRange object start length

  -- a place that is not part of a longer one
  pub record IsFreePiece (object start length : ℕ) : Type 0 where
    pub place : IsPlace object start length
    pub longest : (start' length' : ℕ) → IsPlace object start' length' → start' ≤ start
        → start + length ≤ start' + length' → length' ≤ length
