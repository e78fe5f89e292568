-- How a text is written where there may be too little room for it.
use Rattle.std.specs.Prelude.{◌≡◌, ℕ, ◌-◌, ◌^◌, List, [], ◌∷◌, ◌++◌, length, min}

-- the bytes after a text is written over them: its bytes take the place of the first of these, as many as there are
abbrev pub written_over : (text bytes : List ℕ) → List ℕ
written_over [] bytes = bytes
written_over (b ∷ text) [] = []
written_over (b ∷ text) (old ∷ bytes) = b ∷ written_over text bytes

-- the length of a text, at most the greatest number of 64 bits
abbrev pub length_told : List ℕ → ℕ
length_told text = min (length text) (2 ^ 64 - 1)

-- the text was written over these bytes, and that is its length
pub record IsTextWritten (text before now : List ℕ) (at : ℕ) : Type 0 where
  pub bytes : now ≡ written_over text before
  pub length : at ≡ length_told text

-- whatever text was written before, now it is that text followed by this one
pub record GoesOn (old : List ℕ) (at : ℕ) (more new : List ℕ) (next : ℕ) : Type 0 where
  pub on : (text before : List ℕ) → IsTextWritten text before old at → IsTextWritten (text ++ more) before new next
