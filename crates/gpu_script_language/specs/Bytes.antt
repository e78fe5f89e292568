-- Bytes as a field of a line.
use Rattle.std.specs.Prelude.{◌≡◌, ◌⊎◌, ℕ, List, [], ◌∷◌, Ok}
use Rattle.hex.specs.Hex.{decode_of}

-- A field gives these bytes: a dash for no bytes, or two hexadecimal digits for each.
abbrev pub StandsForBytes : List ℕ → List ℕ → Type 0
StandsForBytes field bytes = ((field ≡ 45 ∷ []) × (bytes ≡ [])) ⊎ (decode_of field ≡ Ok bytes)
