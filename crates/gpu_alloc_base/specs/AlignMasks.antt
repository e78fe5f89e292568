-- Alignments, as masks.
use Rattle.std.specs.Prelude.{ℕ, ◌+◌, ◌≤◌, ◌^◌, IsTrue}
use Rattle.std.specs.Int.{is_power_of_two}

-- one more than an alignment mask is a power of two of at most 2^63
pub record IsAlignMask (mask : ℕ) : Type 0 where
  pub power : IsTrue (is_power_of_two (mask + 1))
  pub bound : mask + 1 ≤ 2 ^ 63
