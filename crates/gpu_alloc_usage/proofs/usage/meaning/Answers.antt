use Rattle.std.proofs.Common.{◌≡◌, ◌<◌, ℕ, map, get_or, ◌∙◌, ap, arith}
use Rattle.std.proofs.lemmas.List.FromFn.{get_or-map-range_with_len}
use Rattle.std.proofs.lemmas.Nat.{and_le_r}
use Rattle.std.specs.Int.Bits.{bit_and}
use Rattle.std.specs.List.{range_with_len}
use Rattle.gpu_alloc_types.specs.Flags.{named_usage_bits}
use Rattle.gpu_alloc_usage.specs.Ranking.{implied, with_fast, with_host}
use Rattle.gpu_alloc_usage.proofs.usage.meaning.Goals as goal

abbrev means : ℕ → ℕ
means n = with_host (with_fast n)

-- the table is that, computed for each set of named flags
meant : (bits : ℕ) → get_or (map means (range_with_len 0 64)) (bit_and bits named_usage_bits) 0 ≡ implied bits
meant bits =
    let below : bit_and bits named_usage_bits < 64 = let le = and_le_r bits named_usage_bits in omega (arith, le) in
    get_or-map-range_with_len means 0 64 (bit_and bits named_usage_bits) (bit_and bits named_usage_bits) 0 below (omega arith)

pub returns : goal.returns
returns c = c.from_bits_retain.ensures ∙ meant c.bits.result ∙ ap implied c.bits.ensures
