-- What is tried for a request: types that there are, and of those ranked exactly those whose bit is set, in their order.
use Rattle.std.proofs.Common.{ℕ, ◌<◌, ◌≡◌, ◌^◌, ◌∙◌, ap, subst, refl, true, false, not, if◌then◌else◌, ◌==◌, List, [], ◌∷◌, length, bit_and, bit_or, w32, arith}
use Rattle.std.proofs.lemmas.Bool.Decides.{nat_tests}
use Rattle.std.proofs.lemmas.List.Elements.{All-filter, All-contains, filter_passes}
use Rattle.std.proofs.lemmas.Nat.{and_mask, or_lt, and_le_l}
use Rattle.std.proofs.lemmas.Nat.Bits.{bit_at_and, bit_at-lt, bit_at-zero, bit_at-trailing_zeros}
use Rattle.std.proofs.Math.Nat.{mod-eq_of_lt}
use Rattle.std.specs.Int.{bit_at, trailing_zeros}
use Rattle.std.specs.List.{All, Contains, filter}
use Rattle.gpu_alloc_types.specs.Flags.{has_bit}
use Rattle.gpu_alloc_types.specs.declared.types.MemoryType.{MemoryType}
use Rattle.gpu_alloc_usage.specs.Ranking.{ranking, candidates, named, with_fast, with_host, implied, is_allowed, key_of, row, IsMaskOf, IsRankingWithin, IsTable}
use Rattle.gpu_alloc_usage.proofs.Ranking.Order.{ranking_IsRanking}
use Rattle.gpu_alloc_usage.proofs.Ranking.Rising.{All-from_contains, IsRising-filter, filter-kept, filter-has}

-- each ranked type is a type of the device
pub ranking-within : (u : ℕ) (ts : List MemoryType) → All (λ t. t < length ts) (ranking u ts)
ranking-within u ts = All-from_contains (λ t. t < length ts) (ranking u ts) (λ t c. (((ranking_IsRanking u ts).exactly t).0 c).0)

-- each candidate is a type of the device
pub candidates-within : (ts : List MemoryType) (u m : ℕ) → All (λ t. t < length ts) (candidates ts u m)
candidates-within ts u m = All-filter (is_allowed m) (λ t. t < length ts) (ranking (implied u) ts) (ranking-within (implied u) ts)

-- What a mask allows.

bit-from_allowed : (b : ℕ) → (b == 1) ≡ true → b ≡ 1
bit-from_allowed b e = grind (arith, nat_tests)

pub allowed-from_bit : (b : ℕ) → b ≡ 1 → (b == 1) ≡ true
allowed-from_bit b e = grind (arith, nat_tests)

pub candidates_IsRankingWithin : (ts : List MemoryType) (u m : ℕ) → IsRankingWithin (implied u) ts m (candidates ts u m)
candidates_IsRankingWithin ts u m =
    let ranked = ranking (implied u) ts in
    let is_ranking = ranking_IsRanking (implied u) ts in
    record {
      exactly = λ t. (
        λ c. ((is_ranking.exactly t).0 (filter-kept (is_allowed m) ranked t c), bit-from_allowed (bit_at m t) (All-contains (λ x. is_allowed m x ≡ true) (filter (is_allowed m) ranked) t (filter_passes (is_allowed m) ranked) c)),
        λ s. filter-has (is_allowed m) ranked t (allowed-from_bit (bit_at m t) s.1) ((is_ranking.exactly t).1 s.0),
      );
      rising = IsRising-filter (key_of (implied u) ts) (is_allowed m) ranked is_ranking.rising;
    }

-- From the table of all usages.

pub named-below : (u : ℕ) → named u < 64
named-below u = let rest = and_mask u 6 in omega (arith, rest)

with_fast-below : (u : ℕ) → u < 64 → with_fast u < 64
with_fast-below u small = elim (u == 0) as (λ b. (if b then 1 else u) < 64) [
  | true ↦ omega arith
  | false ↦ small
]

with_host-below : (u : ℕ) → u < 64 → with_host u < 64
with_host-below u small = elim (has_bit u 12) as (λ b. (if b then bit_or u 2 else u) < 64) [
  | true ↦ or_lt 6 u 2 small (omega arith)
  | false ↦ small
]

implied-below : (u : ℕ) → implied u < 64
implied-below u = with_host-below _ (with_fast-below _ (named-below u))

-- what a usage means has no bit without a name
pub implied-named : (u : ℕ) → named (implied u) ≡ implied u
implied-named u = let below = implied-below u in and_mask (implied u) 6 ∙ mod-eq_of_lt below

-- the candidates are those of the table's row whose bit is set
pub candidates-from_table : (ts : List MemoryType) (table : List (List ℕ)) → IsTable ts table → (u m : ℕ) → filter (is_allowed m) (row table (implied u)) ≡ candidates ts u m
candidates-from_table ts table is_table u m =
    ap (filter (is_allowed m)) (is_table.ranked (implied u) ∙ ap (λ usage. ranking usage ts) (implied-named u))

-- Whether there is a candidate, by the masks.

one_of_both : (mask wanted t : ℕ) → bit_at (bit_and mask wanted) t ≡ 1 → (bit_at mask t ≡ 1) × (bit_at wanted t ≡ 1)
one_of_both mask wanted t e =
    let both = bit_at_and mask wanted t in
    let small = bit_at-lt mask t in
    let less = bit_at-lt wanted t in
    (omega (arith, both, small, less, e), omega (arith, both, small, less, e))

-- a type of both masks
met : (mask wanted : ℕ) (types : List ℕ) → IsMaskOf mask types → (t : ℕ) → Contains (filter (is_allowed wanted) types) t → bit_and mask wanted ≡ 0 → ⊥
met mask wanted types is t c none =
    let mine : bit_at mask t ≡ 1 = (is t).1 (filter-kept (is_allowed wanted) types t c) in
    let theirs : bit_at wanted t ≡ 1 = bit-from_allowed (bit_at wanted t) (All-contains (λ x. is_allowed wanted x ≡ true) (filter (is_allowed wanted) types) t (filter_passes (is_allowed wanted) types) c) in
    let both = bit_at_and mask wanted t in
    let here : bit_at (bit_and mask wanted) t ≡ 1 = omega (arith, both, mine, theirs) in
    let zero = bit_at-zero t in
    let absent : bit_at 0 t ≡ 1 = subst (λ n. bit_at n t ≡ 1) none here in
    omega (arith, zero, absent)

no_candidate : (mask wanted : ℕ) (types : List ℕ) → IsMaskOf mask types → bit_and mask wanted ≡ 0 → (xs : List ℕ) → xs ≡ filter (is_allowed wanted) types → length xs ≡ 0
no_candidate mask wanted types is none [] e = refl
no_candidate mask wanted types is none (x ∷ xs) e = absurd (met mask wanted types is x (subst (λ ys. Contains ys x) e (0, omega arith, refl)) none)

some_candidate : (mask wanted : ℕ) (types : List ℕ) → mask < 2 ^ 32 → IsMaskOf mask types → 0 < bit_and mask wanted → 0 < length (filter (is_allowed wanted) types)
some_candidate mask wanted types small is some =
    let within : bit_and mask wanted < 2 ^ 32 = let le = and_le_l mask wanted in omega (arith, le, small) in
    let lowest = bit_at-trailing_zeros w32 (bit_and mask wanted) some within in
    let t = trailing_zeros w32 (bit_and mask wanted) in
    let ones = one_of_both mask wanted t lowest.1 in
    let there = filter-has (is_allowed wanted) types t (allowed-from_bit (bit_at wanted t) ones.1) ((is t).0 ones.0) in
    let inside = there.1 in
    omega (arith, inside)

-- a mask of ranked types has a bit of another mask exactly where one of the types is allowed by it
pub has_any_by_masks : (mask wanted : ℕ) (types : List ℕ) → mask < 2 ^ 32 → IsMaskOf mask types → not (bit_and mask wanted == 0) ≡ not (length (filter (is_allowed wanted) types) == 0)
has_any_by_masks mask wanted types small is = elim (bit_and mask wanted == 0) as (λ b. (bit_and mask wanted == 0) ≡ b → not b ≡ not (length (filter (is_allowed wanted) types) == 0)) [
  | true ↦ λ e. let none : bit_and mask wanted ≡ 0 = grind (arith, nat_tests) in rw (no_candidate mask wanted types is none _ refl) refl
  | false ↦ λ e. let some : 0 < bit_and mask wanted = grind (arith, nat_tests) in let more = some_candidate mask wanted types small is some in grind (arith, nat_tests)
] refl
