-- Sizes of free lists' chunks: how many of one size hold a block, what suffices for it, whole atoms, and alignments.
use Rattle.std.proofs.Common.{◌≡◌, inl, inr, ℕ, ◌+◌, ◌-◌, ◌*◌, ◌/◌, ◌^◌, ◌<◌, ◌≤◌, true, false, nat_le, refl, sym, ◌∙◌, ap, subst, arith, zero, suc, cond, Bool, ◌==◌}
use Rattle.std.specs.Prelude.{min, max}
use Rattle.std.proofs.lemmas.Bool.{cases_lt}
use Rattle.std.proofs.lemmas.Bool.Decides.{nat_tests}
use Rattle.std.proofs.lemmas.Nat.{pow_pos, div_below}
use Rattle.std.proofs.Math.Nat.{add-div_right, div-le_self, mul-le-mul_left, mul-le-mul_right}
use Rattle.gpu_alloc_base.specs.FreeSpace.{IsPowerUpTo, IsMultipleOf}
use Rattle.gpu_alloc_base.specs.AlignMasks.{IsAlignMask}
use Rattle.gpu_alloc_base.specs.Sizes.{next_power_of_two, down, up, grown_chunk, IsLeastProduct, cut, at_least_an_atom, starting_size, final_size, transient_threshold}
use Rattle.gpu_alloc_base.proofs.AlignedPowers.{pow-le}
use Rattle.gpu_alloc_base.proofs.PowersOfTwo.{is_next_power_of_two, power_of_bit, bit_of_power, greater_power}
use Rattle.gpu_alloc_base.proofs.Multiples.{multiple_below, multiple_down, down_below}
use Rattle.gpu_alloc_base.specs.declared.config.Config.{Config}

-- How many chunks of a size hold a block.

pub pieces_is : (size n : ℕ) → 0 < size → 0 < n → (size - 1) / n + 1 ≡ (size + (n - 1)) / n
pieces_is size n some positive =
    let e : size + (n - 1) ≡ size - 1 + n = omega arith in
    sym (ap (λ x. x / n) e ∙ add-div_right (size - 1) positive)

-- they are enough
pub enough_pieces : (next size : ℕ) → 0 < next → size ≤ next * ((size + (next - 1)) / next)
enough_pieces next size some = omega arith

-- they are no more than its bytes
pub pieces_few : (size n : ℕ) → 0 < size → (size - 1) / n + 1 ≤ size
pieces_few size n some = omega (arith, div-le_self (size - 1) n, some)

-- what it is rounded up to is enough
pub up_enough : (size n : ℕ) → 0 < size → 0 < n → size ≤ up size n
up_enough size n some positive = omega (arith, enough_pieces n size positive)

-- Chunk sizes.

-- the next one's size suffices
pub grown_small : (next final size : ℕ) → size ≤ next → grown_chunk next final size ≡ next
grown_small next final size le = let test : nat_le size next ≡ true = grind (arith, nat_tests) in rw test refl

-- and where it does not, its product with a power of two
pub grown_large : (next final size : ℕ) → next < size → grown_chunk next final size ≡ min (next * next_power_of_two ((size + (next - 1)) / next)) final
grown_large next final size lt = let test : nat_le size next ≡ false = grind (arith, nat_tests) in rw test refl

-- a product that is cut at the largest number, and then at the largest chunk
pub cut_twice : (product final cut result : ℕ) → final ≤ 2 ^ 62 → cut ≡ min product 18446744073709551615 → result ≡ min cut final → result ≡ min product final
cut_twice product final cut result bound cut_is result_is = omega (arith, bound, cut_is, result_is)

-- It is the least of the products that are enough.

-- a product that holds the block has enough pieces
pieces_within : (next size n : ℕ) → 0 < next → size ≤ next * n → (size + (next - 1)) / next ≤ n
pieces_within next size n some enough = omega (arith, div_below (size + (next - 1)) next (n + 1) some (omega (arith, enough, some)))

-- what is in whole pieces holds a size in whole pieces exactly where it holds the size
pub up_within : (size n m : ℕ) → 0 < n → IsMultipleOf n m → nat_le (up size n) m ≡ nat_le size m
up_within size n m positive whole = elim (cases_lt m size) [
  | inl less ↦
      let enough = up_enough size n (omega (arith, less)) positive in
      let no : nat_le (up size n) m ≡ false = grind (arith, nat_tests) in
      let nor : nat_le size m ≡ false = grind (arith, nat_tests) in
      no ∙ sym nor
  | inr holds ↦
      let few = pieces_within n size whole.0 positive (omega (arith, holds, whole.1)) in
      let within : up size n ≤ m = omega (arith, mul-le-mul_right n few, whole.1) in
      let yes : nat_le (up size n) m ≡ true = grind (arith, nat_tests) in
      let also : nat_le size m ≡ true = grind (arith, nat_tests) in
      yes ∙ sym also
]

pub grown_is_least : (next final size : ℕ) → 0 < next → next ≤ final → final ≤ 2 ^ 62 → size ≤ final → IsLeastProduct next final size (grown_chunk next final size)
grown_is_least next final size some le bound fits = elim (cases_lt next size) [
  | inr small ↦ rw (grown_small next final size small) (record {
    enough = small;
    product = (0, omega (arith, le));
    least = λ k _. omega (arith, mul-le-mul_left next (pow_pos k));
  })
  | inl lt ↦
      let parts : ℕ = (size + (next - 1)) / next in
      let few : parts ≤ 2 ^ 64 = omega (arith, div-le_self (size + (next - 1)) next, le, fits, bound) in
      let power = is_next_power_of_two parts few in
      rw (grown_large next final size lt) (record {
        enough = omega (arith, enough_pieces next size some, mul-le-mul_left next power.enough, fits);
        product = (power.power.0, ap (λ p. min (next * p) final) power.power.1);
        least = λ k enough. omega (arith, mul-le-mul_left next (power.least k (pieces_within next size (2 ^ k) some enough)));
      })
]

-- of two such numbers none is greater
least_product_below : (next final size chunk other : ℕ) → IsLeastProduct next final size chunk → IsLeastProduct next final size other → chunk ≤ other
least_product_below next final size chunk other it that =
    let (k, is) = that.product in
    let (_, of) = it.product in
    omega (arith, is, of, it.least k (omega (arith, is, that.enough)))

pub least_product_only : (next final size chunk other : ℕ) → IsLeastProduct next final size chunk → IsLeastProduct next final size other → chunk ≡ other
least_product_only next final size chunk other it that =
    omega (arith, least_product_below next final size chunk other it that, least_product_below next final size other chunk that it)

-- Chunks are of whole atoms.

-- Alignments.

-- the greater of a mask and that of the atom
pub greater_mask : (mask atom : ℕ) → IsAlignMask mask → IsPowerUpTo 62 (atom + 1) → IsAlignMask (max mask atom)
greater_mask mask atom m power =
    let both = greater_power (mask + 1) (atom + 1) (power_of_bit (mask + 1) m.power) (power.0, power.1.1) in
    let e : max mask atom + 1 ≡ 2 ^ both.0 = omega (arith, both.1) in
    let least = pow-le power.0 62 power.1.0 in
    record { power = rw e (bit_of_power both.0); bound = omega (arith, m.bound, least, power.1.1) }

-- A chunk for a block that is as large as a chunk for a smaller one is that chunk.

-- Sizes of the first and the largest chunk, as they are set.

-- a size that is cut is of whole atoms
pub cut_whole : (heap atom size : ℕ) → IsMultipleOf atom (cut heap atom size)
cut_whole heap atom size = cases (down (min size (heap / 32)) atom == 0)
  where
    cases : (none : Bool) → IsMultipleOf atom (cond none atom (down (min size (heap / 32)) atom))
    cases true = (1, omega arith)
    cases false = (min size (heap / 32) / atom, refl)

-- whole atoms of more are more
down_more : (atom x y : ℕ) → 0 < atom → x ≤ y → down x atom ≤ down y atom
down_more atom x y some le = multiple_below y atom (down x atom) some (multiple_down x atom) (omega (arith, down_below x atom, le))

-- a greater size is cut to no less
pub cut_more : (heap atom size more : ℕ) → 0 < atom → size ≤ more → cut heap atom size ≤ cut heap atom more
cut_more heap atom size more some le =
    cases (down (min size (heap / 32)) atom) (min more (heap / 32) / atom) (down_more atom (min size (heap / 32)) (min more (heap / 32)) some (omega (arith, le)))
  where
    ap-le : (f : ℕ → ℕ) (x y : ℕ) → x ≡ y → f x ≤ f y
    ap-le f x y same = omega (arith, ap f same)

    some_left : (n : ℕ) → 0 < n → at_least_an_atom atom n ≡ n
    some_left n more = let test : (n == 0) ≡ false = grind (arith, nat_tests) in rw test refl

    within : (x n : ℕ) → x ≤ n → atom ≤ n → at_least_an_atom atom x ≤ n
    within x n le enough = elim (x == 0) as (λ b. cond b atom x ≤ n) [ true ↦ enough | false ↦ le ]

    cases : (x m : ℕ) → x ≤ m * atom → at_least_an_atom atom x ≤ at_least_an_atom atom (m * atom)
    cases x zero le = ap-le (λ n. at_least_an_atom atom n) x (zero * atom) (omega (arith, le))
    cases x (suc m) le =
        let all : at_least_an_atom atom (suc m * atom) ≡ suc m * atom = some_left (suc m * atom) (omega (arith, some)) in
        subst (λ n. at_least_an_atom atom x ≤ n) (sym all) (within x (suc m * atom) le (omega arith))

-- the first free-list chunk is no larger than the largest
pub starting_fits : (c : Config) (heap atom : ℕ) → 0 < atom → starting_size c heap atom ≤ final_size c heap atom
starting_fits c heap atom some = cut_more heap atom c.starting_free_list_chunk (max (max c.final_free_list_chunk c.starting_free_list_chunk) (transient_threshold c)) some (omega arith)
