-- Classes of lengths: there are 464, and a longer one has no lower class.
use Rattle.std.proofs.Common.{◌≡◌, inl, inr, ℕ, zero, suc, ◌+◌, ◌-◌, ◌*◌, ◌/◌, ◌%◌, ◌^◌, ◌<◌, ◌≤◌, cond, min, nat_lt, sym, ◌∙◌, ap, subst, refl, arith}
use Rattle.std.proofs.Math.Nat.{pow-le-pow_right}
use Rattle.std.proofs.lemmas.Bool.{cases_eq, cases_lt}
use Rattle.std.proofs.lemmas.Bool.Decides.{Decides-ltb}
use Rattle.std.proofs.lemmas.Nat.{div-add-mod', div-mul-add, div_below, le-div, leading_top, mod-mul-add, mod_below, mul-le, pow-add, pow_pos}
use Rattle.std.specs.Int.{leading_zeros, w64}
use Rattle.gpu_alloc_runs.specs.Classes.{class_of_bytes, last_class, least_grains}
use Rattle.gpu_alloc_runs.proofs.Tiles.{bit}

-- a choice by whether one number is less
less_first : (a b m n : ℕ) → a < b → cond (nat_lt a b) m n ≡ m
less_first a b m n less = ap (λ t. cond t m n) ((Decides-ltb a b).1 less)

else_second : (a b m n : ℕ) → b ≤ a → cond (nat_lt a b) m n ≡ n
else_second a b m n le = elim (bit (nat_lt a b)) [
  | inl yes' ↦ absurd (let less = (Decides-ltb a b).0 yes' in omega (arith, less, le))
  | inr no' ↦ ap (λ t. cond t m n) no'
]

-- The last class that begins with no more grains.

last_none : (grains : ℕ) → last_class zero grains ≡ 0
unfolding last_class
last_none grains = refl

last_earlier : (n grains : ℕ) → grains < least_grains (suc n) → last_class (suc n) grains ≡ last_class n grains
unfolding last_class
last_earlier n grains less = less_first grains (least_grains (suc n)) (last_class n grains) (suc n) less

last_here : (n grains : ℕ) → least_grains (suc n) ≤ grains → last_class (suc n) grains ≡ suc n
unfolding last_class
last_here n grains le = else_second grains (least_grains (suc n)) (last_class n grains) (suc n) le

last_most : (n grains : ℕ) → last_class n grains ≤ n
last_most zero grains = omega (arith, last_none grains)
last_most (suc n) grains = elim (cases_lt grains (least_grains (suc n))) [
  | inl less ↦ omega (arith, last_earlier n grains less, last_most n grains)
  | inr le ↦ omega (arith, last_here n grains le)
]

last_rises : (n a b : ℕ) → a ≤ b → last_class n a ≤ last_class n b
last_rises zero a b le = omega (arith, last_none a, last_none b)
last_rises (suc n) a b le = elim (cases_lt b (least_grains (suc n))) [
  | inl less ↦ omega (arith, last_earlier n a (omega (arith, le, less)), last_earlier n b less, last_rises n a b le)
  | inr from ↦ omega (arith, last_most (suc n) a, last_here n b from)
]

last_is : (n grains class : ℕ) → class ≤ n → least_grains class ≤ grains → ((c : ℕ) → class < c → grains < least_grains c) → last_class n grains ≡ class
last_is zero grains class le begins above = last_none grains ∙ omega (arith, le)
last_is (suc n) grains class le begins above = elim (cases_lt class (suc n)) [
  | inl less ↦ last_earlier n grains (above (suc n) less) ∙ last_is n grains class (omega (arith, less)) begins above
  | inr ge ↦
      let same : class ≡ suc n = omega (arith, le, ge) in
      last_here n grains (subst (λ c. least_grains c ≤ grains) same begins) ∙ sym same
]

pub class_below : (bytes : ℕ) → class_of_bytes bytes < 464
unfolding class_of_bytes
class_below bytes = let most = last_most 463 (bytes / 256) in omega (arith, most)

-- more is not divided into less
shares_rise : (a b k : ℕ) → 0 < k → a ≤ b → a / k ≤ b / k
shares_rise a b k some le = le-div (a / k) b k some (omega (arith, div-add-mod' a k, le))

pub class_rises : (a b : ℕ) → a ≤ b → class_of_bytes a ≤ class_of_bytes b
unfolding class_of_bytes
class_rises a b le = last_rises 463 (a / 256) (b / 256) (shares_rise a b 256 (omega arith) le)

-- Where classes begin.

least_low : (class : ℕ) → class < 64 → least_grains class ≡ class
least_low class low = less_first class 64 class ((8 + class % 8) * 2 ^ (class / 8 - 5)) low

least_high : (class : ℕ) → 64 ≤ class → least_grains class ≡ (8 + class % 8) * 2 ^ (class / 8 - 5)
least_high class high = else_second class 64 class ((8 + class % 8) * 2 ^ (class / 8 - 5)) high

least_from_64 : (class : ℕ) → 64 ≤ class → 64 ≤ least_grains class
least_from_64 class high =
    let eighth : 8 ≤ class / 8 = le-div 8 class 8 (omega arith) high in
    let power = pow-le-pow_right {n = 2} (omega arith) {i = 3} {j = class / 8 - 5} (omega (arith, eighth)) in
    let product = mul-le 8 8 (8 + class % 8) (2 ^ (class / 8 - 5)) (omega arith) (omega (arith, power)) in
    omega (arith, least_high class high, product)

-- a length has at least the grains with which its class begins
last_begins : (n grains : ℕ) → least_grains (last_class n grains) ≤ grains
last_begins zero grains = subst (λ c. least_grains c ≤ grains) (sym (last_none grains)) (omega (arith, least_low 0 (omega arith)))
last_begins (suc n) grains = elim (cases_lt grains (least_grains (suc n))) [
  | inl less ↦ subst (λ c. least_grains c ≤ grains) (sym (last_earlier n grains less)) (last_begins n grains)
  | inr from ↦ subst (λ c. least_grains c ≤ grains) (sym (last_here n grains from)) from
]

pub class_begins : (bytes : ℕ) → least_grains (class_of_bytes bytes) * 256 ≤ bytes
unfolding class_of_bytes
class_begins bytes = omega (arith, last_begins 463 (bytes / 256), div-add-mod' bytes 256)

-- all lengths from 2^64 - 1 bytes on are of the last class
last_of_all : (bytes : ℕ) → 2 ^ 64 - 1 ≤ bytes → class_of_bytes bytes ≡ 463
unfolding class_of_bytes
last_of_all bytes long =
    let grains : 2 ^ 56 - 1 ≤ bytes / 256 = le-div (2 ^ 56 - 1) bytes 256 (omega arith) (omega (arith, long)) in
    last_here 462 (bytes / 256) (omega (arith, least_high 463 (omega arith), grains))

pub class_capped : (bytes capped : ℕ) → capped ≡ min bytes (2 ^ 64 - 1) → class_of_bytes capped ≡ class_of_bytes bytes
class_capped bytes capped is = elim (cases_lt bytes (2 ^ 64)) [
  | inl less ↦ ap class_of_bytes (omega (arith, is, less))
  | inr long ↦ last_of_all capped (omega (arith, is, long)) ∙ sym (last_of_all bytes (omega (arith, long)))
]

-- The class of that many grains.

pub low_class : (grains : ℕ) → grains < 64 → last_class 463 grains ≡ grains
low_class grains low = last_is 463 grains grains (omega (arith, low)) (omega (arith, least_low grains low)) (λ c more. elim (cases_lt c 64) [
  | inl less ↦ omega (arith, least_low c less, more)
  | inr high ↦ omega (arith, least_from_64 c high, low)
])

-- how many low bits of that many grains a class leaves open: all but the first four
abbrev pub open_bits : ℕ → ℕ
open_bits grains = 60 - leading_zeros w64 grains

-- what is known of them from 64 grains on
pub record AreOpen (grains bits : ℕ) : Type 0 where
  pub some : 3 ≤ bits
  pub most : bits ≤ 52
  pub least : 8 ≤ grains / 2 ^ bits
  pub below : grains / 2 ^ bits < 16

pub are_open : (grains : ℕ) → 64 ≤ grains → grains < 2 ^ 56 → AreOpen grains (open_bits grains)
are_open grains high few =
    let t = leading_top 64 grains (omega (arith, high)) (omega (arith, few)) in
    let next : suc t.0 ≡ t.0 + 1 = omega arith in
    let six : 6 ≤ t.0 = (elim (cases_lt t.0 6) [
      | inl less ↦ absurd (let le = pow-le-pow_right {n = 2} (omega arith) {i = t.0 + 1} {j = 6} (omega (arith, less)) in let up = subst (λ n. grains < 2 ^ n) next t.3 in omega (arith, le, up, high))
      | inr le ↦ le
    ]) in
    let fifty_five : t.0 < 56 = (elim (cases_lt t.0 56) [
      | inl less ↦ less
      | inr le ↦ absurd (let power = pow-le-pow_right {n = 2} (omega arith) {i = 56} {j = t.0} le in omega (arith, power, t.2, few))
    ]) in
    let bits : open_bits grains + 3 ≡ t.0 = omega (arith, t.1, six) in
    let pos = pow_pos (open_bits grains) in
    let eight : 2 ^ t.0 ≡ 8 * 2 ^ open_bits grains = ap (λ n. 2 ^ n) (let e : t.0 ≡ 3 + open_bits grains = omega (arith, bits) in e) ∙ pow-add 2 3 (open_bits grains) in
    let sixteen : 2 ^ suc t.0 ≡ 16 * 2 ^ open_bits grains = ap (λ n. 2 ^ n) (let e : suc t.0 ≡ 4 + open_bits grains = omega (arith, bits) in e) ∙ pow-add 2 4 (open_bits grains) in
    record {
      some = omega (arith, bits, six);
      most = omega (arith, bits, fifty_five);
      least = le-div 8 grains (2 ^ open_bits grains) pos (omega (arith, t.2, eight));
      below = div_below grains (2 ^ open_bits grains) 16 pos (omega (arith, t.3, sixteen));
    }

module _ (grains bits : ℕ) (is : AreOpen grains bits) where
  abbrev class : ℕ
  class = 8 * bits + 32 + grains / 2 ^ bits

  -- its eighth and the rest
  place : class ≡ (bits + 5) * 8 + (grains / 2 ^ bits - 8)
  place = omega (arith, is.least)

  eighth : class / 8 ≡ bits + 5
  eighth = ap (λ n. n / 8) place ∙ div-mul-add (bits + 5) 8 (grains / 2 ^ bits - 8) (omega (arith, is.below))

  rest : class % 8 ≡ grains / 2 ^ bits - 8
  rest = ap (λ n. n % 8) place ∙ mod-mul-add (bits + 5) 8 (grains / 2 ^ bits - 8) (omega (arith, is.below))

  split : grains / 2 ^ bits * 2 ^ bits + grains % 2 ^ bits ≡ grains
  split = div-add-mod' grains (2 ^ bits)

  begins : least_grains class ≤ grains
  begins =
      let steps : 8 + class % 8 ≡ grains / 2 ^ bits = omega (arith, rest, is.least) in
      let power : class / 8 - 5 ≡ bits = omega (arith, eighth) in
      let least : least_grains class ≡ grains / 2 ^ bits * 2 ^ bits = least_high class (omega (arith, is.some, is.least)) ∙ (λ i. steps i * 2 ^ power i) in
      omega (arith, least, split)

  ends : (c : ℕ) → class < c → grains < least_grains c
  ends c more =
      let high : 64 ≤ c = omega (arith, more, is.some, is.least) in
      let parts = div-add-mod' c 8 in
      let low = mod_below c 8 (omega arith) in
      let left = mod_below grains (2 ^ bits) (pow_pos bits) in
      elim (cases_eq (c / 8) (bits + 5)) [
        | inl same ↦
            let power : 2 ^ (c / 8 - 5) ≡ 2 ^ bits = ap (λ n. 2 ^ n) (let e : c / 8 - 5 ≡ bits = omega (arith, same) in e) in
            let product = mul-le (grains / 2 ^ bits + 1) (2 ^ bits) (8 + c % 8) (2 ^ (c / 8 - 5)) (omega (arith, parts, same, more)) (omega (arith, power)) in
            omega (arith, least_high c high, product, split, left)
        | inr other ↦
            let later : bits + 1 ≤ c / 8 - 5 = omega (arith, parts, low, other, more, is.least) in
            let twice : 2 ^ (bits + 1) ≡ 2 ^ bits * 2 = pow-add 2 bits 1 in
            let power = pow-le-pow_right {n = 2} (omega arith) {i = bits + 1} {j = c / 8 - 5} later in
            let product = mul-le 8 (2 ^ (bits + 1)) (8 + c % 8) (2 ^ (c / 8 - 5)) (omega arith) power in
            let fifteen = mul-le (grains / 2 ^ bits) (2 ^ bits) 15 (2 ^ bits) (omega (arith, is.below)) (omega arith) in
            omega (arith, least_high c high, product, twice, split, left, fifteen)
      ]

  pub high_class : last_class 463 grains ≡ class
  high_class = last_is 463 grains class (omega (arith, is.most, is.below)) begins ends
