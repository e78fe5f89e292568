-- Ranges that rise, share no byte and cover all tile it.
use Rattle.std.proofs.Common.{◌≡◌, inl, inr, ℕ, suc, ◌+◌, ◌<◌, ◌≤◌, Bool, false, ◌==◌, List, [], ◌∷◌, get_or, ap, arith}
use Rattle.std.proofs.lemmas.Bool.{cases_lt}
use Rattle.std.proofs.lemmas.Bool.Decides.{nat_tests}
use Rattle.std.proofs.lemmas.Map.Keys.{IsDistinct-tail}
use Rattle.std.specs.List.{Contains, IsDistinct}
use Rattle.std.specs.List.Sorted.{IsNonDecreasingBy}
use Rattle.gpu_report.specs.Places.{Tile}
use Rattle.gpu_report.specs.declared.report.Place.{Place}
use Rattle.gpu_alloc_base.proofs.Lists.{contains_cases, contains_none, contains_head, contains_later, head_is_other}

abbrev pub offset_of : Place → ℕ
offset_of p = p.offset

-- both start at one byte
abbrev pub same_offset : Place → Place → Bool
same_offset p q = p.offset == q.offset

-- the place has a byte from here on, and ends there or before
pub record LiesBetween (at end : ℕ) (p : Place) : Type 0 where
  pub from : at ≤ p.offset
  pub some : 0 < p.size
  pub to : p.offset + p.size ≤ end

-- a place has the byte
pub record IsAt (ps : List Place) (x : ℕ) : Type 0 where
  pub place : Place
  pub has : Contains ps place
  pub from : place.offset ≤ x
  pub to : x < place.offset + place.size

-- What is known of an object's places: each lies between, none starts inside another, and each byte is at one.
pub record AreCovering (at end : ℕ) (ps : List Place) : Type 0 where
  pub between : (p : Place) → Contains ps p → LiesBetween at end p
  pub apart : (p q : Place) → Contains ps p → Contains ps q → p.offset < q.offset → p.offset + p.size ≤ q.offset
  pub covered : (x : ℕ) → at ≤ x → x < end → IsAt ps x

pub tile_from : (at end : ℕ) (ps : List Place) → at ≤ end → IsNonDecreasingBy offset_of ps → IsDistinct same_offset ps → AreCovering at end ps → Tile at end ps
tile_from at end [] le rising distinct are = elim (cases_lt at end) [
  | inl lt ↦ let never = are.covered at (omega arith) lt in absurd (contains_none never.place never.has)
  | inr ge ↦ omega arith
]
tile_from at end (p ∷ ps) le rising distinct are =
    let here = are.between p (contains_head p ps) in
    let not_later : (q : Place) → Contains ps q → p.offset < q.offset = λ q has. later q has in
    let first : p.offset ≡ at = starts here not_later in
    let ends : (q : Place) → Contains ps q → at + p.size ≤ q.offset = λ q has. let a = are.apart p q (contains_head p ps) (contains_later p q ps has) (not_later q has) in omega (arith, a, first) in (
      first,
      tile_from (at + p.size) end ps (omega (arith, here.to, first)) (λ i j d le lt. rising (suc i) (suc j) d (omega arith) (omega arith)) (IsDistinct-tail same_offset p ps distinct) (record {
        between = λ q has. let b = are.between q (contains_later p q ps has) in record { from = ends q has; some = b.some; to = b.to };
        apart = λ q r in_q in_r. are.apart q r (contains_later p q ps in_q) (contains_later p r ps in_r);
        covered = λ x low high. let found = are.covered x (omega arith) high in elim (contains_cases p found.place ps found.has) [
          | inl is ↦ let size : found.place.size ≡ p.size = ap (λ (z : Place). z.size) is in
              let offset : found.place.offset ≡ p.offset = ap (λ (z : Place). z.offset) is in
              absurd (omega (arith, found.to, size, offset, first, low))
          | inr later ↦ record { place = found.place; has = later; from = found.from; to = found.to }
        ];
      }),
    )
  where
    later : (q : Place) → Contains ps q → p.offset < q.offset
    later q (k, lt, e) =
        let up = rising 0 (suc k) q (omega arith) (omega arith) in
        let at_k : (get_or ps k q).offset ≡ q.offset = ap offset_of e in
        let other : same_offset p q ≡ false = head_is_other same_offset p q ps distinct (k, lt, e) in
        let differ : p.offset ≡ q.offset → ⊥ = λ same. grind (arith, nat_tests) in
        elim (cases_lt p.offset q.offset) [ inl less ↦ less | inr ge ↦ absurd (differ (omega (arith, up, at_k))) ]

    starts : LiesBetween at end p → ((q : Place) → Contains ps q → p.offset < q.offset) → p.offset ≡ at
    starts here later = elim (cases_lt at p.offset) [
      | inr ge ↦ omega (arith, here.from)
      | inl gap ↦ let found = are.covered at (omega arith) (omega (arith, here.to, here.some)) in elim (contains_cases p found.place ps found.has) [
        | inl is ↦ let offset : found.place.offset ≡ p.offset = ap offset_of is in absurd (omega (arith, found.from, offset))
        | inr has ↦ let after = later found.place has in absurd (omega (arith, found.from, after))
      ]
    ]
