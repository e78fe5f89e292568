-- Each free byte lies in a longest free range, where each byte of its object can be tested.
use Rattle.std.proofs.Common.{◌≡◌, ◌⊎◌, inl, inr, ℕ, zero, suc, ◌+◌, ◌*◌, ◌-◌, ◌^◌, ◌<◌, ◌≤◌, refl, ◌∙◌, ap, subst, arith}
use Rattle.std.proofs.lemmas.Nat.{pow_pos}
use Rattle.std.proofs.lemmas.Bool.{cases_lt}
use Rattle.std.proofs.Math.Nat.{pow-succ'}
use Rattle.gpu_alloc_base.specs.FreeRuns.{IsFreeRun}
use Rattle.gpu_alloc_base.specs.FreeSpace.{IsIn, IsMultipleOf, IsFreeRange, IsFreePiece}
use Rattle.gpu_alloc_base.specs.Sizes.{down}
use Rattle.gpu_alloc_base.proofs.AlignedPowers.{lies_in, pow-le}
use Rattle.gpu_alloc_base.proofs.Multiples.{down_below, multiple_down}

-- among the first n bytes, the first that fails a test, or none does
module _ (P : ℕ → Type 0) (test : (x : ℕ) → P x ⊎ (P x → ⊥)) where
  record Fails (start length : ℕ) : Type 0 where
    at : ℕ
    inside : IsIn start length at
    fails : P at → ⊥

  all_or_one : (start length : ℕ) → ((x : ℕ) → IsIn start length x → P x) ⊎ Fails start length
  all_or_one start zero = inl (λ x i. absurd (omega (arith, i.from, i.to)))
  all_or_one start (suc n) = elim (all_or_one start n) [
    | inr one ↦ inr (record { at = one.at; inside = record { from = one.inside.from; to = omega (arith, one.inside.to) }; fails = one.fails })
    | inl all ↦ elim (test (start + n)) [
      | inl last ↦ inl (λ x i. elim (cases_lt x (start + n)) [
        | inl lt ↦ all x (record { from = i.from; to = lt })
        | inr ge ↦ let e : start + n ≡ x = omega (arith, i.to) in subst P e last
      ])
      | inr fails ↦ inr (record { at = start + n; inside = record { from = omega arith; to = omega arith }; fails = fails })
    ]
  ]

module _ (F : ℕ → ℕ → Type 0) (object : ℕ) (test : (x : ℕ) → F object x ⊎ (F object x → ⊥)) (end : ℕ) (ends : (x : ℕ) → F object x → x < end) where
  -- Runs.

  -- how far down from a byte all are free
  record IsFirstStore (at first : ℕ) : Type 0 where
    le : first ≤ at
    free : (x : ℕ) → first ≤ x → x ≤ at → F object x
    stops : (x : ℕ) → x + 1 ≡ first → F object x → ⊥

  first_of : (at : ℕ) → F object at → (first : ℕ) × IsFirstStore at first
  first_of zero free = (0, record { le = omega arith; free = λ x low high. let e : 0 ≡ x = omega arith in subst (F object) e free; stops = λ x e. absurd (omega (arith, e)) })
  first_of (suc k) free = elim (test k) [
    | inl more ↦ let below = first_of k more in (
      below.0,
      record {
        le = omega (arith, below.1.le);
        free = λ x low high. elim (cases_lt x (suc k)) [ inl lt ↦ below.1.free x low (omega arith) | inr ge ↦ let e : suc k ≡ x = omega arith in subst (F object) e free ];
        stops = below.1.stops;
      },
    )
    | inr fails ↦ (
      suc k,
      record {
        le = omega arith;
        free = λ x low high. let e : suc k ≡ x = omega arith in subst (F object) e free;
        stops = λ x e is. let same : x ≡ k = omega (arith, e) in fails (subst (F object) same is);
      },
    )
  ]

  -- and how far up
  record IsPast (at past : ℕ) : Type 0 where
    lt : at < past
    free : (x : ℕ) → at ≤ x → x < past → F object x
    stops : F object past → ⊥

  past_of : (left at : ℕ) → at + left ≡ end → F object at → (past : ℕ) × IsPast at past
  past_of zero at all free = absurd (omega (arith, all, ends at free))
  past_of (suc n) at all free = elim (test (at + 1)) [
    | inl more ↦ let above = past_of n (at + 1) (omega (arith, all)) more in (
      above.0,
      record {
        lt = omega (arith, above.1.lt);
        free = λ x low high. elim (cases_lt at x) [ inl lt ↦ above.1.free x (omega arith) high | inr ge ↦ let e : at ≡ x = omega arith in subst (F object) e free ];
        stops = above.1.stops;
      },
    )
    | inr fails ↦ (at + 1, record { lt = omega arith; free = λ x low high. let e : at ≡ x = omega arith in subst (F object) e free; stops = fails })
  ]

  -- A run around a free byte.
  pub record RunAround (at : ℕ) : Type 0 where
    pub start : ℕ
    pub past : ℕ
    pub run : IsFreeRun F object start past
    pub from : start ≤ at
    pub to : at < past

  pub run_around : (at : ℕ) → F object at → RunAround at
  run_around at free =
      let below = first_of at free in
      let le = ends at free in
      let above = past_of (end - at) at (omega arith) free in
      record {
        start = below.0;
        past = above.0;
        from = below.1.le;
        to = above.1.lt;
        run = record {
          nonempty = omega (arith, below.1.le, above.1.lt);
          free = λ x low high. elim (cases_lt x at) [ inl lt ↦ below.1.free x low (omega arith) | inr ge ↦ above.1.free x ge high ];
          longest = λ start' end' all before after. (
            elim (cases_lt start' below.0) [
              | inl lt ↦ absurd (below.1.stops (below.0 - 1) (omega arith) (all (below.0 - 1) (omega arith) (omega (arith, below.1.le, above.1.lt))))
              | inr ge ↦ omega arith
            ],
            elim (cases_lt above.0 end') [
              | inl lt ↦ absurd (above.1.stops (all above.0 (omega (arith, below.1.le, above.1.lt)) lt))
              | inr ge ↦ omega arith
            ],
          );
        };
      }

  -- Pieces.

  -- the aligned range of an order around a byte
  module _ (at : ℕ) (free : F object at) where
    around_at : (k : ℕ) → IsIn (down at (2 ^ k)) (2 ^ k) at
    around_at k = let some = pow_pos k in record { from = down_below at (2 ^ k); to = omega (arith, some) }

    AllFree : ℕ → Type 0
    AllFree k = IsFreeRange F object (down at (2 ^ k)) (2 ^ k)

    -- the greatest order of which all is free, below one from which on that is never so
    greatest : (k : ℕ) → ((j : ℕ) → k < j → AllFree j → ⊥) → (i : ℕ) × AllFree i × ((j : ℕ) → i < j → AllFree j → ⊥)
    unfolding AllFree
    greatest zero above = (0, (λ x i. let one = around_at 0 in let e : at ≡ x = omega (arith, i.from, i.to, one.from, one.to) in subst (F object) e free), above)
    greatest (suc k) above = elim (all_or_one (F object) test (down at (2 ^ suc k)) (2 ^ suc k)) [
      | inl all ↦ (suc k, all, above)
      | inr one ↦ greatest k (λ j lt all. elim (cases_lt (suc k) j) [
        | inl more ↦ above j more all
        | inr same ↦ let e : j ≡ suc k = omega arith in one.fails (subst AllFree e all one.at one.inside)
      ])
    ]

    -- an order past the object's end
    too_long : (j : ℕ) → end < j → AllFree j → ⊥
    unfolding AllFree
    too_long j lt all =
        let some = pow_pos j in
        let more = less_than_power j in
        let last = down at (2 ^ j) + 2 ^ j - 1 in
        let inside = ends last (all last (record { from = omega arith; to = omega arith })) in
        omega (arith, inside, more)
      where
        less_than_power : (n : ℕ) → n < 2 ^ n
        less_than_power zero = omega arith
        less_than_power (suc n) = omega (arith, less_than_power n, pow-succ' 2 n)

    pub record PieceAround : Type 0 where
      pub start : ℕ
      pub length : ℕ
      pub piece : IsFreePiece F object start length
      pub inside : IsIn start length at

    pub piece_around : PieceAround
    unfolding AllFree
    piece_around =
        let g = greatest end too_long in
        let i : ℕ = g.0 in
        record {
          start = down at (2 ^ i);
          length = 2 ^ i;
          inside = around_at i;
          piece = record {
            place = record { power = (i, refl); aligned = multiple_down at (2 ^ i); free = g.1 };
            longest = λ start' length' place before after.
                let j : ℕ = place.power.0 in
                let e : length' ≡ 2 ^ j = place.power.1 in
                let here = around_at i in
                let aligned : IsMultipleOf (2 ^ j) start' = (place.aligned.0, place.aligned.1 ∙ ap (λ n. place.aligned.0 * n) e) in
                let in_it : IsIn start' (2 ^ j) at = record { from = omega (arith, here.from); to = omega (arith, here.to, e) } in
                let same = same_range j start' aligned in_it in
                elim (cases_lt i j) [
                  | inl lt ↦ absurd (g.2 j lt (λ x inside. place.free x (record { from = omega (arith, inside.from, same); to = omega (arith, inside.to, same, e) })))
                  | inr le ↦ omega (arith, pow-le j i le, e)
                ];
          };
        }
      where
        -- two aligned ranges of one length around a byte are one
        same_range : (j start' : ℕ) → IsMultipleOf (2 ^ j) start' → IsIn start' (2 ^ j) at → start' ≡ down at (2 ^ j)
        same_range j start' aligned inside =
            let there = multiple_down at (2 ^ j) in
            let one = lies_in start' j (down at (2 ^ j)) j at aligned there (omega arith) inside (around_at j) in
            let two = lies_in (down at (2 ^ j)) j start' j at there aligned (omega arith) (around_at j) inside in
            omega (arith, one.0, two.0)
