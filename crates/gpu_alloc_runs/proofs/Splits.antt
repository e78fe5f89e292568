-- A tile is cut in two, of which one is free.
use Rattle.std.proofs.Common.{◌≡◌, ◌≢◌, inl, inr, ◌⊎◌, ℕ, ◌<◌, ◌≤◌, true, false, Option, Some, None, refl, sym, ◌∙◌, ap, subst, arith}
use Rattle.std.proofs.lemmas.Bool.{cases_lt, cases_eq}
use Rattle.gpu_alloc_runs.specs.Links.{AreLinked}
use Rattle.gpu_alloc_runs.specs.Tiles.{AreNeighbours, IsCalm, IsFreeRight, IsTiled}
use Rattle.gpu_alloc_runs.specs.declared.tile.Tile.{Tile}
use Rattle.gpu_alloc_runs.proofs.Tiles.{IsJoint, Splits, not_both, one_tile}

-- A tile is cut in two: p and then q, of which one stays under x and the other is new under y.

module _ (chunks : ℕ → ℕ) (T T' : ℕ → Option Tile) (x y l r : ℕ) (p q n o m : Tile) (tiled : IsTiled chunks T) (at : T x ≡ Some m) (splits : Splits T T' x y n o) (joint : IsJoint p q m)
    (some_p : p.start < p.end) (some_q : q.start < q.end) (at_l : T' l ≡ Some p) (at_r : T' r ≡ Some q) (which : ((l ≡ x) × (r ≡ y)) ⊎ ((l ≡ y) × (r ≡ x))) where
  came_cut : (k : ℕ) (c : Tile) → T' k ≡ Some c → ((k ≡ l) × (c ≡ p)) ⊎ (((k ≡ r) × (c ≡ q)) ⊎ ((k ≢ x) × (k ≢ y) × (T k ≡ Some c)))
  came_cut k c is = elim (cases_eq k l) [
    | inl here ↦ inl (here, one_tile T' k l c p is at_l here)
    | inr ne_l ↦ elim (cases_eq k r) [
      | inl here ↦ inr (inl (here, one_tile T' k r c q is at_r here))
      | inr ne_r ↦
          let ne : (k ≢ x) × (k ≢ y) = elim which [
            | inl w ↦ ((λ e. ne_l (e ∙ sym w.0)), (λ e. ne_r (e ∙ sym w.1)))
            | inr w ↦ ((λ e. ne_r (e ∙ sym w.1)), (λ e. ne_l (e ∙ sym w.0)))
          ] in
          inr (inr (ne.0, ne.1, sym (splits.others k ne.0 ne.1) ∙ is))
    ]
  ]

  -- what stays has no byte in common with m
  clear : (k : ℕ) (c : Tile) → k ≢ x → T k ≡ Some c → c.chunk ≡ m.chunk → c.start < m.end → m.start < c.end → ⊥
  clear k c ne is chunk lt gt = ne (tiled.apart k x c m is at chunk lt gt)

  in_p : (c : Tile) → c ≡ p → (c.chunk ≡ m.chunk) × (c.start ≡ m.start) × (c.end ≡ p.end)
  in_p c e = (ap (λ (t : Tile). t.chunk) e ∙ sym joint.in_chunk, ap (λ (t : Tile). t.start) e ∙ sym joint.start, ap (λ (t : Tile). t.end) e)

  in_q : (c : Tile) → c ≡ q → (c.chunk ≡ m.chunk) × (c.start ≡ p.end) × (c.end ≡ m.end)
  in_q c e = (ap (λ (t : Tile). t.chunk) e ∙ sym joint.chunk ∙ sym joint.in_chunk, ap (λ (t : Tile). t.start) e ∙ sym joint.meet, ap (λ (t : Tile). t.end) e ∙ sym joint.end)

  some_p' : m.start < p.end
  some_p' = omega (arith, some_p, joint.start)

  some_q' : p.end < m.end
  some_q' = omega (arith, some_q, joint.meet, joint.end)

  pub cut_tiled : IsTiled chunks T'
  cut_tiled = record {
    nonempty = λ k c is. elim (came_cut k c is) [
      | inl a ↦ let f = in_p c a.1 in omega (arith, some_p', f.1, f.2)
      | inr b ↦ elim b [
        | inl a ↦ let f = in_q c a.1 in omega (arith, some_q', f.1, f.2)
        | inr a ↦ tiled.nonempty k c a.2
      ]
    ];
    inside = λ k c is.
        let most = tiled.inside x m at in
        elim (came_cut k c is) [
          | inl a ↦ let f = in_p c a.1 in let le : c.end ≤ chunks m.chunk = omega (arith, most, some_q', f.2) in subst (λ z. c.end ≤ chunks z) (sym f.0) le
          | inr b ↦ elim b [
            | inl a ↦ let f = in_q c a.1 in let le : c.end ≤ chunks m.chunk = omega (arith, most, f.2) in subst (λ z. c.end ≤ chunks z) (sym f.0) le
            | inr a ↦ tiled.inside k c a.2
          ]
        ];
    apart = λ j k c d is_c is_d chunk lt gt. elim (came_cut j c is_c) [
      | inl a ↦ let f = in_p c a.1 in elim (came_cut k d is_d) [
        | inl b ↦ a.0 ∙ sym b.0
        | inr b' ↦ elim b' [
          | inl b ↦ let h = in_q d b.1 in absurd (omega (arith, gt, f.2, h.1))
          | inr b ↦ absurd (clear k d b.0 b.2 (sym chunk ∙ f.0) (omega (arith, gt, f.2, some_q')) (omega (arith, lt, f.1)))
        ]
      ]
      | inr a' ↦ elim a' [
        | inl a ↦ let f = in_q c a.1 in elim (came_cut k d is_d) [
          | inl b ↦ let h = in_p d b.1 in absurd (omega (arith, lt, f.1, h.2))
          | inr b' ↦ elim b' [
            | inl b ↦ a.0 ∙ sym b.0
            | inr b ↦ absurd (clear k d b.0 b.2 (sym chunk ∙ f.0) (omega (arith, gt, f.2)) (omega (arith, lt, f.1, some_p')))
          ]
        ]
        | inr a ↦ elim (came_cut k d is_d) [
          | inl b ↦ let h = in_p d b.1 in absurd (clear j c a.0 a.2 (chunk ∙ h.0) (omega (arith, lt, h.2, some_q')) (omega (arith, gt, h.1)))
          | inr b' ↦ elim b' [
            | inl b ↦ let h = in_q d b.1 in absurd (clear j c a.0 a.2 (chunk ∙ h.0) (omega (arith, lt, h.2)) (omega (arith, gt, h.1, some_p')))
            | inr b ↦ tiled.apart j k c d a.2 b.2 chunk lt gt
          ]
        ]
      ]
    ];
    covers = λ chunk at' lt.
        let c = tiled.covers chunk at' lt in
        elim (cases_eq c.0 x) [
          | inl here ↦
              let e = one_tile T c.0 x c.1 m c.2.0 at here in
              let of_m : m.chunk ≡ chunk = sym (ap (λ (t : Tile). t.chunk) e) ∙ c.2.1.0 in
              let f = in_p p refl in
              let h = in_q q refl in
              elim (cases_lt at' p.end) [
                | inl left ↦ (l, p, (at_l, (f.0 ∙ of_m, (omega (arith, f.1, c.2.1.1.0, ap (λ (t : Tile). t.start) e), left))))
                | inr right ↦ (r, q, (at_r, (h.0 ∙ of_m, (omega (arith, h.1, right), omega (arith, h.2, c.2.1.1.1, ap (λ (t : Tile). t.end) e)))))
              ]
          | inr ne ↦
              let ne_y : c.0 ≢ y = λ e. (let none : None ≡ Some c.1 = sym splits.fresh ∙ sym (ap T e) ∙ c.2.0 in cc) in
              (c.0, c.1, (splits.others c.0 ne ne_y ∙ c.2.0, c.2.1))
        ];
  }

  -- the tile that ends where q starts is p's, and the one that starts where p ends is q's
  pub ends_there : (k : ℕ) (c : Tile) → T' k ≡ Some c → c.chunk ≡ q.chunk → c.end ≡ q.start → k ≡ l
  ends_there k c is chunk meet =
      let some = cut_tiled.nonempty k c is in
      cut_tiled.apart k l c p is at_l (chunk ∙ sym joint.chunk) (omega (arith, some, meet, joint.meet)) (omega (arith, some_p, meet, joint.meet))

  pub starts_there : (k : ℕ) (c : Tile) → T' k ≡ Some c → c.chunk ≡ p.chunk → p.end ≡ c.start → k ≡ r
  starts_there k c is chunk meet =
      let some = cut_tiled.nonempty k c is in
      cut_tiled.apart k r c q is at_r (chunk ∙ joint.chunk) (omega (arith, some_q, meet, joint.meet)) (omega (arith, some, meet, joint.meet))

  -- keys of neighbours stay true
  pub split_linked : (before after before' after' : ℕ → ℕ) → AreLinked T before after → after' l ≡ r → before' r ≡ l
      → ((j : ℕ) (a : Tile) → T j ≡ Some a → AreNeighbours a m → (after' j ≡ l) × (before' l ≡ j))
      → ((k : ℕ) (b : Tile) → T k ≡ Some b → AreNeighbours m b → (after' r ≡ k) × (before' k ≡ r))
      → ((j k : ℕ) (a b : Tile) → j ≢ x → k ≢ x → T j ≡ Some a → T k ≡ Some b → AreNeighbours a b → (after' j ≡ after j) × (before' k ≡ before k))
      → AreLinked T' before' after'
  split_linked before after before' after' linked l_r r_l first last others j k a b is_a is_b near = elim (came_cut j a is_a) [
    | inl new_a ↦ both (new_a.0) (starts_there k b is_b (sym near.chunk ∙ ap (λ (t : Tile). t.chunk) new_a.1) (sym (ap (λ (t : Tile). t.end) new_a.1) ∙ near.meet))
    | inr rest_a ↦ elim (came_cut k b is_b) [
      | inl new_b ↦ elim rest_a [
        | inl new_a ↦ absurd (omega (arith, near.meet, (in_q a new_a.1).2, (in_p b new_b.1).1, some_p', some_q'))
        | inr was_a ↦
            let f = in_p b new_b.1 in
            let keys = first j a was_a.2 (record { chunk = near.chunk ∙ f.0; meet = near.meet ∙ f.1 }) in
            (keys.0 ∙ sym new_b.0, ap before' new_b.0 ∙ keys.1)
      ]
      | inr rest_b ↦ elim rest_b [
        | inl new_b ↦ both (ends_there j a is_a (near.chunk ∙ ap (λ (t : Tile). t.chunk) new_b.1) (near.meet ∙ ap (λ (t : Tile). t.start) new_b.1)) new_b.0
        | inr was_b ↦ elim rest_a [
          | inl new_a ↦
              let f = in_q a new_a.1 in
              let keys = last k b was_b.2 (record { chunk = sym f.0 ∙ near.chunk; meet = sym f.2 ∙ near.meet }) in
              (ap after' new_a.0 ∙ keys.0, keys.1 ∙ sym new_a.0)
          | inr was_a ↦
              let same = others j k a b was_a.0 was_b.0 was_a.2 was_b.2 near in
              let was = linked j k a b was_a.2 was_b.2 near in
              (same.0 ∙ was.0, same.1 ∙ was.1)
        ]
      ]
    ]
  ]
    where
      both : j ≡ l → k ≡ r → (after' j ≡ k) × (before' k ≡ j)
      both at_j at_k = (ap after' at_j ∙ l_r ∙ sym at_k, ap before' at_k ∙ r_l ∙ sym at_j)

-- of a live tile and another, a free tile is the other, or is neither and was there
free_one : (T T' : ℕ → Option Tile) (x y : ℕ) (n o : Tile) → T' x ≡ Some n → T' y ≡ Some o → o.free ≡ false → ((k : ℕ) → k ≢ x → k ≢ y → T' k ≡ T k) → (k : ℕ) (c : Tile) → T' k ≡ Some c → c.free ≡ true → ((k ≡ x) × (c ≡ n)) ⊎ ((k ≢ x) × (T k ≡ Some c))
free_one T T' x y n o at_x at_y live others k c is c_free = elim (cases_eq k x) [
  | inl here ↦ inl (here, one_tile T' k x c n is at_x here)
  | inr ne_x ↦ elim (cases_eq k y) [
    | inl here ↦ absurd (not_both c o (one_tile T' k y c o is at_y here) c_free live)
    | inr ne_y ↦ inr (ne_x, sym (others k ne_x ne_y) ∙ is)
  ]
]

-- The rest of a live tile is live, and what is cut off is free: o, which no free tile touches.
module _ (chunks : ℕ → ℕ) (T T' : ℕ → Option Tile) (x y : ℕ) (n o m : Tile) (tiled : IsTiled chunks T) (calm : IsCalm T) (at : T x ≡ Some m) (live : n.free ≡ false) (o_free : o.free ≡ true) (splits : Splits T T' x y n o)
    (some_n : n.start < n.end) (some_o : o.start < o.end) where
  -- a free tile is the new one, or was one
  free_came : (k : ℕ) (c : Tile) → T' k ≡ Some c → c.free ≡ true → ((k ≡ y) × (c ≡ o)) ⊎ ((k ≢ y) × (T k ≡ Some c))
  free_came = free_one T T' y x o n splits.new splits.rest live (λ k ne_y ne_x. splits.others k ne_x ne_y)

  module _ (joint : IsJoint n o m) where
    pub back_calm : IsFreeRight x T → IsCalm T'
    back_calm right j k c d is_c is_d both = elim (free_came k d is_d both.right) [
      | inl a ↦
          let same = ends_there chunks T T' x y x y n o n o m tiled at splits joint some_n some_o splits.rest splits.new (inl (refl, refl)) j c is_c
          (both.chunk ∙ ap (λ (t : Tile). t.chunk) a.1) (both.meet ∙ ap (λ (t : Tile). t.start) a.1) in
          not_both c n (one_tile T' j x c n is_c splits.rest same) both.left live
      | inr a ↦ elim (free_came j c is_c both.left) [
        | inl b ↦ right k d m a.1 both.right at (record { chunk = joint.in_chunk ∙ joint.chunk ∙ sym (ap (λ (t : Tile). t.chunk) b.1) ∙ both.chunk; meet = joint.end ∙ sym (ap (λ (t : Tile). t.end) b.1) ∙ both.meet })
        | inr b ↦ calm j k c d b.1 a.1 both
      ]
    ]

-- The end of a free tile becomes a live one: o, under y. The front of it stays free: n, under x.
module _ (chunks : ℕ → ℕ) (T T' : ℕ → Option Tile) (x y : ℕ) (n o m : Tile) (tiled : IsTiled chunks T) (calm : IsCalm T) (at : T x ≡ Some m) (free : m.free ≡ true) (n_free : n.free ≡ true) (live : o.free ≡ false) (splits : Splits T T' x y n o)
    (some_n : n.start < n.end) (some_o : o.start < o.end) (joint : IsJoint n o m) where
  -- a free tile is the front, or was one
  free_end : (k : ℕ) (c : Tile) → T' k ≡ Some c → c.free ≡ true → ((k ≡ x) × (c ≡ n)) ⊎ ((k ≢ x) × (T k ≡ Some c))
  free_end = free_one T T' x y n o splits.rest splits.new live splits.others

  pub calm_end : IsCalm T'
  calm_end j k c d is_c is_d both = elim (free_end j c is_c both.left) [
    | inl a ↦ elim (free_end k d is_d both.right) [
      | inl b ↦ omega (arith, both.meet, ap (λ (t : Tile). t.end) a.1, ap (λ (t : Tile). t.start) b.1, some_n)
      | inr b ↦
          let some = tiled.nonempty k d b.1 in
          b.0 (tiled.apart k x d m b.1 at (sym both.chunk ∙ ap (λ (t : Tile). t.chunk) a.1 ∙ sym joint.in_chunk)
          (omega (arith, both.meet, ap (λ (t : Tile). t.end) a.1, joint.meet, joint.end, some_o)) (omega (arith, both.meet, ap (λ (t : Tile). t.end) a.1, joint.start, some_n, some)))
    ]
    | inr a ↦ elim (free_end k d is_d both.right) [
      | inl b ↦ calm j x c m a.1 at (record { chunk = both.chunk ∙ ap (λ (t : Tile). t.chunk) b.1 ∙ sym joint.in_chunk; meet = both.meet ∙ ap (λ (t : Tile). t.start) b.1 ∙ sym joint.start; left = both.left; right = free })
      | inr b ↦ calm j k c d a.1 b.1 both
    ]
  ]

  pub right_end : IsFreeRight y T'
  right_end k c z is_c c_free is_z near =
      let e = one_tile T' y y z o is_z splits.new refl in
      elim (free_end k c is_c c_free) [
        | inl a ↦ omega (arith, near.meet, ap (λ (t : Tile). t.end) e, ap (λ (t : Tile). t.start) a.1, some_n, some_o, joint.meet)
        | inr a ↦ calm x k m c at a.1 (record { chunk = joint.in_chunk ∙ joint.chunk ∙ sym (ap (λ (t : Tile). t.chunk) e) ∙ near.chunk; meet = joint.end ∙ sym (ap (λ (t : Tile). t.end) e) ∙ near.meet; left = free; right = c_free })
      ]
