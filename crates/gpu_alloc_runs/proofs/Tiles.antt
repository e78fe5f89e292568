-- Tiles: which is which, where one came from, and what stays as one is freed or joined with another.
use Rattle.std.proofs.Common.{◌≡◌, ◌≢◌, ◌⊎◌, inl, inr, ℕ, ◌-◌, ◌<◌, ◌≤◌, Bool, true, false, Option, Some, None, refl, sym, ◌∙◌, ap, subst, arith}
use Rattle.std.proofs.lemmas.Bool.{cases_lt, cases_eq}
use Rattle.gpu_alloc_runs.specs.Tiles.{AreFreeNeighbours, IsCalm, IsCalmBut, IsFirst, IsLiveAt, IsTiled, KeepsLive, Sets}
use Rattle.gpu_alloc_runs.specs.declared.tile.Tile.{Tile}

-- one key has one tile
pub one_tile : (T : ℕ → Option Tile) (j k : ℕ) (a b : Tile) → T j ≡ Some a → T k ≡ Some b → j ≡ k → a ≡ b
one_tile T j k a b at_j at_k same = let e : Some a ≡ Some b = sym at_j ∙ ap T same ∙ at_k in cc

-- a tile is not both
pub not_both : (a b : Tile) → a ≡ b → a.free ≡ true → b.free ≡ false → ⊥
not_both a b same is_free is_live = let e : true ≡ false = sym is_free ∙ ap (λ (t : Tile). t.free) same ∙ is_live in cc

pub bit : (b : Bool) → (b ≡ true) ⊎ (b ≡ false)
bit true = inl refl
bit false = inr refl

-- no free tile starts where the one of this key ends
abbrev pub IsLast : ℕ → (ℕ → Option Tile) → Type 0
IsLast x T = (k : ℕ) (c a : Tile) → T k ≡ Some c → T x ≡ Some a → AreFreeNeighbours a c → ⊥

-- one tile grows by another, which goes
pub record Absorbs (T T' : ℕ → Option Tile) (x y : ℕ) (m : Tile) : Type 0 where
  pub grown : T' x ≡ Some m
  pub gone : T' y ≡ None
  pub others : (k : ℕ) → k ≢ x → k ≢ y → T' k ≡ T k

-- one tile becomes two
pub record Splits (T T' : ℕ → Option Tile) (x y : ℕ) (q p : Tile) : Type 0 where
  pub rest : T' x ≡ Some q
  pub new : T' y ≡ Some p
  pub fresh : T y ≡ None
  pub others : (k : ℕ) → k ≢ x → k ≢ y → T' k ≡ T k

-- m is the one and then the other
pub record IsJoint (a b m : Tile) : Type 0 where
  pub chunk : a.chunk ≡ b.chunk
  pub meet : a.end ≡ b.start
  pub in_chunk : m.chunk ≡ a.chunk
  pub start : m.start ≡ a.start
  pub end : m.end ≡ b.end

-- Where a tile came from.

pub came : (T T' : ℕ → Option Tile) (x : ℕ) (m : Tile) → Sets T T' x (Some m) → (k : ℕ) (c : Tile) → T' k ≡ Some c → ((k ≡ x) × (c ≡ m)) ⊎ ((k ≢ x) × (T k ≡ Some c))
came T T' x m sets k c at = elim (cases_eq k x) [
  | inl here ↦ inl (here, one_tile T' k x c m at sets.changed here)
  | inr other ↦ inr (other, sym (sets.others k other) ∙ at)
]

pub came_joint : (T T' : ℕ → Option Tile) (x y : ℕ) (m : Tile) → Absorbs T T' x y m → (k : ℕ) (c : Tile) → T' k ≡ Some c
    → ((k ≡ x) × (c ≡ m)) ⊎ ((k ≢ x) × (k ≢ y) × (T k ≡ Some c))
came_joint T T' x y m absorbs k c at = elim (cases_eq k x) [
  | inl here ↦ inl (here, one_tile T' k x c m at absorbs.grown here)
  | inr other ↦ elim (cases_eq k y) [
    | inl gone ↦ absurd (let e : None ≡ Some c = sym absorbs.gone ∙ ap T' (sym gone) ∙ at in cc)
    | inr neither ↦ inr (other, neither, sym (absorbs.others k other neither) ∙ at)
  ]
]

-- A tile of the same bytes stands for another.

pub record IsSamePlace (a b : Tile) : Type 0 where
  pub chunk : a.chunk ≡ b.chunk
  pub start : a.start ≡ b.start
  pub end : a.end ≡ b.end

pub retiled : (size : ℕ → ℕ) (T T' : ℕ → Option Tile) (x : ℕ) (a b : Tile) → IsTiled size T → T x ≡ Some a → IsSamePlace a b → Sets T T' x (Some b) → IsTiled size T'
retiled size T T' x a b tiled at same sets = record {
  nonempty = λ k c is. let o = old k c is in omega (arith, tiled.nonempty k o.0 o.1, o.2.start, o.2.end);
  inside = λ k c is. let o = old k c is in let le = tiled.inside k o.0 o.1 in subst (λ n. c.end ≤ size n) o.2.chunk (omega (arith, le, o.2.end));
  apart = λ j k c d is_c is_d chunk lt gt.
      let o = old j c is_c in
      let p = old k d is_d in
      tiled.apart j k o.0 p.0 o.1 p.1 (o.2.chunk ∙ chunk ∙ sym p.2.chunk) (omega (arith, lt, o.2.start, p.2.end)) (omega (arith, gt, p.2.start, o.2.end));
  covers = λ chunk at' lt.
      let c = tiled.covers chunk at' lt in
      elim (cases_eq c.0 x) [
        | inl here ↦
            let e = one_tile T c.0 x c.1 a c.2.0 at here in (
              x,
              b,
              (
                sets.changed,
                (
                  sym same.chunk ∙ sym (ap (λ (t : Tile). t.chunk) e) ∙ c.2.1.0,
                  (omega (arith, c.2.1.1.0, ap (λ (t : Tile). t.start) e, same.start), omega (arith, c.2.1.1.1, ap (λ (t : Tile). t.end) e, same.end)),
                ),
              ),
            )
        | inr other ↦ (c.0, c.1, (sets.others c.0 other ∙ c.2.0, c.2.1))
      ];
}
  where
    old : (k : ℕ) (c : Tile) → T' k ≡ Some c → (o : Tile) × (T k ≡ Some o) × IsSamePlace o c
    old k c is = elim (came T T' x b sets k c is) [
      | inl new ↦ (a, ap T new.0 ∙ at, record { chunk = same.chunk ∙ sym (ap (λ (t : Tile). t.chunk) new.1); start = same.start ∙ sym (ap (λ (t : Tile). t.start) new.1); end = same.end ∙ sym (ap (λ (t : Tile). t.end) new.1) })
      | inr was ↦ (c, was.1, record { chunk = refl; start = refl; end = refl })
    ]

-- A tile grows by a neighbour: p and then q are joined, of which one is that of x and the other that of y.
module _ (size : ℕ → ℕ) (T T' : ℕ → Option Tile) (x y l r : ℕ) (p q m : Tile) (tiled : IsTiled size T) (at_l : T l ≡ Some p) (at_r : T r ≡ Some q)
    (which : ((l ≡ x) × (r ≡ y)) ⊎ ((l ≡ y) × (r ≡ x))) (joint : IsJoint p q m) (absorbs : Absorbs T T' x y m) where
  -- a tile that stays is not of l or r
  off : (k : ℕ) → k ≢ x → k ≢ y → (k ≢ l) × (k ≢ r)
  off k ne_x ne_y = elim which [
    | inl w ↦ ((λ e. ne_x (e ∙ w.0)), (λ e. ne_y (e ∙ w.1)))
    | inr w ↦ ((λ e. ne_y (e ∙ w.0)), (λ e. ne_x (e ∙ w.1)))
  ]

  on : (k : ℕ) → (k ≢ l) → (k ≢ r) → (k ≢ x) × (k ≢ y)
  on k ne_l ne_r = elim which [
    | inl w ↦ ((λ e. ne_l (e ∙ sym w.0)), (λ e. ne_r (e ∙ sym w.1)))
    | inr w ↦ ((λ e. ne_r (e ∙ sym w.1)), (λ e. ne_l (e ∙ sym w.0)))
  ]

  -- what stays has no byte in common with m
  clear : (k : ℕ) (c : Tile) → k ≢ x → k ≢ y → T k ≡ Some c → c.chunk ≡ m.chunk → c.start < m.end → m.start < c.end → ⊥
  clear k c ne_x ne_y is chunk lt gt =
      let ne = off k ne_x ne_y in
      let c_some = tiled.nonempty k c is in
      elim (cases_lt c.start q.start) [
        | inl left ↦ ne.0 (tiled.apart k l c p is at_l (chunk ∙ joint.in_chunk) (omega (arith, left, joint.meet)) (omega (arith, gt, joint.start)))
        | inr right ↦ ne.1 (tiled.apart k r c q is at_r (chunk ∙ joint.in_chunk ∙ joint.chunk) (omega (arith, lt, joint.end)) (omega (arith, right, c_some)))
      ]

  pub joint_tiled : IsTiled size T'
  joint_tiled = record {
    nonempty = λ k c is. elim (came_joint T T' x y m absorbs k c is) [
      | inl new ↦ omega (arith, tiled.nonempty l p at_l, tiled.nonempty r q at_r, joint.meet, joint.start, joint.end, ap (λ (t : Tile). t.start) new.1, ap (λ (t : Tile). t.end) new.1)
      | inr was ↦ tiled.nonempty k c was.2
    ];
    inside = λ k c is. elim (came_joint T T' x y m absorbs k c is) [
      | inl new ↦
          let le = tiled.inside r q at_r in
          let same : q.chunk ≡ c.chunk = sym joint.chunk ∙ sym joint.in_chunk ∙ sym (ap (λ (t : Tile). t.chunk) new.1) in
          let le' : c.end ≤ size q.chunk = omega (arith, le, joint.end, ap (λ (t : Tile). t.end) new.1) in
          subst (λ n. c.end ≤ size n) same le'
      | inr was ↦ tiled.inside k c was.2
    ];
    apart = λ j k c d is_c is_d chunk lt gt. elim (came_joint T T' x y m absorbs j c is_c) [
      | inl new_c ↦ elim (came_joint T T' x y m absorbs k d is_d) [
        | inl new_d ↦ new_c.0 ∙ sym new_d.0
        | inr was_d ↦ absurd (clear k d was_d.0 was_d.1 was_d.2 (sym chunk ∙ ap (λ (t : Tile). t.chunk) new_c.1) (omega (arith, gt, ap (λ (t : Tile). t.end) new_c.1)) (omega (arith, lt, ap (λ (t : Tile). t.start) new_c.1)))
      ]
      | inr was_c ↦ elim (came_joint T T' x y m absorbs k d is_d) [
        | inl new_d ↦ absurd (clear j c was_c.0 was_c.1 was_c.2 (chunk ∙ ap (λ (t : Tile). t.chunk) new_d.1) (omega (arith, lt, ap (λ (t : Tile). t.end) new_d.1)) (omega (arith, gt, ap (λ (t : Tile). t.start) new_d.1)))
        | inr was_d ↦ tiled.apart j k c d was_c.2 was_d.2 chunk lt gt
      ]
    ];
    covers = λ chunk at lt.
        let c = tiled.covers chunk at lt in
        elim (cases_eq c.0 l) [
          | inl here ↦
              let e = one_tile T c.0 l c.1 p c.2.0 at_l here in (
                x,
                m,
                (
                  absorbs.grown,
                  (
                    joint.in_chunk ∙ sym (ap (λ (t : Tile). t.chunk) e) ∙ c.2.1.0,
                    (omega (arith, c.2.1.1.0, ap (λ (t : Tile). t.start) e, joint.start), omega (arith, c.2.1.1.1, ap (λ (t : Tile). t.end) e, joint.meet, joint.end, tiled.nonempty r q at_r)),
                  ),
                ),
              )
          | inr ne_l ↦ elim (cases_eq c.0 r) [
            | inl here ↦
                let e = one_tile T c.0 r c.1 q c.2.0 at_r here in (
                  x,
                  m,
                  (
                    absorbs.grown,
                    (
                      joint.in_chunk ∙ joint.chunk ∙ sym (ap (λ (t : Tile). t.chunk) e) ∙ c.2.1.0,
                      (omega (arith, c.2.1.1.0, ap (λ (t : Tile). t.start) e, joint.start, joint.meet, tiled.nonempty l p at_l), omega (arith, c.2.1.1.1, ap (λ (t : Tile). t.end) e, joint.end)),
                    ),
                  ),
                )
            | inr ne_r ↦ let ne = on c.0 ne_l ne_r in (c.0, c.1, (absorbs.others c.0 ne.0 ne.1 ∙ c.2.0, c.2.1))
          ]
        ];
  }

  pub joint_calm : IsCalmBut x T → IsCalmBut x T'
  joint_calm calm j k c d ne_j ne_k is_c is_d both =
      elim (came_joint T T' x y m absorbs j c is_c) [
        | inl new ↦ ne_j new.0
        | inr was_c ↦ elim (came_joint T T' x y m absorbs k d is_d) [
          | inl new ↦ ne_k new.0
          | inr was_d ↦ calm j k c d ne_j ne_k was_c.2 was_d.2 both
        ]
      ]

-- A free tile that no free one touches leaves none that touch.
pub settled : (T : ℕ → Option Tile) (x : ℕ) → IsCalmBut x T → IsFirst x T → IsLast x T → IsCalm T
settled T x calm first last j k c d is_c is_d both = elim (cases_eq j x) [
  | inl here ↦ last k d c is_d (sym (ap T here) ∙ is_c) both
  | inr ne_j ↦ elim (cases_eq k x) [
    | inl here ↦ first j c d is_c (sym (ap T here) ∙ is_d) both
    | inr ne_k ↦ calm j k c d ne_j ne_k is_c is_d both
  ]
]

-- Live tiles stay as a free one grows by another.
pub joint_lives : (T T' : ℕ → Option Tile) (x y : ℕ) (a b m : Tile) → T x ≡ Some a → a.free ≡ true → T y ≡ Some b → b.free ≡ true → m.free ≡ true → Absorbs T T' x y m → KeepsLive T T'
joint_lives T T' x y a b m at_x free_a at_y free_b free_m absorbs = record {
  stays = λ k c live.
      let ne_x : k ≢ x = λ e. not_both a c (sym (one_tile T k x c a live.0 at_x e)) free_a live.1 in
      let ne_y : k ≢ y = λ e. not_both b c (sym (one_tile T k y c b live.0 at_y e)) free_b live.1 in
      (absorbs.others k ne_x ne_y ∙ live.0, live.1);
  was = λ k c live. elim (came_joint T T' x y m absorbs k c live.0) [
    | inl new ↦ absurd (not_both m c (sym new.1) free_m live.1)
    | inr was ↦ (was.2, live.1)
  ];
}

-- A free tile is all of its chunk where no live one is of it, and only there.
pub whole_unused : (size : ℕ → ℕ) (T : ℕ → Option Tile) (x : ℕ) (a : Tile) → IsTiled size T → T x ≡ Some a → a.free ≡ true → a.start ≡ 0 → a.end ≡ size a.chunk
    → (k : ℕ) (c : Tile) → IsLiveAt T k c → c.chunk ≡ a.chunk → ⊥
whole_unused size T x a tiled at free start end k c live chunk =
    let some = tiled.nonempty k c live.0 in
    let inside = subst (λ n. c.end ≤ size n) chunk (tiled.inside k c live.0) in
    let key = tiled.apart x k a c at live.0 (sym chunk) (omega (arith, start, some)) (omega (arith, some, inside, end)) in
    not_both a c (one_tile T x k a c at live.0 key) free live.1

pub unused_whole : (size : ℕ → ℕ) (T : ℕ → Option Tile) (x : ℕ) (a : Tile) → IsTiled size T → IsCalm T → T x ≡ Some a → a.free ≡ true → ((k : ℕ) (c : Tile) → IsLiveAt T k c → c.chunk ≡ a.chunk → ⊥)
    → (a.start ≡ 0) × (a.end ≡ size a.chunk)
unused_whole size T x a tiled calm at free unused =
    let some = tiled.nonempty x a at in
    let inside = tiled.inside x a at in (
      elim (cases_lt 0 a.start) [
        | inr zero ↦ omega (arith, zero)
        | inl more ↦
            let before = a.start - 1 in
            let c = tiled.covers a.chunk before (omega (arith, some, inside, more)) in
            elim (bit c.1.free) [
              | inr live ↦ absurd (unused c.0 c.1 (c.2.0, live) c.2.1.0)
              | inl is_free ↦ elim (cases_lt a.start c.1.end) [
                | inl over ↦
                    let key = tiled.apart x c.0 a c.1 at c.2.0 (sym c.2.1.0) over (omega (arith, c.2.1.1.0, some, more)) in
                    let e = one_tile T x c.0 a c.1 at c.2.0 key in
                    absurd (omega (arith, c.2.1.1.0, more, ap (λ (t : Tile). t.start) e))
                | inr under ↦ absurd (calm c.0 x c.1 a c.2.0 at (record { chunk = c.2.1.0; meet = omega (arith, under, c.2.1.1.1, more); left = is_free; right = free }))
              ]
            ]
      ],
      elim (cases_lt a.end (size a.chunk)) [
        | inr most ↦ omega (arith, most, inside)
        | inl less ↦
            let c = tiled.covers a.chunk a.end less in
            elim (bit c.1.free) [
              | inr live ↦ absurd (unused c.0 c.1 (c.2.0, live) c.2.1.0)
              | inl is_free ↦ elim (cases_lt c.1.start a.end) [
                | inl over ↦
                    let key = tiled.apart x c.0 a c.1 at c.2.0 (sym c.2.1.0) (omega (arith, c.2.1.1.1, some)) over in
                    let e = one_tile T x c.0 a c.1 at c.2.0 key in
                    absurd (omega (arith, c.2.1.1.1, ap (λ (t : Tile). t.end) e))
                | inr under ↦ absurd (calm x c.0 a c.1 at c.2.0 (record { chunk = sym c.2.1.0; meet = omega (arith, under, c.2.1.1.0); left = free; right = is_free }))
              ]
            ]
      ],
    )
