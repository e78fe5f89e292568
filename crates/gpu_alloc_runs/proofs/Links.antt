-- Neighbours: there is one on each side but at a chunk's ends, and keys of neighbours stay true as tiles are cut and joined.
use Rattle.std.proofs.Common.{◌≡◌, ◌≢◌, inl, inr, ℕ, ◌-◌, ◌<◌, ◌≤◌, Option, Some, refl, sym, ◌∙◌, ap, subst, arith}
use Rattle.std.proofs.lemmas.Bool.{cases_lt}
use Rattle.gpu_alloc_runs.specs.Links.{AreLinked}
use Rattle.gpu_alloc_runs.specs.Tiles.{AreNeighbours, IsTiled, Sets}
use Rattle.gpu_alloc_runs.specs.declared.tile.Tile.{Tile}
use Rattle.gpu_alloc_runs.proofs.Tiles.{Absorbs, IsJoint, IsSamePlace, came, came_joint, one_tile}

-- The neighbours of a tile.

module _ (size : ℕ → ℕ) (T : ℕ → Option Tile) (tiled : IsTiled size T) (x : ℕ) (m : Tile) (at : T x ≡ Some m) where
  -- after the chunk's start one ends where it starts
  pub before_there : 0 < m.start → (j : ℕ) × (a : Tile) × (T j ≡ Some a) × AreNeighbours a m
  before_there some =
      let long = tiled.nonempty x m at in
      let c = tiled.covers m.chunk (m.start - 1) (omega (arith, long, some, tiled.inside x m at)) in
      elim (cases_lt m.start c.1.end) [
        | inl over ↦
            let key = tiled.apart c.0 x c.1 m c.2.0 at c.2.1.0 (omega (arith, c.2.1.1.0, some, long)) over in
            let e = one_tile T c.0 x c.1 m c.2.0 at key in
            absurd (omega (arith, c.2.1.1.0, some, ap (λ (t : Tile). t.start) e))
        | inr le ↦ (c.0, c.1, c.2.0, record { chunk = c.2.1.0; meet = omega (arith, le, c.2.1.1.1, some) })
      ]

  -- before its end one starts where it ends
  pub after_there : m.end < size m.chunk → (k : ℕ) × (b : Tile) × (T k ≡ Some b) × AreNeighbours m b
  after_there less =
      let long = tiled.nonempty x m at in
      let c = tiled.covers m.chunk m.end less in
      elim (cases_lt c.1.start m.end) [
        | inl over ↦
            let key = tiled.apart c.0 x c.1 m c.2.0 at c.2.1.0 over (omega (arith, c.2.1.1.1, long)) in
            let e = one_tile T c.0 x c.1 m c.2.0 at key in
            absurd (omega (arith, c.2.1.1.1, ap (λ (t : Tile). t.end) e))
        | inr le ↦ (c.0, c.1, c.2.0, record { chunk = sym c.2.1.0; meet = omega (arith, le, c.2.1.1.0) })
      ]

  -- no tile is its own neighbour
  pub before_else : (j : ℕ) (a : Tile) → T j ≡ Some a → AreNeighbours a m → j ≢ x
  before_else j a at_j near same =
      let e = one_tile T j x a m at_j at same in
      omega (arith, tiled.nonempty x m at, near.meet, ap (λ (t : Tile). t.end) e)

  pub after_else : (k : ℕ) (b : Tile) → T k ≡ Some b → AreNeighbours m b → k ≢ x
  after_else k b at_k near same =
      let e = one_tile T k x b m at_k at same in
      omega (arith, tiled.nonempty x m at, near.meet, ap (λ (t : Tile). t.start) e)

  -- one with a neighbour after it ends before its chunk's end
  pub ends_before : (k : ℕ) (b : Tile) → T k ≡ Some b → AreNeighbours m b → m.end < size m.chunk
  ends_before k b at_k near =
      let inside : b.end ≤ size m.chunk = subst (λ n. b.end ≤ size n) (sym near.chunk) (tiled.inside k b at_k) in
      omega (arith, tiled.nonempty k b at_k, near.meet, inside)

  -- The keys that it has are those of its neighbours.
  module _ (before after : ℕ → ℕ) (linked : AreLinked T before after) where
    pub key_before : 0 < m.start → (a : Tile) × (T (before x) ≡ Some a) × AreNeighbours a m × (after (before x) ≡ x) × (before x ≢ x)
    key_before some =
        let h = before_there some in
        let keys = linked h.0 x h.1 m h.2 at h.3 in (
          h.1,
          ap T keys.1 ∙ h.2,
          h.3,
          ap after keys.1 ∙ keys.0,
          λ same. before_else h.0 h.1 h.2 h.3 (sym keys.1 ∙ same),
        )

    pub key_after : m.end < size m.chunk → (b : Tile) × (T (after x) ≡ Some b) × AreNeighbours m b × (before (after x) ≡ x) × (after x ≢ x)
    key_after less =
        let h = after_there less in
        let keys = linked x h.0 m h.1 at h.2 h.3 in (
          h.1,
          ap T keys.0 ∙ h.2,
          h.3,
          ap before keys.0 ∙ keys.1,
          λ same. after_else h.0 h.1 h.2 h.3 (sym keys.0 ∙ same),
        )

-- Keys stay true.

module _ (T T' : ℕ → Option Tile) (before after before' after' : ℕ → ℕ) (linked : AreLinked T before after) where
  -- A tile becomes one of the same bytes.
  pub retiled_linked : (x : ℕ) (a b : Tile) → T x ≡ Some a → IsSamePlace a b → Sets T T' x (Some b) → ((k : ℕ) → before' k ≡ before k) → ((k : ℕ) → after' k ≡ after k) → AreLinked T' before' after'
  retiled_linked x a b at same sets same_before same_after j k c d is_c is_d near =
      let o = old j c is_c in
      let p = old k d is_d in
      let was = linked j k o.0 p.0 o.1 p.1 (record { chunk = o.2.chunk ∙ near.chunk ∙ sym p.2.chunk; meet = o.2.end ∙ near.meet ∙ sym p.2.start }) in
      (same_after j ∙ was.0, same_before k ∙ was.1)
    where
      old : (q : ℕ) (e : Tile) → T' q ≡ Some e → (o : Tile) × (T q ≡ Some o) × IsSamePlace o e
      old q e is = elim (came T T' x b sets q e is) [
        | inl new ↦ (a, ap T new.0 ∙ at, record { chunk = same.chunk ∙ sym (ap (λ (t : Tile). t.chunk) new.1); start = same.start ∙ sym (ap (λ (t : Tile). t.start) new.1); end = same.end ∙ sym (ap (λ (t : Tile). t.end) new.1) })
        | inr was ↦ (e, was.1, record { chunk = refl; start = refl; end = refl })
      ]

  -- A tile goes, or one comes that has no neighbour: what neighbours were there are.
  pub fewer_linked : ((j k : ℕ) (a b : Tile) → T' j ≡ Some a → T' k ≡ Some b → AreNeighbours a b → (T j ≡ Some a) × (T k ≡ Some b) × (after' j ≡ after j) × (before' k ≡ before k)) → AreLinked T' before' after'
  fewer_linked were j k a b is_a is_b near =
      let w = were j k a b is_a is_b near in
      let was = linked j k a b w.0 w.1 near in
      (w.2 ∙ was.0, w.3 ∙ was.1)

  -- p and then q are joined as m, which stands under x in place of both.
  module _ (size : ℕ → ℕ) (tiled : IsTiled size T) (x y l r : ℕ) (p q m : Tile) (at_l : T l ≡ Some p) (at_r : T r ≡ Some q) (joint : IsJoint p q m) (absorbs : Absorbs T T' x y m)
      (first : (j : ℕ) (a : Tile) → T j ≡ Some a → AreNeighbours a p → (after' j ≡ x) × (before' x ≡ j))
      (last : (k : ℕ) (b : Tile) → T k ≡ Some b → AreNeighbours q b → (after' x ≡ k) × (before' k ≡ x))
      (others : (j k : ℕ) (a b : Tile) → j ≢ x → j ≢ y → k ≢ x → k ≢ y → T j ≡ Some a → T k ≡ Some b → AreNeighbours a b → (after' j ≡ after j) × (before' k ≡ before k)) where
    pub joint_linked : AreLinked T' before' after'
    joint_linked j k a b is_a is_b near = elim (came_joint T T' x y m absorbs j a is_a) [
      | inl new_a ↦ elim (came_joint T T' x y m absorbs k b is_b) [
        | inl new_b ↦ absurd (omega (arith, near.meet, ap (λ (t : Tile). t.end) new_a.1, ap (λ (t : Tile). t.start) new_b.1, joint.start, joint.end, joint.meet, tiled.nonempty l p at_l, tiled.nonempty r q at_r))
        | inr was_b ↦
            let keys = last k b was_b.2 (record { chunk = sym joint.chunk ∙ sym joint.in_chunk ∙ sym (ap (λ (t : Tile). t.chunk) new_a.1) ∙ near.chunk; meet = sym joint.end ∙ sym (ap (λ (t : Tile). t.end) new_a.1) ∙ near.meet }) in
            (ap after' new_a.0 ∙ keys.0, keys.1 ∙ sym new_a.0)
      ]
      | inr was_a ↦ elim (came_joint T T' x y m absorbs k b is_b) [
        | inl new_b ↦
            let keys = first j a was_a.2 (record { chunk = near.chunk ∙ ap (λ (t : Tile). t.chunk) new_b.1 ∙ joint.in_chunk; meet = near.meet ∙ ap (λ (t : Tile). t.start) new_b.1 ∙ joint.start }) in
            (keys.0 ∙ sym new_b.0, ap before' new_b.0 ∙ keys.1)
        | inr was_b ↦
            let same = others j k a b was_a.0 was_a.1 was_b.0 was_b.1 was_a.2 was_b.2 near in
            let was = linked j k a b was_a.2 was_b.2 near in
            (same.0 ∙ was.0, same.1 ∙ was.1)
      ]
    ]
