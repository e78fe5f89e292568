-- Of each length there are at most as many free pieces as live blocks: the other half of a free piece has a live block.
use Rattle.std.proofs.Common.{◌≡◌, ◌≢◌, ◌⊎◌, inl, inr, ℕ, suc, ◌+◌, ◌*◌, ◌-◌, ◌/◌, ◌%◌, ◌^◌, ◌<◌, ◌≤◌, Bool, true, cond, ltb, ◌==◌, ◌&&◌, List, [], ◌∷◌, length, Some, IsTrue, refl, sym, ◌∙◌, ap, subst, arith}
use Rattle.std.specs.Bool.{Decides}
use Rattle.std.specs.FinMap as finite
use Rattle.std.specs.FinSet as set
use Rattle.std.specs.List.{Contains, IsDistinct}
use Rattle.std.proofs.lemmas.Bool.{cases_lt}
use Rattle.std.proofs.lemmas.Bool.Decides.{Decides-and, Decides-eqb, Decides-ltb}
use Rattle.std.proofs.lemmas.Cmp.{eq_by_cmp_equiv}
use Rattle.std.proofs.lemmas.Map.Keys.{IsDistinct-tail}
use Rattle.std.proofs.lemmas.Map.Views.{Contains-from_any, list_any-from_Contains}
use Rattle.std.proofs.lemmas.Nat.{pow_pos}
use Rattle.std.proofs.Math.Nat.{pow-succ'}
use Rattle.gpu_alloc_base.specs.Chunks.{Chunk}
use Rattle.gpu_alloc_base.specs.FreeSpace.{IsIn, IsMultipleOf, IsPlace, IsFreePiece}
use Rattle.gpu_alloc_base.specs.Leaves.{leaf_cmp}
use Rattle.gpu_alloc_base.specs.Pieces.{same_place}
use Rattle.gpu_alloc_base.specs.declared.buddy_block.Leaf.{Leaf}
use Rattle.gpu_alloc_base.specs.declared.piece.Piece.{Piece}
use Rattle.gpu_alloc_base.proofs.AlignedPowers.{ends_in, lies_in, left-aligned, right-aligned, order-le}
use Rattle.gpu_alloc_base.proofs.Leaves.{leaf_total, leaf_test, leaf_removed}
use Rattle.gpu_alloc_base.proofs.Lists.{contains_head, contains_later, head_is_other, seek}
use Rattle.gpu_alloc_base.proofs.Maps.{one_value}
use Rattle.gpu_alloc_pairs.specs.Space.{BuddySpace, IsLiveLeaf, IsFreeAt, IsSoundBuddySpace}

-- Sets of blocks and lists.

-- the elements of a set
in_items : (s : set.FinSet leaf_cmp) (q : Leaf) → Decides (set.contains s q) (Contains (set.items s) q)
in_items s q = (
  λ t. Contains-from_any (λ x y h. (leaf_test x y).0 h) q (set.items s) (sym (set.contains-items s q) ∙ t),
  λ has. set.contains-items s q ∙ list_any-from_Contains (eq_by_cmp_equiv leaf_total) q (set.items s) has,
)

-- a set with a member is not empty
some_member : (s : set.FinSet leaf_cmp) (q : Leaf) → set.contains s q ≡ true → 0 < set.len s
some_member s q has = elim (cases_lt 0 (set.len s)) [
  | inl some ↦ some
  | inr none ↦
      let empty : s ≡ set.empty = set.empty_of_len s (omega arith) in
      let gone = set.contains-empty leaf_cmp q in
      let is : set.contains (set.empty {R = leaf_cmp}) q ≡ true = subst (λ (t : set.FinSet leaf_cmp). set.contains t q ≡ true) empty has in
      absurd (cc)
]

module _ {X : Type 0} (e : X → X → Bool) (Of : X → Leaf → Type 0) where
  -- where each element of a list has a member of a set, and no two that differ have one, the list is no longer than the set
  pub length-le_by_members : (xs : List X) (s : set.FinSet leaf_cmp) → IsDistinct e xs → ((x : X) → Contains xs x → (q : Leaf) × (IsTrue (set.contains s q) × Of x q))
      → ((x y : X) (q : Leaf) → Of x q → Of y q → e x y ≡ true) → length xs ≤ set.len s
  length-le_by_members [] s distinct each one = omega arith
  length-le_by_members (x ∷ xs) s distinct each one =
      let of_x = each x (contains_head x xs) in
      let q : Leaf = of_x.0 in
      let in_s : set.contains s q ≡ true = of_x.1.0 in
      let rest : length xs ≤ set.len (set.remove s q) = length-le_by_members xs (set.remove s q) (IsDistinct-tail e x xs distinct) (λ y has.
      let of_y = each y (contains_later x y xs has) in
      let other : of_y.0 ≢ q = λ same.
      let no = head_is_other e x y xs distinct has in
      let yes = one x y q of_x.1.1 (subst (Of y) same of_y.1.1) in
      absurd (cc) in
      (of_y.0, ((leaf_removed s q of_y.0).1 (other, of_y.1.0), of_y.1.1))) one in
      let fewer : set.len (set.remove s q) ≡ set.len s - 1 = set.len-remove leaf_total s q ∙ ap (λ b. cond b (set.len s - 1) (set.len s)) in_s in
      let some = some_member s q in_s in
      omega arith

-- Halves of an aligned range.

-- the range of which a shorter one is a half
record IsHalfOf (k a : ℕ) : Type 0 where
  pub top : ℕ
  pub aligned : IsMultipleOf (2 ^ suc k) top
  pub at : (a ≡ top) ⊎ (a ≡ top + 2 ^ k)

half_of : (k a : ℕ) → IsMultipleOf (2 ^ k) a → IsHalfOf k a
half_of k a (m, e) =
    let p : ℕ = 2 ^ k in
    let q : ℕ = m / 2 in
    let twice : 2 ^ suc k ≡ 2 * p = pow-succ' 2 k in
    let up : q * 2 ^ suc k ≡ q * (2 * p) = ap (λ x. q * x) twice in
    elim (cases_lt 0 (m % 2)) [
      | inl odd ↦
          let em : m ≡ 2 * q + 1 = omega arith in
          let ea : a ≡ (2 * q + 1) * p = e ∙ ap (λ x. x * p) em in
          record { top = q * 2 ^ suc k; aligned = (q, refl); at = inr (omega (arith, ea, up)) }
      | inr even ↦
          let em : m ≡ 2 * q = omega arith in
          let ea : a ≡ 2 * q * p = e ∙ ap (λ x. x * p) em in
          record { top = q * 2 ^ suc k; aligned = (q, refl); at = inl (omega (arith, ea, up)) }
    ]

-- the block starts in the other half
abbrev StartsBeside : ℕ → ℕ → ℕ → Leaf → Type 0
StartsBeside k a top q = ((a ≡ top) × IsIn (top + 2 ^ k) (2 ^ k) q.offset) ⊎ ((a ≡ top + 2 ^ k) × IsIn top (2 ^ k) q.offset)

-- the block lies in the chunk, and starts in the other half
record IsBesideLeaf (c k a : ℕ) (q : Leaf) : Type 0 where
  pub chunk : q.chunk ≡ c
  pub top : ℕ
  pub aligned : IsMultipleOf (2 ^ suc k) top
  pub beside : StartsBeside k a top q

beside_in : (k a top : ℕ) (q : Leaf) → StartsBeside k a top q → IsIn top (2 ^ suc k) q.offset
beside_in k a top q (inl (e, i)) = record { from = omega (arith, i.from); to = omega (arith, i.to, pow-succ' 2 k) }
beside_in k a top q (inr (e, i)) = record { from = i.from; to = omega (arith, i.to, pow-succ' 2 k) }

-- one block is beside one range
one_beside : (k a b top : ℕ) (q : Leaf) → StartsBeside k a top q → StartsBeside k b top q → a ≡ b
one_beside k a b top q (inl (e, i)) (inl (f, j)) = e ∙ sym f
one_beside k a b top q (inl (e, i)) (inr (f, j)) = omega (arith, i.from, j.to)
one_beside k a b top q (inr (e, i)) (inl (f, j)) = omega (arith, i.to, j.from)
one_beside k a b top q (inr (e, i)) (inr (f, j)) = e ∙ sym f

same_beside : (c d k a b : ℕ) (q : Leaf) → IsBesideLeaf c k a q → IsBesideLeaf d k b q → (c ≡ d) × (a ≡ b)
same_beside c d k a b q of_a of_b =
    let in_a = beside_in k a of_a.top q of_a.beside in
    let in_b = beside_in k b of_b.top q of_b.beside in
    let to = lies_in of_a.top (suc k) of_b.top (suc k) q.offset of_a.aligned of_b.aligned (omega arith) in_a in_b in
    let tops : of_a.top ≡ of_b.top = omega (arith, to.0, to.1) in
    (sym of_a.chunk ∙ of_b.chunk, one_beside k a b of_b.top q (subst (λ t. StartsBeside k a t q) tops of_a.beside) of_b.beside)

-- Where blocks lie.

shares : ℕ → ℕ → ℕ → Leaf → Bool
shares chunk y n q = (q.chunk == chunk) && (ltb q.offset (y + n) && ltb y (q.offset + q.size))

-- the block is of the chunk and shares a byte with the range
record Shares (c y n : ℕ) (q : Leaf) : Type 0 where
  pub chunk : q.chunk ≡ c
  pub before : q.offset < y + n
  pub after : y < q.offset + q.size

tells_shares : (chunk y n : ℕ) (q : Leaf) → Decides (shares chunk y n q) (Shares chunk y n q)
unfolding shares
tells_shares chunk y n q =
    let d = Decides-and (q.chunk == chunk) (ltb q.offset (y + n) && ltb y (q.offset + q.size)) (Decides-eqb q.chunk chunk)
    (Decides-and (ltb q.offset (y + n)) (ltb y (q.offset + q.size)) (Decides-ltb q.offset (y + n)) (Decides-ltb y (q.offset + q.size))) in
    (λ t. let h = d.0 t in record { chunk = h.0; before = h.1.0; after = h.1.1 }, λ h. d.1 (h.chunk, (h.before, h.after)))

-- a byte that the two share
shared_byte : (chunk y n : ℕ) (q : Leaf) → 0 < n → 0 < q.size → Shares chunk y n q → (at : ℕ) × IsIn y n at × IsIn q.offset q.size at
shared_byte chunk y n q some_n some_q h = elim (cases_lt y q.offset) [
  | inl lt ↦ (q.offset, record { from = omega arith; to = h.before }, record { from = omega arith; to = omega arith })
  | inr le ↦ (y, record { from = omega arith; to = omega arith }, record { from = le; to = h.after })
]

module _ (s : BuddySpace) (sound : IsSoundBuddySpace s) (chunk k a : ℕ) (piece : IsFreePiece (IsFreeAt s) chunk a (2 ^ k)) where
  -- the piece lies in its chunk, which is longer
  record Around : Type 0 where
    pub held : Chunk
    pub is : finite.get s.chunks chunk ≡ Some held
    pub j : ℕ
    pub size : held.size ≡ 2 ^ j
    pub longer : k < j
    pub inside : a + 2 ^ k ≤ 2 ^ j

  around : Around
  around =
      let some = pow_pos k in
      let first : IsIn a (2 ^ k) a = record { from = omega arith; to = omega arith } in
      let free = piece.place.free a first in
      let held : Chunk = free.held in
      let is : finite.get s.chunks chunk ≡ Some held = free.is in
      let power = sound.powers chunk held is in
      let j : ℕ = power.0 in
      let size : held.size ≡ 2 ^ j = power.1.1 in
      let end : ℕ = a + 2 ^ k - 1 in
      let last : IsIn a (2 ^ k) end = record { from = omega arith; to = omega arith } in
      let free_end = piece.place.free end last in
      let same : free_end.held.size ≡ held.size = ap (λ (c : Chunk). c.size) (one_value _ free_end.held held free_end.is is) in
      let inside : a + 2 ^ k ≤ 2 ^ j = omega (arith, free_end.inside, same, size) in
      elim (cases_lt k j) [
        | inl longer ↦ record { held = held; is = is; j = j; size = size; longer = longer; inside = inside }
        | inr short ↦
            let used = sound.used chunk held is in
            let q : Leaf = used.0 in
            let lies = sound.inside q used.1.0 in
            let c : lies.chunk.size ≡ held.size = ap (λ (x : Chunk). x.size) (one_value _ lies.chunk held lies.held (ap (finite.get s.chunks) used.1.1 ∙ is)) in
            let of_q : q.size ≡ 2 ^ lies.power.0 = lies.power.1 in
            let some_q = pow_pos lies.power.0 in
            let order : k ≡ j = omega (arith, order-le k j (omega (arith, inside)), short) in
            let lengths : 2 ^ k ≡ 2 ^ j = ap (λ i. 2 ^ i) order in
            let here : IsIn a (2 ^ k) q.offset = record { from = omega (arith, inside, lengths); to = omega (arith, lies.inside, c, size, lengths, of_q, some_q) } in
            absurd ((piece.place.free q.offset here).unused q used.1.0 used.1.1 (record { from = omega arith; to = omega (arith, of_q, some_q) }))
      ]

  module _ (top : ℕ) (aligned : IsMultipleOf (2 ^ suc k) top) (y : ℕ) (of_y : IsMultipleOf (2 ^ k) y) (from : top ≤ y) (to : y + 2 ^ k ≤ top + 2 ^ suc k)
      (on : top ≤ a) (below : a + 2 ^ k ≤ top + 2 ^ suc k) (both : (at : ℕ) → IsIn top (2 ^ suc k) at → IsIn a (2 ^ k) at ⊎ IsIn y (2 ^ k) at) where
    -- were no live block in the other half, the two would be free
    never_free : ((q : Leaf) → IsLiveLeaf s q → Shares chunk y (2 ^ k) q → ⊥) → ⊥
    never_free none =
        let w = around in
        let some = pow_pos k in
        let twice : 2 ^ suc k ≡ 2 * 2 ^ k = pow-succ' 2 k in
        let ends : top + 2 ^ suc k ≤ 0 + 2 ^ w.j = ends_in top (suc k) 0 w.j aligned (0, omega arith) (omega (arith, w.longer)) (omega (arith, w.inside, on, some)) in
        let place : IsPlace (IsFreeAt s) chunk top (2 ^ suc k) = record {
          power = (suc k, refl);
          aligned = aligned;
          free = λ at i. elim (both at i) [
            | inl mine ↦ piece.place.free at mine
            | inr others ↦ record {
              held = w.held;
              is = w.is;
              inside = omega (arith, i.to, ends, w.size);
              unused = λ q live same in_q. none q live (record { chunk = same; before = omega (arith, in_q.from, others.to); after = omega (arith, in_q.to, others.from) });
            }
          ];
        } in
        let le = piece.longest top (2 ^ suc k) place on below in
        omega (arith, le, twice, some)

    -- a live block that shares a byte with the other half lies in it
    lies_beside : (q : Leaf) → IsLiveLeaf s q → Shares chunk y (2 ^ k) q → IsIn y (2 ^ k) q.offset
    lies_beside q live h =
        let lies = sound.inside q live in
        let i : ℕ = lies.power.0 in
        let size : q.size ≡ 2 ^ i = lies.power.1 in
        let some_q = pow_pos i in
        let aligned_q : IsMultipleOf (2 ^ i) q.offset = subst (λ n. IsMultipleOf n q.offset) size lies.aligned in
        let byte = shared_byte chunk y (2 ^ k) q (pow_pos k) (omega (arith, size, some_q)) h in
        let in_q : IsIn q.offset (2 ^ i) byte.0 = record { from = byte.2.from; to = omega (arith, byte.2.to, size) } in
        elim (cases_lt k i) [
          | inl longer ↦
              let in_top : IsIn top (2 ^ suc k) byte.0 = record { from = omega (arith, byte.1.from, from); to = omega (arith, byte.1.to, to) } in
              let l = lies_in top (suc k) q.offset i byte.0 aligned aligned_q (omega (arith, longer)) in_top in_q in
              let some = pow_pos k in
              let first : IsIn a (2 ^ k) a = record { from = omega arith; to = omega arith } in
              absurd ((piece.place.free a first).unused q live h.chunk (record { from = omega (arith, l.0, on); to = omega (arith, l.1, below, size, some) }))
          | inr short ↦
              let l = lies_in q.offset i y k byte.0 aligned_q of_y short in_q byte.1 in
              record { from = l.0; to = omega (arith, l.1, some_q) }
        ]

    found_beside : (q : Leaf) × (IsLiveLeaf s q × ((q.chunk ≡ chunk) × IsIn y (2 ^ k) q.offset))
    found_beside = elim (seek (shares chunk y (2 ^ k)) (set.items s.live)) [
      | inl found ↦
          let q : Leaf = found.0 in
          let live : IsLiveLeaf s q = (in_items s.live q).1 found.1 in
          let h = (tells_shares chunk y (2 ^ k) q).0 found.2 in
          (q, (live, (h.chunk, lies_beside q live h)))
      | inr none ↦ absurd (never_free (λ q live h.
          let no = none q ((in_items s.live q).0 live) in
          let yes = (tells_shares chunk y (2 ^ k) q).1 h in
          absurd (cc)))
    ]

  -- a live block lies in the other half
  leaf_beside : (q : Leaf) × (IsLiveLeaf s q × IsBesideLeaf chunk k a q)
  leaf_beside =
      let half = half_of k a piece.place.aligned in
      let top : ℕ = half.top in
      let twice : 2 ^ suc k ≡ 2 * 2 ^ k = pow-succ' 2 k in
      elim half.at [
        | inl e ↦
            let found = found_beside top half.aligned (top + 2 ^ k) (right-aligned top k half.aligned) (omega arith) (omega arith) (omega arith) (omega arith) (λ at i.
            elim (cases_lt at (top + 2 ^ k)) [
              | inl lt ↦ inl (record { from = omega (arith, e, i.from); to = omega (arith, e, lt) })
              | inr le ↦ inr (record { from = le; to = omega (arith, i.to, twice) })
            ]) in
            (found.0, (found.1.0, record { chunk = found.1.1.0; top = top; aligned = half.aligned; beside = inl (e, found.1.1.1) }))
        | inr e ↦
            let found = found_beside top half.aligned top (left-aligned top k half.aligned) (omega arith) (omega arith) (omega arith) (omega arith) (λ at i.
            elim (cases_lt at (top + 2 ^ k)) [
              | inl lt ↦ inr (record { from = i.from; to = lt })
              | inr le ↦ inl (record { from = omega (arith, e, le); to = omega (arith, e, i.to, twice) })
            ]) in
            (found.0, (found.1.0, record { chunk = found.1.1.0; top = top; aligned = half.aligned; beside = inr (e, found.1.1.1) }))
      ]

pub same_place-from_eq : (p q : Piece) → p.chunk ≡ q.chunk → p.start ≡ q.start → same_place p q ≡ true
same_place-from_eq p q a b = ap (λ t. t && (p.start == q.start)) ((Decides-eqb p.chunk q.chunk).1 a) ∙ (Decides-eqb p.start q.start).1 b

-- there are no more free pieces of one length than live blocks
pub few_pieces : (s : BuddySpace) → IsSoundBuddySpace s → (order : ℕ) (pieces : List Piece) → IsDistinct same_place pieces
    → ((p : Piece) → Contains pieces p → (p.order ≡ order) × IsFreePiece (IsFreeAt s) p.chunk p.start (2 ^ p.order)) → length pieces ≤ set.len s.live
few_pieces s sound order pieces distinct are =
    length-le_by_members same_place (λ p q. IsBesideLeaf p.chunk order p.start q) pieces s.live distinct
    (λ p has.
    let is = are p has in
    leaf_beside s sound p.chunk order p.start (subst (λ k. IsFreePiece (IsFreeAt s) p.chunk p.start (2 ^ k)) is.0 is.1))
    (λ p r q of_p of_r. let same = same_beside p.chunk r.chunk order p.start r.start q of_p of_r in same_place-from_eq p r same.0 same.1)
