-- Pieces in canonical form are exactly the longest free ones.
use Rattle.std.proofs.Common.{◌≡◌, ℕ, zero, suc, ◌+◌, ◌*◌, ◌-◌, ◌^◌, ◌<◌, ◌≤◌, inl, inr, refl, sym, ◌∙◌, ap, subst, arith}
use Rattle.std.proofs.lemmas.Nat.{pow_pos}
use Rattle.std.proofs.lemmas.Bool.{cases_lt}
use Rattle.std.proofs.Math.Nat.{pow-succ', zero-mul}
use Rattle.gpu_alloc_base.specs.FreeSpace.{IsIn, IsMultipleOf, IsFreeRange, IsPlace, IsFreePiece}
use Rattle.gpu_alloc_base.specs.Pieces.{InPiece, IsCanonical}
use Rattle.gpu_alloc_base.specs.declared.piece.Piece.{Piece}
use Rattle.gpu_alloc_base.proofs.AlignedPowers.{ends_in, lies_in, order-le, same-from_length, left-aligned, right-aligned}

piece_of : ℕ → ℕ → ℕ → Piece
piece_of chunk start order = record { chunk = chunk; start = start; order = order }

pub same_piece : (p q : Piece) → p.chunk ≡ q.chunk → p.start ≡ q.start → p.order ≡ q.order → p ≡ q
unfolding piece_of
same_piece p q a b c = ap (λ x. piece_of x p.start p.order) a ∙ ap (λ x. piece_of q.chunk x p.order) b ∙ ap (λ x. piece_of q.chunk q.start x) c

module _ (Has : Piece → Type 0) (F : ℕ → ℕ → Type 0) (c : IsCanonical Has F) where
  -- a kept piece in which a range lies
  pub record Around (chunk start length : ℕ) : Type 0 where
    pub piece : Piece
    pub has : Has piece
    pub same : piece.chunk ≡ chunk
    pub from : piece.start ≤ start
    pub to : start + length ≤ piece.start + 2 ^ piece.order

  -- a place whose halves lie in pieces no longer than they are would be kept as two halves
  never_two : (chunk k a : ℕ) → IsMultipleOf (2 ^ suc k) a → (l : Around chunk a (2 ^ k)) → (r : Around chunk (a + 2 ^ k) (2 ^ k)) → l.piece.order ≤ k → r.piece.order ≤ k → ⊥
  never_two chunk k a aligned l r l_short r_short =
      let left = same-from_length a l.piece.start k l.piece.order l.from l.to l_short in
      let right = same-from_length (a + 2 ^ k) r.piece.start k r.piece.order r.from r.to r_short in
      let length : 2 ^ l.piece.order ≡ 2 ^ k = ap (λ i. 2 ^ i) left.1 in
      let twice : 2 * 2 ^ l.piece.order ≡ 2 ^ suc k = omega (arith, length, pow-succ' 2 k) in
      c.no_halves l.piece r.piece l.has r.has (record {
        chunk = r.same ∙ sym l.same;
        order = right.1 ∙ sym left.1;
        beside = omega (arith, left.0, right.0, length);
        aligned = (aligned.0, left.0 ∙ aligned.1 ∙ ap (λ n. aligned.0 * n) (sym twice));
      })

  -- each free aligned range lies in one kept piece
  pub around : (chunk k a : ℕ) → IsMultipleOf (2 ^ k) a → IsFreeRange F chunk a (2 ^ k) → Around chunk a (2 ^ k)
  around chunk zero a aligned free =
      let w = c.covers chunk a (free a (record { from = omega arith; to = omega arith })) in
      record { piece = w.0; has = w.1; same = w.2; from = w.3.from; to = omega (arith, w.3.to) }
  around chunk (suc k) a aligned free =
      let twice : 2 ^ suc k ≡ 2 * 2 ^ k = pow-succ' 2 k in
      let l = around chunk k a (left-aligned a k aligned) (λ at i. free at (record { from = i.from; to = omega (arith, i.to, twice) })) in
      let r = around chunk k (a + 2 ^ k) (right-aligned a k aligned) (λ at i. free at (record { from = omega (arith, i.from); to = omega (arith, i.to, twice) })) in
      let some = pow_pos k in
      elim (cases_lt k l.piece.order) [
        | inl l_long ↦ record {
          piece = l.piece;
          has = l.has;
          same = l.same;
          from = l.from;
          to = ends_in a (suc k) l.piece.start l.piece.order aligned (c.aligned l.piece l.has) (omega arith) (omega (arith, l.to, some));
        }
        | inr l_short ↦ elim (cases_lt k r.piece.order) [
          | inl r_long ↦ let here : IsIn a (2 ^ suc k) (a + 2 ^ k) = record { from = omega arith; to = omega (arith, twice, some) } in
              let there : IsIn r.piece.start (2 ^ r.piece.order) (a + 2 ^ k) = record { from = r.from; to = omega (arith, r.to, some) } in
              let n = lies_in a (suc k) r.piece.start r.piece.order (a + 2 ^ k) aligned (c.aligned r.piece r.has) (omega arith) here there in
              record { piece = r.piece; has = r.has; same = r.same; from = n.0; to = n.1 }
          | inr r_short ↦ absurd (never_two chunk k a aligned l r l_short r_short)
        ]
      ]

  pub kept_is_free_piece : (p : Piece) → Has p → IsFreePiece F p.chunk p.start (2 ^ p.order)
  kept_is_free_piece p has = record {
    place = record { power = (p.order, refl); aligned = c.aligned p has; free = λ at i. c.free p has at i };
    longest = λ start' length' place from to.
        let k : ℕ = place.power.0 in
        let e : length' ≡ 2 ^ k = place.power.1 in
        let aligned : IsMultipleOf (2 ^ k) start' = (place.aligned.0, place.aligned.1 ∙ ap (λ n. place.aligned.0 * n) e) in
        let w = around p.chunk k start' aligned (λ at i. place.free at (record { from = i.from; to = omega (arith, i.to, e) })) in
        let some = pow_pos p.order in
        let here : InPiece p p.start = record { from = omega arith; to = omega arith } in
        let there : InPiece w.piece p.start = record { from = omega (arith, w.from); to = omega (arith, w.to, e, some) } in
        let same = c.apart p w.piece has w.has (sym w.same) p.start here there in
        let starts : w.piece.start ≡ p.start = ap (λ q. q.start) (sym same) in
        let lengths : 2 ^ w.piece.order ≡ 2 ^ p.order = ap (λ q. 2 ^ q.order) (sym same) in
        omega (arith, w.to, w.from, e, starts, lengths);
  }

  pub free_piece_is_kept : (p : Piece) → IsFreePiece F p.chunk p.start (2 ^ p.order) → Has p
  free_piece_is_kept p f =
      let w = around p.chunk p.order p.start f.place.aligned f.place.free in
      let place : IsPlace F p.chunk w.piece.start (2 ^ w.piece.order) = record {
        power = (w.piece.order, refl);
        aligned = c.aligned w.piece w.has;
        free = λ at i. subst (λ o. F o at) w.same (c.free w.piece w.has at i);
      } in
      let le = f.longest w.piece.start (2 ^ w.piece.order) place w.from w.to in
      let e = same-from_length p.start w.piece.start p.order w.piece.order w.from w.to (order-le w.piece.order p.order le) in
      let same : w.piece ≡ p = same_piece w.piece p w.same e.0 e.1 in
      subst Has same w.has

  -- where there is a place, a piece of its length or more is kept
  pub piece_for_place : (chunk k a : ℕ) → IsMultipleOf (2 ^ k) a → IsFreeRange F chunk a (2 ^ k) → (p : Piece) × Has p × (k ≤ p.order)
  piece_for_place chunk k a aligned free =
      let w = around chunk k a aligned free in
      (w.piece, w.has, order-le k w.piece.order (omega (arith, w.from, w.to)))

  -- a chunk all of whose bytes are free is one piece
  pub whole_chunk : (chunk k : ℕ) → IsFreeRange F chunk 0 (2 ^ k) → ((at : ℕ) → F chunk at → at < 2 ^ k) → Has (record { chunk = chunk; start = 0; order = k })
  whole_chunk chunk k free inside =
      let w = around chunk k 0 (0, omega (arith, zero-mul (2 ^ k))) free in
      let some = pow_pos w.piece.order in
      let end : ℕ = w.piece.start + 2 ^ w.piece.order - 1 in
      let last : InPiece w.piece end = record { from = omega arith; to = omega arith } in
      let below = inside _ (subst (λ o. F o end) w.same (c.free w.piece w.has _ last)) in
      let e = same-from_length 0 w.piece.start k w.piece.order w.from w.to (order-le w.piece.order k (omega (arith, w.to, below))) in
      let p : Piece = record { chunk = chunk; start = 0; order = k } in
      subst Has (same_piece w.piece p w.same e.0 e.1) w.has

-- two free pieces that share a byte are one
pub one_free_piece : (F : ℕ → ℕ → Type 0) (chunk a n b m at : ℕ) → IsFreePiece F chunk a n → IsFreePiece F chunk b m → IsIn a n at → IsIn b m at → (a ≡ b) × (n ≡ m)
one_free_piece F chunk a n b m at p q in_p in_q =
    let k : ℕ = p.place.power.0 in
    let j : ℕ = q.place.power.0 in
    let en : n ≡ 2 ^ k = p.place.power.1 in
    let em : m ≡ 2 ^ j = q.place.power.1 in
    let p_aligned : IsMultipleOf (2 ^ k) a = (p.place.aligned.0, p.place.aligned.1 ∙ ap (λ x. p.place.aligned.0 * x) en) in
    let q_aligned : IsMultipleOf (2 ^ j) b = (q.place.aligned.0, q.place.aligned.1 ∙ ap (λ x. q.place.aligned.0 * x) em) in
    let in_a : IsIn a (2 ^ k) at = record { from = in_p.from; to = omega (arith, in_p.to, en) } in
    let in_b : IsIn b (2 ^ j) at = record { from = in_q.from; to = omega (arith, in_q.to, em) } in
    elim (cases_lt j k) [
      | inl lt ↦ let l = lies_in b j a k at q_aligned p_aligned (omega arith) in_b in_a in
          let le = q.longest a n p.place l.0 (omega (arith, l.1, en, em)) in
          (omega (arith, l.0, l.1, en, em, le), omega (arith, l.0, l.1, en, em, le))
      | inr ge ↦ let l = lies_in a k b j at p_aligned q_aligned ge in_a in_b in
          let le = p.longest b m q.place l.0 (omega (arith, l.1, en, em)) in
          (omega (arith, l.0, l.1, en, em, le), omega (arith, l.0, l.1, en, em, le))
    ]
