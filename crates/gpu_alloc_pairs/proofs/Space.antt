-- The free bytes of a space, and the free pieces that are kept of it, as a block is given out and comes back, and as a
-- chunk comes and goes.
use Rattle.std.proofs.Common.{◌≡◌, ℕ, ◌+◌, ◌-◌, ◌^◌, ◌<◌, ◌≤◌, ◌≢◌, inl, inr, Option, Some, None, refl, sym, ◌∙◌, ap, subst, arith}
use Rattle.std.specs.FinMap as map
use Rattle.std.specs.FinSet as set
use Rattle.std.proofs.lemmas.Bool.{cases_eq}
use Rattle.std.proofs.lemmas.Nat.{pow_pos}
use Rattle.std.proofs.Math.Nat.{zero-mul}
use Rattle.gpu_alloc_base.specs.Chunks.{Chunk}
use Rattle.gpu_alloc_base.specs.FreeSpace.{IsIn, IsMultipleOf}
use Rattle.gpu_alloc_base.specs.Pieces.{InPiece, IsCanonical, Without, IsCanonicalBeside}
use Rattle.gpu_alloc_base.specs.declared.buddy_block.Leaf.{Leaf}
use Rattle.gpu_alloc_base.specs.declared.piece.Piece.{Piece}
use Rattle.gpu_alloc_base.proofs.AlignedPowers.{order-le}
use Rattle.gpu_alloc_base.proofs.ExactPieces.{whole_chunk}
use Rattle.gpu_alloc_base.proofs.Maps.{one_value, gone, kept_other, own_inserted, other_inserted}
use Rattle.gpu_alloc_base.proofs.Leaves.{leaf_inserted, leaf_removed, leaf_same_or_left}
use Rattle.gpu_alloc_pairs.specs.Space.{BuddySpace, IsLiveLeaf, IsFreeAt}
use Rattle.gpu_alloc_pairs.proofs.PieceSteps.{same_bytes}

-- A leaf and the piece that it is.

pub record IsLeafOf (leaf : Leaf) (x : Piece) : Type 0 where
  pub chunk : leaf.chunk ≡ x.chunk
  pub offset : leaf.offset ≡ x.start
  pub size : leaf.size ≡ 2 ^ x.order

module _ (leaf : Leaf) (x : Piece) (of : IsLeafOf leaf x) where
  pub in_piece : (at : ℕ) → IsIn leaf.offset leaf.size at → InPiece x at
  in_piece at i = record { from = omega (arith, i.from, of.offset); to = omega (arith, i.to, of.offset, of.size) }

  pub in_leaf : (at : ℕ) → InPiece x at → IsIn leaf.offset leaf.size at
  in_leaf at i = record { from = omega (arith, i.from, of.offset); to = omega (arith, i.to, of.offset, of.size) }

  module _ (Has : Piece → Type 0) (b b' : BuddySpace) (chunks : b'.chunks ≡ b.chunks) where
    -- the piece in hand becomes a live block
    pub granted : b'.live ≡ set.insert b.live leaf → IsCanonicalBeside Has (IsFreeAt b) x → IsCanonical Has (IsFreeAt b')
    granted live k = same_bytes Has (Without (IsFreeAt b) x) (IsFreeAt b')
        (λ chunk at f. record {
          held = f.0.held;
          is = ap (λ m. map.get m chunk) chunks ∙ f.0.is;
          inside = f.0.inside;
          unused = λ q is named i. elim ((leaf_inserted b.live leaf q).0 (ap (λ s. set.contains s q) (sym live) ∙ is)) [
            | inl same ↦ f.1 (sym named ∙ ap (λ (l : Leaf). l.chunk) same ∙ of.chunk) (in_piece at (subst (λ (l : Leaf). IsIn l.offset l.size at) same i))
            | inr old ↦ f.0.unused q old named i
          ];
        })
        (λ chunk at f. (
          record {
            held = f.held;
            is = ap (λ m. map.get m chunk) (sym chunks) ∙ f.is;
            inside = f.inside;
            unused = λ q is. f.unused q (ap (λ s. set.contains s q) live ∙ (leaf_inserted b.live leaf q).1 (inr is));
          },
          (λ same i. f.unused leaf (ap (λ s. set.contains s leaf) live ∙ (leaf_inserted b.live leaf leaf).1 (inl refl)) (of.chunk ∙ sym same) (in_leaf at i)),
        ))
        k.canonical

    -- a live block comes into hand
    pub returned : IsLiveLeaf b leaf → ((q : Leaf) → IsLiveLeaf b q → q.chunk ≡ leaf.chunk → (at : ℕ) → IsIn q.offset q.size at → IsIn leaf.offset leaf.size at → q ≡ leaf)
        → (held : Chunk) → map.get b.chunks x.chunk ≡ Some held → x.start + 2 ^ x.order ≤ held.size → IsMultipleOf (2 ^ x.order) x.start
        → b'.live ≡ set.remove b.live leaf → IsCanonical Has (IsFreeAt b) → IsCanonicalBeside Has (IsFreeAt b') x
    returned is_live apart held is inside aligned live k = record {
      canonical = same_bytes Has (IsFreeAt b) (Without (IsFreeAt b') x)
          (λ chunk at f. (
            record {
              held = f.held;
              is = ap (λ m. map.get m chunk) chunks ∙ f.is;
              inside = f.inside;
              unused = λ q t. f.unused q ((leaf_removed b.live leaf q).0 (ap (λ s. set.contains s q) (sym live) ∙ t)).1;
            },
            (λ same i. f.unused leaf is_live (of.chunk ∙ sym same) (in_leaf at i)),
          ))
          (λ chunk at f. record {
            held = f.0.held;
            is = ap (λ m. map.get m chunk) (sym chunks) ∙ f.0.is;
            inside = f.0.inside;
            unused = λ q t named i. elim (leaf_same_or_left b.live leaf q t) [
              | inl same ↦ f.1 (sym named ∙ ap (λ (l : Leaf). l.chunk) same ∙ of.chunk) (in_piece at (subst (λ (l : Leaf). IsIn l.offset l.size at) same i))
              | inr left ↦ f.0.unused q (ap (λ s. set.contains s q) live ∙ left) named i
            ];
          })
          k;
      aligned = aligned;
      inside = λ at i. record {
        held = held;
        is = ap (λ m. map.get m x.chunk) chunks ∙ is;
        inside = omega (arith, i.to, inside);
        unused = λ q t named j.
            let h = (leaf_removed b.live leaf q).0 (ap (λ s. set.contains s q) (sym live) ∙ t) in
            h.0 (apart q h.1 (named ∙ sym of.chunk) at j (in_leaf at i));
      };
    }

-- Chunks by key.

pub none_is_held : (o : Option Chunk) (held : Chunk) → o ≡ None → o ≡ Some held → ⊥
none_is_held o held none some = cc

-- Where free pieces lie.

-- the piece lies in a held chunk
pub record PieceLies (b : BuddySpace) (p : Piece) : Type 0 where
  pub held : Chunk
  pub is : map.get b.chunks p.chunk ≡ Some held
  pub inside : p.start + 2 ^ p.order ≤ held.size

pub free_lies : (b : BuddySpace) (p : Piece) → ((at : ℕ) → InPiece p at → IsFreeAt b p.chunk at) → PieceLies b p
free_lies b p free =
    let some = pow_pos p.order in
    let last = free (p.start + 2 ^ p.order - 1) (record { from = omega arith; to = omega arith }) in
    record { held = last.held; is = last.is; inside = omega (arith, last.inside) }

-- in chunks of at most 2^63 bytes
abbrev pub AreBounded : BuddySpace → Type 0
AreBounded b = (key : ℕ) (held : Chunk) → map.get b.chunks key ≡ Some held → held.size ≤ 2 ^ 63

pub bounded_piece : (b : BuddySpace) (p : Piece) → AreBounded b → PieceLies b p → (p.order ≤ 63) × (p.start + 2 ^ p.order ≤ 2 ^ 63)
bounded_piece b p bounded l =
    let end : p.start + 2 ^ p.order ≤ 2 ^ 63 = omega (arith, l.inside, bounded p.chunk l.held l.is) in
    (order-le p.order 63 (omega (arith, end)), end)

-- one that is as long as its chunk starts where the chunk does
pub whole_starts : (b : BuddySpace) (p : Piece) (held : Chunk) → map.get b.chunks p.chunk ≡ Some held → held.size ≡ 2 ^ p.order → ((at : ℕ) → InPiece p at → IsFreeAt b p.chunk at) → p.start ≡ 0
whole_starts b p held is length_is free =
    let l = free_lies b p free in
    let same : l.held ≡ held = one_value _ l.held held l.is is in
    let sizes : l.held.size ≡ held.size = ap (λ c. c.size) same in
    omega (arith, l.inside, sizes, length_is)

-- A chunk that is one piece.

module _ (Has : Piece → Type 0) (b b' : BuddySpace) (x : Piece) (chunk : Chunk) (length_is : chunk.size ≡ 2 ^ x.order) (live : b'.live ≡ b.live) where
  -- a new chunk comes into hand, wholly free
  pub chunk_comes : x.start ≡ 0 → map.get b.chunks x.chunk ≡ None → ((leaf : Leaf) → IsLiveLeaf b leaf → leaf.chunk ≡ x.chunk → ⊥)
      → b'.chunks ≡ map.insert b.chunks x.chunk chunk → IsCanonical Has (IsFreeAt b) → IsCanonicalBeside Has (IsFreeAt b') x
  chunk_comes starts new unused chunks k = record {
    canonical = same_bytes Has (IsFreeAt b) (Without (IsFreeAt b') x)
        (λ key at f.
        let other : key ≢ x.chunk = λ same. none_is_held _ f.held new (ap (λ n. map.get b.chunks n) (sym same) ∙ f.is) in (
          record {
            held = f.held;
            is = ap (λ m. map.get m key) chunks ∙ other_inserted b.chunks x.chunk chunk key other ∙ f.is;
            inside = f.inside;
            unused = λ leaf t. f.unused leaf (ap (λ s. set.contains s leaf) (sym live) ∙ t);
          },
          (λ same i. other same),
        ))
        (λ key at f. elim (cases_eq key x.chunk) [
          | inl same ↦ absurd (f.1 same (in_whole at (subst (λ c. at < c.size) (sym (here key f.0.held same f.0.is)) f.0.inside)))
          | inr other ↦ record {
            held = f.0.held;
            is = sym (other_inserted b.chunks x.chunk chunk key other) ∙ ap (λ m. map.get m key) (sym chunks) ∙ f.0.is;
            inside = f.0.inside;
            unused = λ leaf t. f.0.unused leaf (ap (λ s. set.contains s leaf) live ∙ t);
          }
        ])
        k;
    aligned = (0, omega (arith, starts, zero-mul (2 ^ x.order)));
    inside = λ at i. record {
      held = chunk;
      is = ap (λ m. map.get m x.chunk) chunks ∙ own_inserted b.chunks x.chunk chunk;
      inside = omega (arith, i.to, starts, length_is);
      unused = λ leaf t named j. unused leaf (ap (λ s. set.contains s leaf) (sym live) ∙ t) named;
    };
  }
    where
      in_whole : (at : ℕ) → at < chunk.size → InPiece x at
      in_whole at below = record { from = omega (arith, starts); to = omega (arith, starts, length_is, below) }

      here : (key : ℕ) (held : Chunk) → key ≡ x.chunk → map.get b'.chunks key ≡ Some held → chunk ≡ held
      here key held same is = one_value _ chunk held (ap (λ m. map.get m x.chunk) chunks ∙ own_inserted b.chunks x.chunk chunk) (ap (λ n. map.get b'.chunks n) (sym same) ∙ is)

  -- a chunk that is in hand as a whole goes
  pub chunk_goes : map.get b.chunks x.chunk ≡ Some chunk → b'.chunks ≡ map.remove b.chunks x.chunk → IsCanonicalBeside Has (IsFreeAt b) x → IsCanonical Has (IsFreeAt b')
  chunk_goes is chunks k = same_bytes Has (Without (IsFreeAt b) x) (IsFreeAt b')
      (λ key at f. elim (cases_eq key x.chunk) [
        | inl same ↦ absurd (f.1 same (in_whole at (subst (λ c. at < c.size) (sym (here key f.0.held same f.0.is)) f.0.inside)))
        | inr other ↦ record {
          held = f.0.held;
          is = ap (λ m. map.get m key) chunks ∙ kept_other b.chunks x.chunk key other ∙ f.0.is;
          inside = f.0.inside;
          unused = λ leaf t. f.0.unused leaf (ap (λ s. set.contains s leaf) (sym live) ∙ t);
        }
      ])
      (λ key at f.
      let other : key ≢ x.chunk = λ same. none_is_held _ f.held (gone b.chunks x.chunk) (ap (λ m. map.get m x.chunk) (sym chunks) ∙ ap (λ n. map.get b'.chunks n) (sym same) ∙ f.is) in (
        record {
          held = f.held;
          is = sym (kept_other b.chunks x.chunk key other) ∙ ap (λ m. map.get m key) (sym chunks) ∙ f.is;
          inside = f.inside;
          unused = λ leaf t. f.unused leaf (ap (λ s. set.contains s leaf) live ∙ t);
        },
        (λ same i. other same),
      ))
      k.canonical
    where
      starts : x.start ≡ 0
      starts = whole_starts b x chunk is length_is (λ at i. k.inside at i)

      in_whole : (at : ℕ) → at < chunk.size → InPiece x at
      in_whole at below = record { from = omega (arith, starts); to = omega (arith, starts, length_is, below) }

      here : (key : ℕ) (held : Chunk) → key ≡ x.chunk → map.get b.chunks key ≡ Some held → chunk ≡ held
      here key held same at = one_value _ chunk held is (ap (λ n. map.get b.chunks n) (sym same) ∙ at)

-- A chunk with a live block in it.

-- a chunk that is wholly free has no live block in it
pub whole_is_unused : (b : BuddySpace) (p : Piece) (held : Chunk) → map.get b.chunks p.chunk ≡ Some held → held.size ≡ 2 ^ p.order → ((at : ℕ) → InPiece p at → IsFreeAt b p.chunk at)
    → (leaf : Leaf) → IsLiveLeaf b leaf → leaf.chunk ≡ p.chunk → 0 < leaf.size → leaf.offset + leaf.size ≤ held.size → ⊥
whole_is_unused b p held is length_is free leaf t named some inside =
    let starts = whole_starts b p held is length_is free in
    (free leaf.offset (record { from = omega (arith, starts); to = omega (arith, starts, length_is, some, inside) })).unused leaf t named (record { from = omega arith; to = omega (arith, some) })

-- one that has none is kept as one piece
pub unused_is_kept : (Has : Piece → Type 0) (b : BuddySpace) (key order : ℕ) (held : Chunk) → IsCanonical Has (IsFreeAt b) → map.get b.chunks key ≡ Some held → held.size ≡ 2 ^ order
    → ((leaf : Leaf) → IsLiveLeaf b leaf → leaf.chunk ≡ key → ⊥) → Has (record { chunk = key; start = 0; order = order })
unused_is_kept Has b key order held k is length_is unused =
    whole_chunk Has (IsFreeAt b) k key order
    (λ at i. record { held = held; is = is; inside = omega (arith, i.to, length_is); unused = λ leaf t named j. unused leaf t named })
    (λ at f. let same : f.held ≡ held = one_value _ f.held held f.is is in
    let sizes : f.held.size ≡ held.size = ap (λ c. c.size) same in
    omega (arith, f.inside, sizes, length_is))
