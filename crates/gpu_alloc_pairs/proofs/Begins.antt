-- A chunk comes, and a block is made of its front.
use Rattle.std.proofs.Common.{◌≡◌, ◌≢◌, ℕ, ◌^◌, ◌<◌, ◌≤◌, List, length, Option, Some, None, refl, sym, ◌∙◌, ap, subst, arith, false}
use Rattle.std.proofs.Math.Nat.{zero-mul}
use Rattle.std.specs.FinMap as finite
use Rattle.std.specs.FinSet as set
use Rattle.slab.specs.Slab.{Slab}
use Rattle.gpu_alloc_base.specs.Accounts.{HeldChunks}
use Rattle.gpu_alloc_base.specs.Chunks.{Chunk, object_in}
use Rattle.gpu_alloc_base.specs.Pieces.{IsCanonical}
use Rattle.gpu_alloc_base.specs.declared.buddy_block.Leaf.{Leaf}
use Rattle.gpu_alloc_base.specs.declared.piece.Piece.{Piece}
use Rattle.gpu_alloc_base.proofs.AlignedPowers.{pow-le}
use Rattle.gpu_alloc_base.proofs.ListedRanges.{told_object}
use Rattle.gpu_alloc_base.proofs.Maps.{own_inserted, other_inserted}
use Rattle.gpu_alloc_pairs.specs.Entry.{Entry}
use Rattle.gpu_alloc_pairs.specs.Halves.{HalfAt, leaf_of, live_leaves}
use Rattle.gpu_alloc_pairs.specs.InHand.{IsSplitting, IsTakenMore, IsTakenOut}
use Rattle.gpu_alloc_pairs.specs.Lengths.{whole_of}
use Rattle.gpu_alloc_pairs.specs.Space.{BuddySpace, IsFreeAt, IsSoundBuddySpace, BeginsChunk, chunks_with, with_chunk, with_leaf}
use Rattle.gpu_alloc_pairs.specs.Store.{buddy_space_in, IsStored}
use Rattle.gpu_alloc_pairs.specs.Tree.{Pairs, IsHalf, IsReady, IsPlaced, IsTree, pair_at}
use Rattle.gpu_alloc_pairs.specs.declared.pair.Parent.{Parent}
use Rattle.gpu_alloc_pairs.specs.declared.pair.Side.TheVariants.{Left}
use Rattle.gpu_alloc_pairs.specs.declared.pair.Use.TheVariants.{Taken}
use Rattle.gpu_alloc_pairs.proofs.Halves.{live_leaves_are, same_live}
use Rattle.gpu_alloc_pairs.proofs.Sound.{no_leaf_at, sound_with_chunk}
use Rattle.gpu_alloc_pairs.proofs.Space.{IsLeafOf, chunk_comes, granted}
use Rattle.gpu_alloc_pairs.proofs.Stored.{leaf_is, live_with}

-- Chunks in which no pair lies come and go.

pub tree_chunks : (P : Pairs) (chunks more : HeldChunks) → ((n k : ℕ) (f : Entry) → P n k ≡ Some f → finite.get more f.chunk ≡ finite.get chunks f.chunk) → IsTree P chunks → IsTree P more
tree_chunks P chunks more same t = record {
  placed = λ n k f at. moved n k f f.parent at (t.placed n k f at);
  aligned = t.aligned;
  inside = λ n k f at. let l = t.inside n k f at in record { chunk = l.chunk; held = same n k f at ∙ l.held; inside = l.inside };
  one_place = t.one_place;
}
  where
    moved : (n k : ℕ) (f : Entry) (o : Option Parent) → P n k ≡ Some f → IsPlaced P chunks n f o → IsPlaced P more n f o
    moved n k f None at root = record { chunk = root.chunk; held = same n k f at ∙ root.held; size = root.size; offset = root.offset }
    moved n k f (Some p) at d = d

pub live_chunks : (chunks more : HeldChunks) (lengths : List (Slab Entry)) → ((n k : ℕ) (f : Entry) → pair_at lengths n k ≡ Some f → finite.get more f.chunk ≡ finite.get chunks f.chunk)
    → live_leaves more lengths ≡ live_leaves chunks lengths
live_chunks chunks more lengths same = same_live (live_leaves more lengths) (live_leaves chunks lengths)
    (λ q t. let w = (live_leaves_are more lengths q).0 t in (live_leaves_are chunks lengths q).1 (w.0, (w.1.0, sym (told w.0 w.1.0) ∙ w.1.1)))
    (λ q t. let w = (live_leaves_are chunks lengths q).0 t in (live_leaves_are more lengths q).1 (w.0, (w.1.0, told w.0 w.1.0 ∙ w.1.1)))
  where
    -- the block is of the same object
    told : (h : HalfAt) → IsHalf (pair_at lengths) h.piece h.key h.side Taken → leaf_of more h ≡ leaf_of chunks h
    told h half =
        let is : finite.get more (h.piece).chunk ≡ finite.get chunks (h.piece).chunk =
        ap (finite.get more) half.chunk ∙ same (h.piece).order h.key half.entry half.pair ∙ ap (finite.get chunks) (sym half.chunk) in
        λ i. record { object = object_in (is i); chunk = (h.piece).chunk; offset = (h.piece).start; size = 2 ^ (h.piece).order; index = h.key }

-- A chunk comes.

module _ (chunks : HeldChunks) (old new : List (Slab Entry)) (i : IsStored chunks old) (leaf : Leaf) (n order : ℕ) (vacant : finite.get chunks leaf.chunk ≡ None)
    (unheld : (k : ℕ) (c : Chunk) → finite.get chunks k ≡ Some c → c.object ≡ leaf.object → ⊥) (short : n ≤ 63) (longer : order < n) (start : leaf.offset ≡ 0) (size : leaf.size ≡ 2 ^ order) where
  abbrev s : BuddySpace
  s = buddy_space_in chunks old

  abbrev more : HeldChunks
  more = chunks_with chunks leaf (2 ^ n)

  abbrev mid : BuddySpace
  mid = with_chunk s leaf (2 ^ n)

  abbrev whole : Piece
  whole = whole_of leaf.chunk n

  -- the pairs lie in other chunks
  elsewhere : (m k : ℕ) (f : Entry) → pair_at old m k ≡ Some f → f.chunk ≢ leaf.chunk
  elsewhere m k f at same =
      let l = i.tree.inside m k f at in
      none (finite.get chunks f.chunk) l.chunk (ap (finite.get chunks) same ∙ vacant) l.held
    where
      none : (o : Option Chunk) (c : Chunk) → o ≡ None → o ≡ Some c → ⊥
      none o c x y = cc

  others_same : (m k : ℕ) (f : Entry) → pair_at old m k ≡ Some f → finite.get more f.chunk ≡ finite.get chunks f.chunk
  others_same m k f at = other_inserted chunks leaf.chunk (record { object = leaf.object; size = 2 ^ n }) f.chunk (elsewhere m k f at)

  -- it is in hand as a whole
  pub chunk_in_hand : IsSplitting (pair_at old) mid whole None
  chunk_in_hand = record {
    tree = tree_chunks (pair_at old) chunks more others_same i.tree;
    hand = record {
      chunk = record { object = leaf.object; size = 2 ^ n };
      held = own_inserted chunks leaf.chunk (record { object = leaf.object; size = 2 ^ n });
      size = refl;
      start = refl;
      alone = elsewhere;
    };
    beside = chunk_comes (IsReady (pair_at old)) s mid whole (record { object = leaf.object; size = 2 ^ n }) refl refl refl vacant (λ q live same. no_leaf_at s leaf.chunk i.sound vacant q live same) refl i.canonical;
  }

  pub begins : BeginsChunk s (2 ^ order) leaf
  begins = record { of_size = size; start = start; free_key = vacant }

  module _ (count : length new ≡ length old)
      (out : (t : BuddySpace) → IsSplitting (pair_at old) t whole None → IsTakenOut (pair_at new) t (whole_of leaf.chunk order) leaf.index Left false)
      (takes : IsTakenMore (pair_at old) (pair_at new) (whole_of leaf.chunk order) leaf.index Left) where
    abbrev z : Piece
    z = whole_of leaf.chunk order

    of : IsLeafOf leaf z
    of = record { chunk = refl; offset = start; size = size }

    taken : IsTakenOut (pair_at new) mid z leaf.index Left false
    taken = out mid chunk_in_hand

    pub begun_space : buddy_space_in more new ≡ with_leaf mid leaf
    begun_space =
        ap (λ l. record { chunks = more; live = l })
        (live_with more old new z leaf.index Left leaf (leaf_is more z leaf.index Left leaf of refl (sym (told_object (finite.get more leaf.chunk) (record { object = leaf.object; size = 2 ^ n }) (own_inserted chunks leaf.chunk (record { object = leaf.object; size = 2 ^ n }))))) takes
        ∙ ap (λ l. set.insert l leaf) (live_chunks chunks more old others_same))

    pub stored_begun : IsStored more new
    stored_begun = record {
      count = count ∙ i.count;
      tree = taken.tree;
      canonical = subst (λ (t : BuddySpace). IsCanonical (IsReady (pair_at new)) (IsFreeAt t)) (sym begun_space) (granted leaf z of (IsReady (pair_at new)) mid (with_leaf mid leaf) refl refl taken.beside);
      sound = subst IsSoundBuddySpace (sym begun_space) (sound_with_chunk s leaf (2 ^ n) i.sound (n, (short, refl)) vacant unheld (order, size) (0, start ∙ sym (zero-mul leaf.size)) (omega (arith, start, size, pow-le order n (omega arith))));
    }
