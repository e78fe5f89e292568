-- A block is taken from a free half that was found, once room was made.
use Rattle.std.proofs.Common.{◌≡◌, inl, inr, ℕ, ◌+◌, ◌-◌, ◌*◌, ◌^◌, ◌<◌, ◌≤◌, List, length, Option, Some, None, IfSome, IfNone, sym, ◌∙◌, ap, subst, arith}
use Rattle.std.specs.FinMap as finite
use Rattle.slab.specs.Slab.{Slab}
use Rattle.gpu_alloc_base.specs.Accounts.{HeldChunks}
use Rattle.gpu_alloc_base.specs.Chunks.{Chunk}
use Rattle.gpu_alloc_base.specs.FreeSpace.{IsFreePiece}
use Rattle.gpu_alloc_base.specs.Pieces.{IsCanonical}
use Rattle.gpu_alloc_base.specs.declared.buddy_block.Leaf.{Leaf}
use Rattle.gpu_alloc_base.proofs.AlignedPowers.{pow-from_shorter, pow-le}
use Rattle.gpu_alloc_pairs.specs.Entry.{Entry, half_start}
use Rattle.gpu_alloc_pairs.specs.Lengths.{FindsNoneUpTo, HasSameSlots, IsFound, IsFreeHalf, IsFrontTaken, LooksUpTo, piece_of}
use Rattle.gpu_alloc_pairs.specs.Space.{BuddySpace, HasPlace, IsFreeAt, IsFront, with_leaf}
use Rattle.gpu_alloc_pairs.specs.Store.{buddy_space_in, CountsFront, CountsSearch, IsShortest, IsStored}
use Rattle.gpu_alloc_pairs.specs.Tree.{Pairs, IsReady, IsTree, pair_at}
use Rattle.gpu_alloc_pairs.specs.declared.lengths.Found.{Found}
use Rattle.gpu_alloc_pairs.specs.declared.lengths.Front.{Front}
use Rattle.gpu_alloc_pairs.specs.declared.pair.Side.{Side}
use Rattle.gpu_alloc_pairs.specs.declared.pair.Side.TheVariants.{Left, Right}
use Rattle.gpu_alloc_pairs.proofs.Space.{IsLeafOf}
use Rattle.gpu_alloc_pairs.proofs.Stored.{found_is_piece, found_is_shortest, no_place, found_lies, found_place, front_found, same_pairing, same_space, stored_same, stored_taken, taken_live}

-- how many lengths are looked at until then
pub counts_search : (chunks : HeldChunks) (lengths : List (Slab Entry)) (order : ℕ) (found : Option Found) (looks now : ℕ) → IsStored chunks lengths → order ≤ 62 → IfNone found (FindsNoneUpTo (pair_at lengths) order 63) → IfSome found (IsFound (pair_at lengths) order)
    → LooksUpTo order found looks now → CountsSearch (buddy_space_in chunks lengths) (2 ^ order) looks now
counts_search chunks lengths order (Some f) looks now i short none some looked =
    let long : 2 ^ order * 2 ^ (f.order - order) ≡ 2 ^ f.order = omega (arith, pow-from_shorter order f.order some.from) in
    record {
      doublings = f.order - order;
      few = omega (arith, some.to);
      last = inl (subst (IsShortest (buddy_space_in chunks lengths) (2 ^ order)) (sym long) (found_is_shortest chunks lengths i order f some));
      looked = omega (arith, looked, some.from);
    }
counts_search chunks lengths order None looks now i short none some looked =
    let long : 2 ^ order * 2 ^ (62 - order) ≡ 2 ^ 62 = omega (arith, pow-from_shorter order 62 short) in
    record { doublings = 62 - order; few = omega arith; last = inr (no_place chunks lengths i order none, long); looked = omega (arith, looked, short) }

-- the block that is taken
abbrev pub front_leaf : ℕ → Front → ℕ → Leaf
front_leaf object front order = record { object = object; chunk = front.chunk; offset = front.offset; size = 2 ^ order; index = front.key }

module _ (chunks : HeldChunks) (old mid : List (Slab Entry)) (i : IsStored chunks old) (same : HasSameSlots old mid) (order : ℕ) (f : Found) (found : IsFound (pair_at old) order f) where
  stored_mid : IsStored chunks mid
  stored_mid = stored_same chunks old mid same i

  found_mid : IsFound (pair_at mid) order f
  found_mid = subst (λ (P : Pairs). IsFound P order f) (sym (same_pairing chunks old mid same)) found

  pub place_old : HasPlace (buddy_space_in chunks old) (2 ^ order)
  place_old = found_place chunks old i order f found

  pub mid_range : f.order < length mid
  mid_range = omega (arith, found.to, stored_mid.count)

  pub mid_half : IsFreeHalf (pair_at mid) f.order f.half
  mid_half = found_mid.half

  -- its chunk is held, and of at most 2^63 bytes
  pub chunk_held : (c : Chunk) × (finite.get chunks (f.half).chunk ≡ Some c)
  chunk_held = let l = found_lies chunks old i order f found in (l.0, l.1.0)

  pub half_bounded : (f.half).offset + 2 ^ f.order < 2 ^ 64
  half_bounded =
      let l = found_lies chunks old i order f found in
      let power = i.sound.powers (f.half).chunk l.0 l.1.0 in
      by_side (f.half).side (omega (arith, l.1.1, power.1.1, pow-le power.0 63 power.1.0))
    where
      by_side : (side : Side) → half_start (2 ^ f.order) (f.half).offset side + 2 ^ f.order ≤ 2 ^ 63 → (f.half).offset + 2 ^ f.order < 2 ^ 64
      by_side Left le = omega (arith, le)
      by_side Right le = omega (arith, le)

  module _ (new : List (Slab Entry)) (front : Front) (leaf : Leaf) (c : Chunk) (chunk_is : front.chunk ≡ (f.half).chunk) (offset_is : front.offset ≡ half_start (2 ^ f.order) (f.half).offset (f.half).side)
      (taken : (s : BuddySpace) → IsTree (pair_at mid) s.chunks → IsCanonical (IsReady (pair_at mid)) (IsFreeAt s) → IsFrontTaken (pair_at mid) (pair_at new) s order front)
      (count : length new ≡ length mid) (leaf_is : leaf ≡ front_leaf leaf.object front order) (held : finite.get chunks (f.half).chunk ≡ Some c) (object : leaf.object ≡ c.object) where
    of : IsLeafOf leaf (piece_of front order)
    of = record { chunk = ap (λ (l : Leaf). l.chunk) leaf_is; offset = ap (λ (l : Leaf). l.offset) leaf_is; size = ap (λ (l : Leaf). l.size) leaf_is }

    out : IsFrontTaken (pair_at mid) (pair_at new) (buddy_space_in chunks mid) order front
    out = taken (buddy_space_in chunks mid) stored_mid.tree stored_mid.canonical

    pub stored_new : IsStored chunks new
    stored_new = stored_taken chunks mid new stored_mid order front leaf c out count of (ap (λ (l : Leaf). l.index) leaf_is) (ap (finite.get chunks) chunk_is ∙ held) object

    pub takes_front : IsFront (buddy_space_in chunks old) (2 ^ order) leaf × (buddy_space_in chunks new ≡ with_leaf (buddy_space_in chunks old) leaf)
    takes_front = (
      front_found chunks old i order f found leaf c (of.chunk ∙ chunk_is) (of.offset ∙ offset_is) of.size held object,
      taken_live chunks mid new stored_mid order front leaf c out count of (ap (λ (l : Leaf). l.index) leaf_is) (ap (finite.get chunks) chunk_is ∙ held) object
          ∙ ap (λ s. with_leaf s leaf) (same_space chunks old mid same),
    )

    pub counts_front : (looks now splits after : ℕ) → now + order ≡ looks + f.order + 1 → after + order ≡ splits + f.order → CountsFront (buddy_space_in chunks old) leaf looks now splits after
    counts_front looks now splits after looked split =
        let long : leaf.size * 2 ^ (f.order - order) ≡ 2 ^ f.order =
        ap (λ n. n * 2 ^ (f.order - order)) of.size ∙ omega (arith, pow-from_shorter order f.order found.from) in
        record {
          doublings = f.order - order;
          few = omega (arith, found.to, found.from);
          piece = subst (λ n. IsFreePiece (IsFreeAt (buddy_space_in chunks old)) leaf.chunk leaf.offset n) (sym long)
              (subst (λ a. IsFreePiece (IsFreeAt (buddy_space_in chunks old)) leaf.chunk a (2 ^ f.order)) (sym (of.offset ∙ offset_is))
              (subst (λ k. IsFreePiece (IsFreeAt (buddy_space_in chunks old)) k (half_start (2 ^ f.order) (f.half).offset (f.half).side) (2 ^ f.order)) (sym (of.chunk ∙ chunk_is)) (found_is_piece chunks old i order f found)));
          looked = omega (arith, looked, found.from);
          split = omega (arith, split, found.from);
        }
