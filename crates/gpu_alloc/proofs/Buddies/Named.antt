-- Buddy chunks in the whole allocator: where their allocators stand among the fields, and their requests by names.
use Rattle.std.proofs.Common.{◌≡◌, inl, inr, ℕ, zero, suc, ◌+◌, ◌*◌, ◌^◌, List, [], ◌∷◌, Some, cond, nat_le, true, false, refl, sym, ◌∙◌, ap, subst, arith, Option, None}
use Rattle.std.proofs.lemmas.Nat.{pow_pos}
use Rattle.std.specs.Prelude.{max}
use Rattle.std.specs.FinMap as map
use Rattle.gpu_alloc_types.specs.Device.{Event}
use Rattle.gpu_alloc_types.specs.Device.Event.{Deallocated}
use Rattle.gpu_alloc_base.specs.Accounts.{Account, account}
use Rattle.gpu_alloc_base.specs.Chunks.{Chunk, object_in}
use Rattle.gpu_alloc_base.specs.FreeSpace.{IsFreePiece, IsPowerOfTwo}
use Rattle.gpu_alloc_base.specs.NewChunk.{flags_of}
use Rattle.gpu_alloc_base.specs.Sizes.{doubled_up, next_power_of_two}
use Rattle.gpu_alloc_base.specs.Wanted.{wanted}
use Rattle.gpu_alloc_base.specs.declared.buddy_block.Leaf.{Leaf}
use Rattle.gpu_alloc_base.specs.declared.heap.Heap.{Heap}
use Rattle.gpu_alloc_base.proofs.AlignedPowers.{pow-le}
use Rattle.gpu_alloc_base.proofs.Leaves.{leaf_exact, leaf_total}
use Rattle.gpu_alloc_base.proofs.Maps.{one_value}
use Rattle.gpu_alloc_block.specs.State.{Block, Span, State, TypeState}
use Rattle.gpu_alloc_block.specs.declared.block.Kind.TheVariants.{BuddyChunk}
use Rattle.gpu_alloc_buddy.specs.Buddy as buddy
use Rattle.gpu_alloc_buddy.specs.Buddy.{buddy_case, case_of}
use Rattle.gpu_alloc_buddy.specs.BuddyRule.{buddy_lawful, buddy_rule}
use Rattle.gpu_alloc_buddy.specs.BuddySound.{IsSoundBuddy}
use Rattle.gpu_alloc_buddy.specs.BuddyState.{Buddy, IsBuddyFront, IsFreeInBuddy, IsLiveBuddyLeaf, IsLiveBuddySpan, chunk_size}
use Rattle.gpu_alloc_shared.specs.Shared as shared
use Rattle.gpu_alloc_shared.specs.Shared.{without_block}
use Rattle.gpu_alloc.specs.BuddySharing.{HasBuddyPlace, buddy_block, buddy_question, next_chunk_of, object_front, with_buddy_chunk, with_next_chunk}
use Rattle.gpu_alloc.specs.Candidates.{IsFrontBlock, buddy_candidate, candidate}
use Rattle.gpu_alloc.specs.FreeBytes.{IsFreeByte}
use Rattle.gpu_alloc.specs.StoresFor.{IsBuddyFor, IsForType}
use Rattle.gpu_alloc.specs.Stores.{IsChosenFor, chosen_part, chosen_sizes}
use Rattle.gpu_alloc.specs.Whole.{part_side}
use Rattle.gpu_alloc.specs.declared.allocator.stores.Chosen.{Chosen}
use Rattle.gpu_alloc.specs.declared.allocator.stores.Chosen.TheVariants.{Buddy as InBuddies, Fit as InFits}
use Rattle.gpu_alloc.specs.declared.allocator.Strategy.TheVariants.{InBuddyChunk}
use Rattle.gpu_alloc.specs.declared.request.Request.{Request}
use Rattle.gpu_alloc.proofs.Shared.Calls.{IsBlockOf, ReleasesAtOnce}
use Rattle.gpu_alloc.proofs.Shared.Free.{IsCopy, piece_from, piece_to, some_place_from, some_place_to}
use Rattle.gpu_alloc.proofs.Shared.Stores.{AreAsked, IsLinked, IsNamed, IsPlain, IsRequest, Named, Serves, block_at, table_of, bytes_are, unused_is, unused_was}
use Rattle.gpu_alloc.proofs.Shared.Types.{changed}
use Rattle.gpu_alloc.proofs.Wholes.{one_buddy}

abbrev pub buddy_in : {M X : Type 0} → Chosen M X → Option Buddy
buddy_in (InBuddies b) = Some b
buddy_in (InFits f) = None

chosen_is : {M X : Type 0} (c : Chosen M X) (x : Buddy) → buddy_in c ≡ Some x → c ≡ InBuddies x
chosen_is (InBuddies b) x is = (let it : b ≡ x = cc in ap InBuddies it)
chosen_is (InFits f) x is = absurd (cc)

abbrev pub buddy_named : Named buddy_rule
buddy_named = record {
  kind = λ key. BuddyChunk;
  get = λ e. buddy_in e.chosen;
  put = λ e b. record e { chosen = InBuddies b };
  side = 0;
  IsFor = IsBuddyFor;
  IsOf = IsForType;
  sizes = λ b type. record type { next_chunk = b.next_chunk };
  Free = IsFreeInBuddy;
  IsSome = λ order. Unit {0};
  HasPlace = λ s i order. HasBuddyPlace s i (2 ^ order);
  IsTaken = λ s i order. IsFrontBlock s i (2 ^ order);
  HasNumber = λ s i. Unit {0};
  size = λ s i order. (buddy_question s i (2 ^ order)).size;
  new_block = λ s i order object. buddy_block s i (object_front object (2 ^ order));
  with_chunk = with_buddy_chunk;
}

-- a memory type's next chunk is one of its sizes
next_changed : (types : List TypeState) (i size : ℕ) → with_next_chunk types i size ≡ changed (λ type. record type { next_chunk = size }) types i
unfolding with_next_chunk
next_changed [] i size = refl
next_changed (type ∷ types) zero size = refl
next_changed (type ∷ types) (suc i) size = ap (λ ts. type ∷ ts) (next_changed types i size)

size_is : (s : State) (i : ℕ) (b : Buddy) (order : ℕ) → Serves buddy_named s i b → chunk_size b (2 ^ order) ≡ (buddy_question s i (2 ^ order)).size
size_is s i b order serves = λ k. max (sym (serves.next next_chunk_of b.next_chunk (λ type. refl)) k) (2 * 2 ^ order)

pub buddy_is_named : IsNamed buddy_named
buddy_is_named = record {
  lawful = buddy_lawful;
  shared = λ key. refl;
  total = leaf_total;
  exact = leaf_exact;
  got = λ e b. refl;
  same = λ e b is k. record e { chosen = sym (chosen_is e.chosen b is) k };
  twice = λ e b new. refl;
  part_there = λ e b is. ap chosen_part (chosen_is e.chosen b is);
  part_set = λ e b new is. refl;
  side_small = omega arith;
  placed = λ key kind is. ap part_side is;
  each = λ c p sharing i e b are is. (subst (IsChosenFor c p sharing i) (chosen_is e.chosen b is) are.chosen).1;
  each_put = λ c p sharing i e b new are is of. record { chosen = ((subst (IsChosenFor c p sharing i) (chosen_is e.chosen b is) are.chosen).0, of); free_list = are.free_list };
  for_is = λ c p i b is. (is.for_type, is.sound);
  for_of = λ c p i b of sound. record { for_type = of; sound = sound };
  of_type = λ c p i b of. (of.memory_type, of.props);
  of_less = λ c p i b chunks live of fewer. record { memory_type = of.memory_type; props = of.props; atom = of.atom; minimal = of.minimal };
  of_more = λ c p i b heap order leaf of sound begins now. record { memory_type = of.memory_type; props = of.props; atom = of.atom; minimal = of.minimal };
  types_put = λ e b new type is k. record (chosen_sizes (sym (chosen_is e.chosen b is) k) (record type { list_chunk = e.free_list.next_chunk; number = e.free_list.space.latest })) { next_chunk = new.next_chunk };
  sizes_kept = λ b chunks live. refl;
  grown = λ s i b heap order leaf serves begins.
      let types_now = next_changed s.types i _ ∙ (λ k. changed (λ type. record type { next_chunk = sym (size_is s i b order serves) k }) s.types i) in
      λ k. record (with_buddy_chunk s i leaf.object (buddy_question s i (2 ^ order)).size) { types = types_now k };
  one_span = one_buddy;
  some = λ b sound leaf live. let lies = sound.space.inside leaf live in omega (arith, lies.power.1, pow_pos lies.power.0);
  free_is = λ b key at free. record { held = free.held; is = free.is; inside = free.inside; unused = free.unused };
  free_was = λ b key at free. record { held = free.held; is = free.is; inside = free.inside; unused = free.unused };
  small = λ b sound key c held. let power = sound.space.powers key c held in omega (arith, power.1.1, pow-le power.0 63 power.1.0);
}

-- Requests.

-- what doubling finds is a power of two
doubled_power : (n j x : ℕ) → IsPowerOfTwo (doubled_up n (2 ^ j) x)
unfolding doubled_up
doubled_power zero j x = (j, refl)
doubled_power (suc n) j x = elim (nat_le x (2 ^ j)) as (λ b. IsPowerOfTwo (cond b (2 ^ j) (doubled_up n (2 * 2 ^ j) x))) [
  | true ↦ (j, refl)
  | false ↦ let double : 2 ^ suc j ≡ 2 * 2 ^ j = omega arith in subst (λ p. IsPowerOfTwo (doubled_up n p x)) double (doubled_power n (suc j) x)
]

module _ (s : State) (i : ℕ) (b : Buddy) (serves : Serves buddy_named s i b) where
  pub buddy_bytes : IsCopy (IsFreeInBuddy b) (IsFreeByte s i BuddyChunk) (λ key. object_in (map.get b.chunks key))
  buddy_bytes = bytes_are buddy_is_named s i b serves BuddyChunk (λ key. refl)

  -- a block at the front of a piece is one
  front_block : (order : ℕ) (leaf : Leaf) → IsBuddyFront b (2 ^ order) leaf → IsFrontBlock s i (2 ^ order) (block_at buddy_named s i leaf)
  front_block order leaf front = record {
    is = refl;
    front = record {
      of_size = front.of_size;
      length = front.length;
      piece = subst (λ o. IsFreePiece (IsFreeByte s i BuddyChunk) o leaf.offset front.length) (ap object_in front.held ∙ sym front.object) (piece_to buddy_bytes leaf.chunk leaf.offset front.length front.piece);
      enough = front.enough;
      shortest = λ object start other piece. let w = piece_from buddy_bytes object start other piece in front.shortest w.0 start other w.2;
    };
  }

  -- the request as each of both has it
  pub buddy_request : (r : Request) (heap : Heap) (remaining flags : ℕ) → flags ≡ flags_of s.properties → IsRequest buddy_named s i b heap remaining (case_of (account b heap remaining) (wanted r.size r.align_mask flags)) (candidate InBuddyChunk s r i)
  buddy_request r heap remaining flags is =
      let of = serves.of in
      let power = doubled_power 64 0 (max (max r.size (r.align_mask + 1)) (max b.atom b.minimal)) in
      record {
        ask = power.0;
        flags = flags;
        some = tt;
        flags_are = is;
        to_store = ap (λ size. buddy_case (account b heap remaining) size flags) power.1;
        by_name = (λ k. buddy_candidate s (next_power_of_two (max (max r.size (r.align_mask + 1)) (max (sym of.atom k) (sym of.minimal k)))) i) ∙ ap (λ size. buddy_candidate s size i) power.1;
      }

pub buddy_asked : AreAsked buddy_named
buddy_asked = record {
  place = λ s i b order serves. some_place_to (buddy_bytes s i b serves) (2 ^ order);
  place_was = λ s i b order serves some. some_place_from (buddy_bytes s i b serves) (2 ^ order);
  number = λ s i b serves has. has;
  number_was = λ s i b serves has. has;
  size = λ s i b heap order serves. size_is s i b order serves;
  taken = λ s i b order leaf serves. front_block s i b serves order leaf;
  begun = λ s i b heap order leaf serves begins k. buddy_block s i (record { object = leaf.object; offset = begins.start k; size = begins.of_size k });
}

-- Returns.

-- what goes with a block: its chunk, where no other is live in it
pub buddy_at_once : (b : Buddy) (leaf : Leaf) (s : State) (c : Chunk) → map.get b.chunks leaf.chunk ≡ Some c → IsLinked buddy_named (table_of s) (without_block buddy_rule b leaf) → IsPlain buddy_named (without_block buddy_rule b leaf) → ReleasesAtOnce buddy_named b leaf s c
buddy_at_once b leaf s c is linked plain = record {
  goes = λ unused. (unused, inl (unused_is s (without_block buddy_rule b leaf) linked plain leaf.chunk c is unused, refl));
  stays = λ used. inr ((λ unused. used (unused_was s (without_block buddy_rule b leaf) linked plain leaf.chunk c is unused)), refl);
}

-- what was released was its chunk's object
pub freed_by_rule : (a new : Account Buddy) (leaf : Leaf) (es : List Event) → IsSoundBuddy a.allocator → IsLiveBuddyLeaf a.allocator leaf → buddy.Frees a leaf es new → shared.Frees buddy_rule a leaf es new
freed_by_rule a new leaf es sound live (inl kept) = inl kept
freed_by_rule a new leaf es sound live (inr gone) =
    let lies = sound.space.inside leaf live in
    let chunk = one_value _ lies.chunk gone.1.0 lies.held gone.1.1 in
    inr (gone.0, (gone.1.0, gone.1.1, (gone.1.2.0 ∙ ap (λ object. Deallocated object ∷ []) (lies.object ∙ ap (λ (c : Chunk). c.object) chunk), gone.1.2.1)))

-- a block of the whole allocator, as a live block of its span
pub leaf_there : (b : Buddy) (block : Block) (leaf : Leaf) → IsBlockOf buddy_named b leaf block → IsLiveBuddySpan b block.object block.offset block.size leaf
leaf_there b block leaf is = record { live = is.live; of_object = sym (ap (λ (x : Span). x.object) is.span); starts = sym (ap (λ (x : Span). x.offset) is.span); of_size = sym (ap (λ (x : Span). x.size) is.span) }

-- and the other way round
pub leaf_is : (b : Buddy) (block : Block) (leaf : Leaf) → block.kind ≡ BuddyChunk → IsLiveBuddySpan b block.object block.offset block.size leaf → IsBlockOf buddy_named b leaf block
leaf_is b block leaf kind is = record { live = is.live; span = λ k. record { object = sym is.of_object k; offset = sym is.starts k; size = sym is.of_size k }; kind = kind }
