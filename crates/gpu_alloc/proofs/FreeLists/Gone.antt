-- Chunks that go out of a memory type's free list: which may go, as the free list and as the whole allocator's state say, and
-- what is left of the fields when they went.
use Rattle.std.proofs.Common.{◌≡◌, ℕ, ◌+◌, ◌<◌, Bool, true, List, [], ◌∷◌, length, get_or, map, Option, Some, None, IsSome, Contains, refl, sym, ◌∙◌, ap, subst, arith, set-set}
use Rattle.std.proofs.Math.ListN.{set}
use Rattle.std.proofs.lemmas.List.{get_or-map, get_or-set_same, length-map}
use Rattle.std.proofs.lemmas.List.Elements.{Contains-get_or}
use Rattle.std.proofs.lemmas.Simd.{map-map}
use Rattle.std.specs.FinMap as finite
use Rattle.gpu_alloc_types.specs.Device.{Event, Object, put as put_object}
use Rattle.gpu_alloc_types.specs.Device.Event.{Deallocated}
use Rattle.gpu_alloc_types.specs.Properties.{Properties}
use Rattle.gpu_alloc_base.specs.Accounts.{Account, account}
use Rattle.gpu_alloc_base.specs.Chunks.{Chunk, object_in}
use Rattle.gpu_alloc_base.specs.declared.free_list_block.Slot.{Slot}
use Rattle.gpu_alloc_base.specs.declared.heap.Heap.{Heap}
use Rattle.gpu_alloc_base.proofs.Maps.{found_value}
use Rattle.gpu_alloc_base.proofs.SameRuns.{last_run_same, same_back}
use Rattle.gpu_alloc_block.specs.Agreement.{Agrees}
use Rattle.gpu_alloc_block.specs.State.{Block, State, granted_block}
use Rattle.gpu_alloc_block.specs.declared.block.Kind.TheVariants.{FreeListChunk}
use Rattle.gpu_alloc_freelist.specs.FreeList.{IsWhollyFree, MayGo}
use Rattle.gpu_alloc_freelist.specs.FreeListAllocator.{AreReleased, LetsWholeChunksGo, account_without, object_of, without_objects_of}
use Rattle.gpu_alloc_freelist.specs.FreeListSound.{IsSoundFreeList}
use Rattle.gpu_alloc_freelist.specs.FreeListState.{FreeListState, ListSpace}
use Rattle.gpu_alloc_freelist.proofs.ForCallers.{account_without_chunk, all_go, sound_without_chunk, sound_without_slot}
use Rattle.gpu_alloc.specs.FreeListSharing.{IsListChunk}
use Rattle.gpu_alloc.specs.Own.{OwnTable}
use Rattle.gpu_alloc.specs.Release.{AreChunksReleased, ListChunkMayGo, ReleasedWith, without_objects, without_span}
use Rattle.gpu_alloc.specs.Stores.{AreStores}
use Rattle.gpu_alloc.specs.declared.allocator.stores.TypeStores.{TypeStores}
use Rattle.gpu_alloc.specs.declared.limits.Limits.{Limits}
use Rattle.gpu_alloc.proofs.Agreeing.{agrees_returned, agrees_without_span}
use Rattle.gpu_alloc.proofs.FreeLists.Named.{chunk_is, chunk_was, list_bytes, list_is_named, list_named}
use Rattle.gpu_alloc.proofs.GoneObjects.{without_these}
use Rattle.gpu_alloc.proofs.HeapLists.{properties_kept}
use Rattle.gpu_alloc.proofs.Shared.Calls.{Handed, IsBlockOf, IsLeft, IsReturned, Stood, are_set, as_returned, before, handed_then, heap_inside, is_at, its, keep, left_then, own_chunk, put_same, released, same_set, serves, state_of, stood, went}
use Rattle.gpu_alloc.proofs.Shared.Stores.{IsPlain, Serves, linked, plain_of, put, unused_is, unused_was}

-- Which may go.

-- what a list has, and what its image has
contains_map : (f : ℕ → ℕ) (xs : List ℕ) (x : ℕ) → Contains xs x → Contains (map f xs) (f x)
contains_map f xs x has = (has.0, omega (arith, has.1, length-map xs f), get_or-map f xs has.0 x (f x) has.1 ∙ ap f has.2)

map_contains : (f : ℕ → ℕ) (xs : List ℕ) (y : ℕ) → Contains (map f xs) y → (x : ℕ) × (Contains xs x × (f x ≡ y))
map_contains f xs y has =
    let within : has.0 < length xs = omega (arith, has.1, length-map xs f) in
    (get_or xs has.0 0, (Contains-get_or xs has.0 0 within, sym (get_or-map f xs has.0 0 y within) ∙ has.2))

module _ (s : State) (i : ℕ) (l : FreeListState) (serves : Serves list_named s i l) where
  plain : IsPlain list_named l
  plain = plain_of list_is_named l serves.sound

  module _ (keep_last : Bool) where
    goes_is : (number : ℕ) → MayGo l.space keep_last number → ListChunkMayGo s i keep_last number (object_of l.space number)
    goes_is number (free, beside) =
        let c = found_value _ free.held in
        subst (ListChunkMayGo s i keep_last number) (sym (ap object_in c.1)) (record {
          chunk = chunk_is s i l serves number c.0 c.1;
          unused = unused_is s l serves.linked plain number c.0 c.1 free.unused;
          not_last = λ kept (r, (last, in_chunk)). beside kept (r, (last_run_same (same_back (list_bytes s i l serves)) r last, in_chunk));
        })

    goes_was : (number object : ℕ) → ListChunkMayGo s i keep_last number object → MayGo l.space keep_last number
    goes_was number object may =
        let is = chunk_was s i l serves number object may.chunk in (
          record { held = subst IsSome (sym is) refl; unused = unused_was s l serves.linked plain number _ is may.unused },
          λ kept (r, (last, in_chunk)). may.not_last kept (r, (last_run_same (list_bytes s i l serves) r last, in_chunk)),
        )

    module _ (numbers : List ℕ) (gone : AreReleased l.space keep_last numbers) where
      abbrev gone_objects : List ℕ
      gone_objects = map (object_of l.space) numbers

      -- where a number stands, its chunk's object does
      number_at : (k d number : ℕ) → k < length gone_objects → IsListChunk s i number (get_or gone_objects k d) → (k < length numbers) × (number ≡ get_or numbers k 0)
      number_at k d number within is =
          let inside : k < length numbers = omega (arith, within, length-map numbers (object_of l.space)) in
          let at : ℕ = get_or numbers k 0 in
          let may = goes_is at ((gone.all at).0 (Contains-get_or numbers k 0 inside)) in
          (inside, serves.sound.one_object number at _ _ (chunk_was s i l serves number _ is) (chunk_was s i l serves at _ may.chunk) (get_or-map (object_of l.space) numbers k 0 d inside))

      -- both release the same
      gone_is : AreChunksReleased s i keep_last gone_objects
      gone_is = record {
        rising = λ k j d m n less within first second.
            let at_k = number_at k d m (omega (arith, less, within)) first in
            let at_j = number_at j d n within second in
            omega (arith, gone.rising k j 0 less at_j.0, at_k.1, at_j.1);
        all = λ object. (
          (λ has.
              let from = map_contains (object_of l.space) numbers object has in
              (from.0, subst (ListChunkMayGo s i keep_last from.0) from.1.1 (goes_is from.0 ((gone.all from.0).0 from.1.0)))),
          (λ (number, may).
              let has = (gone.all number).1 (goes_was number object may) in
              subst (Contains gone_objects) (ap object_in (chunk_was s i l serves number object may.chunk)) (contains_map (object_of l.space) numbers number has)),
        );
      }

-- All that may go go.

-- the device's objects, by numbers
objects_named : (s : ListSpace) (objects : ℕ → Option Object) (gone : List ℕ) → without_objects_of s objects gone ≡ without_objects objects (map (object_of s) gone)
objects_named s objects [] = refl
objects_named s objects (n ∷ gone) = objects_named s (put_object objects (object_of s n) None) gone

module _ {M X : Type 0} {l : Limits X} {heaps : List Heap} {ss : List (TypeStores M X)} {own : OwnTable} {remaining i j : ℕ} {e : TypeStores M X} {x : FreeListState} {heap : Heap} (h : Handed list_named l heaps ss own remaining i j e x heap) where
  -- the fields with this free list, heap and count, in these stores, stand for this state
  abbrev StoodIn : List Heap → List (TypeStores M X) → Account FreeListState → State → Type 0
  StoodIn hs ts a s = Stood list_named l hs ts own a.remaining i (list_named.put e a.allocator) a.allocator × (state_of l hs ts own a.remaining ≡ s)

  abbrev StoodFor : Account FreeListState → State → Type 0
  StoodFor a s = StoodIn (set heaps j a.heap) (put list_named ss i e a.allocator) a s

  abbrev ReleasesChunk : Account FreeListState → List ℕ → Account FreeListState → Type 0
  ReleasesChunk a names new = (s : State) (p : Properties) (objects : ℕ → Option Object) → StoodFor a s → Agrees s p objects → StoodFor new (without_these s names) × Agrees (without_these s names) p (without_objects objects names)

  none_goes : (a : Account FreeListState) → ReleasesChunk a [] a
  none_goes a s p objects fields agrees = subst (λ n. StoodFor a (record s { remaining = n }) × Agrees (record s { remaining = n }) p objects) same (fields, agrees)
    where
      same : s.remaining ≡ s.remaining + 0
      same = omega arith

  one_goes : (a new : Account FreeListState) (n : ℕ) (chunk : Chunk) (names : List ℕ) → IsSoundFreeList a.allocator → finite.get a.allocator.space.chunks n ≡ Some chunk → IsWhollyFree a.allocator.space n → ReleasesChunk (account_without_chunk a n chunk) names new → ReleasesChunk a (chunk.object ∷ names) new
  one_goes a new n chunk names sound found free rest s p objects fields agrees =
      let then = account_without_chunk a n chunk in
      let at_heap = sym (get_or-set_same heaps j a.heap a.heap (heap_inside list_is_named h)) in
      let goes = released list_is_named fields.0 j a.heap h.here at_heap n chunk found free.unused (plain_of list_is_named then.allocator (sound_without_chunk a.allocator n sound free)) in
      let now : State = record s { held = finite.remove s.held chunk.object; remaining = s.remaining + 1 } in
      let fields_now : StoodFor then now =
      subst (λ hs. StoodIn hs (put list_named ss i e then.allocator) then now) (set-set heaps j a.heap then.heap)
      (subst (λ ts. StoodIn (set (set heaps j a.heap) j then.heap) ts then now) (set-set ss i (list_named.put e a.allocator) (list_named.put e then.allocator))
      (goes.0, goes.1 ∙ ap (λ (z : State). record z { held = finite.remove z.held chunk.object; remaining = z.remaining + 1 }) fields.1))
      in
      let as_block = granted_block s 0 (FreeListChunk n) (record { object = chunk.object; offset = 0; size = 0 }) in
      subst (λ m. StoodFor new (record (without_these s (chunk.object ∷ names)) { remaining = m }) × Agrees (record (without_these s (chunk.object ∷ names)) { remaining = m }) p (without_objects objects (chunk.object ∷ names))) count
      (rest now p (put_object objects chunk.object None) fields_now (agrees_returned s now p p objects _ as_block agrees refl refl refl refl (λ span live. live)))
    where
      count : s.remaining + 1 + length names ≡ s.remaining + length (chunk.object ∷ names)
      count = omega arith

  pub names_gone : (keep_last : Bool) (gone : List ℕ) → AreReleased x.space keep_last gone → AreChunksReleased (before h) i keep_last (map (object_of x.space) gone)
  names_gone keep_last gone all = gone_is (before h) i x (serves list_is_named h.has) keep_last gone all

  pub chunks_go : {keep_last : Bool} {after : Account FreeListState} {gone : List ℕ} {es : List Event} {p q : Properties} {old new : ℕ → Option Object} → IsSoundFreeList after.allocator → Agrees (before h) p old → q ≡ p
      → LetsWholeChunksGo keep_last (account x heap remaining) gone es after old new → IsLeft h (before h) (map (object_of x.space) gone) after es q old new
  chunks_go {keep_last} {after} {gone} {es} {p} {q} {old} {new} sound agrees properties gives =
      let first : StoodFor (account x heap remaining) (before h) =
      subst (λ hs. StoodIn hs (put list_named ss i e x) (account x heap remaining) (before h)) (sym (same_set heaps j heap h.at_heap))
      (subst (λ ts. StoodIn heaps ts (account x heap remaining) (before h)) (sym (put_same list_is_named ss i e x (is_at list_is_named h.has) h.has.is))
      (subst (λ f. Stood list_named l heaps ss own remaining i f x) (sym (list_is_named.same e x h.has.is)) (stood list_is_named h.has), refl))
      in
      let left = all_go ReleasesChunk none_goes one_goes (account x heap remaining) after keep_last gone es (its list_is_named h.has).1 gives.0 gives.1.0 (before h) p old first agrees in
      let names = map (object_of x.space) gone in
      let objects = gives.1.1 ∙ objects_named x.space old gone in
      let offers = properties_kept l heaps j after.heap heap h.at_heap (ap (λ (a : Account FreeListState). a.heap.size) gives.1.0.1) in
      let are = are_set list_is_named ss i e x (is_at list_is_named h.has) h.has.is l.config _ l.sharing (subst (λ a. AreStores l.config a l.sharing ss) (sym offers) h.has.kept.shared) after.allocator left.0.0.of sound in
      record {
        kept = keep l left.0.0 are;
        lets = (gives.1.0.0 ∙ sym (map-map Deallocated (object_of x.space) gone), left.0.1);
        objects = objects;
        agreed = subst (λ z. Agrees z q new) (sym left.0.1) (subst (λ z. Agrees (without_these (before h) names) z new) (sym properties) (subst (Agrees (without_these (before h) names) p) (sym objects) left.1));
      }

-- A block comes back, and then all chunks go that may.
module _ {M X : Type 0} {l : Limits X} {heaps : List Heap} {ss : List (TypeStores M X)} {own : OwnTable} {remaining i j : ℕ} {e : TypeStores M X} {x : FreeListState} {heap : Heap} (h : Handed list_named l heaps ss own remaining i j e x heap) where
  pub came_back : {b : Slot} {block : Block} (its_block : IsBlockOf list_named x b block) {after : Account FreeListState} {gone : List ℕ} {es : List Event} {p q : Properties} {old new : ℕ → Option Object} → IsSoundFreeList after.allocator → Agrees (before h) p old → q ≡ p
      → LetsWholeChunksGo true (account_without (account x heap remaining) b) gone es after old new → IsReturned h block after es q old new
  came_back {b} {block} its_block {gone = gone} {p = p} {old = old} sound agrees properties gives =
      let rest = without_span (before h) block in
      let then = handed_then list_is_named h its_block (sound_without_slot x b (its list_is_named h.has).1) in
      let state = (went list_is_named h its_block).1 in
      let agrees_then = subst (λ z. Agrees z p old) (sym state) (agrees_without_span (before h) p p old block agrees refl) in
      let chunk = own_chunk list_is_named h its_block in
      let st = stood list_is_named h.has in
      let names = map (object_of x.space) gone in
      let all = subst (λ z. AreChunksReleased z i true names) state (names_gone then true gone gives.0) in
      let with_it : ReleasedWith (FreeListChunk b.chunk) rest chunk.0.object names =
      (_, (linked list_is_named st.stands).chunks b.chunk chunk.0 chunk.1.0, subst (λ n. AreChunksReleased rest n true names) (sym st.stands.of_type) all)
      in
      as_returned list_is_named h its_block chunk.0 chunk.1.1 names (left_then list_is_named h its_block _ (chunks_go then sound agrees_then properties gives)) with_it
