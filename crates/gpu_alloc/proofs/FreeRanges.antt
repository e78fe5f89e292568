-- What is free in a memory type's shared chunks, as its two stores describe it and as the whole allocator's state does.
use Rattle.std.proofs.Common.{◌≡◌, ◌≢◌, ◌⊎◌, inl, inr, ℕ, ◌↔◌, Bool, true, false, List, [], ◌∷◌, ◌++◌, get_or, Contains, Some, refl, sym, ◌∙◌, ap, subst, arith}
use Rattle.std.proofs.lemmas.List.Elements.{Contains-get_or, Contains-append_left, Contains-append_right, Contains-append_cases, recursion_from_All}
use Rattle.std.proofs.lemmas.Map.Keys.{IsDistinct-tail, IsDistinct-cons}
use Rattle.std.specs.FinMap as map
use Rattle.std.specs.List.{IsDistinct}
use Rattle.gpu_alloc_types.specs.declared.types.FreeRange.{FreeRange}
use Rattle.gpu_alloc_base.specs.Chunks.{Chunk, object_in}
use Rattle.gpu_alloc_base.specs.FreeRuns.{IsFreeRun}
use Rattle.gpu_alloc_base.specs.FreeSpace.{IsFreePiece}
use Rattle.gpu_alloc_base.specs.RangeOrder.{same_start, AreInOrder}
use Rattle.gpu_alloc_block.specs.State.{State, is_shared}
use Rattle.gpu_alloc_block.specs.declared.block.Kind.{Kind}
use Rattle.gpu_alloc_block.specs.declared.block.Kind.TheVariants.{Dedicated, Imported, BuddyChunk, FreeListChunk, FitChunk}
use Rattle.gpu_alloc_buddy.specs.Buddy.{IsPieceOf}
use Rattle.gpu_alloc_buddy.specs.BuddyState.{Buddy}
use Rattle.gpu_alloc_fit.specs.Fit.{FitState}
use Rattle.gpu_alloc_runs.specs.Space.{IsFitRunOf}
use Rattle.gpu_alloc_freelist.specs.FreeListAllocator.{IsRunOf}
use Rattle.gpu_alloc_freelist.specs.FreeListState.{FreeListState}
use Rattle.gpu_alloc_shared.specs.Rule.{Rule}
use Rattle.gpu_alloc.specs.FreeBytes.{IsFreeByte}
use Rattle.gpu_alloc.specs.FreeRanges.{IsFreePieceOf, IsFreeRangeOf, has_runs}
use Rattle.gpu_alloc.specs.Inside.{IsChosen}
use Rattle.gpu_alloc.specs.Sound.{is_chosen}
use Rattle.gpu_alloc.specs.Whole.{part_side}
use Rattle.gpu_alloc_base.proofs.Lists.{contains_head, contains_later, head_is_other}
use Rattle.gpu_alloc_base.proofs.RangeOrder.{starts_apart, order_is_distinct}
use Rattle.gpu_alloc.proofs.Buddies.Named.{buddy_bytes, buddy_named}
use Rattle.gpu_alloc.proofs.Fits.Named.{fit_is_named, fit_named}
use Rattle.gpu_alloc.proofs.FreeCovered.{one_kind, runs_shared}
use Rattle.gpu_alloc.proofs.FreeLists.Named.{list_is_named, list_named}
use Rattle.gpu_alloc.proofs.Shared.Free.{first_byte, piece_from, piece_to}
use Rattle.gpu_alloc.proofs.Shared.Stores.{IsNamed, Named, Serves, byte_is, byte_was, table_of}

-- A free range of the whole allocator.

module _ (s : State) (t : ℕ) (r : FreeRange) where
  -- what its object is held for
  abbrev kind_of : IsFreeRangeOf s t r → Kind
  kind_of (inl piece) = BuddyChunk
  kind_of (inr run) = run.kind

  kind_shared : (is : IsFreeRangeOf s t r) → is_shared (kind_of is) ≡ true
  kind_shared (inl piece) = refl
  kind_shared (inr run) = runs_shared run.kind run.in_runs

  -- and its first byte
  byte_of : (is : IsFreeRangeOf s t r) → IsFreeByte s t (kind_of is) r.object r.start
  byte_of (inl piece) = first_byte (IsFreeByte s t BuddyChunk) r.object r.start piece.length piece.piece.place
  byte_of (inr run) = run.run.free r.start (omega arith) run.run.nonempty

-- Those of one of a memory type's stores.

-- these are, in order, the ranges in chunks whose parts of the whole stand on this side
pub record AreFreeOn (s : State) (t side : ℕ) (ranges : List FreeRange) : Type 0 where
  pub order : AreInOrder ranges
  pub are : (r : FreeRange) → Contains ranges r → (is : IsFreeRangeOf s t r) × (part_side (kind_of s t r is) ≡ side)
  pub all : (r : FreeRange) (is : IsFreeRangeOf s t r) → part_side (kind_of s t r is) ≡ side → Contains ranges r

-- Which chunks these are.

-- the shared objects on a store's side are its own chunks
module _ {T A B : Type 0} {rule : Rule T A B} (n : Named rule) (s : State) where
  abbrev StandAlone : Type 0
  StandAlone = (kind : Kind) → is_shared kind ≡ true → is_chosen s.sharing kind ≡ true → part_side kind ≡ n.side → (key : ℕ) × (kind ≡ n.kind key)

list_alone : (s : State) → StandAlone list_named s
list_alone s Dedicated shared chosen side = absurd (cc)
list_alone s Imported shared chosen side = absurd (cc)
list_alone s BuddyChunk shared chosen side = absurd (omega (arith, side))
list_alone s (FreeListChunk number) shared chosen side = (number, refl)
list_alone s FitChunk shared chosen side = absurd (omega (arith, side))

-- a buddy allocator's, where no fit chunk is held
buddies_alone : (s : State) → (is_chosen s.sharing FitChunk ≡ true → ⊥) → StandAlone buddy_named s
buddies_alone s no_fits Dedicated shared chosen side = absurd (cc)
buddies_alone s no_fits Imported shared chosen side = absurd (cc)
buddies_alone s no_fits BuddyChunk shared chosen side = (0, refl)
buddies_alone s no_fits (FreeListChunk number) shared chosen side = absurd (omega (arith, side))
buddies_alone s no_fits FitChunk shared chosen side = absurd (no_fits chosen)

-- and the other way round
fits_alone : (s : State) → (is_chosen s.sharing BuddyChunk ≡ true → ⊥) → StandAlone fit_named s
fits_alone s no_buddies Dedicated shared chosen side = absurd (cc)
fits_alone s no_buddies Imported shared chosen side = absurd (cc)
fits_alone s no_buddies BuddyChunk shared chosen side = absurd (no_buddies chosen)
fits_alone s no_buddies (FreeListChunk number) shared chosen side = absurd (omega (arith, side))
fits_alone s no_buddies FitChunk shared chosen side = (0, refl)

-- so a free range on its side is in one of them
key_of : {T A B : Type 0} {rule : Rule T A B} (n : Named rule) (s : State) (t : ℕ) → StandAlone n s → IsChosen s.sharing (table_of s) → (r : FreeRange) (is : IsFreeRangeOf s t r) → part_side (kind_of s t r is) ≡ n.side → (key : ℕ) × (kind_of s t r is ≡ n.kind key)
key_of n s t has chosen r is side =
    let byte = byte_of s t r is in
    has (kind_of s t r is) (kind_shared s t r is) (ap (is_chosen s.sharing) (sym byte.of_kind) ∙ chosen r.object byte.chunk byte.held) side

-- Free pieces of buddy chunks.

module _ (s : State) (t : ℕ) (b : Buddy) (serves : Serves buddy_named s t b) where
  piece_is : (r : FreeRange) → IsPieceOf b r → IsFreePieceOf s t r
  piece_is r is = record {
    length = is.length;
    end = is.end;
    piece = subst (λ o. IsFreePiece (IsFreeByte s t BuddyChunk) o r.start is.length) (ap object_in is.held ∙ is.object) (piece_to (buddy_bytes s t b serves) is.key r.start is.length is.piece);
  }

  piece_was : (r : FreeRange) → IsFreePieceOf s t r → IsPieceOf b r
  piece_was r is =
      let w = piece_from (buddy_bytes s t b serves) r.object r.start is.length is.piece in
      let byte = first_byte _ w.0 r.start is.length w.2.place in
      record { key = w.0; chunk = byte.held; held = byte.is; object = sym (ap object_in byte.is) ∙ w.1; length = is.length; end = is.end; piece = w.2 }

  -- so these are those of its side
  pub pieces_free : IsChosen s.sharing (table_of s) → (is_chosen s.sharing FitChunk ≡ true → ⊥) → (pieces : List FreeRange) → AreInOrder pieces → ((r : FreeRange) → Contains pieces r ↔ IsPieceOf b r) → AreFreeOn s t 0 pieces
  pieces_free chosen no_fits pieces order pieces_are =
      record { order = order; are = λ r has. (inl (piece_is r ((pieces_are r).0 has)), refl); all = all }
    where
      all : (r : FreeRange) (is : IsFreeRangeOf s t r) → part_side (kind_of s t r is) ≡ 0 → Contains pieces r
      all r (inl piece) side = (pieces_are r).1 (piece_was r piece)
      all r (inr run) side =
          let own = key_of buddy_named s t (buddies_alone s no_fits) chosen r (inr run) side in
          let never : true ≡ false = sym run.in_runs ∙ ap has_runs own.1 in
          absurd (cc)

-- Free runs of chunks of a free list and of fit chunks.

-- two descriptions of free bytes that agree on one chunk, whatever name each has for it
run_to : (F G : ℕ → ℕ → Type 0) (x y : ℕ) → ((at : ℕ) → F x at → G y at) → ((at : ℕ) → G y at → F x at) → (start end : ℕ) → IsFreeRun F x start end → IsFreeRun G y start end
run_to F G x y to from start end run = record {
  nonempty = run.nonempty;
  free = λ at low high. to at (run.free at low high);
  longest = λ start' end' free before after. run.longest start' end' (λ at low high. from at (free at low high)) before after;
}

-- the range is a free run of one of a store's chunks
record IsRunIn {T A B : Type 0} {rule : Rule T A B} (n : Named rule) (x : T) (r : FreeRange) : Type 0 where
  key : ℕ
  chunk : Chunk
  held : map.get (rule.chunks x) key ≡ Some chunk
  object : chunk.object ≡ r.object
  run : IsFreeRun (n.Free x) key r.start r.end

module _ {T A B : Type 0} {rule : Rule T A B} {n : Named rule} (named : IsNamed n) (s : State) (t : ℕ) (x : T) (serves : Serves n s t x) where
  -- it is one of the state's
  run_is : (r : FreeRange) (is : IsRunIn n x r) → IsFreeRun (IsFreeByte s t (n.kind is.key)) r.object r.start r.end
  run_is r is =
      let bytes = IsFreeByte s t (n.kind is.key) in
      subst (λ o. IsFreeRun bytes o r.start r.end) is.object
      (run_to (n.Free x) bytes is.key is.chunk.object (λ at. byte_is named s t x serves is.key at is.chunk is.held) (λ at. byte_was named s t x serves is.key at is.chunk is.held) r.start r.end is.run)

  -- and each of the state's, under the name of such a chunk, is one
  run_was : (r : FreeRange) (key : ℕ) → IsFreeRun (IsFreeByte s t (n.kind key)) r.object r.start r.end → IsRunIn n x r
  run_was r key run =
      let byte = run.free r.start (omega arith) run.nonempty in
      let typed = (named.of_type s.config s.properties t x serves.of).0 in
      let own = serves.linked.objects r.object byte.chunk (record { key = key; held = byte.held; of_kind = byte.of_kind; of_type = byte.of_type ∙ sym typed }) in
      let its = subst (λ kind. IsFreeRun (IsFreeByte s t kind) r.object r.start r.end) (sym (own.2 ∙ byte.of_kind)) run in
      record {
        key = own.0;
        chunk = _;
        held = own.1;
        object = refl;
        run = run_to (IsFreeByte s t (n.kind own.0)) (n.Free x) r.object own.0 (λ at. byte_was named s t x serves own.0 at _ own.1) (λ at. byte_is named s t x serves own.0 at _ own.1) r.start r.end its;
      }

  -- so these are those of its side
  runs_free : StandAlone n s → IsChosen s.sharing (table_of s) → ((key : ℕ) → (has_runs (n.kind key) ≡ true) × (part_side (n.kind key) ≡ n.side)) → (runs : List FreeRange) → AreInOrder runs → ((r : FreeRange) → Contains runs r ↔ IsRunIn n x r) → AreFreeOn s t n.side runs
  runs_free has chosen in_runs runs order runs_are = record {
    order = order;
    are = λ r listed. let run = (runs_are r).0 listed in (inr (record { kind = n.kind run.key; in_runs = (in_runs run.key).0; run = run_is r run }), (in_runs run.key).1);
    all = all;
  }
    where
      all : (r : FreeRange) (is : IsFreeRangeOf s t r) → part_side (kind_of s t r is) ≡ n.side → Contains runs r
      all r (inl piece) side =
          let own = key_of n s t has chosen r (inl piece) side in
          let never : true ≡ false = sym (in_runs own.0).0 ∙ ap has_runs (sym own.1) in
          absurd (cc)
      all r (inr run) side =
          let own = key_of n s t has chosen r (inr run) side in
          (runs_are r).1 (run_was r own.0 (subst (λ kind. IsFreeRun (IsFreeByte s t kind) r.object r.start r.end) own.1 run.run))

-- a free list's
pub list_free : (s : State) (t : ℕ) (l : FreeListState) → Serves list_named s t l → IsChosen s.sharing (table_of s) → (runs : List FreeRange) → AreInOrder runs → ((r : FreeRange) → Contains runs r ↔ IsRunOf l.space r) → AreFreeOn s t 1 runs
list_free s t l serves chosen runs order runs_are = runs_free list_is_named s t l serves (list_alone s) chosen (λ key. (refl, refl)) runs order (λ r. (
  λ listed. let run = (runs_are r).0 listed in record { key = run.number; chunk = run.chunk; held = run.held; object = run.object; run = run.run },
  λ run. (runs_are r).1 (record { number = run.key; chunk = run.chunk; held = run.held; object = run.object; run = run.run }),
))

-- those of fit chunks
pub fits_free : (s : State) (t : ℕ) (f : FitState) → Serves fit_named s t f → IsChosen s.sharing (table_of s) → (is_chosen s.sharing BuddyChunk ≡ true → ⊥) → (runs : List FreeRange) → AreInOrder runs → ((r : FreeRange) → Contains runs r ↔ IsFitRunOf f.space r) → AreFreeOn s t 0 runs
fits_free s t f serves chosen no_buddies runs order runs_are = runs_free fit_is_named s t f serves (fits_alone s no_buddies) chosen (λ key. (refl, refl)) runs order (λ r. (
  λ listed. let run = (runs_are r).0 listed in record { key = run.key; chunk = run.chunk; held = run.held; object = run.object; run = run.run },
  λ run. (runs_are r).1 (record { key = run.key; chunk = run.chunk; held = run.held; object = run.object; run = run.run }),
))

-- All as one list.

pub distinct_append : {X : Type 0} (e : X → X → Bool) (xs ys : List X) → IsDistinct e xs → IsDistinct e ys → ((x y : X) → Contains xs x → Contains ys y → e x y ≡ false) → IsDistinct e (xs ++ ys)
distinct_append e [] ys first second apart = second
distinct_append e (x ∷ xs) ys first second apart =
    IsDistinct-cons e x (xs ++ ys)
    (recursion_from_All (λ y. e x y ≡ false) (xs ++ ys) (λ k d lt.
    elim (Contains-append_cases xs ys (get_or (xs ++ ys) k d) (Contains-get_or (xs ++ ys) k d lt)) [
      | inl before ↦ head_is_other e x (get_or (xs ++ ys) k d) xs first before
      | inr after ↦ apart x (get_or (xs ++ ys) k d) (contains_head x xs) after
    ]))
    (distinct_append e xs ys (IsDistinct-tail e x xs first) second (λ a b has_a has_b. apart a b (contains_later x a xs has_a) has_b))

-- the two parts of a memory type's stores
sides : (kind : Kind) → (part_side kind ≡ 0) ⊎ (part_side kind ≡ 1)
sides Dedicated = inl refl
sides Imported = inl refl
sides BuddyChunk = inl refl
sides (FreeListChunk number) = inr refl
sides FitChunk = inl refl

-- these are all that are free, and no two start at one byte of one object
pub record AreAllFree (s : State) (t : ℕ) (ranges : List FreeRange) : Type 0 where
  pub exact : (r : FreeRange) → Contains ranges r ↔ IsFreeRangeOf s t r
  pub apart : IsDistinct same_start ranges

pub all_free : (s : State) (t : ℕ) (listed chosen : List FreeRange) → AreFreeOn s t 1 listed → AreFreeOn s t 0 chosen → AreAllFree s t (listed ++ chosen)
all_free s t listed chosen of_list of_chosen = record {
  exact = λ r. (
    (λ has. elim (Contains-append_cases listed chosen r has) [ inl one ↦ (of_list.are r one).0 | inr other ↦ (of_chosen.are r other).0 ]),
    (λ is. elim (sides (kind_of s t r is)) [
      | inl none ↦ Contains-append_right listed chosen r (of_chosen.all r is none)
      | inr one ↦ Contains-append_left listed chosen r (of_list.all r is one)
    ]),
  );
  apart = distinct_append same_start listed chosen (order_is_distinct listed of_list.order) (order_is_distinct chosen of_chosen.order) (λ r q has_r has_q. starts_apart r q (λ object start. two_objects r q has_r has_q object));
}
  where
    -- an object is on one side
    two_objects : (r q : FreeRange) → Contains listed r → Contains chosen q → r.object ≢ q.object
    two_objects r q has_r has_q same =
        let one = of_list.are r has_r in
        let other = of_chosen.are q has_q in
        let kinds = one_kind s t q.object r.start q.start (kind_of s t r one.0) (kind_of s t q other.0) (subst (λ o. IsFreeByte s t (kind_of s t r one.0) o r.start) same (byte_of s t r one.0)) (byte_of s t q other.0) in
        let never : 1 ≡ 0 = sym one.1 ∙ ap part_side kinds ∙ other.1 in
        absurd (omega (arith, never))
