-- A block that a free list grants: the tail of the last run with room, or of a new chunk.
use Rattle.std.proofs.Common.{◌≡◌, ◌⊎◌, inl, inr, ℕ, suc, ◌+◌, ◌-◌, ◌^◌, ◌<◌, ◌≤◌, ◌↔◌, Bool, true, false, IsTrue, List, [], ◌∷◌, ◌++◌, length, get_or, Option, Some, None, Result, Ok, Err, Contains, refl, sym, ◌∙◌, ap, subst, arith}
use Rattle.std.proofs.lemmas.Bool.{cases_lt}
use Rattle.std.proofs.lemmas.List.{get_or_default}
use Rattle.std.proofs.lemmas.List.Elements.{Contains-get_or, Contains-append_left, Contains-push, Contains-push_cases}
use Rattle.std.proofs.lemmas.List.Quantifiers.{all_pairs_push}
use Rattle.std.specs.Prelude.{IfSome, IfNone, is_some}
use Rattle.std.specs.Result.{IsErr}
use Rattle.std.specs.List.{All}
use Rattle.std.specs.FinMap as map
use Rattle.std.specs.FinSet as set
use Rattle.gpu_alloc_base.specs.Accounts.{HeldChunks}
use Rattle.gpu_alloc_base.specs.Chunks.{Chunk}
use Rattle.gpu_alloc_freelist.specs.FreeList.{HasPlace, IsTail, TakesTail, first_tail, with_slot, with_numbered_chunk}
use Rattle.gpu_alloc_base.specs.Slots.{region_of, slot_cmp}
use Rattle.gpu_alloc_freelist.specs.FreeListInside.{IsListed, list_space_in, room_for}
use Rattle.gpu_alloc_freelist.specs.Runs.{IsLastFit}
use Rattle.gpu_alloc_freelist.specs.FreeListSound.{IsSoundListSpace}
use Rattle.gpu_alloc_freelist.specs.FreeListState.{ListSpace, IsFreeIn}
use Rattle.gpu_alloc_freelist.specs.Wholes.{wholes}
use Rattle.gpu_alloc_base.specs.FreeRuns.{AreFree, AreRising, AreRuns, AreRunsBeside, HasRoom, IsBefore, IsFreeRun, IsLastWithRoom, IsSpaced, Without, tail_start}
use Rattle.gpu_alloc_base.specs.declared.free_list_block.Slot.{Slot}
use Rattle.gpu_alloc_base.specs.declared.region.FreeListRegion.{FreeListRegion}
use Rattle.gpu_alloc_base.proofs.FreeRuns.{region_is_run, run_is_region, place_has_run, run_has_place, last_is, not_both, tail_below}
use Rattle.gpu_alloc_base.proofs.Lists.{contains_head, contains_later, contains_cases, contains_none}
use Rattle.gpu_alloc_base.proofs.Maps.{one_value, own_inserted, inserted_cases, inserted_kept}
use Rattle.gpu_alloc_base.proofs.SameRuns.{runs_same}
use Rattle.gpu_alloc_freelist.proofs.Spaces.{was_live, still_live, now_live, space_with_slot, next_is_new, none_in_next, space_with_chunk}

-- the last region with room stands here
abbrev pub IsFoundAt : List FreeListRegion → ℕ → ℕ → ℕ → Type 0
IsFoundAt regions size alignment i = (i < length regions) × ((d : FreeListRegion) → IsLastFit regions size alignment i d)

-- Lists that rise.

module _ {X : Type 0} (Before : X → X → Type 0) where
  abbrev pub Rises : List X → Type 0
  Rises xs = (i j : ℕ) (d : X) → i < j → j < length xs → Before (get_or xs i d) (get_or xs j d)

  -- the head comes before each later member
  pub head_before : (x : X) (xs : List X) (y : X) → Rises (x ∷ xs) → Contains xs y → Before x y
  head_before x xs y rises (k, lt, e) = subst (Before x) e (rises 0 (suc k) y (omega arith) (omega arith))

  -- the rest of a list that rises does
  pub tail_rises : (x : X) (xs : List X) → Rises (x ∷ xs) → Rises xs
  tail_rises x xs rises i j d lt inside = rises (suc i) (suc j) d (omega arith) (omega arith)

  -- lists that rise and have the same members are one
  risen_same : (xs ys : List X) → ((a b : X) → Contains xs a → Contains xs b → Before a b → Before b a → ⊥) → Rises xs → Rises ys
      → ((x : X) → Contains xs x → Contains ys x) → ((y : X) → Contains ys y → Contains xs y) → xs ≡ ys
  risen_same [] [] strict rises_x rises_y to from = refl
  risen_same [] (y ∷ ys) strict rises_x rises_y to from = absurd (contains_none y (from y (contains_head y ys)))
  risen_same (x ∷ xs) [] strict rises_x rises_y to from = absurd (contains_none x (to x (contains_head x xs)))
  risen_same (x ∷ xs) (y ∷ ys) strict rises_x rises_y to from =
      let rest : xs ≡ ys = risen_same xs ys
      (λ a b has_a has_b. strict a b (contains_later x a xs has_a) (contains_later x b xs has_b))
      (tail_rises x xs rises_x) (tail_rises y ys rises_y)
      (λ r has. elim (contains_cases y r ys (to r (contains_later x r xs has))) [
        | inl is ↦ absurd (once (subst (Before x) (is ∙ sym heads) (head_before x xs r rises_x has)))
        | inr later ↦ later
      ])
      (λ r has. elim (contains_cases x r xs (from r (contains_later y r ys has))) [
        | inl is ↦ absurd (once (subst (λ z. Before z x) (sym heads) (subst (Before y) is (head_before y ys r rises_y has))))
        | inr later ↦ later
      ])
      in
      λ i. heads i ∷ rest i
    where
      first : Contains (x ∷ xs) x
      first = contains_head x xs

      once : Before x x → ⊥
      once h = strict x x first first h h

      heads : x ≡ y
      heads = elim (contains_cases y x ys (to x first)) [
        | inl is ↦ is
        | inr later_x ↦ elim (contains_cases x y xs (from y (contains_head y ys))) [
          | inl is ↦ sym is
          | inr later_y ↦ absurd (strict x y first (contains_later x y xs later_y) (head_before x xs y rises_x later_y) (head_before y ys x rises_y later_x))
        ]
      ]

-- one list with these runs in their order is that of the runs
pub one_list : (F : ℕ → ℕ → Type 0) (xs ys : List FreeListRegion) → ((r : FreeListRegion) → Contains xs r ↔ IsFreeRun F r.chunk r.start r.end) → AreRising xs → AreRuns ys F → xs ≡ ys
one_list F xs ys are rising runs =
    risen_same IsBefore xs ys (λ a b has_a has_b. not_both a b ((are a).0 has_a).nonempty ((are b).0 has_b).nonempty) rising runs.rising
    (λ r has. run_is_region F (Contains ys) runs.spaced r ((are r).0 has))
    (λ r has. (are r).1 (region_is_run F (Contains ys) runs.spaced r has))

-- and the runs of the same bytes are one list
same_runs : (F : ℕ → ℕ → Type 0) (xs ys : List FreeListRegion) → AreRuns xs F → AreRuns ys F → xs ≡ ys
same_runs F xs ys runs_x runs_y = one_list F xs ys (λ r. (region_is_run F (Contains xs) runs_x.spaced r, run_is_region F (Contains xs) runs_x.spaced r)) runs_x.rising runs_y

-- what was found in one list of runs is found in another of the same bytes
pub found_again : (s t : ListSpace) (xs ys : List FreeListRegion) (size alignment i : ℕ) → s ≡ t → AreRuns xs (IsFreeIn s) → AreRuns ys (IsFreeIn t) → IsFoundAt ys size alignment i → IsFoundAt xs size alignment i
found_again s t xs ys size alignment i same runs_x runs_y found =
    let one : ys ≡ xs = same_runs (IsFreeIn s) ys xs (subst (λ u. AreRuns ys (IsFreeIn u)) (sym same) runs_y) runs_x in
    subst (λ rs. IsFoundAt rs size alignment i) one found

-- A block more.

module _ (s : ListSpace) (slot : Slot) where
  -- the free bytes are those that were, but for the block's
  pub free_without : (chunk at : ℕ) → IsFreeIn (with_slot s slot) chunk at → Without (IsFreeIn s) (region_of slot) chunk at
  free_without chunk at free = (
    record { held = free.held; is = free.is; inside = free.inside; unused = λ q live. free.unused q (still_live s slot q live) },
    λ same low high. free.unused slot (now_live s slot) (sym same) (record { from = low; to = high }),
  )

  -- and all of those
  pub free_with : (chunk at : ℕ) → Without (IsFreeIn s) (region_of slot) chunk at → IsFreeIn (with_slot s slot) chunk at
  free_with chunk at free = record {
    held = free.0.held;
    is = free.0.is;
    inside = free.0.inside;
    unused = λ q live same inside. elim (was_live s slot q live) [
      | inl is ↦ absurd (free.1 (sym same ∙ ap (λ (x : Slot). x.chunk) is) (omega (arith, inside.from, ap (λ (x : Slot). x.offset) is)) (omega (arith, inside.to, ap (λ (x : Slot). x.offset) is, ap (λ (x : Slot). x.size) is)))
      | inr was ↦ free.0.unused q was same inside
    ];
  }

  -- its bytes were free, so it was not live
  pub not_live_yet : 0 < slot.size → AreFree (IsFreeIn s) slot.chunk slot.offset (slot.offset + slot.size) → set.contains s.live slot ≡ false
  not_live_yet some free = split (set.contains s.live slot) refl
    where
      split : (b : Bool) → set.contains s.live slot ≡ b → b ≡ false
      split true live = absurd ((free slot.offset (omega arith) (omega (arith, some))).unused slot live refl (record { from = omega arith; to = omega (arith, some) }))
      split false not_live = refl

-- the runs without a block's bytes, which becomes live
pub record IsTaken (s : ListSpace) (regions : List FreeListRegion) (slot : Slot) : Type 0 where
  pub runs : AreRuns regions (IsFreeIn (with_slot s slot))
  pub sound : IsSoundListSpace (with_slot s slot)
  pub fresh : set.contains s.live slot ≡ false

-- so it is where the bytes in hand are the block's, in its chunk
pub taken : (s : ListSpace) (regions : List FreeListRegion) (slot : Slot) (chunk : Chunk) → IsSoundListSpace s → AreRunsBeside regions (IsFreeIn s) (region_of slot) → 0 < slot.size
    → map.get s.chunks slot.chunk ≡ Some chunk → slot.object ≡ chunk.object → IsTaken s regions slot
taken s regions slot chunk sound beside some held object =
    let last = beside.inside (slot.offset + slot.size - 1) (omega (arith, some)) (omega (arith, some)) in
    let same : last.held ≡ chunk = one_value (map.get s.chunks slot.chunk) last.held chunk last.is held in
    record {
      runs = runs_same (record { to = free_with s slot; from = free_without s slot }) regions beside.rest;
      sound = space_with_slot s slot sound (record { chunk = chunk; held = held; object = object; nonempty = some; inside = omega (arith, last.inside, some, ap (λ (c : Chunk). c.size) same) }) beside.inside;
      fresh = not_live_yet s slot some beside.inside;
    }

-- A chunk more.

module _ (s : ListSpace) (object size : ℕ) where
  -- the space with the chunk, and the chunk
  abbrev mid : ListSpace
  mid = with_numbered_chunk s object size

  abbrev made : Chunk
  made = record { object = object; size = size }

  -- Its tail from some offset on is taken.

  module _ (sound : IsSoundListSpace s) (offset : ℕ) (below : offset < size) where
    abbrev pub tail : Slot
    tail = record { object = object; chunk = s.latest + 1; offset = offset; size = size - offset }

    abbrev pub front : FreeListRegion
    front = record { chunk = s.latest + 1; start = 0; end = offset }

    -- each region of what was held lies in another chunk
    in_other : (r : FreeListRegion) → r.start < r.end → AreFree (IsFreeIn s) r.chunk r.start r.end → r.chunk < s.latest + 1
    in_other r some free = let first = free r.start (omega arith) some in omega (arith, (sound.numbers r.chunk first.held first.is).1)

    -- each byte of the new chunk is free
    new_byte : (at : ℕ) → at < size → IsFreeIn mid (s.latest + 1) at
    new_byte at lt = record { held = made; is = own_inserted s.chunks (s.latest + 1) made; inside = lt; unused = λ q live same. absurd (none_in_next s sound q live same) }

    -- the front, where there is one, comes to the regions
    record IsBegun (Has Has' : FreeListRegion → Type 0) : Type 0 where
      kept : (r : FreeListRegion) → Has r → Has' r
      added : 0 < offset → Has' front
      cases : (r : FreeListRegion) → Has' r → Has r ⊎ ((front ≡ r) × (0 < offset))

    -- the regions stay spaced, without the tail's bytes
    spaced_begun : (Has Has' : FreeListRegion → Type 0) → IsSpaced (IsFreeIn s) Has → IsBegun Has Has' → IsSpaced (Without (IsFreeIn mid) (region_of tail)) Has'
    spaced_begun Has Has' spaced begun = record {
      nonempty = λ r is. elim (begun.cases r is) [
        | inl old ↦ spaced.nonempty r old
        | inr new ↦ omega (arith, new.1, ap (λ (x : FreeListRegion). x.start) new.0, ap (λ (x : FreeListRegion). x.end) new.0)
      ];
      apart = λ x y is_x is_y same le ge. elim (begun.cases x is_x) [
        | inl old_x ↦ elim (begun.cases y is_y) [
          | inl old_y ↦ spaced.apart x y old_x old_y same le ge
          | inr new_y ↦ absurd (omega (arith, old_in x old_x, same, ap (λ (r : FreeListRegion). r.chunk) new_y.0))
        ]
        | inr new_x ↦ elim (begun.cases y is_y) [
          | inl old_y ↦ absurd (omega (arith, old_in y old_y, same, ap (λ (r : FreeListRegion). r.chunk) new_x.0))
          | inr new_y ↦ sym new_x.0 ∙ new_y.0
        ]
      ];
      free = λ r is at low high. elim (begun.cases r is) [
        | inl old ↦
            let was = spaced.free r old at low high in (
              record { held = was.held; is = inserted_kept s.chunks (s.latest + 1) made r.chunk was.held (next_is_new s sound) was.is; inside = was.inside; unused = was.unused },
              λ same from to. omega (arith, old_in r old, same),
            )
        | inr new ↦
            let end = ap (λ (x : FreeListRegion). x.end) new.0 in (
              subst (λ k. IsFreeIn mid k at) (ap (λ (x : FreeListRegion). x.chunk) new.0) (new_byte at (omega (arith, high, end, below))),
              λ same from to. omega (arith, high, end, from),
            )
      ];
      covers = λ chunk at free. elim (inserted_cases s.chunks (s.latest + 1) made chunk free.0.held free.0.is) [
        | inl new ↦ elim (cases_lt at offset) [
          | inl low ↦ (front, begun.added (omega arith), sym new.0, omega arith, low)
          | inr high ↦ absurd (free.1 new.0 high (omega (arith, free.0.inside, ap (λ (c : Chunk). c.size) new.1, below)))
        ]
        | inr old ↦
            let q = spaced.covers chunk at (record { held = free.0.held; is = old; inside = free.0.inside; unused = free.0.unused }) in
            (q.0, begun.kept q.0 q.1, q.2, q.3, q.4)
      ];
    }
      where
        old_in : (r : FreeListRegion) → Has r → r.chunk < s.latest + 1
        old_in r has = in_other r (spaced.nonempty r has) (spaced.free r has)

    -- nothing of it is left
    pub taken_at_0 : (regions : List FreeListRegion) → AreRuns regions (IsFreeIn s) → offset ≡ 0 → AreRunsBeside regions (IsFreeIn mid) (region_of tail)
    taken_at_0 regions runs none = record {
      rest = record {
        spaced = spaced_begun (Contains regions) (Contains regions) runs.spaced (record { kept = λ r has. has; added = λ some. absurd (omega (arith, some, none)); cases = λ r has. inl has });
        rising = runs.rising;
      };
      inside = λ at low high. new_byte at (omega (arith, high, below));
    }

    -- the front is left
    pub taken_behind : (regions : List FreeListRegion) → AreRuns regions (IsFreeIn s) → 0 < offset → AreRunsBeside (regions ++ front ∷ []) (IsFreeIn mid) (region_of tail)
    taken_behind regions runs some = record {
      rest = record {
        spaced = spaced_begun (Contains regions) (Contains (regions ++ front ∷ [])) runs.spaced (record {
          kept = λ r has. Contains-append_left regions (front ∷ []) r has;
          added = λ _. Contains-push regions front;
          cases = λ r has. elim (Contains-push_cases regions front r has) [ inl old ↦ inl old | inr new ↦ inr (new, some) ];
        });
        rising = all_pairs_push IsBefore regions front runs.rising (λ k d lt.
            let has = Contains-get_or regions k d lt in
            inl (in_other (get_or regions k d) (runs.spaced.nonempty (get_or regions k d) has) (runs.spaced.free (get_or regions k d) has)));
      };
      inside = λ at low high. new_byte at (omega (arith, high, below));
    }

-- Places.

module _ (s : ListSpace) (regions : List FreeListRegion) (runs : AreRuns regions (IsFreeIn s)) (size alignment : ℕ) (positive : 0 < alignment) where
  -- where no region has room there is no place
  pub no_place : 0 < size → All (λ r. HasRoom size alignment r.start r.end → ⊥) regions → HasPlace s size alignment → ⊥
  no_place some none place =
      let in_run = place_has_run (IsFreeIn s) (Contains regions) runs.spaced size alignment place.0 place.1 some positive place.2 in
      let has = in_run.1 in
      none has.0 in_run.0 has.1 (subst (λ r. HasRoom size alignment r.start r.end) (sym has.2) in_run.3)

  -- where one was found there is a place
  pub place_at : (i : ℕ) → IsFoundAt regions size alignment i → HasPlace s size alignment
  place_at i found =
      let no_run : FreeListRegion = record { chunk = 0; start = 0; end = 0 } in
      let r = get_or regions i no_run in
      (r.chunk, tail_start size alignment r.end, run_has_place (IsFreeIn s) (Contains regions) runs.spaced size alignment r positive (Contains-get_or regions i no_run found.0) (found.1 no_run).room)

  -- a look-up for room tells whether there is a place
  pub found_or_none : (found : Option ℕ) → 0 < size → IfSome found (IsFoundAt regions size alignment) → IfNone found (All (λ r. HasRoom size alignment r.start r.end → ⊥) regions) → IsTrue (is_some found) ↔ HasPlace s size alignment
  found_or_none (Some i) some at none = ((λ _. place_at i at), (λ _. refl))
  found_or_none None some at none = ((λ t. absurd (cc)), (λ place. absurd (no_place some none place)))

-- a region is a free run, and a free run a region
pub regions_are_runs : (s : ListSpace) (regions : List FreeListRegion) → AreRuns regions (IsFreeIn s) → (r : FreeListRegion) → Contains regions r ↔ IsFreeRun (IsFreeIn s) r.chunk r.start r.end
regions_are_runs s regions runs r = (region_is_run (IsFreeIn s) (Contains regions) runs.spaced r, run_is_region (IsFreeIn s) (Contains regions) runs.spaced r)

-- The tail of a run.

-- what an error is returned for
pub refused : {E : Type 0} (s new : ListSpace) (size alignment : ℕ) (r : Result (Option Slot) E) → IsErr r → HasPlace s size alignment → new ≡ s → TakesTail s size alignment r new
refused s new size alignment (Err e) err place same = (place, same)
refused s new size alignment (Ok o) err place same = absurd (cc)

-- a region that was found has room
pub found_room : (regions : List FreeListRegion) (size alignment i : ℕ) (r : FreeListRegion) → IsFoundAt regions size alignment i → r ≡ get_or regions i r → HasRoom size alignment r.start r.end
found_room regions size alignment i r found is = subst (λ (q : FreeListRegion). HasRoom size alignment q.start q.end) (sym is) (found.1 r).room

-- a slot is the tail of a region that was found
pub record IsTailOf (regions : List FreeListRegion) (size alignment i : ℕ) (r : FreeListRegion) (slot : Slot) : Type 0 where
  pub found : IsFoundAt regions size alignment i
  pub region : r ≡ get_or regions i r
  pub chunk : slot.chunk ≡ r.chunk
  pub offset : slot.offset ≡ tail_start size alignment r.end
  pub length : slot.size ≡ r.end - tail_start size alignment r.end

-- so it is where it was made of that region
pub is_tail_of : (regions : List FreeListRegion) (object size alignment i : ℕ) (r : FreeListRegion) (slot : Slot) → IsFoundAt regions size alignment i → r ≡ get_or regions i r
    → slot ≡ record { object = object; chunk = r.chunk; offset = tail_start size alignment r.end; size = r.end - tail_start size alignment r.end } → IsTailOf regions size alignment i r slot
is_tail_of regions object size alignment i r slot found region is = record {
  found = found;
  region = region;
  chunk = ap (λ (s : Slot). s.chunk) is;
  offset = ap (λ (s : Slot). s.offset) is;
  length = ap (λ (s : Slot). s.size) is;
}

module _ (regions : List FreeListRegion) (size alignment i : ℕ) (r : FreeListRegion) (slot : Slot) (of : IsTailOf regions size alignment i r slot) where
  -- the region stands at its place, whatever the default
  region_at : (d : FreeListRegion) → get_or regions i d ≡ r
  region_at d = get_or_default regions i d r of.found.0 ∙ sym of.region

  room : HasRoom size alignment r.start r.end
  room = found_room regions size alignment i r of.found of.region

  -- the tail ends where the region does
  pub tail_end : slot.offset + slot.size ≡ r.end
  tail_end = omega (arith, of.offset, of.length, tail_below size alignment r.end)

  -- it is not empty
  pub tail_some : 0 < size → 0 < slot.size
  tail_some some = omega (arith, some, of.length, room.enough, tail_below size alignment r.end)

  -- and starts in it
  pub tail_within : 0 < size → (d : FreeListRegion) → ((get_or regions i d).start ≤ slot.offset) × (slot.offset < (get_or regions i d).end)
  tail_within some d =
      let e = region_at d in (
        omega (arith, of.offset, room.from, ap (λ (q : FreeListRegion). q.start) e),
        omega (arith, tail_end, tail_some some, ap (λ (q : FreeListRegion). q.end) e),
      )

  -- its bytes
  pub tail_region : (d : FreeListRegion) → record (get_or regions i d) { start = slot.offset } ≡ region_of slot
  tail_region d =
      let e = region_at d in
      let chunk = ap (λ (q : FreeListRegion). q.chunk) e ∙ sym of.chunk in
      let end = ap (λ (q : FreeListRegion). q.end) e ∙ sym tail_end in
      λ k. record { chunk = chunk k; start = slot.offset; end = end k }

  module _ (s : ListSpace) (runs : AreRuns regions (IsFreeIn s)) (chunk : Chunk) (held : map.get s.chunks r.chunk ≡ Some chunk) (object : slot.object ≡ chunk.object) where
    -- the chunk of the tail
    pub tail_held : map.get s.chunks slot.chunk ≡ Some chunk
    tail_held = subst (λ k. map.get s.chunks k ≡ Some chunk) (sym of.chunk) held

    -- it is the tail of the last run with room
    pub last_tail : IsTail s size alignment slot
    last_tail = record {
      run = r;
      last = subst (IsLastWithRoom (IsFreeIn s) size alignment) (sym of.region) (last_is (IsFreeIn s) regions runs.spaced runs.rising size alignment i r of.found.0 (of.found.1 r).room (of.found.1 r).later);
      chunk = of.chunk;
      start = of.offset;
      end = tail_end;
      object = (chunk, tail_held, object);
    }

    -- and becomes a live block
    pub tail_taken : (new : List FreeListRegion) → 0 < size → IsSoundListSpace s → ((d : FreeListRegion) → AreRunsBeside new (IsFreeIn s) (record (get_or regions i d) { start = slot.offset })) → IsTaken s new slot
    tail_taken new some sound beside = taken s new slot chunk sound (subst (AreRunsBeside new (IsFreeIn s)) (tail_region r) (beside r)) (tail_some some) tail_held object

-- What the stores keep with a block more.

pub listed : (chunks : HeldChunks) (latest : ℕ) (live new : set.FinSet slot_cmp) (regions : List FreeListRegion) (slot : Slot) (count room whole : ℕ) → new ≡ set.insert live slot
    → IsTaken (list_space_in chunks live latest) regions slot → count ≤ room → wholes chunks regions ≡ whole → IsListed (list_space_in chunks new latest) regions count room whole
listed chunks latest live new regions slot count room whole is took enough counted =
    let e : with_slot (list_space_in chunks live latest) slot ≡ list_space_in chunks new latest = ap (λ l. list_space_in chunks l latest) (sym is) in
    record {
      sound = subst IsSoundListSpace e took.sound;
      runs = subst (λ s. AreRuns regions (IsFreeIn s)) e took.runs;
      room = enough;
      whole = counted;
    }

-- room for one more chunk with a block is room in each list
pub some_room : (chunks live regions : ℕ) → 0 < room_for chunks live regions → (0 < chunks) × ((0 < live) × (2 ≤ regions))
some_room chunks live regions some = (omega (arith, some), (omega (arith, some), omega (arith, some)))

-- The lists with a new chunk, and the block that is its tail.

-- a slot is the tail of a new chunk
pub record IsFirstTail (s : ListSpace) (object whole size alignment : ℕ) (slot : Slot) : Type 0 where
  pub is : slot ≡ first_tail s object whole size alignment
  pub some : 0 < size
  pub inside : size ≤ whole

module _ (s : ListSpace) (object whole size alignment : ℕ) (slot : Slot) (of : IsFirstTail s object whole size alignment slot) (sound : IsSoundListSpace s) where
  first_start : slot.offset ≡ tail_start size alignment whole
  first_start = ap (λ (x : Slot). x.offset) of.is

  first_size : slot.size ≡ whole - tail_start size alignment whole
  first_size = ap (λ (x : Slot). x.size) of.is

  -- the tail starts in the chunk
  first_below : slot.offset < whole
  first_below = omega (arith, first_start, of.some, of.inside, tail_below size alignment whole)

  -- its bytes
  first_region : region_of (tail s object whole sound slot.offset first_below) ≡ region_of slot
  first_region =
      let chunk : s.latest + 1 ≡ slot.chunk = ap (λ (x : Slot). x.chunk) (sym of.is) in
      let end : slot.offset + (whole - slot.offset) ≡ slot.offset + slot.size = omega (arith, first_start, first_size) in
      λ k. record { chunk = chunk k; start = slot.offset; end = end k }

  -- nothing of the chunk is left
  pub begun_at_0 : (regions : List FreeListRegion) → AreRuns regions (IsFreeIn s) → slot.offset ≡ 0 → AreRunsBeside regions (IsFreeIn (with_numbered_chunk s object whole)) (region_of slot)
  begun_at_0 regions runs none = subst (AreRunsBeside regions (IsFreeIn (with_numbered_chunk s object whole))) first_region (taken_at_0 s object whole sound slot.offset first_below regions runs none)

  -- the front is left, and pushed
  pub begun_behind : (regions new : List FreeListRegion) → AreRuns regions (IsFreeIn s) → 0 < slot.offset → new ≡ regions ++ record { chunk = s.latest + 1; start = 0; end = slot.offset } ∷ [] → AreRunsBeside new (IsFreeIn (with_numbered_chunk s object whole)) (region_of slot)
  begun_behind regions new runs some pushed_is =
      subst (λ rs. AreRunsBeside rs (IsFreeIn (with_numbered_chunk s object whole)) (region_of slot)) (sym pushed_is)
      (subst (AreRunsBeside (regions ++ record { chunk = s.latest + 1; start = 0; end = slot.offset } ∷ []) (IsFreeIn (with_numbered_chunk s object whole))) first_region (taken_behind s object whole sound slot.offset first_below regions runs some))

  -- the tail becomes a live block
  pub begun_taken : (new : List FreeListRegion) → whole < 2 ^ 64 → AreRunsBeside new (IsFreeIn (with_numbered_chunk s object whole)) (region_of slot) → IsTaken (with_numbered_chunk s object whole) new slot
  begun_taken new fits beside =
      let chunk : Chunk = record { object = object; size = whole } in
      let own = own_inserted s.chunks (s.latest + 1) chunk in
      let number : s.latest + 1 ≡ slot.chunk = ap (λ (x : Slot). x.chunk) (sym of.is) in
      taken (with_numbered_chunk s object whole) new slot chunk (space_with_chunk s object whole sound (omega (arith, first_below)) fits) beside (omega (arith, first_start, first_size, first_below))
      (subst (λ k. map.get (with_numbered_chunk s object whole).chunks k ≡ Some chunk) number own) (ap (λ (x : Slot). x.object) of.is)

module _ (chunks more : HeldChunks) (latest now object whole : ℕ) (live new : set.FinSet slot_cmp) (slot : Slot) (chunks_are : more ≡ map.insert chunks (latest + 1) (record { object = object; size = whole })) (now_is : now ≡ latest + 1)
    (live_are : new ≡ set.insert live slot) where
  -- the stores describe the space with the chunk and the block
  pub with_chunk_in : list_space_in more new now ≡ with_slot (with_numbered_chunk (list_space_in chunks live latest) object whole) slot
  with_chunk_in = λ k. record { chunks = chunks_are k; live = live_are k; latest = now_is k }

  -- and what they keep
  pub listed_with_chunk : (regions : List FreeListRegion) (count room counted : ℕ) → IsTaken (with_numbered_chunk (list_space_in chunks live latest) object whole) regions slot → count ≤ room → wholes more regions ≡ counted
      → IsListed (list_space_in more new now) regions count room counted
  listed_with_chunk regions count room counted took enough is = record {
    sound = subst IsSoundListSpace (sym with_chunk_in) took.sound;
    runs = subst (λ s. AreRuns regions (IsFreeIn s)) (sym with_chunk_in) took.runs;
    room = enough;
    whole = is;
  }
