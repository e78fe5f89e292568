-- Whether a request can ever be served, whatever is held.
use Rattle.std.proofs.Common.{◌≡◌, ◌≢◌, ◌⊎◌, inl, inr, ℕ, ◌<◌, ◌≤◌, ◌==◌, ◌∙◌, ◌&&◌, Bool, true, false, cond, sym, ap, subst, refl, arith, List, [], ◌∷◌, ◌++◌, length, get_or, nat_lt, nat_eq, Option, Some, None, Result, Ok, Err, map as map_list, slice_get}
use Rattle.std.proofs.lemmas.Bool.{MatchBool-at_false, cases_lt}
use Rattle.std.proofs.lemmas.Bool.Decides.{nat_tests}
use Rattle.std.proofs.lemmas.List.{get_or_default}
use Rattle.std.proofs.lemmas.List.Elements.{Contains-append_cases, Contains-append_left, Contains-append_right}
use Rattle.std.proofs.lemmas.Option.{slice_get-map, unwrap_or-slice_get}
use Rattle.std.specs.Int.{bit_at}
use Rattle.std.specs.Option.{option_map, unwrap_or}
use Rattle.std.specs.List.{Contains}
use Rattle.std.specs.FinMap as map
use Rattle.std.specs.Bool.{MatchBool}
use Rattle.std.specs.List.{sum_by}
use Rattle.std.specs.Ordering.{nat_cmp}
use Rattle.gpu_alloc_types.specs.Device.{Event}
use Rattle.gpu_alloc_types.specs.Flags.{usage_bits}
use Rattle.gpu_alloc_types.specs.Properties.{Properties, heap_at, heap_size, size_of}
use Rattle.gpu_alloc_types.specs.declared.types.MemoryHeap.{MemoryHeap}
use Rattle.gpu_alloc_base.specs.Case as case
use Rattle.gpu_alloc_base.specs.NewChunk.{ChunkQuestion, LacksDeviceMemory}
use Rattle.gpu_alloc_base.specs.declared.config.Config.{Config}
use Rattle.gpu_alloc_base.specs.declared.error.AllocationError.{AllocationError}
use Rattle.gpu_alloc_base.specs.declared.error.AllocationError.TheVariants.{OutOfDeviceMemory, OutOfHostMemory}
use Rattle.gpu_alloc_base.specs.declared.error.AllocationError.TheVariants.{NoCompatibleMemoryTypes, TooManyObjects}
use Rattle.gpu_alloc_usage.specs.Ranking.{candidates, implied, is_allowed, named, ranking}
use Rattle.gpu_alloc_usage.proofs.Ranking.Candidates.{allowed-from_bit, candidates_IsRankingWithin, implied-named}
use Rattle.gpu_alloc_usage.proofs.Ranking.Rising.{filter-has, filter-kept, none-at, one-at}
use Rattle.gpu_alloc.specs.Allocation.{Allocates, IsCandidate, Refuses, TriesAll, ask, candidates_of}
use Rattle.gpu_alloc.specs.Candidates.{own_candidate}
use Rattle.gpu_alloc.specs.Opening.{opened_by, size_of_heap}
use Rattle.gpu_alloc.specs.Serving.{AsksForOwnObjects, MayServe, NeverServed, lasting_refusal}
use Rattle.gpu_alloc_block.specs.State.{Block, HeldObject, State, heap_limit, ledger, share}
use Rattle.gpu_alloc_block.specs.declared.sharing.Sharing.{Sharing}
use Rattle.gpu_alloc.specs.declared.request.Dedicated.{Dedicated}
use Rattle.gpu_alloc.specs.declared.request.Dedicated.TheVariants.{Required}
use Rattle.gpu_alloc.specs.declared.request.Request.{Request}

-- The walk over the ranked types.

module _ (s : State) (r : Request) (meant : ℕ) (is : meant ≡ implied (usage_bits r.usage)) where
  abbrev row : List ℕ
  row = ranking (named meant) s.properties.memory_types

  row_as_meant : row ≡ ranking (implied (usage_bits r.usage)) s.properties.memory_types
  row_as_meant = ap (λ u. ranking u s.properties.memory_types) (ap named is ∙ implied-named (usage_bits r.usage))

  -- one that is allowed and has a heap so large serves
  pub found : (t : ℕ) → Contains row t → is_allowed r.memory_types t ≡ true → r.size ≤ s.properties.max_memory_allocation_size → r.size ≤ heap_size s.properties t → MayServe s r
  unfolding IsCandidate
  found t there allowed small room = record {
    small = small;
    candidate = (t, filter-has (is_allowed r.memory_types) _ t allowed (subst (λ ts. Contains ts t) row_as_meant there), room);
  }

  -- where none of them has, nothing serves
  pub none_found : ((k : ℕ) → k < length row → is_allowed r.memory_types (get_or row k 0) ≡ true → heap_size s.properties (get_or row k 0) < r.size) → MayServe s r → ⊥
  unfolding IsCandidate
  none_found small may =
      let t = may.candidate.0 in
      let has = ((candidates_IsRankingWithin s.properties.memory_types (usage_bits r.usage) r.memory_types).exactly t).0 may.candidate.1 in
      let there : Contains row t = subst (λ ts. Contains ts t) (sym row_as_meant) (filter-kept (is_allowed r.memory_types) _ t may.candidate.1) in
      let same : get_or row there.0 0 ≡ t = get_or_default row there.0 0 t there.1 ∙ there.2 in
      let allowed : is_allowed r.memory_types (get_or row there.0 0) ≡ true = rw same (allowed-from_bit (bit_at r.memory_types t) has.1) in
      let less : heap_size s.properties t < r.size = subst (λ x. heap_size s.properties x < r.size) same (small there.0 there.1 allowed) in
      let none : ⊥ = omega (arith, less, may.candidate.2) in absurd none

-- No candidate has a heap so large.

module _ (s : State) (r : Request) (hint : Option Dedicated) where
  none_tries : (ts : List ℕ) (es : List Event) (answer : Result Block AllocationError) (new : State)
      → ((t : ℕ) → Contains ts t → heap_size s.properties t < r.size) → TriesAll s (ask r hint) ts es answer new → Refuses s OutOfDeviceMemory es answer new
  none_tries [] es answer new small all = all
  none_tries (t ∷ ts) es answer new small (inl (first, rest, is, passed, later)) =
      let less = small t (Contains-append_left (t ∷ []) ts t (0, omega arith, refl)) in
      let end = none_tries ts rest answer new (λ u there. small u (Contains-append_right (t ∷ []) ts u there)) later in
      elim passed [
        | inl smaller ↦ (is ∙ ap (λ f. f ++ rest) smaller.1 ∙ end.0, end.1, end.2)
        | inr larger ↦ let none : ⊥ = omega (arith, larger.0) in absurd none
      ]
  none_tries (t ∷ ts) es answer new small (inr decides) =
      let less = small t (Contains-append_left (t ∷ []) ts t (0, omega arith, refl)) in
      let none : ⊥ = omega (arith, decides.0) in absurd none

by_limits : (B : Type 0) {A C X : Type 0} (over none : Bool) → MatchBool over A (MatchBool false B (MatchBool none C X)) → ((over ≡ true) × A) ⊎ ((over ≡ false) × (((none ≡ true) × C) ⊎ ((none ≡ false) × X)))
by_limits B true none h = inl (refl, h)
by_limits B false true h = inr (refl, inl (refl, h))
by_limits B false false h = inr (refl, inr (refl, h))

module _ (s later : State) (r : Request) (es : List Event) (answer : Result Block AllocationError) (new : State) (none : MayServe s r → ⊥) (same : later.properties ≡ s.properties) where
  abbrev over : Bool
  over = nat_lt later.properties.max_memory_allocation_size r.size

  abbrev nothing : Bool
  nothing = nat_eq (length (candidates_of later r)) 0

  causes : lasting_refusal s r ≡ cond over OutOfDeviceMemory (cond nothing NoCompatibleMemoryTypes OutOfDeviceMemory)
  causes = ap (λ p. cond (nat_lt p.max_memory_allocation_size r.size) OutOfDeviceMemory (cond (nat_eq (length (candidates p.memory_types (usage_bits r.usage) r.memory_types)) 0) NoCompatibleMemoryTypes OutOfDeviceMemory)) (sym same)

  small_heaps : over ≡ false → (t : ℕ) → Contains (candidates_of later r) t → heap_size later.properties t < r.size
  unfolding IsCandidate
  small_heaps within t there = elim (cases_lt (heap_size later.properties t) r.size) [
    | inl less ↦ less
    | inr enough ↦ absurd (none (record {
      small = subst (λ (p : Properties). r.size ≤ p.max_memory_allocation_size) same (grind (arith, nat_tests, within));
      candidate = (t, subst (λ (p : Properties). Contains (candidates p.memory_types (usage_bits r.usage) r.memory_types) t) same there, subst (λ (p : Properties). r.size ≤ heap_size p t) same enough);
    }))
  ]

  as_caused : (e : AllocationError) → lasting_refusal s r ≡ e → Refuses later e es answer new → Refuses later (lasting_refusal s r) es answer new
  as_caused e is refused = (refused.0, refused.1 ∙ ap (λ (x : AllocationError). Err x) (sym is), refused.2)

  never_here : Allocates later r None es answer new → Refuses later (lasting_refusal s r) es answer new
  unfolding Allocates
  never_here h = elim (by_limits (Refuses later TooManyObjects es answer new) over nothing h) [
    | inl large ↦ as_caused OutOfDeviceMemory (causes ∙ ap (λ b. cond b OutOfDeviceMemory (cond nothing NoCompatibleMemoryTypes OutOfDeviceMemory)) large.0) large.1
    | inr within ↦ elim within.1 [
      | inl empty ↦ as_caused NoCompatibleMemoryTypes (causes ∙ ap (λ b. cond b OutOfDeviceMemory (cond nothing NoCompatibleMemoryTypes OutOfDeviceMemory)) within.0 ∙ ap (λ b. cond b NoCompatibleMemoryTypes OutOfDeviceMemory) empty.0) empty.1
      | inr some ↦
          as_caused OutOfDeviceMemory (causes ∙ ap (λ b. cond b OutOfDeviceMemory (cond nothing NoCompatibleMemoryTypes OutOfDeviceMemory)) within.0 ∙ ap (λ b. cond b NoCompatibleMemoryTypes OutOfDeviceMemory) some.0)
          (none_tries later r None (candidates_of later r) es answer new (small_heaps within.0) some.1)
    ]
  ]

pub never_served : NeverServed
never_served = never_here

-- Where nothing is held, an object of the request's own is asked for.

nothing_counted : (sharing : Sharing) (c : Config) (p : Properties) (heap : ℕ) → ledger (opened_by sharing c p) heap ≡ 0
nothing_counted sharing c p heap = of_none (map.entries (opened_by sharing c p).held) (sym (map.len-entries (opened_by sharing c p).held) ∙ map.len-empty nat_cmp HeldObject)
  where
    of_none : (es : List (ℕ × HeldObject)) → length es ≡ 0 → sum_by (share p heap) es ≡ 0
    of_none [] none = refl
    of_none (e ∷ es) none = let never : ⊥ = omega (arith, none) in absurd never

sized : (o : Option MemoryHeap) → unwrap_or (option_map size_of_heap o) 0 ≡ size_of o
sized None = refl
sized (Some heap) = refl

-- a heap's limit is its size
whole_limit : (sharing : Sharing) (c : Config) (p : Properties) (t : ℕ) → heap_limit (opened_by sharing c p) (heap_at p t) ≡ heap_size p t
whole_limit sharing c p t =
    let heaps = p.memory_heaps in
    sym (unwrap_or-slice_get (map_list size_of_heap heaps) (heap_at p t) 0) ∙ ap (λ o. unwrap_or o 0) (slice_get-map size_of_heap heaps (heap_at p t)) ∙ sized (slice_get heaps (heap_at p t))

-- there were questions, or the host had no memory
abbrev Asked : List Event → Result Block AllocationError → Type 0
Asked es answer = (es ≢ []) ⊎ (answer ≡ Err OutOfHostMemory)

module _ (sharing : Sharing) (c : Config) (p : Properties) (r : Request) (remains : 0 < p.max_memory_allocation_count) where
  abbrev s : State
  s = opened_by sharing c p

  lacks_device : (q : ChunkQuestion) (es : List Event) → LacksDeviceMemory q es → es ≢ []
  lacks_device q es (inl is) none = let never = sym is ∙ none in absurd (cc)
  lacks_device q es (inr (seen, (object, is))) none = let never = sym is ∙ none in absurd (cc)

  passed_asked : (t : ℕ) (es : List Event) → r.size ≤ heap_size p t → case.IsPassed (own_candidate s r.size t) es → es ≢ []
  passed_asked t es room (inl (inl never, is)) = absurd (never tt)
  passed_asked t es room (inl (inr (has, over), is)) =
      let empty = nothing_counted sharing c p (heap_at p t) in
      let whole = whole_limit sharing c p t in
      let none : ⊥ = omega (arith, over, room, empty, whole) in absurd none
  passed_asked t es room (inr (asks, lacks)) = lacks_device _ es lacks

  decided_asked : (t : ℕ) (es : List Event) (answer : Result Block AllocationError) (new : State) → case.Decides (own_candidate s r.size t) es answer new → Asked es answer
  decided_asked t es (Ok b) new (inl given) = absurd (given.place)
  decided_asked t es (Ok b) new (inr given) = inl (λ none. let never = sym given.asked ∙ none in absurd (cc))
  decided_asked t es (Err TooManyObjects) new (same, is, shut) = elim shut.barred [
    | inl none ↦ let never : ⊥ = omega (arith, none, remains) in absurd never
    | inr none ↦ absurd (none tt)
  ]
  decided_asked t es (Err OutOfHostMemory) new h = inr refl
  decided_asked t es (Err OutOfDeviceMemory) new h = absurd h
  decided_asked t es (Err NoCompatibleMemoryTypes) new h = absurd h

  more_asked : (first rest es : List Event) (answer : Result Block AllocationError) → es ≡ first ++ rest → first ≢ [] → Asked es answer
  more_asked [] rest es answer is some = absurd (some refl)
  more_asked (e ∷ first) rest es answer is some = inl (λ none. let never = sym is ∙ none in absurd (cc))

  asked_later : (rest es : List Event) (answer : Result Block AllocationError) → es ≡ rest → Asked rest answer → Asked es answer
  asked_later rest es answer is (inl some) = inl (λ none. some (sym is ∙ none))
  asked_later rest es answer is (inr host) = inr host

  all_asked : (ts : List ℕ) (es : List Event) (answer : Result Block AllocationError) (new : State) (t : ℕ) → Contains ts t → r.size ≤ heap_size p t
      → TriesAll s (ask r (Some Required)) ts es answer new → Asked es answer
  all_asked [] es answer new t there room h = absurd (none-at t there)
  all_asked (u ∷ ts) es answer new t there room (inr decides) = decided_asked u es answer new decides.1
  all_asked (u ∷ ts) es answer new t there room (inl (first, rest, is, passed, later)) = elim passed [
    | inr larger ↦ more_asked first rest es answer is (passed_asked u first larger.0 larger.1)
    | inl smaller ↦
        let same : es ≡ rest = is ∙ ap (λ f. f ++ rest) smaller.1 in
        elim (Contains-append_cases (u ∷ []) ts t there) [
          | inl now ↦
              let own : u ≡ t = one-at u t now.0 now.1 now.2 in
              let none : ⊥ = omega (arith, subst (λ x. heap_size p x < r.size) own smaller.0) in absurd none
          | inr behind ↦ asked_later rest es answer same (all_asked ts rest answer new t behind room later)
        ]
  ]

pub asks_for_own : AsksForOwnObjects
unfolding Allocates IsCandidate
asks_for_own sharing c p r es answer new may remains h =
    let small = may.small in
    let there = may.candidate.1 in
    let within : nat_lt p.max_memory_allocation_size r.size ≡ false = grind (arith, nat_tests, small) in
    let free : (true && (p.max_memory_allocation_count == 0)) ≡ false = grind (arith, nat_tests, remains) in
    let some : nat_eq (length (candidates_of (opened_by sharing c p) r)) 0 ≡ false = at_least_one (candidates_of (opened_by sharing c p) r) may.candidate.0 there in
    all_asked sharing c p r remains (candidates_of (opened_by sharing c p) r) es answer new may.candidate.0 there may.candidate.2
    (MatchBool-at_false _ _ some (MatchBool-at_false _ _ free (MatchBool-at_false _ _ within h)))
  where
    at_least_one : (ts : List ℕ) (t : ℕ) → Contains ts t → nat_eq (length ts) 0 ≡ false
    at_least_one [] t there = absurd (none-at t there)
    at_least_one (u ∷ ts) t there = grind (arith, nat_tests)
