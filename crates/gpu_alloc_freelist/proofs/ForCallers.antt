-- Chunks that go one by one, until none may, and lemmas for callers.
use Rattle.std.proofs.Common.{◌≡◌, ◌≢◌, inl, inr, ℕ, zero, suc, ◌+◌, ◌-◌, ◌<◌, Bool, List, [], ◌∷◌, ◌++◌, length, get_or, Option, Some, None, IsSome, refl, sym, ◌∙◌, ap, subst, arith}
use Rattle.std.specs.Prelude as list
use Rattle.std.specs.Prelude.{sum_by}
use Rattle.std.specs.FinMap as map
use Rattle.std.specs.List.{Contains}
use Rattle.std.proofs.lemmas.Bool.{cases_eq}
use Rattle.std.proofs.lemmas.List.Elements.{Contains-get_or}
use Rattle.std.proofs.lemmas.List.Sums.{sum_by-cons}
use Rattle.gpu_alloc_types.specs.Device.{Asked, Chain, Event, Object, put}
use Rattle.gpu_alloc_types.specs.Chains.{chain_append}
use Rattle.gpu_alloc_types.specs.Device.Event.{Deallocated}
use Rattle.gpu_alloc_base.specs.Chunks.{Chunk, object_in}
use Rattle.gpu_alloc_freelist.specs.FreeList.{MayGo, IsFirstToGo, IsWhollyFree, without_chunk}
use Rattle.gpu_alloc_base.specs.Accounts.{Account, account}
use Rattle.gpu_alloc_freelist.specs.FreeListAllocator.{AreReleased, CallReleases, AreRisingNumbers, Releases, LetsWholeChunksGo, size_in, object_of, size_of_chunk, without_numbers, without_objects_of}
use Rattle.gpu_alloc_freelist.specs.FreeListSound.{IsSoundFreeList}
use Rattle.gpu_alloc_freelist.specs.FreeListState.{FreeListState, ListSpace}
use Rattle.gpu_alloc_freelist.specs.FreeListRule.{list_rule}
use Rattle.gpu_alloc_shared.specs.Shared.{ReleasesNext}
use Rattle.gpu_alloc_base.proofs.Lists.{contains_cases, contains_head, contains_later, contains_none}
use Rattle.gpu_alloc_base.proofs.Maps.{found_value, kept_other}
use Rattle.gpu_alloc_freelist.proofs.GoneChunks.{may_go_before, may_go_then}
pub use Rattle.gpu_alloc_freelist.proofs.GoneChunks.{sound_without_chunk, sound_without_slot}

-- a chunk less
abbrev pub account_without_chunk : Account FreeListState → ℕ → Chunk → Account FreeListState
account_without_chunk a n chunk = record {
  allocator = record a.allocator { space = without_chunk a.allocator.space n };
  heap = record a.heap { used = a.heap.used - chunk.size };
  remaining = a.remaining + 1;
}

-- What a call releases by the list before a chunk is removed and after: the same, of other numbers.

module _ (s t : ListSpace) where
  abbrev AreSame : List ℕ → Type 0
  AreSame gone = (k : ℕ) → Contains gone k → map.get s.chunks k ≡ map.get t.chunks k

  events_same : (gone : List ℕ) → AreSame gone → list.map (λ k. Deallocated (object_of s k)) gone ≡ list.map (λ k. Deallocated (object_of t k)) gone
  events_same [] same = refl
  events_same (k ∷ ks) same = λ i. Deallocated (object_in (same k (contains_head k ks) i)) ∷ events_same ks (λ m has. same m (contains_later k m ks has)) i

  sizes_same : (gone : List ℕ) → AreSame gone → sum_by (size_of_chunk s) gone ≡ sum_by (size_of_chunk t) gone
  sizes_same [] same = refl
  sizes_same (k ∷ ks) same =
      omega (arith, sum_by-cons (size_of_chunk s) k ks, sum_by-cons (size_of_chunk t) k ks, ap size_in (same k (contains_head k ks)), sizes_same ks (λ m has. same m (contains_later k m ks has)))

  objects_same : (objects : ℕ → Option Object) (gone : List ℕ) → AreSame gone → without_objects_of s objects gone ≡ without_objects_of t objects gone
  objects_same objects [] same = refl
  objects_same objects (k ∷ ks) same =
      ap (λ o. without_objects_of s (put objects (object_in o) None) ks) (same k (contains_head k ks)) ∙ objects_same (put objects (object_of t k) None) ks (λ m has. same m (contains_later k m ks has))

rising_cons : (n : ℕ) (gone : List ℕ) → ((k : ℕ) → Contains gone k → n < k) → AreRisingNumbers gone → AreRisingNumbers (n ∷ gone)
rising_cons n gone less rising zero zero d lt within = absurd (omega (arith, lt))
rising_cons n gone less rising zero (suc j) d lt within = less (get_or gone j d) (Contains-get_or gone j d (omega (arith, within)))
rising_cons n gone less rising (suc i) zero d lt within = absurd (omega (arith, lt))
rising_cons n gone less rising (suc i) (suc j) d lt within = rising i j d (omega (arith, lt)) (omega (arith, within))

-- Chunks go, until none may.

pub none_left : (keep_last : Bool) (a : Account FreeListState) (objects : ℕ → Option Object) → ((number : ℕ) → MayGo a.allocator.space keep_last number → ⊥) → LetsWholeChunksGo keep_last a [] [] a objects objects
none_left keep_last a objects none = (
  record { rising = λ i j d lt within. absurd (omega (arith, within)); all = λ number. ((λ has. absurd (contains_none number has)), (λ may. absurd (none number may))) },
  ((refl, λ i. account a.allocator (record a.heap { used = used i }) (remaining i)), refl),
)
  where
    used : a.heap.used ≡ a.heap.used - 0
    used = omega arith

    remaining : a.remaining ≡ a.remaining + 0
    remaining = omega arith

-- one goes first, and then others
module _ (keep_last : Bool) (a new : Account FreeListState) (gone : List ℕ) (es : List Event) (now objects : ℕ → Option Object) (n : ℕ) (chunk : Chunk) (is : map.get a.allocator.space.chunks n ≡ Some chunk) (some : 0 < chunk.size)
    (first : IsFirstToGo a.allocator.space keep_last n) (lets : LetsWholeChunksGo keep_last (account_without_chunk a n chunk) gone es new (put now chunk.object None) objects) where
  abbrev s : ListSpace
  s = a.allocator.space

  was : (k : ℕ) → Contains gone k → (k ≢ n) × MayGo s keep_last k
  was k has = may_go_before s keep_last n k ((lets.0.all k).0 has)

  same : AreSame (without_chunk s n) s gone
  same k has = kept_other s.chunks n k (was k has).0

  used : a.heap.used - chunk.size - sum_by (size_of_chunk (without_chunk s n)) gone ≡ a.heap.used - sum_by (size_of_chunk s) (n ∷ gone)
  used = omega (arith, sum_by-cons (size_of_chunk s) n gone, ap size_in is, sizes_same (without_chunk s n) s gone same)

  remaining : a.remaining + 1 + length gone ≡ a.remaining + length (n ∷ gone)
  remaining = omega arith

  one_goes_first : LetsWholeChunksGo keep_last a (n ∷ gone) (Deallocated chunk.object ∷ es) new now objects
  one_goes_first = (
    record {
      rising = rising_cons n gone (λ k has. let less = first.least k (was k has).1 in omega (arith, less, (was k has).0)) lets.0.rising;
      all = λ m. (
        λ has. elim (contains_cases n m gone has) [ inl this ↦ subst (MayGo s keep_last) (sym this) first.goes | inr later ↦ (was m later).1 ],
        λ may. elim (cases_eq m n) [
          | inl this ↦ subst (Contains (n ∷ gone)) (sym this) (contains_head n gone)
          | inr other ↦ contains_later n m gone ((lets.0.all m).1 (may_go_then s keep_last n chunk is some first.goes m other may))
        ],
      );
    },
    (
      (
        λ i. Deallocated (object_in (sym is i)) ∷ (lets.1.0.0 ∙ events_same (without_chunk s n) s gone same) i,
        lets.1.0.1 ∙ (λ i. record {
          allocator = record a.allocator { space = record s { chunks = without_numbers (map.remove s.chunks n) gone } };
          heap = record a.heap { used = used i };
          remaining = remaining i;
        }),
      ),
      lets.1.1 ∙ objects_same (without_chunk s n) s (put now chunk.object None) gone same ∙ ap (λ o. without_objects_of s (put now (object_in o) None) gone) (sym is),
    ),
  )

-- the next one goes by the rule, if there is one, and then others
pub goes_on : {D : Type 0} (step : D → Event → D → Type 0) (objects : D → ℕ → Option Object) (old mid end : D) (keep_last : Bool) (a b new : Account FreeListState) → IsSoundFreeList a.allocator
    → Asked step old mid (λ es. ReleasesNext list_rule a keep_last es b (objects old) (objects mid)) → CallReleases step objects mid end keep_last b new → CallReleases step objects old end keep_last a new
goes_on step objects old mid end keep_last a b new sound (fs, chain, inl none) rest =
    let same_device : mid ≡ old = subst (λ es. Chain step old es mid) none.1 chain in
    subst (λ x. CallReleases step objects old end keep_last x new) none.2 (subst (λ d. CallReleases step objects d end keep_last b new) same_device rest)
goes_on step objects old mid end keep_last a b new sound (fs, chain, inr goes) rest =
    let n = goes.0 in
    let chunk : Chunk = goes.2.0 in
    let then =
    subst (λ x. LetsWholeChunksGo keep_last x rest.0 rest.1.0 new (put (objects old) chunk.object None) (objects end)) goes.2.2.1
    (subst (λ f. LetsWholeChunksGo keep_last b rest.0 rest.1.0 new f (objects end)) goes.3 rest.1.2) in (
      n ∷ rest.0,
      (
        Deallocated chunk.object ∷ rest.1.0,
        subst (λ es. Chain step old (es ++ rest.1.0) end) goes.2.2.0 (chain_append step fs rest.1.0 old mid end chain rest.1.1),
        one_goes_first keep_last a new rest.0 rest.1.0 (objects old) (objects end) n chunk goes.2.1 (sound.space.sizes n chunk goes.2.1).0 goes.1 then,
      ),
    )

-- For callers: what is so of the account that is left, by the names of the chunks that went. It is so where none goes, and where one goes first and it is so of the others.

module _ (ReleasesChunk : Account FreeListState → List ℕ → Account FreeListState → Type 0) (none_goes : (a : Account FreeListState) → ReleasesChunk a [] a)
    (one_goes : (a new : Account FreeListState) (n : ℕ) (chunk : Chunk) (names : List ℕ) → IsSoundFreeList a.allocator → map.get a.allocator.space.chunks n ≡ Some chunk → IsWhollyFree a.allocator.space n → ReleasesChunk (account_without_chunk a n chunk) names new
    → ReleasesChunk a (chunk.object ∷ names) new) where
  each_goes : (chunk_of : ℕ → Chunk) (gone : List ℕ) (a new : Account FreeListState) → IsSoundFreeList a.allocator → AreRisingNumbers gone
      → ((n : ℕ) → Contains gone n → (map.get a.allocator.space.chunks n ≡ Some (chunk_of n)) × IsWhollyFree a.allocator.space n)
      → new ≡ record {
        allocator = record a.allocator { space = record a.allocator.space { chunks = without_numbers a.allocator.space.chunks gone } };
        heap = record a.heap { used = a.heap.used - sum_by (λ n. (chunk_of n).size) gone };
        remaining = a.remaining + length gone;
      } → ReleasesChunk a (list.map (λ n. (chunk_of n).object) gone) new
  each_goes chunk_of [] a new sound rising free is = subst (ReleasesChunk a []) (sym (is ∙ (λ i. account a.allocator (record a.heap { used = used i }) (remaining i)))) (none_goes a)
    where
      used : a.heap.used - 0 ≡ a.heap.used
      used = omega arith

      remaining : a.remaining + 0 ≡ a.remaining
      remaining = omega arith
  each_goes chunk_of (n ∷ others) a new sound rising free is =
      let first = free n (contains_head n others) in
      one_goes a new n (chunk_of n) (list.map (λ k. (chunk_of k).object) others) sound first.0 first.1
      (each_goes chunk_of others (account_without_chunk a n (chunk_of n)) new (sound_without_chunk a.allocator n sound first.1)
      (λ i j d before within. rising (suc i) (suc j) d (omega (arith, before)) (omega (arith, within)))
      (λ k has.
      let later = free k (contains_later n k others has) in
      let other = kept_other a.allocator.space.chunks n k (λ same. let less : n < get_or others has.0 k = rising 0 (suc has.0) k (omega arith) (omega (arith, has.1)) in omega (arith, less, has.2, same)) in
      (other ∙ later.0, record { held = subst IsSome (sym other) later.1.held; unused = later.1.unused }))
      (is ∙ (λ i. record {
        allocator = record a.allocator { space = record a.allocator.space { chunks = without_numbers (map.remove a.allocator.space.chunks n) others } };
        heap = record a.heap { used = used i };
        remaining = remaining i;
      })))
    where
      used : a.heap.used - sum_by (λ k. (chunk_of k).size) (n ∷ others) ≡ a.heap.used - (chunk_of n).size - sum_by (λ k. (chunk_of k).size) others
      used = omega (arith, sum_by-cons (λ k. (chunk_of k).size) n others)

      remaining : a.remaining + length (n ∷ others) ≡ a.remaining + 1 + length others
      remaining = omega arith

  pub all_go : (a new : Account FreeListState) (keep_last : Bool) (gone : List ℕ) (es : List Event) → IsSoundFreeList a.allocator → AreReleased a.allocator.space keep_last gone → Releases a gone es new → ReleasesChunk a (list.map (object_of a.allocator.space) gone) new
  all_go a new keep_last gone es sound are lets =
      each_goes (λ n. record { object = object_of a.allocator.space n; size = size_of_chunk a.allocator.space n }) gone a new sound are.rising
      (λ n has.
      let free = ((are.all n).0 has).0 in
      let there = found_value _ free.held in
      (there.1 ∙ sym (ap (λ (o : Option Chunk). Some (record { object = object_in o; size = size_in o })) there.1), free))
      lets.1
