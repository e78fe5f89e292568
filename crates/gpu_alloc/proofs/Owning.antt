-- What calls leave of the blocks that a caller has in hand.
use Rattle.std.proofs.Common.{◌≡◌, ◌≢◌, zero, suc, ◌+◌, ◌-◌, ◌<◌, true, false, cond, List, [], ◌∷◌, ◌++◌, append-nil, refl, sym, ◌∙◌, ap, subst, arith, Result, Ok, Err, IfOk}
use Rattle.std.specs.FinSet as set
use Rattle.gpu_alloc_types.specs.Device.{Event}
use Rattle.gpu_alloc.specs.Allocation.{AllocatesBy, IsGranted, Plan}
use Rattle.gpu_alloc.specs.Owned.{AreTwo, IsBeside, AreOwned, Leaves, Adds, Removes}
use Rattle.gpu_alloc.specs.Release.{Cleans, Frees}
use Rattle.gpu_alloc.specs.Sound.{IsSound}
use Rattle.gpu_alloc.specs.declared.request.Request.{Request}
use Rattle.gpu_alloc_base.specs.declared.error.AllocationError.{AllocationError}
use Rattle.gpu_alloc.proofs.Decisions.{allocates_kept}
use Rattle.gpu_alloc_block.specs.State.{State, Block, Span, span_of, span_cmp, AreSpansApart, IsLive, IsOwned, is_shared}
use Rattle.gpu_alloc.proofs.Changes.{Grows, allocates_grow, granted_kept, apart_differ, still_owned}
use Rattle.gpu_alloc_block.proofs.Kept.{two_back}
use Rattle.gpu_alloc_block.proofs.LiveSpans.{span_total, live_new, live_still, live_kept, not_live, put_taken, taken_before}

-- Two blocks.

-- a block with an object of its own is of another object than each other live span
other_object : (s : State) (b : Block) (span : Span) → IsSound s → IsOwned s b → IsLive s span → span_of b ≢ span → is_shared b.kind ≡ false → b.object ≢ span.object
other_object s b span sound owned live differ own same =
    differ (sound.alone b.object owned.held.0 owned.held.1 (ap is_shared owned.held.3 ∙ own) (span_of b) span owned.live live refl (sym same))

-- two owned blocks of different spans share no byte
pub differ_two : (s : State) (b c : Block) → IsSound s → IsOwned s b → IsOwned s c → span_of b ≢ span_of c → AreTwo b c
differ_two s b c sound owned also differ = record {
  apart = sound.apart (span_of b) (span_of c) owned.live also.live differ;
  differ = differ;
  objects = record {
    first = other_object s b (span_of c) sound owned also.live differ;
    second = λ alone same. other_object s c (span_of b) sound also owned.live (λ is. differ (sym is)) alone (sym same);
  };
}

-- All blocks of a list.

all_kept : (s new : State) → ((c : Block) → IsOwned s c → IsOwned new c) → (cs : List Block) → AreOwned s cs → AreOwned new cs
all_kept s new kept [] owned = tt
all_kept s new kept (c ∷ cs) owned = (kept c owned.0, owned.1, all_kept s new kept cs owned.2)

beside_more : (b c : Block) (cs : List Block) → IsBeside c cs → AreTwo c b → IsBeside c (cs ++ b ∷ [])
beside_more b c [] beside two = (two, tt)
beside_more b c (d ∷ cs) beside two = (beside.0, beside_more b c cs beside.1 two)

beside_less : (b c : Block) (cs ds : List Block) → IsBeside c (cs ++ b ∷ ds) → AreTwo c b × IsBeside c (cs ++ ds)
beside_less b c [] ds beside = beside
beside_less b c (d ∷ cs) ds beside =
    let rest = beside_less b c cs ds beside.1 in
    (rest.0, (beside.0, rest.1))

-- A grant.

module _ (s : State) (b : Block) (new : State) (grows : Grows s b new) where
  pub granted_all : (cs : List Block) → AreOwned s cs → AreOwned new cs
  granted_all = all_kept s new (granted_kept s b new grows)

  module _ (sound : IsSound s) (free : (span : Span) → IsLive s span → AreSpansApart span (span_of b)) (sound_new : IsSound new) (own : IsOwned new b) where
    -- the block is another than each that was owned
    pub granted_other : (c : Block) → IsOwned s c → AreTwo c b
    granted_other c owned =
        differ_two new c b sound_new (granted_kept s b new grows c owned) own
        (apart_differ (span_of c) (span_of b) (free (span_of c) owned.live) (sound.nonempty (span_of c) owned.live))

    -- and goes to them
    pub granted_more : (cs : List Block) → AreOwned s cs → AreOwned new (cs ++ b ∷ [])
    granted_more [] owned = (own, tt, tt)
    granted_more (c ∷ cs) owned = (granted_kept s b new grows c owned.0, beside_more b c cs owned.1 (granted_other c owned.0), granted_more cs owned.2)

  module _ (sound : IsSound s) (free : (span : Span) → IsLive s span → AreSpansApart span (span_of b)) where
    not_yet : set.contains s.live (span_of b) ≡ false
    not_yet = not_live s.live (span_of b) (λ live. apart_differ (span_of b) (span_of b) (free (span_of b) live) (sound.nonempty (span_of b) live) refl)

    pub granted_count : set.len new.live ≡ set.len s.live + 1
    granted_count = ap (λ (l : set.FinSet span_cmp). set.len l) grows.live ∙ set.len-insert span_total s.live (span_of b) ∙ ap (λ t. cond t (set.len s.live) (set.len s.live + 1)) not_yet

  -- What a grant leaves and adds.

  pub grant_leaves : Leaves s new
  grant_leaves = record { properties = grows.properties; sharing = grows.sharing; config = grows.config; limits = grows.limits; owned = granted_kept s b new grows; all = granted_all }

  pub grant_adds : IsSound s → ((span : Span) → IsLive s span → AreSpansApart span (span_of b)) → IsSound new → IsOwned new b → Adds s new b
  grant_adds sound free sound_new own =
      let other = granted_other sound free sound_new own in
      record {
        live = grows.live;
        count = granted_count sound free;
        held = grows.held;
        before = other;
        after = λ c owned. two_back c b (other c owned);
        all = granted_more sound free sound_new own;
      }

-- What an allocation leaves and adds.

-- where nothing changed, everything is left
pub left_as_it_was : (s new : State) → new ≡ s → Leaves s new
left_as_it_was s new same = record {
  properties = ap (λ (t : State). t.properties) same;
  sharing = ap (λ (t : State). t.sharing) same;
  config = ap (λ (t : State). t.config) same;
  limits = ap (λ (t : State). t.heap_limits) same;
  owned = λ b owned. subst (λ t. IsOwned t b) (sym same) owned;
  all = λ bs owned. subst (λ t. AreOwned t bs) (sym same) owned;
}

module _ (s : State) (p : Plan) (es : List Event) where
  pub allocates_leave : (answer : Result Block AllocationError) (new : State) → AllocatesBy s p es answer new → Leaves s new
  allocates_leave (Err e) new decided = left_as_it_was s new (allocates_kept s p es (Err e) new decided)
  allocates_leave (Ok b) new decided = grant_leaves s b new (allocates_grow s p es b new decided)

  pub allocates_add : (r : Request) → IsSound s → (answer : Result Block AllocationError) (new : State) → IsSound new → AllocatesBy s p es answer new → IfOk answer (IsGranted s r new) → IfOk answer (Adds s new)
  allocates_add r sound (Err e) new sound_new decided granted = tt
  allocates_add r sound (Ok b) new sound_new decided granted = grant_adds s b new (allocates_grow s p es b new decided) sound granted.was_free sound_new granted.owned

-- A return.

some_live : (live : set.FinSet span_cmp) (span : Span) → set.contains live span ≡ true → 0 < set.len live
some_live live span there = elim (set.len live) as (λ n. set.len live ≡ n → 0 < n) [
  | zero ↦ λ none.
      let empty = set.empty_of_len live none in
      let no : set.contains live span ≡ false = ap (λ (l : set.FinSet span_cmp). set.contains l span) empty ∙ set.contains-empty span_cmp span in
      absurd (let n : false ≡ true = sym no ∙ there in cc)
  | suc n ↦ λ is. omega arith
] refl

module _ (s : State) (b : Block) (es : List Event) (new : State) (frees : Frees s b es new) where
  pub returned_live : new.live ≡ set.remove s.live (span_of b)
  returned_live = ap (λ (t : State). t.live) frees.2.1

  pub returned_count : IsLive s (span_of b) → set.len new.live + 1 ≡ set.len s.live
  returned_count live =
      let some = some_live s.live (span_of b) live in
      let less : set.len new.live ≡ set.len s.live - 1 = ap (λ (l : set.FinSet span_cmp). set.len l) returned_live ∙ set.len-remove span_total s.live (span_of b) ∙ ap (λ t. cond t (set.len s.live - 1) (set.len s.live)) live in
      omega (arith, some, less)

  module _ (sound : IsSound new) where
    pub returned_kept : (c : Block) → IsOwned s c → span_of c ≢ span_of b → IsOwned new c
    returned_kept c owned other =
        let live : IsLive new (span_of c) = rw returned_live (live_kept s.live (span_of b) (span_of c) other owned.live) in
        still_owned s new frees.0 c sound (ap (λ (t : State). t.held) frees.2.1) owned live

    pub returned_all : (cs : List Block) → IsBeside b cs → AreOwned s cs → AreOwned new cs
    returned_all [] beside owned = tt
    returned_all (c ∷ cs) beside owned = (returned_kept c owned.0 (λ same. beside.0.differ (sym same)), owned.1, returned_all cs beside.1 owned.2)

    returned_any : (cs ds : List Block) → AreOwned s (cs ++ b ∷ ds) → AreOwned new (cs ++ ds)
    returned_any [] ds owned = returned_all ds owned.1 owned.2
    returned_any (c ∷ cs) ds owned =
        let beside = beside_less b c cs ds owned.1 in
        (returned_kept c owned.0 beside.0.differ, beside.1, returned_any cs ds owned.2)

    pub frees_remove : IsOwned s b → Removes s b new
    frees_remove owned = record {
      properties = ap (λ (t : State). t.properties) frees.2.1;
      sharing = ap (λ (t : State). t.sharing) frees.2.1;
      config = ap (λ (t : State). t.config) frees.2.1;
      limits = ap (λ (t : State). t.heap_limits) frees.2.1;
      live = returned_live;
      count = returned_count owned.live;
      owned = returned_kept;
      first = λ cs all. returned_all cs all.1 all.2;
      last = λ cs all. subst (AreOwned new) (append-nil cs) (returned_any cs [] all);
      any = returned_any;
    }

-- What was granted and returned.

-- where a set with one more has more of them, that one was not in it
was_none : (live : set.FinSet span_cmp) (span : Span) → set.len (set.insert live span) ≡ set.len live + 1 → set.contains live span ≡ false
was_none live span more = elim (set.contains live span) as (λ t. set.contains live span ≡ t → t ≡ false) [
  | true ↦ λ there.
      let same : set.len (set.insert live span) ≡ set.len live = set.len-insert span_total live span ∙ ap (λ t. cond t (set.len live) (set.len live + 1)) there in
      absurd (omega (arith, same, more))
  | false ↦ λ none. refl
] refl

-- a granted block's span was not live
was_free : (s new : State) (b : Block) → Adds s new b → set.contains s.live (span_of b) ≡ false
was_free s new b adds = was_none s.live (span_of b) (ap (λ (l : set.FinSet span_cmp). set.len l) (sym adds.live) ∙ adds.count)

pub one_cancels : (s more end : State) (b : Block) → Adds s more b → Removes more b end → end.live ≡ s.live
one_cancels s more end b adds removes =
    removes.live ∙ ap (λ (l : set.FinSet span_cmp). set.remove l (span_of b)) adds.live
    ∙ put_taken s.live (span_of b) (was_free s more b adds)

pub two_cancel : (s more most less end : State) (a b : Block) → Adds s more a → Adds more most b → Removes most a less → Removes less b end → end.live ≡ s.live
two_cancel s more most less end a b first second removes last =
    last.live
    ∙ ap (λ (l : set.FinSet span_cmp). set.remove l (span_of b)) (
    removes.live ∙ ap (λ (l : set.FinSet span_cmp). set.remove l (span_of a)) second.live
    ∙ taken_before more.live (span_of a) (span_of b) differ
    ∙ ap (λ (l : set.FinSet span_cmp). set.insert l (span_of b)) (
    ap (λ (l : set.FinSet span_cmp). set.remove l (span_of a)) first.live
    ∙ put_taken s.live (span_of a) (was_free s more a first)))
    ∙ put_taken s.live (span_of b) (not_live s.live (span_of b) (λ there. later (rw (first.live) (live_still s.live (span_of a) (span_of b) there))))
  where
    later : set.contains more.live (span_of b) ≡ true → ⊥
    later there = let none = was_free more most b second in absurd (let n : false ≡ true = sym none ∙ there in cc)

    differ : span_of a ≢ span_of b
    differ same = later (rw (first.live) (subst (λ x. set.contains (set.insert s.live (span_of a)) x ≡ true) same (live_new s.live (span_of a))))

-- A cleanup.

module _ (s : State) (es : List Event) (new : State) (cleans : Cleans s es new) (sound : IsSound new) where
  cleaned_kept : (c : Block) → IsOwned s c → IsOwned new c
  cleaned_kept c owned =
      let live : IsLive new (span_of c) = subst (λ (l : set.FinSet span_cmp). set.contains l (span_of c) ≡ true) (sym (ap (λ (t : State). t.live) cleans.2.1)) owned.live in
      still_owned s new cleans.0 c sound (ap (λ (t : State). t.held) cleans.2.1) owned live

  pub cleans_leave : Leaves s new
  cleans_leave = record {
    properties = ap (λ (t : State). t.properties) cleans.2.1;
    sharing = ap (λ (t : State). t.sharing) cleans.2.1;
    config = ap (λ (t : State). t.config) cleans.2.1;
    limits = ap (λ (t : State). t.heap_limits) cleans.2.1;
    owned = cleaned_kept;
    all = all_kept s new cleaned_kept;
  }

-- none is live where there are none
pub none_live : (live : set.FinSet span_cmp) → set.len live ≡ 0 → (span : Span) → set.contains live span ≡ true → ⊥
none_live live none span there = let some = some_live live span there in omega (arith, some, none)
