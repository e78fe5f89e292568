-- What is seen of the calls of a length.
use Rattle.std.proofs.Common.{◌≡◌, ◌≢◌, ℕ, Bool, IfNone, IsSome, Option, Some, None, option_map, refl, sym, ◌∙◌, ap, subst}
use Rattle.slab.specs.Slab.{Slab, Updates, get}
use Rattle.gpu_alloc_pairs.specs.Entry.{Entry, entry_of, taken_as, use_of, with_use}
use Rattle.gpu_alloc_pairs.specs.Length.{FreesHalf, IsInUse, IsReadyHalf, IsUsedAs, Merges, SetsUse}
use Rattle.gpu_alloc_pairs.specs.Links.{IsLinked, IsOn, KeepsPairs, SetsPair, free_of, free_side}
use Rattle.gpu_alloc_pairs.specs.Seen.{seen}
use Rattle.gpu_alloc_pairs.specs.declared.length.Half.{Half}
use Rattle.gpu_alloc_pairs.specs.declared.pair.Pair.{Pair}
use Rattle.gpu_alloc_pairs.specs.declared.pair.Side.{Side}
use Rattle.gpu_alloc_pairs.specs.declared.pair.State.{State}
use Rattle.gpu_alloc_pairs.specs.declared.pair.State.TheVariants.{Exhausted, Ready}
use Rattle.gpu_alloc_pairs.specs.declared.pair.Use.TheVariants.{Free}
use Rattle.gpu_alloc_pairs.proofs.Seen.{get_view, seen_updates}
use Rattle.gpu_alloc_pairs.proofs.Uses.{freed_entry, none_is_free, other_is_free, side_of_free, use_of_side}

-- the pair that is seen
pub is_seen : (o : Option Pair) (e : Entry) → option_map entry_of o ≡ Some e → (p : Pair) × ((o ≡ Some p) × (entry_of p ≡ e))
is_seen None e h = cc
is_seen (Some p) e h = (p, (refl, cc))

used_is_on : (s : Slab Pair) (v : Slab Entry) (key : ℕ) (side : Side) → seen s ≡ v → IsUsedAs v key side Free → IsOn s key
used_is_on s v key side e h =
    let p = is_seen (get s key) h.entry (sym (get_view s v key e) ∙ h.at) in
    let used : use_of (entry_of p.0) side ≡ Free = ap (λ (x : Entry). use_of x side) p.1.1 ∙ h.used in
    subst IsSome (sym (ap free_of p.1.0 ∙ side_of_free p.0 side used)) refl

-- an empty ring
pub none_is_ready : (s : Slab Pair) (v : Slab Entry) (first : Option ℕ) → seen s ≡ v → first ≡ None → IsLinked s first
    → (key : ℕ) (side : Side) → IsUsedAs v key side Free → ⊥
none_is_ready s v first e none l key side h =
    let off = subst (λ o. IfNone o ((k : ℕ) → IsOn s k → ⊥)) none l.first_none in
    off key (used_is_on s v key side e h)

pub first_is_ready : (s : Slab Pair) (v : Slab Entry) (h : Half) (p : Pair) (next prev : ℕ) → seen s ≡ v
    → get s h.key ≡ Some p → p.state ≡ Ready h.side next prev → h.chunk ≡ p.chunk → h.offset ≡ p.offset
    → IsReadyHalf v h
first_is_ready s v h p next prev e at ready chunk offset = record {
  entry = entry_of p;
  at = get_view s v h.key e ∙ ap (option_map entry_of) at;
  free = use_of_side p h.side (ap free_side ready);
  chunk = chunk;
  offset = offset;
}

-- a pair that stood there before links changed
kept_pair : (s s1 : Slab Pair) (key : ℕ) (p q : Pair) → KeepsPairs s s1 → get s key ≡ Some p → get s1 key ≡ Some q
    → entry_of q ≡ entry_of p
kept_pair s s1 key p q k at is =
    let e : Some (entry_of q) ≡ Some (entry_of p) =
    sym (ap (option_map entry_of) is) ∙ k.entries key ∙ ap (option_map entry_of) at in
    cc

kept_free : (s s1 : Slab Pair) (key : ℕ) (p q : Pair) → KeepsPairs s s1 → get s key ≡ Some p → get s1 key ≡ Some q
    → free_side q.state ≡ free_side p.state
kept_free s s1 key p q k at is = sym (ap free_of is) ∙ k.free key ∙ ap free_of at

-- links change, and then one key
both_update : (s s1 s2 : Slab Pair) (v : Slab Entry) (key : ℕ) (slot : Option Pair) (shown : Option Entry) → seen s ≡ v
    → KeepsPairs s s1 → Updates s1 s2 key slot → option_map entry_of slot ≡ shown → Updates v (seen s2) key shown
both_update s s1 s2 v key slot shown e k u is =
    seen_updates s s2 v key shown e (ap (option_map entry_of) u.changed ∙ is)
    (λ i ne. ap (option_map entry_of) (u.others i ne) ∙ k.entries i)

pub pair_is_added : (s s1 s2 : Slab Pair) (v : Slab Entry) (key : ℕ) (p : Pair) (shown : Entry) → seen s ≡ v
    → KeepsPairs s s1 → Updates s1 s2 key (Some p) → entry_of p ≡ shown → Updates v (seen s2) key (Some shown)
pair_is_added s s1 s2 v key p shown e k u is = both_update s s1 s2 v key (Some p) (Some shown) e k u (ap Some is)

pub half_is_taken : (s s1 s2 : Slab Pair) (v : Slab Entry) (key : ℕ) (side : Side) (divided : Bool) (p : Pair) → seen s ≡ v
    → get s key ≡ Some p → KeepsPairs s s1
    → SetsPair s1 s2 key (λ old new. (new.state ≡ Exhausted) × (entry_of new ≡ with_use (entry_of old) side (taken_as divided)))
    → SetsUse v (seen s2) key side (taken_as divided)
half_is_taken s s1 s2 v key side divided p e at k w = record {
  entry = entry_of p;
  at = get_view s v key e ∙ ap (option_map entry_of) at;
  updates = pair_is_added s s1 s2 v key w.after (with_use (entry_of p) side (taken_as divided)) e k w.updates
      (w.suits.1 ∙ ap (λ (x : Entry). with_use x side (taken_as divided)) (kept_pair s s1 key p w.before k at w.was));
}

pub half_is_freed : (s s1 s2 : Slab Pair) (v : Slab Entry) (key : ℕ) (side : Side) (p : Pair) (state : State) → seen s ≡ v
    → get s key ≡ Some p → free_side p.state ≡ None → KeepsPairs s s1 → free_side state ≡ Some side
    → SetsPair s1 s2 key (λ old new. new ≡ record old { state = state }) → FreesHalf v (seen s2) key side
half_is_freed s s1 s2 v key side p state e at x k free w = record {
  entry = entry_of p;
  at = get_view s v key e ∙ ap (option_map entry_of) at;
  other = none_is_free p _ x;
  updates = pair_is_added s s1 s2 v key w.after (with_use (entry_of p) side Free) e k w.updates
      (ap entry_of w.suits ∙ freed_entry w.before state side (kept_free s s1 key p w.before k at w.was ∙ x) free
      ∙ ap (λ (y : Entry). with_use y side Free) (kept_pair s s1 key p w.before k at w.was));
}

pub pair_is_merged : (s s1 s2 : Slab Pair) (v : Slab Entry) (key : ℕ) (side : Side) (p q : Pair) (free : Side)
    (next prev : ℕ) → seen s ≡ v → get s key ≡ Some p → p.state ≡ Ready free next prev → IsInUse v key side
    → KeepsPairs s s1 → get s1 key ≡ Some q → Updates s1 s2 key None
    → Merges v (seen s2) key side (record { chunk = q.chunk; offset = q.offset; parent = q.parent })
pair_is_merged s s1 s2 v key side p q free next prev e at ready used k is u =
    let there : get v key ≡ Some (entry_of p) = get_view s v key e ∙ ap (option_map entry_of) at in
    let same : Some used.entry ≡ Some (entry_of p) = sym used.at ∙ there in
    let entry : entry_of p ≡ used.entry = cc in
    let in_use : use_of (entry_of p) side ≢ Free = λ f. used.used (ap (λ (x : Entry). use_of x side) (sym entry) ∙ f) in
    let kept = kept_pair s s1 key p q k at is in
    record {
      entry = entry_of p;
      at = there;
      other = other_is_free p side free (ap free_side ready) in_use;
      chunk = ap (λ (x : Entry). x.chunk) kept;
      offset = ap (λ (x : Entry). x.offset) kept;
      parent = ap (λ (x : Entry). x.parent) kept;
      updates = both_update s s1 s2 v key None None e k u refl;
    }
