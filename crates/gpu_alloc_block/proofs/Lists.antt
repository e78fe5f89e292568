-- For callers that hold a list of blocks, or blocks under keys.
use Rattle.std.proofs.Common.{◌≡◌, ℕ, zero, suc, ◌<◌, ◌≤◌, List, [], ◌∷◌, ◌++◌, drop, length, length-append, slice_get, take, Option, Some, None, sym, ◌∙◌, ap, subst, arith}
use Rattle.std.proofs.lemmas.List.{take-append-le}
use Rattle.gpu_alloc_types.specs.Device.{Object}
use Rattle.gpu_alloc_types.specs.Properties.{Properties}
use Rattle.gpu_alloc_block.proofs.ByPlace.{told_by_place}
use Rattle.gpu_alloc_block.proofs.Contents.{bytes_stay}
use Rattle.gpu_alloc_block.specs.InHand.{AreOwned}
use Rattle.gpu_alloc_block.specs.Kept.{AreKept, LeavesInHand, RemovesInHand}
use Rattle.gpu_alloc_block.specs.Lists.{LeavesList}
use Rattle.gpu_alloc_block.specs.State.{Block, State, IsOwned}

in_front : (bs more : List Block) (i : ℕ) (b : Block) → slice_get bs i ≡ Some b → slice_get (bs ++ more) i ≡ Some b
in_front [] more i b is = absurd (cc)
in_front (c ∷ bs) more zero b is = is
in_front (c ∷ bs) more (suc i) b is = in_front bs more i b is

after_one : (bs : List Block) (i : ℕ) (b : Block) → slice_get (drop 1 bs) i ≡ Some b → slice_get bs (suc i) ≡ Some b
after_one [] i b is = is
after_one (c ∷ bs) i b is = is

-- the last of blocks in hand is owned
pub last_owned : {s : State} (bs : List Block) {b : Block} → AreOwned s (bs ++ b ∷ []) → IsOwned s b
last_owned [] owned = owned.0
last_owned (c ∷ bs) owned = last_owned bs owned.2

-- the first n of a list are the same where it loses its last and still has as many
pub firsts_stay : (n : ℕ) {old : List Block} (new : List Block) {kept : List Block} → (last : Block) × (old ≡ new ++ last ∷ []) → n < length old
    → take n old ≡ kept → take n new ≡ kept
firsts_stay n {old} new last more same = sym (take-append-le n new (last.0 ∷ []) long) ∙ ap (take n) (sym last.1) ∙ same
  where
    long : n ≤ length new
    long = let e = ap length last.1 ∙ length-append new (last.0 ∷ []) in omega (arith, e, more)

-- where no key has a block, what there is is kept
pub none_kept : {s : State} {p : Properties} {objects : ℕ → Option Object} {at : ℕ → Option Block} → ((key : ℕ) → at key ≡ None)
    → AreKept s p objects at
none_kept none = record {
  owned = λ key b some. absurd (let no = none key in cc);
  ready = λ key b some. absurd (let no = none key in cc);
  two = λ j key b c some later apart. absurd (let no = none j in cc);
}

module _ {s mid : State} {old now : ℕ → Option Object} where
  -- one call and then another
  pub leaves_then : {after : State} {new : ℕ → Option Object} {bs : List Block} → LeavesList s old mid now bs
      → LeavesList mid now after new bs → LeavesList s old after new bs
  leaves_then {new = new} first last = record {
    properties = last.properties ∙ first.properties;
    outside = λ name. last.outside name ∙ first.outside name;
    bytes = λ i b at. bytes_stay.twice b old now new (first.bytes i b at) (last.bytes i b at);
  }

  -- of a list what is left of its first ones, and of all but the first
  pub leaves_front : (bs more : List Block) {cs : List Block} → cs ≡ bs ++ more → LeavesList s old mid now cs → LeavesList s old mid now bs
  leaves_front bs more is all = record {
    properties = all.properties;
    outside = all.outside;
    bytes = λ i b at. (subst (LeavesList s old mid now) is all).bytes i b (in_front bs more i b at);
  }

  pub leaves_dropped : {bs cs : List Block} → cs ≡ drop 1 bs → LeavesList s old mid now bs → LeavesList s old mid now cs
  leaves_dropped {bs} is all = record {
    properties = all.properties;
    outside = all.outside;
    bytes = λ i b at. all.bytes (suc i) b (after_one bs i b (subst (λ ds. slice_get ds i ≡ Some b) is at));
  }

  -- a call that takes no block back, and one that does
  pub leaves_owned : {p q : Properties} {bs : List Block} → mid.properties ≡ s.properties → LeavesInHand s p old mid q now → AreOwned s bs
      → LeavesList s old mid now bs
  leaves_owned {bs = bs} properties call owned = record {
    properties = properties;
    outside = call.outside;
    bytes = λ i b at. call.bytes b (told_by_place.owned_at s bs i b owned at);
  }

  pub leaves_others : {p q : Properties} {c : Block} {bs : List Block} → mid.properties ≡ s.properties → RemovesInHand s p old c mid q now
      → AreOwned mid bs → LeavesList s old mid now bs
  leaves_others {bs = bs} properties call owned = record {
    properties = properties;
    outside = call.outside;
    bytes = λ i b at. call.bytes b (told_by_place.owned_at mid bs i b owned at);
  }
