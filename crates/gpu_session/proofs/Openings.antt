-- What a session keeps, at first.
use Rattle.std.proofs.Common.{◌≡◌, ◌≢◌, ℕ, true, false, Option, refl, sym, ◌∙◌}
use Rattle.std.specs.Ordering.{nat_cmp}
use Rattle.std.specs.Option.{IfSome}
use Rattle.std.specs.FinMap as finite
use Rattle.std.specs.FinSet as set
use Rattle.gpu_alloc_types.specs.Properties.{Properties}
use Rattle.gpu_alloc_types.specs.Device.{Object}
use Rattle.gpu_alloc_block.specs.declared.sharing.Sharing.{Sharing}
use Rattle.gpu_alloc.specs.Opening.{opened_by}
use Rattle.gpu_alloc.specs.Sound as allocator
use Rattle.gpu_alloc.specs.State.{Span, span_cmp, Block}
use Rattle.gpu_alloc.specs.Types.Config.{Config}
use Rattle.gpu_alloc_base.proofs.Names.{wherever}
use Rattle.gpu_session.specs.Offer.{IsOffer}
use Rattle.gpu_session.specs.Sound.{AreWholeObjects, IsSessionKept}
use Rattle.gpu_session.specs.declared.offer.Offer.{Offer}

none_at : {X : Type 0} (P : ℕ → X → Type 0) (q : ℕ) → IfSome (finite.get (finite.empty {X = X} {R = nat_cmp}) q) (P q)
none_at {X} P q = wherever (finite.get (finite.empty {X = X} {R = nat_cmp}) q) (P q) (λ x at. let none = finite.get-empty {X = X} nat_cmp q in absurd (cc))

none_live : (span : Span) → set.contains (set.empty {R = span_cmp}) span ≢ true
none_live span live = let none = set.contains-empty span_cmp span in let differ : false ≡ true = sym none ∙ live in cc

pub opening_is_kept : {A : Type 0} (sharing : Sharing) (c : Config) (p : Properties) (objects : ℕ → Option Object) (o : Offer A) → IsOffer p o → allocator.IsSound (opened_by sharing c p)
    → IsSessionKept p objects (record { allocator = opened_by sharing c p; blocks = finite.empty }) o
opening_is_kept sharing c p objects o offer sound = record {
  sound = record {
    agrees = record { properties = refl; holds = none_at _ };
    allocator = sound;
    blocks = none_at _;
    apart = λ n m b d ne at_n at_m. absurd (let none = finite.get-empty {X = Block} nat_cmp n in cc);
    named = λ span live. absurd (none_live span live);
  };
  offer = offer;
}

-- with no block, each is a whole object
pub none_is_whole : (sharing : Sharing) (c : Config) (p : Properties) (objects : ℕ → Option Object) → AreWholeObjects objects (record { allocator = opened_by sharing c p; blocks = finite.empty })
none_is_whole sharing c p objects = record {
  kind = none_at _;
  whole = none_at _;
  distinct = λ n m b d ne at_n at_m. absurd (let none = finite.get-empty {X = Block} nat_cmp n in cc);
}
