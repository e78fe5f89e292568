-- What stays where only what may still be asked changes: how many objects may be held, or the limits of heaps.
use Rattle.std.proofs.Common.{◌≡◌, ℕ, List, [], ◌∷◌, Option, Some, None, IfSome, refl, sym, ◌∙◌, ap, subst}
use Rattle.std.specs.FinMap as finite
use Rattle.gpu_alloc_types.specs.Device.{HeldWith, Object}
use Rattle.gpu_alloc_types.specs.Properties.{Properties}
use Rattle.gpu_alloc_block.specs.Agreement.{Agrees, IsHeldThere}
use Rattle.gpu_alloc_block.specs.State.{Block, HeldObject, IsOwned, State}
use Rattle.gpu_alloc.specs.Owned.{AreOwned, Leaves, StaysAgreed}
use Rattle.gpu_alloc.proofs.Agreeing.{there_kept}
use Rattle.gpu_alloc.proofs.InHand.{unasked_in_hand}

module _ (s : State) (remaining : ℕ) (limits : List ℕ) where
  abbrev now : State
  now = record s { remaining = remaining; heap_limits = limits }

  still_owned : (b : Block) → IsOwned s b → IsOwned now b
  still_owned b is = record { live = is.live; held = is.held }

  all_owned : (bs : List Block) → AreOwned s bs → AreOwned now bs
  all_owned [] are = tt
  all_owned (b ∷ bs) are = (still_owned b are.0, are.1, all_owned bs are.2)

  held : (name : ℕ) (objects : ℕ → Option Object) (v : Option HeldObject) → IfSome v (λ h. HeldWith objects name (IsHeldThere s name h)) → IfSome v (λ h. HeldWith objects name (IsHeldThere now name h))
  held name objects None was = tt
  held name objects (Some h) was = (was.0, was.1, there_kept s now name h was.0 refl (λ span live of_it. live) was.2)

  agrees : (p : Properties) (objects : ℕ → Option Object) → Agrees s p objects → Agrees now p objects
  agrees p objects is = record { properties = is.properties; holds = λ name. held name objects (finite.get s.held name) (is.holds name) }

module _ (s new : State) (remaining : ℕ) (limits : List ℕ) (is : new ≡ record s { remaining = remaining; heap_limits = limits }) where
  pub may_ask_owned : (b : Block) → IsOwned s b → IsOwned new b
  may_ask_owned b owned = subst (λ x. IsOwned x b) (sym is) (still_owned s remaining limits b owned)

  pub may_ask_all : (bs : List Block) → AreOwned s bs → AreOwned new bs
  may_ask_all bs owned = subst (λ x. AreOwned x bs) (sym is) (all_owned s remaining limits bs owned)

  pub may_ask_leaves : limits ≡ s.heap_limits → Leaves s new
  may_ask_leaves same = record {
    properties = ap (λ (t : State). t.properties) is;
    sharing = ap (λ (t : State). t.sharing) is;
    config = ap (λ (t : State). t.config) is;
    limits = ap (λ (t : State). t.heap_limits) is ∙ same;
    owned = may_ask_owned;
    all = may_ask_all;
  }

  pub may_ask_agrees : StaysAgreed s new
  may_ask_agrees =
      subst (StaysAgreed s) (sym is) (record { each = agrees s remaining limits; in_hand = λ p objects. unasked_in_hand s (now s remaining limits) (still_owned s remaining limits) p objects refl })
