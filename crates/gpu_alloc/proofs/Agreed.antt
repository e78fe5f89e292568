-- An allocator and its device that agree do so after an allocation: it follows from the decision, and from what that made of the objects.
use Rattle.std.proofs.Common.{◌≡◌, ◌≢◌, inl, inr, ℕ, ◌+◌, List, [], ◌∷◌, Option, Some, None, true, Result, Ok, Err, refl, sym, ◌∙◌, ap, subst, arith}
use Rattle.std.proofs.lemmas.Nat.{pow_pos}
use Rattle.std.specs.FinMap as map
use Rattle.std.specs.FinSet as set
use Rattle.gpu_alloc_types.specs.Device.{Chain, Event, Object}
use Rattle.gpu_alloc_types.specs.Properties.{Properties}
use Rattle.gpu_alloc_base.specs.Case as case
use Rattle.gpu_alloc_base.specs.NewObject.{HasOneMore}
use Rattle.gpu_alloc_base.specs.declared.error.AllocationError.{AllocationError}
use Rattle.gpu_alloc_block.specs.Agreement.{Agrees}
use Rattle.gpu_alloc.specs.Allocation.{AllocatesBy, IsAsCounted, Plan, ObjectsAfter, ObjectsWith, strategy}
use Rattle.gpu_alloc.specs.BuddySharing.{buddy_question, buddy_size, with_span}
use Rattle.gpu_alloc.specs.Candidates.{candidate}
use Rattle.gpu_alloc.specs.FitSharing.{fit_question, fit_size}
use Rattle.gpu_alloc.specs.FreeListSharing.{latest_number, list_question, list_size}
use Rattle.gpu_alloc_block.specs.State.{Block, HeldObject, State, is_shared, span_of}
use Rattle.gpu_alloc.specs.declared.allocator.Strategy.{Strategy}
use Rattle.gpu_alloc.specs.declared.allocator.Strategy.TheVariants.{OwnObject, InBuddyChunk, InFreeList, InFitChunk}
use Rattle.gpu_alloc_block.specs.declared.block.Kind.TheVariants.{Dedicated as DedicatedObject, Imported, BuddyChunk, FreeListChunk, FitChunk}
use Rattle.gpu_alloc.specs.declared.request.Request.{Request}
use Rattle.gpu_alloc.proofs.Agreeing.{agrees_kept, agrees_with_object, agrees_with_span}
use Rattle.gpu_alloc.proofs.Decisions.{allocates_kept, of_grant}

-- no step changes what the device offers
pub chain_keeps : {D : Type 0} (step : D → Event → D → Type 0) (properties : D → Properties) → ((old : D) (e : Event) (new : D) → step old e new → properties new ≡ properties old) → (es : List Event) (a b : D) → Chain step a es b → properties b ≡ properties a
chain_keeps step properties keeps [] a b same = ap properties same
chain_keeps step properties keeps (e ∷ es) a b chain = chain_keeps step properties keeps es chain.0 b chain.2 ∙ keeps a e chain.0 chain.1

module _ (s : State) (p : Properties) (f g : ℕ → Option Object) (agrees : Agrees s p f) where
  module _ (b : Block) (new : State) (objects : ObjectsWith s b new f g) where
    -- what a grant makes of the objects, by whether the block's was held
    made_one : map.get s.held b.object ≡ None → HasOneMore (IsAsCounted s.properties) (map.get new.held b.object) b.object f g
    made_one none = rw none at objects

    made_none : (h : HeldObject) → map.get s.held b.object ≡ Some h → g ≡ f
    made_none h held = rw held at objects

    -- in a chunk that is held
    in_chunk : (h : HeldObject) → map.get s.held b.object ≡ Some h → is_shared h.kind ≡ true → new ≡ with_span s (span_of b) → Agrees new p g
    in_chunk h held shared is = agrees_kept (with_span s (span_of b)) new p p f g (agrees_with_span s p f (span_of b) h agrees held shared) is refl (made_none h held)

    -- in a new object
    in_object : (h : HeldObject) → map.get s.held b.object ≡ None → h.kind ≢ Imported → new.properties ≡ s.properties → new.held ≡ map.insert s.held b.object h → new.live ≡ set.insert s.live (span_of b) → Agrees new p g
    in_object h none made same held live = agrees_with_object s new p f g (span_of b) h agrees same held live made (made_one none)

    given_agrees : (w : Strategy) (r : Request) (t : ℕ) (es : List Event) → case.Decides (candidate w s r t) es (Ok b) new → Agrees new p g
    given_agrees OwnObject r t es (inl gives) = absurd gives.place
    given_agrees OwnObject r t es (inr gives) = in_object (record { memory_type = t; counted = r.size; kind = DedicatedObject }) gives.place.was_free (λ imported. absurd (cc)) (ap (λ (x : State). x.properties) gives.state) (ap (λ (x : State). x.held) gives.state) (ap (λ (x : State). x.live) gives.state)
    given_agrees InBuddyChunk r t es (inl gives) =
        let place = gives.place.front.piece.place in
        let byte = place.free b.offset (record { from = omega arith; to = omega (arith, place.power.1, pow_pos place.power.0) }) in
        in_chunk byte.chunk byte.held (ap is_shared byte.of_kind) gives.state
    given_agrees InBuddyChunk r t es (inr gives) = in_object (record { memory_type = t; counted = (buddy_question s t (buddy_size s r t)).size; kind = BuddyChunk }) gives.place.was_free (λ imported. absurd (cc)) (ap (λ (x : State). x.properties) gives.state) (ap (λ (x : State). x.held) gives.state) (ap (λ (x : State). x.live) gives.state)
    given_agrees InFreeList r t es (inl gives) = let own = gives.place.tail.chunk in in_chunk own.chunk own.held (ap is_shared own.of_kind) gives.state
    given_agrees InFreeList r t es (inr gives) = in_object (record { memory_type = t; counted = (list_question s t (list_size s r t)).size; kind = FreeListChunk (latest_number s t + 1) }) gives.place.was_free (λ imported. absurd (cc)) (ap (λ (x : State). x.properties) gives.state) (ap (λ (x : State). x.held) gives.state) (ap (λ (x : State). x.live) gives.state)
    given_agrees InFitChunk r t es (inl gives) = let own = gives.place.fitting.chunk in in_chunk own.chunk own.held (ap is_shared own.of_kind) gives.state
    given_agrees InFitChunk r t es (inr gives) = in_object (record { memory_type = t; counted = (fit_question s t (fit_size s r t)).size; kind = FitChunk }) gives.place.was_free (λ imported. absurd (cc)) (ap (λ (x : State). x.properties) gives.state) (ap (λ (x : State). x.held) gives.state) (ap (λ (x : State). x.live) gives.state)

  pub allocates_agrees : (q : Properties) (w : Plan) (es : List Event) (answer : Result Block AllocationError) (new : State) → q ≡ p → AllocatesBy s w es answer new → ObjectsAfter s answer new f g → Agrees new q g
  allocates_agrees q w es (Ok b) new same h objects =
      subst (λ x. Agrees new x g) (sym same) (of_grant s w b new (λ t es chosen decides. let a = w.asked t in given_agrees b new objects (strategy s a.request a.hint t) a.request t es decides.1) es h)
  allocates_agrees q w es (Err e) new same h objects = agrees_kept s new p q f g agrees (allocates_kept s w es (Err e) new h) same objects
