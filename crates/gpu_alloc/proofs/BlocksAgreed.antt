-- A block and the device agree from its grant on, through all calls of its allocator.
use Rattle.std.proofs.Common.{◌≡◌, ◌≢◌, ◌⊎◌, inl, inr, ℕ, ◌+◌, ◌%◌, ◌≤◌, true, false, cond, ◌&&◌, List, Option, Some, None, IfSome, IsSome, Result, Ok, Err, IfOk, refl, sym, ◌∙◌, ap, subst, arith, Contains}
use Rattle.std.proofs.Math.Nat.{add-mul-mod_self_right}
use Rattle.std.specs.FinMap as map
use Rattle.std.specs.Prelude.{option_map}
use Rattle.gpu_alloc_types.specs.Device.{Event, Object}
use Rattle.gpu_alloc_types.specs.Objects.{put-same, put-other}
use Rattle.gpu_alloc_types.specs.Properties.{Properties, props_at, atom_of, is_host_visible}
use Rattle.gpu_alloc_base.specs.Case as case
use Rattle.gpu_alloc_base.specs.NewObject.{HasOneMore, ObjectsGiven}
use Rattle.gpu_alloc_base.specs.declared.error.AllocationError.{AllocationError}
use Rattle.gpu_alloc_base.proofs.Maps.{one_value}
use Rattle.gpu_alloc_base.proofs.Multiples.{multiple_from_mod}
use Rattle.gpu_alloc_base.proofs.Names.{here}
use Rattle.gpu_alloc_block.specs.Agreement.{Agrees, BlockAgrees, IsBeneath, IsCountedFor, IsMappedWhole, IsOfBlock, KeepsBlocks}
use Rattle.gpu_alloc_block.specs.Ranges.{mapped_range}
use Rattle.gpu_alloc_block.specs.State.{Block, HeldObject, Span, State, is_shared, span_of}
use Rattle.gpu_alloc_block.specs.declared.block.Kind.{Kind}
use Rattle.gpu_alloc_block.specs.declared.block.Kind.TheVariants.{Dedicated as DedicatedObject, Imported, BuddyChunk, FreeListChunk, FitChunk}
use Rattle.gpu_alloc_block.specs.declared.block.Mapping.{Mapping}
use Rattle.gpu_alloc.specs.Allocation.{AllocatesBy, IsAsCounted, IsGranted, Plan, ObjectsAfter, ObjectsWith, strategy}
use Rattle.gpu_alloc.specs.Candidates.{candidate}
use Rattle.gpu_alloc.specs.Release.{Cleans, Frees, ObjectsCleaned, ObjectsFreed, without_all, without_objects, without_span}
use Rattle.gpu_alloc.specs.Sound.{IsSound, LiesIn}
use Rattle.gpu_alloc.specs.declared.allocator.Strategy.{Strategy}
use Rattle.gpu_alloc.specs.declared.allocator.Strategy.TheVariants.{OwnObject, InBuddyChunk, InFreeList, InFitChunk}
use Rattle.gpu_alloc.specs.declared.request.Request.{Request}
use Rattle.gpu_alloc.proofs.Changes.{all_same, allocates_grow, goes_same, objects_stay, owned_within}
use Rattle.gpu_alloc.proofs.Decisions.{of_grant}
use Rattle.gpu_alloc.proofs.GoneObjects.{kept_was}
use Rattle.gpu_alloc.proofs.Ledgers.{Held}

-- What a grant makes.

-- where the block has an object of its own, that is new
abbrev pub IsOfNewOrShared : State → Block → Type 0
IsOfNewOrShared s b = is_shared b.kind ≡ false → map.get s.held b.object ≡ None

of_shared : (s : State) (b : Block) → is_shared b.kind ≡ true → IsOfNewOrShared s b
of_shared s b shared own = absurd (let same = sym shared ∙ own in cc)

given_object : (w : Strategy) (s : State) (r : Request) (t : ℕ) (es : List Event) (b : Block) (new : State) → case.Decides (candidate w s r t) es (Ok b) new → IsOfNewOrShared s b
given_object OwnObject s r t es b new (inl gives) = absurd gives.place
given_object OwnObject s r t es b new (inr gives) = λ own. gives.place.was_free
given_object InBuddyChunk s r t es b new (inl gives) = of_shared s b (ap (λ (x : Block). is_shared x.kind) gives.place.is)
given_object InBuddyChunk s r t es b new (inr gives) = of_shared s b (ap (λ (x : Block). is_shared x.kind) gives.place.is)
given_object InFreeList s r t es b new (inl gives) = of_shared s b (ap (λ (x : Block). is_shared x.kind) gives.place.is)
given_object InFreeList s r t es b new (inr gives) = of_shared s b (ap (λ (x : Block). is_shared x.kind) gives.place.is)
given_object InFitChunk s r t es b new (inl gives) = of_shared s b (ap (λ (x : Block). is_shared x.kind) gives.place.is)
given_object InFitChunk s r t es b new (inr gives) = of_shared s b (ap (λ (x : Block). is_shared x.kind) gives.place.is)

-- What is held for a block, on the device.

whole_of : (k : Kind) (s : State) (span : Span) (counted : ℕ) (o : Object) → k ≡ DedicatedObject → LiesIn k counted span → IsCountedFor k s span.object counted o → (span.offset ≡ 0) × (span.size ≡ o.size)
whole_of DedicatedObject s span counted o own lies is = (lies.0, lies.1 ∙ sym is)
whole_of Imported s span counted o own lies is = absurd (cc)
whole_of BuddyChunk s span counted o own lies is = absurd (cc)
whole_of (FreeListChunk number) s span counted o own lies is = absurd (cc)
whole_of FitChunk s span counted o own lies is = absurd (cc)

shared_mapped : (k : Kind) (s : State) (name counted : ℕ) (o : Object) → is_shared k ≡ true → IsCountedFor k s name counted o → IsMappedWhole s.properties o
shared_mapped DedicatedObject s name counted o shared is = absurd (cc)
shared_mapped Imported s name counted o shared is = absurd (cc)
shared_mapped BuddyChunk s name counted o shared is = is.1
shared_mapped (FreeListChunk number) s name counted o shared is = is.1
shared_mapped FitChunk s name counted o shared is = is.1

-- a new object of one block is not mapped
made_unmapped : (p : Properties) (h : HeldObject) (o : Object) → is_shared h.kind ≡ false → IsAsCounted p h o → o.mapped ≡ None
made_unmapped p h o own is = is.mapped ∙ ap (λ t. cond (t && is_host_visible p h.memory_type) (Some (0, h.counted)) None) own

sum_whole : (n x y : ℕ) → x % n ≡ 0 → y % n ≡ 0 → (x + y) % n ≡ 0
sum_whole n x y first second =
    let m = multiple_from_mod n y second in
    ap (λ z. (x + z) % n) m.1 ∙ add-mul-mod_self_right x m.0 n ∙ first

-- a block that is no import ends at a whole atom, or where its object ends
ends : (k : Kind) (n offset size end : ℕ) → k ≢ Imported → (k ≡ DedicatedObject → (offset ≡ 0) × (size ≡ end)) → (is_shared k ≡ true → (offset % n ≡ 0) × (size % n ≡ 0))
    → ((offset + size) % n ≡ 0) ⊎ (offset + size ≡ end)
ends DedicatedObject n offset size end no_import whole atoms = inr (let is = whole refl in omega (arith, is.0, is.1))
ends Imported n offset size end no_import whole atoms = absurd (no_import refl)
ends BuddyChunk n offset size end no_import whole atoms = inl (let is = atoms refl in sum_whole n offset size is.0 is.1)
ends (FreeListChunk number) n offset size end no_import whole atoms = inl (let is = atoms refl in sum_whole n offset size is.0 is.1)
ends FitChunk n offset size end no_import whole atoms = inl (let is = atoms refl in sum_whole n offset size is.0 is.1)

module _ (s new : State) (r : Request) (b : Block) (q : Properties) (f g : ℕ → Option Object) (sound : IsSound new) (agrees : Agrees new q g) (same : new.properties ≡ s.properties) (granted : IsGranted s r new b) (made : IsOfNewOrShared s b) (objects : ObjectsWith s b new f g) where
  own_unmapped : (h : HeldObject) (o : Object) → map.get new.held b.object ≡ Some h → h.kind ≡ b.kind → g b.object ≡ Some o → is_shared b.kind ≡ false → o.mapped ≡ None
  own_unmapped h o held kind there own =
      let free = made own in
      let more : HasOneMore (IsAsCounted s.properties) (map.get new.held b.object) b.object f g = rw free at objects in
      let is : o ≡ more.made = one_value _ o more.made there (ap (λ (x : ℕ → Option Object). x b.object) more.now ∙ put-same f b.object (Some more.made)) in
      let counted : more.counted ≡ h = one_value _ more.counted h more.is_counted held in
      let kinds : is_shared more.counted.kind ≡ false = ap (λ (x : HeldObject). is_shared x.kind) counted ∙ ap is_shared kind ∙ own in
      ap (λ (x : Object). x.mapped) is ∙ made_unmapped s.properties more.counted more.made kinds more.is_as

  -- a granted block agrees with the device
  pub granted_agrees : BlockAgrees b q g
  unfolding BlockAgrees
  granted_agrees =
      let owned = granted.owned in
      let lies = sound.inside (span_of b) owned.live in
      let h : HeldObject = lies.0 in
      let is : owned.held.0 ≡ h = one_value _ owned.held.0 h owned.held.1 lies.1 in
      let kind : h.kind ≡ b.kind = ap (λ (x : HeldObject). x.kind) (sym is) ∙ owned.held.3 in
      let of_type : h.memory_type ≡ b.memory_type = ap (λ (x : HeldObject). x.memory_type) (sym is) ∙ owned.held.2 in
      let there = here (map.get new.held b.object) _ (agrees.holds b.object) h lies.1 in
      let within = owned_within new q g b sound agrees owned in
      let one : within.0 ≡ there.0 = one_value _ within.0 there.0 within.1 there.1 in
      let o : Object = there.0 in
      let properties : q ≡ s.properties = agrees.properties ∙ same in
      let whole : b.kind ≡ DedicatedObject → (b.offset ≡ 0) × (b.size ≡ o.size) = λ own. whole_of h.kind new (span_of b) h.counted o (kind ∙ own) lies.2 there.2.of_size in
      let atoms : is_shared b.kind ≡ true → (b.offset % b.atom ≡ 0) × (b.size % b.atom ≡ 0) = λ shared. rw granted.atom (granted.whole_atoms shared) in
      record {
        props = granted.props ∙ ap (λ p. props_at p b.memory_type) (sym properties);
        atom = granted.atom ∙ ap (λ p. atom_of p b.memory_type) (sym properties);
        mapping = subst (λ (m : Option Mapping). IfSome m (IsOfBlock b)) (sym granted.unmapped) tt;
        visible = λ some. absurd (let none = subst IsSome granted.unmapped some in cc);
        there = (
          o,
          there.1,
          record {
            of_type = there.2.of_type ∙ of_type;
            inside = subst (λ (x : Object). b.offset + b.size ≤ x.size) one within.3;
            whole = whole;
            shared = λ shared. subst (λ p. IsMappedWhole p o) (sym agrees.properties) (shared_mapped h.kind new b.object h.counted o (ap is_shared kind ∙ shared) there.2.of_size);
            own = λ own. own_unmapped h o lies.1 kind there.1 own ∙ ap (option_map (mapped_range b)) (sym granted.unmapped);
            atoms = λ shared. ((atoms shared).0, sum_whole b.atom b.offset b.size (atoms shared).0 (atoms shared).1);
            finish = ends b.kind b.atom b.offset b.size o.size granted.made whole atoms;
          },
        );
      }

-- What a grant gives agrees.
module _ (s : State) (r : Request) (p : Plan) (es : List Event) (q : Properties) (f g : ℕ → Option Object) where
  pub allocates_agrees_block : (answer : Result Block AllocationError) (new : State) → IsSound new → Agrees new q g → AllocatesBy s p es answer new → IfOk answer (IsGranted s r new) → ObjectsAfter s answer new f g
      → IfOk answer (λ b. BlockAgrees b q g)
  allocates_agrees_block (Err e) new sound agrees decided granted objects = tt
  allocates_agrees_block (Ok b) new sound agrees decided granted objects =
      let made = of_grant s p b new (λ t fs chosen decides. let a = p.asked t in given_object (strategy s a.request a.hint t) s a.request t fs b new decides.1) es decided in
      granted_agrees s new r b q f g sound agrees (allocates_grow s p es b new decided).properties granted made objects

-- A block that stays owned.

-- a block agrees as long as the device has its object so
pub block_kept : (b : Block) (p q : Properties) (f g : ℕ → Option Object) → q ≡ p → g b.object ≡ f b.object → BlockAgrees b p f → BlockAgrees b q g
unfolding BlockAgrees
block_kept b p q f g same object is = record {
  props = is.props ∙ ap (λ x. props_at x b.memory_type) (sym same);
  atom = is.atom ∙ ap (λ x. atom_of x b.memory_type) (sym same);
  mapping = is.mapping;
  visible = is.visible;
  there = (is.there.0, object ∙ is.there.1, subst (λ x. IsBeneath x b is.there.0) (sym same) is.there.2);
}

-- an allocation makes an object at most, under a name that the device had not
module _ (s : State) (p q : Properties) (f g : ℕ → Option Object) (same : q ≡ p) where
  object_kept : (b : Block) (new : State) (before : Option HeldObject) (name : ℕ) (o : Object) → f name ≡ Some o
      → ObjectsGiven (IsAsCounted s.properties) before (map.get new.held b.object) b.object f g → g name ≡ f name
  object_kept b new None name o there more =
      ap (λ (x : ℕ → Option Object). x name) more.now
      ∙ put-other f b.object (Some more.made) name (λ is. absurd (let both = sym there ∙ ap f is ∙ more.was_free in cc))
  object_kept b new (Some h) name o there kept = ap (λ (x : ℕ → Option Object). x name) kept

  pub allocation_keeps_blocks : (answer : Result Block AllocationError) (new : State) → ObjectsAfter s answer new f g → KeepsBlocks s p f new q g
  unfolding BlockAgrees KeepsBlocks
  allocation_keeps_blocks (Err e) new kept = λ c owned still is. block_kept c p q f g same (ap (λ (x : ℕ → Option Object). x c.object) kept) is
  allocation_keeps_blocks (Ok b) new objects =
      λ c owned still is. block_kept c p q f g same (object_kept b new (map.get s.held b.object) c.object is.there.0 is.there.1 objects) is

  -- objects go of which none is held any more
  going_keeps_blocks : (new : State) (gone also : List ℕ) → g ≡ without_objects f gone → new.held ≡ without_all s.held also → ((name : ℕ) → Contains gone name → Contains also name) → KeepsBlocks s p f new q g
  unfolding KeepsBlocks
  going_keeps_blocks new gone also objects held within = λ c owned still is.
      let there = kept_was s.held also c.object still.held.0 (ap (λ (m : Held). map.get m c.object) (sym held) ∙ still.held.1) in
      block_kept c p q f g same (ap (λ (x : ℕ → Option Object). x c.object) objects ∙ objects_stay f gone c.object (λ has. there.0 (within c.object has))) is

  pub return_keeps_blocks : (b : Block) (es : List Event) (new : State) → Frees s b es new → ObjectsFreed s b f g → KeepsBlocks s p f new q g
  return_keeps_blocks b es new frees objects =
      going_keeps_blocks new objects.0 frees.0 objects.2 (ap (λ (x : State). x.held) frees.2.1)
      (goes_same b.kind (without_span s b) b.object objects.0 frees.0 objects.1 frees.1)

  pub cleanup_keeps_blocks : (es : List Event) (new : State) → Cleans s es new → ObjectsCleaned s f g → KeepsBlocks s p f new q g
  cleanup_keeps_blocks es new cleans objects =
      going_keeps_blocks new objects.0 cleans.0 objects.2 (ap (λ (x : State). x.held) cleans.2.1) (all_same s _ objects.0 cleans.0 objects.1 cleans.1)
