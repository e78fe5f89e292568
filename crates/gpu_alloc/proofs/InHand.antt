-- What calls leave of blocks in hand, of their bytes, and of what the device has beside the allocator's objects.
use Rattle.std.proofs.Common.{◌≡◌, ◌≢◌, ◌⊎◌, inl, inr, ℕ, List, [], ◌∷◌, ◌++◌, append-nil, Option, Some, None, cond, is_some, true, false, Result, Ok, Err, IfOk, OnErr, IsSome, refl, sym, ◌∙◌, ap, subst, Contains}
use Rattle.std.specs.FinMap as map
use Rattle.std.specs.Ordering.{nat_cmp}
use Rattle.gpu_alloc_types.specs.Device.{Event, Object}
use Rattle.gpu_alloc_types.specs.Objects.{put-other}
use Rattle.gpu_alloc_types.specs.Properties.{Properties}
use Rattle.gpu_alloc_base.proofs.Names.{get_put-other, here, is_there, one_or_two}
use Rattle.gpu_alloc_base.specs.NewObject.{ObjectsGiven}
use Rattle.gpu_alloc_base.specs.declared.error.AllocationError.{AllocationError}
use Rattle.gpu_alloc_block.proofs.Contents.{same_object}
use Rattle.gpu_alloc_block.specs.Agreement.{Agrees, BlockAgrees, KeepsBlocks}
use Rattle.gpu_alloc_block.specs.InHand.{AreTwo, AreOwned}
use Rattle.gpu_alloc_block.specs.Kept.{AreReady, AreKept, ChangesKey, outside, IsSameOutside, LeavesInHand, AddsInHand, RemovesInHand}
use Rattle.gpu_alloc_block.specs.State.{Block, HeldObject, State, IsOwned}
use Rattle.gpu_alloc.specs.Allocation.{IsAsCounted, IsGranted, ObjectsAfter}
use Rattle.gpu_alloc.specs.Owned.{Adds, HoldsWith, IsAllOutside, Leaves, Removes}
use Rattle.gpu_alloc.specs.Release.{LetsObjectsGo, without_all}
use Rattle.gpu_alloc.specs.declared.request.Request.{Request}
use Rattle.gpu_alloc.proofs.Changes.{gone_or_kept}
use Rattle.gpu_alloc.proofs.GoneObjects.{kept_was}
use Rattle.gpu_alloc.proofs.Ledgers.{Held}

-- A name beside the allocator's.

pub held_not_outside : (s : State) (f : ℕ → Option Object) (name : ℕ) → IsSome (map.get s.held name) → outside s f name ≡ None
unfolding outside
held_not_outside s f name held = ap (λ t. cond t None (f name)) held

none_not_outside : (s : State) (f : ℕ → Option Object) (name : ℕ) → f name ≡ None → outside s f name ≡ None
unfolding outside
none_not_outside s f name none = elim (is_some (map.get s.held name)) as (λ t. cond t None (f name) ≡ None) [ true ↦ refl | false ↦ none ]

pub same_outside : (s new : State) (f g : ℕ → Option Object) (name : ℕ) → map.get new.held name ≡ map.get s.held name → g name ≡ f name → outside new g name ≡ outside s f name
unfolding outside
same_outside s new f g name held same = rw (held, same) refl

-- an allocator that holds nothing has none of them
pub all_outside : (s : State) → s.held ≡ map.empty → IsAllOutside s
unfolding outside
all_outside s empty = λ objects name.
    ap (λ (m : Held). cond (is_some (map.get m name)) None (objects name)) empty
    ∙ ap (λ (h : Option HeldObject). cond (is_some h) None (objects name)) (map.get-empty nat_cmp name)

-- Blocks that stay owned.

module _ (s : State) (p : Properties) (f : ℕ → Option Object) (new : State) (q : Properties) (g : ℕ → Option Object) (keeps : KeepsBlocks s p f new q g) where
  still_ready : (b : Block) → IsOwned s b → IsOwned new b → BlockAgrees b p f → BlockAgrees b q g
  unfolding KeepsBlocks
  still_ready = keeps

  module _ (stays : (b : Block) → IsOwned s b → IsOwned new b) where
    left_ready : (b : Block) → IsOwned s b → BlockAgrees b p f → BlockAgrees b q g
    left_ready b owned = still_ready b owned (stays b owned)

    all_ready : (bs : List Block) → AreOwned s bs → AreReady p f bs → AreReady q g bs
    all_ready [] owned are = tt
    all_ready (b ∷ bs) owned are = (left_ready b owned.0 are.0, all_ready bs owned.2 are.1)

    pub all_kept : (at : ℕ → Option Block) → AreKept s p f at → AreKept new q g at
    all_kept at are = record {
      owned = λ key b is. stays b (are.owned key b is);
      ready = λ key b is. left_ready b (are.owned key b is) (are.ready key b is);
      two = are.two;
    }

    pub leaves_in_hand : ((b : Block) → IsOwned s b → g b.object ≡ f b.object) → IsSameOutside s f new g → LeavesInHand s p f new q g
    leaves_in_hand same beside = record { bytes = λ b owned. same_object b f g (same b owned); outside = beside; ready = all_ready; kept = all_kept }

  -- one block is removed
  pub removes_in_hand : (b : Block) → Removes s b new → ((c : Block) → IsOwned new c → g c.object ≡ f c.object) → IsSameOutside s f new g → RemovesInHand s p f b new q g
  removes_in_hand b removes same beside = record {
    bytes = λ c owned. same_object c f g (same c owned);
    outside = beside;
    first = λ cs owned are. all [] cs owned (removes.first cs owned) are;
    last = λ cs owned are. subst (AreReady q g) (append-nil cs) (all cs [] owned (removes.any cs [] owned) are);
    any = λ cs ds owned are. all cs ds owned (removes.any cs ds owned) are;
    kept = λ at at_new key are is changes.
        let was = λ (j : ℕ) (c : Block) (there : at_new j ≡ Some c). was_there at at_new key changes j c there in
        record {
          owned = λ j c there. stays at key are is j c (was j c there);
          ready = λ j c there. let old = (was j c there).1 in still_ready c (are.owned j c old) (stays at key are is j c (was j c there)) (are.ready j c old);
          two = λ i j c d there also differ. are.two i j c d (was i c there).1 (was j d also).1 differ;
        };
  }
    where
      after : (cs : List Block) → AreOwned s cs → AreOwned new cs → AreReady p f cs → AreReady q g cs
      after [] owned now are = tt
      after (c ∷ cs) owned now are = (still_ready c owned.0 now.0 are.0, after cs owned.2 now.2 are.1)

      all : (cs ds : List Block) → AreOwned s (cs ++ b ∷ ds) → AreOwned new (cs ++ ds) → AreReady p f (cs ++ b ∷ ds) → AreReady q g (cs ++ ds)
      all [] ds owned now are = after ds owned.2 now are.1
      all (c ∷ cs) ds owned now are = (still_ready c owned.0 now.0 are.0, all cs ds owned.2 now.2 are.1)

      was_there : (at at_new : ℕ → Option Block) (key : ℕ) → ChangesKey at at_new key None → (j : ℕ) (c : Block) → at_new j ≡ Some c → (j ≢ key) × (at j ≡ Some c)
      was_there at at_new key changes j c there =
          let other : j ≢ key = λ same. let none = ap at_new same ∙ changes.changed in absurd (cc) in
          (other, sym (changes.others j other) ∙ there)

      stays : (at : ℕ → Option Block) (key : ℕ) → AreKept s p f at → at key ≡ Some b → (j : ℕ) (c : Block) → (j ≢ key) × (at j ≡ Some c) → IsOwned new c
      stays at key are is j c was = removes.owned c (are.owned j c was.1) (are.two j key c b was.1 is was.0).differ

-- One block more.

module _ (s : State) (p : Properties) (f : ℕ → Option Object) (new : State) (q : Properties) (g : ℕ → Option Object) where
  pub more_in_hand : ((bs : List Block) → AreOwned s bs → AreReady p f bs → AreReady q g bs) → ((at : ℕ → Option Block) → AreKept s p f at → AreKept new q g at) → (b : Block) → IsOwned new b → BlockAgrees b q g → Adds s new b
      → AddsInHand s p f new q g b
  more_in_hand ready kept b owned agrees adds = record {
    ready = λ bs owned are. last bs (ready bs owned are);
    kept = λ at at_new key are none changes.
        let all = kept at are in
        let cases = λ (j : ℕ) (c : Block) (there : at_new j ≡ Some c). new_or_old at at_new key changes j c there in
        record {
          owned = λ j c there. elim (cases j c there) [ inl is ↦ subst (IsOwned new) (sym is.1) owned | inr was ↦ all.owned j c was ];
          ready = λ j c there. elim (cases j c there) [ inl is ↦ subst (λ x. BlockAgrees x q g) (sym is.1) agrees | inr was ↦ all.ready j c was ];
          two = λ i j c d there also differ. elim (cases i c there) [
            | inl is ↦ elim (cases j d also) [
              | inl same ↦ absurd (differ (is.0 ∙ sym same.0))
              | inr was ↦ subst (λ x. AreTwo x d) (sym is.1) (adds.after d (are.owned j d was))
            ]
            | inr old ↦ elim (cases j d also) [
              | inl is ↦ subst (AreTwo c) (sym is.1) (adds.before c (are.owned i c old))
              | inr was ↦ are.two i j c d old was differ
            ]
          ];
        };
  }
    where
      last : (bs : List Block) → AreReady q g bs → AreReady q g (bs ++ b ∷ [])
      last [] are = (agrees, tt)
      last (c ∷ bs) are = (are.0, last bs are.1)

      new_or_old : (at at_new : ℕ → Option Block) (key : ℕ) → ChangesKey at at_new key (Some b) → (j : ℕ) (c : Block) → at_new j ≡ Some c → ((j ≡ key) × (c ≡ b)) ⊎ (at j ≡ Some c)
      new_or_old at at_new key changes j c there = elim (one_or_two j key) [
        | inl same ↦ let now = ap at_new same ∙ changes.changed in inl (same, cc)
        | inr other ↦ inr (sym (changes.others j other) ∙ there)
      ]

  pub adds_in_hand : (r : Request) (answer : Result Block AllocationError) → LeavesInHand s p f new q g → IfOk answer (IsGranted s r new) → IfOk answer (λ b. BlockAgrees b q g) → IfOk answer (Adds s new) → IfOk answer (AddsInHand s p f new q g)
  adds_in_hand r (Err e) leaves granted agrees adds = tt
  adds_in_hand r (Ok b) leaves granted agrees adds = more_in_hand leaves.ready leaves.kept b granted.owned agrees adds

-- An allocation makes an object at most, which the device had not, and which is held from then on.

module _ (s : State) (p : Properties) (f : ℕ → Option Object) (agrees : Agrees s p f) (new : State) (g : ℕ → Option Object) where
  module _ (b : Block) (holds : HoldsWith s b new) where
    other_held : (name : ℕ) → name ≢ b.object → map.get new.held name ≡ map.get s.held name
    other_held name other = elim holds.objects [
      | inl same ↦ ap (λ (m : Held). map.get m name) same
      | inr more ↦ ap (λ (m : Held). map.get m name) more.2 ∙ get_put-other s.held b.object more.0 name other
    ]

    given_outside : (before : Option HeldObject) → map.get s.held b.object ≡ before → ObjectsGiven (IsAsCounted s.properties) before (map.get new.held b.object) b.object f g → IsSameOutside s f new g
    given_outside None none more name = elim (one_or_two name b.object) [
      | inl same ↦ held_not_outside new g name (ap is_some (ap (map.get new.held) same ∙ more.is_counted)) ∙ sym (none_not_outside s f name (ap f same ∙ more.was_free))
      | inr other ↦ same_outside s new f g name (other_held name other) (ap (λ (h : ℕ → Option Object). h name) more.now ∙ put-other f b.object (Some more.made) name other)
    ]
    given_outside (Some h) held same name = elim holds.objects [
      | inl kept ↦ same_outside s new f g name (ap (λ (m : Held). map.get m name) kept) (ap (λ (h : ℕ → Option Object). h name) same)
      | inr more ↦ absurd (let none = more.1 in cc)
    ]

  given_object : (before now : Option HeldObject) (name : ℕ) → ObjectsGiven (IsAsCounted s.properties) before now name f g → (c : Block) (o : Object) → f c.object ≡ Some o → g c.object ≡ f c.object
  given_object None now name more c o there = ap (λ (h : ℕ → Option Object). h c.object) more.now ∙ put-other f name (Some more.made) c.object (λ same. absurd (let both = sym there ∙ ap f same ∙ more.was_free in cc))
  given_object (Some h) now name same c o there = ap (λ (h : ℕ → Option Object). h c.object) same

  answer_object : (answer : Result Block AllocationError) → ObjectsAfter s answer new f g → (c : Block) → IsOwned s c → g c.object ≡ f c.object
  answer_object (Err e) same c owned = ap (λ (h : ℕ → Option Object). h c.object) same
  answer_object (Ok b) objects c owned =
      let there = here (map.get s.held c.object) _ (agrees.holds c.object) owned.held.0 owned.held.1 in
      given_object (map.get s.held b.object) (map.get new.held b.object) b.object objects c there.0 there.1

  answer_outside : (answer : Result Block AllocationError) → OnErr answer (new ≡ s) → IfOk answer (Adds s new) → ObjectsAfter s answer new f g → IsSameOutside s f new g
  answer_outside (Err e) kept adds same name = same_outside s new f g name (ap (λ (t : State). map.get t.held name) kept) (ap (λ (h : ℕ → Option Object). h name) same)
  answer_outside (Ok b) kept adds objects name = given_outside b adds.held (map.get s.held b.object) refl objects name

  pub allocation_in_hand : (q : Properties) (answer : Result Block AllocationError) → OnErr answer (new ≡ s) → Leaves s new → KeepsBlocks s p f new q g → IfOk answer (Adds s new) → ObjectsAfter s answer new f g → LeavesInHand s p f new q g
  allocation_in_hand q answer kept leaves keeps adds objects = leaves_in_hand s p f new q g keeps leaves.owned (answer_object answer objects) (answer_outside answer kept adds objects)

-- What goes back is of no block that is owned, and was the allocator's own.

module _ {D : Type 0} (step : D → Event → D → Type 0) (objects : D → ℕ → Option Object) (s new : State) (from to : D) (back : LetsObjectsGo step objects s from new to) where
  owned_stays : (b : Block) → IsOwned new b → objects to b.object ≡ objects from b.object
  owned_stays b owned = back.stay b.object (λ went. let none = back.unheld b.object went in let held = owned.held.1 in absurd (cc))

  not_gone : (name : ℕ) → map.get (without_all s.held back.gone) name ≡ map.get s.held name → Contains back.gone name → ⊥
  not_gone name kept went =
      let there = is_there (map.get s.held name) (back.held name went) in
      (kept_was s.held back.gone name there.0 (kept ∙ there.1)).0 went

  gone_outside : IsSameOutside s (objects from) new (objects to)
  gone_outside name = elim (gone_or_kept s.held back.gone name) [
    | inl went ↦ none_not_outside new (objects to) name (back.absent name went) ∙ sym (held_not_outside s (objects from) name (back.held name went))
    | inr kept ↦ let stays = not_gone name kept in same_outside s new (objects from) (objects to) name (back.others name stays) (back.stay name stays)
  ]

  pub return_in_hand : (p q : Properties) (b : Block) → KeepsBlocks s p (objects from) new q (objects to) → Removes s b new → RemovesInHand s p (objects from) b new q (objects to)
  return_in_hand p q b keeps removes = removes_in_hand s p (objects from) new q (objects to) keeps b removes owned_stays gone_outside

  pub cleanup_in_hand : (p q : Properties) → KeepsBlocks s p (objects from) new q (objects to) → Leaves s new → LeavesInHand s p (objects from) new q (objects to)
  cleanup_in_hand p q keeps leaves = leaves_in_hand s p (objects from) new q (objects to) keeps leaves.owned (λ b owned. owned_stays b (leaves.owned b owned)) gone_outside

-- Where no device is asked.
module _ (s new : State) (stays : (b : Block) → IsOwned s b → IsOwned new b) (p : Properties) (objects : ℕ → Option Object) where
  nothing_asked : KeepsBlocks s p objects new p objects
  unfolding KeepsBlocks
  nothing_asked = λ b owned still is. is

  pub unasked_kept : (at : ℕ → Option Block) → AreKept s p objects at → AreKept new p objects at
  unasked_kept = all_kept s p objects new p objects nothing_asked stays

  pub unasked_in_hand : new.held ≡ s.held → LeavesInHand s p objects new p objects
  unasked_in_hand held = leaves_in_hand s p objects new p objects nothing_asked stays (λ b owned. refl) (λ name. same_outside s new objects objects name (ap (λ (m : Held). map.get m name) held) refl)
