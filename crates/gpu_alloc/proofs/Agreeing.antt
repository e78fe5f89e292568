-- An allocator and its device that agree, as both hold one object more or one fewer, and as a block is added or
-- removed.
use Rattle.std.proofs.Common.{◌≡◌, ◌≢◌, inl, inr, ℕ, ◌==◌, Bool, true, false, cond, Option, Some, None, IfSome, IsTrue, refl, sym, ◌∙◌, ap, subst, arith}
use Rattle.std.proofs.lemmas.Bool.{cases_eq}
use Rattle.std.proofs.lemmas.Bool.Decides.{nat_tests}
use Rattle.std.specs.Cmp.{nat_cmp_total}
use Rattle.std.specs.FinMap as finite
use Rattle.std.specs.FinSet as set
use Rattle.gpu_alloc_types.specs.Properties.{Properties, is_host_visible}
use Rattle.gpu_alloc_types.specs.Device.{Object, HeldWith, put}
use Rattle.gpu_alloc_types.specs.Objects.{put-same, put-other}
use Rattle.gpu_alloc_block.specs.State.{State, HeldObject, Span, Block, IsLive, span_of, is_shared}
use Rattle.gpu_alloc.specs.Release.{without_span}
use Rattle.gpu_alloc_block.specs.Agreement.{Agrees, IsHeldThere, IsCountedFor, IsInside, IsMappedWhole}
use Rattle.gpu_alloc.specs.Allocation.{IsAsCounted}
use Rattle.gpu_alloc.specs.BuddySharing.{with_span}
use Rattle.gpu_alloc_base.specs.NewObject.{HasOneMore}
use Rattle.gpu_alloc_block.specs.declared.block.Kind.{Kind}
use Rattle.gpu_alloc_block.specs.declared.block.Kind.TheVariants.{Dedicated, Imported, BuddyChunk, FreeListChunk, FitChunk}
use Rattle.gpu_alloc_base.proofs.Maps.{name_test, one_value, own_inserted}
use Rattle.gpu_alloc_block.proofs.LiveSpans.{live_before, live_other}

-- the spans of an object that are live were live
abbrev pub IsOlder : State → State → ℕ → Type 0
IsOlder s now name = (span : Span) → IsLive now span → span.object ≡ name → IsLive s span

counted_kept : (kind : Kind) (s now : State) (name counted : ℕ) (o : Object) → now.properties ≡ s.properties → IsOlder s now name → IsCountedFor kind s name counted o → IsCountedFor kind now name counted o
counted_kept Dedicated s now name counted o same older is = is
counted_kept Imported s now name counted o same older is = λ span live of_it. subst (λ p. IsInside p span o) (sym same) (is span (older span live of_it) of_it)
counted_kept BuddyChunk s now name counted o same older is = (is.0, subst (λ p. IsMappedWhole p o) (sym same) is.1)
counted_kept (FreeListChunk number) s now name counted o same older is = (is.0, subst (λ p. IsMappedWhole p o) (sym same) is.1)
counted_kept FitChunk s now name counted o same older is = (is.0, subst (λ p. IsMappedWhole p o) (sym same) is.1)

pub there_kept : (s now : State) (name : ℕ) (h : HeldObject) (o : Object) → now.properties ≡ s.properties → IsOlder s now name → IsHeldThere s name h o → IsHeldThere now name h o
there_kept s now name h o same older is = record { of_type = is.of_type; of_size = counted_kept h.kind s now name h.counted o same older is.of_size }

-- a name that the device has not, the allocator has not
pub not_held : (s : State) (p : Properties) (f : ℕ → Option Object) (name : ℕ) → Agrees s p f → f name ≡ None → finite.get s.held name ≡ None
not_held s p f name a none = elim (finite.get s.held name) as (λ v. finite.get s.held name ≡ v → IfSome v (λ h. HeldWith f name (IsHeldThere s name h)) → v ≡ None) [
  | None ↦ λ e h. refl
  | Some x ↦ λ e h. absurd (let there : f name ≡ Some h.0 = h.1 in cc)
] refl (a.holds name)

-- what agrees does so as long as nothing changes
pub agrees_kept : (s now : State) (p q : Properties) (f g : ℕ → Option Object) → Agrees s p f → now ≡ s → q ≡ p → g ≡ f → Agrees now q g
agrees_kept s now p q f g agrees state properties objects = rw (state, properties, objects) agrees

-- One object more, on both sides.

there_more : (s now : State) (f : ℕ → Option Object) (name : ℕ) (h : HeldObject) (o : Object) (q : ℕ) (before : Option HeldObject) (b : Bool)
    → (q == name) ≡ b → now.properties ≡ s.properties → (q ≢ name → IsOlder s now q) → IsHeldThere now name h o → IfSome before (λ x. HeldWith f q (IsHeldThere s q x))
    → IfSome (cond b (Some h) before) (λ x. HeldWith (put f name (Some o)) q (IsHeldThere now q x))
there_more s now f name h o q before true e same older there was =
    let here : q ≡ name = grind (arith, nat_tests) in
    subst (λ n. HeldWith (put f name (Some o)) n (IsHeldThere now n h)) (sym here) (o, put-same f name (Some o), there)
there_more s now f name h o q None false e same older there was = was
there_more s now f name h o q (Some x) false e same older there was =
    let other : q ≢ name = grind (arith, nat_tests) in
    (was.0, put-other f name (Some o) q other ∙ was.1, there_kept s now q x was.0 same (older other) was.2)

pub agrees_more : (s now : State) (p : Properties) (f : ℕ → Option Object) (name : ℕ) (h : HeldObject) (o : Object) → Agrees s p f → now.properties ≡ s.properties
    → now.held ≡ finite.insert s.held name h → ((q : ℕ) → q ≢ name → IsOlder s now q) → IsHeldThere now name h o → Agrees now p (put f name (Some o))
agrees_more s now p f name h o a same held older there = record {
  properties = a.properties ∙ sym same;
  holds = λ q.
      let e : finite.get now.held q ≡ cond (q == name) (Some h) (finite.get s.held q) = ap (λ m. finite.get m q) held ∙ finite.get-insert nat_cmp_total s.held name h q ∙ ap (λ b. cond b (Some h) (finite.get s.held q)) (name_test q name) in
      subst (λ (v : Option HeldObject). IfSome v (λ x. HeldWith (put f name (Some o)) q (IsHeldThere now q x))) (sym e)
      (there_more s now f name h o q (finite.get s.held q) (q == name) refl same (older q) there (a.holds q));
}

-- A block more.

-- the spans of another object are no more than before
pub older_but : (s now : State) (own : Span) → now.live ≡ set.insert s.live own → (name : ℕ) → name ≢ own.object → IsOlder s now name
older_but s now own more name other span live named = elim (live_before s.live own span (subst (λ x. IsTrue (set.contains x span)) more live)) [
  | inl new ↦ absurd (other (sym named ∙ ap (λ (x : Span). x.object) new))
  | inr was ↦ was
]

-- what is counted of a shared object hangs on no span
counted_shared : (kind : Kind) (s now : State) (name counted : ℕ) (o : Object) → is_shared kind ≡ true → now.properties ≡ s.properties → IsCountedFor kind s name counted o → IsCountedFor kind now name counted o
counted_shared Dedicated s now name counted o shared same is = absurd (cc)
counted_shared Imported s now name counted o shared same is = absurd (cc)
counted_shared BuddyChunk s now name counted o shared same is = (is.0, subst (λ p. IsMappedWhole p o) (sym same) is.1)
counted_shared (FreeListChunk number) s now name counted o shared same is = (is.0, subst (λ p. IsMappedWhole p o) (sym same) is.1)
counted_shared FitChunk s now name counted o shared same is = (is.0, subst (λ p. IsMappedWhole p o) (sym same) is.1)

-- in a shared object
pub agrees_with_span : (s : State) (p : Properties) (f : ℕ → Option Object) (own : Span) (h : HeldObject) → Agrees s p f → finite.get s.held own.object ≡ Some h → is_shared h.kind ≡ true → Agrees (with_span s own) p f
agrees_with_span s p f own h a held shared = record {
  properties = a.properties;
  holds = λ name. kept name (finite.get s.held name) refl (a.holds name);
}
  where
    there : (name : ℕ) (x : HeldObject) (o : Object) → finite.get s.held name ≡ Some x → IsHeldThere s name x o → IsHeldThere (with_span s own) name x o
    there name x o is was = elim (cases_eq name own.object) [
      | inl here ↦
          let same : x ≡ h = one_value _ x h is (ap (finite.get s.held) here ∙ held) in
          record { of_type = was.of_type; of_size = counted_shared x.kind s (with_span s own) name x.counted o (ap (λ (y : HeldObject). is_shared y.kind) same ∙ shared) refl was.of_size }
      | inr other ↦ there_kept s (with_span s own) name x o refl (older_but s (with_span s own) own refl name other) was
    ]

    kept : (name : ℕ) (v : Option HeldObject) → finite.get s.held name ≡ v → IfSome v (λ x. HeldWith f name (IsHeldThere s name x)) → IfSome v (λ x. HeldWith f name (IsHeldThere (with_span s own) name x))
    kept name None none was = tt
    kept name (Some x) is was = (was.0, was.1, there name x was.0 is was.2)

-- A new object that is as it is counted, and no import.

-- it is mapped whole where it is shared
mapped_whole : (p : Properties) (s : State) (t counted : ℕ) (o : Object) → p ≡ s.properties → o.memory_type ≡ t → o.size ≡ counted → o.mapped ≡ cond (is_host_visible p t) (Some (0, counted)) None → IsMappedWhole s.properties o
mapped_whole p s t counted o same of_type of_size mapped visible =
    let seen : is_host_visible p t ≡ true = (λ k. is_host_visible (same k) (sym of_type k)) ∙ visible in
    mapped ∙ ap (λ b. cond b (Some (0, counted)) None) seen ∙ ap (λ n. Some (0, n)) (sym of_size)

counted_as_made : (kind : Kind) (p : Properties) (s : State) (name t counted : ℕ) (o : Object) → kind ≢ Imported → p ≡ s.properties → IsAsCounted p (record { memory_type = t; counted = counted; kind = kind }) o → IsCountedFor kind s name counted o
counted_as_made Dedicated p s name t counted o no_import same is = is.of_size
counted_as_made Imported p s name t counted o no_import same is = absurd (no_import refl)
counted_as_made BuddyChunk p s name t counted o no_import same is = (is.of_size, mapped_whole p s t counted o same is.of_type is.of_size is.mapped)
counted_as_made (FreeListChunk number) p s name t counted o no_import same is = (is.of_size, mapped_whole p s t counted o same is.of_type is.of_size is.mapped)
counted_as_made FitChunk p s name t counted o no_import same is = (is.of_size, mapped_whole p s t counted o same is.of_type is.of_size is.mapped)

-- in such an object
pub agrees_with_object : (s now : State) (p : Properties) (f g : ℕ → Option Object) (own : Span) (h : HeldObject) → Agrees s p f → now.properties ≡ s.properties → now.held ≡ finite.insert s.held own.object h → now.live ≡ set.insert s.live own
    → h.kind ≢ Imported → HasOneMore (IsAsCounted s.properties) (finite.get now.held own.object) own.object f g → Agrees now p g
agrees_with_object s now p f g own h a same held live no_import more =
    let is : more.counted ≡ h = one_value _ more.counted h more.is_counted (ap (λ m. finite.get m own.object) held ∙ own_inserted s.held own.object h) in
    let made_so = subst (λ x. IsAsCounted s.properties x more.made) is more.is_as in
    subst (Agrees now p) (sym more.now) (agrees_more s now p f own.object h more.made a same held (older_but s now own live)
    (record { of_type = made_so.of_type; of_size = counted_as_made h.kind s.properties now own.object h.memory_type h.counted more.made no_import (sym same) made_so }))

-- One object fewer, on both sides.

there_fewer : (s now : State) (f : ℕ → Option Object) (name q : ℕ) (before : Option HeldObject) (b : Bool) → (q == name) ≡ b → now.properties ≡ s.properties → IsOlder s now q
    → IfSome before (λ x. HeldWith f q (IsHeldThere s q x)) → IfSome (cond b None before) (λ x. HeldWith (put f name None) q (IsHeldThere now q x))
there_fewer s now f name q before true e same older was = tt
there_fewer s now f name q None false e same older was = was
there_fewer s now f name q (Some x) false e same older was =
    let other : q ≢ name = grind (arith, nat_tests) in
    (was.0, put-other f name None q other ∙ was.1, there_kept s now q x was.0 same older was.2)

-- a returned object of its own keeps the two in agreement
pub agrees_returned : (s now : State) (p q : Properties) (f g : ℕ → Option Object) (b : Block) → Agrees s p f → q ≡ p → g ≡ put f b.object None → now.properties ≡ s.properties
    → now.held ≡ finite.remove s.held b.object → ((span : Span) → IsLive now span → IsLive s span) → Agrees now q g
agrees_returned s now p q f g b a same_p gone same held older =
    subst (λ objects. Agrees now q objects) (sym gone) (record {
      properties = same_p ∙ a.properties ∙ sym same;
      holds = λ name.
          let e : finite.get now.held name ≡ cond (name == b.object) None (finite.get s.held name) = ap (λ m. finite.get m name) held ∙ finite.get-remove nat_cmp_total s.held b.object name ∙ ap (λ t. cond t None (finite.get s.held name)) (name_test name b.object) in
          subst (λ (v : Option HeldObject). IfSome v (λ x. HeldWith (put f b.object None) name (IsHeldThere now name x))) (sym e)
          (there_fewer s now f b.object name (finite.get s.held name) (name == b.object) refl same (λ span live of_it. older span live) (a.holds name));
    })

-- One live span fewer.

pub agrees_without_span : (s : State) (p q : Properties) (objects : ℕ → Option Object) (block : Block) → Agrees s p objects → q ≡ p → Agrees (without_span s block) q objects
agrees_without_span s p q objects block agrees same = record {
  properties = same ∙ agrees.properties;
  holds = λ name. held name (finite.get s.held name) (agrees.holds name);
}
  where
    held : (name : ℕ) (v : Option HeldObject) → IfSome v (λ h. HeldWith objects name (IsHeldThere s name h)) → IfSome v (λ h. HeldWith objects name (IsHeldThere (without_span s block) name h))
    held name None was = tt
    held name (Some h) was = (was.0, was.1, there_kept s (without_span s block) name h was.0 refl (λ span live of_it. (live_other s.live (span_of block) span live).1) was.2)
