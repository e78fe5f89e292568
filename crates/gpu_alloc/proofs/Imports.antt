-- What an import adds, and that allocator, block and device agree after it.
use Rattle.std.proofs.Common.{◌≡◌, ◌≢◌, ◌⊎◌, ◌↔◌, inl, inr, ℕ, ◌+◌, ◌-◌, ◌%◌, ◌<◌, ◌≤◌, Bool, true, false, cond, Option, Some, None, IfSome, is_some, Result, Ok, Err, IfOk, OnErr, refl, sym, ◌∙◌, ap, subst, arith}
use Rattle.std.proofs.Math.Nat.{mod-one}
use Rattle.std.specs.FinMap as map
use Rattle.std.specs.Result.{result_map_both}
use Rattle.gpu_alloc_types.specs.Device.{HeldWith, IsFresh, Object, Row, put}
use Rattle.gpu_alloc_types.specs.Device.Event.{Allocated}
use Rattle.gpu_alloc_types.specs.declared.types.OutOfMemory.{OutOfMemory}
use Rattle.gpu_alloc_types.specs.Objects.{put-kept, put-other, put-same}
use Rattle.gpu_alloc_types.specs.Properties.{Properties, atom_of, is_non_coherent, props_at}
use Rattle.gpu_alloc_block.specs.Agreement.{Agrees, BlockAgrees, IsHeldFor, IsHeldThere, IsInside}
use Rattle.gpu_alloc_block.specs.State.{AreSpansApart, Block, HeldObject, IsLive, IsOwned, Span, State, span_of, total}
use Rattle.gpu_alloc.specs.Candidates.{holding}
use Rattle.gpu_alloc.specs.Importing.{ImportAgrees, Imports, ImportsInHand, IsImportable, MayBeImported, imported_block, imported_object}
use Rattle.gpu_alloc.specs.Owned.{Adds, Leaves}
use Rattle.gpu_alloc.specs.Sound.{IsSound}
use Rattle.gpu_alloc_base.proofs.Maps.{own_inserted}
use Rattle.gpu_alloc_base.proofs.Names.{get_put-other, len_put}
use Rattle.gpu_alloc.proofs.Agreeing.{IsOlder, agrees_kept, agrees_more, not_held, older_but}
use Rattle.gpu_alloc.proofs.BlocksAgreed.{block_kept}
use Rattle.gpu_alloc.proofs.Changes.{Grows, holds_one_more}
use Rattle.gpu_alloc.proofs.InHand.{held_not_outside, more_in_hand, same_outside, unasked_kept}
use Rattle.gpu_alloc.proofs.Owning.{grant_adds, grant_leaves, left_as_it_was}
use Rattle.gpu_alloc_block.proofs.LiveSpans.{live_before, live_new}

module _ (s : State) (object memory_type offset size : ℕ) where
  owned : IsOwned (holding s (imported_object memory_type size) (imported_block s object memory_type offset size)) (imported_block s object memory_type offset size)
  owned = record {
    live = live_new s.live (record { object = object; offset = offset; size = size });
    held = (imported_object memory_type size, own_inserted s.held object (imported_object memory_type size), refl, refl);
  }

  pub imports : (new : State) (b : Block) → b ≡ imported_block s object memory_type offset size → new ≡ holding s (imported_object memory_type size) (imported_block s object memory_type offset size)
      → Imports s object memory_type offset size new b
  imports new b is held = rw (is, held) (record { block = refl; state = refl; owned = owned })

-- What the state then has.

module _ (s : State) (object memory_type offset size : ℕ) (new : State) (b : Block) (is : Imports s object memory_type offset size new b) where
  -- the name is the block's object's
  named : b.object ≡ object
  named = ap (λ (x : Block). x.object) is.block

  -- one object and one span more
  pub import_grows : map.get s.held object ≡ None → Grows s b new
  import_grows free = record {
    live = ap (λ (t : State). t.live) is.state;
    held = holds_one_more s b new (imported_object memory_type size) (ap (map.get s.held) named ∙ free) (ap (λ (t : State). t.held) is.state);
    properties = ap (λ (t : State). t.properties) is.state;
    sharing = ap (λ (t : State). t.sharing) is.state;
    config = ap (λ (t : State). t.config) is.state;
    limits = ap (λ (t : State). t.heap_limits) is.state;
  }

  -- no live span is of the object
  unused : IsSound s → map.get s.held object ≡ None → (span : Span) → IsLive s span → span.object ≢ object
  unused sound free span live same = let was = (sound.inside span live).1 in let none = ap (map.get s.held) same ∙ free in absurd (cc)

  pub import_apart : IsSound s → map.get s.held object ≡ None → (span : Span) → IsLive s span → AreSpansApart span (span_of b)
  import_apart sound free span live = inl (λ same. unused sound free span live (same ∙ named))

  pub import_total : map.get s.held object ≡ None → 0 < s.remaining → total new ≡ total s
  import_total free some =
      let held : map.len new.held ≡ map.len s.held + 1 = ap (λ (t : State). map.len t.held) is.state ∙ len_put s.held b.object (imported_object memory_type size) (ap (map.get s.held) named ∙ free) in
      let fewer : new.remaining ≡ s.remaining - 1 = ap (λ (t : State). t.remaining) is.state in
      omega (arith, held, fewer, some)

  -- What agrees then.

  module _ (sound : IsSound s) (free : map.get s.held object ≡ None) (p : Properties) (objects : ℕ → Option Object) (agrees : Agrees s p objects) (held : HeldWith objects object (IsImportable p memory_type offset size)) where
    abbrev o : Object
    o = held.0

    of_properties : p ≡ new.properties
    of_properties = agrees.properties ∙ ap (λ (t : State). t.properties) (sym is.state)

    -- the one live span of the object is the block's
    new_span : (span : Span) → IsLive new span → span.object ≡ object → span ≡ record { object = object; offset = offset; size = size }
    new_span span live same = elim (live_before s.live (span_of b) span (subst (λ (t : State). IsLive t span) is.state live)) [
      | inl this ↦ this ∙ ap span_of is.block
      | inr was ↦ absurd (unused sound free span was same)
    ]

    inside : IsInside p (record { object = object; offset = offset; size = size }) o
    inside = record { within = held.2.within; finish = λ flushed. held.2.finish (ap (is_non_coherent p) (sym held.2.of_type) ∙ flushed) }

    there : IsHeldThere new object (imported_object memory_type size) o
    there = record {
      of_type = held.2.of_type;
      of_size = λ span live same. subst (λ q. IsInside q span o) of_properties (subst (λ x. IsInside p x o) (sym (new_span span live same)) inside);
    }

    pub import_agrees : Agrees new p objects
    import_agrees =
        let more : new.held ≡ map.insert s.held object (imported_object memory_type size) = ap (λ (t : State). t.held) is.state ∙ ap (λ n. map.insert s.held n (imported_object memory_type size)) named in
        let older : (q : ℕ) → q ≢ object → IsOlder s new q = λ q other. older_but s new (span_of b) (ap (λ (t : State). t.live) is.state) q (λ same. other (same ∙ named)) in
        subst (Agrees new p) (put-kept objects object (Some o) held.1)
        (agrees_more s new p objects object (imported_object memory_type size) o agrees (ap (λ (t : State). t.properties) is.state) more older there)

    -- the end is on the atom, which is 1 where nothing is flushed
    finish : (flushed : Bool) (n end : ℕ) → (flushed ≡ true → (end % n ≡ 0) ⊎ (end ≡ o.size)) → (end % cond flushed n 1 ≡ 0) ⊎ (end ≡ o.size)
    finish true n end ends = ends refl
    finish false n end ends = inl (mod-one end)

    pub import_ready : BlockAgrees b p objects
    unfolding BlockAgrees
    import_ready = subst (λ x. IsHeldFor x p objects) (sym (is.block)) (record {
      props = ap (λ q. props_at q memory_type) (sym agrees.properties);
      atom = ap (λ q. atom_of q memory_type) (sym agrees.properties);
      mapping = tt;
      visible = λ some. absurd (cc);
      there = (
        o,
        held.1,
        record {
          of_type = held.2.of_type;
          inside = held.2.within;
          whole = λ own. absurd (cc);
          shared = λ own. absurd (cc);
          own = λ _. held.2.unmapped;
          atoms = λ own. absurd (cc);
          finish = subst (λ q. ((offset + size) % atom_of q memory_type ≡ 0) ⊎ (offset + size ≡ o.size)) agrees.properties (finish (is_non_coherent p memory_type) p.non_coherent_atom_size (offset + size) held.2.finish);
        },
      );
    })

  pub imports_agree : IsSound s → map.get s.held object ≡ None → ImportAgrees s object memory_type offset size new b
  unfolding ImportAgrees MayBeImported
  imports_agree sound free = λ p objects agrees held. (import_agrees sound free p objects agrees held, import_ready sound free p objects agrees held)

-- By the answer: where it was refused, nothing changed.
module _ {E : Type 0} (s : State) (object memory_type offset size : ℕ) (new : State) (free : map.get s.held object ≡ None) where
  pub answer_leaves : (answer : Result Block E) → IfOk answer (Imports s object memory_type offset size new) → OnErr answer (new ≡ s) → Leaves s new
  answer_leaves (Ok b) is kept = grant_leaves s b new (import_grows s object memory_type offset size new b is free)
  answer_leaves (Err e) is kept = left_as_it_was s new kept

  pub answer_total : (answer : Result Block E) → IfOk answer (Imports s object memory_type offset size new) → OnErr answer (new ≡ s) → 0 < s.remaining → total new ≡ total s
  answer_total (Ok b) is kept some = import_total s object memory_type offset size new b is free some
  answer_total (Err e) is kept some = ap total kept

  pub answer_adds : (answer : Result Block E) → IfOk answer (Imports s object memory_type offset size new) → IsSound s → IsSound new → IfOk answer (Adds s new)
  answer_adds (Ok b) is sound sound_new =
      grant_adds s b new (import_grows s object memory_type offset size new b is free) sound (import_apart s object memory_type offset size new b is sound free) sound_new is.owned
  answer_adds (Err e) is sound sound_new = tt

  pub answer_agrees : (answer : Result Block E) → IfOk answer (Imports s object memory_type offset size new) → IsSound s → IfOk answer (ImportAgrees s object memory_type offset size new)
  answer_agrees (Ok b) is sound = imports_agree s object memory_type offset size new b is sound free
  answer_agrees (Err e) is sound = tt

  pub answer_in_hand : (answer : Result Block E) → IfOk answer (Imports s object memory_type offset size new) → IfOk answer (ImportAgrees s object memory_type offset size new) → IfOk answer (Adds s new) → Leaves s new
      → IfOk answer (ImportsInHand s object memory_type offset size new)
  unfolding ImportAgrees
  answer_in_hand (Ok b) is agrees adds leaves =
      let named = ap (λ (x : Block). x.object) is.block in
      record {
        kept = unasked_kept s new leaves.owned;
        joins = λ p objects old may. more_in_hand s p objects new p objects (λ bs owned are. are) (unasked_kept s new leaves.owned p objects) b is.owned (agrees p objects old may).1 adds;
        taken = λ objects. held_not_outside new objects object (ap is_some (ap (map.get new.held) (sym named) ∙ is.owned.held.1));
        others = λ objects name other.
            same_outside s new objects objects name
            (ap (λ (t : State). map.get t.held name) is.state ∙ get_put-other s.held b.object (imported_object memory_type size) name (λ same. other (same ∙ named))) refl;
      }
  answer_in_hand (Err e) is agrees adds leaves = tt

-- A device made an object for its caller.
module _ (p q : Properties) (old new : ℕ → Option Object) (name memory_type size : ℕ) (same : q ≡ p) (free : old name ≡ None) (o : Object) (fresh : IsFresh size memory_type o) (more : new ≡ put old name (Some o)) where
  -- what it held it holds
  at_other : (n : ℕ) (x : Object) → old n ≡ Some x → new n ≡ old n
  at_other n x at = ap (λ (f : ℕ → Option Object). f n) more ∙ put-other old name (Some o) n (λ is. let none = ap old is ∙ free in absurd (cc))

  held_beside : (s : State) (n : ℕ) (v : Option HeldObject) → IfSome v (λ h. HeldWith old n (IsHeldThere s n h)) → IfSome v (λ h. HeldWith new n (IsHeldThere s n h))
  held_beside s n None was = tt
  held_beside s n (Some h) was = (was.0, at_other n was.0 was.1 ∙ was.1, was.2)

  agrees_beside : (s : State) → Agrees s p old → Agrees s q new
  agrees_beside s is = record { properties = same ∙ is.properties; holds = λ n. held_beside s n (map.get s.held n) (is.holds n) }

  block_beside : (b : Block) → BlockAgrees b p old → BlockAgrees b q new
  unfolding BlockAgrees
  block_beside b is = block_kept b p q old new same (at_other b.object is.there.0 is.there.1) is

  importable : IsImportable q memory_type 0 size o
  importable = record {
    of_type = fresh.of_type;
    unmapped = fresh.unmapped;
    within = omega (arith, fresh.of_size);
    finish = λ flushed. inr (omega (arith, fresh.of_size));
  }

  pub whole_importable : MayBeImported q new name memory_type 0 size
  unfolding MayBeImported
  whole_importable = (o, ap (λ (f : ℕ → Option Object). f name) more ∙ put-same old name (Some o), importable)

-- What a device's call leaves that was asked for an object.
pub record LeavesAgreement {M : Type 0} (p : Properties) (old : ℕ → Option Object) (q : Properties) (new : ℕ → Option Object) (memory_type size : ℕ) (name : M → ℕ) (answer : Result M OutOfMemory) : Type 0 where
  pub allocators : (s : State) → Agrees s p old → Agrees s q new
  pub blocks : (b : Block) → BlockAgrees b p old → BlockAgrees b q new
  pub unheld : (s : State) → Agrees s p old → IfOk answer (λ memory. map.get s.held (name memory) ≡ None)
  pub whole : IfOk answer (λ memory. MayBeImported q new (name memory) memory_type 0 size)

pub asked_left : {M : Type 0} {p q : Properties} {old new : ℕ → Option Object} (name : M → ℕ) (answer : Result M OutOfMemory) → q ≡ p → (size memory_type flags : ℕ)
    → Row p old (Allocated size memory_type flags (result_map_both name (λ e. e) answer)) new → LeavesAgreement p old q new memory_type size name answer
asked_left {M} {p} {q} {old} {new} name (Ok memory) same size t flags row = record {
  allocators = agrees_beside p q old new (name memory) t size same row.0 row.1.0 row.1.1 row.1.2;
  blocks = block_beside p q old new (name memory) t size same row.0 row.1.0 row.1.1 row.1.2;
  unheld = λ s is. not_held s p old (name memory) is row.0;
  whole = whole_importable p q old new (name memory) t size same row.0 row.1.0 row.1.1 row.1.2;
}
asked_left {M} {p} {q} {old} {new} name (Err e) same size t flags row = record {
  allocators = λ s is. agrees_kept s s p q old new is refl same row;
  blocks = λ b is. block_kept b p q old new same (ap (λ (f : ℕ → Option Object). f b.object) row) is;
  unheld = λ s is. tt;
  whole = tt;
}

-- What a device's call leaves that takes an object back: each allocator that does not hold it agrees as before, and so
-- does each block that such an allocator owns.
pub record LeavesOthers (p : Properties) (old : ℕ → Option Object) (q : Properties) (new : ℕ → Option Object)
    (name : ℕ) : Type 0 where
  pub allocators : (s : State) → map.get s.held name ≡ None → Agrees s p old → Agrees s q new
  pub blocks : (s : State) (b : Block) → map.get s.held name ≡ None → IsOwned s b → BlockAgrees b p old
      → BlockAgrees b q new

-- A device took an object back.
module _ (p q : Properties) (old new : ℕ → Option Object) (name : ℕ) (same : q ≡ p) (fewer : new ≡ put old name None) where
  -- what it held under another name it holds
  still_at : (n : ℕ) → n ≢ name → new n ≡ old n
  still_at n other = ap (λ (f : ℕ → Option Object). f n) fewer ∙ put-other old name None n other

  held_still : (s : State) (n : ℕ) (v : Option HeldObject) → map.get s.held n ≡ v → map.get s.held name ≡ None → IfSome v (λ h. HeldWith old n (IsHeldThere s n h)) → IfSome v (λ h. HeldWith new n (IsHeldThere s n h))
  held_still s n None at free was = tt
  held_still s n (Some h) at free was = (was.0, still_at n (λ is. let none = ap (map.get s.held) is ∙ free in absurd (cc)) ∙ was.1, was.2)

  pub others_left : LeavesOthers p old q new name
  others_left = record {
    allocators = λ s free is. record { properties = same ∙ is.properties; holds = λ n. held_still s n (map.get s.held n) refl free (is.holds n) };
    blocks = λ s b free owned is. block_kept b p q old new same (still_at b.object (λ named. let none = ap (map.get s.held) named ∙ free in let held = owned.held.1 in absurd (cc))) is;
  }

-- Which objects may be imported.
module _ (p : Properties) (objects : ℕ → Option Object) where
  pub as_far : (object memory_type offset size from len : ℕ) → MayBeImported p objects object memory_type offset size → from + len ≡ offset + size → MayBeImported p objects object memory_type from len
  unfolding MayBeImported
  as_far object t offset size from len may same = (
    may.0,
    may.1,
    record {
      of_type = may.2.of_type;
      unmapped = may.2.unmapped;
      within = omega (arith, may.2.within, same);
      finish = λ flushed. subst (λ n. (n % p.non_coherent_atom_size ≡ 0) ⊎ (n ≡ may.0.size)) (sym same) (may.2.finish flushed);
    },
  )

  pub less_far : (object memory_type offset size from len : ℕ) → MayBeImported p objects object memory_type offset size → from + len ≤ offset + size → (from + len) % p.non_coherent_atom_size ≡ 0
      → MayBeImported p objects object memory_type from len
  unfolding MayBeImported
  less_far object t offset size from len may less whole = (
    may.0,
    may.1,
    record { of_type = may.2.of_type; unmapped = may.2.unmapped; within = omega (arith, may.2.within, less); finish = λ flushed. inl whole },
  )

  pub which_exactly : (object memory_type offset size : ℕ) → HeldWith objects object (IsImportable p memory_type offset size) ↔ MayBeImported p objects object memory_type offset size
  unfolding MayBeImported
  which_exactly object t offset size = (λ is. is, λ is. is)
