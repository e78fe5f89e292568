-- What a change of one part makes of all parts.
use Rattle.std.proofs.Common.{◌≡◌, inl, inr, ℕ, List, Option, Some, None, IsTrue, refl, sym, ◌∙◌, ap, subst}
use Rattle.std.proofs.Math.ListN.{set}
use Rattle.std.specs.FinMap as map
use Rattle.std.specs.FinSet as set_of
use Rattle.gpu_alloc_base.proofs.Maps.{inserted_cases, own_inserted, inserted_kept, kept_key, kept_other}
use Rattle.gpu_alloc_block.specs.State.{HeldObject, Span}
use Rattle.gpu_alloc_block.proofs.LiveSpans.{live_before, live_other, not_live}
use Rattle.gpu_alloc_block.specs.Parts.{Part, held_in_parts, live_in_parts, IsAt, Holds, HasLive, ArePartsApart, Makes, IsUnusedInPart}
use Rattle.gpu_alloc_block.proofs.Parts.Unions.{at_once, at_after, held_at, live_at, none_at, IsAlone, IsAloneLive, held_kept, live_kept_at, held_put, held_gone, live_put, live_gone}

module _ (IsPlace : ℕ → HeldObject → Type 0) (ps : List Part) (apart : ArePartsApart IsPlace ps) where
  -- Look-ups.

  -- what a part holds, the union holds
  pub holds_of : (i : ℕ) (p : Part) (object : ℕ) (h : HeldObject) → IsAt ps i p → Holds p object h → map.get (held_in_parts ps) object ≡ Some h
  holds_of i p object h at has = cases (map.get (held_in_parts ps) object) refl
    where
      cases : (o : Option HeldObject) → map.get (held_in_parts ps) object ≡ o → map.get (held_in_parts ps) object ≡ Some h
      cases None e = let none = none_at ps object e i p at in absurd (let bad : None ≡ Some h = sym none ∙ has in cc)
      cases (Some k) e =
          let there = held_at ps object k e in
          let here : there.0 ≡ i = apart.once there.0 i there.1 p object k h there.2 at there.3 has in
          let same : there.1 ≡ p = at_once ps i there.1 p (subst (λ j. IsAt ps j there.1) here there.2) at in
          e ∙ sym there.3 ∙ ap (λ (s : Part). map.get s.held object) same ∙ has

  -- and stands in the part where it may be
  pub own_part : ((i j : ℕ) (h : HeldObject) → IsPlace i h → IsPlace j h → i ≡ j) → (i : ℕ) (p : Part) (object : ℕ) (h : HeldObject) → map.get (held_in_parts ps) object ≡ Some h → IsPlace i h → IsAt ps i p → Holds p object h
  own_part single i p object h is placed at =
      let there = held_at ps object h is in
      let here : there.0 ≡ i = single there.0 i h (apart.placed there.0 there.1 object h there.2 there.3) placed in
      let same : there.1 ≡ p = at_once ps i there.1 p (subst (λ j. IsAt ps j there.1) here there.2) at in
      ap (λ (s : Part). map.get s.held object) (sym same) ∙ there.3

  -- and so do its spans
  pub part_span : (i : ℕ) (p : Part) (span : Span) (h : HeldObject) → IsTrue (set_of.contains (live_in_parts ps) span) → Holds p span.object h → IsAt ps i p → HasLive p span
  part_span i p span h live has at =
      let there = live_at ps span live in
      let inside = apart.inside there.0 there.1 span there.2 there.3 in
      let here : there.0 ≡ i = apart.once there.0 i there.1 p span.object inside.0 h there.2 at inside.1 has in
      let same : there.1 ≡ p = at_once ps i there.1 p (subst (λ j. IsAt ps j there.1) here there.2) at in
      subst (λ (s : Part). HasLive s span) same there.3

  -- an object is held by no other part
  alone_held : (i : ℕ) (p : Part) (object : ℕ) (h : HeldObject) → IsAt ps i p → Holds p object h → IsAlone ps i object
  alone_held i p object h at has j q there ne = cases (map.get q.held object) refl
    where
      cases : (o : Option HeldObject) → map.get q.held object ≡ o → map.get q.held object ≡ None
      cases None e = e
      cases (Some k) e = absurd (ne (apart.once j i q p object k h there at e has))

  alone_new : (i object : ℕ) → map.get (held_in_parts ps) object ≡ None → IsAlone ps i object
  alone_new i object none j q there ne = none_at ps object none j q there

  -- nor are its spans live there
  alone_live : (i : ℕ) (span : Span) → IsAlone ps i span.object → IsAloneLive ps i span
  alone_live i span alone j q there ne =
      not_live q.live span (λ live. let inside = apart.inside j q span there live in let bad : None ≡ Some inside.0 = sym (alone j q there ne) ∙ inside.1 in absurd (cc))

  -- Parts stay apart.

  module _ (i : ℕ) (p new : Part) (at : IsAt ps i p) where
    apart_changed : ((object : ℕ) (h : HeldObject) → Holds new object h → IsPlace i h × IsAlone ps i object) → ((span : Span) → HasLive new span → (h : HeldObject) × Holds new span.object h)
        → ArePartsApart IsPlace (set ps i new)
    apart_changed holds inside = record {
      placed = λ j q object h there has. elim (at_after ps i new j q there) [
        | inl is ↦ subst (λ k. IsPlace k h) (sym is.0) (holds object h (subst (λ (s : Part). Holds s object h) (sym is.1) has)).0
        | inr is ↦ apart.placed j q object h is.1 has
      ];
      once = λ j k q r object h g at_j at_k has_q has_r. elim (at_after ps i new j q at_j) [
        | inl a ↦ elim (at_after ps i new k r at_k) [
          | inl b ↦ a.0 ∙ sym b.0
          | inr b ↦ absurd (let none = (holds object h (subst (λ (s : Part). Holds s object h) (sym a.1) has_q)).1 k r b.1 b.0 in let bad : None ≡ Some g = sym none ∙ has_r in cc)
        ]
        | inr a ↦ elim (at_after ps i new k r at_k) [
          | inl b ↦ absurd (let none = (holds object g (subst (λ (s : Part). Holds s object g) (sym b.1) has_r)).1 j q a.1 a.0 in let bad : None ≡ Some h = sym none ∙ has_q in cc)
          | inr b ↦ apart.once j k q r object h g a.1 b.1 has_q has_r
        ]
      ];
      inside = λ j q span there has. elim (at_after ps i new j q there) [
        | inl is ↦ subst (λ (s : Part). (h : HeldObject) × Holds s span.object h) is.1 (inside span (subst (λ (s : Part). HasLive s span) (sym is.1) has))
        | inr is ↦ apart.inside j q span is.1 has
      ];
    }

    own : (object : ℕ) (h : HeldObject) → Holds p object h → IsPlace i h × IsAlone ps i object
    own object h has = (apart.placed i p object h at has, alone_held i p object h at has)

    -- The four changes.

    -- a span comes, of an object that is held
    pub span_comes : (span : Span) (h : HeldObject) → Holds p span.object h → new.held ≡ p.held → new.live ≡ set_of.insert p.live span
        → Makes IsPlace (set ps i new) (held_in_parts ps) (set_of.insert (live_in_parts ps) span)
    span_comes span h has held live = record {
      apart = apart_changed (λ object g is. own object g (ap (λ m. map.get m object) (sym held) ∙ is)) (λ s is. elim (live_before p.live span s (subst (λ l. IsTrue (set_of.contains l s)) live is)) [
        | inl same ↦ (h, ap (λ m. map.get m s.object) held ∙ ap (λ (t : Span). map.get p.held t.object) same ∙ has)
        | inr was ↦ let inside = apart.inside i p s at was in (inside.0, ap (λ m. map.get m s.object) held ∙ inside.1)
      ]);
      held_is = held_kept ps i p new at held;
      live_is = live_put ps i p new at span (alone_live i span (alone_held i p span.object h at has)) live;
    }

    -- an object comes, with a span of it
    pub object_comes : (span : Span) (h : HeldObject) → map.get (held_in_parts ps) span.object ≡ None → IsPlace i h → new.held ≡ map.insert p.held span.object h → new.live ≡ set_of.insert p.live span
        → Makes IsPlace (set ps i new) (map.insert (held_in_parts ps) span.object h) (set_of.insert (live_in_parts ps) span)
    object_comes span h none placed held live = record {
      apart = apart_changed (λ object g is. elim (inserted_cases p.held span.object h object g (ap (λ m. map.get m object) (sym held) ∙ is)) [
        | inl came ↦ (subst (IsPlace i) came.1 placed, λ j q there ne. ap (map.get q.held) came.0 ∙ alone_new i span.object none j q there ne)
        | inr was ↦ own object g was
      ]) (λ s is. elim (live_before p.live span s (subst (λ l. IsTrue (set_of.contains l s)) live is)) [
        | inl same ↦ (h, ap (λ m. map.get m s.object) held ∙ ap (λ (t : Span). map.get (map.insert p.held span.object h) t.object) same ∙ own_inserted p.held span.object h)
        | inr was ↦ let inside = apart.inside i p s at was in (inside.0, ap (λ m. map.get m s.object) held ∙ inserted_kept p.held span.object h s.object inside.0 (none_at ps span.object none i p at) inside.1)
      ]);
      held_is = held_put ps i p new at span.object h (alone_new i span.object none) held;
      live_is = live_put ps i p new at span (alone_live i span (alone_new i span.object none)) live;
    }

    -- a span is removed
    pub span_goes : (span : Span) (h : HeldObject) → Holds p span.object h → new.held ≡ p.held → new.live ≡ set_of.remove p.live span
        → Makes IsPlace (set ps i new) (held_in_parts ps) (set_of.remove (live_in_parts ps) span)
    span_goes span h has held live = record {
      apart = apart_changed (λ object g is. own object g (ap (λ m. map.get m object) (sym held) ∙ is)) (λ s is.
          let inside = apart.inside i p s at (live_other p.live span s (subst (λ l. IsTrue (set_of.contains l s)) live is)).1 in
          (inside.0, ap (λ m. map.get m s.object) held ∙ inside.1));
      held_is = held_kept ps i p new at held;
      live_is = live_gone ps i p new at span (alone_live i span (alone_held i p span.object h at has)) live;
    }

    -- an object goes of which no span is live
    pub object_goes : (object : ℕ) (h : HeldObject) → Holds p object h → IsUnusedInPart p object → new.held ≡ map.remove p.held object → new.live ≡ p.live
        → Makes IsPlace (set ps i new) (map.remove (held_in_parts ps) object) (live_in_parts ps)
    object_goes object h has unused held live = record {
      apart = apart_changed (λ name g is. own name g (kept_key p.held object name g (ap (λ m. map.get m name) (sym held) ∙ is)).1) (λ s is.
          let was : HasLive p s = subst (λ l. IsTrue (set_of.contains l s)) live is in
          let inside = apart.inside i p s at was in
          (inside.0, ap (λ m. map.get m s.object) held ∙ kept_other p.held object s.object (unused s was) ∙ inside.1));
      held_is = held_gone ps i p new at object (alone_held i p object h at has) held;
      live_is = live_kept_at ps i p new at live;
    }

    -- a span goes, and its object with it, of which no other is live
    pub last_goes : (span : Span) (h : HeldObject) → Holds p span.object h → ((other : Span) → HasLive p other → other.object ≡ span.object → other ≡ span)
        → new.held ≡ map.remove p.held span.object → new.live ≡ set_of.remove p.live span
        → Makes IsPlace (set ps i new) (map.remove (held_in_parts ps) span.object) (set_of.remove (live_in_parts ps) span)
    last_goes span h has last held live = record {
      apart = apart_changed (λ name g is. own name g (kept_key p.held span.object name g (ap (λ m. map.get m name) (sym held) ∙ is)).1) (λ s is.
          let left = live_other p.live span s (subst (λ l. IsTrue (set_of.contains l s)) live is) in
          let inside = apart.inside i p s at left.1 in
          (inside.0, ap (λ m. map.get m s.object) held ∙ kept_other p.held span.object s.object (λ same. left.0 (last s left.1 same)) ∙ inside.1));
      held_is = held_gone ps i p new at span.object (alone_held i p span.object h at has) held;
      live_is = live_gone ps i p new at span (alone_live i span (alone_held i p span.object h at has)) live;
    }
