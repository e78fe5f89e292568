-- Free ranges that stand for the elements of a list, one for each.
use Rattle.std.proofs.Common.{◌≡◌, ℕ, ◌+◌, ◌<◌, ◌≤◌, ◌↔◌, false, List, [], ◌∷◌, ◌++◌, length, map, take, get_or, Contains, Option, Some, None, IfSome, IsSome, inl, inr, refl, sym, ◌∙◌, ap, subst, arith}
use Rattle.std.proofs.lemmas.List.{get_or-map, length-map, map_more, take_all}
use Rattle.std.proofs.lemmas.Map.Keys.{IsDistinct-from_apart}
use Rattle.std.specs.List.{IsDistinct}
use Rattle.gpu_alloc_types.specs.declared.types.FreeRange.{FreeRange}
use Rattle.gpu_alloc_base.specs.Chunks.{Chunk, object_in}
use Rattle.gpu_alloc_base.specs.RangeOrder.{same_start}
use Rattle.gpu_alloc_base.proofs.Lists.{contains_cases, contains_none, contains_head, contains_later}

-- A held chunk names its object.

pub some_value : {X : Type 0} (o : Option X) → IsSome o → (x : X) × (o ≡ Some x)
some_value None some = absurd (cc)
some_value (Some x) some = (x, refl)

pub told_object : (o : Option Chunk) (chunk : Chunk) → o ≡ Some chunk → object_in o ≡ chunk.object
told_object o chunk is = rw is refl

pub told_name : (o : Option Chunk) (object : ℕ) → IsSome o → IfSome o (λ c. c.object ≡ object) → object_in o ≡ object
told_name None object some named = absurd (cc)
told_name (Some chunk) object some named = named

module _ {P : Type 0} (range : P → FreeRange) where
  was_listed : (ps : List P) (r : FreeRange) → Contains (map range ps) r → (p : P) × Contains ps p × (range p ≡ r)
  was_listed [] r has = absurd (contains_none r has)
  was_listed (p ∷ ps) r has = elim (contains_cases (range p) r (map range ps) has) [
    | inl is ↦ (p, contains_head p ps, sym is)
    | inr later ↦ let found = was_listed ps r later in (found.0, contains_later p found.0 ps found.1, found.2)
  ]

  is_listed : (ps : List P) (p : P) → Contains ps p → Contains (map range ps) (range p)
  is_listed [] p has = absurd (contains_none p has)
  is_listed (q ∷ ps) p has = elim (contains_cases q p ps has) [
    | inl is ↦ subst (λ x. Contains (range q ∷ map range ps) (range x)) (sym is) (contains_head (range q) (map range ps))
    | inr later ↦ contains_later (range q) (range p) (map range ps) (is_listed ps p later)
  ]

  -- the list has exactly the ranges of this kind, where each element gives one and each comes of an element
  pub listed : (ps : List P) (Is : FreeRange → Type 0) → ((p : P) → Contains ps p → Is (range p)) → ((r : FreeRange) → Is r → (p : P) × Contains ps p × (range p ≡ r))
      → (r : FreeRange) → Contains (map range ps) r ↔ Is r
  listed ps Is gives comes r = (
    (λ has. let found = was_listed ps r has in subst Is found.2 (gives found.0 found.1)),
    (λ is. let found = comes r is in subst (Contains (map range ps)) found.2 (is_listed ps found.0 found.1)),
  )

  -- no two start at one byte, where those of no two elements do
  pub start_apart : (ps : List P) → ((i j : ℕ) (d : P) → i < j → j < length ps → same_start (range (get_or ps i d)) (range (get_or ps j d)) ≡ false) → IsDistinct same_start (map range ps)
  start_apart [] apart = IsDistinct-from_apart same_start [] (λ i j d lt within. absurd (omega (arith, within)))
  start_apart (p ∷ ps) apart = IsDistinct-from_apart same_start (map range (p ∷ ps)) (λ i j d lt within.
      let inside : j < length (p ∷ ps) = subst (λ n. j < n) (length-map (p ∷ ps) range) within in
      let at_i = get_or-map range (p ∷ ps) i p d (omega arith) in
      let at_j = get_or-map range (p ∷ ps) j p d inside in
      (λ k. same_start (at_i k) (at_j k)) ∙ apart i j p lt inside)

  -- one range more is listed
  pub one_more : (ps : List P) (i : ℕ) (d : P) (r : FreeRange) (old new : List FreeRange) → i < length ps → range (get_or ps i d) ≡ r → old ≡ map range (take i ps)
      → new ≡ old ++ r ∷ [] → new ≡ map range (take (i + 1) ps)
  one_more ps i d r old new lt is so_far pushed =
      pushed ∙ ap (λ (xs : List FreeRange). xs ++ r ∷ []) so_far ∙ ap (λ x. map range (take i ps) ++ x ∷ []) (sym is) ∙ sym (map_more range ps i d lt)

  -- all are
  pub all_listed : (ps : List P) (i : ℕ) (ranges : List FreeRange) → length ps ≤ i → ranges ≡ map range (take i ps) → ranges ≡ map range ps
  all_listed ps i ranges le is = is ∙ ap (map range) (take_all i ps le)
