-- Live blocks as a list of rows.
use Rattle.std.proofs.Common.{◌≡◌, ◌↔◌, inl, inr, ℕ, true, arith, List, [], ◌∷◌, ◌++◌, map, nat_eq, Some, sym, ◌∙◌, ap, subst}
use Rattle.std.proofs.lemmas.List.{append-nil}
use Rattle.std.proofs.lemmas.Map.Views.{lookup-from_Contains, Contains-from_lookup}
use Rattle.std.proofs.lemmas.Cmp.{nat_eq_equiv}
use Rattle.std.proofs.lemmas.Bool.Decides.{nat_tests}
use Rattle.std.specs.List.{Contains, IsDistinct}
use Rattle.std.specs.Map.{keys_of}
use Rattle.std.specs.Ordering.{nat_cmp}
use Rattle.std.specs.FinMap as finite
use Rattle.gpu_alloc.specs.State.{Block, Span, span_of}
use Rattle.gpu_alloc_base.proofs.Lists.{contains_cases, contains_none, contains_head, contains_later}
use Rattle.gpu_alloc_base.proofs.Names.{get_entries}
use Rattle.gpu_session.specs.Listing.{span_told}
use Rattle.gpu_session.specs.declared.session.listing.NamedSpan.{NamedSpan}

abbrev pub row_of : ℕ × Block → NamedSpan
row_of e = record { name = e.0; object = e.1.object; offset = e.1.offset; size = e.1.size }

row_from : (es : List (ℕ × Block)) (row : NamedSpan) → Contains (map row_of es) row → (e : ℕ × Block) × Contains es e × (row_of e ≡ row)
row_from [] row has = absurd (contains_none row has)
row_from (e ∷ es) row has = elim (contains_cases (row_of e) row (map row_of es) has) [
  | inl is ↦ (e, contains_head e es, sym is)
  | inr h ↦ let found = row_from es row h in (found.0, contains_later e found.0 es found.1, found.2)
]

row_there : (es : List (ℕ × Block)) (e : ℕ × Block) → Contains es e → Contains (map row_of es) (row_of e)
row_there [] e has = absurd (contains_none e has)
row_there (x ∷ es) e has = elim (contains_cases x e es has) [
  | inl is ↦ subst (λ z. Contains (row_of x ∷ map row_of es) (row_of z)) (sym is) (contains_head (row_of x) (map row_of es))
  | inr h ↦ contains_later (row_of x) (row_of e) (map row_of es) (row_there es e h)
]

same_number : (x y : ℕ) → nat_eq x y ≡ true → x ≡ y
same_number x y e = grind (arith, nat_tests)

-- the row has the name of a block and says where it lies
abbrev Tells : List (ℕ × Block) → NamedSpan → Type 0
Tells es row = (b : Block) × (finite.get (finite.from_entries {R = nat_cmp} es) row.name ≡ Some b) × (span_of b ≡ span_told row)

-- a list that has a row for each entry has exactly the rows of named blocks
pub rows_are : (rows : List NamedSpan) (es rest : List (ℕ × Block)) → IsDistinct nat_eq (keys_of es) → rest ≡ [] → rows ++ map row_of rest ≡ map row_of es → (row : NamedSpan) → Contains rows row ↔ Tells es row
rows_are rows es rest distinct none is row = (
  λ has.
      let found = row_from es row (subst (λ (xs : List NamedSpan). Contains xs row) all has) in
      let at = get_entries es found.0.0 ∙ lookup-from_Contains nat_eq_equiv found.0.0 found.0.1 es distinct found.1 in
      (found.0.1, subst (λ (n : ℕ). finite.get (finite.from_entries {R = nat_cmp} es) n ≡ Some found.0.1) (ap (λ (r : NamedSpan). r.name) found.2) at, ap span_told found.2),
  λ h.
      let has = Contains-from_lookup same_number row.name h.0 es (sym (get_entries es row.name) ∙ h.1) in
      let same : row_of (row.name, h.0) ≡ row = ap (λ (s : Span). record { name = row.name; object = s.object; offset = s.offset; size = s.size }) h.2 in
      subst (λ (xs : List NamedSpan). Contains xs row) (sym all) (subst (Contains (map row_of es)) same (row_there es (row.name, h.0) has)),
)
  where
    all : rows ≡ map row_of es
    all = sym (append-nil rows) ∙ subst (λ (r : List (ℕ × Block)). rows ++ map row_of r ≡ map row_of es) none is
