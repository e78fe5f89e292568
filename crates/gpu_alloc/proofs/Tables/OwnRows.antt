-- The slab of objects of one block each: which are held, and which spans are live.
use Rattle.std.proofs.Common.{◌≡◌, ℕ, List, map, true, Some, None, nat_eq, refl, sym, ◌∙◌, ap, subst}
use Rattle.std.specs.Cmp.{nat_cmp_total}
use Rattle.std.specs.FinMap as finite
use Rattle.std.specs.FinMap.{nat_cmp-IsAntisymmetric}
use Rattle.std.specs.FinSet as set
use Rattle.std.specs.List.{IsDistinct}
use Rattle.std.specs.Map.{keys_of}
use Rattle.std.specs.Ordering.{nat_cmp}
use Rattle.slab.specs.Slab.{Slab, entries, get, slab_len}
use Rattle.slab.proofs.SlabLemmas.{length-entries}
use Rattle.gpu_alloc_base.specs.SlabViews.{map_by, set_by, HasOneKeyEach}
use Rattle.gpu_alloc_base.proofs.ListViews.{named_len}
use Rattle.gpu_alloc_base.proofs.SlabViews.{IsInserted, IsRemoved, once_inserted, once_removed, in_set, set_inserted, set_removed, map_absent, map_inserted, map_removed, map_there}
use Rattle.gpu_alloc_block.specs.State.{HeldObject, Span, span_cmp}
use Rattle.gpu_alloc_block.proofs.LiveSpans.{span_total, span_exact}
use Rattle.gpu_alloc.specs.Listing.{AreOnce}
use Rattle.gpu_alloc.specs.Own.{own_row_name, own_held, own_span, row_of, live_span_of, IsRowOf, StandsNowhere, StandsUnder}
use Rattle.gpu_alloc.specs.Spans.{held_objects_in, span_in}
use Rattle.gpu_alloc.specs.declared.own.OwnRow.{OwnRow}
use Rattle.gpu_alloc.specs.declared.spans.HeldRow.{HeldRow}
use Rattle.gpu_alloc_base.specs.declared.buddy_block.Leaf.{Leaf as LiveSpan}
use Rattle.gpu_alloc.proofs.Tables.Listed.{distinct_named, mapped_twice, once_named, rows_apart}

abbrev pub held_in : Slab OwnRow → finite.FinMap nat_cmp HeldObject
held_in s = map_by own_row_name own_held s

abbrev pub live_in : Slab OwnRow → set.FinSet span_cmp
live_in s = set_by own_span s

-- a live span is a row's
span_row : (s : Slab OwnRow) (span : Span) → set.contains (live_in s) span ≡ true → (key : ℕ) × (row : OwnRow) × (get s key ≡ Some row) × (own_span row ≡ span)
span_row s span live = (in_set span_total span_exact own_span s span).0 live

module _ (s : Slab OwnRow) (once : HasOneKeyEach own_row_name s) where
  row_held : (key : ℕ) (row : OwnRow) → get s key ≡ Some row → finite.get (held_in s) row.object ≡ Some (own_held row)
  row_held key row at = map_there nat_cmp_total nat_cmp-IsAntisymmetric own_row_name own_held s key row once at

  -- what stands under the key is the object's row
  pub is_row : (key object : ℕ) (row : OwnRow) → get s key ≡ Some row → row.object ≡ object → IsRowOf (held_in s) (live_in s) object row
  is_row key object row at same = record {
    named = same;
    is_held = ap (finite.get (held_in s)) (sym same) ∙ row_held key row at;
    is_live = (in_set span_total span_exact own_span s (own_span row)).1 (key, row, at, refl);
    alone = λ span live of_it.
        let other = span_row s span live in
        let one : other.0 ≡ key = once other.0 key other.1 row other.2 at (ap (λ (x : Span). x.object) other.3 ∙ of_it ∙ sym same) in
        let both : Some other.1 ≡ Some row = sym other.2 ∙ ap (get s) one ∙ at in
        let rows : other.1 ≡ row = cc in
        sym other.3 ∙ ap own_span rows;
  }

  -- the row under its key is the object's
  pub under_row : (key object : ℕ) (row : OwnRow) → StandsUnder s object key → get s key ≡ Some row → IsRowOf (held_in s) (live_in s) object row
  under_row key object row under at =
      let both : Some row ≡ Some under.0 = sym at ∙ under.1 in
      let same : row ≡ under.0 = cc in
      is_row key object row at (ap (λ (r : OwnRow). r.object) same ∙ under.2)

  pub nowhere_unheld : (object : ℕ) → StandsNowhere s object → finite.get (held_in s) object ≡ None
  nowhere_unheld object none = map_absent nat_cmp_total nat_cmp-IsAntisymmetric own_row_name own_held s object none

  unheld_nowhere : (object : ℕ) → finite.get (held_in s) object ≡ None → StandsNowhere s object
  unheld_nowhere object none key row at same =
      let has : finite.get (held_in s) object ≡ Some (own_held row) = ap (finite.get (held_in s)) (sym same) ∙ row_held key row at in absurd (cc)

  spans_once : HasOneKeyEach own_span s
  spans_once i k a b at_i at_k same = once i k a b at_i at_k (ap (λ (x : Span). x.object) same)

  -- As a list.

  pub held_len : finite.len (held_in s) ≡ slab_len s
  held_len = named_len nat_cmp_total nat_cmp-IsAntisymmetric (λ (e : ℕ × OwnRow). e.1.object) (λ e. own_held e.1) (entries s) (rows_apart own_row_name s once) ∙ length-entries s

  abbrev pub rows_of : List (ℕ × HeldRow)
  rows_of = map (λ (e : ℕ × OwnRow). (e.1.object, row_of e.1)) (entries s)

  abbrev pub spans_of : List LiveSpan
  spans_of = map (λ (e : ℕ × OwnRow). live_span_of e.1) (entries s)

  pub rows_are : held_objects_in rows_of ≡ held_in s
  rows_are = ap (λ (es : List (ℕ × HeldObject)). finite.from_entries es) (mapped_twice (λ (e : ℕ × OwnRow). (e.1.object, row_of e.1)) _ (λ e. (e.1.object, own_held e.1)) (λ e. refl) (entries s))

  pub rows_distinct : IsDistinct nat_eq (keys_of rows_of)
  rows_distinct =
      subst (IsDistinct nat_eq) (sym (mapped_twice (λ (e : ℕ × OwnRow). (e.1.object, row_of e.1)) (λ x. x.0) (λ e. e.1.object) (λ e. refl) (entries s)))
      (distinct_named (λ (e : ℕ × OwnRow). e.1.object) (entries s) (rows_apart own_row_name s once))

  spans_named : map span_in spans_of ≡ map (λ (e : ℕ × OwnRow). own_span e.1) (entries s)
  spans_named = mapped_twice (λ (e : ℕ × OwnRow). live_span_of e.1) span_in (λ e. own_span e.1) (λ e. refl) (entries s)

  pub spans_are : set.from_list (map span_in spans_of) ≡ live_in s
  spans_are = ap (λ (xs : List Span). set.from_list xs) spans_named

  pub spans_listed_once : AreOnce (map span_in spans_of)
  spans_listed_once = subst AreOnce (sym spans_named) (once_named (λ (e : ℕ × OwnRow). own_span e.1) (entries s) (rows_apart own_span s spans_once))

module _ (old new : Slab OwnRow) (key : ℕ) (row : OwnRow) (once : HasOneKeyEach own_row_name old) where
  pub once_more : finite.get (held_in old) row.object ≡ None → IsInserted old new key row → HasOneKeyEach own_row_name new
  once_more none h = once_inserted own_row_name old new key row once (unheld_nowhere old once row.object none) h

  pub held_more : finite.get (held_in old) row.object ≡ None → IsInserted old new key row → held_in new ≡ finite.insert (held_in old) row.object (own_held row)
  held_more none h = map_inserted nat_cmp_total nat_cmp-IsAntisymmetric own_row_name own_held old new key row (once_more none h) h

  pub live_more : IsInserted old new key row → live_in new ≡ set.insert (live_in old) (own_span row)
  live_more h = set_inserted span_total span_exact own_span old new key row h

  pub once_less : IsRemoved old new key row → HasOneKeyEach own_row_name new
  once_less h = once_removed own_row_name old new key row once h

  pub held_less : IsRemoved old new key row → held_in new ≡ finite.remove (held_in old) row.object
  held_less h = map_removed nat_cmp_total nat_cmp-IsAntisymmetric own_row_name own_held old new key row once h

  pub live_less : IsRemoved old new key row → live_in new ≡ set.remove (live_in old) (own_span row)
  live_less h = set_removed span_total span_exact own_span old new key row (spans_once old once) h
