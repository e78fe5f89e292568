-- A store of chunks by keys and of blocks as rows, as one part of several, as a block or a chunk is added or removed.
use Rattle.std.proofs.Common.{◌≡◌, ◌≢◌, ℕ, List, IsTrue, Some, None, sym, ◌∙◌, ap}
use Rattle.std.proofs.Math.ListN.{set}
use Rattle.std.specs.Cmp.{IsTotalOrder}
use Rattle.std.specs.declared.cmp.Ordering.{Ordering}
use Rattle.std.specs.FinMap as map
use Rattle.std.specs.FinMap.{IsAntisymmetric}
use Rattle.std.specs.FinSet as set_of
use Rattle.gpu_alloc_base.specs.Chunks.{Chunk}
use Rattle.gpu_alloc_block.specs.Parts.{ArePartsApart, Chunks, HaveOwnObjects, IsAt, Makes, Part, by_name, by_span, held_in_parts, live_in_parts}
use Rattle.gpu_alloc_block.specs.State.{HeldObject, Span}
use Rattle.gpu_alloc_block.proofs.Parts.ByName.{fresh_name, name_comes, name_goes, name_there, span_row_comes, span_row_goes, span_row_there}
use Rattle.gpu_alloc_block.proofs.Parts.Steps.{object_comes, object_goes, span_comes, span_goes}
use Rattle.gpu_alloc_block.proofs.Parts.Unions.{none_at}

module _ {K : Type 0} {R : K → K → Ordering} (total : IsTotalOrder R) (exact : IsAntisymmetric R) (span : K → Span) (IsPlace : ℕ → HeldObject → Type 0) (ps : List Part) (apart : ArePartsApart IsPlace ps) (i : ℕ)
    (g : ℕ → Chunk → HeldObject) (chunks : Chunks) (rows : set_of.FinSet R) (named : HaveOwnObjects chunks) (at : IsAt ps i (record { held = by_name g chunks; live = by_span span rows })) where
  abbrev part : Part
  part = record { held = by_name g chunks; live = by_span span rows }

  there : (key : ℕ) (c : Chunk) → map.get chunks key ≡ Some c → map.get part.held c.object ≡ Some (g key c)
  there key c is = name_there g chunks named key c is

  module _ (new : Part) where
    pub row_comes : (k : K) (key : ℕ) (c : Chunk) → map.get chunks key ≡ Some c → (span k).object ≡ c.object → new.held ≡ by_name g chunks → new.live ≡ by_span span (set_of.insert rows k)
        → Makes IsPlace (set ps i new) (held_in_parts ps) (set_of.insert (live_in_parts ps) (span k))
    row_comes k key c is same held live =
        span_comes IsPlace ps apart i part new at (span k) (g key c) (ap (map.get part.held) same ∙ there key c is) held (live ∙ span_row_comes total exact span rows k)

    pub chunk_comes : (k : K) (key : ℕ) (c : Chunk) → map.get (held_in_parts ps) (span k).object ≡ None → (span k).object ≡ c.object → map.get chunks key ≡ None → IsPlace i (g key c)
        → new.held ≡ by_name g (map.insert chunks key c) → new.live ≡ by_span span (set_of.insert rows k)
        → Makes IsPlace (set ps i new) (map.insert (held_in_parts ps) (span k).object (g key c)) (set_of.insert (live_in_parts ps) (span k))
    chunk_comes k key c none same free placed held live =
        let fresh = fresh_name g chunks named (span k).object (none_at ps (span k).object none i part at) in
        let comes = name_comes g chunks named key c free (λ j a is_a same_name. fresh j a is_a (same_name ∙ sym same)) in
        object_comes IsPlace ps apart i part new at (span k) (g key c) none placed (held ∙ comes ∙ ap (λ n. map.insert part.held n (g key c)) (sym same)) (live ∙ span_row_comes total exact span rows k)

    pub chunk_goes : (key : ℕ) (c : Chunk) → map.get chunks key ≡ Some c → ((k : K) → IsTrue (set_of.contains rows k) → (span k).object ≢ c.object)
        → new.held ≡ by_name g (map.remove chunks key) → new.live ≡ by_span span rows → Makes IsPlace (set ps i new) (map.remove (held_in_parts ps) c.object) (live_in_parts ps)
    chunk_goes key c is unused held live =
        object_goes IsPlace ps apart i part new at c.object (g key c) (there key c is)
        (λ q stood same. let row = span_row_there total exact span rows q stood in unused row.0 row.1 (ap (λ (x : Span). x.object) row.2 ∙ same))
        (held ∙ name_goes g chunks named key c is) live

    module _ (once : (a b : K) → IsTrue (set_of.contains rows a) → IsTrue (set_of.contains rows b) → span a ≡ span b → a ≡ b) (k : K) (live_row : IsTrue (set_of.contains rows k)) (key : ℕ) (c : Chunk) (is : map.get chunks key ≡ Some c)
        (same : (span k).object ≡ c.object) (live : new.live ≡ by_span span (set_of.remove rows k)) where
      pub row_goes : new.held ≡ by_name g chunks → Makes IsPlace (set ps i new) (held_in_parts ps) (set_of.remove (live_in_parts ps) (span k))
      row_goes held =
          span_goes IsPlace ps apart i part new at (span k) (g key c) (ap (map.get part.held) same ∙ there key c is) held (live ∙ span_row_goes total exact span rows k once live_row)
