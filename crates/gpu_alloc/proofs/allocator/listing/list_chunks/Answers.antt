use Rattle.std.proofs.Common.{◌++◌, ◌∷◌, ◌∙◌, ℕ, ap, sym, map}
use Rattle.std.proofs.lemmas.List.{append_assoc}
use Rattle.slab.proofs.SlabLemmas.{Contains-cons}
use Rattle.gpu_alloc_base.proofs.Lists.{contains_head}
use Rattle.gpu_alloc.specs.declared.spans.HeldRow.{HeldRow}
use Rattle.gpu_alloc.proofs.Tables.Listed.{pushed_all}
use Rattle.gpu_alloc.proofs.allocator.listing.list_chunks.Goals as goal

pub entry-requires : goal.entry-requires
entry-requires g c = c.requires (c.in-Some.field-0-0, c.in-Some.chunk.now) (rw c.into_iter-chunk-iterator.ensures.into_iter_gives at (c.loop-chunk.invariant.3 (c.in-Some.field-0-0, c.in-Some.chunk.now) (rw c.in-Some.ensures.steps (contains_head _ _))))

pub loop-chunk-preserved : goal.loop-chunk-preserved
loop-chunk-preserved g c =
    let row : (ℕ × g.row.C.Denot) → ℕ × HeldRow = λ e. g.C.ListedChunk.listed e.1 c.args.memory_type in (
      tt,
      tt,
      ap (λ xs. xs ++ map row c.next.new.self) c.in_ok-push.ensures.items ∙ append_assoc c.loop-chunk.rows.items _ (map row c.next.new.self) ∙ (λ i. c.loop-chunk.rows.items ++ c.entry.ensures i ∷ map row c.next.new.self)
          ∙ ap (λ es. c.loop-chunk.rows.items ++ map row es) (sym c.in-Some.ensures.steps) ∙ c.loop-chunk.invariant.2,
      λ e has. c.loop-chunk.invariant.3 e (rw c.in-Some.ensures.steps (Contains-cons _ _ _ has)),
    )

pub returns : goal.returns
returns g c =
    let row : (ℕ × g.row.C.Denot) → ℕ × HeldRow = λ e. g.C.ListedChunk.listed e.1 c.args.memory_type in
    pushed_all row c.args.rows.now.items c.loop-chunk.rows.items c.args.chunks c.loop-chunk.chunk-iterator c.in-None.ensures.steps.0
    (c.loop-chunk.invariant.2 ∙ ap (λ es. c.args.rows.now.items ++ map row es) c.into_iter-chunk-iterator.ensures.into_iter_gives)
