use Rattle.std.proofs.Common.{refl, sym, ◌∙◌, ap, subst, arith}
use Rattle.gpu_alloc_base.specs.Accounts.{HeldChunks}
use Rattle.gpu_alloc_base.specs.declared.region.FreeListRegion.{FreeListRegion}
use Rattle.gpu_alloc_freelist.specs.Chunks.{IsWholeChunk, chunk_of}
use Rattle.gpu_alloc_freelist.specs.FreeList.{IsFirstToGo}
use Rattle.gpu_alloc_freelist.specs.FreeListInside.{IsFirstWhole, list_space_in}
use Rattle.gpu_alloc_freelist.proofs.FreeListReturns.{region_held, none_to_go, first_to_go, stores_less}
use Rattle.gpu_alloc_freelist.proofs.ListInHand.{none_held, one_fewer}
use Rattle.gpu_alloc_freelist.proofs.freelist.list.FreeList.take_whole.Goals as goal

pub returns-then-keeps_all-clause-none : goal.returns-then-keeps_all-clause-none
returns-then-keeps_all-clause-none g c = (c.keeps_all.ensures c.if-keeps_all.true, refl)

pub returns-then-keeps_all-clause-rest : goal.returns-then-keeps_all-clause-rest
returns-then-keeps_all-clause-rest g c = none_held c.args.self.now.space c.args.keep_last (returns-then-keeps_all-clause-none g c).0

pub first_whole-requires : goal.first_whole-requires
first_whole-requires g c = record { held = rw (c.as_slice.ensures) (region_held _ c.self.invariant.sound c.self.inside.runs.regions c.self.invariant.runs) }

pub returns-in_err-index-clause-none : goal.returns-in_err-index-clause-none
returns-in_err-index-clause-none g c =
    let none = rw (c.as_slice.ensures) at c.in_err-index.ensures.none in
    rw (c.from_residual.ensures, ← c.self.view_is) (none_to_go _ c.self.invariant.sound c.self.inside.runs.regions c.self.invariant.runs c.args.keep_last none, refl)

pub returns-in_err-index-clause-rest : goal.returns-in_err-index-clause-rest
returns-in_err-index-clause-rest g c =
    let none = rw (c.from_residual.ensures) at (returns-in_err-index-clause-none g c) in
    rw (c.from_residual.ensures) (none_held c.args.self.now.space c.args.keep_last none.0)

pub remove-region-requires : goal.remove-region-requires
remove-region-requires g c = let first = rw (c.as_slice.ensures) at (c.in_ok-index.ensures.some (record { chunk = 0; start = 0; end = 0 })) in first.taken.within

-- the run that was found is a whole chunk

pub remove-number-requires : goal.remove-number-requires
remove-number-requires g c =
    let first : IsFirstWhole c.self.inside.chunks.held c.self.inside.runs.regions c.args.keep_last c.remove-region.result c.in_ok-index.index = rw (c.as_slice.ensures) at (c.in_ok-index.ensures.some c.remove-region.result) in
    rw ((subst (IsWholeChunk c.self.inside.chunks.held) (sym c.remove-region.ensures.value) first.taken.whole).is) refl

pub invariant_of-self : goal.invariant_of-self
invariant_of-self g c =
    let first : IsFirstWhole c.self.inside.chunks.held c.self.inside.runs.regions c.args.keep_last c.remove-region.result c.in_ok-index.index = rw (c.as_slice.ensures) at (c.in_ok-index.ensures.some c.remove-region.result) in
    let l = stores_less c.self.inside.chunks.held c.remove-number.new.self.held c.self.inside.live.slots c.self.inside.latest c.self.inside.runs.regions c.remove-region.new.self.regions c.args.keep_last c.in_ok-index.index c.remove-region.result
    c.self.invariant.sound c.self.invariant.runs first c.remove-region.ensures.value c.remove-number.ensures.held c.remove-region.ensures.regions
    in
    record {
      sound = l.sound;
      runs = l.runs;
      room = omega (arith, c.self.invariant.room, c.remove-region.ensures.room);
      whole = omega (arith, l.fewer, c.self.invariant.whole);
    }

pub returns-clause-first : goal.returns-clause-first
returns-clause-first g c =
    let first : IsFirstWhole c.self.inside.chunks.held c.self.inside.runs.regions c.args.keep_last c.remove-region.result c.in_ok-index.index = rw (c.as_slice.ensures) at (c.in_ok-index.ensures.some c.remove-region.result) in
    let same = ap (λ (q : FreeListRegion). q.chunk) (sym c.remove-region.ensures.value) ∙ sym c.remove-number.ensures.number in
    rw (← c.self.view_is) (subst (IsFirstToGo _ c.args.keep_last) same (first_to_go _ c.self.invariant.sound c.self.inside.runs.regions c.self.invariant.runs c.args.keep_last c.in_ok-index.index c.remove-region.result first))

pub returns-clause-fewer : goal.returns-clause-fewer
returns-clause-fewer g c =
    rw (← c.self.view_is)
    (one_fewer (list_space_in c.self.inside.chunks.held c.self.inside.live.slots c.self.inside.latest) (list_space_in c.remove-number.new.self.held c.self.inside.live.slots c.self.inside.latest) c.remove-region.result.chunk
    (chunk_of g.M.MemoryObject.object c.remove-number.result) c.remove-number.ensures.chunk (ap (λ (held : HeldChunks). list_space_in held c.self.inside.live.slots c.self.inside.latest) c.remove-number.ensures.held))

pub returns-clause-sound : goal.returns-clause-sound
returns-clause-sound g c = (invariant_of-self g c).sound
