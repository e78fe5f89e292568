use Rattle.std.proofs.Common.{◌≡◌, ◌+◌, ◌<◌, Some, refl, sym, ◌∙◌, ap, subst, arith}
use Rattle.std.specs.FinMap as map
use Rattle.std.specs.FinSet as set
use Rattle.gpu_alloc_base.specs.Chunks.{Chunk}
use Rattle.gpu_alloc_base.specs.Slots.{slot_cmp}
use Rattle.gpu_alloc_base.specs.declared.free_list_block.Slot.{Slot}
use Rattle.gpu_alloc_freelist.specs.FreeList.{IsTail, with_slot}
use Rattle.gpu_alloc_freelist.specs.FreeListInside.{list_space_in}
use Rattle.gpu_alloc_freelist.specs.FreeListState.{ListSpace, ListStore}
use Rattle.gpu_alloc_freelist.proofs.CutBlocks.{cut_taken, cut_counts}
use Rattle.gpu_alloc_freelist.proofs.FreeListGrants.{IsFoundAt, IsTailOf, found_again, found_room, is_tail_of, last_tail, listed, no_place, place_at, refused, some_room, tail_within}
use Rattle.gpu_alloc_freelist.proofs.FreeListReturns.{region_held}
use Rattle.gpu_alloc_freelist.proofs.ListInHand.{same_leaves, slot_leaves, tail_adds}
use Rattle.gpu_alloc_freelist.proofs.WholeRuns.{one_counts, one_is}
use Rattle.gpu_alloc_freelist.proofs.freelist.list.FreeList.get_block.Given.{Over}
use Rattle.gpu_alloc_freelist.proofs.freelist.list.FreeList.get_block.Goals as goal

pub returns-in_default-clause-takes : goal.returns-in_default-clause-takes
returns-in_default-clause-takes g c =
    rw (← c.self.view_is) (no_place _ c.self.inside.runs.regions c.self.invariant.runs c.args.size (c.args.align_mask + 1) (omega arith) c.requires.nonempty c.in_default.ensures.none, refl)

pub returns-in_err-reserve-clause-takes : goal.returns-in_err-reserve-clause-takes
returns-in_err-reserve-clause-takes g c =
    refused _ _ _ _ c.from_residual.result c.from_residual.ensures.0
    (rw (← c.self.view_is) (place_at _ c.self.inside.runs.regions c.self.invariant.runs c.args.size (c.args.align_mask + 1) (omega arith) c.in-Some.index c.in-Some.ensures.some)) c.reserve.ensures.kept

-- what was found is found in the list with more room

pub get-region-requires : goal.get-region-requires
get-region-requires g c =
    let at : IsFoundAt c.self-2.inside.runs.regions c.args.size (c.args.align_mask + 1) c.in-Some.index =
    found_again _ _ c.self-2.inside.runs.regions c.self.inside.runs.regions c.args.size (c.args.align_mask + 1) c.in-Some.index (ap (λ (s : ListStore). s.space) c.self-2.view_is ∙ c.reserve.ensures.kept ∙ ap (λ (s : ListStore). s.space) (sym c.self.view_is)) c.self-2.invariant.runs c.self.invariant.runs c.in-Some.ensures.some
    in
    at.0

pub chunk-requires : goal.chunk-requires
chunk-requires g c =
    let at : IsFoundAt c.self-2.inside.runs.regions c.args.size (c.args.align_mask + 1) c.in-Some.index =
    found_again _ _ c.self-2.inside.runs.regions c.self.inside.runs.regions c.args.size (c.args.align_mask + 1) c.in-Some.index (ap (λ (s : ListStore). s.space) c.self-2.view_is ∙ c.reserve.ensures.kept ∙ ap (λ (s : ListStore). s.space) (sym c.self.view_is)) c.self-2.invariant.runs c.self.invariant.runs c.in-Some.ensures.some
    in
    rw (← c.self-2.view_is) (region_held _ c.self-2.invariant.sound c.self-2.inside.runs.regions c.self-2.invariant.runs c.get-region.result (c.in-Some.index, at.0, sym c.get-region.ensures))

pub returns-in_err-memory-clause-takes : goal.returns-in_err-memory-clause-takes
returns-in_err-memory-clause-takes g c =
    refused _ _ _ _ c.from_residual-in_err-memory.result c.from_residual-in_err-memory.ensures.0
    (rw (← c.self.view_is) (place_at _ c.self.inside.runs.regions c.self.invariant.runs c.args.size (c.args.align_mask + 1) (omega arith) c.in-Some.index c.in-Some.ensures.some)) c.reserve.ensures.kept

pub tail_of-slot-requires-clause-enough : goal.tail_of-slot-requires-clause-enough
tail_of-slot-requires-clause-enough g c =
    let at : IsFoundAt c.self-2.inside.runs.regions c.args.size (c.args.align_mask + 1) c.in-Some.index =
    found_again _ _ c.self-2.inside.runs.regions c.self.inside.runs.regions c.args.size (c.args.align_mask + 1) c.in-Some.index (ap (λ (s : ListStore). s.space) c.self-2.view_is ∙ c.reserve.ensures.kept ∙ ap (λ (s : ListStore). s.space) (sym c.self.view_is)) c.self-2.invariant.runs c.self.invariant.runs c.in-Some.ensures.some
    in
    (found_room c.self-2.inside.runs.regions c.args.size (c.args.align_mask + 1) c.in-Some.index c.get-region.result at c.get-region.ensures).enough

pub overflow_sub-self : goal.overflow_sub-self
overflow_sub-self g c =
    let at : IsFoundAt c.self-2.inside.runs.regions c.args.size (c.args.align_mask + 1) c.in-Some.index =
    found_again _ _ c.self-2.inside.runs.regions c.self.inside.runs.regions c.args.size (c.args.align_mask + 1) c.in-Some.index (ap (λ (s : ListStore). s.space) c.self-2.view_is ∙ c.reserve.ensures.kept ∙ ap (λ (s : ListStore). s.space) (sym c.self.view_is)) c.self-2.invariant.runs c.self.invariant.runs c.in-Some.ensures.some
    in
    let told = one_is c.self-2.inside.chunks.held c.get-region.result c.is_whole.result c.is_whole.ensures in
    let counted = one_counts c.self-2.inside.chunks.held c.self-2.inside.runs.regions c.in-Some.index c.get-region.result at.0 in
    omega (arith, told, rw (← c.get-region.ensures) at counted, c.from.ensures, c.self-2.invariant.whole)

-- the tail goes

pub cut-requires-clause-in_range : goal.cut-requires-clause-in_range
cut-requires-clause-in_range g c =
    let at : IsFoundAt c.self-2.inside.runs.regions c.args.size (c.args.align_mask + 1) c.in-Some.index =
    found_again _ _ c.self-2.inside.runs.regions c.self.inside.runs.regions c.args.size (c.args.align_mask + 1) c.in-Some.index (ap (λ (s : ListStore). s.space) c.self-2.view_is ∙ c.reserve.ensures.kept ∙ ap (λ (s : ListStore). s.space) (sym c.self.view_is)) c.self-2.invariant.runs c.self.invariant.runs c.in-Some.ensures.some
    in
    at.0

pub cut-requires-clause-within : goal.cut-requires-clause-within
cut-requires-clause-within g c =
    let at : IsFoundAt c.self-2.inside.runs.regions c.args.size (c.args.align_mask + 1) c.in-Some.index =
    found_again _ _ c.self-2.inside.runs.regions c.self.inside.runs.regions c.args.size (c.args.align_mask + 1) c.in-Some.index (ap (λ (s : ListStore). s.space) c.self-2.view_is ∙ c.reserve.ensures.kept ∙ ap (λ (s : ListStore). s.space) (sym c.self.view_is)) c.self-2.invariant.runs c.self.invariant.runs c.in-Some.ensures.some
    in
    let tail : IsTailOf c.self-2.inside.runs.regions c.args.size (c.args.align_mask + 1) c.in-Some.index c.get-region.result c.tail_of-slot.result = is_tail_of _ _ _ _ _ _ c.tail_of-slot.result at c.get-region.ensures c.tail_of-slot.ensures in
    tail_within _ _ _ _ _ _ tail c.requires.nonempty

pub keep-key-requires-clause-fresh : goal.keep-key-requires-clause-fresh
keep-key-requires-clause-fresh g c =
    let at : IsFoundAt c.self-2.inside.runs.regions c.args.size (c.args.align_mask + 1) c.in-Some.index =
    found_again _ _ c.self-2.inside.runs.regions c.self.inside.runs.regions c.args.size (c.args.align_mask + 1) c.in-Some.index (ap (λ (s : ListStore). s.space) c.self-2.view_is ∙ c.reserve.ensures.kept ∙ ap (λ (s : ListStore). s.space) (sym c.self.view_is)) c.self-2.invariant.runs c.self.invariant.runs c.in-Some.ensures.some
    in
    let tail : IsTailOf c.self-2.inside.runs.regions c.args.size (c.args.align_mask + 1) c.in-Some.index c.get-region.result c.tail_of-slot.result = is_tail_of _ _ _ _ _ _ c.tail_of-slot.result at c.get-region.ensures c.tail_of-slot.ensures in
    let chunk : Chunk = record { object = g.M.MemoryObject.object c.chunk.result.now.memory; size = c.chunk.result.now.size } in
    let is_held : map.get c.self-2.inside.chunks.held c.get-region.result.chunk ≡ Some chunk = rw (← c.self-2.view_is) at c.chunk.ensures in
    let object : c.tail_of-slot.result.object ≡ chunk.object = ap (λ (s : Slot). s.object) c.tail_of-slot.ensures ∙ c.object.ensures ∙ c.in_ok-memory.ensures in
    (cut_taken c.self-2.inside.chunks.held c.self-2.inside.live.slots c.self-2.inside.latest c.self-2.inside.runs.regions c.cut.new.self.regions c.args.size (c.args.align_mask + 1) c.in-Some.index c.get-region.result c.tail_of-slot.result chunk
    c.self-2.invariant.sound c.self-2.invariant.runs tail c.requires.nonempty is_held object c.cut.ensures.cuts).fresh

pub invariant_of-self : goal.invariant_of-self
invariant_of-self g c =
    let at : IsFoundAt c.self-2.inside.runs.regions c.args.size (c.args.align_mask + 1) c.in-Some.index =
    found_again _ _ c.self-2.inside.runs.regions c.self.inside.runs.regions c.args.size (c.args.align_mask + 1) c.in-Some.index (ap (λ (s : ListStore). s.space) c.self-2.view_is ∙ c.reserve.ensures.kept ∙ ap (λ (s : ListStore). s.space) (sym c.self.view_is)) c.self-2.invariant.runs c.self.invariant.runs c.in-Some.ensures.some
    in
    let tail : IsTailOf c.self-2.inside.runs.regions c.args.size (c.args.align_mask + 1) c.in-Some.index c.get-region.result c.tail_of-slot.result = is_tail_of _ _ _ _ _ _ c.tail_of-slot.result at c.get-region.ensures c.tail_of-slot.ensures in
    let chunk : Chunk = record { object = g.M.MemoryObject.object c.chunk.result.now.memory; size = c.chunk.result.now.size } in
    let is_held : map.get c.self-2.inside.chunks.held c.get-region.result.chunk ≡ Some chunk = rw (← c.self-2.view_is) at c.chunk.ensures in
    let object : c.tail_of-slot.result.object ≡ chunk.object = ap (λ (s : Slot). s.object) c.tail_of-slot.ensures ∙ c.object.ensures ∙ c.in_ok-memory.ensures in
    let took = cut_taken c.self-2.inside.chunks.held c.self-2.inside.live.slots c.self-2.inside.latest c.self-2.inside.runs.regions c.cut.new.self.regions c.args.size (c.args.align_mask + 1) c.in-Some.index c.get-region.result c.tail_of-slot.result chunk
    c.self-2.invariant.sound c.self-2.invariant.runs tail c.requires.nonempty is_held object c.cut.ensures.cuts in
    let counted = cut_counts c.self-2.inside.chunks.held c.self-2.inside.live.slots c.self-2.inside.latest c.self-2.inside.runs.regions c.cut.new.self.regions c.args.size (c.args.align_mask + 1) c.in-Some.index c.get-region.result c.tail_of-slot.result chunk
    c.self-2.invariant.sound c.self-2.invariant.runs tail c.requires.nonempty is_held object c.cut.ensures.cuts in
    let told = one_is c.self-2.inside.chunks.held c.get-region.result c.is_whole.result c.is_whole.ensures in
    let made : 0 < c.reserve.new.self.room = c.in_ok-reserve.ensures.room in
    let some = some_room _ _ _ (subst (λ (s : ListStore). 0 < s.room) (sym c.self-2.view_is) made) in
    listed c.self-2.inside.chunks.held c.self-2.inside.latest c.self-2.inside.live.slots c.keep-key.new.self.slots c.cut.new.self.regions c.tail_of-slot.result _ _ _ c.keep-key.ensures.slots took
    (omega (arith, some.1.1, c.cut.ensures.room, c.keep-key.ensures.count))
    (omega (arith, counted, told, c.from.ensures, c.self-2.invariant.whole))

took : (g : Over) (c : goal.After-new g) → IsTail c.args.self.now.space c.args.size (c.args.align_mask + 1) c.tail_of-slot.result × (list_space_in c.self-2.inside.chunks.held c.keep-key.new.self.slots c.self-2.inside.latest ≡ with_slot c.args.self.now.space c.tail_of-slot.result)
took g c =
    let at : IsFoundAt c.self-2.inside.runs.regions c.args.size (c.args.align_mask + 1) c.in-Some.index =
    found_again _ _ c.self-2.inside.runs.regions c.self.inside.runs.regions c.args.size (c.args.align_mask + 1) c.in-Some.index (ap (λ (s : ListStore). s.space) c.self-2.view_is ∙ c.reserve.ensures.kept ∙ ap (λ (s : ListStore). s.space) (sym c.self.view_is)) c.self-2.invariant.runs c.self.invariant.runs c.in-Some.ensures.some
    in
    let tail : IsTailOf c.self-2.inside.runs.regions c.args.size (c.args.align_mask + 1) c.in-Some.index c.get-region.result c.tail_of-slot.result = is_tail_of _ _ _ _ _ _ c.tail_of-slot.result at c.get-region.ensures c.tail_of-slot.ensures in
    let chunk : Chunk = record { object = g.M.MemoryObject.object c.chunk.result.now.memory; size = c.chunk.result.now.size } in
    let is_held : map.get c.self-2.inside.chunks.held c.get-region.result.chunk ≡ Some chunk = rw (← c.self-2.view_is) at c.chunk.ensures in
    let object : c.tail_of-slot.result.object ≡ chunk.object = ap (λ (s : Slot). s.object) c.tail_of-slot.ensures ∙ c.object.ensures ∙ c.in_ok-memory.ensures in
    let before : ListSpace = list_space_in c.self-2.inside.chunks.held c.self-2.inside.live.slots c.self-2.inside.latest in
    let before_is : before ≡ c.args.self.now.space = ap (λ (s : ListStore). s.space) c.self-2.view_is ∙ c.reserve.ensures.kept in (
      subst (λ s. IsTail s c.args.size (c.args.align_mask + 1) c.tail_of-slot.result) before_is (last_tail _ _ _ _ _ _ tail before c.self-2.invariant.runs chunk is_held object),
      ap (λ (l : set.FinSet slot_cmp). list_space_in c.self-2.inside.chunks.held l c.self-2.inside.latest) c.keep-key.ensures.slots ∙ ap (λ s. with_slot s c.tail_of-slot.result) before_is,
    )

pub returns-clause-takes : goal.returns-clause-takes
returns-clause-takes g c = rw (c.new.ensures) (took g c)

-- it is another block than each that was live

pub returns-clause-added : goal.returns-clause-added
returns-clause-added g c =
    rw (c.new.ensures) (tail_adds c.args.self.now.space _ c.args.size (c.args.align_mask + 1) c.tail_of-slot.result c.requires.nonempty (took g c).0 (took g c).1)

-- and those are live still

pub returns-clause-leaves : goal.returns-clause-leaves
returns-clause-leaves g c = slot_leaves c.args.self.now.space _ c.tail_of-slot.result (took g c).1

pub returns-in_default-clause-leaves : goal.returns-in_default-clause-leaves
returns-in_default-clause-leaves g c = same_leaves c.args.self.now.space c.args.self.now.space refl

pub returns-in_err-reserve-clause-leaves : goal.returns-in_err-reserve-clause-leaves
returns-in_err-reserve-clause-leaves g c = same_leaves c.args.self.now.space _ c.reserve.ensures.kept

pub returns-in_err-memory-clause-leaves : goal.returns-in_err-memory-clause-leaves
returns-in_err-memory-clause-leaves g c = same_leaves c.args.self.now.space _ c.reserve.ensures.kept

pub returns-clause-sound : goal.returns-clause-sound
returns-clause-sound g c = (invariant_of-self g c).sound
