use Rattle.std.proofs.Common.{◌+◌, ◌<◌, length, sym, ◌∙◌, ap, subst, arith}
use Rattle.std.proofs.lemmas.List.Sums.{count_by-le-length}
use Rattle.std.specs.FinSet as set
use Rattle.gpu_alloc_base.specs.Slots.{region_of, slot_cmp}
use Rattle.gpu_alloc_freelist.specs.FreeListInside.{list_space_in}
use Rattle.gpu_alloc_freelist.specs.FreeListState.{IsFreeIn, IsLiveSlot}
use Rattle.gpu_alloc_freelist.specs.Runs.{AreFewComparisons}
use Rattle.gpu_alloc_freelist.specs.Wholes.{is_whole}
use Rattle.gpu_alloc_freelist.proofs.FreeListGrants.{one_list}
use Rattle.gpu_alloc_freelist.proofs.FreeListReturns.{listed_without_slot, runs_beside_slot}
use Rattle.gpu_alloc_freelist.proofs.ListInHand.{slot_removes}
use Rattle.gpu_alloc_freelist.proofs.RunsKept.{beside_apart, put_back_runs}
use Rattle.gpu_alloc_freelist.proofs.WholeRuns.{one_is, wholes_back}
use Rattle.gpu_alloc_freelist.proofs.freelist.list.FreeList.insert_block.Goals as goal

pub put_back-joint-requires-clause-apart : goal.put_back-joint-requires-clause-apart
put_back-joint-requires-clause-apart g c =
    let s = list_space_in c.self.inside.chunks.held c.self.inside.live.slots c.self.inside.latest in
    let live : IsLiveSlot s c.args.block = rw (← c.self.view_is) at c.requires in
    beside_apart _ c.self.inside.runs.regions (region_of c.args.block) (runs_beside_slot s c.self.invariant.sound c.args.block live c.self.inside.runs.regions c.self.invariant.runs)
    (omega (arith, (c.self.invariant.sound.inside c.args.block live).nonempty))

pub overflow_add-self : goal.overflow_add-self
overflow_add-self g c =
    let s = list_space_in c.self.inside.chunks.held c.self.inside.live.slots c.self.inside.latest in
    let live : IsLiveSlot s c.args.block = rw (← c.self.view_is) at c.requires in
    let lies = c.self.invariant.sound.inside c.args.block live in
    let counted = wholes_back c.self.inside.chunks.held c.self.inside.runs.regions (region_of c.args.block) c.put_back-joint.result c.put_back-joint.new.self.regions lies.chunk lies.held (omega (arith, lies.nonempty)) lies.inside c.put_back-joint.ensures.joined in
    let told = one_is c.self.inside.chunks.held c.put_back-joint.result c.is_whole.result c.is_whole.ensures in
    omega (arith, counted, told, c.from.ensures, c.self.invariant.whole, c.put_back-joint.ensures.bounded, count_by-le-length (is_whole c.self.inside.chunks.held) c.put_back-joint.new.self.regions)

pub invariant_of-self : goal.invariant_of-self
invariant_of-self g c =
    let s = list_space_in c.self.inside.chunks.held c.self.inside.live.slots c.self.inside.latest in
    let live : IsLiveSlot s c.args.block = rw (← c.self.view_is) at c.requires in
    let lies = c.self.invariant.sound.inside c.args.block live in
    let some : c.args.block.offset < c.args.block.offset + c.args.block.size = omega (arith, lies.nonempty) in
    let counted = wholes_back c.self.inside.chunks.held c.self.inside.runs.regions (region_of c.args.block) c.put_back-joint.result c.put_back-joint.new.self.regions lies.chunk lies.held some lies.inside c.put_back-joint.ensures.joined in
    let told = one_is c.self.inside.chunks.held c.put_back-joint.result c.is_whole.result c.is_whole.ensures in
    listed_without_slot c.self.inside.chunks.held c.self.inside.live.slots c.forget.new.self.slots c.self.inside.latest c.self.inside.runs.regions c.put_back-joint.new.self.regions c.forget.new.self.count c.put_back-joint.new.self.room _ c.args.block
    c.self.invariant.sound c.self.invariant.runs live (c.forget.ensures.slots ∙ ap (set.remove c.self.inside.live.slots) c.slot_of.ensures)
    (λ F beside. put_back_runs F c.self.inside.runs.regions (region_of c.args.block) c.put_back-joint.result c.put_back-joint.new.self.regions beside some c.put_back-joint.ensures.joined)
    (omega (arith, c.self.invariant.room, c.forget.ensures.count, c.put_back-joint.ensures.one_more, c.put_back-joint.ensures.capacity))
    (omega (arith, counted, told, c.from.ensures, c.self.invariant.whole))

pub returns-clause-sound : goal.returns-clause-sound
returns-clause-sound g c = (invariant_of-self g c).sound

pub returns-clause-few : goal.returns-clause-few
returns-clause-few g c =
    rw (← c.self.view_is) (λ list are rising.
    let same = one_list (IsFreeIn (list_space_in c.self.inside.chunks.held c.self.inside.live.slots c.self.inside.latest)) list c.self.inside.runs.regions are rising c.self.invariant.runs in
    subst (λ n. AreFewComparisons n c.args.steps.now c.put_back-joint.new.steps) (sym (ap length same)) c.put_back-joint.ensures.few)

pub returns-clause-removed : goal.returns-clause-removed
returns-clause-removed g c =
    let s = list_space_in c.self.inside.chunks.held c.self.inside.live.slots c.self.inside.latest in
    let live : IsLiveSlot s c.args.block = rw (← c.self.view_is) at c.requires in
    rw (← c.self.view_is) (slot_removes s _ c.args.block live (ap (λ (l : set.FinSet slot_cmp). list_space_in c.self.inside.chunks.held l c.self.inside.latest) (c.forget.ensures.slots ∙ ap (set.remove c.self.inside.live.slots) c.slot_of.ensures)))
