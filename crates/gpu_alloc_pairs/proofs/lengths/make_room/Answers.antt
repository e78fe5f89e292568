use Rattle.std.proofs.Common.{◌<◌, length, length-set, ◌∙◌, ap, arith}
use Rattle.slab.specs.Slab.{Slab, HasRoomFor}
use Rattle.gpu_alloc_pairs.specs.Entry.{Entry}
use Rattle.gpu_alloc_pairs.proofs.Slots.{same_slots_set, one_more_room}
use Rattle.gpu_alloc_pairs.proofs.lengths.make_room.Goals as goal

pub returns-in_err-reserve-clause-kept : goal.returns-in_err-reserve-clause-kept
returns-in_err-reserve-clause-kept g c =
    let in_range : c.loop-n.n < length c.loop-n.lengths.items = omega (arith, c.loop-n.invariant.count, c.requires.in_range) in
    same_slots_set c.loop-n.lengths.items c.loop-n.n c.index_mut.result.now c.reserve.new.self in_range c.index_mut.ensures.value (ap (λ (s : Slab Entry). s.slots) c.reserve.ensures.kept) ∙ c.loop-n.invariant.kept

pub loop-n-preserved : goal.loop-n-preserved
loop-n-preserved g c =
    let in_range : c.loop-n.n < length c.loop-n.lengths.items = omega (arith, c.loop-n.invariant.count, c.requires.in_range) in
    let room : HasRoomFor c.reserve.new.self 1 = c.in_ok-reserve.ensures.room in
    record {
      kept = same_slots_set c.loop-n.lengths.items c.loop-n.n c.index_mut.result.now c.reserve.new.self in_range c.index_mut.ensures.value (ap (λ (s : Slab Entry). s.slots) c.reserve.ensures.kept) ∙ c.loop-n.invariant.kept;
      count = length-set c.loop-n.lengths.items c.loop-n.n c.reserve.new.self ∙ c.loop-n.invariant.count;
      rooms = one_more_room c.loop-n.lengths.items c.loop-n.n c.index_mut.result.now c.reserve.new.self in_range c.index_mut.ensures.value c.args.low c.loop-n.invariant.rooms room;
    }
