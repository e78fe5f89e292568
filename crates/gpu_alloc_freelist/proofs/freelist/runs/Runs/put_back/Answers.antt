-- A block that comes back is joined with the runs that it touches.
use Rattle.std.proofs.Common.{arith}
use Rattle.gpu_alloc_base.specs.Slots.{region_of}
use Rattle.gpu_alloc_freelist.specs.Runs.{PutsBack}
use Rattle.gpu_alloc_freelist.proofs.RunLists.{joint_order, joint_two, joint_within}
use Rattle.gpu_alloc_freelist.proofs.RunsKept.{put_back_sorted, put_back_length}
use Rattle.gpu_alloc_freelist.proofs.freelist.runs.Runs.put_back.Given.{Over}
use Rattle.gpu_alloc_freelist.proofs.freelist.runs.Runs.put_back.Goals as goal

pub splice-requires-clause-within : goal.splice-requires-clause-within
splice-requires-clause-within g c =
    let x = region_of c.args.block.now in
    let at = rw c.as_slice.ensures.value at c.place_of-place.ensures.place in
    let joint = rw (c.as_slice-2.ensures.value, c.slot_of.ensures) at (c.join-joint.ensures x) in
    let ends = joint_within c.self.inside.regions.items _ x x _ _ _ joint at.within in
    (joint_order c.self.inside.regions.items _ x x _ _ _ joint at.within, omega (arith, ends, c.self.inside.regions.ok.0))

pub splice-requires-clause-two : goal.splice-requires-clause-two
splice-requires-clause-two g c =
    let x = region_of c.args.block.now in
    let at = rw c.as_slice.ensures.value at c.place_of-place.ensures.place in
    let joint = rw (c.as_slice-2.ensures.value, c.slot_of.ensures) at (c.join-joint.ensures x) in
    joint_two c.self.inside.regions.items _ x x _ _ _ joint at.within

puts_back : (g : Over) (c : goal.After-result-1 g) → PutsBack c.self.inside.regions.items (region_of c.args.block.now) c.join-joint.result.region c.splice.new.regions.items
puts_back g c = record {
  place = c.place_of-place.result;
  from = c.join-joint.result.from;
  to = c.join-joint.result.to;
  at = rw c.as_slice.ensures.value at c.place_of-place.ensures.place;
  joined = λ d. rw (c.as_slice-2.ensures.value, c.slot_of.ensures) at (c.join-joint.ensures d);
  is = c.splice.ensures.items;
}

pub invariant_of-self : goal.invariant_of-self
invariant_of-self g c =
    put_back_sorted c.self.inside.regions.items c.self.invariant (region_of c.args.block.now) c.join-joint.result.region c.splice.new.regions.items
    (rw (← c.self.view_is) at c.requires.apart) (omega (arith, c.requires.nonempty)) (puts_back g c)

pub returns-clause-joined : goal.returns-clause-joined
returns-clause-joined g c = rw (← c.self.view_is) (puts_back g c)

pub returns-clause-one_more : goal.returns-clause-one_more
returns-clause-one_more g c =
    rw (← c.self.view_is) (put_back_length c.self.inside.regions.items (region_of c.args.block.now) c.join-joint.result.region c.splice.new.regions.items (puts_back g c))
