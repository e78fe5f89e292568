use Rattle.std.proofs.Common.{◌≡◌, length, ◌++◌, ◌∙◌, ap, arith}
use Rattle.gpu_alloc_types.specs.Chains.{chain_append}
use Rattle.gpu_alloc.specs.Release.{AreAllReleased}
use Rattle.gpu_alloc.proofs.Linked.{consistent}
use Rattle.gpu_alloc.proofs.Agreed.{chain_keeps}
use Rattle.gpu_alloc.proofs.BlocksAgreed.{cleanup_keeps_blocks}
use Rattle.gpu_alloc.proofs.Cleanups.{cleaning_goes_on, all_gone, left_is}
use Rattle.gpu_alloc.proofs.GoneBack.{cleanup_goes_back}
use Rattle.gpu_alloc.proofs.InHand.{all_outside, cleanup_in_hand}
use Rattle.gpu_alloc.proofs.Owning.{cleans_leave, none_live}
use Rattle.gpu_alloc_block.specs.State.{HeldObject, State}
use Rattle.std.specs.FinMap as map
use Rattle.std.specs.FinSet as set
use Rattle.std.specs.Ordering.{nat_cmp}
use Rattle.gpu_alloc.proofs.allocator.GpuAllocator.cleanup.Given.{Over}
use Rattle.gpu_alloc.proofs.allocator.GpuAllocator.cleanup.Goals as goal

pub loop-memory_type-preserved : goal.loop-memory_type-preserved
loop-memory_type-preserved g c =
    let way = c.loop-memory_type.invariant in
    let gives = c.clean_type.ensures.gives in (
      way.0 ++ gives.0,
      way.1 ++ gives.1,
      chain_append g.D.ObjectDevice.step way.1 gives.1 _ _ _ way.2 gives.2,
      cleaning_goes_on _ _ _ _ _ _ _ _ c.loop-memory_type.memory_type way.0 gives.0 way.1 gives.1 way.3 gives.3 c.clean_type.ensures.agrees c.clean_type.ensures.total,
    )

-- At the end all of all memory types went that may go.
all_went : (g : Over) (c : goal.After-keeps_sound g) → AreAllReleased c.args.self.now (length c.args.self.now.properties.memory_types) c.loop-memory_type.invariant.0
all_went g c =
    let last : c.loop-memory_type.memory_type ≡ length c.self.inside.limits.memory_types.items =
    omega (arith, c.loop-memory_type.auto.memory_type-end, c.loop-memory_type-test.false, c.len-count.ensures, c.self.inside.limits.memory_types.ok) in
    let all = rw (← c.self.view_is) at c.loop-memory_type.invariant.3.all in
    rw (← c.self.view_is, ← last) all

pub returns-clause-cleaned : goal.returns-clause-cleaned
returns-clause-cleaned g c =
    let way = c.loop-memory_type.invariant in
    (way.1, way.2, (way.0, all_went g c, way.3.lets))

pub returns-clause-objects : goal.returns-clause-objects
returns-clause-objects g c = (c.loop-memory_type.invariant.0, all_went g c, c.loop-memory_type.invariant.3.objects_are)

pub returns-clause-agrees : goal.returns-clause-agrees
returns-clause-agrees g c = c.loop-memory_type.invariant.3.agrees

pub returns-clause-total : goal.returns-clause-total
returns-clause-total g c = c.loop-memory_type.invariant.3.whole

pub returns-clause-ends : goal.returns-clause-ends
returns-clause-ends g c unused =
    let way = c.loop-memory_type.invariant in
    let last : c.loop-memory_type.memory_type ≡ length c.self.inside.limits.memory_types.items =
    omega (arith, c.loop-memory_type.auto.memory_type-end, c.loop-memory_type-test.false, c.len-count.ensures, c.self.inside.limits.memory_types.ok) in
    let never = rw (← c.self.view_is) at unused in
    let all = rw (← c.self.view_is) at way.3.all in
    let lets = rw (← c.self.view_is) at way.3.lets in
    all_gone c.self.inside.limits _ _ _ _ (consistent _ _ _ _ _ _ _ c.self.invariant) never way.0 (rw (← last) all) _ _ lets

pub returns-clause-left : goal.returns-clause-left
returns-clause-left g c object h =
    let way = c.loop-memory_type.invariant in
    let last : c.loop-memory_type.memory_type ≡ length c.self.inside.limits.memory_types.items =
    omega (arith, c.loop-memory_type.auto.memory_type-end, c.loop-memory_type-test.false, c.len-count.ensures, c.self.inside.limits.memory_types.ok) in
    let all = rw (← c.self.view_is) at way.3.all in
    let lets = rw (← c.self.view_is) at way.3.lets in
    rw (← c.self.view_is) (left_is c.self.inside.limits _ _ _ _ (consistent _ _ _ _ _ _ _ c.self.invariant) way.0 (rw (← last) all) _ _ lets object h)

pub returns-clause-leaves : goal.returns-clause-leaves
returns-clause-leaves g c = let cleaned = returns-clause-cleaned g c in cleans_leave c.args.self.now cleaned.0 _ cleaned.2 c.keeps_sound.ensures.sound

pub returns-clause-rest : goal.returns-clause-rest
returns-clause-rest g c =
    let empty = λ (none : set.len c.args.self.now.live ≡ 0). (returns-clause-ends g c (none_live c.args.self.now.live none)).0 in
    record {
      live = ap (λ (s : State). s.live) (returns-clause-cleaned g c).2.2.1;
      held = λ none. ap map.len (empty none) ∙ map.len-empty nat_cmp HeldObject;
      none = empty;
      outside = λ none. all_outside _ (empty none);
    }

pub returns-clause-properties : goal.returns-clause-properties
returns-clause-properties g c = chain_keeps g.D.ObjectDevice.step g.D.ObjectDevice.properties g.met.D.ObjectDevice.keeps_properties _ _ _ c.loop-memory_type.invariant.2

pub returns-clause-keeps : goal.returns-clause-keeps
returns-clause-keeps g c =
    let cleaned = returns-clause-cleaned g c in
    cleanup_keeps_blocks c.args.self.now _ _ _ _ (returns-clause-properties g c) cleaned.0 _ cleaned.2 (returns-clause-objects g c)

pub returns-clause-gone : goal.returns-clause-gone
returns-clause-gone g c =
    let cleaned = returns-clause-cleaned g c in
    cleanup_goes_back g.D.ObjectDevice.step g.D.ObjectDevice.objects c.args.self.now _ _ _ (returns-clause-total g c) cleaned.0 cleaned.1 cleaned.2 (returns-clause-objects g c)

pub returns-clause-in_hand : goal.returns-clause-in_hand
returns-clause-in_hand g c = cleanup_in_hand g.D.ObjectDevice.step g.D.ObjectDevice.objects c.args.self.now _ _ _ (returns-clause-gone g c) _ _ (returns-clause-keeps g c) (returns-clause-leaves g c)
