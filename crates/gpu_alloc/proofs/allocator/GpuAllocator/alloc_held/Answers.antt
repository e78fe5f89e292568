use Rattle.std.proofs.Common.{◌≡◌, None, Contains, Ok, IfOk, ap, subst, sym}
use Rattle.gpu_alloc_block.specs.Agreement.{BlockAgrees}
use Rattle.gpu_alloc.specs.Allocation.{IsCandidate, IsGranted, Plan}
use Rattle.gpu_alloc.specs.HeldOnly.{AllocatesHeld, plan_held}
use Rattle.gpu_alloc.specs.Owned.{Adds}
use Rattle.gpu_alloc.proofs.Agreed.{allocates_agrees}
use Rattle.gpu_alloc.proofs.BlocksAgreed.{allocates_agrees_block, allocation_keeps_blocks}
use Rattle.gpu_alloc.proofs.Decisions.{allocates_kept}
use Rattle.gpu_alloc.proofs.HeldGrants.{IsPlanned, block_of, exact_held, granted_block, held_stays, if_served, is_plan_held, nowhere, objects_of_block, paged_block, planned, shared_block}
use Rattle.gpu_alloc.proofs.HeldOnly.{IsHeldAnswer, held_answer, no_place_then, none_served, refused_stays}
use Rattle.gpu_alloc.proofs.InHand.{adds_in_hand, allocation_in_hand}
use Rattle.gpu_alloc.proofs.Owning.{allocates_add, allocates_leave}
use Rattle.gpu_alloc.proofs.allocator.GpuAllocator.alloc_held.Given.{Over}
use Rattle.gpu_alloc.proofs.allocator.GpuAllocator.alloc_held.Goals as goal

abbrev tried : (g : Over) → goal.After-keeps_sound-2 g → Plan
tried g c = plan_held c.args.self.now c.args.request c.args.dedicated c.args.granularity

is : (g : Over) (c : goal.After-keeps_sound-2 g) → IsHeldAnswer c.args.self.now (tried g c) c.allocate_held-answer.result c.allocate_held-answer.new.self
is g c = held_answer c.args.self.now (tried g c) _ _ c.allocate_held-answer.ensures.decided

-- as a request is decided
as_one : (g : Over) (c : goal.After-keeps_sound-2 g) → IsPlanned c.args.self.now (tried g c) c.allocate_held-answer.result c.allocate_held-answer.new.self
as_one g c = planned c.args.self.now (tried g c) _ _ (is g c)

granted : (g : Over) (c : goal.After-keeps_sound-2 g) → IfOk (block_of c.allocate_held-answer.result) (IsGranted c.args.self.now c.args.request c.allocate_held-answer.new.self)
granted g c = granted_block c.args.self.now c.args.request c.keeps_sound.ensures.sound c.keeps_sound.ensures.atoms (tried g c) (is_plan_held c.args.self.now c.args.request c.args.dedicated c.args.granularity c.requires.granularity c.requires.askable) _ _ (is g c)

added : (g : Over) (c : goal.After-keeps_sound-2 g) → IfOk (block_of c.allocate_held-answer.result) (Adds c.args.self.now c.allocate_held-answer.new.self)
added g c = allocates_add c.args.self.now (as_one g c).0 _ c.args.request c.keeps_sound.ensures.sound _ _ c.keeps_sound-2.ensures.sound (as_one g c).1 (granted g c)

properties : (g : Over) (c : goal.After-keeps_sound-2 g) → g.D.ObjectDevice.properties c.allocate_held-answer.new.device ≡ g.D.ObjectDevice.properties c.args.device.now
properties g c = ap g.D.ObjectDevice.properties c.allocate_held-answer.ensures.unasked

pub returns-clause-agrees : goal.returns-clause-agrees
returns-clause-agrees g c =
    allocates_agrees c.args.self.now _ _ _ c.requires.agrees _ (as_one g c).0 _ (block_of c.allocate_held-answer.result) _ (properties g c) (as_one g c).1 (objects_of_block c.args.self.now _ _ _ _ c.allocate_held-answer.ensures.objects)

ready : (g : Over) (c : goal.After-keeps_sound-2 g)
    → IfOk (block_of c.allocate_held-answer.result) (λ b. BlockAgrees b (g.D.ObjectDevice.properties c.allocate_held-answer.new.device) (g.D.ObjectDevice.objects c.allocate_held-answer.new.device))
ready g c =
    allocates_agrees_block c.args.self.now c.args.request (as_one g c).0 _ _ _ _ (block_of c.allocate_held-answer.result) _ c.keeps_sound-2.ensures.sound (returns-clause-agrees g c) (as_one g c).1 (granted g c) (objects_of_block c.args.self.now _ _ _ _ c.allocate_held-answer.ensures.objects)

pub returns-clause-held : goal.returns-clause-held
returns-clause-held g c = (held_stays c.args.self.now (tried g c) _ _ (is g c)).0

pub returns-clause-remaining : goal.returns-clause-remaining
returns-clause-remaining g c = (held_stays c.args.self.now (tried g c) _ _ (is g c)).1

pub returns-clause-granted : goal.returns-clause-granted
returns-clause-granted g c = if_served _ c.allocate_held-answer.result (granted g c)

pub returns-clause-shared : goal.returns-clause-shared
returns-clause-shared g c = shared_block c.args.self.now (tried g c) _ _ (is g c)

pub returns-clause-pages : goal.returns-clause-pages
returns-clause-pages g c =
    paged_block c.args.self.now c.args.request c.keeps_sound.ensures.sound c.keeps_sound.ensures.atoms c.args.dedicated c.args.granularity c.requires.granularity c.requires.askable _ _ (is g c)

pub returns-clause-exact : goal.returns-clause-exact
returns-clause-exact g c =
    exact_held c.args.self.now c.args.request c.args.dedicated c.args.granularity c.requires.granularity c.requires.askable _ _ (is g c)

pub returns-clause-ready : goal.returns-clause-ready
returns-clause-ready g c = if_served _ c.allocate_held-answer.result (ready g c)

pub returns-clause-added : goal.returns-clause-added
returns-clause-added g c = if_served _ c.allocate_held-answer.result (added g c)

pub returns-clause-leaves : goal.returns-clause-leaves
returns-clause-leaves g c = allocates_leave c.args.self.now (as_one g c).0 _ _ _ (as_one g c).1

pub returns-clause-keeps : goal.returns-clause-keeps
returns-clause-keeps g c = allocation_keeps_blocks c.args.self.now _ _ _ _ (properties g c) (block_of c.allocate_held-answer.result) _ (objects_of_block c.args.self.now _ _ _ _ c.allocate_held-answer.ensures.objects)

pub returns-clause-in_hand : goal.returns-clause-in_hand
returns-clause-in_hand g c =
    allocation_in_hand c.args.self.now _ _ c.requires.agrees _ _ _ (block_of c.allocate_held-answer.result) (allocates_kept c.args.self.now (as_one g c).0 _ _ _ (as_one g c).1) (returns-clause-leaves g c) (returns-clause-keeps g c) (added g c)
    (objects_of_block c.args.self.now _ _ _ _ c.allocate_held-answer.ensures.objects)

pub returns-clause-joins : goal.returns-clause-joins
returns-clause-joins g c =
    if_served _ c.allocate_held-answer.result (adds_in_hand c.args.self.now _ _ _ _ _ c.args.request (block_of c.allocate_held-answer.result) (returns-clause-in_hand g c) (granted g c) (ready g c) (added g c))

pub returns-clause-no_place : goal.returns-clause-no_place
unfolding IsCandidate
returns-clause-no_place g c = λ would t there.
    let asks : AllocatesHeld c.args.self.now (tried g c) (Ok None) c.allocate_held-answer.new.self = subst (λ v. AllocatesHeld c.args.self.now (tried g c) v c.allocate_held-answer.new.self) would c.allocate_held-answer.ensures.decided in
    let for = is_plan_held c.args.self.now c.args.request c.args.dedicated c.args.granularity c.requires.granularity c.requires.askable in
    no_place_then c.args.self.now (tried g c) _ asks t (subst (λ ts. Contains ts t) (sym for.candidates) there)

pub returns-clause-refused : goal.returns-clause-refused
returns-clause-refused g c = refused_stays c.args.self.now (tried g c) _ _ (is g c)

pub returns-clause-would_ask : goal.returns-clause-would_ask
returns-clause-would_ask g c = λ would. subst (λ v. IsHeldAnswer c.args.self.now (tried g c) v c.allocate_held-answer.new.self) would (is g c)

pub returns-clause-required : goal.returns-clause-required
returns-clause-required g c = λ required. none_served c.args.self.now (tried g c) _ _ (nowhere c.args.self.now c.args.request c.args.dedicated c.args.granularity required) (is g c)
