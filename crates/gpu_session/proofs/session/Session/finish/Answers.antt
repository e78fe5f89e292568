use Rattle.std.proofs.Common.{◌≡◌, false, true, refl, ◌∙◌, ap, map as map_list}
use Rattle.std.specs.Ordering.{nat_cmp}
use Rattle.std.specs.FinMap as map
use Rattle.gpu_alloc.specs.State.{HeldObject}
use Rattle.gpu_alloc_types.specs.Device.Event.{Deallocated}
use Rattle.gpu_alloc_base.proofs.Names.{here, get_last, removed_by_name, none_to_take}
use Rattle.gpu_session.specs.Sound.{IsBlock}
use Rattle.gpu_session.proofs.Finished.{none_returned, more_returned, all_returned, all_absent}
use Rattle.gpu_session.proofs.Returns.{Returns, nothing_live, return_is_sound, return_keeps_properties}
use Rattle.gpu_session.proofs.session.Session.finish.Goals as goal

pub loop-block-init : goal.loop-block-init
loop-block-init g c =
    rw (← c.self.view_is)
    (record {
      sound = c.self.invariant.sound;
      returned = none_returned g.D.MemoryDevice.step g.D.MemoryDevice.objects c.self.inside.allocator c.self.inside.device;
      properties = refl;
    })

pub loop-block-preserved : goal.loop-block-preserved
loop-block-preserved g c =
    let i = c.loop-block.invariant in
    let at = get_last _ _ c.in-Some.field-0-0 c.in-Some.block c.in-Some.ensures.entries c.in-Some.ensures.updates.1 in
    let r : Returns c.loop-block.allocator (map.from_entries {R = nat_cmp} c.loop-block.blocks.entries) c.in-Some.field-0-0 c.in-Some.block c.dealloc.new.self
    (g.D.MemoryDevice.properties c.loop-block.device) (g.D.MemoryDevice.objects c.loop-block.device) (g.D.MemoryDevice.properties c.dealloc.new.device) (g.D.MemoryDevice.objects c.dealloc.new.device) =
    record { named = at; removes = c.dealloc.ensures.removed; keeps = c.dealloc.ensures.keeps; sound = c.dealloc.ensures.sound; agrees = c.dealloc.ensures.agrees } in
    rw (removed_by_name c.loop-block.blocks.entries c.pop.new.self.entries c.in-Some.field-0-0 c.in-Some.ensures.updates.0)
    (record {
      sound = return_is_sound r i.sound;
      returned = more_returned i.returned c.dealloc.ensures.gone;
      properties = return_keeps_properties r i.sound ∙ i.properties;
    })

pub dealloc-requires-clause-owned : goal.dealloc-requires-clause-owned
dealloc-requires-clause-owned g c =
    let at = get_last _ _ c.in-Some.field-0-0 c.in-Some.block c.in-Some.ensures.entries c.in-Some.ensures.updates.1 in
    (here _ (IsBlock _ c.loop-block.allocator (g.D.MemoryDevice.objects c.loop-block.device)) (c.loop-block.invariant.sound.blocks c.in-Some.field-0-0) c.in-Some.block at).owned

pub destroy_empty-requires : goal.destroy_empty-requires
destroy_empty-requires g c =
    (none_to_take _ _ (λ some. let n : false ≡ true = c.in_default.ensures.found.1 some in cc) c.in_default.ensures.entries).1

pub close-requires : goal.close-requires
close-requires g c =
    let none = (none_to_take _ _ (λ some. let n : false ≡ true = c.in_default.ensures.found.1 some in cc) c.in_default.ensures.entries).0 in
    let empty = (c.cleanup.ensures.ends (nothing_live (rw none at c.loop-block.invariant.sound) refl)).0 in
    ap map.len empty ∙ map.len-empty nat_cmp HeldObject

pub returns-clause-returned : goal.returns-clause-returned
returns-clause-returned g c =
    let none = (none_to_take _ _ (λ some. let n : false ≡ true = c.in_default.ensures.found.1 some in cc) c.in_default.ensures.entries).0 in
    let empty = (c.cleanup.ensures.ends (nothing_live (rw none at c.loop-block.invariant.sound) refl)).0 in
    let done = more_returned c.loop-block.invariant.returned c.cleanup.ensures.gone in
    (map_list Deallocated done.gone, done.chain, all_returned done empty)

pub returns-clause-gone : goal.returns-clause-gone
returns-clause-gone g c =
    let none = (none_to_take _ _ (λ some. let n : false ≡ true = c.in_default.ensures.found.1 some in cc) c.in_default.ensures.entries).0 in
    let empty = (c.cleanup.ensures.ends (nothing_live (rw none at c.loop-block.invariant.sound) refl)).0 in
    all_absent (more_returned c.loop-block.invariant.returned c.cleanup.ensures.gone) empty

pub returns-clause-others : goal.returns-clause-others
returns-clause-others g c = (more_returned c.loop-block.invariant.returned c.cleanup.ensures.gone).others
