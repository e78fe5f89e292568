use Rattle.std.proofs.Common.{◌≡◌, ℕ, Option, Some, None, sym, subst, refl, ◌∙◌, ap}
use Rattle.std.specs.FinMap as map
use Rattle.std.specs.Option.{option_copied}
use Rattle.gpu_alloc_types.specs.Device.{HeldWith, IsMappable}
use Rattle.gpu_sim.specs.ObjectLaws.{mapped_is_whole}
use Rattle.gpu_sim.specs.Objects.{ChangesAt, HasBytes, HasRange, mapped_as}
use Rattle.gpu_sim.specs.Sim.{objects_of}
use Rattle.gpu_sim.proofs.Asked.{mappable_has}
use Rattle.gpu_sim.proofs.SimSound.{sound-changed}
use Rattle.gpu_sim.proofs.sim.SimMemoryDeviceSimMemory.map_memory.Goals as goal

pub set_mapped-requires : goal.set_mapped-requires
set_mapped-requires g c =
    let held = subst (λ sim. HeldWith (objects_of sim) c.args.memory.now (IsMappable sim.properties c.args.offset c.args.size)) (sym c.self.view_is) c.requires in
    subst (λ name. HeldWith (map.get c.self.inside.objects) name (HasRange c.args.offset c.args.size)) (sym c.object-2.ensures)
    (mappable_has c.self.inside.properties c.self.inside.objects c.self.invariant.whole c.args.memory.now c.args.offset c.args.size held)

pub invariant_of-self-2 : goal.invariant_of-self-2
invariant_of-self-2 g c =
    let range : Option (ℕ × ℕ) = Some (c.args.offset, c.args.size) in
    sound-changed c.self.inside.last_name c.self.inside.properties (HasBytes range) (mapped_as range)
    (λ o w has. mapped_is_whole c.self.inside.properties o w range has)
    c.self.inside.objects c.object-2.result c.set_mapped.new.self c.set_mapped.ensures c.self.invariant

pub returns : goal.returns
returns g c =
    let range : Option (ℕ × ℕ) = Some (c.args.offset, c.args.size) in
    let counted = c.saturating_add-self-inside.ensures in
    let change = subst (λ name. ChangesAt (HasBytes range) (mapped_as range) c.self.inside.objects name c.set_mapped.new.self) c.object-2.ensures c.set_mapped.ensures in
    let granted = subst (λ n. map.get c.self.inside.plans.map n ≡ None) counted (sym c.get.ensures ∙ ap option_copied c.in_default.is) in
    rw (← c.self.view_is) (c.self.invariant, (granted, (c.set_mapped.new.self, change, rw (counted, c.object.ensures) refl)))
