use Rattle.std.proofs.Common.{ℕ, map, Some, sym, refl, ◌∙◌, ap}
use Rattle.std.specs.Option.{option_copied, option_map}
use Rattle.gpu_alloc_types.specs.Device.{range_of}
use Rattle.gpu_sim.specs.Question.{refusal_of}
use Rattle.gpu_sim.specs.declared.sim.bytes.Direction.TheVariants.{ToHost}
use Rattle.gpu_sim.specs.declared.sim.bytes.Part.TheVariants.{Whole, FirstHalf}
use Rattle.gpu_sim.proofs.Asked.{ready_to_copy}
use Rattle.gpu_sim.proofs.SimSound.{sound-copies}
use Rattle.gpu_sim.proofs.sim.SimMemoryDeviceSimMemory.invalidate_memory_ranges.Goals as goal

pub returns-in-Some : goal.returns-in-Some
returns-in-Some g c =
    let counted = c.saturating_add-self-inside.ensures in
    let planned = rw counted at (ap (option_map refusal_of) (sym c.get.ensures ∙ ap option_copied c.in-Some.is) ∙ ap (λ e. Some e) (sym c.out_of_memory-refusal.ensures)) in
    rw (← c.self.view_is) (c.self.invariant, (planned, (c.copy_each.new.self, c.copy_each.ensures, rw (counted, c.note_last.ensures) refl)))

pub invariant_of-self : goal.invariant_of-self
invariant_of-self g c = sound-copies c.self.inside.last_name c.self.inside.properties ToHost FirstHalf _ c.self.inside.objects c.copy_each.new.self c.copy_each.ensures c.self.invariant

pub copy_each-requires : goal.copy_each-requires
copy_each-requires g c = ready_to_copy _ c.args.self.now (map (range_of {M = ℕ} (λ memory. memory)) c.args.ranges.now) c.self.view_is c.self.invariant.whole c.requires

pub returns : goal.returns
returns g c =
    let counted = c.saturating_add-self-inside.ensures in
    let granted = rw counted at (sym c.get.ensures ∙ ap option_copied c.in_default.is) in
    rw (← c.self.view_is) (c.self.invariant, (granted, (c.copy_each-2.new.self, c.copy_each-2.ensures, rw (counted, c.note_last.ensures) refl)))

pub invariant_of-self-2 : goal.invariant_of-self-2
invariant_of-self-2 g c = sound-copies c.self.inside.last_name c.self.inside.properties ToHost Whole _ c.self.inside.objects c.copy_each-2.new.self c.copy_each-2.ensures c.self.invariant

pub copy_each-requires-2 : goal.copy_each-requires-2
copy_each-requires-2 g c = ready_to_copy _ c.args.self.now (map (range_of {M = ℕ} (λ memory. memory)) c.args.ranges.now) c.self.view_is c.self.invariant.whole c.requires
