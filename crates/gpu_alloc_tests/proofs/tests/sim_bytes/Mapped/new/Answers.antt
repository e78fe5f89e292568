use Rattle.std.proofs.Common.{ℕ, subst}
use Rattle.std.specs.Result.{result_map_both}
use Rattle.gpu_alloc_types.specs.Device.Event.{Allocated, Mapped}
use Rattle.gpu_alloc_types.specs.declared.types.OutOfMemory.{OutOfMemory}
use Rattle.gpu_sim.specs.Sim.{SimStep}
use Rattle.gpu_alloc_tests.proofs.Ready.{after_allocate, after_map, mappable}
use Rattle.gpu_alloc_tests.proofs.tests.sim_bytes.Mapped.new.Goals as goal

pub map_memory-requires : goal.map_memory-requires
map_memory-requires g c =
    let old = c.device.inside.sim in
    let mid = c.allocate_memory.new.self in
    let bits = c.from_bits_retain-flags.result.bits in
    let name = c.expect-memory.result in
    let made = subst (λ r. SimStep old (Allocated 8 0 bits (result_map_both (λ (m : ℕ). m) (λ (e : OutOfMemory). e) r)) mid) c.expect-memory.ensures c.allocate_memory.ensures in
    mappable mid name (after_allocate old mid name bits made c.device.invariant.1 c.device.invariant.2)

pub invariant_of-result : goal.invariant_of-result
invariant_of-result g c =
    let old = c.device.inside.sim in
    let mid = c.allocate_memory.new.self in
    let new = c.map_memory.new.self in
    let bits = c.from_bits_retain-flags.result.bits in
    let name = c.expect-memory.result in
    let made = subst (λ r. SimStep old (Allocated 8 0 bits (result_map_both (λ (m : ℕ). m) (λ (e : OutOfMemory). e) r)) mid) c.expect-memory.ensures c.allocate_memory.ensures in
    let mapped = subst (λ r. SimStep mid (Mapped (record { object = name; offset = 0; size = 8 }) r) new) c.expect.ensures c.map_memory.ensures in
    after_map mid new name c.expect.result mapped (after_allocate old mid name bits made c.device.invariant.1 c.device.invariant.2)
