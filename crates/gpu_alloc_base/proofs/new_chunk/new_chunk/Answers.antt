use Rattle.std.proofs.Common.{[], ◌∷◌, Err, refl, ◌∙◌}
use Rattle.gpu_alloc_types.specs.Flags.{allocation_bits}
use Rattle.gpu_alloc_types.specs.Device.Event.{Allocated}
use Rattle.gpu_alloc_base.specs.NewChunk.{ChunkQuestion, chunk_question, unmapped}
use Rattle.gpu_alloc_base.proofs.NewChunks.{may_map, mapped_after, still_there, release, refused_question, refused_mapping}
use Rattle.gpu_alloc_base.proofs.new_chunk.new_chunk.Goals as goal

pub returns-in-Err-clause-asks : goal.returns-in-Err-clause-asks
returns-in-Err-clause-asks g c =
    let q : ChunkQuestion = chunk_question c.args.size c.args.memory_type (allocation_bits c.args.flags) c.args.visible in (
      Allocated c.args.size c.args.memory_type (allocation_bits c.args.flags) (Err c.in-Err.refusal) ∷ [],
      (c.allocate_memory.new.self, c.in-Err.ensures, refl),
      rw c.from.ensures (refused_question q c.in-Err.refusal),
    )

pub map_memory-requires : goal.map_memory-requires
map_memory-requires g c =
    let q : ChunkQuestion = chunk_question c.args.size c.args.memory_type (allocation_bits c.args.flags) c.args.visible in
    let row = g.met.D.ObjectDevice.row _ _ _ c.in-Ok.ensures in
    let same = g.met.D.ObjectDevice.keeps_properties _ _ _ c.in-Ok.ensures in
    may_map q (g.D.ObjectDevice.objects c.args.device.now) (g.D.ObjectDevice.objects c.allocate_memory.new.self) (allocation_bits c.args.flags) (g.M.MemoryObject.object c.in-Ok.memory) (g.D.ObjectDevice.properties c.args.device.now) (g.D.ObjectDevice.properties c.allocate_memory.new.self)
    row same (c.requires.visible ∙ c.if-not-visible.false) c.requires.askable.nonempty

pub deallocate_memory-requires : goal.deallocate_memory-requires
deallocate_memory-requires g c =
    let q : ChunkQuestion = chunk_question c.args.size c.args.memory_type (allocation_bits c.args.flags) c.args.visible in
    let row = g.met.D.ObjectDevice.row _ _ _ c.in-Ok.ensures in
    let kept = g.met.D.ObjectDevice.row _ _ _ c.in-Err-map_memory.ensures in
    still_there q (g.D.ObjectDevice.objects c.args.device.now) (g.D.ObjectDevice.objects c.allocate_memory.new.self) (allocation_bits c.args.flags) (g.M.MemoryObject.object c.in-Ok.memory) (g.D.ObjectDevice.properties c.args.device.now) (g.D.ObjectDevice.objects c.map_memory.new.self) row kept

pub returns-in-Ok-map_memory-clause-objects : goal.returns-in-Ok-map_memory-clause-objects
returns-in-Ok-map_memory-clause-objects g c =
    let q : ChunkQuestion = chunk_question c.args.size c.args.memory_type (allocation_bits c.args.flags) c.args.visible in
    let row = g.met.D.ObjectDevice.row _ _ _ c.in-Ok.ensures in
    let maps = g.met.D.ObjectDevice.row _ _ _ c.in-Ok-map_memory.ensures in
    mapped_after q (g.D.ObjectDevice.objects c.args.device.now) (g.D.ObjectDevice.objects c.allocate_memory.new.self) (allocation_bits c.args.flags) (g.M.MemoryObject.object c.in-Ok.memory) (g.D.ObjectDevice.properties c.args.device.now) (g.D.ObjectDevice.properties c.allocate_memory.new.self)
    (g.D.ObjectDevice.objects c.map_memory.new.self) c.if-not-visible.false row maps

pub returns-in-Err-map_memory-clause-asks : goal.returns-in-Err-map_memory-clause-asks
returns-in-Err-map_memory-clause-asks g c =
    let q : ChunkQuestion = chunk_question c.args.size c.args.memory_type (allocation_bits c.args.flags) c.args.visible in (
      unmapped q (g.M.MemoryObject.object c.in-Ok.memory) c.in-Err-map_memory.cause,
      (c.allocate_memory.new.self, c.in-Ok.ensures, (c.map_memory.new.self, c.in-Err-map_memory.ensures, (c.deallocate_memory.new.self, c.deallocate_memory.ensures, refl))),
      rw c.refusal_of.ensures (refused_mapping q (g.M.MemoryObject.object c.in-Ok.memory) c.in-Err-map_memory.cause c.if-not-visible.false),
    )

pub returns-in-Err-map_memory-clause-objects : goal.returns-in-Err-map_memory-clause-objects
returns-in-Err-map_memory-clause-objects g c =
    let q : ChunkQuestion = chunk_question c.args.size c.args.memory_type (allocation_bits c.args.flags) c.args.visible in
    let row = g.met.D.ObjectDevice.row _ _ _ c.in-Ok.ensures in
    let kept = g.met.D.ObjectDevice.row _ _ _ c.in-Err-map_memory.ensures in
    let gone = g.met.D.ObjectDevice.row _ _ _ c.deallocate_memory.ensures in
    release q (g.D.ObjectDevice.objects c.args.device.now) (g.D.ObjectDevice.objects c.allocate_memory.new.self) (allocation_bits c.args.flags) (g.M.MemoryObject.object c.in-Ok.memory) (g.D.ObjectDevice.properties c.args.device.now)
    (g.D.ObjectDevice.objects c.map_memory.new.self) (g.D.ObjectDevice.objects c.deallocate_memory.new.self) row kept gone
