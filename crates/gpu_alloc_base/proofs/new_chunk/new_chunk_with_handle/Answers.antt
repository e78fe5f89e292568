use Rattle.std.proofs.Common.{[], ◌∷◌, ◌++◌, ap, inr}
use Rattle.gpu_alloc_types.specs.Flags.{allocation_bits}
use Rattle.gpu_alloc_types.specs.Chains.{chain_more}
use Rattle.gpu_alloc_types.specs.Device.Event.{Deallocated}
use Rattle.gpu_alloc_base.specs.NewChunk.{ChunkQuestion, chunk_question}
use Rattle.gpu_alloc_base.proofs.NewChunks.{chunk_is_there, chunk_release}
use Rattle.gpu_alloc_base.proofs.new_chunk.new_chunk_with_handle.Goals as goal

pub deallocate_memory-requires : goal.deallocate_memory-requires
deallocate_memory-requires g c =
    let q : ChunkQuestion = chunk_question c.args.size c.args.memory_type (allocation_bits c.args.flags) c.args.visible in
    chunk_is_there q (g.D.ObjectDevice.objects c.args.device.now) (g.D.ObjectDevice.objects c.new_chunk.new.device) (g.M.MemoryObject.object c.in_ok-memory.memory) c.in_ok-memory.ensures.objects

pub returns-in-Err-clause-asks : goal.returns-in-Err-clause-asks
returns-in-Err-clause-asks g c =
    let q : ChunkQuestion = chunk_question c.args.size c.args.memory_type (allocation_bits c.args.flags) c.args.visible in
    let object = g.M.MemoryObject.object c.in_ok-memory.memory in
    let asked = c.in_ok-memory.ensures.asks in (
      asked.0 ++ Deallocated object ∷ [],
      chain_more g.D.ObjectDevice.step asked.0 (Deallocated object) c.args.device.now c.new_chunk.new.device c.deallocate_memory.new.self asked.1 c.deallocate_memory.ensures,
      inr (object, ap (λ es. es ++ Deallocated object ∷ []) asked.2),
    )

pub returns-in-Err-clause-objects : goal.returns-in-Err-clause-objects
returns-in-Err-clause-objects g c =
    let q : ChunkQuestion = chunk_question c.args.size c.args.memory_type (allocation_bits c.args.flags) c.args.visible in
    let gone = g.met.D.ObjectDevice.row _ _ _ c.deallocate_memory.ensures in
    chunk_release q (g.D.ObjectDevice.objects c.args.device.now) (g.D.ObjectDevice.objects c.new_chunk.new.device) (g.D.ObjectDevice.objects c.deallocate_memory.new.self) (g.M.MemoryObject.object c.in_ok-memory.memory) c.in_ok-memory.ensures.objects gone
