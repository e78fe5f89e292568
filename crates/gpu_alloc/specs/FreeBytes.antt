-- Free bytes of the objects that an allocator holds.
use Rattle.std.specs.Prelude.{◌≡◌, ℕ, ◌<◌, Some}
use Rattle.std.specs.FinMap as map
use Rattle.gpu_alloc_base.specs.FreeSpace.{IsIn}
use Rattle.gpu_alloc_block.specs.State.{HeldObject, Span, State, IsLive}
use Rattle.gpu_alloc_block.specs.declared.block.Kind.{Kind}

-- the byte lies in an object of this memory type and kind, and in no live span
pub record IsFreeByte (s : State) (memory_type : ℕ) (kind : Kind) (object at : ℕ) : Type 0 where
  pub chunk : HeldObject
  pub held : map.get s.held object ≡ Some chunk
  pub of_type : chunk.memory_type ≡ memory_type
  pub of_kind : chunk.kind ≡ kind
  pub inside : at < chunk.counted
  pub unused : (span : Span) → IsLive s span → span.object ≡ object → IsIn span.offset span.size at → ⊥
