-- A device's own byte calls, made by a caller that has mapped a block.
use Rattle.std.specs.Prelude.{◌≡◌, ℕ, ◌+◌, ◌^◌, ◌<◌, ◌≤◌, Option, Some}
use Rattle.gpu_alloc_types.specs.Device.{Object, Event, HeldWith, IsInMapped}
use Rattle.gpu_alloc_types.specs.Device.Event.{Allocated, Deallocated, Mapped, Unmapped, Flushed, Invalidated}
use Rattle.gpu_alloc_types.specs.Device.Event.{BytesPut, BytesGot}
use Rattle.gpu_alloc_types.specs.Properties.{Properties}
use Rattle.gpu_alloc_block.specs.Agreement.{Agrees, BlockAgrees}
use Rattle.gpu_alloc_block.specs.State.{Block, State}
use Rattle.gpu_alloc_block.specs.declared.block.Mapping.{Mapping}

-- the call puts or gets bytes, or flushes or invalidates ranges
abbrev pub IsByteCall : Event → Type 0
IsByteCall (Allocated size memory_type flags answer) = ⊥
IsByteCall (Deallocated object) = ⊥
IsByteCall (Mapped range answer) = ⊥
IsByteCall (Unmapped object) = ⊥
IsByteCall (Flushed ranges answer) = Unit {0}
IsByteCall (Invalidated ranges answer) = Unit {0}
IsByteCall (BytesPut object offset bytes) = Unit {0}
IsByteCall (BytesGot object offset bytes) = Unit {0}

-- Bytes inside the block's mapping may be put and got, on each device that the block agrees with.
pub record MayBeMoved (b : Block) : Type 0 where
  pub inside : (p : Properties) (objects : ℕ → Option Object) (m : Mapping) (place len : ℕ)
      → BlockAgrees b p objects → b.mapping ≡ Some m → 0 < len → m.start ≤ place → place + len ≤ m.start + m.len
      → HeldWith objects b.object (IsInMapped place len)
  -- the mapping ends at a 64-bit number
  pub finish : (p : Properties) (objects : ℕ → Option Object) (m : Mapping) → BlockAgrees b p objects
      → b.mapping ≡ Some m → m.start + m.len < 2 ^ 64

-- A device's latest call was a byte call: the allocator agrees with it as before, and so does each block.
pub record BytesMoved (s : State) {D : Type 0} (step : D → Event → D → Type 0) (properties : D → Properties)
    (objects : D → ℕ → Option Object) (now : D) : Type 0 where
  pub allocator : (old : D) (e : Event) → step old e now → IsByteCall e → Agrees s (properties old) (objects old)
      → Agrees s (properties now) (objects now)
  pub blocks : (b : Block) (old : D) (e : Event) → step old e now → IsByteCall e
      → BlockAgrees b (properties old) (objects old) → BlockAgrees b (properties now) (objects now)
