-- A new object on the device, as the whole allocator counts it.
use Rattle.std.proofs.Common.{◌≡◌, ℕ, Bool, Option, Some, None, cond, ◌∙◌, subst}
use Rattle.std.specs.Prelude.{◌&&◌}
use Rattle.gpu_alloc_types.specs.Device.{Object}
use Rattle.gpu_alloc_types.specs.Properties.{Properties, is_host_visible}
use Rattle.gpu_alloc_base.specs.Chunks.{Chunk, IsNew}
use Rattle.gpu_alloc_base.specs.NewObject.{HasOneMore}
use Rattle.gpu_alloc.specs.Allocation.{IsAsCounted}
use Rattle.gpu_alloc_block.specs.State.{HeldObject, is_shared}
use Rattle.gpu_alloc_base.proofs.Maps.{one_value}

-- a shared allocator's new chunk is as it is counted
pub counted_new : (p : Properties) (t : ℕ) (seen : Bool) (chunk : Chunk) (h : HeldObject) (object : ℕ) (lower : Option Chunk) (after : Option HeldObject) (old new : ℕ → Option Object) → lower ≡ Some chunk → after ≡ Some h
    → t ≡ h.memory_type → chunk.size ≡ h.counted → seen ≡ (is_shared h.kind && is_host_visible p h.memory_type) → HasOneMore (IsNew t seen) lower object old new → HasOneMore (IsAsCounted p) after object old new
counted_new p t seen chunk h object lower after old new found held of_type size visible more =
    let is = subst (λ c. IsNew t seen c more.made) (one_value _ more.counted chunk more.is_counted found) more.is_as in
    record {
      counted = h;
      is_counted = held;
      was_free = more.was_free;
      made = more.made;
      is_as = record { of_type = is.of_type ∙ of_type; of_size = is.of_size ∙ size; mapped = is.mapped ∙ (λ k. cond (visible k) (Some (0, size k)) None) };
      now = more.now;
    }
