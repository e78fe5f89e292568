use Rattle.std.proofs.Common.{◌≡◌, ◌/◌, sym, ◌∙◌}
use Rattle.std.specs.Prelude.{min}
use Rattle.gpu_alloc_types.specs.Properties.{heap_size}
use Rattle.gpu_alloc_base.specs.Sizes.{transient_threshold}
use Rattle.gpu_alloc.proofs.Strategies.{small_lasting, large_lasting, small_fitting, small_unfitting, large_transient}
use Rattle.gpu_alloc.proofs.allocator.GpuAllocator.unhinted.Goals as goal
use Rattle.gpu_alloc.proofs.allocator.GpuAllocator.unhinted.Goals.{else-request-min-via-then-request-min+else-fits_a_chunk, else-request-min-via-else-request-min}

pub returns-then-request-min-2 : goal.returns-then-request-min-2
returns-then-request-min-2 g c =
    let bound : c.min-else-contains.result ≡ min c.args.self.now.config.dedicated_threshold (heap_size c.args.self.now.properties c.args.memory_type / 32) =
    rw (← c.heap_size-part.ensures, ← c.self.view_is) c.min-else-contains.ensures in
    c.shared.ensures ∙ small_lasting c.args.self.now c.args.request c.args.memory_type c.min-else-contains.result (sym c.contains.ensures ∙ c.if-contains.false) bound c.if-request-min-2.true

pub returns-else-request-min-2 : goal.returns-else-request-min-2
returns-else-request-min-2 g c =
    let bound : c.min-else-contains.result ≡ min c.args.self.now.config.dedicated_threshold (heap_size c.args.self.now.properties c.args.memory_type / 32) =
    rw (← c.heap_size-part.ensures, ← c.self.view_is) c.min-else-contains.ensures in
    large_lasting c.args.self.now c.args.request c.args.memory_type c.min-else-contains.result (sym c.contains.ensures ∙ c.if-contains.false) bound c.if-request-min-2.false

pub returns-then-fits_a_chunk : goal.returns-then-fits_a_chunk
returns-then-fits_a_chunk g c =
    let bound : c.min.result ≡ min (transient_threshold c.args.self.now.config) (heap_size c.args.self.now.properties c.args.memory_type / 32) =
    rw (← c.heap_size-part.ensures, ← c.self.view_is, ← c.transient_threshold.ensures) c.min.ensures in
    small_fitting c.args.self.now c.args.request c.args.memory_type c.min.result (sym c.contains.ensures ∙ c.if-contains.true) bound c.if-request-min.true (sym c.fits_a_chunk.ensures ∙ c.if-fits_a_chunk.true)

pub returns-else-request-min : goal.returns-else-request-min
returns-else-request-min g c =
    let bound : c.min.result ≡ min (transient_threshold c.args.self.now.config) (heap_size c.args.self.now.properties c.args.memory_type / 32) =
    rw (← c.heap_size-part.ensures, ← c.self.view_is, ← c.transient_threshold.ensures) c.min.ensures in
    let brief = sym c.contains.ensures ∙ c.if-contains.true in
    elim c.else-request-min.branch [
      | else-request-min-via-then-request-min+else-fits_a_chunk w ↦ small_unfitting c.args.self.now c.args.request c.args.memory_type c.min.result brief bound w.if-request-min.true (sym w.fits_a_chunk.ensures ∙ w.if-fits_a_chunk.false)
      | else-request-min-via-else-request-min w ↦ large_transient c.args.self.now c.args.request c.args.memory_type c.min.result brief bound w.if-request-min.false
    ]
