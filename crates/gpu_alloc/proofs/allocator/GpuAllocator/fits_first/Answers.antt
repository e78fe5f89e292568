use Rattle.std.proofs.Common.{◌≡◌, ◌-◌, ◌/◌, ◌<◌, bit_and, sym, ◌∙◌, ap, arith}
use Rattle.std.specs.Prelude.{min, nat_le}
use Rattle.gpu_alloc_types.specs.Properties.{atom_of, heap_size}
use Rattle.gpu_alloc_base.specs.Sizes.{down, up}
use Rattle.gpu_alloc_base.proofs.ChunkSizes.{up_within}
use Rattle.gpu_alloc_base.proofs.Multiples.{multiple_down}
use Rattle.gpu_alloc.specs.FitSharing.{grain_of}
use Rattle.gpu_alloc.proofs.Atoms.{atom_power, down_by_mask, grain_power}
use Rattle.gpu_alloc.proofs.allocator.GpuAllocator.fits_first.Goals as goal

pub returns : goal.returns
returns g c =
    let s = c.args.self.now in
    let size = c.args.request.size in
    let first = c.min-first.result in
    let grain = c.max-grain.result in
    let power = grain_power c.atom.result grain (atom_power _ c.atom.result _ c.self.invariant.books.usable.atom c.atom.ensures) c.max-grain.ensures in
    let whole : first - bit_and first (grain - 1) ≡ down first grain = down_by_mask first grain power in
    let some : 0 < grain = omega (arith, c.max-grain.ensures) in
    let first_is : first ≡ min s.config.starting_free_list_chunk (heap_size s.properties c.args.memory_type / 32) = rw (← c.heap_size-part.ensures, ← c.self.view_is) c.min-first.ensures in
    let atom_is : c.atom.result ≡ atom_of s.properties c.args.memory_type = rw (← c.self.view_is) c.atom.ensures in
    let grain_is : grain ≡ grain_of s c.args.memory_type = omega (arith, c.max-grain.ensures, atom_is) in
    ap (nat_le size) whole ∙ sym (up_within size grain (down first grain) some (multiple_down first grain)) ∙ (λ k. nat_le (up size (grain_is k)) (down (first_is k) (grain_is k)))
