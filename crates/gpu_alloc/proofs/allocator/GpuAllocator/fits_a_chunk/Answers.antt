use Rattle.std.proofs.Common.{nat_le, refl, ◌∙◌}
use Rattle.gpu_alloc_base.specs.Sizes.{up}
use Rattle.gpu_alloc.proofs.FreeLists.Named.{list_is_named, list_named}
use Rattle.gpu_alloc.proofs.HandedOn.{below}
use Rattle.gpu_alloc.proofs.Shared.Calls.{its}
use Rattle.gpu_alloc.proofs.allocator.GpuAllocator.fits_a_chunk.Goals as goal

pub index-requires : goal.index-requires
index-requires g c = below refl (c.self.inside.types.ok.0 ∙ c.self.invariant.shared.count) (rw (← c.self.view_is) at c.requires.known)

pub returns : goal.returns
returns g c =
    let known = rw (← c.self.view_is) at c.requires.known in
    let given = (its {n = list_named} list_is_named {l = c.self.inside.limits} (record { kept = c.self.invariant; known = known; at = c.index.ensures; is = refl })).0 in
    rw (← c.self.view_is) (c.fits_a_chunk.ensures ∙ (λ k. nat_le (up c.args.request.size (given.atom k)) (given.final_chunk k)))
