use Rattle.std.proofs.Common.{subst}
use Rattle.gpu_alloc.specs.Atoms.{KeepsAtoms}
use Rattle.gpu_alloc.specs.Sound.{IsSound}
use Rattle.gpu_alloc.proofs.Linked.{consistent}
use Rattle.gpu_alloc.proofs.Soundness.{sound_is, atoms_kept}
use Rattle.gpu_alloc.proofs.allocator.GpuAllocator.keeps_sound.Goals as goal

pub returns-clause-sound : goal.returns-clause-sound
returns-clause-sound g c = subst IsSound c.self.view_is (sound_is c.self.inside.limits _ _ _ _ (consistent _ _ _ _ _ _ _ c.self.invariant))

pub returns-clause-atoms : goal.returns-clause-atoms
returns-clause-atoms g c = subst KeepsAtoms c.self.view_is (atoms_kept c.self.inside.limits _ _ _ _ (consistent _ _ _ _ _ _ _ c.self.invariant))
