use Rattle.std.proofs.Common.{arith}
use Rattle.std.proofs.lemmas.Bool.Decides.{nat_tests}
use Rattle.gpu_alloc_types.specs.Properties.{heap_size}
use Rattle.gpu_alloc.specs.FitSharing.{grain_of, next_fit_chunk}
use Rattle.gpu_alloc.proofs.Fits.Small.{fit_chunks_small, sized_is_small}
use Rattle.gpu_alloc.proofs.laws.fit_chunks_are_small.Goals as goal

pub returns-clause-sizes : goal.returns-clause-sizes
returns-clause-sizes c = fit_chunks_small

pub returns-clause-held : goal.returns-clause-held
returns-clause-held c s sound t object is =
    sized_is_small s.config (heap_size s.properties t) (grain_of s t) (omega arith) is.chunk.counted (sound.fit_sizes t object is)

pub returns-clause-next : goal.returns-clause-next
returns-clause-next c s sound t known =
    sized_is_small s.config (heap_size s.properties t) (grain_of s t) (omega arith) (next_fit_chunk s t) (sound.next_fit t known)

pub returns-clause-asked : goal.returns-clause-asked
returns-clause-asked c s sound t known r fits =
    let heap = heap_size s.properties t in
    let room = (fit_chunks_small.each s.config heap (grain_of s t) (omega arith)).room in
    let least = (sized_is_small s.config heap (grain_of s t) (omega arith) (next_fit_chunk s t) (sound.next_fit t known)).least in
    grind (arith, nat_tests, fits, room, least)
