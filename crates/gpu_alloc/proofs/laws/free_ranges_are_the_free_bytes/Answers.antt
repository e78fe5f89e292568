use Rattle.gpu_alloc.proofs.FreeCovered.{free_byte_covered, range_is_free, range_nonempty, ranges_apart}
use Rattle.gpu_alloc.proofs.laws.free_ranges_are_the_free_bytes.Goals as goal

pub returns-clause-covers : goal.returns-clause-covers
returns-clause-covers c = free_byte_covered

pub returns-clause-free : goal.returns-clause-free
returns-clause-free c = range_is_free

pub returns-clause-apart : goal.returns-clause-apart
returns-clause-apart c = ranges_apart

pub returns-clause-nonempty : goal.returns-clause-nonempty
returns-clause-nonempty c = range_nonempty
