use Rattle.std.proofs.Common.{arith}
use Rattle.gpu_alloc_freelist.specs.FreeListRule.{list_rule}
use Rattle.gpu_alloc_shared.proofs.Grants.{nothing_agrees}
use Rattle.gpu_alloc_freelist.proofs.laws.agrees_at_first.Goals as goal

pub returns-clause-agrees : goal.returns-clause-agrees
returns-clause-agrees g c = nothing_agrees list_rule c.args.memory_type _ c.args.allocator.now c.requires.nothing _ _ c.requires.offers

pub returns-clause-counted : goal.returns-clause-counted
returns-clause-counted g c = c.requires.nothing.2.counted c.args.heap.now c.args.allocations_remains (omega (arith, c.ranges.allocations_remains.fits))
