use Rattle.std.proofs.Common.{arith}
use Rattle.gpu_alloc.specs.Whole.{whole}
use Rattle.gpu_alloc.proofs.HeapLists.{offered_heap_is}
use Rattle.gpu_alloc.proofs.allocator.GpuAllocator.heap_limit.Goals as goal

pub returns : goal.returns
returns g c =
    let known = rw (← c.self.view_is) at c.requires in
    let of = offered_heap_is c.self.inside.limits c.self.inside.heaps.items c.self.inside.types.items (whole c.self.inside.own c.self.inside.types.items) c.self.inside.allocations_remains c.self.invariant.books.ledgers c.args.heap c.index.result.now known c.index.ensures in
    rw (← c.self.view_is) (omega (arith, c.limit.ensures, of.limit))
