use Rattle.std.proofs.Common.{arith}
use Rattle.gpu_alloc_freelist.proofs.WholeRuns.{taken_counts, two_count}
use Rattle.gpu_alloc_freelist.proofs.freelist.list.none_goes.Goals as goal

pub returns-in-0 : goal.returns-in-0
returns-in-0 g c = λ t i d taken. omega (arith, taken_counts c.args.chunks.now.held c.args.regions.now c.args.keep_last d i taken, c.requires.counted, c.in-0.is)

pub returns-then-keep_last : goal.returns-then-keep_last
returns-then-keep_last g c = λ t i d taken.
    let last = c.last_is_whole.ensures t d in
    omega (arith, two_count c.args.chunks.now.held c.args.regions.now c.args.keep_last d i last.0 c.if-keep_last.true taken last.1.0 last.1.1, c.requires.counted, c.in-1.is)
