use Rattle.gpu_alloc.proofs.laws.byte_calls_keep_agreement.Goals as goal

pub returns : goal.returns
returns g c = c.byte_calls_keep_each_agreement.ensures c.args.allocator.now
