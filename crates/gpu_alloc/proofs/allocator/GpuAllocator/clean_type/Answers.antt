use Rattle.std.proofs.Common.{◌++◌}
use Rattle.gpu_alloc_types.specs.Chains.{chain_append}
use Rattle.gpu_alloc.proofs.Cleanups.{type_goes}
use Rattle.gpu_alloc.proofs.allocator.GpuAllocator.clean_type.Goals as goal

pub returns-clause-gives : goal.returns-clause-gives
returns-clause-gives g c =
    let first = c.clean_list.ensures.gives in
    let then = c.clean_fit.ensures.gives in (
      first.0 ++ then.0,
      first.1 ++ then.1,
      chain_append g.D.ObjectDevice.step first.1 then.1 _ _ _ first.2 then.2,
      type_goes c.args.self.now _ _ _ _ _ c.args.memory_type first.0 then.0 first.1 then.1 first.3 then.3,
    )
