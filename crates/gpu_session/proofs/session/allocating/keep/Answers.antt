use Rattle.gpu_alloc_base.proofs.Names.{put_by_name}
use Rattle.gpu_session.proofs.session.allocating.keep.Goals as goal

pub returns-clause-kept : goal.returns-clause-kept
returns-clause-kept g c = put_by_name c.args.blocks.now.entries c.insert.new.self.entries c.args.name c.args.block c.in-Ok-None.ensures.updates.0
