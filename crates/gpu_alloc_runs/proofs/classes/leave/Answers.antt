use Rattle.std.proofs.Common.{◌∙◌, None}
use Rattle.gpu_alloc_runs.proofs.Filed.{refiles_none}
use Rattle.gpu_alloc_runs.proofs.classes.leave.Goals as goal

pub returns-in-Some-clause-files : goal.returns-in-Some-clause-files
returns-in-Some-clause-files g c filed indexed on = c.unfile.ensures.files filed indexed (on ∙ c.in-Some.is)

pub returns-in-Some-clause-lasts : goal.returns-in-Some-clause-lasts
returns-in-Some-clause-lasts g c filed indexed on = c.unfile.ensures.lasts filed indexed (on ∙ c.in-Some.is)

pub returns-in-None-clause-files : goal.returns-in-None-clause-files
returns-in-None-clause-files g c = refiles_none c.args.nodes.now c.args.classes.now c.args.key c.args.was None c.in-None.is
