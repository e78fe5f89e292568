use Rattle.std.proofs.Common.{◌∙◌, None, Some, ap}
use Rattle.gpu_alloc_runs.proofs.Filed.{lasts_then, refiles_none, refiles_then}
use Rattle.gpu_alloc_runs.proofs.classes.refile.Goals as goal

pub returns-in-Some-clause-files : goal.returns-in-Some-clause-files
returns-in-Some-clause-files g c = refiles_none c.args.nodes.now c.args.classes.now c.args.key c.args.was (Some c.args.class) (c.in-Some.is ∙ ap (λ k. Some k) c.if-same-class.true)

pub returns-in-Some-2-clause-files : goal.returns-in-Some-2-clause-files
returns-in-Some-2-clause-files g c filed indexed on =
    refiles_then c.args.nodes.now c.unfile.new.nodes c.file.new.nodes c.args.classes.now c.unfile.new.classes c.file.new.classes c.args.key (Some c.in-Some-2.other) None (Some c.args.class)
    c.unfile.ensures.files c.file.ensures.files filed indexed (on ∙ c.in-Some-2.is)

pub returns-in-Some-2-clause-lasts : goal.returns-in-Some-2-clause-lasts
returns-in-Some-2-clause-lasts g c filed indexed on =
    lasts_then c.args.nodes.now c.unfile.new.nodes c.file.new.nodes c.args.classes.now c.unfile.new.classes c.args.key (Some c.in-Some-2.other) None
    c.unfile.ensures.files c.unfile.ensures.lasts c.file.ensures.lasts filed indexed (on ∙ c.in-Some-2.is)

pub returns-in-None-clause-files : goal.returns-in-None-clause-files
returns-in-None-clause-files g c filed indexed on = c.file-in-None.ensures.files filed indexed (on ∙ c.in-None.is)

pub returns-in-None-clause-lasts : goal.returns-in-None-clause-lasts
returns-in-None-clause-lasts g c filed indexed on = c.file-in-None.ensures.lasts filed indexed (on ∙ c.in-None.is)
