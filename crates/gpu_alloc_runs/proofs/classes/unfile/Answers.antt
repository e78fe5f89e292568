use Rattle.gpu_alloc_runs.proofs.Filed.{less_first, less_lasts, less_later}
use Rattle.gpu_alloc_runs.proofs.classes.unfile.Goals as goal

pub returns-then-first-key-clause-files : goal.returns-then-first-key-clause-files
returns-then-first-key-clause-files g c filed indexed on =
    less_first c.args.nodes.now c.set_up.new.nodes c.args.classes.now c.args.key c.args.class c.first-first.result c.key_or.result c.index.result.now c.index.ensures c.first-first.ensures c.key_or.ensures c.requires.there c.set_up.ensures.keeps c.set_up.ensures.sets
    filed indexed on c.if-first-key.true c.set_first.new.self c.set_first.ensures.sets c.set_first.ensures.marked

pub returns-else-first-key-clause-files : goal.returns-else-first-key-clause-files
returns-else-first-key-clause-files g c filed indexed on =
    less_later c.args.nodes.now c.set_up.new.nodes c.args.classes.now c.args.key c.args.class c.first-first.result c.key_or.result c.index.result.now c.index.ensures c.first-first.ensures c.key_or.ensures c.requires.there c.set_up.ensures.keeps c.set_up.ensures.sets
    filed indexed on c.set_down.new.nodes c.if-first-key.false c.set_down.ensures.keeps c.set_down.ensures.sets

pub returns-else-first-key-clause-lasts : goal.returns-else-first-key-clause-lasts
returns-else-first-key-clause-lasts g c filed indexed on k ne =
    less_lasts c.args.nodes.now c.set_up.new.nodes c.args.classes.now c.args.key c.args.class c.first-first.result c.key_or.result c.index.result.now c.index.ensures c.first-first.ensures c.key_or.ensures c.requires.there c.set_up.ensures.keeps c.set_up.ensures.sets
    filed indexed on c.set_down.new.nodes c.if-first-key.false c.set_down.ensures.keeps c.set_down.ensures.sets k
