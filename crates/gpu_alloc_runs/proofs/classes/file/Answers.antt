use Rattle.std.proofs.Common.{◌∙◌}
use Rattle.gpu_alloc_runs.proofs.Filed.{refiles_front, stays_there}
use Rattle.gpu_alloc_runs.proofs.Nodes.{keeps_then}
use Rattle.gpu_alloc_runs.proofs.classes.file.Goals as goal

pub returns-clause-files : goal.returns-clause-files
returns-clause-files g c =
    let up = c.set_up.ensures.sets in
    let place = c.set_place.ensures.sets in
    let there = stays_there c.args.nodes.now c.set_up.new.nodes c.set_up.ensures.keeps.tiles c.args.key c.requires.there in
    refiles_front c.args.nodes.now c.set_place.new.nodes c.args.classes.now c.set_first.new.self c.args.key c.args.class c.first-first.result c.up_or-last.result c.first-first.ensures c.requires.there
    (keeps_then c.args.nodes.now c.set_up.new.nodes c.set_place.new.nodes c.set_up.ensures.keeps c.set_place.ensures.keeps)
    c.up_or-last.ensures.there c.up_or-last.ensures.otherwise (λ is ne. place.up_others c.first-first.result ne ∙ up.written is) (place.up_written there) (λ k ne not. place.up_others k ne ∙ up.others k not)
    c.set_first.ensures.marked (place.down_written there) (λ vacant k ne. place.down_others k ne ∙ up.down k) c.set_first.ensures.sets
