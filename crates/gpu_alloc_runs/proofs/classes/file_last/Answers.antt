use Rattle.std.proofs.Common.{◌∙◌, refl, subst, sym}
use Rattle.slab.specs.Slab.{ContainsKey}
use Rattle.gpu_alloc_runs.proofs.Filed.{refiles_end, refiles_front, stays_there}
use Rattle.gpu_alloc_runs.proofs.Nodes.{keeps_then}
use Rattle.gpu_alloc_runs.proofs.classes.file_last.Goals as goal

-- It is the only one of its class.
pub returns-then-first-clause-files : goal.returns-then-first-clause-files
returns-then-first-clause-files g c =
    let place = c.set_place.ensures.sets in
    let keeps = keeps_then c.args.nodes.now c.set_up.new.nodes c.set_down.new.nodes c.set_up.ensures.keeps c.set_down.ensures.keeps in
    let there = stays_there c.args.nodes.now c.set_down.new.nodes keeps.tiles c.args.key c.requires.there in
    let alone = c.up_or-last.ensures.otherwise in
    refiles_front c.args.nodes.now c.set_place.new.nodes c.args.classes.now c.set_first.new.self c.args.key c.args.class c.first-first.result c.up_or-last.result c.first-first.ensures c.requires.there
    (keeps_then c.args.nodes.now c.set_down.new.nodes c.set_place.new.nodes keeps c.set_place.ensures.keeps)
    c.up_or-last.ensures.there alone (λ is ne. place.up_others c.first-first.result ne ∙ c.set_down.ensures.sets.up c.first-first.result ∙ c.set_up.ensures.sets.written is) (place.up_written there) (λ k ne not. place.up_others k ne ∙ c.set_down.ensures.sets.up k ∙ c.set_up.ensures.sets.others k not)
    c.set_first.ensures.marked (place.down_written there ∙ sym c.if-first.true)
    (λ vacant k ne. place.down_others k ne ∙ c.set_down.ensures.sets.others k (λ e. ne (e ∙ alone (λ is. vacant (subst (ContainsKey c.args.nodes.now) c.if-first.true is)))) ∙ c.set_up.ensures.sets.down k) c.set_first.ensures.sets

-- It is not.
pub returns-else-first-clause-files : goal.returns-else-first-clause-files
returns-else-first-clause-files g c =
    let place = c.set_place.ensures.sets in
    let keeps = keeps_then c.args.nodes.now c.set_up.new.nodes c.set_down.new.nodes c.set_up.ensures.keeps c.set_down.ensures.keeps in
    let there = stays_there c.args.nodes.now c.set_down.new.nodes keeps.tiles c.args.key c.requires.there in
    refiles_end c.args.nodes.now c.set_place.new.nodes c.args.classes.now c.args.classes.now c.args.key c.args.class c.first-first.result c.up_or-last.result c.first-first.ensures c.requires.there
    (keeps_then c.args.nodes.now c.set_down.new.nodes c.set_place.new.nodes keeps c.set_place.ensures.keeps)
    c.up_or-last.ensures.there c.up_or-last.ensures.otherwise (λ is ne. place.up_others c.first-first.result ne ∙ c.set_down.ensures.sets.up c.first-first.result ∙ c.set_up.ensures.sets.written is) (place.up_written there) (λ k ne not. place.up_others k ne ∙ c.set_down.ensures.sets.up k ∙ c.set_up.ensures.sets.others k not)
    c.requires.marked c.if-first.false (place.down_written there)
    (λ is ne. place.down_others c.up_or-last.result ne ∙ c.set_down.ensures.sets.written (stays_there c.args.nodes.now c.set_up.new.nodes c.set_up.ensures.keeps.tiles c.up_or-last.result is))
    (λ k ne not. place.down_others k ne ∙ c.set_down.ensures.sets.others k not ∙ c.set_up.ensures.sets.down k) refl
