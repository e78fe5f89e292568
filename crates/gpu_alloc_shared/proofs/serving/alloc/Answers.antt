use Rattle.gpu_alloc_types.specs.Flags.{allocation_bits}
use Rattle.gpu_alloc_base.specs.Accounts.{Account, account}
use Rattle.gpu_alloc_base.proofs.Books.{answers_counted, answers_total}
use Rattle.gpu_alloc_shared.proofs.Grants.{answers_agree, keeps_books}
use Rattle.gpu_alloc_shared.proofs.serving.alloc.Given.{Over}
use Rattle.gpu_alloc_shared.proofs.serving.alloc.Goals.{After-keeps_sound-2}
use Rattle.gpu_alloc_shared.proofs.serving.alloc.Goals as goal

abbrev old : (g : Over) → After-keeps_sound-2 g → Account g.S.Store.State
old g c = account (g.S.Store.state c.args.store.now) c.args.heap.now c.args.allocations_remains.now

abbrev new : (g : Over) → After-keeps_sound-2 g → Account g.S.Store.State
new g c = account (g.S.Store.state c.alloc_asked-answer.new.store) c.alloc_asked-answer.new.heap c.alloc_asked-answer.new.allocations_remains

pub returns-clause-agrees : goal.returns-clause-agrees
returns-clause-agrees g c =
    let told = c.alloc_asked-answer.ensures.answers in
    answers_agree g.S.Store.rule g.met.S.Store.lawful (old g c) c.keeps_sound.ensures c.in-Some.ask (allocation_bits c.args.flags) told.0 c.alloc_asked-answer.result (new g c) told.2
    _ _ _ _ c.requires.agrees c.alloc_asked-answer.ensures.properties c.alloc_asked-answer.ensures.objects

pub returns-clause-counted : goal.returns-clause-counted
returns-clause-counted g c =
    let told = c.alloc_asked-answer.ensures.answers in
    answers_counted (keeps_books g.S.Store.rule g.met.S.Store.lawful (old g c) c.keeps_sound.ensures c.in-Some.ask (allocation_bits c.args.flags)) told.0 c.alloc_asked-answer.result (new g c) c.requires.counted told.2

pub returns-clause-total : goal.returns-clause-total
returns-clause-total g c =
    let told = c.alloc_asked-answer.ensures.answers in
    answers_total (keeps_books g.S.Store.rule g.met.S.Store.lawful (old g c) c.keeps_sound.ensures c.in-Some.ask (allocation_bits c.args.flags)) told.0 c.alloc_asked-answer.result (new g c) told.2
