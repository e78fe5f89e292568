use Rattle.std.proofs.Common.{ℕ, IfNone, IfSome, subst}
use Rattle.gpu_alloc_pairs.specs.Links.{IsOn}
use Rattle.gpu_alloc_pairs.proofs.Links.{first_links, pair_joins}
use Rattle.gpu_alloc_pairs.proofs.ring.link.Goals as goal

pub returns-in-None-clause-linked : goal.returns-in-None-clause-linked
returns-in-None-clause-linked g c later slot u fits =
    let none = subst (λ o. IfNone o ((k : ℕ) → IsOn c.args.pairs.now k → ⊥)) c.in-None.is c.requires.linked.first_none in
    first_links c.args.pairs.now later c.args.key slot u c.args.side none fits

pub returns-in-Some-clause-linked : goal.returns-in-Some-clause-linked
returns-in-Some-clause-linked g c later slot u fits =
    let on = subst (λ o. IfSome o (IsOn c.args.pairs.now)) c.in-Some.is c.requires.linked.first_on in
    pair_joins c.args.pairs.now c.replace_prev-last.new.pairs c.set_next.new.pairs later c.in-Some.first
    c.replace_prev-last.result c.args.key c.args.side slot c.requires.linked.ring on c.replace_prev-last.ensures.had
    c.requires.off c.replace_prev-last.ensures.sets c.set_next.ensures.sets u fits
