use Rattle.std.proofs.Common.{Option, Some, None, IfNone, ◌∙◌, ap}
use Rattle.std.proofs.lemmas.List.{get_or_default}
use Rattle.slab.specs.Slab.{Slab, get}
use Rattle.gpu_alloc_pairs.specs.Entry.{Entry}
use Rattle.gpu_alloc_pairs.specs.Tree.{no_pairs}
use Rattle.gpu_alloc_pairs.proofs.lengths.look.Goals as goal

when_none : {T : Type 0} {P Q : Type 0} (o : Option T) → (P → Q) → IfNone o P → IfNone o Q
when_none None f h = f h
when_none (Some x) f h = tt

pub returns-clause-none : goal.returns-clause-none
returns-clause-none g c =
    let is = c.index-lengths-order.is ∙ get_or_default c.args.lengths.now c.args.order c.index-lengths-order.result no_pairs c.requires.in_range in
    when_none c.first.result
    (λ none key e side at free. none key side (record { entry = e; at = ap (λ (s : Slab Entry). get s key) is ∙ at; used = free }))
    c.first.ensures.none
