use Rattle.std.proofs.Common.{◌∙◌, sym}
use Rattle.gpu_alloc_pairs.proofs.Links.{last_leaves, pair_leaves}
use Rattle.gpu_alloc_pairs.proofs.ring.unlink.Goals as goal

pub returns-then-prev-key-clause-linked : goal.returns-then-prev-key-clause-linked
returns-then-prev-key-clause-linked g c later slot u off =
    last_leaves c.args.pairs.now later c.args.key slot u c.requires.ring c.requires.on
    (sym c.requires.prev ∙ c.if-prev-key.true) off

pub returns-clause-linked : goal.returns-clause-linked
returns-clause-linked g c later slot u off =
    pair_leaves c.args.pairs.now c.set_next.new.pairs c.replace_prev.new.pairs later c.args.next c.args.prev c.args.key
    slot c.requires.ring c.requires.on c.requires.next c.requires.prev c.if-prev-key.false c.set_next.ensures.sets
    c.replace_prev.ensures.sets u off
