use Rattle.std.proofs.Common.{◌<◌, length, sym, ◌∙◌, subst, arith}
use Rattle.std.proofs.lemmas.List.{get_or_default}
use Rattle.gpu_alloc_pairs.specs.Length.{AreBounded}
use Rattle.gpu_alloc_pairs.specs.Tree.{no_pairs}
use Rattle.gpu_alloc_pairs.proofs.ListedHalves.{no_length, one_length}
use Rattle.gpu_alloc_pairs.proofs.lengths.free_pieces.Goals as goal

pub loop-n-init : goal.loop-n-init
loop-n-init g c = c.new-pieces.ensures.items ∙ sym no_length

pub list_free-requires-clause-bounded : goal.list_free-requires-clause-bounded
list_free-requires-clause-bounded g c =
    let in_range : c.loop-n.n < length c.args.lengths.now.items = omega (arith, c.requires.all, c.loop-n-test.true) in
    let is = c.index.ensures ∙ get_or_default c.args.lengths.now.items c.loop-n.n c.index.result.now no_pairs in_range in
    subst (AreBounded c.loop-n.n) (sym is) (c.requires.bounded c.loop-n.n)

pub loop-n-preserved : goal.loop-n-preserved
loop-n-preserved g c =
    let in_range : c.loop-n.n < length c.args.lengths.now.items = omega (arith, c.requires.all, c.loop-n-test.true) in
    one_length c.args.lengths.now.items c.loop-n.n c.index.result.now c.index.result.now c.loop-n.pieces.items c.list_free.new.pieces.items in_range (sym c.index.ensures)
    c.loop-n.invariant c.in_ok-list_free.ensures.listed
