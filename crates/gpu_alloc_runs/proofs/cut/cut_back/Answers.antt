use Rattle.std.proofs.Common.{true, refl, arith, ap}
use Rattle.std.proofs.lemmas.Bool.Decides.{Decides-ltb}
use Rattle.gpu_alloc_runs.specs.Filed.{AreFreeFiled, KeepsEnds}
use Rattle.gpu_alloc_runs.specs.Inside.{chunk_size_in, row_size}
use Rattle.gpu_alloc_runs.specs.Links.{AreNodesKept}
use Rattle.gpu_alloc_runs.proofs.Cuts.{back_cut, row_there}
use Rattle.gpu_alloc_runs.proofs.cut.cut_back.Given.{Over}
use Rattle.gpu_alloc_runs.proofs.cut.cut_back.Goals as goal

-- all that the cut leaves
left : (g : Over) (c : goal.After-file g) → AreNodesKept (chunk_size_in c.args.chunks.now) c.file.new.nodes × AreFreeFiled c.file.new.nodes c.file.new.classes × KeepsEnds c.args.tile.chunk c.args.nodes.now c.file.new.nodes
left g c =
    let whole = ap row_size c.index.ensures in
    back_cut (chunk_size_in c.args.chunks.now) c.args.nodes.now c.add-back.new.nodes c.set_end.new.nodes c.args.key c.add-back.result c.args.at c.index-2.result.now c.unlisted.result c.args.tile
    c.requires.kept c.index-2.ensures c.requires.live.0 c.add-back.ensures.was_vacant c.add-back.ensures.updates c.set_end.ensures.updates c.set_before.new.nodes c.file.new.nodes
    c.requires.within.0 (let ne = c.if-at-tile.false in let le = c.requires.within.1 in omega (arith, ne, le)) true c.unlisted.ensures.tile c.unlisted.ensures.before c.unlisted.ensures.after
    _ (λ h. (Decides-ltb c.args.tile.end c.index.result.now.size).1 (omega (arith, h, whole))) (λ h. let less = (Decides-ltb c.args.tile.end c.index.result.now.size).0 h in omega (arith, less, whole)) c.set_before.ensures.sets c.file.ensures.keeps
    c.args.classes.now c.file.new.classes c.add-back.ensures.keyed c.set_end.ensures.lists c.set_before.ensures.lists c.requires.filed c.requires.live.1 refl c.requires.right c.class_of.result c.class_of.ensures.class c.file.ensures.files c.file.ensures.lasts

pub returns-clause-kept : goal.returns-clause-kept
returns-clause-kept g c = (left g c).0

pub index-requires : goal.index-requires
index-requires g c = row_there c.args.chunks.now c.args.nodes.now c.args.key c.args.tile c.requires.kept c.requires.live.0

pub returns-clause-filed : goal.returns-clause-filed
returns-clause-filed g c = (left g c).1

pub returns-clause-ends : goal.returns-clause-ends
returns-clause-ends g c = (left g c).2
