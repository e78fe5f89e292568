use Rattle.std.proofs.Common.{◌∙◌, false, refl, arith, ap}
use Rattle.std.proofs.lemmas.Bool.Decides.{Decides-ltb}
use Rattle.gpu_alloc_runs.specs.Classes.{class_of_bytes}
use Rattle.gpu_alloc_runs.specs.Filed.{AreFreeFiled, KeepsEnds}
use Rattle.gpu_alloc_runs.specs.Inside.{chunk_size_in, row_size}
use Rattle.gpu_alloc_runs.specs.Links.{AreNodesKept}
use Rattle.gpu_alloc_runs.specs.Tiles.{IsFreeRight, tile_in}
use Rattle.gpu_alloc_runs.proofs.Cuts.{end_cut, row_there, taken, taken_ends, taken_filed}
use Rattle.gpu_alloc_runs.proofs.cut.cut_end.Given.{Over}
use Rattle.gpu_alloc_runs.proofs.cut.cut_end.Goals as goal

pub returns-then-at-run-clause-kept : goal.returns-then-at-run-clause-kept
returns-then-at-run-clause-kept g c =
    taken (chunk_size_in c.args.chunks.now) c.args.nodes.now c.unfile.new.nodes c.set_free.new.nodes c.args.key c.args.run c.requires.kept c.requires.run.0 c.requires.run.1 c.unfile.ensures.keeps c.set_free.ensures.updates

pub returns-then-at-run-clause-filed : goal.returns-then-at-run-clause-filed
returns-then-at-run-clause-filed g c =
    taken_filed (chunk_size_in c.args.chunks.now) c.args.nodes.now c.unfile.new.nodes c.set_free.new.nodes c.args.key c.args.run c.requires.kept c.requires.run.0 c.requires.run.1 c.unfile.ensures.keeps c.set_free.ensures.updates
    c.args.classes.now c.unfile.new.classes c.class_of-was.result (c.class_of-was.ensures.class ∙ ap class_of_bytes c.bytes_of.ensures) c.requires.filed c.unfile.ensures.files c.set_free.ensures.lists

pub returns-then-at-run-clause-ends : goal.returns-then-at-run-clause-ends
returns-then-at-run-clause-ends g c =
    taken_ends (chunk_size_in c.args.chunks.now) c.args.nodes.now c.unfile.new.nodes c.set_free.new.nodes c.args.key c.args.run c.requires.kept c.requires.run.0 c.requires.run.1 c.unfile.ensures.keeps c.set_free.ensures.updates
    c.args.classes.now c.class_of-was.result (c.class_of-was.ensures.class ∙ ap class_of_bytes c.bytes_of.ensures) c.requires.filed c.unfile.ensures.lasts c.set_free.ensures.lists

pub index-requires : goal.index-requires
index-requires g c = row_there c.args.chunks.now c.args.nodes.now c.args.key c.args.run c.requires.kept c.requires.run.0

-- all that the cut leaves
left : (g : Over) (c : goal.After-refile g)
    → AreNodesKept (chunk_size_in c.args.chunks.now) c.refile.new.nodes × IsFreeRight c.add-block.result (tile_in c.refile.new.nodes) × AreFreeFiled c.refile.new.nodes c.refile.new.classes × KeepsEnds c.args.run.chunk c.args.nodes.now c.refile.new.nodes
left g c =
    let whole = ap row_size c.index.ensures in
    end_cut (chunk_size_in c.args.chunks.now) c.args.nodes.now c.add-block.new.nodes c.set_end.new.nodes c.args.key c.add-block.result c.args.at c.index-2.result.now c.unlisted.result c.args.run
    c.requires.kept c.index-2.ensures c.requires.run.0 c.add-block.ensures.was_vacant c.add-block.ensures.updates c.set_end.ensures.updates c.set_before.new.nodes c.refile.new.nodes
    (let ne = c.if-at-run.false in let le = c.requires.within.0 in omega (arith, ne, le)) c.requires.within.1 false c.unlisted.ensures.tile c.unlisted.ensures.before c.unlisted.ensures.after
    _ (λ h. (Decides-ltb c.args.run.end c.index.result.now.size).1 (omega (arith, h, whole))) (λ h. let less = (Decides-ltb c.args.run.end c.index.result.now.size).0 h in omega (arith, less, whole)) c.set_before.ensures.sets c.refile.ensures.keeps
    c.args.classes.now c.refile.new.classes c.add-block.ensures.keyed c.set_end.ensures.lists c.set_before.ensures.lists c.requires.filed c.requires.run.1 refl
    c.class_of-was.result c.class_of.result (c.class_of-was.ensures.class ∙ ap class_of_bytes c.bytes_of.ensures) c.class_of.ensures.class c.refile.ensures.files c.refile.ensures.lasts

pub returns-clause-kept : goal.returns-clause-kept
returns-clause-kept g c = (left g c).0

pub returns-clause-right : goal.returns-clause-right
returns-clause-right g c = (left g c).1

pub returns-clause-filed : goal.returns-clause-filed
returns-clause-filed g c = (left g c).2

pub returns-clause-ends : goal.returns-clause-ends
returns-clause-ends g c = (left g c).3
