use Rattle.std.proofs.Common.{◌≡◌, ◌∙◌, true, None, Some, ap, subst, sym, arith}
use Rattle.std.proofs.lemmas.Bool.Decides.{Decides-ltb}
use Rattle.gpu_alloc_runs.specs.Classes.{class_of_bytes}
use Rattle.gpu_alloc_runs.specs.Filed.{AreFreeFiledBut, KeepsEnds}
use Rattle.gpu_alloc_runs.specs.Inside.{chunk_size_in}
use Rattle.gpu_alloc_runs.specs.Links.{with_free}
use Rattle.gpu_alloc_runs.specs.Tiles.{IsFirst, KeepsElsewhere, tile_in}
use Rattle.gpu_alloc_runs.specs.declared.classes.Classes.{Classes}
use Rattle.gpu_alloc_runs.proofs.Joins.{IsJoined, beside_free, front_else, front_key, front_near, left_all, put_key, unnot}
use Rattle.gpu_alloc_runs.proofs.Nodes.{keeps_self, tile_of_node}
use Rattle.gpu_alloc_runs.proofs.join.join_before.Given.{Over}
use Rattle.gpu_alloc_runs.proofs.join.join_before.Goals as goal

pub look-front-requires : goal.look-front-requires
look-front-requires g c = front_key (chunk_size_in c.args.chunks.now) c.args.nodes.now c.args.place.key (with_free true c.args.place.node) c.requires.beside c.requires.at c.if-node-eq0.false

pub set_end-requires : goal.set_end-requires
set_end-requires g c =
    let other = front_else (chunk_size_in c.args.chunks.now) c.args.nodes.now c.args.place.key (with_free true c.args.place.node) c.requires.beside c.requires.at c.look-front.result c.if-node-eq0.false c.look-front.ensures.node in
    put_key c.args.nodes.now c.args.nodes.now c.remove.new.self (with_free true c.args.place.node).before c.args.place.key c.look-front.result c.look-front.ensures.node (λ e. other (sym e)) (keeps_self c.args.nodes.now) c.remove.ensures.updates

-- all that the join leaves
joined : (g : Over) (c : goal.After-class_of g) → IsJoined (chunk_size_in c.args.chunks.now) c.args.nodes.now c.set_before.new.nodes (with_free true c.args.place.node).before c.look-front.result.tile.chunk × IsFirst (with_free true c.args.place.node).before (tile_in c.set_before.new.nodes)
    × ((classes : Classes) → AreFreeFiledBut c.args.nodes.now classes c.args.place.key None → AreFreeFiledBut c.set_before.new.nodes classes (with_free true c.args.place.node).before (Some c.class_of.result)) × KeepsEnds c.look-front.result.tile.chunk c.args.nodes.now c.set_before.new.nodes
joined g c =
    let n = (with_free true c.args.place.node) in
    let size = chunk_size_in c.args.chunks.now in
    let other = front_else size c.args.nodes.now c.args.place.key n c.requires.beside c.requires.at c.look-front.result c.if-node-eq0.false c.look-front.ensures.node in
    let whole = c.requires.whole in
    left_all size c.args.nodes.now c.args.nodes.now c.remove.new.self c.set_end.new.nodes n.before c.args.place.key c.look-front.result n
    c.requires.beside.tiled c.requires.beside.linked c.look-front.ensures.node (unnot c.look-front.result.tile.free c.if-not-front.false) c.requires.at
    (beside_free size c.args.nodes.now c.args.place.key n c.requires.beside c.requires.at) (λ e. other (sym e)) (keeps_self c.args.nodes.now) c.remove.ensures.updates c.set_end.ensures.updates c.set_before.new.nodes
    (front_near size c.args.nodes.now c.args.place.key n c.requires.beside c.requires.at c.look-front.result c.if-node-eq0.false c.look-front.ensures.node)
    _ (λ h. (Decides-ltb n.tile.end c.args.place.whole).1 (omega (arith, h, whole))) (λ h. let less = (Decides-ltb n.tile.end c.args.place.whole).0 h in omega (arith, less, whole)) c.set_before.ensures.sets c.requires.beside.calm
    c.class_of.result (c.class_of.ensures.class ∙ ap class_of_bytes c.bytes_of.ensures) c.set_end.ensures.lists c.set_before.ensures.lists (λ k ne none. none)

pub returns-clause-beside : goal.returns-clause-beside
returns-clause-beside g c = (joined g c).0.beside

pub returns-clause-first : goal.returns-clause-first
returns-clause-first g c = (joined g c).1

-- the tile before is of its chunk
same : (g : Over) (c : goal.After-class_of g) → c.look-front.result.tile.chunk ≡ c.args.place.node.tile.chunk
same g c =
    (front_near (chunk_size_in c.args.chunks.now) c.args.nodes.now c.args.place.key (with_free true c.args.place.node) c.requires.beside c.requires.at c.look-front.result c.if-node-eq0.false c.look-front.ensures.node).chunk

pub returns-clause-lives : goal.returns-clause-lives
returns-clause-lives g c = (joined g c).0.lives

pub returns-clause-joint : goal.returns-clause-joint
returns-clause-joint g c = let j = (joined g c).0 in (j.beside.tile, record { at = j.beside.at; free = j.beside.free; chunk_is = j.of_chunk ∙ same g c })

pub returns-clause-elsewhere : goal.returns-clause-elsewhere
returns-clause-elsewhere g c = subst (λ chunk. KeepsElsewhere chunk (tile_in c.args.nodes.now) (tile_in c.set_before.new.nodes)) (same g c) (joined g c).0.elsewhere

pub bytes_of-requires : goal.bytes_of-requires
bytes_of-requires g c =
    omega (arith, c.requires.beside.tiled.nonempty (with_free true c.args.place.node).before c.look-front.result.tile (tile_of_node c.args.nodes.now (with_free true c.args.place.node).before c.look-front.result c.look-front.ensures.node))

pub returns-clause-filed : goal.returns-clause-filed
returns-clause-filed g c = (joined g c).2

pub returns-clause-ends : goal.returns-clause-ends
returns-clause-ends g c = subst (λ chunk. KeepsEnds chunk c.args.nodes.now c.set_before.new.nodes) (same g c) (joined g c).3
