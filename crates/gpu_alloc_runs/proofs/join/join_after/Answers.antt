use Rattle.std.proofs.Common.{◌≡◌, ◌≢◌, ◌∙◌, ℕ, true, Option, Some, ap, subst, refl, sym, arith}
use Rattle.std.proofs.lemmas.Bool.Decides.{Decides-ltb}
use Rattle.gpu_alloc_runs.specs.Classes.{class_of_bytes}
use Rattle.gpu_alloc_runs.specs.Filed.{AreFreeFiledBut, KeepsEnds}
use Rattle.gpu_alloc_runs.specs.Inside.{chunk_size_in}
use Rattle.gpu_alloc_runs.specs.Links.{AreNodesKept}
use Rattle.gpu_alloc_runs.specs.Tiles.{AreNeighbours, KeepsElsewhere, tile_in}
use Rattle.gpu_alloc_runs.specs.declared.tile.Tile.{Tile}
use Rattle.gpu_alloc_runs.proofs.Joins.{IsJoined, at_end, back_all, back_else, back_key, back_near, beside_free, kept_beside, put_key, unnot}
use Rattle.gpu_alloc_runs.proofs.Nodes.{tile_of_node}
use Rattle.gpu_alloc_runs.proofs.Tiles.{one_tile}
use Rattle.gpu_alloc_runs.proofs.join.join_after.Given.{Over}
use Rattle.gpu_alloc_runs.proofs.join.join_after.Goals as goal

pub returns-then-node-whole-clause-kept : goal.returns-then-node-whole-clause-kept
returns-then-node-whole-clause-kept g c =
    kept_beside (chunk_size_in c.args.chunks.now) c.args.nodes.now c.args.key c.index-node.result.now c.requires.beside c.index-node.ensures c.requires.first
    (at_end (chunk_size_in c.args.chunks.now) c.args.nodes.now c.args.key c.index-node.result.now c.requires.beside c.index-node.ensures
    (c.if-node-whole.true ∙ sym (c.requires.whole c.index-node.result.now.tile (tile_of_node c.args.nodes.now c.args.key c.index-node.result.now c.index-node.ensures))))

pub look-back-requires : goal.look-back-requires
look-back-requires g c =
    let size_is = c.requires.whole c.index-node.result.now.tile (tile_of_node c.args.nodes.now c.args.key c.index-node.result.now c.index-node.ensures) in
    back_key (chunk_size_in c.args.chunks.now) c.args.nodes.now c.args.key c.index-node.result.now c.requires.beside c.index-node.ensures (λ same. c.if-node-whole.false (same ∙ size_is))

pub set_end-requires : goal.set_end-requires
set_end-requires g c =
    let size_is = c.requires.whole c.index-node.result.now.tile (tile_of_node c.args.nodes.now c.args.key c.index-node.result.now c.index-node.ensures) in
    put_key c.args.nodes.now c.unfile.new.nodes c.remove.new.self c.args.key c.index-node.result.now.after c.index-node.result.now c.index-node.ensures
    (back_else (chunk_size_in c.args.chunks.now) c.args.nodes.now c.args.key c.index-node.result.now c.requires.beside c.index-node.ensures c.look-back.result (λ same. c.if-node-whole.false (same ∙ size_is)) c.look-back.ensures.node)
    c.unfile.ensures.keeps c.remove.ensures.updates

-- the tile is not at the end of its chunk
less : (g : Over) (c : goal.After-set_before g) → c.index-node.result.now.tile.end ≢ chunk_size_in c.args.chunks.now c.index-node.result.now.tile.chunk
less g c same = c.if-node-whole.false (same ∙ c.requires.whole c.index-node.result.now.tile (tile_of_node c.args.nodes.now c.args.key c.index-node.result.now c.index-node.ensures))

near : (g : Over) (c : goal.After-set_before g) → AreNeighbours c.index-node.result.now.tile c.look-back.result.tile
near g c = back_near (chunk_size_in c.args.chunks.now) c.args.nodes.now c.args.key c.index-node.result.now c.requires.beside c.index-node.ensures c.look-back.result (less g c) c.look-back.ensures.node

whole : (g : Over) (c : goal.After-set_before g) → chunk_size_in c.args.chunks.now c.look-back.result.tile.chunk ≡ c.args.whole
whole g c =
    ap (chunk_size_in c.args.chunks.now) (sym (near g c).chunk) ∙ c.requires.whole c.index-node.result.now.tile (tile_of_node c.args.nodes.now c.args.key c.index-node.result.now c.index-node.ensures)

-- all that the join leaves
joined : (g : Over) (c : goal.After-set_before g) → IsJoined (chunk_size_in c.args.chunks.now) c.args.nodes.now c.set_before.new.nodes c.args.key c.index-node.result.now.tile.chunk × AreNodesKept (chunk_size_in c.args.chunks.now) c.set_before.new.nodes
    × (tile_in c.set_before.new.nodes c.args.key ≡ Some (record { chunk = c.index-node.result.now.tile.chunk; start = c.index-node.result.now.tile.start; end = c.look-back.result.tile.end; free = true }))
    × ((class : Option ℕ) → AreFreeFiledBut c.args.nodes.now c.args.classes.now c.args.key class → AreFreeFiledBut c.set_before.new.nodes c.unfile.new.classes c.args.key class × KeepsEnds c.index-node.result.now.tile.chunk c.args.nodes.now c.set_before.new.nodes)
joined g c =
    back_all (chunk_size_in c.args.chunks.now) c.args.nodes.now c.unfile.new.nodes c.remove.new.self c.set_end.new.nodes c.args.key c.index-node.result.now.after c.index-node.result.now c.look-back.result
    c.requires.beside.tiled c.requires.beside.linked c.index-node.ensures (beside_free (chunk_size_in c.args.chunks.now) c.args.nodes.now c.args.key c.index-node.result.now c.requires.beside c.index-node.ensures) c.look-back.ensures.node
    (unnot c.look-back.result.tile.free c.if-not-back.false)
    (back_else (chunk_size_in c.args.chunks.now) c.args.nodes.now c.args.key c.index-node.result.now c.requires.beside c.index-node.ensures c.look-back.result (less g c) c.look-back.ensures.node)
    c.unfile.ensures.keeps c.remove.ensures.updates c.set_end.ensures.updates c.set_before.new.nodes (near g c)
    _ (λ h. (Decides-ltb c.look-back.result.tile.end c.args.whole).1 (let w = whole g c in omega (arith, h, w)))
    (λ h. let l = (Decides-ltb c.look-back.result.tile.end c.args.whole).0 h in let w = whole g c in omega (arith, l, w)) c.set_before.ensures.sets c.requires.beside.calm
    c.requires.first c.args.classes.now c.unfile.new.classes c.class_of.result (c.class_of.ensures.class ∙ ap class_of_bytes c.bytes_of.ensures) c.unfile.ensures.files c.unfile.ensures.lasts c.set_end.ensures.lists c.set_before.ensures.lists

pub returns-clause-kept : goal.returns-clause-kept
returns-clause-kept g c = (joined g c).1

pub returns-clause-lives : goal.returns-clause-lives
returns-clause-lives g c = (joined g c).0.lives

-- of each tile that stands under the key
same : (g : Over) (c : goal.After-set_before g) (a : Tile) → tile_in c.args.nodes.now c.args.key ≡ Some a → c.index-node.result.now.tile.chunk ≡ a.chunk
same g c a at =
    ap (λ (t : Tile). t.chunk) (one_tile (tile_in c.args.nodes.now) c.args.key c.args.key c.index-node.result.now.tile a (tile_of_node c.args.nodes.now c.args.key c.index-node.result.now c.index-node.ensures) at refl)

pub returns-clause-elsewhere : goal.returns-clause-elsewhere
returns-clause-elsewhere g c a at = subst (λ chunk. KeepsElsewhere chunk (tile_in c.args.nodes.now) (tile_in c.set_before.new.nodes)) (same g c a at) (joined g c).0.elsewhere

pub returns-clause-joint : goal.returns-clause-joint
returns-clause-joint g c a at = record { at = (joined g c).2; free = refl; chunk_is = same g c a at }

pub bytes_of-requires : goal.bytes_of-requires
bytes_of-requires g c =
    omega (arith, c.requires.beside.tiled.nonempty c.index-node.result.now.after c.look-back.result.tile (tile_of_node c.args.nodes.now c.index-node.result.now.after c.look-back.result c.look-back.ensures.node))

pub returns-clause-filed : goal.returns-clause-filed
returns-clause-filed g c class filed = ((joined g c).3 class filed).0

pub returns-clause-ends : goal.returns-clause-ends
returns-clause-ends g c class filed a at = subst (λ chunk. KeepsEnds chunk c.args.nodes.now c.set_before.new.nodes) (same g c a at) ((joined g c).3 class filed).1
