use Rattle.std.proofs.Common.{◌≡◌, ℕ, None, Some, option_map, refl, sym, ◌∙◌, ap, subst}
use Rattle.gpu_alloc_base.proofs.SlabViews.{get_by_key}
use Rattle.gpu_alloc_runs.specs.Classes.{class_of_bytes}
use Rattle.gpu_alloc_runs.specs.Filed.{AreFreeFiledBut}
use Rattle.gpu_alloc_runs.specs.Inside.{IsSpareTile, IsTheWhole, chunk_of_row, chunk_size_in, chunks_of_rows, fit_space_in}
use Rattle.gpu_alloc_runs.specs.Space.{FitSpace, IsWhollyFree, without_chunk}
use Rattle.gpu_alloc_runs.specs.Tiles.{KeepsLive, tile_in}
use Rattle.gpu_alloc_runs.specs.declared.tile.Tile.{Tile}
use Rattle.gpu_alloc_runs.proofs.Ends.{none_last}
use Rattle.gpu_alloc_runs.proofs.Filed.{free_but, left_free}
use Rattle.gpu_alloc_runs.proofs.Held.{gone_space, gone_stored, was_wholly}
use Rattle.gpu_alloc_runs.proofs.Nodes.{keeps_kept, tile_of_node, with_tiles_back}
use Rattle.gpu_alloc_runs.proofs.Stored.{whole_is_free}
use Rattle.gpu_alloc_runs.proofs.Tiles.{one_tile}
use Rattle.gpu_alloc_runs.proofs.fits.Fits.take_whole.Given.{Over}
use Rattle.gpu_alloc_runs.proofs.fits.Fits.take_whole.Goals as goal

-- the space before the call
abbrev space : (g : Over) → goal.After-let_chunk_go-memory g → FitSpace
space g c = fit_space_in (chunks_of_rows g.M.MemoryObject.object c.self.inside.chunks) c.self.inside.tiles

-- the wholly free chunk
whole : (g : Over) (c : goal.After-let_chunk_go-memory g) → IsTheWhole (space g c) (chunk_size_in c.self.inside.chunks) (tile_in c.self.inside.tiles) c.in_ok-key.key
whole g c = subst (IsSpareTile (space g c) (chunk_size_in c.self.inside.chunks) (tile_in c.self.inside.tiles)) c.in_ok-key.was c.self.invariant.stored.spare_is

at : (g : Over) (c : goal.After-let_chunk_go-memory g) → tile_in c.self.inside.tiles c.in_ok-key.key ≡ Some c.index.result.now.tile
at g c = tile_of_node c.self.inside.tiles c.in_ok-key.key c.index.result.now c.index.ensures

tile : (g : Over) (c : goal.After-let_chunk_go-memory g) → (whole g c).whole.tile ≡ c.index.result.now.tile
tile g c = one_tile (tile_in c.self.inside.tiles) c.in_ok-key.key c.in_ok-key.key (whole g c).whole.tile c.index.result.now.tile (whole g c).whole.at (at g c) refl

same : (g : Over) (c : goal.After-let_chunk_go-memory g) → (whole g c).chunk ≡ c.index.result.now.tile.chunk
same g c = sym (whole g c).whole.chunk_is ∙ ap (λ (t : Tile). t.chunk) (tile g c)

free : (g : Over) (c : goal.After-let_chunk_go-memory g) → IsWhollyFree (space g c) c.index.result.now.tile.chunk
free g c =
    subst (IsWhollyFree (space g c)) (same g c)
    (whole_is_free g.M.MemoryObject.object c.self.inside.chunks c.self.inside.tiles c.self.invariant.stored.kept c.in_ok-key.key (whole g c).chunk (whole g c).whole)

pub let_chunk_go-memory-requires-clause-kept : goal.let_chunk_go-memory-requires-clause-kept
let_chunk_go-memory-requires-clause-kept g c = keeps_kept c.self.inside.tiles c.unfile.new.nodes c.unfile.ensures.keeps (chunk_size_in c.self.inside.chunks) c.self.invariant.stored.kept

-- its list doesn't matter
lives : (g : Over) (c : goal.After-let_chunk_go-memory g) → KeepsLive (tile_in c.self.inside.tiles) (tile_in c.let_chunk_go-memory.new.tiles)
lives g c = with_tiles_back c.self.inside.tiles c.unfile.new.nodes c.unfile.ensures.keeps (λ T. KeepsLive T (tile_in c.let_chunk_go-memory.new.tiles)) c.let_chunk_go-memory.ensures.lives

after : (g : Over) (c : goal.After-let_chunk_go-memory g) → fit_space_in (chunks_of_rows g.M.MemoryObject.object c.let_chunk_go-memory.new.chunks) c.let_chunk_go-memory.new.tiles ≡ without_chunk (space g c) c.index.result.now.tile.chunk
after g c =
    gone_space g.M.MemoryObject.object c.self.inside.chunks c.let_chunk_go-memory.new.chunks c.self.inside.tiles c.let_chunk_go-memory.new.tiles c.index.result.now.tile.chunk _ c.let_chunk_go-memory.ensures.row c.let_chunk_go-memory.ensures.updates (lives g c) c.let_chunk_go-memory.ensures.kept

none : (g : Over) (c : goal.After-let_chunk_go-memory g) (key : ℕ) → IsWhollyFree (fit_space_in (chunks_of_rows g.M.MemoryObject.object c.let_chunk_go-memory.new.chunks) c.let_chunk_go-memory.new.tiles) key → ⊥
none g c key w =
    let was = was_wholly g.M.MemoryObject.object c.self.inside.chunks c.let_chunk_go-memory.new.chunks c.self.inside.tiles c.let_chunk_go-memory.new.tiles c.index.result.now.tile.chunk _ c.let_chunk_go-memory.ensures.row c.let_chunk_go-memory.ensures.updates (lives g c) c.let_chunk_go-memory.ensures.kept key w in
    was.0 ((whole g c).only key was.1 ∙ same g c)

pub returns-clause-rest : goal.returns-clause-rest
returns-clause-rest g c = none g c

unfiled : (g : Over) (c : goal.After-let_chunk_go-memory g) → AreFreeFiledBut c.unfile.new.nodes c.unfile.new.classes c.in_ok-key.key None
unfiled g c =
    left_free c.self.inside.tiles c.unfile.new.nodes c.self.inside.classes c.unfile.new.classes c.in_ok-key.key (Some c.class_of.result) c.unfile.ensures.keeps
    (free_but c.self.inside.tiles c.self.inside.classes c.in_ok-key.key c.class_of.result c.index.result.now.tile (at g c) (ap (λ (t : Tile). t.free) (sym (tile g c)) ∙ (whole g c).whole.free) (c.class_of.ensures.class ∙ ap class_of_bytes c.bytes_of.ensures) c.self.invariant.filed)
    c.unfile.ensures.files

pub invariant_of-self : goal.invariant_of-self
invariant_of-self g c =
    let stored = gone_stored g.M.MemoryObject.object c.self.inside.chunks c.let_chunk_go-memory.new.chunks c.self.inside.tiles c.let_chunk_go-memory.new.tiles c.index.result.now.tile.chunk _ c.let_chunk_go-memory.ensures.row c.let_chunk_go-memory.ensures.updates (lives g c) c.let_chunk_go-memory.ensures.kept
    None c.self.invariant.stored.sizes c.self.invariant.stored.one_object (none g c) in
    record {
      stored = stored;
      filed = c.let_chunk_go-memory.ensures.filed c.unfile.new.classes (unfiled g c);
      whole_last = none_last g.M.MemoryObject.object c.let_chunk_go-memory.new.chunks c.let_chunk_go-memory.new.tiles stored;
    }

pub returns-clause-some : goal.returns-clause-some
returns-clause-some g c =
    rw (← c.self.view_is) (
      free g c,
      (get_by_key (chunk_of_row g.M.MemoryObject.object) c.self.inside.chunks c.index.result.now.tile.chunk ∙ ap (option_map (chunk_of_row g.M.MemoryObject.object)) c.let_chunk_go-memory.ensures.row, after g c),
    )

pub returns-clause-live : goal.returns-clause-live
returns-clause-live g c = rw (← c.self.view_is) (ap (λ (s : FitSpace). s.live) (after g c))
