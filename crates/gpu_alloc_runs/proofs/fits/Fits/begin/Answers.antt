use Rattle.std.proofs.Common.{◌≡◌, ◌-◌, true, None, Some, refl, sym, ◌∙◌, ap, subst, arith}
use Rattle.gpu_alloc_base.specs.declared.free_list_block.Slot.{Slot}
use Rattle.gpu_alloc_runs.specs.Classes.{class_of_bytes}
use Rattle.gpu_alloc_runs.specs.Fits.{FitStore, HasTileRooms}
use Rattle.gpu_alloc_runs.specs.Inside.{chunks_of_rows, fit_space_in}
use Rattle.gpu_alloc_runs.specs.Space.{IsUnheld, with_chunk, with_slot}
use Rattle.gpu_alloc_runs.specs.declared.fits.Chunk.{Chunk as Row}
use Rattle.gpu_alloc_runs.proofs.Filed.{free_comes, refiled_free}
use Rattle.gpu_alloc_runs.proofs.Held.{come_begins, come_kept, come_last, come_space, come_stored}
use Rattle.gpu_alloc_runs.proofs.InHand.{first_adds, first_leaves}
use Rattle.gpu_alloc_runs.proofs.Nodes.{tile_of_node}
use Rattle.gpu_alloc_runs.proofs.Stored.{sound}
use Rattle.gpu_alloc_runs.proofs.fits.Fits.begin.Given.{Over}
use Rattle.gpu_alloc_runs.proofs.fits.Fits.begin.Goals as goal

-- the row of the chunk that comes
abbrev row : (g : Over) → goal.After-new g → Row g.row.M.Denot
row g c = record { memory = c.args.memory; size = c.args.memory_size }

unheld : (g : Over) (c : goal.After-new g) → IsUnheld (fit_space_in (chunks_of_rows g.M.MemoryObject.object c.self.inside.chunks) c.self.inside.tiles) (g.M.MemoryObject.object c.args.memory)
unheld g c = subst (λ (s : FitStore). IsUnheld s.space (g.M.MemoryObject.object c.args.memory)) (sym c.self.view_is) c.requires.new_object

pub cut_out-block-requires-clause-kept : goal.cut_out-block-requires-clause-kept
cut_out-block-requires-clause-kept g c =
    come_kept g.M.MemoryObject.object c.self.inside.chunks c.insert_reserved-chunk.new.self c.self.inside.tiles c.add-key.new.nodes c.file.new.nodes c.file.new.nodes c.self.inside.spare c.self.invariant.stored
    c.insert_reserved-chunk.result c.add-key.result c.args.size (g.M.MemoryObject.object c.args.memory) (record { memory = c.args.memory; size = c.args.memory_size }) c.unlisted.result
    c.insert_reserved-chunk.ensures.was_vacant c.insert_reserved-chunk.ensures.updates c.add-key.ensures.was_vacant c.add-key.ensures.updates c.unlisted.ensures.tile
    c.file.ensures.keeps c.requires.nonempty c.requires.inside c.ranges.memory_size.fits refl (subst (λ (s : FitStore). IsUnheld s.space (g.M.MemoryObject.object c.args.memory)) (sym c.self.view_is) c.requires.new_object)

pub cut_out-block-requires-clause-filed : goal.cut_out-block-requires-clause-filed
cut_out-block-requires-clause-filed g c =
    let come = c.add-key.ensures in
    let at = come.updates.changed in
    refiled_free c.add-key.new.nodes c.file.new.nodes c.self.inside.classes c.file.new.classes c.add-key.result c.class_of.result None (record { chunk = c.insert_reserved-chunk.result; start = 0; end = c.args.memory_size; free = true }) c.file.ensures.keeps
    (tile_of_node c.add-key.new.nodes c.add-key.result c.unlisted.result at ∙ ap (λ t. Some t) c.unlisted.ensures.tile) refl (c.class_of.ensures.class ∙ ap class_of_bytes (let e : c.args.memory_size ≡ c.args.memory_size - 0 = omega arith in e))
    (free_comes c.self.inside.tiles c.add-key.new.nodes c.self.inside.classes c.add-key.result c.unlisted.result come.was_vacant come.updates come.keyed c.self.invariant.filed) c.file.ensures.files

pub cut_out-block-requires-clause-room : goal.cut_out-block-requires-clause-room
cut_out-block-requires-clause-room g c =
    let rooms = subst HasTileRooms (sym c.self.view_is) c.requires.room in
    omega (arith, rooms.tiles, c.add-key.ensures.len, c.add-key.ensures.capacity, c.file.ensures.len, c.file.ensures.capacity)

pub invariant_of-self : goal.invariant_of-self
invariant_of-self g c = record {
  stored = come_stored g.M.MemoryObject.object c.self.inside.chunks c.insert_reserved-chunk.new.self c.self.inside.tiles c.add-key.new.nodes c.file.new.nodes c.cut_out-block.new.nodes c.self.inside.spare c.self.invariant.stored
      c.insert_reserved-chunk.result c.add-key.result c.args.size (g.M.MemoryObject.object c.args.memory) (row g c) c.unlisted.result
      c.insert_reserved-chunk.ensures.was_vacant c.insert_reserved-chunk.ensures.updates c.add-key.ensures.was_vacant c.add-key.ensures.updates c.unlisted.ensures.tile
      c.file.ensures.keeps c.requires.nonempty c.requires.inside c.ranges.memory_size.fits refl (unheld g c) c.cut_out-block.result c.cut_out-block.ensures.added c.cut_out-block.ensures.live c.cut_out-block.ensures.others c.cut_out-block.ensures.elsewhere c.cut_out-block.ensures.kept;
  filed = c.cut_out-block.ensures.filed;
  whole_last = come_last g.M.MemoryObject.object c.self.inside.chunks c.insert_reserved-chunk.new.self c.self.inside.tiles c.add-key.new.nodes c.file.new.nodes c.cut_out-block.new.nodes c.self.inside.spare c.self.invariant.stored
      c.insert_reserved-chunk.result c.add-key.result c.args.size (g.M.MemoryObject.object c.args.memory) (row g c) c.unlisted.result
      c.insert_reserved-chunk.ensures.was_vacant c.insert_reserved-chunk.ensures.updates c.add-key.ensures.was_vacant c.add-key.ensures.updates c.unlisted.ensures.tile
      c.file.ensures.keeps c.requires.nonempty c.requires.inside c.ranges.memory_size.fits refl (unheld g c) c.cut_out-block.result c.cut_out-block.ensures.added c.cut_out-block.ensures.live c.cut_out-block.ensures.others c.cut_out-block.ensures.elsewhere c.cut_out-block.ensures.kept
      c.self.inside.classes (free_comes c.self.inside.tiles c.add-key.new.nodes c.self.inside.classes c.add-key.result c.unlisted.result c.add-key.ensures.was_vacant c.add-key.ensures.updates c.add-key.ensures.keyed c.self.invariant.filed)
      c.file.ensures.lasts c.cut_out-block.ensures.ends c.self.invariant.whole_last;
}

-- the block
block : (g : Over) (c : goal.After-new g) → c.new.result ≡ record { object = g.M.MemoryObject.object c.args.memory; chunk = c.insert_reserved-chunk.result; offset = 0; size = c.args.size }
block g c = c.new.ensures ∙ (λ i. record { object = c.object-object.ensures i; chunk = c.insert_reserved-chunk.result; offset = 0; size = c.args.size })

pub returns-clause-begins : goal.returns-clause-begins
returns-clause-begins g c =
    rw (← c.self.view_is)
    (come_begins g.M.MemoryObject.object c.self.inside.chunks c.insert_reserved-chunk.new.self c.self.inside.tiles c.add-key.new.nodes c.file.new.nodes c.cut_out-block.new.nodes c.self.inside.spare c.self.invariant.stored
    c.insert_reserved-chunk.result c.add-key.result c.args.size (g.M.MemoryObject.object c.args.memory) (row g c) c.unlisted.result
    c.insert_reserved-chunk.ensures.was_vacant c.insert_reserved-chunk.ensures.updates c.add-key.ensures.was_vacant c.add-key.ensures.updates c.unlisted.ensures.tile
    c.file.ensures.keeps c.requires.nonempty c.requires.inside c.ranges.memory_size.fits refl (unheld g c) c.new.result (block g c))

after : (g : Over) (c : goal.After-new g)
    → fit_space_in (chunks_of_rows g.M.MemoryObject.object c.insert_reserved-chunk.new.self) c.cut_out-block.new.nodes ≡ with_slot (with_chunk c.args.self.now.space c.new.result c.args.memory_size) c.new.result
after g c =
    come_space g.M.MemoryObject.object c.self.inside.chunks c.insert_reserved-chunk.new.self c.self.inside.tiles c.add-key.new.nodes c.file.new.nodes c.cut_out-block.new.nodes c.self.inside.spare c.self.invariant.stored
    c.insert_reserved-chunk.result c.add-key.result c.args.size (g.M.MemoryObject.object c.args.memory) (row g c) c.unlisted.result
    c.insert_reserved-chunk.ensures.was_vacant c.insert_reserved-chunk.ensures.updates c.add-key.ensures.was_vacant c.add-key.ensures.updates c.unlisted.ensures.tile
    c.file.ensures.keeps c.requires.nonempty c.requires.inside c.ranges.memory_size.fits refl (unheld g c) c.cut_out-block.result c.cut_out-block.ensures.added c.cut_out-block.ensures.live c.cut_out-block.ensures.others c.cut_out-block.ensures.elsewhere c.cut_out-block.ensures.kept c.new.result (block g c)
    ∙ ap (λ (s : FitStore). with_slot (with_chunk s.space c.new.result c.args.memory_size) c.new.result) c.self.view_is

pub returns-clause-space : goal.returns-clause-space
returns-clause-space g c = after g c

pub returns-clause-added : goal.returns-clause-added
returns-clause-added g c =
    let is = block g c in
    let held = sound g.M.MemoryObject.object c.self.inside.chunks c.self.inside.tiles c.self.invariant.stored.kept c.self.inside.spare c.self.invariant.stored in
    first_adds c.args.self.now.space _ c.args.size c.args.memory_size c.new.result (rw (← c.self.view_is) held) c.requires.nonempty (ap (λ (s : Slot). s.size) is)
    (subst (IsUnheld c.args.self.now.space) (sym (ap (λ (s : Slot). s.object) is)) c.requires.new_object) (after g c)

pub returns-clause-leaves : goal.returns-clause-leaves
returns-clause-leaves g c = first_leaves c.args.self.now.space _ c.args.memory_size c.new.result (after g c)
