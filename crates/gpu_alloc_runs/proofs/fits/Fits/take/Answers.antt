use Rattle.std.proofs.Common.{◌≡◌, ◌+◌, Some, IsSome, refl, sym, ◌∙◌, ap, subst, arith}
use Rattle.slab.specs.Slab.{Slab}
use Rattle.gpu_alloc_runs.specs.Choice.{IsChosenRun}
use Rattle.gpu_alloc_runs.specs.Fits.{FitStore}
use Rattle.gpu_alloc_runs.specs.Inside.{IsStoredInTiles, chunk_size_in, chunks_of_rows, fit_space_in}
use Rattle.gpu_alloc_runs.specs.Space.{HasPlace, IsFitting, IsFreeIn, LooksAtFew, chunk_bytes, with_slot}
use Rattle.gpu_alloc_runs.specs.Tiles.{HasRoomIn, tile_in, tile_region}
use Rattle.gpu_alloc_runs.specs.declared.tile.Node.{Node}
use Rattle.gpu_alloc_runs.proofs.Cuts.{row_there}
use Rattle.gpu_alloc_runs.proofs.Ends.{used_last}
use Rattle.gpu_alloc_runs.proofs.Filed.{same_slots}
use Rattle.gpu_alloc_runs.proofs.InHand.{fit_adds, fit_leaves, same_leaves}
use Rattle.gpu_alloc_runs.proofs.Runs.{has_place}
use Rattle.gpu_alloc_runs.proofs.Stored.{block_bounded, block_fits, block_is, refused, same_space, sound, store_same, stored_same, taken_space, taken_stored}
use Rattle.gpu_alloc_runs.proofs.fits.Fits.take.Given.{Over}
use Rattle.gpu_alloc_runs.proofs.fits.Fits.take.Goals as goal

pub returns-in_default-clause-takes : goal.returns-in_default-clause-takes
returns-in_default-clause-takes g c = (subst (λ (s : FitStore). HasPlace s.space c.args.size (c.args.align_mask + 1) → ⊥) c.self.view_is c.in_default.ensures.place, refl)

-- Only room has changed.

pub invariant_of-self : goal.invariant_of-self
invariant_of-self g c =
    store_same g.M.MemoryObject.object c.self.inside.chunks c.self.inside.chunks c.self.inside.tiles c.make_room.new.tiles refl (ap (λ s. s.slots) c.make_room.ensures.rest_kept) c.self.inside.classes c.self.inside.spare c.self.invariant

pub returns-in_err-make_room-clause-takes : goal.returns-in_err-make_room-clause-takes
returns-in_err-make_room-clause-takes g c =
    rw (← c.self.view_is)
    (refused _ _ c.args.size (c.args.align_mask + 1) c.from_residual.result c.from_residual.ensures.0
    (has_place g.M.MemoryObject.object c.self.inside.chunks c.self.inside.tiles c.self.invariant.stored.kept c.args.size (c.args.align_mask + 1) (omega arith) c.in-Some.key (c.in-Some.run', (c.in-Some.ensures.place.at, (c.in-Some.ensures.place.free, c.in-Some.ensures.place.chosen.room))))
    (same_space g.M.MemoryObject.object c.self.inside.chunks c.self.inside.chunks c.self.inside.tiles c.make_room.new.tiles refl (ap (λ s. s.slots) c.make_room.ensures.rest_kept)))

pub returns-in_err-make_room-clause-leaves : goal.returns-in_err-make_room-clause-leaves
returns-in_err-make_room-clause-leaves g c =
    rw (← c.self.view_is) (same_leaves _ _ (same_space g.M.MemoryObject.object c.self.inside.chunks c.self.inside.chunks c.self.inside.tiles c.make_room.new.tiles refl (ap (λ s. s.slots) c.make_room.ensures.rest_kept)))

pub invariant_of-self-in_err-memory : goal.invariant_of-self-in_err-memory
invariant_of-self-in_err-memory g c =
    store_same g.M.MemoryObject.object c.self.inside.chunks c.self.inside.chunks c.self.inside.tiles c.make_room.new.tiles refl (ap (λ s. s.slots) c.make_room.ensures.rest_kept) c.self.inside.classes c.self.inside.spare c.self.invariant

pub returns-in_err-memory-clause-takes : goal.returns-in_err-memory-clause-takes
returns-in_err-memory-clause-takes g c =
    rw (← c.self.view_is)
    (refused _ _ c.args.size (c.args.align_mask + 1) c.from_residual-in_err-memory.result c.from_residual-in_err-memory.ensures.0
    (has_place g.M.MemoryObject.object c.self.inside.chunks c.self.inside.tiles c.self.invariant.stored.kept c.args.size (c.args.align_mask + 1) (omega arith) c.in-Some.key (c.in-Some.run', (c.in-Some.ensures.place.at, (c.in-Some.ensures.place.free, c.in-Some.ensures.place.chosen.room))))
    (same_space g.M.MemoryObject.object c.self.inside.chunks c.self.inside.chunks c.self.inside.tiles c.make_room.new.tiles refl (ap (λ s. s.slots) c.make_room.ensures.rest_kept)))

pub returns-in_err-memory-clause-leaves : goal.returns-in_err-memory-clause-leaves
returns-in_err-memory-clause-leaves g c =
    rw (← c.self.view_is) (same_leaves _ _ (same_space g.M.MemoryObject.object c.self.inside.chunks c.self.inside.chunks c.self.inside.tiles c.make_room.new.tiles refl (ap (λ s. s.slots) c.make_room.ensures.rest_kept)))

-- A block is taken.

-- what is kept once there is room
roomy : (g : Over) (c : goal.After-new g) → IsStoredInTiles g.M.MemoryObject.object c.self.inside.chunks c.make_room.new.tiles c.self.inside.spare
roomy g c =
    stored_same g.M.MemoryObject.object c.self.inside.chunks c.self.inside.chunks c.self.inside.tiles c.make_room.new.tiles refl (ap (λ s. s.slots) c.make_room.ensures.rest_kept) c.self.inside.spare c.self.invariant.stored

pub index-requires : goal.index-requires
index-requires g c =
    let kept = (stored_same g.M.MemoryObject.object c.self.inside.chunks c.self.inside.chunks c.self.inside.tiles c.make_room.new.tiles refl (ap (λ s. s.slots) c.make_room.ensures.rest_kept) c.self.inside.spare c.self.invariant.stored).kept in
    row_there c.self.inside.chunks c.make_room.new.tiles c.in-Some.key c.in-Some.run' kept (subst (λ (s : Slab Node). tile_in s c.in-Some.key ≡ Some c.in-Some.run') (sym c.make_room.ensures.rest_kept) c.in-Some.ensures.place.at)

pub cut_out-block-requires-clause-kept : goal.cut_out-block-requires-clause-kept
cut_out-block-requires-clause-kept g c =
    (stored_same g.M.MemoryObject.object c.self.inside.chunks c.self.inside.chunks c.self.inside.tiles c.make_room.new.tiles refl (ap (λ s. s.slots) c.make_room.ensures.rest_kept) c.self.inside.spare c.self.invariant.stored).kept

pub cut_out-block-requires-clause-filed : goal.cut_out-block-requires-clause-filed
cut_out-block-requires-clause-filed g c = same_slots c.self.inside.tiles c.make_room.new.tiles c.self.inside.classes (ap (λ s. s.slots) c.make_room.ensures.rest_kept) c.self.invariant.filed

pub overflow_add-end : goal.overflow_add-end
overflow_add-end g c =
    let kept = (stored_same g.M.MemoryObject.object c.self.inside.chunks c.self.inside.chunks c.self.inside.tiles c.make_room.new.tiles refl (ap (λ s. s.slots) c.make_room.ensures.rest_kept) c.self.inside.spare c.self.invariant.stored).kept in
    let at = subst (λ (s : Slab Node). tile_in s c.in-Some.key ≡ Some c.in-Some.run') (sym c.make_room.ensures.rest_kept) c.in-Some.ensures.place.at in
    let bounded = block_bounded g.M.MemoryObject.object c.self.inside.chunks c.make_room.new.tiles kept c.args.size c.args.align_mask c.in-Some.key c.in-Some.run' at
    (c.in-Some.ensures.place.free, c.in-Some.ensures.place.chosen.room) c.last_start-start.result c.last_start-start.ensures c.self.invariant.stored.sizes in
    omega (arith, bounded)

at_run : (g : Over) (c : goal.After-new g) → tile_in c.make_room.new.tiles c.in-Some.key ≡ Some c.in-Some.run'
at_run g c = subst (λ (s : Slab Node). tile_in s c.in-Some.key ≡ Some c.in-Some.run') (sym c.make_room.ensures.rest_kept) c.in-Some.ensures.place.at

room : (g : Over) (c : goal.After-new g) → HasRoomIn c.args.size (c.args.align_mask + 1) c.in-Some.run'
room g c = (c.in-Some.ensures.place.free, c.in-Some.ensures.place.chosen.room)

chosen : (g : Over) (c : goal.After-new g)
    → IsChosenRun (IsFreeIn (fit_space_in (chunks_of_rows g.M.MemoryObject.object c.self.inside.chunks) c.make_room.new.tiles)) (chunk_bytes (fit_space_in (chunks_of_rows g.M.MemoryObject.object c.self.inside.chunks) c.make_room.new.tiles)) c.args.size (c.args.align_mask + 1) (tile_region c.in-Some.run')
chosen g c =
    subst (λ s. IsChosenRun (IsFreeIn s) (chunk_bytes s) c.args.size (c.args.align_mask + 1) (tile_region c.in-Some.run'))
    (sym (same_space g.M.MemoryObject.object c.self.inside.chunks c.self.inside.chunks c.self.inside.tiles c.make_room.new.tiles refl (ap (λ s. s.slots) c.make_room.ensures.rest_kept))) c.in-Some.ensures.place.chosen

-- the block by its chunk's row
block : (g : Over) (c : goal.After-new g) → c.new.result ≡ record { object = g.M.MemoryObject.object c.index.result.now.memory; chunk = c.in-Some.run'.chunk; offset = c.last_start-start.result; size = c.args.size }
block g c =
    let named = c.object.ensures ∙ c.in_ok-memory.ensures in
    c.new.ensures ∙ (λ i. record { object = named i; chunk = c.in-Some.run'.chunk; offset = c.last_start-start.result; size = c.args.size })

pub invariant_of-self-2 : goal.invariant_of-self-2
invariant_of-self-2 g c = record {
  stored = taken_stored g.M.MemoryObject.object c.self.inside.chunks c.make_room.new.tiles c.cut_out-block.new.nodes c.self.inside.spare (roomy g c) c.cut_out-block.result c.in-Some.key c.in-Some.run' _ (at_run g c) c.cut_out-block.ensures.added
      c.cut_out-block.ensures.live refl c.cut_out-block.ensures.others c.cut_out-block.ensures.elsewhere c.cut_out-block.ensures.kept c.forget.new.spare c.forget.ensures;
  filed = c.cut_out-block.ensures.filed;
  whole_last = used_last (chunk_size_in c.self.inside.chunks) (chunk_size_in c.self.inside.chunks) c.make_room.new.tiles c.cut_out-block.new.nodes c.in-Some.run'.chunk (λ k ne. refl) (roomy g c).kept c.cut_out-block.ensures.kept c.cut_out-block.ensures.elsewhere c.cut_out-block.ensures.ends
      (store_same g.M.MemoryObject.object c.self.inside.chunks c.self.inside.chunks c.self.inside.tiles c.make_room.new.tiles refl (ap (λ s. s.slots) c.make_room.ensures.rest_kept) c.self.inside.classes c.self.inside.spare c.self.invariant).whole_last
      c.cut_out-block.result _ c.cut_out-block.ensures.live refl;
}

before : (g : Over) (c : goal.After-new g) → fit_space_in (chunks_of_rows g.M.MemoryObject.object c.self.inside.chunks) c.make_room.new.tiles ≡ c.args.self.now.space
before g c =
    same_space g.M.MemoryObject.object c.self.inside.chunks c.self.inside.chunks c.self.inside.tiles c.make_room.new.tiles refl (ap (λ s. s.slots) c.make_room.ensures.rest_kept) ∙ ap (λ (s : FitStore). s.space) c.self.view_is

fits : (g : Over) (c : goal.After-new g) → IsFitting c.args.self.now.space c.args.size (c.args.align_mask + 1) c.new.result
fits g c =
    subst (λ s. IsFitting s c.args.size (c.args.align_mask + 1) c.new.result) (before g c)
    (block_fits g.M.MemoryObject.object c.self.inside.chunks c.make_room.new.tiles (roomy g c).kept c.args.size c.args.align_mask c.in-Some.key c.in-Some.run' (at_run g c) (room g c) c.last_start-start.result c.last_start-start.ensures
    (chosen g c) c.new.result c.index.result.now c.index.ensures (block g c))

after : (g : Over) (c : goal.After-new g) → fit_space_in (chunks_of_rows g.M.MemoryObject.object c.self.inside.chunks) c.cut_out-block.new.nodes ≡ with_slot c.args.self.now.space c.new.result
after g c =
    taken_space g.M.MemoryObject.object c.self.inside.chunks c.make_room.new.tiles c.cut_out-block.new.nodes c.self.inside.spare (roomy g c) c.cut_out-block.result c.in-Some.key c.in-Some.run' _ (at_run g c) c.cut_out-block.ensures.added
    c.cut_out-block.ensures.live refl c.cut_out-block.ensures.others c.cut_out-block.ensures.elsewhere c.cut_out-block.ensures.kept
    ∙ ap (with_slot (fit_space_in (chunks_of_rows g.M.MemoryObject.object c.self.inside.chunks) c.make_room.new.tiles))
    (block_is g.M.MemoryObject.object c.self.inside.chunks c.make_room.new.tiles (roomy g c).kept c.args.size c.args.align_mask c.in-Some.key c.in-Some.run' (at_run g c) (room g c) c.last_start-start.result c.last_start-start.ensures
    c.index.result.now c.index.ensures ∙ sym (block g c))
    ∙ ap (λ s. with_slot s c.new.result) (before g c)

pub returns-clause-takes : goal.returns-clause-takes
returns-clause-takes g c = (fits g c, after g c)

pub returns-clause-added : goal.returns-clause-added
returns-clause-added g c =
    let held = sound g.M.MemoryObject.object c.self.inside.chunks c.self.inside.tiles c.self.invariant.stored.kept c.self.inside.spare c.self.invariant.stored in
    fit_adds c.args.self.now.space _ c.args.size (c.args.align_mask + 1) c.new.result (rw (← c.self.view_is) held) c.requires.nonempty (fits g c) (after g c)

pub returns-clause-leaves : goal.returns-clause-leaves
returns-clause-leaves g c = fit_leaves c.args.self.now.space _ c.new.result (after g c)

pub returns-in_default-clause-looks : goal.returns-in_default-clause-looks
returns-in_default-clause-looks g c = subst (λ (s : FitStore). LooksAtFew s.space c.args.size (c.args.align_mask + 1) c.args.looks.now c.find_place-place.new.looks) c.self.view_is c.find_place-place.ensures.looks

pub returns-in_err-make_room-clause-looks : goal.returns-in_err-make_room-clause-looks
returns-in_err-make_room-clause-looks g c = subst (λ (s : FitStore). LooksAtFew s.space c.args.size (c.args.align_mask + 1) c.args.looks.now c.find_place-place.new.looks) c.self.view_is c.find_place-place.ensures.looks

pub returns-in_err-memory-clause-looks : goal.returns-in_err-memory-clause-looks
returns-in_err-memory-clause-looks g c = subst (λ (s : FitStore). LooksAtFew s.space c.args.size (c.args.align_mask + 1) c.args.looks.now c.find_place-place.new.looks) c.self.view_is c.find_place-place.ensures.looks

pub returns-clause-looks : goal.returns-clause-looks
returns-clause-looks g c = subst (λ (s : FitStore). LooksAtFew s.space c.args.size (c.args.align_mask + 1) c.args.looks.now c.find_place-place.new.looks) c.self.view_is c.find_place-place.ensures.looks

pub returns-in_default-clause-some : goal.returns-in_default-clause-some
returns-in_default-clause-some g c place = absurd (c.in_default.ensures.place (subst (λ (s : FitStore). HasPlace s.space c.args.size (c.args.align_mask + 1)) (sym c.self.view_is) place))

pub returns-in_err-make_room-clause-some : goal.returns-in_err-make_room-clause-some
returns-in_err-make_room-clause-some g c place = c.find_place-place.ensures.some (subst IsSome (sym c.in-Some.is) refl)

pub returns-in_err-memory-clause-some : goal.returns-in_err-memory-clause-some
returns-in_err-memory-clause-some g c place = c.find_place-place.ensures.some (subst IsSome (sym c.in-Some.is) refl)

pub returns-clause-some : goal.returns-clause-some
returns-clause-some g c place = c.find_place-place.ensures.some (subst IsSome (sym c.in-Some.is) refl)
