use Rattle.std.proofs.Common.{◌≡◌, ◌-◌, ◌^◌, Result, Ok, Err, ap, subst, arith}
use Rattle.std.specs.Prelude.{OnOk}
use Rattle.slab.specs.Slab.{Slab, slab_len}
use Rattle.gpu_alloc_base.specs.Chunks.{Chunk}
use Rattle.gpu_alloc_base.specs.SlabViews.{by_key}
use Rattle.gpu_alloc_pairs.specs.Store.{BuddyStore, KeepsStore, buddy_store_in}
use Rattle.gpu_alloc_pairs.specs.declared.pairs.Chunk.{Chunk as StoredChunk}
use Rattle.gpu_alloc_pairs.proofs.Stored.{keeps_same, stored_same, rooms_to}
use Rattle.gpu_alloc_pairs.proofs.pairs.Pairs.reserve.Given.{Over}
use Rattle.gpu_alloc_pairs.proofs.pairs.Pairs.reserve.Goals as goal

-- how a stored chunk is seen
abbrev seen : (g : Over) → StoredChunk g.row.M.Denot → Chunk
seen g chunk = record { object = g.M.MemoryObject.object chunk.memory; size = 2 ^ chunk.order }

when_on : {T E : Type 0} {P Q : Type 0} (r : Result T E) → (P → Q) → OnOk r P → OnOk r Q
when_on (Ok x) f h = f h
when_on (Err e) f h = tt

chunks_same : (g : Over) (c : goal.After-make_room g) → by_key (seen g) c.reserve.new.self ≡ by_key (seen g) c.self.inside.chunks
chunks_same g c = ap (λ (s : Slab (StoredChunk g.row.M.Denot)). by_key (seen g) s) c.reserve.ensures.rest_kept

pub invariant_of-self-2 : goal.invariant_of-self-2
invariant_of-self-2 g c = rw (c.reserve.ensures.rest_kept) (stored_same _ _ _ c.make_room.ensures.kept c.self.invariant)

pub returns-clause-room : goal.returns-clause-room
returns-clause-room g c =
    when_on c.make_room.result (λ rooms. record { chunk = let room = c.in_ok-reserve.ensures.room in omega (arith, room); pairs = rooms_to c.make_room.new.lengths.items c.args.order c.args.chunk_order rooms }) c.make_room.ensures.rooms

pub returns-clause-kept : goal.returns-clause-kept
returns-clause-kept g c =
    subst (λ (s : BuddyStore). KeepsStore s (buddy_store_in (by_key (seen g) c.reserve.new.self) (c.reserve.new.self.capacity - slab_len c.reserve.new.self) c.make_room.new.lengths.items)) c.self.view_is
    (keeps_same _ _ _ _ c.self.inside.lengths.items c.make_room.new.lengths.items (chunks_same g c) c.make_room.ensures.kept)
