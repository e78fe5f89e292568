use Rattle.std.proofs.Common.{◌≡◌, ◌^◌, None, refl, sym, ◌∙◌, ap, subst, arith}
use Rattle.std.specs.Prelude.{option_map}
use Rattle.std.specs.FinMap as finite
use Rattle.gpu_alloc_base.specs.Accounts.{HeldChunks}
use Rattle.gpu_alloc_base.specs.Chunks.{Chunk}
use Rattle.gpu_alloc_base.specs.SlabViews.{by_key}
use Rattle.gpu_alloc_base.specs.declared.buddy_block.Leaf.{Leaf}
use Rattle.gpu_alloc_base.proofs.SlabViews.{by_key_put, get_by_key}
use Rattle.gpu_alloc_pairs.specs.Space.{BuddySpace, chunks_with, with_chunk, with_leaf}
use Rattle.gpu_alloc_pairs.specs.Store.{BuddyStore, IsStored, IsUnheld, buddy_space_in}
use Rattle.gpu_alloc_pairs.specs.declared.pairs.Chunk.{Chunk as StoredChunk}
use Rattle.gpu_alloc_pairs.proofs.Begins.{begins, begun_space, stored_begun}
use Rattle.gpu_alloc_pairs.proofs.Stored.{rooms_from}
use Rattle.gpu_alloc_pairs.proofs.pairs.Pairs.begin.Given.{Over}
use Rattle.gpu_alloc_pairs.proofs.pairs.Pairs.begin.Goals as goal

-- how a stored chunk is seen
abbrev seen : (g : Over) → StoredChunk g.row.M.Denot → Chunk
seen g chunk = record { object = g.M.MemoryObject.object chunk.memory; size = 2 ^ chunk.order }

pub insert_reserved-chunk-requires : goal.insert_reserved-chunk-requires
insert_reserved-chunk-requires g c = let room = rw (← c.self.view_is) at c.requires.room.chunk in omega (arith, room)

pub begin-key-requires-clause-rooms : goal.begin-key-requires-clause-rooms
begin-key-requires-clause-rooms g c = let rooms = rw (← c.self.view_is) at c.requires.room.pairs in rooms_from c.self.inside.lengths.items c.args.order c.args.chunk_order rooms

-- the block
abbrev block : (g : Over) → goal.After-leaf_of g → Leaf
block g c = record { object = g.M.MemoryObject.object c.args.memory; chunk = c.insert_reserved-chunk.result; offset = 0; size = 2 ^ c.args.order; index = c.begin-key.result }

is_block : (g : Over) (c : goal.After-leaf_of g) → c.leaf_of.result ≡ block g c
is_block g c = c.leaf_of.ensures ∙ ap (λ n. record { object = n; chunk = c.insert_reserved-chunk.result; offset = 0; size = 2 ^ c.args.order; index = c.begin-key.result }) c.object-object.ensures

abbrev before : (g : Over) → goal.After-leaf_of g → HeldChunks
before g c = by_key (seen g) c.self.inside.chunks

vacant : (g : Over) (c : goal.After-leaf_of g) → finite.get (before g c) c.insert_reserved-chunk.result ≡ None
vacant g c = get_by_key (seen g) c.self.inside.chunks c.insert_reserved-chunk.result ∙ ap (option_map (seen g)) c.insert_reserved-chunk.ensures.was_vacant

unheld : (g : Over) (c : goal.After-leaf_of g) → IsUnheld (buddy_space_in (before g c) c.self.inside.lengths.items) (g.M.MemoryObject.object c.args.memory)
unheld g c = rw (← c.self.view_is) at c.requires.new_object

more : (g : Over) (c : goal.After-leaf_of g) → by_key (seen g) c.insert_reserved-chunk.new.self ≡ chunks_with (before g c) (block g c) (2 ^ c.args.chunk_order)
more g c = by_key_put (seen g) c.self.inside.chunks c.insert_reserved-chunk.new.self c.insert_reserved-chunk.result (record { memory = c.args.memory; order = c.args.chunk_order }) c.insert_reserved-chunk.ensures.updates

pub invariant_of-self : goal.invariant_of-self
invariant_of-self g c =
    subst (λ (m : HeldChunks). IsStored m c.begin-key.new.lengths.items) (sym (more g c))
    (stored_begun (before g c) c.self.inside.lengths.items c.begin-key.new.lengths.items c.self.invariant (block g c) c.args.chunk_order c.args.order (vacant g c) (unheld g c) c.requires.short c.requires.longer refl refl
    c.begin-key.ensures.count c.begin-key.ensures.out c.begin-key.ensures.more)

pub returns-clause-begins : goal.returns-clause-begins
returns-clause-begins g c =
    rw (← c.self.view_is, is_block g c)
    (begins (before g c) c.self.inside.lengths.items c.begin-key.new.lengths.items c.self.invariant (block g c) c.args.chunk_order c.args.order (vacant g c) (unheld g c) c.requires.short c.requires.longer refl refl)

pub returns-clause-space : goal.returns-clause-space
returns-clause-space g c =
    ap (λ m. buddy_space_in m c.begin-key.new.lengths.items) (more g c)
    ∙ begun_space (before g c) c.self.inside.lengths.items c.begin-key.new.lengths.items c.self.invariant (block g c) c.args.chunk_order c.args.order (vacant g c) (unheld g c) c.requires.short c.requires.longer refl refl
    c.begin-key.ensures.count c.begin-key.ensures.out c.begin-key.ensures.more
    ∙ ap (λ (s : BuddySpace). with_leaf (with_chunk s (block g c) (2 ^ c.args.chunk_order)) (block g c)) (ap (λ (t : BuddyStore). t.space) c.self.view_is)
    ∙ ap (λ l. with_leaf (with_chunk c.args.self.now.space l (2 ^ c.args.chunk_order)) l) (sym (is_block g c))
