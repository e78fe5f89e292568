use Rattle.std.proofs.Common.{◌≡◌, ℕ, ◌^◌, Result, Ok, Err, Option, Some, refl, sym, ◌∙◌, ap}
use Rattle.std.specs.Prelude.{option_map, IsErr}
use Rattle.std.specs.FinMap as finite
use Rattle.gpu_alloc_base.specs.Chunks.{Chunk}
use Rattle.gpu_alloc_base.specs.SlabViews.{by_key}
use Rattle.gpu_alloc_base.specs.declared.buddy_block.Leaf.{Leaf}
use Rattle.gpu_alloc_base.proofs.SlabViews.{found_by_key, get_by_key}
use Rattle.gpu_alloc_pairs.specs.Lengths.{IsFound}
use Rattle.gpu_alloc_pairs.specs.Space.{BuddySpace, HasPlace}
use Rattle.gpu_alloc_pairs.specs.Store.{CountsSearch, CountsTaking, TakesFront}
use Rattle.gpu_alloc_pairs.specs.Tree.{pair_at}
use Rattle.gpu_alloc_pairs.specs.declared.pairs.Chunk.{Chunk as StoredChunk}
use Rattle.gpu_alloc_pairs.proofs.Stored.{no_place, same_space, stored_same}
use Rattle.gpu_alloc_pairs.proofs.Takes.{chunk_held, counts_front, counts_search, front_leaf, half_bounded, mid_half, mid_range, place_old, stored_new, takes_front}
use Rattle.gpu_alloc_pairs.proofs.pairs.Pairs.take.Given.{Over}
use Rattle.gpu_alloc_pairs.proofs.pairs.Pairs.take.Goals as goal

-- how a stored chunk is seen
abbrev seen : (g : Over) → StoredChunk g.row.M.Denot → Chunk
seen g chunk = record { object = g.M.MemoryObject.object chunk.memory; size = 2 ^ chunk.order }

-- a search and no block
searched : {E : Type 0} (s : BuddySpace) (size looks now splits : ℕ) (answer : Result (Option Leaf) E) → IsErr answer → CountsSearch s size looks now → CountsTaking s size answer looks now splits splits
searched s size looks now splits (Ok x) is search = absurd (cc)
searched s size looks now splits (Err e) is search = (search, refl)

-- there is a place, but no memory
refused : {E : Type 0} (s new : BuddySpace) (size : ℕ) (answer : Result (Option Leaf) E) → IsErr answer → HasPlace s size → new ≡ s → TakesFront s size answer new
refused s new size (Ok x) is place same = absurd (cc)
refused s new size (Err e) is place same = (place, same)

pub returns-in_default-clause-takes : goal.returns-in_default-clause-takes
returns-in_default-clause-takes g c =
    let none = rw (c.as_slice.ensures.value) at c.in_default.ensures.none in
    rw (← c.self.view_is) (no_place _ c.self.inside.lengths.items c.self.invariant c.args.order none, refl)

pub returns-in_default-clause-counted : goal.returns-in_default-clause-counted
returns-in_default-clause-counted g c =
    rw (← c.self.view_is)
    (counts_search _ c.self.inside.lengths.items c.args.order c.find.result c.args.looks.now c.find.new.looks c.self.invariant c.requires (rw (c.as_slice.ensures.value) at c.find.ensures.none) (rw (c.as_slice.ensures.value) at c.find.ensures.some) c.find.ensures.looked, refl)

pub invariant_of-self : goal.invariant_of-self
invariant_of-self g c = stored_same _ _ _ c.make_room.ensures.kept c.self.invariant

pub returns-in_err-make_room-clause-takes : goal.returns-in_err-make_room-clause-takes
returns-in_err-make_room-clause-takes g c =
    let found : IsFound (pair_at c.self.inside.lengths.items) c.args.order c.in-Some.found = rw (c.as_slice.ensures.value) at c.in-Some.ensures.some in
    rw (← c.self.view_is) (refused _ _ _ c.from_residual.result c.from_residual.ensures.0 (place_old (by_key (seen g) c.self.inside.chunks) c.self.inside.lengths.items c.make_room.new.lengths.items c.self.invariant c.make_room.ensures.kept c.args.order c.in-Some.found found)
    (same_space _ _ _ c.make_room.ensures.kept))

pub returns-in_err-make_room-clause-counted : goal.returns-in_err-make_room-clause-counted
returns-in_err-make_room-clause-counted g c =
    searched _ _ _ _ _ c.from_residual.result c.from_residual.ensures.0
    (rw (← c.self.view_is) (counts_search _ c.self.inside.lengths.items c.args.order c.find.result c.args.looks.now c.find.new.looks c.self.invariant c.requires (rw (c.as_slice.ensures.value) at c.find.ensures.none) (rw (c.as_slice.ensures.value) at c.find.ensures.some) c.find.ensures.looked))

pub index-requires : goal.index-requires
index-requires g c =
    let found : IsFound (pair_at c.self.inside.lengths.items) c.args.order c.in-Some.found = rw (c.as_slice.ensures.value) at c.in-Some.ensures.some in
    let held = chunk_held (by_key (seen g) c.self.inside.chunks) c.self.inside.lengths.items c.make_room.new.lengths.items c.self.invariant c.make_room.ensures.kept c.args.order c.in-Some.found found in
    let there = found_by_key (seen g) c.self.inside.chunks c.in-Some.found.half.chunk held.0 held.1 in
    rw (there.1) refl

pub invariant_of-self-in_err-memory : goal.invariant_of-self-in_err-memory
invariant_of-self-in_err-memory g c = stored_same _ _ _ c.make_room.ensures.kept c.self.invariant

pub returns-in_err-memory-clause-takes : goal.returns-in_err-memory-clause-takes
returns-in_err-memory-clause-takes g c =
    let found : IsFound (pair_at c.self.inside.lengths.items) c.args.order c.in-Some.found = rw (c.as_slice.ensures.value) at c.in-Some.ensures.some in
    rw (← c.self.view_is) (refused _ _ _ c.from_residual-in_err-memory.result c.from_residual-in_err-memory.ensures.0 (place_old (by_key (seen g) c.self.inside.chunks) c.self.inside.lengths.items c.make_room.new.lengths.items c.self.invariant c.make_room.ensures.kept c.args.order c.in-Some.found found)
    (same_space _ _ _ c.make_room.ensures.kept))

pub returns-in_err-memory-clause-counted : goal.returns-in_err-memory-clause-counted
returns-in_err-memory-clause-counted g c =
    searched _ _ _ _ _ c.from_residual-in_err-memory.result c.from_residual-in_err-memory.ensures.0
    (rw (← c.self.view_is) (counts_search _ c.self.inside.lengths.items c.args.order c.find.result c.args.looks.now c.find.new.looks c.self.invariant c.requires (rw (c.as_slice.ensures.value) at c.find.ensures.none) (rw (c.as_slice.ensures.value) at c.find.ensures.some) c.find.ensures.looked))

pub take_front-front-requires-clause-in_range : goal.take_front-front-requires-clause-in_range
take_front-front-requires-clause-in_range g c =
    let found : IsFound (pair_at c.self.inside.lengths.items) c.args.order c.in-Some.found = rw (c.as_slice.ensures.value) at c.in-Some.ensures.some in
    mid_range (by_key (seen g) c.self.inside.chunks) c.self.inside.lengths.items c.make_room.new.lengths.items c.self.invariant c.make_room.ensures.kept c.args.order c.in-Some.found found

pub take_front-front-requires-clause-free : goal.take_front-front-requires-clause-free
take_front-front-requires-clause-free g c =
    let found : IsFound (pair_at c.self.inside.lengths.items) c.args.order c.in-Some.found = rw (c.as_slice.ensures.value) at c.in-Some.ensures.some in
    mid_half (by_key (seen g) c.self.inside.chunks) c.self.inside.lengths.items c.make_room.new.lengths.items c.self.invariant c.make_room.ensures.kept c.args.order c.in-Some.found found

pub take_front-front-requires-clause-bounded : goal.take_front-front-requires-clause-bounded
take_front-front-requires-clause-bounded g c =
    let found : IsFound (pair_at c.self.inside.lengths.items) c.args.order c.in-Some.found = rw (c.as_slice.ensures.value) at c.in-Some.ensures.some in
    half_bounded (by_key (seen g) c.self.inside.chunks) c.self.inside.lengths.items c.make_room.new.lengths.items c.self.invariant c.make_room.ensures.kept c.args.order c.in-Some.found found

-- the block, and its chunk
found_in : (g : Over) (c : goal.After-new g) → IsFound (pair_at c.self.inside.lengths.items) c.args.order c.in-Some.found
found_in g c = rw (c.as_slice.ensures.value) at c.in-Some.ensures.some

held_in : (g : Over) (c : goal.After-new g) → finite.get (by_key (seen g) c.self.inside.chunks) c.in-Some.found.half.chunk ≡ Some (seen g c.index.result.now)
held_in g c = get_by_key (seen g) c.self.inside.chunks c.in-Some.found.half.chunk ∙ ap (option_map (seen g)) c.index.ensures

object_of : (g : Over) (c : goal.After-new g) → c.leaf_of-leaf.result.object ≡ (seen g c.index.result.now).object
object_of g c = ap (λ (l : Leaf). l.object) c.leaf_of-leaf.ensures ∙ c.object.ensures ∙ c.in_ok-memory.ensures

leaf_in : (g : Over) (c : goal.After-new g) → c.leaf_of-leaf.result ≡ front_leaf c.leaf_of-leaf.result.object c.take_front-front.result c.args.order
leaf_in g c = c.leaf_of-leaf.ensures ∙ ap (λ n. front_leaf n c.take_front-front.result c.args.order) (sym (ap (λ (l : Leaf). l.object) c.leaf_of-leaf.ensures))

pub invariant_of-self-2 : goal.invariant_of-self-2
invariant_of-self-2 g c =
    stored_new (by_key (seen g) c.self.inside.chunks) c.self.inside.lengths.items c.make_room.new.lengths.items c.self.invariant c.make_room.ensures.kept c.args.order c.in-Some.found (found_in g c)
    c.take_front-front.new.lengths.items c.take_front-front.result c.leaf_of-leaf.result (seen g c.index.result.now) c.take_front-front.ensures.chunk c.take_front-front.ensures.offset c.take_front-front.ensures.taken
    c.take_front-front.ensures.count (leaf_in g c) (held_in g c) (object_of g c)

pub returns-clause-takes : goal.returns-clause-takes
returns-clause-takes g c =
    rw (← c.self.view_is, c.new.ensures)
    (takes_front (by_key (seen g) c.self.inside.chunks) c.self.inside.lengths.items c.make_room.new.lengths.items c.self.invariant c.make_room.ensures.kept c.args.order c.in-Some.found (found_in g c)
    c.take_front-front.new.lengths.items c.take_front-front.result c.leaf_of-leaf.result (seen g c.index.result.now) c.take_front-front.ensures.chunk c.take_front-front.ensures.offset c.take_front-front.ensures.taken
    c.take_front-front.ensures.count (leaf_in g c) (held_in g c) (object_of g c))

pub returns-clause-counted : goal.returns-clause-counted
returns-clause-counted g c =
    let looked = rw (c.in-Some.is) at c.find.ensures.looked in
    rw (← c.self.view_is, c.new.ensures)
    (counts_front (by_key (seen g) c.self.inside.chunks) c.self.inside.lengths.items c.make_room.new.lengths.items c.self.invariant c.make_room.ensures.kept c.args.order c.in-Some.found (found_in g c)
    c.take_front-front.new.lengths.items c.take_front-front.result c.leaf_of-leaf.result (seen g c.index.result.now) c.take_front-front.ensures.chunk c.take_front-front.ensures.offset c.take_front-front.ensures.taken
    c.take_front-front.ensures.count (leaf_in g c) (held_in g c) (object_of g c)
    c.args.looks.now c.find.new.looks c.args.splits.now c.take_front-front.new.splits looked c.take_front-front.ensures.counted)
