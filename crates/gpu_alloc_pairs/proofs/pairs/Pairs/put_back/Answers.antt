use Rattle.std.proofs.Common.{◌≡◌, ◌*◌, ◌^◌, Option, Some, None, IfNone, refl, sym, ◌∙◌, ap, subst, arith}
use Rattle.std.specs.Prelude.{option_map}
use Rattle.std.specs.FinMap as finite
use Rattle.gpu_alloc_base.specs.Accounts.{HeldChunks}
use Rattle.gpu_alloc_base.specs.Chunks.{Chunk}
use Rattle.gpu_alloc_base.specs.SlabViews.{by_key}
use Rattle.gpu_alloc_base.proofs.AlignedPowers.{order-le}
use Rattle.gpu_alloc_base.proofs.SlabViews.{by_key_removed, found_by_key, get_by_key}
use Rattle.gpu_alloc_pairs.specs.Lengths.{IsFreeAgain, IsWholeAgain}
use Rattle.gpu_alloc_pairs.specs.Space.{IsLiveLeaf, IsUnusedChunk, without_leaf}
use Rattle.gpu_alloc_pairs.specs.Store.{buddy_space_in, IsStored}
use Rattle.gpu_alloc_pairs.specs.Tree.{pair_at}
use Rattle.gpu_alloc_pairs.specs.declared.pairs.Chunk.{Chunk as StoredChunk}
use Rattle.gpu_alloc_pairs.proofs.PutsBack.{at_half, comes_back, few_releases, gone_is, gone_space, left_space, no_more_in_use, still_in_use, stored_gone, stored_left, told_back}
use Rattle.gpu_alloc_pairs.proofs.pairs.Pairs.put_back.Given.{Over}
use Rattle.gpu_alloc_pairs.proofs.pairs.Pairs.put_back.Goals.{In_ok-gone}
use Rattle.gpu_alloc_pairs.proofs.pairs.Pairs.put_back.Goals as goal

-- how a stored chunk is seen
abbrev seen : (g : Over) → StoredChunk g.row.M.Denot → Chunk
seen g chunk = record { object = g.M.MemoryObject.object chunk.memory; size = 2 ^ chunk.order }

pub order_of-order-requires : goal.order_of-order-requires
order_of-order-requires g c = (c.keeps_exact.ensures.sound.inside c.args.leaf c.requires.live).power

pub side_of-side-requires-clause-half : goal.side_of-side-requires-clause-half
side_of-side-requires-clause-half g c =
    let a = (c.keeps_exact.ensures.sound.inside c.args.leaf c.requires.live).aligned in
    (a.0, a.1 ∙ ap (λ n. a.0 * n) c.order_of-order.ensures.is)

pub put_back-requires-clause-returning : goal.put_back-requires-clause-returning
put_back-requires-clause-returning g c =
    let live = rw (← c.self.view_is) at c.requires.live in
    comes_back (by_key (seen g) c.self.inside.chunks) c.self.inside.lengths.items c.self.invariant c.args.leaf live c.order_of-order.result c.side_of-side.result c.order_of-order.ensures.is c.side_of-side.ensures

-- the half is free again
again : (g : Over) (c : goal.After-from_residual g) → IsLiveLeaf (buddy_space_in (by_key (seen g) c.self.inside.chunks) c.self.inside.lengths.items) c.args.leaf
again g c = rw (← c.self.view_is) at c.requires.live

stays : (g : Over) (c : goal.After-from_residual g) → IsFreeAgain (pair_at c.self.inside.lengths.items) (pair_at c.put_back.new.lengths.items)
    (without_leaf (buddy_space_in (by_key (seen g) c.self.inside.chunks) c.self.inside.lengths.items) c.args.leaf) (at_half (by_key (seen g) c.self.inside.chunks) c.self.inside.lengths.items c.self.invariant c.args.leaf (again g c)).0.piece
stays g c =
    told_back (by_key (seen g) c.self.inside.chunks) c.self.inside.lengths.items c.self.invariant c.args.leaf (again g c) c.order_of-order.result c.side_of-side.result c.order_of-order.ensures.is c.side_of-side.ensures
    (IsFreeAgain (pair_at c.self.inside.lengths.items) (pair_at c.put_back.new.lengths.items)) c.in_err-gone.ensures.stays

pub invariant_of-self : goal.invariant_of-self
invariant_of-self g c =
    stored_left (by_key (seen g) c.self.inside.chunks) c.self.inside.lengths.items c.self.invariant c.args.leaf (again g c) c.order_of-order.result c.side_of-side.result c.order_of-order.ensures.is c.side_of-side.ensures
    c.put_back.new.lengths.items c.put_back.ensures.count (stays g c)

when_none : {T : Type 0} {P : Type 0} (o : Option T) → P → IfNone o P
when_none None h = h
when_none (Some x) h = tt

pub returns-in_err-gone-clause-stays : goal.returns-in_err-gone-clause-stays
returns-in_err-gone-clause-stays g c =
    let told : (IsUnusedChunk (without_leaf (buddy_space_in (by_key (seen g) c.self.inside.chunks) c.self.inside.lengths.items) c.args.leaf) c.args.leaf.chunk → ⊥)
    × (buddy_space_in (by_key (seen g) c.self.inside.chunks) c.put_back.new.lengths.items ≡ without_leaf (buddy_space_in (by_key (seen g) c.self.inside.chunks) c.self.inside.lengths.items) c.args.leaf) = (
      still_in_use (by_key (seen g) c.self.inside.chunks) c.self.inside.lengths.items c.self.invariant c.args.leaf (again g c) c.order_of-order.result c.side_of-side.result c.order_of-order.ensures.is c.side_of-side.ensures c.put_back.new.lengths.items c.put_back.ensures.count (stays g c),
      left_space (by_key (seen g) c.self.inside.chunks) c.self.inside.lengths.items c.self.invariant c.args.leaf (again g c) c.order_of-order.result c.side_of-side.result c.order_of-order.ensures.is c.side_of-side.ensures c.put_back.new.lengths.items c.put_back.ensures.count (stays g c),
    ) in
    rw (← c.self.view_is) (when_none c.from_residual.result told)

pub returns-in_err-gone-clause-few : goal.returns-in_err-gone-clause-few
returns-in_err-gone-clause-few g c =
    rw (← c.self.view_is) (few_releases (by_key (seen g) c.self.inside.chunks) c.self.inside.lengths.items c.self.invariant c.args.leaf (again g c) c.order_of-order.result c.side_of-side.result c.order_of-order.ensures.is c.side_of-side.ensures
    c.args.releases.now c.put_back.new.releases c.put_back.ensures.few)

-- the chunk is free as a whole
live_then : (g : Over) (c : In_ok-gone g) → IsLiveLeaf (buddy_space_in (by_key (seen g) c.self.inside.chunks) c.self.inside.lengths.items) c.args.leaf
live_then g c = rw (← c.self.view_is) at c.requires.live

goes : (g : Over) (c : In_ok-gone g) → IsWholeAgain (pair_at c.self.inside.lengths.items) (pair_at c.put_back.new.lengths.items)
    (without_leaf (buddy_space_in (by_key (seen g) c.self.inside.chunks) c.self.inside.lengths.items) c.args.leaf) (at_half (by_key (seen g) c.self.inside.chunks) c.self.inside.lengths.items c.self.invariant c.args.leaf (live_then g c)).0.piece c.in_ok-gone.gone
goes g c =
    told_back (by_key (seen g) c.self.inside.chunks) c.self.inside.lengths.items c.self.invariant c.args.leaf (live_then g c) c.order_of-order.result c.side_of-side.result c.order_of-order.ensures.is c.side_of-side.ensures
    (λ s z. IsWholeAgain (pair_at c.self.inside.lengths.items) (pair_at c.put_back.new.lengths.items) s z c.in_ok-gone.gone) c.in_ok-gone.ensures.goes

-- the chunk that goes is the block's
is_gone : (g : Over) (c : In_ok-gone g) → c.in_ok-gone.gone ≡ c.args.leaf.chunk
is_gone g c =
    gone_is (by_key (seen g) c.self.inside.chunks) c.self.inside.lengths.items c.self.invariant c.args.leaf (live_then g c) c.order_of-order.result c.side_of-side.result c.order_of-order.ensures.is c.side_of-side.ensures
    c.put_back.new.lengths.items c.put_back.ensures.count c.in_ok-gone.gone (goes g c)

held : (g : Over) (c : In_ok-gone g) → (held : Chunk) × (finite.get (by_key (seen g) c.self.inside.chunks) c.in_ok-gone.gone ≡ Some held)
held g c = let l = c.self.invariant.sound.inside c.args.leaf (live_then g c) in (l.chunk, ap (finite.get (by_key (seen g) c.self.inside.chunks)) (is_gone g c) ∙ l.held)

pub remove-memory-requires : goal.remove-memory-requires
remove-memory-requires g c =
    let h = held g (goal.at.remove-memory-requires g c).In_ok-gone in
    let there = found_by_key (seen g) c.self.inside.chunks c.in_ok-gone.gone h.0 h.1 in
    rw (there.1) refl

pub bytes-requires : goal.bytes-requires
bytes-requires g c =
    let at = (goal.at.bytes-requires g c).In_ok-gone in
    let there : finite.get (by_key (seen g) c.self.inside.chunks) c.in_ok-gone.gone ≡ Some (seen g c.remove-memory.result) = get_by_key (seen g) c.self.inside.chunks c.in_ok-gone.gone ∙ ap (option_map (seen g)) c.remove-memory.ensures.value in
    let power = c.self.invariant.sound.powers c.in_ok-gone.gone (seen g c.remove-memory.result) there in
    let le = order-le c.remove-memory.result.order power.0 (omega (arith, power.1.1)) in
    omega (arith, le, power.1.0)

pub invariant_of-self-2 : goal.invariant_of-self-2
invariant_of-self-2 g c =
    let at = (goal.at.invariant_of-self-2 g c).In_ok-gone in
    let fewer = by_key_removed (seen g) c.self.inside.chunks c.remove-memory.new.self c.in_ok-gone.gone c.remove-memory.ensures.updates ∙ ap (finite.remove (by_key (seen g) c.self.inside.chunks)) (is_gone g at) in
    subst (λ (m : HeldChunks). IsStored m c.put_back.new.lengths.items) (sym fewer)
    (stored_gone (by_key (seen g) c.self.inside.chunks) c.self.inside.lengths.items c.self.invariant c.args.leaf (live_then g at) c.order_of-order.result c.side_of-side.result c.order_of-order.ensures.is c.side_of-side.ensures
    c.put_back.new.lengths.items c.put_back.ensures.count c.in_ok-gone.gone (goes g at))

pub returns-clause-goes : goal.returns-clause-goes
returns-clause-goes g c =
    let at = (goal.at.returns-clause-goes g c).In_ok-gone in
    let fewer = by_key_removed (seen g) c.self.inside.chunks c.remove-memory.new.self c.in_ok-gone.gone c.remove-memory.ensures.updates ∙ ap (finite.remove (by_key (seen g) c.self.inside.chunks)) (is_gone g at) in
    let unused = no_more_in_use (by_key (seen g) c.self.inside.chunks) c.self.inside.lengths.items c.self.invariant c.args.leaf (live_then g at) c.order_of-order.result c.side_of-side.result c.order_of-order.ensures.is c.side_of-side.ensures
    c.put_back.new.lengths.items c.put_back.ensures.count c.in_ok-gone.gone (goes g at) in
    let space = ap (λ m. buddy_space_in m c.put_back.new.lengths.items) fewer
    ∙ gone_space (by_key (seen g) c.self.inside.chunks) c.self.inside.lengths.items c.self.invariant c.args.leaf (live_then g at) c.order_of-order.result c.side_of-side.result c.order_of-order.ensures.is c.side_of-side.ensures
    c.put_back.new.lengths.items c.put_back.ensures.count c.in_ok-gone.gone (goes g at) in
    let there : finite.get (by_key (seen g) c.self.inside.chunks) c.args.leaf.chunk ≡ Some (seen g c.remove-memory.result) =
    ap (finite.get (by_key (seen g) c.self.inside.chunks)) (sym (is_gone g at)) ∙ get_by_key (seen g) c.self.inside.chunks c.in_ok-gone.gone ∙ ap (option_map (seen g)) c.remove-memory.ensures.value in
    rw (← c.self.view_is) (unused, (there ∙ ap Some (λ k. record { object = g.M.MemoryObject.object c.remove-memory.result.memory; size = sym c.bytes.ensures k }), space))

pub returns-clause-few : goal.returns-clause-few
returns-clause-few g c =
    let at = (goal.at.returns-clause-few g c).In_ok-gone in
    rw (← c.self.view_is) (few_releases (by_key (seen g) c.self.inside.chunks) c.self.inside.lengths.items c.self.invariant c.args.leaf (live_then g at) c.order_of-order.result c.side_of-side.result c.order_of-order.ensures.is c.side_of-side.ensures
    c.args.releases.now c.put_back.new.releases c.put_back.ensures.few)
