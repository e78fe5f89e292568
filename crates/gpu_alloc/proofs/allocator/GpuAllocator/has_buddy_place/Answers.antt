use Rattle.std.proofs.Common.{ap, refl}
use Rattle.gpu_alloc_block.specs.declared.block.Kind.TheVariants.{BuddyChunk}
use Rattle.gpu_alloc.specs.FreeBytes.{IsFreeByte}
use Rattle.gpu_alloc.specs.declared.allocator.Strategy.TheVariants.{InBuddyChunk}
use Rattle.gpu_alloc.proofs.Buddies.Named.{buddy_asked, buddy_in, buddy_is_named, buddy_named, buddy_request}
use Rattle.gpu_alloc.proofs.ChosenStores.{free_chosen, not_fits}
use Rattle.gpu_alloc.proofs.HeldOnly.{place_told}
use Rattle.gpu_alloc.proofs.Shared.Calls.{serves, state_of}
use Rattle.gpu_alloc.proofs.Shared.Free.{first_byte}
use Rattle.gpu_alloc.proofs.allocator.GpuAllocator.has_buddy_place.Goals as goal

pub returns : goal.returns
returns g c =
    let known = rw (← c.self.view_is) at c.requires.known in
    let serving = serves {n = buddy_named} buddy_is_named {l = c.self.inside.limits} (record { kept = c.self.invariant; known = known; at = c.index.ensures; is = ap buddy_in c.in-Buddy.is }) in
    let request = buddy_request _ c.args.memory_type _ serving c.args.request c.index-heap.result.now 0 _ refl in
    rw (← c.self.view_is) (place_told buddy_asked InBuddyChunk _ c.args.memory_type c.in-Buddy.buddy c.index-heap.result.now c.args.request serving request c.refuses-refusal.result (c.refuses-refusal.ensures _) c.is_none.result c.is_none.ensures)

pub returns-in_default : goal.returns-in_default
returns-in_default g c =
    let known = rw (← c.self.view_is) at c.requires.known in
    let l = c.self.inside.limits in
    let s = state_of l c.self.inside.heaps.items c.self.inside.types.items c.self.inside.own c.self.inside.allocations_remains in
    rw (← c.self.view_is) (
      λ no. absurd (cc),
      λ has. absurd (
          let free = first_byte (IsFreeByte s c.args.memory_type BuddyChunk) has.place.0 has.place.1 _ has.place.2 in
          not_fits l c.self.invariant known c.index.ensures c.in_default.is (free_chosen l c.self.invariant free)),
    )
