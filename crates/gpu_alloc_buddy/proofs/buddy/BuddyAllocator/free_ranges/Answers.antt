use Rattle.std.proofs.Common.{◌≡◌, ◌∙◌, ◌^◌, ◌+◌, ◌==◌, Contains, count_by, sym, ap, subst, arith}
use Rattle.std.specs.List.{IsDistinct}
use Rattle.gpu_alloc_base.specs.RangeOrder.{same_start}
use Rattle.gpu_alloc_types.specs.Flags.{property_bits}
use Rattle.gpu_alloc_types.specs.declared.types.FreeRange.{FreeRange}
use Rattle.gpu_alloc_buddy.specs.BuddyState.{buddy_in}
use Rattle.gpu_alloc_buddy.proofs.BuddyRanges.{all_pieces, pieces_apart}
use Rattle.gpu_alloc_buddy.proofs.BuddySteps.{few_ranges}
use Rattle.gpu_alloc_buddy.proofs.buddy.BuddyAllocator.free_ranges.Goals as goal

pub put_in_order-requires : goal.put_in_order-requires
put_in_order-requires g c =
    let told = c.keeps_exact.ensures in
    let inside = c.self-inside.inside.0.0 in
    let b = buddy_in inside.pairs.space inside.next_order inside.minimal_size inside.memory_type (property_bits inside.props) inside.atom in
    subst (IsDistinct same_start) (sym c.in_ok-ranges.ensures) (pieces_apart b told.sound inside.pairs.free told.exact.pieces told.exact.once)

pub returns-clause-pieces : goal.returns-clause-pieces
returns-clause-pieces g c r =
    let told = c.keeps_exact.ensures in
    let inside = c.self-inside.inside.0.0 in
    let b = buddy_in inside.pairs.space inside.next_order inside.minimal_size inside.memory_type (property_bits inside.props) inside.atom in
    let same = c.put_in_order.ensures.same r in
    let exact = all_pieces b told.sound inside.pairs.free told.exact.pieces told.exact.once r in
    rw (← c.self.view_is, ← c.self-inside.view_is) (
      (λ has. exact.0 (subst (λ xs. Contains xs r) c.in_ok-ranges.ensures (same.0 has))),
      (λ piece. same.1 (subst (λ xs. Contains xs r) (sym c.in_ok-ranges.ensures) (exact.1 piece))),
    )

pub returns-clause-few : goal.returns-clause-few
returns-clause-few g c order =
    let inside = c.self-inside.inside.0.0 in
    let b = buddy_in inside.pairs.space inside.next_order inside.minimal_size inside.memory_type (property_bits inside.props) inside.atom in
    let few = few_ranges b inside.pairs.free c.keeps_exact.ensures.few order in
    let is = λ (r : FreeRange). r.end == r.start + 2 ^ order in
    let same : count_by is c.put_in_order.new.ranges.items ≡ _ = c.put_in_order.ensures.count is ∙ ap (count_by is) c.in_ok-ranges.ensures in
    rw (← c.self.view_is, ← c.self-inside.view_is) (omega (arith, few, same))
