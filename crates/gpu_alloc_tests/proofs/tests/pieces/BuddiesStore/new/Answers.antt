use Rattle.std.proofs.Common.{refl, arith}
use Rattle.std.specs.FinMap as map
use Rattle.std.specs.Ordering.{nat_cmp}
use Rattle.gpu_alloc.specs.Chunks.{Chunk}
use Rattle.gpu_alloc_tests.proofs.EmptyMaps.{nothing_added}
use Rattle.gpu_alloc_tests.proofs.tests.pieces.BuddiesStore.new.Goals as goal

pub new-requires-2-clause-minimal : goal.new-requires-2-clause-minimal
unfolding lib.Count.ones
new-requires-2-clause-minimal c = refl

pub new-requires-2-clause-initial : goal.new-requires-2-clause-initial
unfolding lib.Count.ones
new-requires-2-clause-initial c = refl

pub new-requires-2-clause-atom : goal.new-requires-2-clause-atom
unfolding lib.Count.ones
new-requires-2-clause-atom c = refl

pub invariant_of-result : goal.invariant_of-result
invariant_of-result c =
    let none = map.len-empty nat_cmp Chunk in
    rw (c.in-Ok.ensures.opened, c.in_ok-device.ensures, c.offer.ensures.types, c.new-in-Ok.ensures) (
      record {
        known = omega arith;
        same = refl;
        holds = λ key. rw (map.get-empty {K = _} {X = Chunk} nat_cmp key) tt;
      },
      (record { ledger = omega (arith, nothing_added (λ (chunk : Chunk). chunk.size)); objects = omega (arith, none) }, omega (arith, none)),
    )
