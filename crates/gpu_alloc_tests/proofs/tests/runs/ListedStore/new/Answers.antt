use Rattle.std.proofs.Common.{refl, subst, arith}
use Rattle.std.specs.FinMap as map
use Rattle.std.specs.Ordering.{nat_cmp}
use Rattle.gpu_alloc.specs.Chunks.{Chunk}
use Rattle.gpu_alloc.specs.FreeListSound.{IsSoundFreeList}
use Rattle.gpu_alloc_tests.proofs.EmptyMaps.{nothing_added}
use Rattle.gpu_alloc_tests.proofs.tests.runs.ListedStore.new.Goals as goal

pub invariant_of-result : goal.invariant_of-result
invariant_of-result c =
    let none = map.len-empty nat_cmp Chunk in
    rw (c.new-allocator.ensures.opened, c.in_ok-device.ensures, c.offer.ensures.types, c.new-2.ensures) (
      record {
        known = omega arith;
        same = refl;
        holds = λ key. rw (map.get-empty {K = _} {X = Chunk} nat_cmp key) tt;
      },
      (record { ledger = omega (arith, nothing_added (λ (chunk : Chunk). chunk.size)); objects = omega (arith, none) }, (omega (arith, none), (subst IsSoundFreeList c.new-allocator.ensures.opened c.new-allocator.ensures.sound, refl))),
    )
