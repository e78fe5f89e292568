use Rattle.std.proofs.Common.{length, sym, ap, subst, arith}
use Rattle.gpu_alloc_pairs.proofs.Empties.{AreEmpty, empty_space, one_more_empty, stored_empty}
use Rattle.gpu_alloc_pairs.proofs.pairs.Pairs.new.Goals as goal

pub loop-init : goal.loop-init
loop-init g c = record {
  count = ap length c.in_ok-lengths.ensures.items;
  empty = subst AreEmpty (sym c.in_ok-lengths.ensures.items) tt;
  room = c.in_ok-lengths.ensures.capacity;
}

pub push_reserved-requires : goal.push_reserved-requires
push_reserved-requires g c = omega (arith, c.loop.invariant.count, c.loop.invariant.room, c.loop-test.true)

pub loop-preserved : goal.loop-preserved
loop-preserved g c = record {
  count = omega (arith, c.push_reserved.ensures.len, c.loop.invariant.count);
  empty = subst AreEmpty (sym c.push_reserved.ensures.items) (one_more_empty c.loop.lengths.items c.new.result c.loop.invariant.empty c.new.ensures.empty);
  room = omega (arith, c.push_reserved.ensures.capacity, c.loop.invariant.room);
}

pub invariant_of-result : goal.invariant_of-result
invariant_of-result g c = rw (c.new-2.ensures.empty) (stored_empty c.loop.lengths.items c.loop.invariant.empty (omega (arith, c.loop.invariant.count, c.loop.auto.counter-end, c.loop-test.false)))

pub returns : goal.returns
returns g c = rw (c.new-2.ensures.empty) (record { empty = empty_space c.loop.lengths.items c.loop.invariant.empty })
