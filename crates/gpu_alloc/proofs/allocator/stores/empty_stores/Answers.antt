use Rattle.std.proofs.Common.{◌+◌, length, length-append, ap, sym, ◌∙◌, subst, arith}
use Rattle.gpu_alloc_types.specs.Properties.{properties_of}
use Rattle.gpu_alloc.specs.Opening.{AreFirst}
use Rattle.gpu_alloc.proofs.Closing.{first_empty}
use Rattle.gpu_alloc.proofs.Opened.{one_first_more}
use Rattle.gpu_alloc.proofs.allocator.stores.empty_stores.Goals as goal

pub loop-memory_type-init : goal.loop-memory_type-init
loop-memory_type-init g c = record {
  count = ap length c.in_ok-types.ensures.items;
  room = omega (arith, c.in_ok-types.ensures.capacity);
  each = subst (AreFirst c.args.sharing c.args.config (properties_of c.args.props.now)) (sym c.in_ok-types.ensures.items) (λ t. tt);
}

pub loop-memory_type-preserved : goal.loop-memory_type-preserved
loop-memory_type-preserved g c =
    let before = c.loop-memory_type.invariant in
    let p = properties_of c.args.props.now in
    record {
      count = ap length c.push_reserved.ensures.items ∙ length-append _ _ ∙ ap (λ n. n + 1) before.count;
      room = omega (arith, before.room, c.push_reserved.ensures.capacity);
      each = subst (AreFirst c.args.sharing c.args.config p) (sym c.push_reserved.ensures.items) (one_first_more c.args.sharing c.args.config p _ _ _ before.each before.count c.in-Ok.ensures c.empty_free_list.ensures.first c.empty_free_list.ensures.sound);
    }

pub close_stores-requires : goal.close_stores-requires
close_stores-requires g c = first_empty c.args.sharing c.args.config (properties_of c.args.props.now) _ c.loop-memory_type.invariant.each
