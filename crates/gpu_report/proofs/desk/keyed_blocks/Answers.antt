use Rattle.std.proofs.Common.{refl}
use Rattle.gpu_report.proofs.Keys.{walked, comes_nearer, all_keyed}
use Rattle.gpu_report.proofs.desk.keyed_blocks.Goals as goal

pub loop-grant-preserved : goal.loop-grant-preserved
loop-grant-preserved c =
    let more = walked c.args.desk.now c.loop-grant.blocks.items c.push.new.self.items c.loop-grant.after c.in-Some.grant c.in-Some.ensures.told
    c.in-Some.ensures.next c.loop-grant.invariant.live c.loop-grant.invariant.lists c.in_ok-push.ensures.items in
    record { live = more.live; lists = more.lists }

pub loop-grant-smaller : goal.loop-grant-smaller
loop-grant-smaller c = comes_nearer c.args.desk.now c.loop-grant.after c.in-Some.grant.key c.in-Some.ensures.next

pub returns : goal.returns
returns c = all_keyed c.args.desk.now c.loop-grant.blocks.items c.loop-grant.after c.loop-grant.invariant.live (c.in_default.ensures.last refl) c.loop-grant.invariant.lists
