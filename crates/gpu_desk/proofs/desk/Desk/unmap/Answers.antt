use Rattle.std.proofs.Common.{refl, sym}
use Rattle.gpu_session.proofs.Moves.{move_is_kept}
use Rattle.gpu_desk.proofs.Kept.{gone_over_write}
use Rattle.gpu_answers.proofs.Naming.{run_keeps_names}
use Rattle.gpu_desk.proofs.Paged.{over_paged}
use Rattle.gpu_desk.proofs.Losing.{by_run}
use Rattle.gpu_desk.proofs.desk.Desk.unmap.Goals as goal

pub invariant_of-self-2 : goal.invariant_of-self-2
invariant_of-self-2 c =
    let done = c.unmap.ensures in
    record {
      kept = move_is_kept c.self.invariant.kept (record { named = sym c.in-Some.ensures.value; same = done.same; ready = done.agrees; keeps = done.keeps; properties = done.properties });
      tagged = c.self.invariant.tagged;
      page = c.self.invariant.page;
      paged = over_paged c.self.inside.blocks.live c.self.inside.tags.items c.self.inside.granularity c.self.invariant.paged c.args.key c.in-Some.block.now c.unmap.new.self (sym c.in-Some.ensures.value) done.same;
    }

pub returns-clause-keeps : goal.returns-clause-keeps
returns-clause-keeps c =
    rw (← c.self.view_is) (record {
      given = record { properties = refl; config = refl; sharing = refl };
      limits = refl;
      total = refl;
      gone = gone_over_write c.self.inside.blocks c.args.key c.in-Some.block.now c.unmap.new.self (sym c.in-Some.ensures.value);
      names = run_keeps_names c.self.inside.device c.unmap.ensures.asked.0 c.unmap.new.device c.unmap.ensures.asked.1;
      lost = by_run _ _ c.unmap.ensures.asked.0 c.unmap.ensures.asked.1;
      tags = λ key was is. refl;
      page = refl;
    })
