use Rattle.std.proofs.Common.{refl, rules}
use Rattle.gpu_session.proofs.Returns.{cleanup_is_kept, nothing_held, nothing_live}
use Rattle.gpu_desk.proofs.GoneNames.{returns_add}
use Rattle.gpu_answers.proofs.Naming.{run_keeps_names}
use Rattle.gpu_desk.proofs.Losing.{by_run}
use Rattle.gpu_desk.proofs.desk.Desk.cleanup.Goals as goal

pub invariant_of-self : goal.invariant_of-self
invariant_of-self c =
    let done = c.cleanup.ensures in
    record {
      kept = cleanup_is_kept c.self.invariant.kept (record { leaves = done.leaves; rest = done.rest; keeps = done.keeps; sound = done.sound; agrees = done.agrees });
      tagged = c.self.invariant.tagged;
      page = c.self.invariant.page;
      paged = c.self.invariant.paged;
    }

pub returns-clause-cleaned : goal.returns-clause-cleaned
returns-clause-cleaned c =
    let done = c.cleanup.ensures in
    rw (← c.self.view_is) (record {
      cleaned = done.cleaned;
      goes = record { back = done.gone; names = returns_add c.self.inside.device done.gone.gone c.cleanup.new.device done.gone.asked };
      blocks = refl;
      tags = refl;
      rest = λ empty. let ended = done.ends (nothing_live c.self.invariant.kept.sound empty) in nothing_held _ _ done.total ended.0 ended.1;
    })

pub returns-clause-keeps : goal.returns-clause-keeps
returns-clause-keeps c =
    let done = c.cleanup.ensures in
    rw (← c.self.view_is) (record {
      given = search rules;
      limits = done.leaves.limits;
      total = search rules;
      gone = search rules;
      names = run_keeps_names c.self.inside.device done.cleaned.0 c.cleanup.new.device done.cleaned.1;
      lost = by_run _ _ done.cleaned.0 done.cleaned.1;
      tags = λ key was is. refl;
      page = refl;
    })
