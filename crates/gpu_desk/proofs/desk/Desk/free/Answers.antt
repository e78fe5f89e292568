use Rattle.std.proofs.Common.{◌≡◌, Some, rules, refl, sym, ◌∙◌}
use Rattle.std.specs.FinMap as map
use Rattle.gpu_session.proofs.Returns.{return_is_kept}
use Rattle.gpu_desk.proofs.GoneNames.{returns_add}
use Rattle.gpu_answers.proofs.Naming.{run_keeps_names}
use Rattle.gpu_desk.proofs.Paged.{out_paged}
use Rattle.gpu_desk.proofs.Losing.{by_run}
use Rattle.gpu_desk.proofs.desk.Desk.free.Goals as goal

pub invariant_of-self : goal.invariant_of-self
invariant_of-self c =
    let at : map.get c.self.inside.blocks.live c.args.key ≡ Some c.in-Some.block = sym c.remove.ensures.value ∙ c.in-Some.is in
    let done = c.dealloc.ensures in
    rw (c.remove.ensures.live)
    (record {
      kept = return_is_kept c.self.invariant.kept (record { named = at; removes = done.removed; keeps = done.keeps; sound = done.sound; agrees = done.agrees });
      tagged = c.self.invariant.tagged ∙ sym c.remove.ensures.places;
      page = c.self.invariant.page;
      paged = out_paged c.self.inside.blocks.live c.self.inside.tags.items c.self.inside.granularity c.self.invariant.paged c.args.key;
    })

pub returns-in-Some-clause-freed : goal.returns-in-Some-clause-freed
returns-in-Some-clause-freed c =
    let at : map.get c.self.inside.blocks.live c.args.key ≡ Some c.in-Some.block = sym c.remove.ensures.value ∙ c.in-Some.is in
    let done = c.dealloc.ensures in
    rw (← c.self.view_is) (record {
      block = c.in-Some.block;
      at = at;
      freed = done.freed;
      goes = record { back = done.gone; names = returns_add c.self.inside.device done.gone.gone c.dealloc.new.device done.gone.asked };
      live = c.remove.ensures.live;
      refused = c.in-Some.ensures.refused;
    })

pub returns-in-Some-clause-keeps : goal.returns-in-Some-clause-keeps
returns-in-Some-clause-keeps c =
    let done = c.dealloc.ensures in
    rw (← c.self.view_is) (record {
      given = search rules;
      limits = done.removed.limits;
      total = search rules;
      gone = search rules;
      names = run_keeps_names c.self.inside.device done.freed.0 c.dealloc.new.device done.freed.1;
      lost = by_run _ _ done.freed.0 done.freed.1;
      tags = λ key was is. refl;
      page = refl;
    })
