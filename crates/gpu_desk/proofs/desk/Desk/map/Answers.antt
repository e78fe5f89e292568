use Rattle.std.proofs.Common.{◌≡◌, Some, Ok, refl, sym, ◌∙◌, ap, subst, inr}
use Rattle.std.specs.FinMap as map
use Rattle.gpu_alloc_types.specs.Device.{Chain}
use Rattle.gpu_alloc.specs.Mapped.{mapping_of}
use Rattle.gpu_alloc.specs.Ranges.{rounded_range}
use Rattle.gpu_alloc.specs.State.{Block, is_shared}
use Rattle.gpu_answers.specs.Asking.{RunState, begun}
use Rattle.gpu_answers.specs.Device.{IsStep}
use Rattle.gpu_answers.specs.Held.{HeldState}
use Rattle.gpu_session.proofs.Moves.{move_is_kept}
use Rattle.gpu_session.proofs.Names.{put_again}
use Rattle.gpu_desk.specs.Calls.{MapDenied}
use Rattle.gpu_desk.proofs.AllAnswered.{mapping_is_answered}
use Rattle.gpu_desk.proofs.GoneNames.{mapping_adds_none, refused_adds_none}
use Rattle.gpu_desk.proofs.Losing.{by_begun_run}
use Rattle.gpu_desk.proofs.Mappable.{maps_inside}
use Rattle.gpu_desk.proofs.Kept.{begun_is, begun_keeps_names, gone_over_write, kept_over, range_is, same_objects}
use Rattle.gpu_desk.proofs.Paged.{over_paged}
use Rattle.gpu_desk.proofs.desk.Desk.map.Goals as goal
use Rattle.gpu_desk.proofs.desk.Desk.map.Goals.{in-Ok-answer, in-Err}

pub invariant_of-self-2 : goal.invariant_of-self-2
invariant_of-self-2 c =
    let done = c.map-answer.ensures in
    let begins = kept_over c.self.inside.device c.begin.new.self c.begin.ensures.offers (ap (λ (h : HeldState). h.objects) c.begin.ensures.held) c.self.invariant.kept in
    record {
      kept = move_is_kept begins (record { named = sym c.in-Some-get_mut.ensures.value; same = done.same; ready = done.agrees; keeps = done.keeps; properties = done.properties });
      tagged = c.self.invariant.tagged;
      page = c.self.invariant.page;
      paged = over_paged c.self.inside.blocks.live c.self.inside.tags.items c.self.inside.granularity c.self.invariant.paged c.args.key c.in-Some-get_mut.block.now c.map-answer.new.self (sym c.in-Some-get_mut.ensures.value) done.same;
    }

pub returns-clause-mapped : goal.returns-clause-mapped
returns-clause-mapped c =
    let b = c.in-Some-get_mut.block.now in
    let at : map.get c.self.inside.blocks.live c.args.key ≡ Some b = sym c.in-Some-get_mut.ensures.value in
    let begins = begun_is c.self.inside.device c.begin.new.self (begun c.args.answers.now) c.in-Ok.ensures.run c.begin.ensures.offers c.begin.ensures.held in
    let able = sym (rw (← c.self.view_is) at c.in_default.ensures) in
    elim c.match-answer.branch [
      | in-Ok-answer w ↦
          let asked = rw w.in-Ok-answer.is at c.map-answer.ensures.asked in
          let same_names = mapping_adds_none c.begin.new.self (is_shared b.kind) (rounded_range b c.args.offset c.args.size) (Ok tt) c.map-answer.new.device (subst (λ es. Chain IsStep c.begin.new.self es c.map-answer.new.device) asked.2.1 asked.1)
          ∙ ap (λ (h : HeldState). h.gone) c.begin.ensures.held in
          rw (← c.self.view_is, w.result-is) (record {
            able = able;
            block = b;
            only = record { at = at; live = ap (map.insert c.self.inside.blocks.live c.args.key) w.in-Ok-answer.ensures.mapped; keys = refl; allocator = refl; names = same_names };
            inside = maps_inside c.args.offset c.args.size _ b able at;
            told = range_is c.object-object.result b.object w.in-Ok-answer.mapping (mapping_of b c.args.offset c.args.size)
                (c.object-object.ensures ∙ c.memory.ensures ∙ ap (λ (x : Block). x.object) w.in-Ok-answer.ensures.mapped) w.in-Ok-answer.ensures.mapping;
            run = (asked.0, c.map-answer.new.device, subst (λ d. Chain IsStep d asked.0 c.map-answer.new.device) begins asked.1, (asked.2, refl));
            answered = mapping_is_answered c.begin.new.self (is_shared b.kind) (rounded_range b c.args.offset c.args.size) c.map-answer.new.device (subst (λ es. Chain IsStep c.begin.new.self es c.map-answer.new.device) asked.2.1 asked.1)
                (ap (λ (r : RunState). r.stop) c.in-Ok.ensures.run);
          })
      | in-Err w ↦ rw w.result-is tt
    ]

pub returns-clause-denied : goal.returns-clause-denied
unfolding MapDenied
returns-clause-denied c =
    let b = c.in-Some-get_mut.block.now in
    let at : map.get c.self.inside.blocks.live c.args.key ≡ Some b = sym c.in-Some-get_mut.ensures.value in
    let begins = begun_is c.self.inside.device c.begin.new.self (begun c.args.answers.now) c.in-Ok.ensures.run c.begin.ensures.offers c.begin.ensures.held in
    let able = sym (rw (← c.self.view_is) at c.in_default.ensures) in
    elim c.match-answer.branch [
      | in-Ok-answer w ↦ rw w.result-is tt
      | in-Err w ↦
          let asked = rw w.in-Err.is at c.map-answer.ensures.asked in
          let chain = subst (λ d. Chain IsStep d asked.0 c.map-answer.new.device) begins asked.1 in
          rw (← c.self.view_is, w.result-is) (inr (able, (b, at, (asked.0, c.map-answer.new.device, chain, (w.in-Err.refusal, asked.2, w.denial_after.ensures)))))
    ]

pub returns-clause-unchanged : goal.returns-clause-unchanged
returns-clause-unchanged c =
    let b = c.in-Some-get_mut.block.now in
    let at : map.get c.self.inside.blocks.live c.args.key ≡ Some b = sym c.in-Some-get_mut.ensures.value in
    let shows = same_objects c.self.inside.device c.begin.new.self c.begin.ensures.offers (ap (λ (h : HeldState). h.objects) c.begin.ensures.held) in
    elim c.match-answer.branch [
      | in-Ok-answer w ↦ rw w.result-is tt
      | in-Err w ↦
          let asked = rw w.in-Err.is at c.map-answer.ensures.asked in
          rw (← c.self.view_is, w.result-is) (record {
            allocator = refl;
            live = ap (map.insert c.self.inside.blocks.live c.args.key) w.in-Err.ensures.refused ∙ put_again c.self.inside.blocks.live c.args.key b at;
            keys = refl;
            objects = (rw w.in-Err.is at c.map-answer.ensures.objects) ∙ shows;
            names = refused_adds_none c.begin.new.self b (rounded_range b c.args.offset c.args.size) w.in-Err.refusal asked.0 c.map-answer.new.device asked.2 asked.1 ∙ ap (λ (h : HeldState). h.gone) c.begin.ensures.held;
            tags = refl;
            page = refl;
          })
    ]

pub returns-clause-keeps : goal.returns-clause-keeps
returns-clause-keeps c =
    let asked = c.map-answer.ensures.asked in
    rw (← c.self.view_is) (record {
      given = record { properties = refl; config = refl; sharing = refl };
      limits = refl;
      total = refl;
      gone = gone_over_write c.self.inside.blocks c.args.key c.in-Some-get_mut.block.now c.map-answer.new.self (sym c.in-Some-get_mut.ensures.value);
      names = begun_keeps_names c.self.inside.device c.begin.new.self asked.0 c.map-answer.new.device c.begin.ensures.held asked.1;
      lost = by_begun_run _ _ c.begin.new.self asked.0 c.begin.ensures.offers c.begin.ensures.held asked.1;
      tags = λ key was is. refl;
      page = refl;
    })
