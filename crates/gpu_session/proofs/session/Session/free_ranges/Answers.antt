use Rattle.std.proofs.Common.{[], length, nat_lt, refl, sym, ◌∙◌, ap, inr}
use Rattle.gpu_alloc_types.specs.Properties.{Properties}
use Rattle.gpu_session.proofs.Conditions.{known_type}
use Rattle.gpu_session.proofs.session.Session.free_ranges.Goals as goal
use Rattle.gpu_session.proofs.session.Session.free_ranges.Goals.{in-Ok, in-Err}

pub returns-clause-step : goal.returns-clause-step
returns-clause-step g c =
    let known = known_type (c.self.inside.allocator).properties c.args.memory_type
    (ap (λ (q : Properties). nat_lt c.args.memory_type (length q.memory_types)) (sym c.self.invariant.sound.agrees.properties) ∙ sym (c.has_type.ensures _ c.self.invariant.offer) ∙ c.if-not-has_type.false) in
    elim c.match-free_ranges.branch [
      | in-Ok w ↦ rw (w.result-is, ← c.self.view_is) ([], refl, (known, (refl, refl, rw w.from_vec.ensures (record { exact = w.in-Ok.ensures.exact; order = w.in-Ok.ensures.order }))))
      | in-Err w ↦ rw (w.result-is, ← c.self.view_is) ([], refl, (refl, inr (refl, known, refl, refl)))
    ]
