use Rattle.std.proofs.Common.{◌≡◌, ◌+◌, [], Some, nat_lt, refl, sym, ◌∙◌, ap, inl}
use Rattle.gpu_alloc_base.proofs.Names.{get_entries, here}
use Rattle.gpu_session.specs.Sound.{IsBlock}
use Rattle.gpu_session.proofs.Conditions.{bad_range, good_range, no_block, of_block, some_bytes_then}
use Rattle.gpu_session.proofs.Moves.{move_is_kept}
use Rattle.gpu_session.proofs.Names.{lent_at, lent_back, lent_put, placed, placed_again}
use Rattle.gpu_alloc.specs.Ranges.{rounded_range}
use Rattle.gpu_alloc.specs.State.{is_shared}
use Rattle.gpu_session.proofs.Others.{others_left, opened_moves_none}
use Rattle.std.specs.FinMap as finite
use Rattle.std.specs.Ordering.{nat_cmp}
use Rattle.gpu_session.proofs.session.Session.map.Goals as goal
use Rattle.gpu_session.proofs.session.Session.map.Goals.{in-Ok, in-Err}

pub returns-in_default-clause-step : goal.returns-in_default-clause-step
returns-in_default-clause-step g c =
    let none = get_entries c.self.inside.blocks.entries c.args.name ∙ sym c.in_default.ensures.value in
    rw (← c.self.view_is, c.get_mut.follows.holds-at-none) ([], refl, (refl, inl (no_block _ _ none, refl)))

pub invariant_of-self-then-size-eq0 : goal.invariant_of-self-then-size-eq0
invariant_of-self-then-size-eq0 g c =
    let back = lent_back c.self.inside.blocks.entries c.args.name c.in-Some.block.now c.in-Some.ensures.value c.in-Some.block.now (c.get_mut.follows.lender c.in-Some.block.now).entries (λ some. ((c.get_mut.follows.holds c.in-Some.block.now).3 some).0) refl in
    rw back c.self.invariant

pub returns-then-size-eq0-clause-step : goal.returns-then-size-eq0-clause-step
returns-then-size-eq0-clause-step g c =
    let back = lent_back c.self.inside.blocks.entries c.args.name c.in-Some.block.now c.in-Some.ensures.value c.in-Some.block.now (c.get_mut.follows.lender c.in-Some.block.now).entries (λ some. ((c.get_mut.follows.holds c.in-Some.block.now).3 some).0) refl in
    let at = lent_at c.self.inside.blocks.entries c.args.name c.in-Some.block.now c.in-Some.ensures.value in
    rw (← c.self.view_is, back) ([], refl, (refl, inl (of_block _ c.in-Some.block.now _ _ at (rw c.if-size-eq0.true refl), refl)))

pub returns-then-size-eq0-clause-keeps : goal.returns-then-size-eq0-clause-keeps
returns-then-size-eq0-clause-keeps g c =
    let back = lent_back c.self.inside.blocks.entries c.args.name c.in-Some.block.now c.in-Some.ensures.value c.in-Some.block.now (c.get_mut.follows.lender c.in-Some.block.now).entries (λ some. ((c.get_mut.follows.holds c.in-Some.block.now).3 some).0) refl in
    rw (← c.self.view_is, back) (record { given = record { properties = refl; config = refl; sharing = refl }; granted = tt; refused = (refl, refl); balance = refl; others = λ n x another there. (there, λ k low high. (refl, refl)); bytes = tt })

pub invariant_of-self-then-passes_end : goal.invariant_of-self-then-passes_end
invariant_of-self-then-passes_end g c =
    let back = lent_back c.self.inside.blocks.entries c.args.name c.in-Some.block.now c.in-Some.ensures.value c.in-Some.block.now (c.get_mut.follows.lender c.in-Some.block.now).entries (λ some. ((c.get_mut.follows.holds c.in-Some.block.now).3 some).0) refl in
    rw back c.self.invariant

pub returns-then-passes_end-clause-step : goal.returns-then-passes_end-clause-step
returns-then-passes_end-clause-step g c =
    let back = lent_back c.self.inside.blocks.entries c.args.name c.in-Some.block.now c.in-Some.ensures.value c.in-Some.block.now (c.get_mut.follows.lender c.in-Some.block.now).entries (λ some. ((c.get_mut.follows.holds c.in-Some.block.now).3 some).0) refl in
    let at = lent_at c.self.inside.blocks.entries c.args.name c.in-Some.block.now c.in-Some.ensures.value in
    rw (← c.self.view_is, back) ([], refl, (refl, inl (of_block _ c.in-Some.block.now _ _ at (some_bytes_then c.args.size _ c.if-size-eq0.false ∙ bad_range c.args.offset c.args.size c.in-Some.block.now.size (ap (λ n. nat_lt n (c.args.offset + c.args.size)) (sym c.size.ensures) ∙ sym c.passes_end.ensures ∙ c.if-passes_end.true)), refl)))

pub returns-then-passes_end-clause-keeps : goal.returns-then-passes_end-clause-keeps
returns-then-passes_end-clause-keeps g c =
    let back = lent_back c.self.inside.blocks.entries c.args.name c.in-Some.block.now c.in-Some.ensures.value c.in-Some.block.now (c.get_mut.follows.lender c.in-Some.block.now).entries (λ some. ((c.get_mut.follows.holds c.in-Some.block.now).3 some).0) refl in
    rw (← c.self.view_is, back) (record { given = record { properties = refl; config = refl; sharing = refl }; granted = tt; refused = (refl, refl); balance = refl; others = λ n x another there. (there, λ k low high. (refl, refl)); bytes = tt })

pub map-requires-clause-agrees : goal.map-requires-clause-agrees
map-requires-clause-agrees g c =
    let at = lent_at c.self.inside.blocks.entries c.args.name c.in-Some.block.now c.in-Some.ensures.value in
    (here _ (IsBlock _ c.self.inside.allocator (g.D.MemoryDevice.objects c.self.inside.device)) (c.self.invariant.sound.blocks c.args.name) c.in-Some.block.now at).agrees

pub invariant_of-self-2 : goal.invariant_of-self-2
invariant_of-self-2 g c =
    let at = lent_at c.self.inside.blocks.entries c.args.name c.in-Some.block.now c.in-Some.ensures.value in
    let put = lent_put c.self.inside.blocks.entries c.args.name c.in-Some.block.now c.in-Some.ensures.value c.map.new.self (c.get_mut.follows.lender c.map.new.self).entries (λ some. ((c.get_mut.follows.holds c.map.new.self).3 some).0) in
    rw put (move_is_kept c.self.invariant (record { named = at; same = c.map.ensures.same; ready = c.map.ensures.agrees; keeps = c.map.ensures.keeps; properties = c.map.ensures.properties }))

pub returns-clause-step : goal.returns-clause-step
returns-clause-step g c =
    let at = lent_at c.self.inside.blocks.entries c.args.name c.in-Some.block.now c.in-Some.ensures.value in
    let put = lent_put c.self.inside.blocks.entries c.args.name c.in-Some.block.now c.in-Some.ensures.value c.map.new.self (c.get_mut.follows.lender c.map.new.self).entries (λ some. ((c.get_mut.follows.holds c.map.new.self).3 some).0) in
    let able = of_block _ c.in-Some.block.now _ _ at (some_bytes_then c.args.size _ c.if-size-eq0.false ∙ good_range c.args.offset c.args.size c.in-Some.block.now.size (ap (λ n. nat_lt n (c.args.offset + c.args.size)) (sym c.size.ensures) ∙ sym c.passes_end.ensures ∙ c.if-passes_end.false)) in
    elim c.match-map.branch [
      | in-Ok w ↦
          let asked = rw w.in-Ok.is at c.map.ensures.asked in
          rw (← c.self.view_is, w.result-is, put) (asked.0, asked.1, (able, (c.in-Some.block.now, at, (asked.2, w.in-Ok.ensures.mapping, placed _ c.args.name _ _ (w.in-Ok.ensures.mapped ∙ ap (λ m. record c.in-Some.block.now { mapping = Some m }) (sym w.in-Ok.ensures.mapping))))))
      | in-Err w ↦
          let asked = rw w.in-Err.is at c.map.ensures.asked in
          rw (← c.self.view_is, w.result-is, put) (asked.0, asked.1, (able, (c.in-Some.block.now, at, (asked.2, placed_again _ c.args.name c.in-Some.block.now _ at w.in-Err.ensures.refused))))
    ]

pub returns-clause-keeps : goal.returns-clause-keeps
returns-clause-keeps g c =
    let b = c.in-Some.block.now in
    let before = g.D.MemoryDevice.objects c.self.inside.device in
    let at = lent_at c.self.inside.blocks.entries c.args.name b c.in-Some.ensures.value in
    let put = lent_put c.self.inside.blocks.entries c.args.name c.in-Some.block.now c.in-Some.ensures.value c.map.new.self (c.get_mut.follows.lender c.map.new.self).entries (λ some. ((c.get_mut.follows.holds c.map.new.self).3 some).0) in
    let after = g.D.MemoryDevice.objects c.map.new.device in
    let others = others_left (finite.from_entries {R = nat_cmp} c.self.inside.blocks.entries) c.args.name c.map.new.self before after (λ name x ne there. c.map.ensures.bytes x) in
    elim c.match-map.branch [
      | in-Ok w ↦
          let opened = rw w.in-Ok.is at c.map.ensures.objects in
          rw (← c.self.view_is, w.result-is, put)
          (record {
            given = record { properties = refl; config = refl; sharing = refl };
            granted = tt;
            refused = tt;
            balance = refl;
            others = others;
            bytes = (b, at, opened_moves_none (is_shared b.kind) (rounded_range b c.args.offset c.args.size) before after b refl opened);
          })
      | in-Err w ↦
          let same : after ≡ before = rw w.in-Err.is at c.map.ensures.objects in
          rw (← c.self.view_is, w.result-is, put)
          (record { given = record { properties = refl; config = refl; sharing = refl }; granted = tt; refused = tt; balance = refl; others = others; bytes = same })
    ]
