use Rattle.std.proofs.Common.{◌+◌, [], length, nat_lt, refl, sym, ◌∙◌, ap, inl}
use Rattle.gpu_alloc_base.proofs.Names.{get_entries, here}
use Rattle.gpu_session.specs.Sound.{IsBlock}
use Rattle.gpu_session.proofs.Conditions.{bad_range, good_range, inside, no_block, of_block}
use Rattle.gpu_session.proofs.Moves.{move_is_kept}
use Rattle.gpu_session.proofs.Names.{lent_at, lent_back, lent_put, placed_again}
use Rattle.gpu_session.proofs.Others.{others_left, refused_write}
use Rattle.std.specs.FinMap as finite
use Rattle.std.specs.Ordering.{nat_cmp}
use Rattle.gpu_session.proofs.session.Session.write.Goals as goal
use Rattle.gpu_session.proofs.Ends.{ends_write}
use Rattle.gpu_session.proofs.session.Session.write.Goals.{in-Ok, in-Err}

pub returns-in_default-clause-step : goal.returns-in_default-clause-step
returns-in_default-clause-step g c =
    let none = get_entries c.self.inside.blocks.entries c.args.name ∙ sym c.in_default.ensures.value in
    rw (← c.self.view_is, c.get_mut.follows.holds-at-none) ([], refl, (refl, inl (no_block _ _ none, refl)))

pub invariant_of-self-then-passes_end : goal.invariant_of-self-then-passes_end
invariant_of-self-then-passes_end g c =
    let back = lent_back c.self.inside.blocks.entries c.args.name c.in-Some.block.now c.in-Some.ensures.value c.in-Some.block.now (c.get_mut.follows.lender c.in-Some.block.now).entries (λ some. ((c.get_mut.follows.holds c.in-Some.block.now).3 some).0) refl in
    rw back c.self.invariant

pub returns-then-passes_end-clause-step : goal.returns-then-passes_end-clause-step
returns-then-passes_end-clause-step g c =
    let back = lent_back c.self.inside.blocks.entries c.args.name c.in-Some.block.now c.in-Some.ensures.value c.in-Some.block.now (c.get_mut.follows.lender c.in-Some.block.now).entries (λ some. ((c.get_mut.follows.holds c.in-Some.block.now).3 some).0) refl in
    let at = lent_at c.self.inside.blocks.entries c.args.name c.in-Some.block.now c.in-Some.ensures.value in
    rw (← c.self.view_is, back) ([], refl, (refl, inl (of_block _ c.in-Some.block.now _ _ at (bad_range c.args.offset (length c.args.bytes.now) c.in-Some.block.now.size (ap (λ n. nat_lt n (c.args.offset + (length c.args.bytes.now))) (sym c.size.ensures) ∙ ap (λ xs. nat_lt c.size.result (c.args.offset + length xs)) (sym c.as_slice-bytes.ensures) ∙ sym c.passes_end.ensures ∙ c.if-passes_end.true)), refl)))

pub returns-then-passes_end-clause-keeps : goal.returns-then-passes_end-clause-keeps
returns-then-passes_end-clause-keeps g c =
    let back = lent_back c.self.inside.blocks.entries c.args.name c.in-Some.block.now c.in-Some.ensures.value c.in-Some.block.now (c.get_mut.follows.lender c.in-Some.block.now).entries (λ some. ((c.get_mut.follows.holds c.in-Some.block.now).3 some).0) refl in
    rw (← c.self.view_is, back) (record { given = record { properties = refl; config = refl; sharing = refl }; granted = tt; refused = (refl, refl); balance = refl; others = λ n x another there. (there, λ k low high. (refl, refl)); bytes = tt })

pub write_bytes-requires-clause-agrees : goal.write_bytes-requires-clause-agrees
write_bytes-requires-clause-agrees g c =
    let at = lent_at c.self.inside.blocks.entries c.args.name c.in-Some.block.now c.in-Some.ensures.value in
    (here _ (IsBlock _ c.self.inside.allocator (g.D.MemoryDevice.objects c.self.inside.device)) (c.self.invariant.sound.blocks c.args.name) c.in-Some.block.now at).agrees

pub invariant_of-self-2 : goal.invariant_of-self-2
invariant_of-self-2 g c =
    let at = lent_at c.self.inside.blocks.entries c.args.name c.in-Some.block.now c.in-Some.ensures.value in
    let put = lent_put c.self.inside.blocks.entries c.args.name c.in-Some.block.now c.in-Some.ensures.value c.write_bytes.new.self (c.get_mut.follows.lender c.write_bytes.new.self).entries (λ some. ((c.get_mut.follows.holds c.write_bytes.new.self).3 some).0) in
    rw put (move_is_kept c.self.invariant (record { named = at; same = c.write_bytes.ensures.same; ready = c.write_bytes.ensures.agrees; keeps = c.write_bytes.ensures.keeps; properties = c.write_bytes.ensures.properties }))

pub returns-clause-step : goal.returns-clause-step
returns-clause-step g c =
    let at = lent_at c.self.inside.blocks.entries c.args.name c.in-Some.block.now c.in-Some.ensures.value in
    let put = lent_put c.self.inside.blocks.entries c.args.name c.in-Some.block.now c.in-Some.ensures.value c.write_bytes.new.self (c.get_mut.follows.lender c.write_bytes.new.self).entries (λ some. ((c.get_mut.follows.holds c.write_bytes.new.self).3 some).0) in
    let able = of_block _ c.in-Some.block.now _ _ at (good_range c.args.offset (length c.args.bytes.now) c.in-Some.block.now.size (ap (λ n. nat_lt n (c.args.offset + (length c.args.bytes.now))) (sym c.size.ensures) ∙ ap (λ xs. nat_lt c.size.result (c.args.offset + length xs)) (sym c.as_slice-bytes.ensures) ∙ sym c.passes_end.ensures ∙ c.if-passes_end.false)) in
    elim c.match-write_bytes.branch [
      | in-Ok w ↦
          let asked = rw c.as_slice-bytes.ensures at w.in-Ok.ensures.asked in
          rw (← c.self.view_is, w.result-is, put) (asked.0, asked.1, (able, (c.in-Some.block.now, at, (asked.2, placed_again _ c.args.name c.in-Some.block.now _ at c.write_bytes.ensures.block))))
      | in-Err w ↦
          let asked = rw c.as_slice-bytes.ensures at w.in-Err.ensures.refused in
          let empty = rw c.as_slice-bytes.ensures at c.write_bytes.ensures.empty in
          rw (← c.self.view_is, w.result-is, put) (
            asked.0,
            asked.1,
            (
              able,
              (
                c.in-Some.block.now,
                at,
                (ends_write c.write_bytes.result c.in-Some.block.now _ _ _ asked.0 w.in-Err.is c.args.offset c.args.bytes.now empty asked.2, placed_again _ c.args.name c.in-Some.block.now _ at c.write_bytes.ensures.block),
              ),
            ),
          )
    ]

pub returns-clause-keeps : goal.returns-clause-keeps
returns-clause-keeps g c =
    let b = c.in-Some.block.now in
    let before = g.D.MemoryDevice.objects c.self.inside.device in
    let at = lent_at c.self.inside.blocks.entries c.args.name b c.in-Some.ensures.value in
    let put = lent_put c.self.inside.blocks.entries c.args.name c.in-Some.block.now c.in-Some.ensures.value c.write_bytes.new.self (c.get_mut.follows.lender c.write_bytes.new.self).entries (λ some. ((c.get_mut.follows.holds c.write_bytes.new.self).3 some).0) in
    let after = g.D.MemoryDevice.objects c.write_bytes.new.device in
    let low = inside (c.args.offset + (length c.args.bytes.now)) b.size (ap (λ n. nat_lt n (c.args.offset + (length c.args.bytes.now))) (sym c.size.ensures) ∙ ap (λ xs. nat_lt c.size.result (c.args.offset + length xs)) (sym c.as_slice-bytes.ensures) ∙ sym c.passes_end.ensures ∙ c.if-passes_end.false) in
    let others = others_left (finite.from_entries {R = nat_cmp} c.self.inside.blocks.entries) c.args.name c.write_bytes.new.self before after (λ name x ne there.
    let two = c.self.invariant.sound.apart c.args.name name b x (λ e. ne (sym e)) at there in
    c.write_bytes.ensures.in_hand.bytes x two) in
    elim c.match-write_bytes.branch [
      | in-Ok w ↦
          let written = rw c.as_slice-bytes.ensures at w.in-Ok.ensures.written in
          rw (← c.self.view_is, w.result-is, put)
          (record { given = record { properties = refl; config = refl; sharing = refl }; granted = tt; refused = tt; balance = refl; others = others; bytes = (b, at, record { through = written; all = c.rounded_ranges_lie_in_their_block.ensures.covers c.args.offset (length c.args.bytes.now) low }) })
      | in-Err w ↦
          let asked = rw c.as_slice-bytes.ensures at w.in-Err.ensures.refused in
          rw (← c.self.view_is, w.result-is, put)
          (record {
            given = record { properties = refl; config = refl; sharing = refl };
            granted = tt;
            refused = tt;
            balance = refl;
            others = others;
            bytes = (b, at, refused_write b c.args.offset c.args.bytes.now w.in-Err.e before after asked.0 asked.2);
          })
    ]
