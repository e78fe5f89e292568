use Rattle.std.proofs.Common.{◌+◌, [], length, nat_lt, refl, sym, subst, ◌∙◌, ap, inl, inr}
use Rattle.gpu_alloc_base.proofs.Names.{get_entries, here}
use Rattle.gpu_session.specs.Sound.{IsBlock}
use Rattle.gpu_session.proofs.Conditions.{bad_range, good_range, no_block, of_block}
use Rattle.gpu_session.proofs.Moves.{move_is_kept}
use Rattle.gpu_session.proofs.Names.{lent_at, lent_back, lent_put, placed_again}
use Rattle.gpu_session.proofs.Others.{others_left, refused_read}
use Rattle.std.specs.FinMap as finite
use Rattle.std.specs.Ordering.{nat_cmp}
use Rattle.gpu_session.proofs.session.Session.read.Goals as goal
use Rattle.gpu_session.proofs.Ends.{ends_read, taken_whole}
use Rattle.gpu_alloc.specs.Bytes.{AsksToRead, ChangesBytes, IsReadThrough}
use Rattle.gpu_session.proofs.session.Session.read.Goals.{in-Ok-read_bytes, in-Err}

pub returns-in_default-clause-step : goal.returns-in_default-clause-step
returns-in_default-clause-step g c =
    let none = get_entries c.self.inside.blocks.entries c.args.name ∙ sym c.in_default.ensures.value in
    rw (← c.self.view_is, c.get_mut.follows.holds-at-none) ([], refl, (refl, inl (no_block _ _ none, refl)))

pub invariant_of-self-then-passes_end : goal.invariant_of-self-then-passes_end
invariant_of-self-then-passes_end g c =
    let back = lent_back c.self.inside.blocks.entries c.args.name c.in-Some.block.now c.in-Some.ensures.value c.in-Some.block.now (c.get_mut.follows.lender c.in-Some.block.now).entries (λ some. ((c.get_mut.follows.holds c.in-Some.block.now).3 some).0) refl in
    rw back c.self.invariant

pub returns-then-passes_end-clause-step : goal.returns-then-passes_end-clause-step
returns-then-passes_end-clause-step g c =
    let back = lent_back c.self.inside.blocks.entries c.args.name c.in-Some.block.now c.in-Some.ensures.value c.in-Some.block.now (c.get_mut.follows.lender c.in-Some.block.now).entries (λ some. ((c.get_mut.follows.holds c.in-Some.block.now).3 some).0) refl in
    let at = lent_at c.self.inside.blocks.entries c.args.name c.in-Some.block.now c.in-Some.ensures.value in
    rw (← c.self.view_is, back) ([], refl, (refl, inl (of_block _ c.in-Some.block.now _ _ at (bad_range c.args.offset c.args.len c.in-Some.block.now.size (ap (λ n. nat_lt n (c.args.offset + c.args.len)) (sym c.size.ensures) ∙ sym c.passes_end.ensures ∙ c.if-passes_end.true)), refl)))

pub returns-then-passes_end-clause-keeps : goal.returns-then-passes_end-clause-keeps
returns-then-passes_end-clause-keeps g c =
    let back = lent_back c.self.inside.blocks.entries c.args.name c.in-Some.block.now c.in-Some.ensures.value c.in-Some.block.now (c.get_mut.follows.lender c.in-Some.block.now).entries (λ some. ((c.get_mut.follows.holds c.in-Some.block.now).3 some).0) refl in
    rw (← c.self.view_is, back) (record { given = record { properties = refl; config = refl; sharing = refl }; granted = tt; refused = (refl, refl); balance = refl; others = λ n x another there. (there, λ k low high. (refl, refl)); bytes = tt })

pub invariant_of-self-in_default-zeros : goal.invariant_of-self-in_default-zeros
invariant_of-self-in_default-zeros g c =
    let back = lent_back c.self.inside.blocks.entries c.args.name c.in-Some.block.now c.in-Some.ensures.value c.in-Some.block.now (c.get_mut.follows.lender c.in-Some.block.now).entries (λ some. ((c.get_mut.follows.holds c.in-Some.block.now).3 some).0) refl in
    rw back c.self.invariant

pub returns-in_default-zeros-clause-step : goal.returns-in_default-zeros-clause-step
returns-in_default-zeros-clause-step g c =
    let back = lent_back c.self.inside.blocks.entries c.args.name c.in-Some.block.now c.in-Some.ensures.value c.in-Some.block.now (c.get_mut.follows.lender c.in-Some.block.now).entries (λ some. ((c.get_mut.follows.holds c.in-Some.block.now).3 some).0) refl in
    let at = lent_at c.self.inside.blocks.entries c.args.name c.in-Some.block.now c.in-Some.ensures.value in
    rw (← c.self.view_is, back) ([], refl, (refl, inr (refl, of_block _ c.in-Some.block.now _ _ at (good_range c.args.offset c.args.len c.in-Some.block.now.size (ap (λ n. nat_lt n (c.args.offset + c.args.len)) (sym c.size.ensures) ∙ sym c.passes_end.ensures ∙ c.if-passes_end.false)), refl, refl)))

pub returns-in_default-zeros-clause-keeps : goal.returns-in_default-zeros-clause-keeps
returns-in_default-zeros-clause-keeps g c =
    let back = lent_back c.self.inside.blocks.entries c.args.name c.in-Some.block.now c.in-Some.ensures.value c.in-Some.block.now (c.get_mut.follows.lender c.in-Some.block.now).entries (λ some. ((c.get_mut.follows.holds c.in-Some.block.now).3 some).0) refl in
    rw (← c.self.view_is, back) (record { given = record { properties = refl; config = refl; sharing = refl }; granted = tt; refused = (refl, refl); balance = refl; others = λ n x another there. (there, λ k low high. (refl, refl)); bytes = tt })

pub read_bytes-requires-clause-agrees : goal.read_bytes-requires-clause-agrees
read_bytes-requires-clause-agrees g c =
    let at = lent_at c.self.inside.blocks.entries c.args.name c.in-Some.block.now c.in-Some.ensures.value in
    (here _ (IsBlock _ c.self.inside.allocator (g.D.MemoryDevice.objects c.self.inside.device)) (c.self.invariant.sound.blocks c.args.name) c.in-Some.block.now at).agrees

pub invariant_of-self-2 : goal.invariant_of-self-2
invariant_of-self-2 g c =
    let at = lent_at c.self.inside.blocks.entries c.args.name c.in-Some.block.now c.in-Some.ensures.value in
    let put = lent_put c.self.inside.blocks.entries c.args.name c.in-Some.block.now c.in-Some.ensures.value c.read_bytes.new.self (c.get_mut.follows.lender c.read_bytes.new.self).entries (λ some. ((c.get_mut.follows.holds c.read_bytes.new.self).3 some).0) in
    rw put (move_is_kept c.self.invariant (record { named = at; same = c.read_bytes.ensures.same; ready = c.read_bytes.ensures.agrees; keeps = c.read_bytes.ensures.keeps; properties = c.read_bytes.ensures.properties }))

pub returns-clause-step : goal.returns-clause-step
returns-clause-step g c =
    let at = lent_at c.self.inside.blocks.entries c.args.name c.in-Some.block.now c.in-Some.ensures.value in
    let put = lent_put c.self.inside.blocks.entries c.args.name c.in-Some.block.now c.in-Some.ensures.value c.read_bytes.new.self (c.get_mut.follows.lender c.read_bytes.new.self).entries (λ some. ((c.get_mut.follows.holds c.read_bytes.new.self).3 some).0) in
    let able = of_block _ c.in-Some.block.now _ _ at (good_range c.args.offset c.args.len c.in-Some.block.now.size (ap (λ n. nat_lt n (c.args.offset + c.args.len)) (sym c.size.ensures) ∙ sym c.passes_end.ensures ∙ c.if-passes_end.false)) in
    let count = ap (λ xs. length xs) c.as_mut_slice.ensures.value ∙ c.in-Ok.ensures in
    elim c.match-read_bytes.branch [
      | in-Ok-read_bytes w ↦
          let asked = w.in-Ok-read_bytes.ensures.asked in
          let told = taken_whole c.in-Ok.bytes.len c.read_bytes.new.bytes _ w.from_vec.result w.from_vec.ensures (c.read_bytes.auto.bytes ∙ c.as_mut_slice.ensures.len) in
          rw (← c.self.view_is, w.result-is, put) (
            asked.0,
            asked.1,
            (
              able,
              (
                c.in-Some.block.now,
                at,
                (ap (λ xs. length xs) told ∙ c.read_bytes.auto.bytes ∙ count, subst (λ xs. AsksToRead c.in-Some.block.now c.args.offset xs asked.0) (sym told) asked.2, placed_again _ c.args.name c.in-Some.block.now _ at c.read_bytes.ensures.block),
              ),
            ),
          )
      | in-Err w ↦
          let asked = rw count at w.in-Err.ensures.refused in
          let empty = rw count at c.read_bytes.ensures.empty in
          rw (← c.self.view_is, w.result-is, put) (
            asked.0,
            asked.1,
            (
              able,
              (
                c.in-Some.block.now,
                at,
                (ends_read c.read_bytes.result c.in-Some.block.now _ _ _ asked.0 w.in-Err.is c.args.offset c.args.len empty asked.2, placed_again _ c.args.name c.in-Some.block.now _ at c.read_bytes.ensures.block),
              ),
            ),
          )
    ]

pub returns-clause-keeps : goal.returns-clause-keeps
returns-clause-keeps g c =
    let b = c.in-Some.block.now in
    let before = g.D.MemoryDevice.objects c.self.inside.device in
    let at = lent_at c.self.inside.blocks.entries c.args.name b c.in-Some.ensures.value in
    let put = lent_put c.self.inside.blocks.entries c.args.name c.in-Some.block.now c.in-Some.ensures.value c.read_bytes.new.self (c.get_mut.follows.lender c.read_bytes.new.self).entries (λ some. ((c.get_mut.follows.holds c.read_bytes.new.self).3 some).0) in
    let after = g.D.MemoryDevice.objects c.read_bytes.new.device in
    let count = ap (λ xs. length xs) c.as_mut_slice.ensures.value ∙ c.in-Ok.ensures in
    let others = others_left (finite.from_entries {R = nat_cmp} c.self.inside.blocks.entries) c.args.name c.read_bytes.new.self before after (λ name x ne there.
    let two = c.self.invariant.sound.apart c.args.name name b x (λ e. ne (sym e)) at there in
    c.read_bytes.ensures.in_hand.bytes x two) in
    elim c.match-read_bytes.branch [
      | in-Ok-read_bytes w ↦
          let told = taken_whole c.in-Ok.bytes.len c.read_bytes.new.bytes _ w.from_vec.result w.from_vec.ensures (c.read_bytes.auto.bytes ∙ c.as_mut_slice.ensures.len) in
          let read = subst (λ xs. ChangesBytes b c.args.len (IsReadThrough b c.args.offset xs) before after) (sym told) (rw count at w.in-Ok-read_bytes.ensures.read) in
          rw (← c.self.view_is, w.result-is, put)
          (record { given = record { properties = refl; config = refl; sharing = refl }; granted = tt; refused = tt; balance = refl; others = others; bytes = (b, at, read) })
      | in-Err w ↦
          let asked = rw count at w.in-Err.ensures.refused in
          rw (← c.self.view_is, w.result-is, put)
          (record {
            given = record { properties = refl; config = refl; sharing = refl };
            granted = tt;
            refused = tt;
            balance = refl;
            others = others;
            bytes = (b, at, refused_read b c.args.offset c.args.len w.in-Err.e before after asked.0 asked.2);
          })
    ]
