use Rattle.std.proofs.Common.{◌+◌, [], ◌∷◌, length, nat_lt, refl, sym, subst, ◌∙◌, ap, inl, arith}
use Rattle.gpu_alloc_types.specs.Device.Event.{BytesPut}
use Rattle.gpu_alloc_base.proofs.Names.{get_entries, here}
use Rattle.gpu_session.specs.Faults.{fault_of_mapping}
use Rattle.gpu_session.specs.Sound.{IsBlock}
use Rattle.gpu_session.proofs.Conditions.{bad_range, good_range, in_mapping, inside, no_block, of_block}
use Rattle.gpu_session.proofs.Ends.{none_moved, some_moved}
use Rattle.gpu_session.proofs.Moves.{agreed_is_kept}
use Rattle.gpu_session.proofs.Names.{lent_at}
use Rattle.gpu_alloc_types.specs.Device.{Changes, IsPut}
use Rattle.gpu_session.proofs.Others.{mapping_in_block, others_stay, put_leaves}
use Rattle.std.specs.FinMap as finite
use Rattle.std.specs.Ordering.{nat_cmp}
use Rattle.gpu_session.proofs.session.Session.put.Goals as goal
use Rattle.gpu_session.proofs.session.Session.put.Goals.{then-len-gt0, else-len-gt0}

pub returns-in_default-clause-step : goal.returns-in_default-clause-step
returns-in_default-clause-step g c =
    let none = get_entries c.self.inside.blocks.entries c.args.name ∙ sym c.in_default.ensures.value in
    rw (← c.self.view_is) ([], refl, (refl, inl (no_block _ _ none, refl)))

pub returns-in_default-mapping-clause-step : goal.returns-in_default-mapping-clause-step
returns-in_default-mapping-clause-step g c =
    let at = lent_at c.self.inside.blocks.entries c.args.name c.in-Some.block.now c.in-Some.ensures.value in
    rw (← c.self.view_is) ([], refl, (refl, inl (of_block _ c.in-Some.block.now _ _ at (ap (λ o. fault_of_mapping o c.args.offset (length c.args.bytes.now)) (sym c.mapping.ensures ∙ c.in_default-mapping.is)), refl)))

pub returns-then-passes_end-clause-step : goal.returns-then-passes_end-clause-step
returns-then-passes_end-clause-step g c =
    let at = lent_at c.self.inside.blocks.entries c.args.name c.in-Some.block.now c.in-Some.ensures.value in
    let is = sym c.mapping.ensures ∙ c.in-Some-mapping.is in
    rw (← c.self.view_is) ([], refl, (refl, inl (of_block _ c.in-Some.block.now _ _ at (in_mapping c.in-Some.block.now.mapping c.in-Some-mapping.mapping c.args.offset (length c.args.bytes.now) _ is (bad_range c.args.offset (length c.args.bytes.now) c.in-Some-mapping.mapping.len (ap (λ xs. nat_lt c.in-Some-mapping.mapping.len (c.args.offset + length xs)) (sym c.as_slice-bytes.ensures) ∙ sym c.passes_end.ensures ∙ c.if-passes_end.true))), refl)))

pub overflow_add-place : goal.overflow_add-place
overflow_add-place g c =
    let at = lent_at c.self.inside.blocks.entries c.args.name c.in-Some.block.now c.in-Some.ensures.value in
    let is = sym c.mapping.ensures ∙ c.in-Some-mapping.is in
    let agrees = (here _ (IsBlock _ c.self.inside.allocator (g.D.MemoryDevice.objects c.self.inside.device)) (c.self.invariant.sound.blocks c.args.name) c.in-Some.block.now at).agrees in
    let low = inside (c.args.offset + (length c.args.bytes.now)) c.in-Some-mapping.mapping.len (ap (λ xs. nat_lt c.in-Some-mapping.mapping.len (c.args.offset + length xs)) (sym c.as_slice-bytes.ensures) ∙ sym c.passes_end.ensures ∙ c.if-passes_end.false) in
    omega (arith, low, c.bytes_of_a_mapping_may_be_moved.ensures.finish _ _ c.in-Some-mapping.mapping agrees is)

pub put_bytes-requires : goal.put_bytes-requires
put_bytes-requires g c =
    let at = lent_at c.self.inside.blocks.entries c.args.name c.in-Some.block.now c.in-Some.ensures.value in
    let is = sym c.mapping.ensures ∙ c.in-Some-mapping.is in
    let agrees = (here _ (IsBlock _ c.self.inside.allocator (g.D.MemoryDevice.objects c.self.inside.device)) (c.self.invariant.sound.blocks c.args.name) c.in-Some.block.now at).agrees in
    let low = inside (c.args.offset + (length c.args.bytes.now)) c.in-Some-mapping.mapping.len (ap (λ xs. nat_lt c.in-Some-mapping.mapping.len (c.args.offset + length xs)) (sym c.as_slice-bytes.ensures) ∙ sym c.passes_end.ensures ∙ c.if-passes_end.false) in
    rw (c.memory.ensures, c.as_slice-bytes.ensures) (c.bytes_of_a_mapping_may_be_moved.ensures.inside _ _ c.in-Some-mapping.mapping (c.in-Some-mapping.mapping.start + c.args.offset) (length c.args.bytes.now) agrees is (rw c.as_slice-bytes.ensures at c.if-len-gt0.true) (omega arith) (omega (arith, low)))

pub invariant_of-self : goal.invariant_of-self
invariant_of-self g c =
    let kept = c.byte_calls_keep_agreement.ensures in
    agreed_is_kept c.self.invariant (record {
      allocator = kept.allocator c.self.inside.device _ c.put_bytes.ensures tt;
      blocks = λ b owned. kept.blocks b c.self.inside.device _ c.put_bytes.ensures tt;
    })

pub returns-clause-step : goal.returns-clause-step
returns-clause-step g c =
    let at = lent_at c.self.inside.blocks.entries c.args.name c.in-Some.block.now c.in-Some.ensures.value in
    let is = sym c.mapping.ensures ∙ c.in-Some-mapping.is in
    let able = of_block _ c.in-Some.block.now _ _ at (in_mapping c.in-Some.block.now.mapping c.in-Some-mapping.mapping c.args.offset (length c.args.bytes.now) _ is (good_range c.args.offset (length c.args.bytes.now) c.in-Some-mapping.mapping.len (ap (λ xs. nat_lt c.in-Some-mapping.mapping.len (c.args.offset + length xs)) (sym c.as_slice-bytes.ensures) ∙ sym c.passes_end.ensures ∙ c.if-passes_end.false))) in
    elim c.if-len-gt0.branch [
      | then-len-gt0 w ↦
          let asked = rw (w.memory.ensures, c.as_slice-bytes.ensures) at w.put_bytes.ensures in
          let some = rw c.as_slice-bytes.ensures at w.if-len-gt0.true in
          rw (← c.self.view_is, w.self-is) (
            BytesPut c.in-Some.block.now.object (c.in-Some-mapping.mapping.start + c.args.offset) c.args.bytes.now ∷ [],
            (w.put_bytes.new.self, asked, refl),
            (able, (c.in-Some.block.now, at, ((c.in-Some-mapping.mapping, is, some_moved (length c.args.bytes.now) _ some), refl))),
          )
      | else-len-gt0 w ↦
          let none = rw c.as_slice-bytes.ensures at w.if-len-gt0.false in
          rw (w.self-is, ← c.self.view_is) ([], refl, (able, (c.in-Some.block.now, at, ((c.in-Some-mapping.mapping, is, none_moved (length c.args.bytes.now) _ none), refl))))
    ]

pub returns-clause-keeps : goal.returns-clause-keeps
returns-clause-keeps g c =
    let b = c.in-Some.block.now in
    let m = c.in-Some-mapping.mapping in
    let sound = c.self.invariant.sound in
    let before = g.D.MemoryDevice.objects c.self.inside.device in
    let at = lent_at c.self.inside.blocks.entries c.args.name b c.in-Some.ensures.value in
    let is = sym c.mapping.ensures ∙ c.in-Some-mapping.is in
    let agrees = (here _ (IsBlock _ c.self.inside.allocator before) (sound.blocks c.args.name) b at).agrees in
    let low = inside (c.args.offset + (length c.args.bytes.now)) m.len (ap (λ xs. nat_lt m.len (c.args.offset + length xs)) (sym c.as_slice-bytes.ensures) ∙ sym c.passes_end.ensures ∙ c.if-passes_end.false) in
    let lies = mapping_in_block b _ before m agrees is in
    elim c.if-len-gt0.branch [
      | then-len-gt0 w ↦
          let after = g.D.MemoryDevice.objects w.put_bytes.new.self in
          let asked = rw (w.memory.ensures, c.as_slice-bytes.ensures) at w.put_bytes.ensures in
          let row = g.met.D.MemoryDevice.row c.self.inside.device (BytesPut b.object (m.start + c.args.offset) c.args.bytes.now) w.put_bytes.new.self asked in
          let put = subst (λ p. Changes (IsPut p (m.start + c.args.offset) c.args.bytes.now) before b.object after) sound.agrees.properties row in
          let some = rw c.as_slice-bytes.ensures at w.if-len-gt0.true in
          let others = others_stay (finite.from_entries {R = nat_cmp} c.self.inside.blocks.entries) c.args.name before after (λ name x ne there.
          let two = sound.apart c.args.name name b x (λ e. ne (sym e)) at there in
          put_leaves b x two (c.self.inside.allocator).properties (m.start + c.args.offset) c.args.bytes.now before after (omega (arith, lies.0)) (omega (arith, low, lies.1)) put) in
          rw (← c.self.view_is, w.self-is)
          (record {
            given = record { properties = refl; config = refl; sharing = refl };
            granted = tt;
            refused = tt;
            balance = refl;
            others = others;
            bytes = (b, at, (m, is, ((λ more. put), (λ none. absurd (omega (arith, some, none))))));
          })
      | else-len-gt0 w ↦
          let none = rw c.as_slice-bytes.ensures at w.if-len-gt0.false in
          rw (w.self-is, ← c.self.view_is)
          (record {
            given = record { properties = refl; config = refl; sharing = refl };
            granted = tt;
            refused = tt;
            balance = refl;
            others = λ name x another there. (there, λ k from to. (refl, refl));
            bytes = (b, at, (m, is, ((λ more. absurd (omega (arith, none, more))), (λ empty. refl))));
          })
    ]
