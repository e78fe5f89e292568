use Rattle.std.proofs.Common.{◌+◌, [], ◌∷◌, length, refl, sym, ◌∙◌, ap, inl, inr, arith}
use Rattle.gpu_alloc_types.specs.Device.Event.{BytesGot}
use Rattle.gpu_alloc_base.proofs.Names.{get_entries, here}
use Rattle.gpu_session.specs.Faults.{fault_of_mapping}
use Rattle.gpu_session.specs.Sound.{IsBlock}
use Rattle.gpu_session.proofs.Conditions.{bad_range, good_range, in_mapping, inside, no_block, of_block}
use Rattle.gpu_session.proofs.Ends.{none_moved, some_moved, taken_whole}
use Rattle.gpu_session.proofs.Moves.{agreed_is_kept}
use Rattle.gpu_session.proofs.Names.{lent_at}
use Rattle.gpu_session.proofs.Others.{untouched}
use Rattle.gpu_session.proofs.session.Session.get.Goals as goal
use Rattle.gpu_session.proofs.session.Session.get.Goals.{then-len-gt0, else-len-gt0}

pub returns-in_default-clause-step : goal.returns-in_default-clause-step
returns-in_default-clause-step g c =
    let none = get_entries c.self.inside.blocks.entries c.args.name ∙ sym c.in_default.ensures.value in
    rw (← c.self.view_is) ([], refl, (refl, inl (no_block _ _ none, refl)))

pub returns-in_default-mapping-clause-step : goal.returns-in_default-mapping-clause-step
returns-in_default-mapping-clause-step g c =
    let at = lent_at c.self.inside.blocks.entries c.args.name c.in-Some.block.now c.in-Some.ensures.value in
    rw (← c.self.view_is) ([], refl, (refl, inl (of_block _ c.in-Some.block.now _ _ at (ap (λ o. fault_of_mapping o c.args.offset c.args.len) (sym c.mapping.ensures ∙ c.in_default-mapping.is)), refl)))

pub returns-then-passes_end-clause-step : goal.returns-then-passes_end-clause-step
returns-then-passes_end-clause-step g c =
    let at = lent_at c.self.inside.blocks.entries c.args.name c.in-Some.block.now c.in-Some.ensures.value in
    let is = sym c.mapping.ensures ∙ c.in-Some-mapping.is in
    rw (← c.self.view_is) ([], refl, (refl, inl (of_block _ c.in-Some.block.now _ _ at (in_mapping c.in-Some.block.now.mapping c.in-Some-mapping.mapping c.args.offset c.args.len _ is (bad_range c.args.offset c.args.len c.in-Some-mapping.mapping.len (sym c.passes_end.ensures ∙ c.if-passes_end.true))), refl)))

pub returns-in_default-zeros-clause-step : goal.returns-in_default-zeros-clause-step
returns-in_default-zeros-clause-step g c =
    let at = lent_at c.self.inside.blocks.entries c.args.name c.in-Some.block.now c.in-Some.ensures.value in
    let is = sym c.mapping.ensures ∙ c.in-Some-mapping.is in
    rw (← c.self.view_is) ([], refl, (refl, inr (refl, of_block _ c.in-Some.block.now _ _ at (in_mapping c.in-Some.block.now.mapping c.in-Some-mapping.mapping c.args.offset c.args.len _ is (good_range c.args.offset c.args.len c.in-Some-mapping.mapping.len (sym c.passes_end.ensures ∙ c.if-passes_end.false))), refl, refl)))

pub overflow_add-place : goal.overflow_add-place
overflow_add-place g c =
    let at = lent_at c.self.inside.blocks.entries c.args.name c.in-Some.block.now c.in-Some.ensures.value in
    let is = sym c.mapping.ensures ∙ c.in-Some-mapping.is in
    let agrees = (here _ (IsBlock _ c.self.inside.allocator (g.D.MemoryDevice.objects c.self.inside.device)) (c.self.invariant.sound.blocks c.args.name) c.in-Some.block.now at).agrees in
    let low = inside (c.args.offset + c.args.len) c.in-Some-mapping.mapping.len (sym c.passes_end.ensures ∙ c.if-passes_end.false) in
    omega (arith, low, c.bytes_of_a_mapping_may_be_moved.ensures.finish _ _ c.in-Some-mapping.mapping agrees is)

pub get_bytes-requires : goal.get_bytes-requires
get_bytes-requires g c =
    let at = lent_at c.self.inside.blocks.entries c.args.name c.in-Some.block.now c.in-Some.ensures.value in
    let is = sym c.mapping.ensures ∙ c.in-Some-mapping.is in
    let agrees = (here _ (IsBlock _ c.self.inside.allocator (g.D.MemoryDevice.objects c.self.inside.device)) (c.self.invariant.sound.blocks c.args.name) c.in-Some.block.now at).agrees in
    let low = inside (c.args.offset + c.args.len) c.in-Some-mapping.mapping.len (sym c.passes_end.ensures ∙ c.if-passes_end.false) in
    rw (c.memory.ensures, (ap (λ xs. length xs) c.as_mut_slice.ensures.value ∙ c.in-Ok.ensures)) (c.bytes_of_a_mapping_may_be_moved.ensures.inside _ _ c.in-Some-mapping.mapping (c.in-Some-mapping.mapping.start + c.args.offset) c.args.len agrees is c.if-len-gt0.true (omega arith) (omega (arith, low)))

pub invariant_of-self : goal.invariant_of-self
invariant_of-self g c =
    let kept = c.byte_calls_keep_agreement.ensures in
    agreed_is_kept c.self.invariant (record {
      allocator = kept.allocator c.self.inside.device _ c.get_bytes.ensures tt;
      blocks = λ b owned. kept.blocks b c.self.inside.device _ c.get_bytes.ensures tt;
    })

pub returns-clause-step : goal.returns-clause-step
returns-clause-step g c =
    let at = lent_at c.self.inside.blocks.entries c.args.name c.in-Some.block.now c.in-Some.ensures.value in
    let is = sym c.mapping.ensures ∙ c.in-Some-mapping.is in
    let able = of_block _ c.in-Some.block.now _ _ at (in_mapping c.in-Some.block.now.mapping c.in-Some-mapping.mapping c.args.offset c.args.len _ is (good_range c.args.offset c.args.len c.in-Some-mapping.mapping.len (sym c.passes_end.ensures ∙ c.if-passes_end.false))) in
    elim c.if-len-gt0.branch [
      | then-len-gt0 w ↦
          let asked = rw w.memory.ensures at w.get_bytes.ensures in
          let told = taken_whole c.in-Ok.bytes.len w.get_bytes.new.bytes _ c.from_vec.result (rw w.bytes-is at c.from_vec.ensures) (w.get_bytes.auto.bytes ∙ w.as_mut_slice.ensures.len) in
          let many = ap (λ xs. length xs) told ∙ w.get_bytes.auto.bytes ∙ ap (λ xs. length xs) w.as_mut_slice.ensures.value ∙ c.in-Ok.ensures in
          rw (← c.self.view_is, w.self-is, told) (
            BytesGot c.in-Some.block.now.object (c.in-Some-mapping.mapping.start + c.args.offset) w.get_bytes.new.bytes ∷ [],
            (w.get_bytes.new.self, asked, refl),
            (able, (c.in-Some.block.now, at, (ap (λ xs. length xs) (sym told) ∙ many, (c.in-Some-mapping.mapping, is, some_moved c.args.len _ w.if-len-gt0.true), refl))),
          )
      | else-len-gt0 w ↦
          let told = rw w.bytes-is at c.from_vec.ensures in
          rw (w.self-is, ← c.self.view_is) ([], refl, (able, (c.in-Some.block.now, at, (ap (λ xs. length xs) told ∙ c.in-Ok.ensures, (c.in-Some-mapping.mapping, is, none_moved c.args.len _ w.if-len-gt0.false), refl))))
    ]

pub returns-clause-keeps : goal.returns-clause-keeps
returns-clause-keeps g c =
    let before = g.D.MemoryDevice.objects c.self.inside.device in
    elim c.if-len-gt0.branch [
      | then-len-gt0 w ↦
          let after = g.D.MemoryDevice.objects w.get_bytes.new.self in
          let row = g.met.D.MemoryDevice.row c.self.inside.device (BytesGot _ _ w.get_bytes.new.bytes) w.get_bytes.new.self w.get_bytes.ensures in
          rw (← c.self.view_is, w.self-is)
          (record {
            given = record { properties = refl; config = refl; sharing = refl };
            granted = tt;
            refused = tt;
            balance = refl;
            others = λ name x another there. (there, untouched before after x row.0);
            bytes = row.0;
          })
      | else-len-gt0 w ↦
          rw (w.self-is, ← c.self.view_is)
          (record {
            given = record { properties = refl; config = refl; sharing = refl };
            granted = tt;
            refused = tt;
            balance = refl;
            others = λ name x another there. (there, λ k from to. (refl, refl));
            bytes = refl;
          })
    ]
