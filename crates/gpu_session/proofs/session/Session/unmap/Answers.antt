use Rattle.std.proofs.Common.{[], None, refl, sym, ◌∙◌, inl}
use Rattle.gpu_alloc_base.proofs.Names.{get_entries, here}
use Rattle.gpu_session.specs.Sound.{IsBlock}
use Rattle.gpu_session.proofs.Conditions.{no_block, of_block}
use Rattle.gpu_session.proofs.Moves.{move_is_kept}
use Rattle.gpu_session.proofs.Names.{lent_at, lent_put, placed}
use Rattle.gpu_session.proofs.Others.{others_left, closed_moves_none}
use Rattle.std.specs.FinMap as finite
use Rattle.std.specs.Ordering.{nat_cmp}
use Rattle.gpu_session.proofs.session.Session.unmap.Goals as goal

pub returns-in_default-clause-step : goal.returns-in_default-clause-step
returns-in_default-clause-step g c =
    let none = get_entries c.self.inside.blocks.entries c.args.name ∙ sym c.in_default.ensures.value in
    rw (← c.self.view_is, c.get_mut.follows.holds-at-none) ([], refl, (refl, inl (no_block _ _ none, refl)))

pub unmap-was_mapped-requires : goal.unmap-was_mapped-requires
unmap-was_mapped-requires g c =
    let at = lent_at c.self.inside.blocks.entries c.args.name c.in-Some.block.now c.in-Some.ensures.value in
    (here _ (IsBlock _ c.self.inside.allocator (g.D.MemoryDevice.objects c.self.inside.device)) (c.self.invariant.sound.blocks c.args.name) c.in-Some.block.now at).agrees

pub invariant_of-self-2 : goal.invariant_of-self-2
invariant_of-self-2 g c =
    let at = lent_at c.self.inside.blocks.entries c.args.name c.in-Some.block.now c.in-Some.ensures.value in
    let put = lent_put c.self.inside.blocks.entries c.args.name c.in-Some.block.now c.in-Some.ensures.value c.unmap-was_mapped.new.self (c.get_mut.follows.lender c.unmap-was_mapped.new.self).entries (λ some. ((c.get_mut.follows.holds c.unmap-was_mapped.new.self).3 some).0) in
    rw put (move_is_kept c.self.invariant (record { named = at; same = c.unmap-was_mapped.ensures.same; ready = c.unmap-was_mapped.ensures.agrees; keeps = c.unmap-was_mapped.ensures.keeps; properties = c.unmap-was_mapped.ensures.properties }))

pub returns-clause-step : goal.returns-clause-step
returns-clause-step g c =
    let at = lent_at c.self.inside.blocks.entries c.args.name c.in-Some.block.now c.in-Some.ensures.value in
    let put = lent_put c.self.inside.blocks.entries c.args.name c.in-Some.block.now c.in-Some.ensures.value c.unmap-was_mapped.new.self (c.get_mut.follows.lender c.unmap-was_mapped.new.self).entries (λ some. ((c.get_mut.follows.holds c.unmap-was_mapped.new.self).3 some).0) in
    let able = of_block _ c.in-Some.block.now (λ b. None) _ at refl in
    let asked = c.unmap-was_mapped.ensures.asked in
    rw (← c.self.view_is, put) (asked.0, asked.1, (able, (c.in-Some.block.now, at, (c.unmap-was_mapped.ensures.answer, asked.2, placed _ c.args.name _ _ c.unmap-was_mapped.ensures.unmapped))))

pub returns-clause-keeps : goal.returns-clause-keeps
returns-clause-keeps g c =
    let b = c.in-Some.block.now in
    let before = g.D.MemoryDevice.objects c.self.inside.device in
    let at = lent_at c.self.inside.blocks.entries c.args.name b c.in-Some.ensures.value in
    let put = lent_put c.self.inside.blocks.entries c.args.name c.in-Some.block.now c.in-Some.ensures.value c.unmap-was_mapped.new.self (c.get_mut.follows.lender c.unmap-was_mapped.new.self).entries (λ some. ((c.get_mut.follows.holds c.unmap-was_mapped.new.self).3 some).0) in
    let after = g.D.MemoryDevice.objects c.unmap-was_mapped.new.device in
    let closed = c.unmap-was_mapped.ensures.objects in
    let others = others_left (finite.from_entries {R = nat_cmp} c.self.inside.blocks.entries) c.args.name c.unmap-was_mapped.new.self before after (λ name x ne there. c.unmap-was_mapped.ensures.bytes x) in
    rw (← c.self.view_is, put)
    (record { given = record { properties = refl; config = refl; sharing = refl }; granted = tt; refused = tt; balance = refl; others = others; bytes = (b, at, closed_moves_none _ before after b closed) })
