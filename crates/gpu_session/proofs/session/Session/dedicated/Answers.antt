use Rattle.std.proofs.Common.{[], None, refl, sym, ◌∙◌, inl, inr}
use Rattle.gpu_alloc_base.proofs.Names.{get_put, get_put-other, here}
use Rattle.gpu_session.specs.Sound.{IsBlock}
use Rattle.gpu_session.proofs.Conditions.{in_use, new_name, tested_request}
use Rattle.gpu_session.proofs.Grants.{grant_is_kept}
use Rattle.gpu_session.proofs.Names.{named, unnamed}
use Rattle.gpu_session.proofs.Returns.{kept_block}
use Rattle.gpu_session.proofs.Others.{another_name, untouched_bytes}
use Rattle.gpu_session.proofs.session.Session.dedicated.Goals as goal

pub returns-then-contains_key-clause-step : goal.returns-then-contains_key-clause-step
returns-then-contains_key-clause-step g c =
    let there = named _ c.args.name (sym c.contains_key.ensures ∙ c.if-contains_key.true) in
    rw (← c.self.view_is) ([], refl, (refl, inl (in_use _ there.0 _ there.1, refl)))

pub returns-in-Some-clause-step : goal.returns-in-Some-clause-step
returns-in-Some-clause-step g c =
    let free = unnamed _ c.args.name (sym c.contains_key.ensures ∙ c.if-contains_key.false) in
    rw (← c.self.view_is) ([], refl, (refl, inl (new_name _ _ free ∙ tested_request c.self.invariant c.args.request _ (sym c.request_fault.ensures ∙ c.in-Some.is), refl)))

pub returns-then-is_err-clause-step : goal.returns-then-is_err-clause-step
returns-then-is_err-clause-step g c =
    let free = unnamed _ c.args.name (sym c.contains_key.ensures ∙ c.if-contains_key.false) in
    let able = new_name _ _ free ∙ tested_request c.self.invariant c.args.request None (sym c.in_default.ensures) in
    rw (← c.self.view_is, c.reserve.ensures.entries) ([], refl, (refl, inr (refl, able, refl, refl)))

pub invariant_of-self-in-Ok : goal.invariant_of-self-in-Ok
invariant_of-self-in-Ok g c =
    let free = unnamed _ c.args.name (sym c.contains_key.ensures ∙ c.if-contains_key.false) in
    let put = rw c.reserve.ensures.entries at c.keep.ensures.kept in
    let done = c.in-Ok.ensures in
    rw put (grant_is_kept c.self.invariant (record {
      free = free;
      adds = done.added;
      leaves = done.leaves;
      owned = done.granted.owned;
      ready = done.ready;
      keeps = λ b owned. kept_block _ _ _ _ _ _ b done.keeps owned (done.leaves.owned b owned);
      sound = done.sound;
      agrees = done.agrees;
    }))

pub returns-in-Ok-clause-step : goal.returns-in-Ok-clause-step
returns-in-Ok-clause-step g c =
    let free = unnamed _ c.args.name (sym c.contains_key.ensures ∙ c.if-contains_key.false) in
    let able = new_name _ _ free ∙ tested_request c.self.invariant c.args.request None (sym c.in_default.ensures) in
    let put = rw c.reserve.ensures.entries at c.keep.ensures.kept in
    let decided = c.in-Ok.ensures.decided in
    rw (← c.self.view_is, c.keep.ensures.told, put) (decided.0, decided.1, (able, (c.in-Ok.block, (refl, refl, refl, refl), decided.2, refl)))

pub returns-in-Ok-clause-keeps : goal.returns-in-Ok-clause-keeps
returns-in-Ok-clause-keeps g c =
    let put = rw c.reserve.ensures.entries at c.keep.ensures.kept in
    let done = c.in-Ok.ensures in
    let before = g.D.MemoryDevice.objects c.self.inside.device in
    rw (← c.self.view_is, c.keep.ensures.told, put) (record {
      given = record { properties = done.leaves.properties; config = done.leaves.config; sharing = done.leaves.sharing };
      granted = (c.in-Ok.block, get_put _ c.args.name c.in-Ok.block, ((refl, refl, refl, refl), done.granted, done.exact, done.own));
      refused = tt;
      balance = done.total;
      others = λ name b another there.
          let owned = (here _ (IsBlock _ c.self.inside.allocator before) (c.self.invariant.sound.blocks name) b there).owned in (
            get_put-other _ c.args.name c.in-Ok.block name (another_name c.args.name name another) ∙ there,
            untouched_bytes before (g.D.MemoryDevice.objects c.alloc_with_dedicated.new.device) b (c.alloc_with_dedicated.ensures.in_hand.bytes b owned),
          );
      bytes = tt;
    })

pub returns-in-Err-clause-step : goal.returns-in-Err-clause-step
returns-in-Err-clause-step g c =
    let free = unnamed _ c.args.name (sym c.contains_key.ensures ∙ c.if-contains_key.false) in
    let able = new_name _ _ free ∙ tested_request c.self.invariant c.args.request None (sym c.in_default.ensures) in
    let decided = c.in-Err.ensures.decided in
    rw (← c.self.view_is, c.reserve.ensures.entries) (decided.0, decided.1, (able, (decided.2, refl)))
