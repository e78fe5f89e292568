use Rattle.std.proofs.Common.{◌≡◌, [], None, Some, refl, sym, ◌∙◌, ap, inl}
use Rattle.std.specs.Ordering.{nat_cmp}
use Rattle.std.specs.FinMap as map
use Rattle.gpu_alloc_base.proofs.Names.{here, get_entries, get_removed-other, removed_by_name}
use Rattle.gpu_session.specs.Sound.{IsBlock}
use Rattle.gpu_session.proofs.Conditions.{no_block, of_block}
use Rattle.gpu_session.proofs.Others.{another_name, untouched_bytes}
use Rattle.gpu_session.proofs.Returns.{return_is_kept}
use Rattle.gpu_session.proofs.session.Session.free.Goals as goal

pub dealloc-requires-clause-owned : goal.dealloc-requires-clause-owned
dealloc-requires-clause-owned g c =
    let at : map.get (map.from_entries {R = nat_cmp} c.self.inside.blocks.entries) c.args.name ≡ Some c.in-Some.block = get_entries _ _ ∙ sym c.swap_remove.ensures.value ∙ c.in-Some.is in
    (here _ (IsBlock _ c.self.inside.allocator (g.D.MemoryDevice.objects c.self.inside.device)) (c.self.invariant.sound.blocks c.args.name) c.in-Some.block at).owned

pub invariant_of-self : goal.invariant_of-self
invariant_of-self g c =
    let at : map.get (map.from_entries {R = nat_cmp} c.self.inside.blocks.entries) c.args.name ≡ Some c.in-Some.block = get_entries _ _ ∙ sym c.swap_remove.ensures.value ∙ c.in-Some.is in
    rw (removed_by_name c.self.inside.blocks.entries c.swap_remove.new.self.entries c.args.name c.swap_remove.ensures.updates.0)
    (return_is_kept c.self.invariant (record {
      named = at;
      removes = c.dealloc.ensures.removed;
      keeps = c.dealloc.ensures.keeps;
      sound = c.dealloc.ensures.sound;
      agrees = c.dealloc.ensures.agrees;
    }))

pub returns-in-Some-clause-step : goal.returns-in-Some-clause-step
returns-in-Some-clause-step g c =
    let at : map.get (map.from_entries {R = nat_cmp} c.self.inside.blocks.entries) c.args.name ≡ Some c.in-Some.block = get_entries _ _ ∙ sym c.swap_remove.ensures.value ∙ c.in-Some.is in
    let freed = c.dealloc.ensures.freed in
    rw (← c.self.view_is) (
      freed.0,
      freed.1,
      (of_block _ c.in-Some.block (λ b. None) _ at refl, (c.in-Some.block, at, (freed.2, removed_by_name c.self.inside.blocks.entries c.swap_remove.new.self.entries c.args.name c.swap_remove.ensures.updates.0))),
    )

pub returns-in-None-clause-step : goal.returns-in-None-clause-step
returns-in-None-clause-step g c =
    let none : map.get (map.from_entries {R = nat_cmp} c.self.inside.blocks.entries) c.args.name ≡ None = get_entries _ _ ∙ sym c.swap_remove.ensures.value ∙ c.in-None.is in
    rw (← c.self.view_is)
    ([], refl, (ap (λ es. record { allocator = c.self.inside.allocator; blocks = map.from_entries {R = nat_cmp} es }) c.in-None.ensures.unchanged, inl (no_block _ _ none, refl)))

pub returns-in-Some-clause-keeps : goal.returns-in-Some-clause-keeps
returns-in-Some-clause-keeps g c =
    let at : map.get (map.from_entries {R = nat_cmp} c.self.inside.blocks.entries) c.args.name ≡ Some c.in-Some.block = get_entries _ _ ∙ sym c.swap_remove.ensures.value ∙ c.in-Some.is in
    let done = c.dealloc.ensures in
    let kept = return_is_kept c.self.invariant (record { named = at; removes = done.removed; keeps = done.keeps; sound = done.sound; agrees = done.agrees }) in
    rw (← c.self.view_is, removed_by_name c.self.inside.blocks.entries c.swap_remove.new.self.entries c.args.name c.swap_remove.ensures.updates.0) (record {
      given = record { properties = done.removed.properties; config = done.removed.config; sharing = done.removed.sharing };
      granted = tt;
      refused = tt;
      balance = done.total;
      others = λ name b another there.
          let still = get_removed-other (map.from_entries {R = nat_cmp} c.self.inside.blocks.entries) c.args.name name (another_name c.args.name name another) ∙ there in
          let after = g.D.MemoryDevice.objects c.dealloc.new.device in
          let owned = (here _ (IsBlock _ c.dealloc.new.self after) (kept.sound.blocks name) b still).owned in
          (still, untouched_bytes (g.D.MemoryDevice.objects c.self.inside.device) after b (done.in_hand.bytes b owned));
      bytes = tt;
    })
