use Rattle.std.proofs.Common.{refl, sym, ◌∙◌, arith}
use Rattle.gpu_slots.proofs.Lookups.{read_at}
use Rattle.gpu_slots.proofs.Sound.{live_within, take_value, change_live, change_generations, change_sound}
use Rattle.gpu_slots.proofs.slot_map.SlotMap.value_mut.Goals as goal

pub index_mut-requires : goal.index_mut-requires
index_mut-requires g c =
    let within = live_within _ _ _ _ c.self.invariant c.args.key (rw (← c.self.view_is) at c.requires) in
    let ok = c.self.inside.places.ok in
    omega (arith, within, ok)

pub value_mut-requires : goal.value_mut-requires
value_mut-requires g c =
    let live = rw (← c.self.view_is) at c.requires in
    rw (take_value _ _ _ _ c.self.invariant c.args.key c.index_mut.result.now live (λ within. read_at _ _ _ within c.index_mut.ensures.value)) live

pub invariant_of-self-lent : goal.invariant_of-self-lent
invariant_of-self-lent g c w =
    let live = rw (← c.self.view_is) at c.requires in
    change_sound _ _ _ _ c.self.invariant c.args.key c.index_mut.result.now live (λ within. read_at _ _ _ within c.index_mut.ensures.value) w

pub returns : goal.returns
returns g c =
    let live = rw (← c.self.view_is) at c.requires in (
      (
        refl,
        λ w. rw (← c.self.view_is)
            (rw (
              change_live _ _ _ _ c.self.invariant c.args.key c.index_mut.result.now live (λ within. read_at _ _ _ within c.index_mut.ensures.value) w,
              change_generations _ _ _ _ c.self.invariant c.args.key c.index_mut.result.now live (λ within. read_at _ _ _ within c.index_mut.ensures.value) w,
            )),
      ),
      record {
        writes_back = tt;
        value = rw (← c.self.view_is) (sym (take_value _ _ _ _ c.self.invariant c.args.key c.index_mut.result.now live (λ within. read_at _ _ _ within c.index_mut.ensures.value)) ∙ c.value_mut.ensures.value);
      },
    )
