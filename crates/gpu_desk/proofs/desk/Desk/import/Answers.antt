use Rattle.std.proofs.Common.{rules, ◌≡◌, ◌+◌, false, [], ◌∷◌, Some, Ok, length, take, refl, sym, ◌∙◌, ap, subst, List, ℕ}
use Rattle.std.specs.FinMap as map
use Rattle.std.specs.Option.{IsSome}
use Rattle.gpu_alloc_types.specs.Device.{HeldWith}
use Rattle.gpu_alloc_types.specs.Device.Event.{Allocated, Deallocated}
use Rattle.gpu_alloc_types.specs.Flags.{allocation_bits}
use Rattle.gpu_alloc_types.specs.Objects.{put-other, put-same}
use Rattle.gpu_alloc.specs.Importing.{Imports}
use Rattle.gpu_alloc.specs.State.{Block}
use Rattle.gpu_answers.specs.Device.{IsStep, objects_of}
use Rattle.gpu_answers.specs.DeviceLaws.{step_is_row}
use Rattle.gpu_answers.specs.DeviceState.{DeviceState}
use Rattle.gpu_answers.specs.Held.{HeldState}
use Rattle.gpu_session.specs.Faults.{is_bad_end}
use Rattle.gpu_session.proofs.Grants.{grant_is_kept}
use Rattle.gpu_session.proofs.Imports.{faultless, import_agrees, importable_is_held, part_may_be_imported, undone}
use Rattle.gpu_session.proofs.Moves.{agreed_is_kept}
use Rattle.gpu_slots.specs.SlotMap.{SlotState}
use Rattle.gpu_desk.specs.Tags.{tag_at}
use Rattle.gpu_desk.specs.declared.wish.Tag.{Tag}
use Rattle.gpu_desk.proofs.Paged.{put_paged, retagged}
use Rattle.gpu_desk.proofs.GoneNames.{names_of_before}
use Rattle.gpu_desk.proofs.Losing.{as_before, by_begun_run}
use Rattle.gpu_desk.proofs.Kept.{begun_keeps_names, forgetting_keeps_names, free_key, has_key, kept_over, same_objects}
use Rattle.gpu_desk.proofs.Rooms.{room_is_kept}
use Rattle.gpu_desk.proofs.desk.Desk.import.Goals as goal

pub invariant_of-self-in-Ok-import_memory : goal.invariant_of-self-in-Ok-import_memory
invariant_of-self-in-Ok-import_memory c =
    let lives : c.make_room.new.blocks.live ≡ c.self.inside.blocks.live = ap (λ (s : SlotState Block). s.live) c.make_room.ensures.kept in
    let begins = kept_over c.self.inside.device c.begin.new.self c.begin.ensures.offers (ap (λ (h : HeldState). h.objects) c.begin.ensures.held) c.self.invariant.kept in
    let key = c.keep.ensures.kept in
    let dev = c.begin.new.self in
    let new = c.allocate_memory-made.new.self in
    let bits = allocation_bits c.flags-flags.result in
    let name = c.in-Ok-made.memory in
    let made = c.made_objects_may_be_imported.ensures in
    let step = c.allocate_memory-made.ensures in
    let whole = (rw c.in-Ok-made.is at made.whole) dev c.args.object_size c.args.memory_type bits (rw c.in-Ok-made.is at step) in
    let agreed = made.allocator dev c.args.object_size c.args.memory_type bits step begins.sound.agrees in
    let can = faultless c.self.inside.allocator c.args.memory_type c.args.object_size c.args.offset c.args.size (sym c.in_default.ensures) in
    let part = part_may_be_imported new.properties (objects_of new) name c.args.memory_type c.args.object_size c.args.offset c.args.size whole can.within
    (subst (λ q. is_bad_end q c.args.memory_type c.args.object_size (c.args.offset + c.args.size) ≡ false) (sym agreed.properties) can.finish) in
    let done = c.in-Ok-import_memory.ensures in
    let agree = import_agrees c.self.inside.allocator c.import_memory.new.self c.in-Ok-import_memory.block name c.args.memory_type c.args.offset c.args.size new.properties (objects_of new) done.agrees agreed part in
    rw (key.live, lives) (record {
      tagged = c.keep.ensures.tagged;
      page = c.self.invariant.page;
      paged = put_paged c.self.inside.blocks.live c.self.inside.tags.items c.self.inside.granularity c.self.invariant.paged c.keep.result.key c.in-Ok-import_memory.block c.keep.new.tags.items
          (λ q was. c.keep.ensures.others q (subst (λ (m : map.FinMap _ Block). IsSome (map.get m q)) (sym lives) was) ∙ ap (λ ts. tag_at ts q) c.make_room.ensures.tags)
          (λ optimal. absurd (let linear = ap (λ (t : Tag). t.optimal) c.keep.ensures.tag in cc));
      kept = grant_is_kept begins (record {
        free = sym (ap (λ (m : map.FinMap _ Block). map.get m c.keep.result.key) lives) ∙ free_key c.make_room.new.blocks c.keep.result.key key.new_key;
        adds = done.added;
        leaves = done.leaves;
        owned = done.imported.owned;
        ready = agree.1;
        keeps = λ b owned. made.blocks dev c.args.object_size c.args.memory_type bits b step;
        sound = done.sound;
        agrees = agree.0;
      });
    })

pub deallocate_memory-requires : goal.deallocate_memory-requires
deallocate_memory-requires c =
    let made = c.made_objects_may_be_imported.ensures in
    let whole = (rw c.in-Ok-made.is at made.whole) c.begin.new.self c.args.object_size c.args.memory_type (allocation_bits c.flags-flags.result) (rw c.in-Ok-made.is at c.allocate_memory-made.ensures) in
    rw (c.in-Err.ensures.handed_back) (importable_is_held _ _ c.in-Ok-made.memory c.args.memory_type 0 c.args.object_size whole)

pub invariant_of-self-in-Err : goal.invariant_of-self-in-Err
invariant_of-self-in-Err c =
    let lives : c.make_room.new.blocks.live ≡ c.self.inside.blocks.live = ap (λ (s : SlotState Block). s.live) c.make_room.ensures.kept in
    let begins = kept_over c.self.inside.device c.begin.new.self c.begin.ensures.offers (ap (λ (h : HeldState). h.objects) c.begin.ensures.held) c.self.invariant.kept in
    let dev = c.begin.new.self in
    let bits = allocation_bits c.flags-flags.result in
    let name = c.in-Ok-made.memory in
    let made = c.made_objects_may_be_imported.ensures in
    let step = c.allocate_memory-made.ensures in
    let unheld = (rw c.in-Ok-made.is at made.unheld) dev c.args.object_size c.args.memory_type bits (rw c.in-Ok-made.is at step) begins.sound.agrees in
    let refused = c.in-Err.ensures.refused in
    let others = rw refused at c.objects_of_others_may_go.ensures in
    let gone = rw c.in-Err.ensures.handed_back at c.deallocate_memory.ensures in
    let forgets = c.forget_gone_after.ensures in
    rw (refused, lives)
    (record {
      tagged = ap length c.make_room.ensures.tags ∙ c.self.invariant.tagged ∙ sym (ap (λ (s : SlotState Block). length s.generations) c.make_room.ensures.kept);
      page = c.self.invariant.page;
      paged = retagged c.self.inside.blocks.live c.self.inside.tags.items c.self.inside.granularity c.self.invariant.paged c.make_room.new.tags.items (λ q is. (ap (λ ts. (tag_at ts q).asked) c.make_room.ensures.tags, ap (λ ts. (tag_at ts q).optimal) c.make_room.ensures.tags));
      kept = kept_over c.deallocate_memory.new.self c.forget_gone_after.new.self forgets.offers forgets.objects (agreed_is_kept (agreed_is_kept begins (record {
        allocator = λ agrees. made.allocator dev c.args.object_size c.args.memory_type bits step agrees;
        blocks = λ b owned. made.blocks dev c.args.object_size c.args.memory_type bits b step;
      })) (record {
        allocator = λ agrees. others.allocator c.allocate_memory-made.new.self name gone unheld agrees;
        blocks = λ b owned. others.blocks c.allocate_memory-made.new.self name b gone unheld owned;
      }));
    })

pub returns-in-Ok-import_memory-clause-granted : goal.returns-in-Ok-import_memory-clause-granted
returns-in-Ok-import_memory-clause-granted c =
    let key = c.keep.ensures.kept in
    let done = c.in-Ok-import_memory.ensures in
    let name = c.in-Ok-made.memory in
    let step = rw c.in-Ok-made.is at c.allocate_memory-made.ensures in
    let row = step.row in
    let name_is : c.keep.result.object ≡ name = c.keep.ensures.tells.object ∙ ap (λ (x : Block). x.object) done.imported.block in
    let shown_at_first = same_objects c.self.inside.device c.begin.new.self c.begin.ensures.offers (ap (λ (h : HeldState). h.objects) c.begin.ensures.held) in
    rw (← c.self.view_is) (record {
      importable = sym c.in_default.ensures;
      block = c.in-Ok-import_memory.block;
      gives = record {
        tells = c.keep.ensures.tells;
        tells_tag = c.keep.ensures.tells_tag;
        tag = c.keep.ensures.tag;
        key = has_key c.self.inside.blocks c.make_room.new.blocks _ _ c.in-Ok-import_memory.block c.keep.new.blocks c.make_room.ensures.kept key;
        names = step.names.2 ∙ ap (λ (h : HeldState). h.gone) c.begin.ensures.held;
      };
      imports = subst (λ n. Imports c.self.inside.allocator n c.args.memory_type c.args.offset c.args.size c.import_memory.new.self c.in-Ok-import_memory.block) (sym name_is) done.imported;
      fresh = c.keep.ensures.fresh;
      was_free = ap (λ (f : ℕ → _). f c.keep.result.object) (sym shown_at_first) ∙ ap (objects_of c.begin.new.self) name_is ∙ row.0;
      held = subst (λ n. HeldWith (objects_of c.allocate_memory-made.new.self) n (λ o. (o.memory_type ≡ c.args.memory_type) × (o.size ≡ c.args.object_size))) (sym name_is)
          (row.1.0, ap (λ (f : ℕ → _). f name) row.1.2 ∙ put-same (objects_of c.begin.new.self) name (Some row.1.0), (row.1.1.of_type, row.1.1.of_size));
      others = λ q other. ap (λ (f : ℕ → _). f q) row.1.2 ∙ put-other (objects_of c.begin.new.self) name (Some row.1.0) q (λ same. other (same ∙ sym name_is))
          ∙ ap (λ (f : ℕ → _). f q) shown_at_first;
    })

pub returns-in-Err-clause-unchanged : goal.returns-in-Err-clause-unchanged
returns-in-Err-clause-unchanged c =
    let name = c.in-Ok-made.memory in
    let bits = allocation_bits c.flags-flags.result in
    let made = rw c.in-Ok-made.is at c.allocate_memory-made.ensures in
    let gone = rw c.in-Err.ensures.handed_back at c.deallocate_memory.ensures in
    let forgets = c.forget_gone_after.ensures in
    let last = c.deallocate_memory.new.self in
    let shown_at_first = same_objects c.self.inside.device c.begin.new.self c.begin.ensures.offers (ap (λ (h : HeldState). h.objects) c.begin.ensures.held) in
    let asked = Allocated c.args.object_size c.args.memory_type bits (Ok name) ∷ Deallocated name ∷ [] in
    rw (← c.self.view_is) (record {
      tags = c.make_room.ensures.tags;
      page = refl;
      allocator = c.in-Err.ensures.refused;
      live = ap (λ (s : SlotState Block). s.live) c.make_room.ensures.kept;
      keys = ap (λ (s : SlotState Block). s.generations) c.make_room.ensures.kept;
      objects = same_objects last c.forget_gone_after.new.self forgets.offers forgets.objects
          ∙ undone (λ (d : DeviceState). d.properties) objects_of IsStep step_is_row c.begin.new.self c.allocate_memory-made.new.self last _ _ _ name made gone
          ∙ shown_at_first;
      names = forgets.gone ∙ ap (λ (xs : List ℕ). take (length xs) last.held.gone) c.gone-told.ensures
          ∙ names_of_before c.begin.new.self asked last (c.allocate_memory-made.new.self, made, (last, gone, refl)) ∙ ap (λ (h : HeldState). h.gone) c.begin.ensures.held;
    })

pub returns-in_default-made-clause-keeps : goal.returns-in_default-made-clause-keeps
returns-in_default-made-clause-keeps c =
    rw (← c.self.view_is) (record {
      given = search rules;
      limits = search rules;
      total = search rules;
      gone = search rules;
      names = begun_keeps_names c.self.inside.device c.begin.new.self (_ ∷ []) c.allocate_memory-made.new.self c.begin.ensures.held (c.allocate_memory-made.new.self, c.allocate_memory-made.ensures, refl);
      lost = by_begun_run _ _ c.begin.new.self (_ ∷ []) c.begin.ensures.offers c.begin.ensures.held (c.allocate_memory-made.new.self, c.allocate_memory-made.ensures, refl);
      tags = λ q was is. ap (λ ts. tag_at ts q) c.make_room.ensures.tags;
      page = refl;
    })

pub returns-in-Ok-import_memory-clause-keeps : goal.returns-in-Ok-import_memory-clause-keeps
returns-in-Ok-import_memory-clause-keeps c =
    let lives : c.make_room.new.blocks.live ≡ c.self.inside.blocks.live = ap (λ (s : SlotState Block). s.live) c.make_room.ensures.kept in
    rw (← c.self.view_is) (record {
      given = search rules;
      limits = search rules;
      total = search rules;
      gone = search rules;
      names = begun_keeps_names c.self.inside.device c.begin.new.self (_ ∷ []) c.allocate_memory-made.new.self c.begin.ensures.held (c.allocate_memory-made.new.self, c.allocate_memory-made.ensures, refl);
      lost = by_begun_run _ _ c.begin.new.self (_ ∷ []) c.begin.ensures.offers c.begin.ensures.held (c.allocate_memory-made.new.self, c.allocate_memory-made.ensures, refl);
      tags = λ q was is. c.keep.ensures.others q (subst (λ (m : map.FinMap _ Block). IsSome (map.get m q)) (sym lives) was) ∙ ap (λ ts. tag_at ts q) c.make_room.ensures.tags;
      page = refl;
    })

pub returns-in-Err-clause-keeps : goal.returns-in-Err-clause-keeps
returns-in-Err-clause-keeps c =
    let mid = c.allocate_memory-made.new.self in
    let last = c.deallocate_memory.new.self in
    let forgets = c.forget_gone_after.ensures in
    let name = c.in-Ok-made.memory in
    let made = rw c.in-Ok-made.is at c.allocate_memory-made.ensures in
    let gone = rw c.in-Err.ensures.handed_back at c.deallocate_memory.ensures in
    let shown_at_first = same_objects c.self.inside.device c.begin.new.self c.begin.ensures.offers (ap (λ (h : HeldState). h.objects) c.begin.ensures.held) in
    let asked = Allocated c.args.object_size c.args.memory_type (allocation_bits c.flags-flags.result) (Ok name) ∷ Deallocated name ∷ [] in
    let run = begun_keeps_names c.self.inside.device c.begin.new.self (_ ∷ _ ∷ []) last c.begin.ensures.held (mid, c.allocate_memory-made.ensures, (last, c.deallocate_memory.ensures, refl)) in
    rw (← c.self.view_is) (record {
      given = search rules;
      limits = search rules;
      total = search rules;
      gone = search rules;
      names = forgetting_keeps_names c.self.inside.device.held last.held c.forget_gone_after.new.self.held _ run forgets.gone forgets.objects forgets.last_name;
      lost = as_before _ _
          (same_objects last c.forget_gone_after.new.self forgets.offers forgets.objects
          ∙ undone (λ (d : DeviceState). d.properties) objects_of IsStep step_is_row c.begin.new.self mid last _ _ _ name made gone
          ∙ shown_at_first)
          (forgets.gone ∙ ap (λ (xs : List ℕ). take (length xs) last.held.gone) c.gone-told.ensures
          ∙ names_of_before c.begin.new.self asked last (mid, made, (last, gone, refl)) ∙ ap (λ (h : HeldState). h.gone) c.begin.ensures.held);
      tags = λ q was is. ap (λ ts. tag_at ts q) c.make_room.ensures.tags;
      page = refl;
    })

pub invariant_of-self : goal.invariant_of-self
invariant_of-self c =
    room_is_kept c.self.inside.offer c.self.inside.allocator c.self.inside.blocks c.make_room.new.blocks c.self.inside.device c.self.inside.device c.self.inside.tags.items c.make_room.new.tags.items c.self.inside.granularity c.self.invariant c.make_room.ensures.kept c.make_room.ensures.tags c.self.invariant.kept

pub invariant_of-self-in_default-begin : goal.invariant_of-self-in_default-begin
invariant_of-self-in_default-begin c =
    let begins = kept_over c.self.inside.device c.begin.new.self c.begin.ensures.offers (ap (λ (h : HeldState). h.objects) c.begin.ensures.held) c.self.invariant.kept in
    room_is_kept c.self.inside.offer c.self.inside.allocator c.self.inside.blocks c.make_room.new.blocks c.self.inside.device c.begin.new.self c.self.inside.tags.items c.make_room.new.tags.items c.self.inside.granularity c.self.invariant c.make_room.ensures.kept c.make_room.ensures.tags begins

pub invariant_of-self-in_default-made : goal.invariant_of-self-in_default-made
invariant_of-self-in_default-made c =
    let dev = c.begin.new.self in
    let bits = allocation_bits c.flags-flags.result in
    let made = c.made_objects_may_be_imported.ensures in
    let step = c.allocate_memory-made.ensures in
    let begins = kept_over c.self.inside.device c.begin.new.self c.begin.ensures.offers (ap (λ (h : HeldState). h.objects) c.begin.ensures.held) c.self.invariant.kept in
    let kept = agreed_is_kept begins (record {
      allocator = λ agrees. made.allocator dev c.args.object_size c.args.memory_type bits step agrees;
      blocks = λ b owned. made.blocks dev c.args.object_size c.args.memory_type bits b step;
    }) in
    room_is_kept c.self.inside.offer c.self.inside.allocator c.self.inside.blocks c.make_room.new.blocks c.self.inside.device c.allocate_memory-made.new.self c.self.inside.tags.items c.make_room.new.tags.items c.self.inside.granularity c.self.invariant c.make_room.ensures.kept c.make_room.ensures.tags kept
