use Rattle.std.proofs.Common.{rules, ◌≡◌, [], refl, sym, ◌∙◌, ap, subst, inr}
use Rattle.std.specs.FinMap as map
use Rattle.std.specs.Option.{IsSome}
use Rattle.gpu_alloc.specs.Allocation.{IsInPages}
use Rattle.gpu_alloc.specs.State.{Block}
use Rattle.gpu_answers.specs.DeviceState.{DeviceState}
use Rattle.gpu_session.proofs.Grants.{grant_is_kept}
use Rattle.gpu_session.proofs.Returns.{kept_block}
use Rattle.gpu_slots.specs.SlotMap.{SlotState}
use Rattle.gpu_desk.specs.Calls.{HeldDenied}
use Rattle.gpu_desk.specs.Tags.{tag_at}
use Rattle.gpu_desk.specs.declared.wish.Tag.{Tag}
use Rattle.gpu_desk.proofs.Losing.{same_device}
use Rattle.gpu_desk.proofs.Kept.{begun_keeps_names, free_key, has_key}
use Rattle.gpu_desk.proofs.Paged.{put_paged}
use Rattle.gpu_desk.proofs.Rooms.{room_is_kept}
use Rattle.gpu_desk.proofs.desk.Desk.alloc_held.Goals as goal

pub invariant_of-self : goal.invariant_of-self
invariant_of-self c =
    room_is_kept c.self.inside.offer c.self.inside.allocator c.self.inside.blocks c.make_room.new.blocks c.self.inside.device c.self.inside.device c.self.inside.tags.items c.make_room.new.tags.items c.self.inside.granularity c.self.invariant c.make_room.ensures.kept c.make_room.ensures.tags c.self.invariant.kept

pub invariant_of-self-in-Ok-Some : goal.invariant_of-self-in-Ok-Some
invariant_of-self-in-Ok-Some c =
    let done = rw c.in-Ok-Some.field-0-is at c.in-Ok-Some.ensures in
    let lives : c.make_room.new.blocks.live ≡ c.self.inside.blocks.live = ap (λ (s : SlotState Block). s.live) c.make_room.ensures.kept in
    let key = c.keep.ensures.kept in
    rw (key.live, lives) (record {
      tagged = c.keep.ensures.tagged;
      page = c.self.invariant.page;
      paged = put_paged c.self.inside.blocks.live c.self.inside.tags.items c.self.inside.granularity c.self.invariant.paged c.keep.result.key c.in-Ok-Some.block c.keep.new.tags.items
          (λ q was. c.keep.ensures.others q (subst (λ (m : map.FinMap _ Block). IsSome (map.get m q)) (sym lives) was) ∙ ap (λ ts. tag_at ts q) c.make_room.ensures.tags)
          (λ optimal. subst (λ (t : Tag). IsInPages c.self.inside.granularity t.asked c.in-Ok-Some.block) (sym c.keep.ensures.tag) (done.pages (ap (λ (t : Tag). t.optimal) (sym c.keep.ensures.tag) ∙ optimal)));
      kept = grant_is_kept c.self.invariant.kept (record {
        free = sym (ap (λ (m : map.FinMap _ Block). map.get m c.keep.result.key) lives) ∙ free_key c.make_room.new.blocks c.keep.result.key key.new_key;
        adds = done.added;
        leaves = done.leaves;
        owned = done.granted.owned;
        ready = done.ready;
        keeps = λ b owned. kept_block _ _ _ _ _ _ b done.keeps owned (done.leaves.owned b owned);
        sound = done.sound;
        agrees = done.agrees;
      });
    })

pub invariant_of-self-in-Ok-None : goal.invariant_of-self-in-Ok-None
invariant_of-self-in-Ok-None c =
    let done = c.in-Ok-None.ensures in
    let same = done.would_ask (rw c.in-Ok-None.field-0-is refl) in
    rw (same, done.unasked)
    (room_is_kept c.self.inside.offer c.self.inside.allocator c.self.inside.blocks c.make_room.new.blocks c.self.inside.device c.self.inside.device c.self.inside.tags.items c.make_room.new.tags.items c.self.inside.granularity c.self.invariant c.make_room.ensures.kept c.make_room.ensures.tags c.self.invariant.kept)

pub invariant_of-self-in-Err : goal.invariant_of-self-in-Err
invariant_of-self-in-Err c =
    let done = c.in-Err.ensures in
    rw (done.refused, done.unasked)
    (room_is_kept c.self.inside.offer c.self.inside.allocator c.self.inside.blocks c.make_room.new.blocks c.self.inside.device c.self.inside.device c.self.inside.tags.items c.make_room.new.tags.items c.self.inside.granularity c.self.invariant c.make_room.ensures.kept c.make_room.ensures.tags c.self.invariant.kept)

pub returns-in-Ok-Some-clause-granted : goal.returns-in-Ok-Some-clause-granted
returns-in-Ok-Some-clause-granted c =
    let done = rw c.in-Ok-Some.field-0-is at c.in-Ok-Some.ensures in
    let key = c.keep.ensures.kept in
    rw (← c.self.view_is) (record {
      askable = sym (rw (← c.self.view_is) at c.in_default.ensures);
      block = c.in-Ok-Some.block;
      gives = record {
        tells = c.keep.ensures.tells;
        tells_tag = c.keep.ensures.tells_tag;
        tag = c.keep.ensures.tag;
        key = has_key c.self.inside.blocks c.make_room.new.blocks _ _ c.in-Ok-Some.block c.keep.new.blocks c.make_room.ensures.kept key;
        names = ap (λ (d : DeviceState). d.held.gone) done.unasked;
      };
      as_asked = done.granted;
      exact = done.exact;
      shared = done.shared;
      pages = done.pages;
      decided = done.decided;
      unasked = done.unasked;
      fresh = c.keep.ensures.fresh;
      held = done.held;
    })

pub returns-in-Ok-Some-clause-keeps : goal.returns-in-Ok-Some-clause-keeps
returns-in-Ok-Some-clause-keeps c =
    let done = c.in-Ok-Some.ensures in
    let lives : c.make_room.new.blocks.live ≡ c.self.inside.blocks.live = ap (λ (s : SlotState Block). s.live) c.make_room.ensures.kept in
    rw (← c.self.view_is) (record {
      given = search rules;
      limits = done.leaves.limits;
      total = search rules;
      gone = search rules;
      names = begun_keeps_names c.self.inside.device c.self.inside.device [] c.allocate_held-answer.new.device refl done.unasked;
      lost = same_device _ _ done.unasked;
      tags = λ q was is. c.keep.ensures.others q (subst (λ (m : map.FinMap _ Block). IsSome (map.get m q)) (sym lives) was) ∙ ap (λ ts. tag_at ts q) c.make_room.ensures.tags;
      page = refl;
    })

pub returns-in-Err-clause-denied : goal.returns-in-Err-clause-denied
unfolding HeldDenied
returns-in-Err-clause-denied c =
    let done = c.in-Err.ensures in
    rw (← c.self.view_is) (inr (sym (rw (← c.self.view_is) at c.in_default.ensures), inr (c.in-Err.refusal, refl, rw done.refused at done.decided)))
