use Rattle.std.proofs.Common.{rules, ◌≡◌, true, Err, length, take, refl, sym, ◌∙◌, ap, subst, inr, List, ℕ, arith}
use Rattle.std.specs.FinMap as map
use Rattle.std.specs.Option.{IsSome}
use Rattle.gpu_alloc_types.specs.Device.{Chain}
use Rattle.gpu_alloc.specs.State.{Block}
use Rattle.gpu_answers.specs.Asking.{RunState, begun}
use Rattle.gpu_answers.specs.Device.{IsStep, objects_of}
use Rattle.gpu_answers.specs.Held.{HeldState}
use Rattle.gpu_session.proofs.Grants.{grant_is_kept}
use Rattle.gpu_session.proofs.Returns.{kept_block}
use Rattle.gpu_slots.specs.SlotMap.{SlotState}
use Rattle.gpu_desk.specs.Calls.{AllocationDenied, denial_after}
use Rattle.gpu_alloc.specs.Allocation.{IsInPages}
use Rattle.gpu_answers.specs.declared.question.Question.TheVariants.{Allocate}
use Rattle.gpu_desk.specs.Tags.{tag_at}
use Rattle.gpu_desk.specs.Wishes.{asks_own, plan_for}
use Rattle.gpu_desk.specs.declared.wish.Tag.{Tag}
use Rattle.gpu_desk.proofs.Paged.{put_paged}
use Rattle.gpu_desk.specs.declared.denial.Denial.TheVariants.{Open, Refused}
use Rattle.gpu_desk.proofs.AllAnswered.{grant_is_answered}
use Rattle.gpu_desk.proofs.GoneNames.{names_of_before}
use Rattle.gpu_desk.proofs.Losing.{all_stay, as_before, given_stay, same_stays}
use Rattle.gpu_desk.proofs.Kept.{begun_is, begun_keeps_names, forgetting_keeps_names, free_key, fresh_is, given_others, has_key, kept_over, same_objects}
use Rattle.gpu_desk.proofs.OpenQuestions.{may_come, own_is_as_asked, same_denial}
use Rattle.gpu_desk.proofs.Questions.{allocation_asks_few}
use Rattle.gpu_desk.proofs.Rooms.{room_is_kept, same_is_kept}
use Rattle.gpu_desk.proofs.desk.Desk.alloc.Goals as goal

pub invariant_of-self-in-Ok-answer : goal.invariant_of-self-in-Ok-answer
invariant_of-self-in-Ok-answer c =
    let done = c.in-Ok-answer.ensures in
    let lives : c.make_room.new.blocks.live ≡ c.self.inside.blocks.live = ap (λ (s : SlotState Block). s.live) c.make_room.ensures.kept in
    let begins = kept_over c.self.inside.device c.begin.new.self c.begin.ensures.offers (ap (λ (h : HeldState). h.objects) c.begin.ensures.held) c.self.invariant.kept in
    let forgets = c.forget_gone_after.ensures in
    let key = c.keep.ensures.kept in
    rw (key.live, lives) (record {
      tagged = c.keep.ensures.tagged;
      page = c.self.invariant.page;
      paged = put_paged c.self.inside.blocks.live c.self.inside.tags.items c.self.inside.granularity c.self.invariant.paged c.keep.result.key c.in-Ok-answer.block c.keep.new.tags.items
          (λ q was. c.keep.ensures.others q (subst (λ (m : map.FinMap _ Block). IsSome (map.get m q)) (sym lives) was) ∙ ap (λ ts. tag_at ts q) c.make_room.ensures.tags)
          (λ optimal. subst (λ (t : Tag). IsInPages c.self.inside.granularity t.asked c.in-Ok-answer.block) (sym c.keep.ensures.tag) (done.pages (ap (λ (t : Tag). t.optimal) (sym c.keep.ensures.tag) ∙ optimal)));
      kept = kept_over c.allocate-answer.new.device c.forget_gone_after.new.self forgets.offers forgets.objects (grant_is_kept begins (record {
        free = sym (ap (λ (m : map.FinMap _ Block). map.get m c.keep.result.key) lives) ∙ free_key c.make_room.new.blocks c.keep.result.key key.new_key;
        adds = done.added;
        leaves = done.leaves;
        owned = done.granted.owned;
        ready = done.ready;
        keeps = λ b owned. kept_block _ _ _ _ _ _ b done.keeps owned (done.leaves.owned b owned);
        sound = done.sound;
        agrees = done.agrees;
      }));
    })

pub returns-in-Ok-answer-clause-granted : goal.returns-in-Ok-answer-clause-granted
returns-in-Ok-answer-clause-granted c =
    let b = c.in-Ok-answer.block in
    let done = c.in-Ok-answer.ensures in
    let mid = c.allocate-answer.new.device in
    let now = c.forget_gone_after.new.self in
    let forgets = c.forget_gone_after.ensures in
    let key = c.keep.ensures.kept in
    let begins = begun_is c.self.inside.device c.begin.new.self (begun c.args.answers.now) c.in-Ok.ensures.run c.begin.ensures.offers c.begin.ensures.held in
    let shown_at_first = same_objects c.self.inside.device c.begin.new.self c.begin.ensures.offers (ap (λ (h : HeldState). h.objects) c.begin.ensures.held) in
    let shown_at_last = same_objects mid now forgets.offers forgets.objects in
    rw (← c.self.view_is) (record {
      askable = sym (rw (← c.self.view_is) at c.in_default.ensures);
      block = b;
      gives = record {
        tells = c.keep.ensures.tells;
        tells_tag = c.keep.ensures.tells_tag;
        tag = c.keep.ensures.tag;
        key = has_key c.self.inside.blocks c.make_room.new.blocks _ _ b c.keep.new.blocks c.make_room.ensures.kept key;
        names = forgets.gone ∙ ap (λ (xs : List ℕ). take (length xs) mid.held.gone) c.gone-told.ensures ∙ names_of_before c.begin.new.self done.decided.0 mid done.decided.1
            ∙ ap (λ (h : HeldState). h.gone) c.begin.ensures.held;
      };
      as_asked = done.granted;
      exact = done.exact;
      own = done.own;
      alone = done.alone;
      pages = done.pages;
      run = (done.decided.0, mid, subst (λ d. Chain IsStep d done.decided.0 mid) begins done.decided.1, (done.decided.2, shown_at_last));
      answered = ap (λ (r : RunState). r.stop) forgets.run ∙ grant_is_answered c.self.inside.allocator (plan_for c.self.inside.allocator c.self.inside.granularity c.args.request c.args.wish) c.begin.new.self done.decided.0 mid done.decided.1
          (ap (λ (r : RunState). r.stop) c.in-Ok.ensures.run) b _ done.decided.2;
      fresh = rw (c.keep.ensures.fresh, c.remaining_allocations.ensures, c.remaining_allocations-remaining.ensures) (fresh_is c.self.inside.allocator c.allocate-answer.new.allocator b done.added.held done.granted.owned done.total);
      others = λ q other. ap (λ (f : ℕ → _). f q) shown_at_last ∙ given_others _ _ _ b.object (objects_of c.begin.new.self) (objects_of mid) done.objects q other ∙ ap (λ (f : ℕ → _). f q) shown_at_first;
    })

pub returns-in-Err-clause-denied : goal.returns-in-Err-clause-denied
unfolding AllocationDenied
returns-in-Err-clause-denied c =
    let e = c.in-Err.refusal in
    let done = c.in-Err.ensures in
    let mid = c.allocate-answer.new.device in
    let begins = begun_is c.self.inside.device c.begin.new.self (begun c.args.answers.now) c.in-Ok.ensures.run c.begin.ensures.offers c.begin.ensures.held in
    let decided = rw done.refused at done.decided in
    rw (← c.self.view_is) (inr (
      sym (rw (← c.self.view_is) at c.in_default.ensures),
      (
        decided.0,
        mid,
        subst (λ d. Chain IsStep d decided.0 mid) begins decided.1,
        (
          e,
          decided.2,
          c.denial_after.ensures
              ∙ same_denial c.asks_own-own.result (asks_own c.self.inside.allocator (plan_for c.self.inside.allocator c.self.inside.granularity c.args.request c.args.wish)) c.forget_gone_after.new.self.run.stop (Refused e)
              (rw (c.open-pending.ensures, done.refused) at c.asks_own-own.ensures)
              ∙ ap (λ (r : RunState). denial_after (asks_own c.self.inside.allocator (plan_for c.self.inside.allocator c.self.inside.granularity c.args.request c.args.wish)) r.stop (Refused e)) c.forget_gone_after.ensures.run,
        ),
      ),
    ))

pub returns-in-Err-clause-unchanged : goal.returns-in-Err-clause-unchanged
returns-in-Err-clause-unchanged c =
    let done = c.in-Err.ensures in
    let mid = c.allocate-answer.new.device in
    let now = c.forget_gone_after.new.self in
    let forgets = c.forget_gone_after.ensures in
    let shown_at_first = same_objects c.self.inside.device c.begin.new.self c.begin.ensures.offers (ap (λ (h : HeldState). h.objects) c.begin.ensures.held) in
    rw (← c.self.view_is) (record {
      tags = c.make_room.ensures.tags;
      page = refl;
      allocator = done.refused;
      live = ap (λ (s : SlotState Block). s.live) c.make_room.ensures.kept;
      keys = ap (λ (s : SlotState Block). s.generations) c.make_room.ensures.kept;
      objects = same_objects mid now forgets.offers forgets.objects ∙ done.objects ∙ shown_at_first;
      names = forgets.gone ∙ ap (λ (xs : List ℕ). take (length xs) mid.held.gone) c.gone-told.ensures ∙ names_of_before c.begin.new.self done.decided.0 mid done.decided.1
          ∙ ap (λ (h : HeldState). h.gone) c.begin.ensures.held;
    })

pub returns-in-Ok-answer-clause-keeps : goal.returns-in-Ok-answer-clause-keeps
returns-in-Ok-answer-clause-keeps c =
    let done = c.in-Ok-answer.ensures in
    let mid = c.allocate-answer.new.device in
    let forgets = c.forget_gone_after.ensures in
    let run = begun_keeps_names c.self.inside.device c.begin.new.self done.decided.0 mid c.begin.ensures.held done.decided.1 in
    let shown_at_first = same_objects c.self.inside.device c.begin.new.self c.begin.ensures.offers (ap (λ (h : HeldState). h.objects) c.begin.ensures.held) in
    let shown_at_last = same_objects mid c.forget_gone_after.new.self forgets.offers forgets.objects in
    let lives : c.make_room.new.blocks.live ≡ c.self.inside.blocks.live = ap (λ (s : SlotState Block). s.live) c.make_room.ensures.kept in
    rw (← c.self.view_is) (record {
      given = search rules;
      limits = done.leaves.limits;
      total = search rules;
      gone = search rules;
      names = forgetting_keeps_names c.self.inside.device.held mid.held c.forget_gone_after.new.self.held _ run forgets.gone forgets.objects forgets.last_name;
      lost = all_stay _ _
          (λ q some. same_stays _ _ shown_at_last q (given_stay _ _ _ c.in-Ok-answer.block.object (objects_of c.begin.new.self) (objects_of mid) done.objects q (same_stays _ _ shown_at_first q some)))
          (forgets.gone ∙ ap (λ (xs : List ℕ). take (length xs) mid.held.gone) c.gone-told.ensures ∙ names_of_before c.begin.new.self done.decided.0 mid done.decided.1
          ∙ ap (λ (h : HeldState). h.gone) c.begin.ensures.held);
      tags = λ q was is. c.keep.ensures.others q (subst (λ (m : map.FinMap _ Block). IsSome (map.get m q)) (sym lives) was) ∙ ap (λ ts. tag_at ts q) c.make_room.ensures.tags;
      page = refl;
    })

pub returns-in-Err-clause-keeps : goal.returns-in-Err-clause-keeps
returns-in-Err-clause-keeps c =
    let done = c.in-Err.ensures in
    let mid = c.allocate-answer.new.device in
    let forgets = c.forget_gone_after.ensures in
    let run = begun_keeps_names c.self.inside.device c.begin.new.self done.decided.0 mid c.begin.ensures.held done.decided.1 in
    let shown_at_first = same_objects c.self.inside.device c.begin.new.self c.begin.ensures.offers (ap (λ (h : HeldState). h.objects) c.begin.ensures.held) in
    let shown_at_last = same_objects mid c.forget_gone_after.new.self forgets.offers forgets.objects in
    rw (← c.self.view_is) (record {
      given = search rules;
      limits = done.leaves.limits;
      total = search rules;
      gone = search rules;
      names = forgetting_keeps_names c.self.inside.device.held mid.held c.forget_gone_after.new.self.held _ run forgets.gone forgets.objects forgets.last_name;
      lost = as_before _ _ (shown_at_last ∙ done.objects ∙ shown_at_first)
          (forgets.gone ∙ ap (λ (xs : List ℕ). take (length xs) mid.held.gone) c.gone-told.ensures ∙ names_of_before c.begin.new.self done.decided.0 mid done.decided.1
          ∙ ap (λ (h : HeldState). h.gone) c.begin.ensures.held);
      tags = λ q was is. ap (λ ts. tag_at ts q) c.make_room.ensures.tags;
      page = refl;
    })

pub asks_own-own-requires-clause-may_come : goal.asks_own-own-requires-clause-may_come
asks_own-own-requires-clause-may_come c =
    let done = c.in-Err.ensures in
    let mid = c.allocate-answer.new.device in
    let begins = begun_is c.self.inside.device c.begin.new.self (begun c.args.answers.now) c.in-Ok.ensures.run c.begin.ensures.offers c.begin.ensures.held in
    let decided = rw done.refused at done.decided in
    rw (c.open-pending.ensures, done.refused)
    (may_come c.self.inside.allocator c.self.inside.granularity c.args.request c.args.wish c.begin.new.self mid decided.0 (Err c.in-Err.refusal) c.self.inside.allocator decided.1
    (ap (λ (r : RunState). r.stop) c.in-Ok.ensures.run) decided.2 c.forget_gone_after.new.self.run.stop (ap (λ (r : RunState). r.stop) (sym c.forget_gone_after.ensures.run)))

pub returns-in-Err-clause-asks : goal.returns-in-Err-clause-asks
returns-in-Err-clause-asks c = λ question own is.
    let denied : AllocationDenied c.args.self.now c.args.request c.args.wish c.args.answers.now c.denial_after.result = returns-in-Err-clause-denied c in
    let open_is : c.denial_after.result ≡ Open question own = cc in
    allocation_asks_few c.args.self.now c.args.request c.args.wish c.args.answers.now question own (omega arith)
    (subst (AllocationDenied c.args.self.now c.args.request c.args.wish c.args.answers.now) open_is denied)

pub returns-in-Err-clause-own : goal.returns-in-Err-clause-own
returns-in-Err-clause-own c = λ size t flags is.
    let denied : AllocationDenied c.args.self.now c.args.request c.args.wish c.args.answers.now c.denial_after.result = returns-in-Err-clause-denied c in
    let open_is : c.denial_after.result ≡ Open (Allocate size t flags) true = cc in
    own_is_as_asked c.args.self.now c.args.request c.args.wish c.args.answers.now size t flags
    (subst (AllocationDenied c.args.self.now c.args.request c.args.wish c.args.answers.now) open_is denied)

pub invariant_of-self : goal.invariant_of-self
invariant_of-self c =
    room_is_kept c.self.inside.offer c.self.inside.allocator c.self.inside.blocks c.make_room.new.blocks c.self.inside.device c.self.inside.device c.self.inside.tags.items c.make_room.new.tags.items c.self.inside.granularity c.self.invariant c.make_room.ensures.kept c.make_room.ensures.tags c.self.invariant.kept

pub invariant_of-self-in_default-begin : goal.invariant_of-self-in_default-begin
invariant_of-self-in_default-begin c =
    let begins = kept_over c.self.inside.device c.begin.new.self c.begin.ensures.offers (ap (λ (h : HeldState). h.objects) c.begin.ensures.held) c.self.invariant.kept in
    room_is_kept c.self.inside.offer c.self.inside.allocator c.self.inside.blocks c.make_room.new.blocks c.self.inside.device c.begin.new.self c.self.inside.tags.items c.make_room.new.tags.items c.self.inside.granularity c.self.invariant c.make_room.ensures.kept c.make_room.ensures.tags begins

pub invariant_of-self-in-Err : goal.invariant_of-self-in-Err
invariant_of-self-in-Err c =
    let done = c.in-Err.ensures in
    let mid = c.allocate-answer.new.device in
    let forgets = c.forget_gone_after.ensures in
    let begins = kept_over c.self.inside.device c.begin.new.self c.begin.ensures.offers (ap (λ (h : HeldState). h.objects) c.begin.ensures.held) c.self.invariant.kept in
    let agrees = rw done.refused at done.agrees in
    let offers = agrees.properties ∙ sym begins.sound.agrees.properties in
    let kept = kept_over mid c.forget_gone_after.new.self forgets.offers forgets.objects
    (same_is_kept c.begin.new.self.properties mid.properties (objects_of c.begin.new.self) (objects_of mid) offers done.objects begins) in
    rw done.refused
    (room_is_kept c.self.inside.offer c.self.inside.allocator c.self.inside.blocks c.make_room.new.blocks c.self.inside.device c.forget_gone_after.new.self c.self.inside.tags.items c.make_room.new.tags.items c.self.inside.granularity c.self.invariant c.make_room.ensures.kept c.make_room.ensures.tags kept)
