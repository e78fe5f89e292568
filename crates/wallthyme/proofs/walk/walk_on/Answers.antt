-- One more block is written.
use Rattle.std.proofs.Common.{◌≡◌, ◌<◌, length, arith, ap, sym, subst, ◌∙◌}
use Rattle.gpu_desk.specs.Calls.{Told}
use Rattle.gpu_desk.specs.Walk.{IsNext}
use Rattle.gpu_desk.specs.declared.answers.Grant.{Grant}
use Rattle.wallthyme.specs.Walk.{IsNextBlock}
use Rattle.wallthyme.proofs.Rest.{rest_stays}
use Rattle.wallthyme.proofs.Walks.{one_more_behind, one_more_next}
use Rattle.wallthyme.proofs.walk.walk_on.Goals as goal

pub loop-count-preserved : goal.loop-count-preserved
loop-count-preserved c =
    let l = c.loop-count in
    let s = c.args.desk.now in
    let b = c.into.result in
    let g = c.in-Some.grant in
    let within : l.count < length l.blocks = omega arith in
    let key : b.key ≡ g.key = ap (λ (x : Grant). x.key) c.into.ensures.0 in
    let next : IsNextBlock s l.last b = record {
      next = subst (IsNext s l.last) (sym key) c.in-Some.ensures.next;
      told = subst (λ (x : Grant). Told s x.key x) (sym c.into.ensures.0) c.in-Some.ensures.told;
      flags = c.into.ensures.1;
    } in
    record {
      told =
          one_more_next s c.args.after l.blocks l.count b within l.invariant.told
          (subst (λ n. IsNextBlock s n b) l.invariant.last next);
      last = sym key ∙ one_more_behind s c.args.after l.blocks l.count b within;
      rest = rest_stays l.blocks c.args.blocks.now l.count b l.invariant.rest;
    }
