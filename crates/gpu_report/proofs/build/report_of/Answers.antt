use Rattle.std.proofs.Common.{◌≡◌, ℕ, ◌+◌, ◌++◌, length, map, refl, subst, add-one, arith}
use Rattle.gpu_alloc.specs.Spans.{held_entry_of}
use Rattle.gpu_report.specs.Held.{parts, parts_of_type}
use Rattle.gpu_report.specs.Report.{ArePartsTold}
use Rattle.gpu_report.proofs.Told.{each_told}
use Rattle.gpu_report.proofs.build.report_of.Goals as goal

parts_more : (n : ℕ) → parts (n + 1) ≡ parts n ++ parts_of_type n
parts_more n = rw add-one refl

pub loop-memory_type-preserved : goal.loop-memory_type-preserved
loop-memory_type-preserved g c =
    let t = c.loop-memory_type.memory_type in
    let held = c.deref.ensures.value in
    let live = c.deref-in-loop-memory_type.ensures.value in
    let told = c.in_ok-add_type.ensures (parts t) (rw (held, live) c.loop-memory_type.invariant) in
    rw (parts_more t) (rw (held, live) at told)

pub returns-clause-report : goal.returns-clause-report
returns-clause-report g c =
    let s = c.args.allocator.now in
    let held = map held_entry_of c.in_ok-held.held.items in
    let live = rw c.in-Some.is at c.in_ok-live.ensures.live in
    let given = rw c.in-Some.is at c.in_ok-live.ensures.given in
    let all : c.loop-memory_type.memory_type ≡ length s.properties.memory_types = omega (arith, c.loop-memory_type.auto.memory_type-end, c.loop-memory_type-test.false, c.type_count-memory_type-end.ensures) in
    let told = subst (λ n. ArePartsTold s held c.in-Some.live.items (parts n) c.loop-memory_type.kinds.items c.loop-memory_type.objects.items) all c.loop-memory_type.invariant in
    record {
      held = held;
      are_held = c.in_ok-held.ensures.held;
      live = c.in-Some.live.items;
      are_live = live;
      given = given;
      heaps = c.in_ok-heaps.ensures;
      told = told;
      each = each_told s held c.in-Some.live.items c.loop-memory_type.kinds.items c.loop-memory_type.objects.items c.in_ok-held.ensures.held c.in_ok-held.ensures.known told;
    }
