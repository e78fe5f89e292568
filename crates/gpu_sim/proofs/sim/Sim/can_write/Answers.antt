use Rattle.std.proofs.Common.{◌≡◌, ◌↔◌, ℕ, ◌-◌, ◌+◌, ◌≤◌, Some, IsTrue, leb, ap, sym, subst, ◌∙◌, arith}
use Rattle.std.proofs.lemmas.Bool.Decides.{nat_tests}
use Rattle.std.specs.FinMap as map
use Rattle.std.specs.FinMap.{FinMap}
use Rattle.std.specs.Ordering.{nat_cmp}
use Rattle.gpu_alloc_types.specs.Device.{Object, HeldWith}
use Rattle.gpu_alloc_types.specs.Properties.{Properties, is_host_visible}
use Rattle.gpu_sim.specs.ObjectLaws.{held_once_shown, shown_once_held, whole_at}
use Rattle.gpu_sim.specs.Objects.{AreWhole, shown}
use Rattle.gpu_sim.specs.Sim.{IsWritable, objects_of}
use Rattle.gpu_sim.proofs.sim.Sim.can_write.Goals as goal

at_most : (offset size length : ℕ) → offset ≤ length → IsTrue (leb size (length - offset)) → offset + size ≤ length
at_most offset size length le is = grind (arith, nat_tests)

tested : (offset size length : ℕ) → offset + size ≤ length → IsTrue (leb size (length - offset))
tested offset size length within = grind (arith, nat_tests)

-- where the object is held and seen, the test of its end is the answer
writable : (p : Properties) (objects : FinMap nat_cmp Object) (name offset size : ℕ) (o : Object) (length : ℕ) → AreWhole p objects → map.get objects name ≡ Some o → IsTrue (is_host_visible p o.memory_type)
    → length ≡ o.size → offset ≤ length → IsTrue (leb size (length - offset)) ↔ HeldWith (shown p objects) name (IsWritable p offset size)
writable p objects name offset size o length whole is visible end le = (
  λ test. (o, shown_once_held p objects name o is (whole_at p objects name o whole is), record { visible = visible; inside = subst (λ n. offset + size ≤ n) end (at_most offset size length le test) }),
  λ held. let found = held_once_shown p objects name held.0 held.1 in let same : held.0 ≡ o = cc in
      tested offset size length (subst (λ n. offset + size ≤ n) (ap (λ (o : Object). o.size) same ∙ sym end) held.2.inside),
)

pub returns-then-offset-length : goal.returns-then-offset-length
returns-then-offset-length g c =
    subst (λ sim. IsTrue (leb c.args.size (c.size-length.result - c.args.offset)) ↔ HeldWith (objects_of sim) c.args.object (IsWritable sim.properties c.args.offset c.args.size)) c.self.view_is
    (writable c.self.inside.properties c.self.inside.objects c.args.object c.args.offset c.args.size c.in-Some.held.now c.size-length.result c.self.invariant.whole
    (sym (rw c.in-Some.is at c.get.ensures))
    (subst (λ t. IsTrue (is_host_visible c.self.inside.properties t)) c.memory_type.ensures (sym c.is_host_visible.ensures ∙ c.if-not-is_host_visible.false))
    c.size-length.ensures c.if-offset-length.true)
