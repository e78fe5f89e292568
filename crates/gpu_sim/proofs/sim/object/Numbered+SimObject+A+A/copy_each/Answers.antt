use Rattle.std.proofs.Common.{◌≡◌, ℕ, ◌<◌, [], ◌∷◌, ◌++◌, length, map, take, get_or, ap, sym, subst, ◌∙◌}
use Rattle.std.proofs.lemmas.List.{take_more, length-map}
use Rattle.std.specs.FinMap as finite
use Rattle.gpu_alloc_types.specs.Device.{Range, HeldWith, range_of}
use Rattle.gpu_sim.specs.Bytes.{size_of_part}
use Rattle.gpu_sim.specs.Objects.{ChangesAt, CopiesEach, HasRange, copied}
use Rattle.gpu_sim.proofs.Copies.{item_of_map, copies-push, smaller_range, held_kept, change_in}
use Rattle.gpu_sim.proofs.sim.object.Numbered+SimObject+A+A.copy_each.Goals as goal

pub copy_one-requires : goal.copy_one-requires
copy_one-requires g c =
    let r : Range = range_of {M = ℕ} (λ memory. memory) c.range-item.result in
    let at = item_of_map (range_of {M = ℕ} (λ memory. memory)) c.args.ranges.now c.loop-range.range-index c.range-item.result c.range-item.is in
    let held = subst (λ q. HeldWith (finite.get c.loop-range.self) q.object (HasRange q.offset q.size)) at
    (c.loop-range.invariant.held c.loop-range.range-index r (subst (λ n. c.loop-range.range-index < n) (sym (length-map c.args.ranges.now (range_of {M = ℕ} (λ memory. memory)))) c.loop-range-test.true)) in
    (held.0, ap (finite.get c.loop-range.self) c.object.ensures ∙ held.1, smaller_range _ _ _ held.0 c.of-size.ensures.within held.2)

pub loop-range-preserved : goal.loop-range-preserved
loop-range-preserved g c =
    let f = range_of {M = ℕ} (λ memory. memory) in
    let r : Range = f c.range-item.result in
    let rs = map f c.args.ranges.now in
    let i = c.loop-range.range-index in
    let lt : i < length rs = subst (λ n. i < n) (sym (length-map c.args.ranges.now f)) c.loop-range-test.true in
    let at : get_or rs i r ≡ r = item_of_map f c.args.ranges.now i c.range-item.result c.range-item.is in
    let held = subst (λ q. HeldWith (finite.get c.loop-range.self) q.object (HasRange q.offset q.size)) at (c.loop-range.invariant.held i r lt) in
    let change = subst (λ name. ChangesAt (HasRange r.offset c.of-size.result) (copied c.args.way r.offset c.of-size.result) c.loop-range.self name c.copy_one.new.self) c.object.ensures c.copy_one.ensures in
    record {
      done = subst (λ qs. CopiesEach c.args.way c.args.part qs c.args.self.now c.copy_one.new.self)
          (sym (take_more rs i r lt ∙ ap (λ q. take i rs ++ q ∷ []) at))
          (copies-push c.args.way c.args.part (take i rs) r c.args.self.now c.loop-range.self c.copy_one.new.self c.loop-range.invariant.done
          (change_in c.args.way r.offset c.of-size.result c.loop-range.self r.object c.copy_one.new.self change r.size (size_of_part c.args.part r.size) c.of-size.ensures.value held));
      held = λ k d below. held_kept c.args.way r.offset c.of-size.result c.loop-range.self r.object c.copy_one.new.self change _ _ _ (c.loop-range.invariant.held k d below);
    }
