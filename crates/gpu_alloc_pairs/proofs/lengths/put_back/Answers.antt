use Rattle.std.proofs.Common.{◌≡◌, ℕ, ◌+◌, ◌-◌, ◌^◌, ◌≤◌, sym, ◌∙◌, subst, arith}
use Rattle.gpu_alloc_pairs.specs.Lengths.{FewReleases, Releases}
use Rattle.gpu_alloc_pairs.specs.Tree.{Pairs, pair_at}
use Rattle.gpu_alloc_pairs.proofs.Climbs.{climb_stays, climb_next, climb_ends, climb_inside, comes_next, has_pair, pair_in_range}
use Rattle.gpu_alloc_pairs.proofs.lengths.put_back.Given.{Over}
use Rattle.gpu_alloc_pairs.proofs.lengths.put_back.Goals as goal
use Rattle.gpu_alloc_pairs.proofs.lengths.put_back.Goals.{After-release}

pub release-requires-clause-in_range : goal.release-requires-clause-in_range
release-requires-clause-in_range g c =
    let comes = c.loop-whole.invariant.comes in
    let lt = pair_in_range c.loop-whole.lengths.items comes.piece.order c.loop-whole.pair comes.returning.half.entry comes.returning.half.pair in
    omega (arith, lt, comes.of_order)

pub release-requires-clause-used : goal.release-requires-clause-used
release-requires-clause-used g c = has_pair (pair_at c.loop-whole.lengths.items) c.loop-whole.length c.loop-whole.pair c.loop-whole.half c.loop-whole.invariant.comes

pub returns-in_default-parent-clause-goes : goal.returns-in_default-parent-clause-goes
returns-in_default-parent-clause-goes g c s z of_order r =
    let P : Pairs = pair_at c.args.lengths.now.items in
    let Q : Pairs = pair_at c.loop-whole.lengths.items in
    let R : Pairs = pair_at c.release.new.lengths.items in
    climb_ends P Q R s z c.loop-whole.length c.loop-whole.pair c.loop-whole.half (c.loop-whole.invariant.climbed s z of_order r) c.in-Some.whole c.in-Some.ensures.releases c.in_default-parent.is

-- however the climb ends, it released few halves
few : (g : Over) (c : After-release g) → FewReleases (pair_at c.args.lengths.now.items) c.args.order c.args.key c.args.side c.args.releases.now c.release.new.releases
few g c s z of_order r chunk held =
    let P : Pairs = pair_at c.args.lengths.now.items in
    let Q : Pairs = pair_at c.loop-whole.lengths.items in
    let i = c.loop-whole.invariant in
    let inside = climb_inside P Q Q s z c.loop-whole.length c.loop-whole.pair c.loop-whole.half (i.climbed s z of_order r) chunk held in
    let same : c.args.order + (c.release.new.releases - c.args.releases.now) ≡ c.loop-whole.length + 1 = omega (arith, i.counted, c.release.ensures.counted, i.upwards) in
    subst (λ (n : ℕ). 2 ^ n ≤ chunk.size) (sym same) inside

pub returns-in_default-parent-clause-few : goal.returns-in_default-parent-clause-few
returns-in_default-parent-clause-few g c = few g (goal.at.returns-in_default-parent-clause-few g c).After-release

pub loop-whole-preserved : goal.loop-whole-preserved
loop-whole-preserved g c =
    let P : Pairs = pair_at c.args.lengths.now.items in
    let Q : Pairs = pair_at c.loop-whole.lengths.items in
    let R : Pairs = pair_at c.release.new.lengths.items in
    let i = c.loop-whole.invariant in
    record {
      count = c.release.ensures.count ∙ i.count;
      comes = comes_next Q R c.loop-whole.length c.loop-whole.pair c.loop-whole.half c.in-Some.whole c.in-Some-parent.parent i.comes c.in-Some.ensures.releases c.in-Some-parent.is;
      climbed = λ s z of_order r. climb_next P Q R s z c.loop-whole.length c.loop-whole.pair c.loop-whole.half (i.climbed s z of_order r) c.in-Some.whole c.in-Some.ensures.releases c.in-Some-parent.parent c.in-Some-parent.is;
      counted = omega (arith, i.counted, c.release.ensures.counted);
      upwards = omega (arith, i.upwards);
    }

pub returns-clause-stays : goal.returns-clause-stays
returns-clause-stays g c s z of_order r =
    let P : Pairs = pair_at c.args.lengths.now.items in
    let Q : Pairs = pair_at c.loop-whole.lengths.items in
    let R : Pairs = pair_at c.release.new.lengths.items in
    climb_stays P Q R s z c.loop-whole.length c.loop-whole.pair c.loop-whole.half (c.loop-whole.invariant.climbed s z of_order r) (subst (λ o. Releases Q R c.loop-whole.length c.loop-whole.pair c.loop-whole.half o) c.in_default.is c.release.ensures.releases)

pub returns-clause-few : goal.returns-clause-few
returns-clause-few g c = few g (goal.at.returns-clause-few g c).After-release
