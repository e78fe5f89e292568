use Rattle.std.proofs.Common.{◌≡◌, inr, ◌+◌, ◌-◌, [], ◌∷◌, refl, arith, ap, ◌∙◌}
use Rattle.gpu_alloc_types.specs.Device.Event.{Deallocated}
use Rattle.gpu_alloc_base.specs.Accounts.{account}
use Rattle.gpu_alloc_base.specs.Chunks.{Chunk}
use Rattle.gpu_alloc_base.specs.declared.heap.Heap.{Heap}
use Rattle.gpu_alloc_shared.specs.Shared.{ReleasesChunk}
use Rattle.gpu_alloc_shared.proofs.Releases.{agrees_without, releases_counted, releases_so, releases_total, is_counted, one_more_fits}
use Rattle.gpu_alloc_shared.proofs.returning.release_next.Given.{Over}
use Rattle.gpu_alloc_shared.proofs.returning.release_next.Goals.{In-Some}
use Rattle.gpu_alloc_shared.proofs.returning.release_next.Goals as goal

abbrev old : (g : Over) → In-Some g → g.S.Store.State
old g c = g.S.Store.state c.args.store.now

abbrev held : (g : Over) → In-Some g → Chunk
held g c = record { object = g.M.MemoryObject.object c.in-Some.memory; size = c.in-Some.size }

abbrev goes : (g : Over) (c : In-Some g) (less : Heap) → less ≡ record c.args.heap.now { used = c.args.heap.now.used - c.in-Some.size }
    → ReleasesChunk g.S.Store.rule (account (old g c) c.args.heap.now c.args.allocations_remains.now) c.in-Some.ensures.some.0 (Deallocated (held g c).object ∷ [])
    (account (g.S.Store.state c.take_whole-gone.new.self) less (c.args.allocations_remains.now + 1))
goes g c less is =
    releases_so g.S.Store.rule g.met.S.Store.lawful (old g c) (g.S.Store.state c.take_whole-gone.new.self) c.in-Some.ensures.some.0 c.args.heap.now less c.args.allocations_remains.now (held g c) c.in-Some.ensures.some.1.1.0 c.in-Some.ensures.some.1.1.1 is

pub release-requires-clause-counted : goal.release-requires-clause-counted
release-requires-clause-counted g c =
    let at = (goal.at.release-requires-clause-counted g c).In-Some in
    is_counted g.S.Store.rule g.met.S.Store.lawful (old g at) c.in-Some.ensures.some.0 (held g at) c.in-Some.ensures.some.1.1.0 c.args.heap.now c.args.allocations_remains.now c.requires.counted

pub release-requires-clause-fits : goal.release-requires-clause-fits
release-requires-clause-fits g c =
    let at = (goal.at.release-requires-clause-fits g c).In-Some in
    let less = one_more_fits g.S.Store.rule g.met.S.Store.lawful (old g at) c.in-Some.ensures.some.0 (held g at) c.in-Some.ensures.some.1.1.0 c.args.heap.now c.args.allocations_remains.now c.requires.counted in
    omega (arith, less)

pub returns-clause-releases : goal.returns-clause-releases
returns-clause-releases g c =
    let at = (goal.at.returns-clause-releases g c).In-Some in
    rw (c.release.ensures.count) (
      Deallocated (held g at).object ∷ [],
      (c.deallocate_memory.new.self, c.deallocate_memory.ensures, refl),
      inr (c.in-Some.ensures.some.0, c.in-Some.ensures.some.1.0, goes g at c.release.new.heap c.release.ensures.ledger, g.met.D.ObjectDevice.row _ _ _ c.deallocate_memory.ensures),
    )

pub returns-clause-agrees : goal.returns-clause-agrees
returns-clause-agrees g c =
    let at = (goal.at.returns-clause-agrees g c).In-Some in
    let r = g.S.Store.rule in
    let lawful = g.met.S.Store.lawful in
    let is = c.in-Some.ensures.some.1.1.1 in
    agrees_without r lawful (old g at) (g.S.Store.state c.take_whole-gone.new.self) c.in-Some.ensures.some.0 (held g at) c.keeps_sound.ensures c.in-Some.ensures.some.1.1.0
    (ap r.chunks is ∙ lawful.its_chunks (old g at) _ _) (ap r.served is ∙ lawful.its_type (old g at) _ _)
    (g.met.D.ObjectDevice.keeps_properties _ _ _ c.deallocate_memory.ensures) (g.met.D.ObjectDevice.row _ _ _ c.deallocate_memory.ensures) c.requires.agrees

pub returns-clause-live : goal.returns-clause-live
returns-clause-live g c =
    let at = (goal.at.returns-clause-live g c).In-Some in
    ap g.S.Store.rule.live c.in-Some.ensures.some.1.1.1 ∙ g.met.S.Store.lawful.its_live (old g at) _ _

pub returns-clause-counted : goal.returns-clause-counted
returns-clause-counted g c =
    let at = (goal.at.returns-clause-counted g c).In-Some in
    rw c.release.ensures.count (releases_counted g.S.Store.rule g.met.S.Store.lawful _ _ _ _ (goes g at c.release.new.heap c.release.ensures.ledger) c.requires.counted)

pub returns-clause-total : goal.returns-clause-total
returns-clause-total g c =
    let at = (goal.at.returns-clause-total g c).In-Some in
    rw (c.release.ensures.count) (releases_total g.S.Store.rule g.met.S.Store.lawful _ _ _ _ (goes g at c.release.new.heap c.release.ensures.ledger))
