use Rattle.std.proofs.Common.{◌≡◌, inr, ℕ, ◌+◌, ◌-◌, [], ◌∷◌, Some, refl, arith, ap, ◌∙◌}
use Rattle.std.specs.FinMap as map
use Rattle.gpu_alloc_types.specs.Device.Event.{Deallocated}
use Rattle.gpu_alloc_base.specs.Accounts.{IsCounted, account}
use Rattle.gpu_alloc_base.specs.Chunks.{Chunk}
use Rattle.gpu_alloc_base.specs.declared.heap.Heap.{Heap}
use Rattle.gpu_alloc_shared.specs.Shared.{ReleasesChunk, without_block}
use Rattle.gpu_alloc_shared.proofs.Releases.{agrees_without, is_counted, one_more_fits, releases_counted, releases_so, releases_total}
use Rattle.gpu_alloc_shared.proofs.returning.dealloc.Given.{Over}
use Rattle.gpu_alloc_shared.proofs.returning.dealloc.Goals.{In-Some}
use Rattle.gpu_alloc_shared.proofs.returning.dealloc.Goals as goal

abbrev old : (g : Over) → In-Some g → g.S.Store.State
old g c = g.S.Store.state c.args.store.now

abbrev held : (g : Over) → In-Some g → Chunk
held g c = record { object = g.M.MemoryObject.object c.in-Some.memory; size = c.in-Some.whole }

-- The block that is returned, and what is left where its chunk is not yet released.
module _ (g : Over) (c : In-Some g) (block : g.row.S-Block.Denot) (is : g.S.Store.Returns (old g c) c.args.returned block) where
  abbrev key : ℕ
  key = g.S.Store.rule.key block

  abbrev between : g.S.Store.State
  between = without_block g.S.Store.rule (old g c) block

  is_held : map.get (g.S.Store.rule.chunks (old g c)) key ≡ Some (held g c)
  is_held = (c.in-Some.ensures.goes block is).1.0

  same_chunks : g.S.Store.rule.chunks between ≡ g.S.Store.rule.chunks (old g c)
  same_chunks = g.met.S.Store.lawful.its_chunks (old g c) _ _

  goes : (less : Heap) → less ≡ record c.args.heap.now { used = c.args.heap.now.used - c.in-Some.whole }
      → ReleasesChunk g.S.Store.rule (account between c.args.heap.now c.args.allocations_remains.now) key (Deallocated (held g c).object ∷ []) (account (g.S.Store.state c.put_back-gone.new.self) less (c.args.allocations_remains.now + 1))
  goes less less_is =
      releases_so g.S.Store.rule g.met.S.Store.lawful between (g.S.Store.state c.put_back-gone.new.self) key c.args.heap.now less c.args.allocations_remains.now (held g c) (ap (λ m. map.get m key) same_chunks ∙ is_held) (c.in-Some.ensures.goes block is).1.1 less_is

pub release-requires-clause-counted : goal.release-requires-clause-counted
release-requires-clause-counted g c =
    let at = (goal.at.release-requires-clause-counted g c).In-Some in
    let block = c.requires.live.0 in
    is_counted g.S.Store.rule g.met.S.Store.lawful (old g at) (key g at block c.requires.live.1) (held g at) (is_held g at block c.requires.live.1) c.args.heap.now c.args.allocations_remains.now c.requires.counted

pub release-requires-clause-fits : goal.release-requires-clause-fits
release-requires-clause-fits g c =
    let at = (goal.at.release-requires-clause-fits g c).In-Some in
    let block = c.requires.live.0 in
    let less = one_more_fits g.S.Store.rule g.met.S.Store.lawful (old g at) (key g at block c.requires.live.1) (held g at) (is_held g at block c.requires.live.1) c.args.heap.now c.args.allocations_remains.now c.requires.counted in
    omega (arith, less)

pub returns-clause-frees : goal.returns-clause-frees
returns-clause-frees g c block is =
    let at = (goal.at.returns-clause-frees g c).In-Some in
    rw (c.release.ensures.count) (
      Deallocated (held g at).object ∷ [],
      (c.deallocate_memory.new.self, c.deallocate_memory.ensures, refl),
      inr ((c.in-Some.ensures.goes block is).0, goes g at block is c.release.new.heap c.release.ensures.ledger),
    )

pub returns-clause-agrees : goal.returns-clause-agrees
returns-clause-agrees g c =
    let at = (goal.at.returns-clause-agrees g c).In-Some in
    let r = g.S.Store.rule in
    let lawful = g.met.S.Store.lawful in
    let block = c.requires.live.0 in
    let b = between g at block c.requires.live.1 in
    let k = key g at block c.requires.live.1 in
    let is = (c.in-Some.ensures.goes block c.requires.live.1).1.1 in
    agrees_without r lawful (old g at) (g.S.Store.state c.put_back-gone.new.self) k (held g at) c.keeps_sound.ensures (is_held g at block c.requires.live.1)
    (ap r.chunks is ∙ lawful.its_chunks b _ _ ∙ ap (λ m. map.remove m k) (same_chunks g at block c.requires.live.1)) (ap r.served is ∙ lawful.its_type b _ _ ∙ lawful.its_type (old g at) _ _)
    (g.met.D.ObjectDevice.keeps_properties _ _ _ c.deallocate_memory.ensures) (g.met.D.ObjectDevice.row _ _ _ c.deallocate_memory.ensures) c.requires.agrees

pub returns-clause-counted : goal.returns-clause-counted
returns-clause-counted g c =
    let at = (goal.at.returns-clause-counted g c).In-Some in
    let block = c.requires.live.0 in
    let counted : IsCounted (g.S.Store.rule.chunks (between g at block c.requires.live.1)) c.args.heap.now c.args.allocations_remains.now = rw (same_chunks g at block c.requires.live.1) c.requires.counted in
    rw c.release.ensures.count (releases_counted g.S.Store.rule g.met.S.Store.lawful _ _ _ _ (goes g at block c.requires.live.1 c.release.new.heap c.release.ensures.ledger) counted)

pub returns-clause-total : goal.returns-clause-total
returns-clause-total g c =
    let at = (goal.at.returns-clause-total g c).In-Some in
    let block = c.requires.live.0 in
    let total = releases_total g.S.Store.rule g.met.S.Store.lawful _ _ _ _ (goes g at block c.requires.live.1 c.release.new.heap c.release.ensures.ledger) in
    rw (c.release.ensures.count, ← (same_chunks g at block c.requires.live.1)) total
