use Rattle.std.proofs.Common.{ap, sym, subst}
use Rattle.gpu_clients.proofs.Managed.{granted}
use Rattle.gpu_clients.proofs.resources.ResourceManager.create.Goals as goal
use Rattle.gpu_slots.specs.SlotMap.{PutsAt, IsGone}

pub invariant_of-self-2 : goal.invariant_of-self-2
invariant_of-self-2 g c =
    let grant = c.in_ok-block.ensures in
    let same = ap (λ s. s.live) c.reserve.ensures.kept in
    let puts = subst (λ m. PutsAt m c.insert_reserved.result c.in_ok-block.block c.insert_reserved.new.self.live) same c.insert_reserved.ensures.puts in
    granted c.self.invariant grant.agrees puts grant.joins grant.added

pub returns-clause-ended : goal.returns-clause-ended
returns-clause-ended g c = rw (← c.self.view_is) (λ handle gone.
    c.insert_reserved.ensures.gone handle (subst (λ s. IsGone s handle) (sym c.reserve.ensures.kept) gone))

pub returns-clause-granted : goal.returns-clause-granted
returns-clause-granted g c = rw (← c.self.view_is) (c.in_ok-block.block, c.insert_reserved.ensures.puts.there, c.in_ok-block.ensures.granted)
