use Rattle.gpu_clients.proofs.resources.ResourceManager.keeps_pages.Goals as goal

pub returns-clause-apart : goal.returns-clause-apart
returns-clause-apart g c = rw (← c.self.view_is) (λ image other size b d here there ne paged.
    c.pages_are_not_shared.ensures _ size b d c.self.invariant.pages paged
    (c.self.invariant.kept.two image other b d here there ne))
