use Rattle.std.proofs.Common.{sym, subst, ◌∙◌}
use Rattle.gpu_alloc.specs.Allocation.{IsInPages}
use Rattle.gpu_alloc_base.proofs.Maps.{another_key}
use Rattle.gpu_clients.proofs.uses.clients.image_and_buffer.Goals as goal

pub returns : goal.returns
returns g c =
    let image = c.in_ok-first.ensures.pages in
    let buffer = c.in_ok-second.ensures.granted in
    let ne = another_key _ _ _ _ c.in_ok-second.ensures.was_free image.1 in
    let stays = c.in_ok-second.ensures.others _ ne ∙ image.1 in
    let paged = subst (λ n. IsInPages n c.args.image.size image.0) (sym c.in_ok-second.ensures.granularity) image.2 in
    (image.0, stays, (buffer.0, buffer.1, c.keeps_pages.ensures.apart _ _ _ _ _ stays buffer.1 ne paged))
