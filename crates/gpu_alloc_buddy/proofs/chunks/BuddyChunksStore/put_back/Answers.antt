use Rattle.std.proofs.Common.{◌≡◌, sym, ◌∙◌, subst}
use Rattle.std.specs.FinSet as set
use Rattle.gpu_alloc_base.proofs.InHand.{return_removes}
use Rattle.gpu_alloc_base.proofs.Leaves.{leaf_exact, leaf_total}
use Rattle.gpu_alloc_buddy.specs.BuddyState.{bytes_of}
use Rattle.gpu_alloc_buddy.proofs.BuddyChunks.{live_less}
use Rattle.gpu_alloc_buddy.proofs.chunks.BuddyChunksStore.put_back.Goals as goal

pub returns-clause-removed : goal.returns-clause-removed
returns-clause-removed g c =
    let s = c.self.inside.pairs.space in
    let now = c.put_back-gone.new.self.space in
    let less = live_less _ _ _ s now c.into_parts.result.1 c.put_back-gone.result c.put_back-gone.ensures.stays c.put_back-gone.ensures.goes in
    rw (← c.self.view_is) (λ block is. return_removes leaf_total leaf_exact bytes_of s.live block now.live (subst (λ q. now.live ≡ set.remove s.live q) (c.into_parts.ensures.leaf ∙ sym is.1) less) is.0)
