use Rattle.gpu_desk.proofs.Paged.{share_no_page}
use Rattle.gpu_desk.proofs.laws.whole_pages_are_not_shared.Goals as goal

pub returns : goal.returns
returns c = λ s sound is paged. share_no_page s.granularity is s.blocks.live s.tags paged sound.apart
