use Rattle.gpu_alloc_usage.proofs.Ranking.Candidates.{candidates_IsRankingWithin}
use Rattle.gpu_alloc_usage.proofs.laws.candidates_are_exact_and_sorted.Goals as goal

pub returns : goal.returns
returns c = candidates_IsRankingWithin
