use Rattle.gpu_alloc_usage.proofs.Ranking.Order.{ranking_IsRanking, ranking-only}
use Rattle.gpu_alloc_usage.proofs.laws.ranking_is_exact_and_sorted.Goals as goal

pub returns-clause-is : goal.returns-clause-is
returns-clause-is c = ranking_IsRanking

pub returns-clause-only : goal.returns-clause-only
returns-clause-only c = ranking-only
