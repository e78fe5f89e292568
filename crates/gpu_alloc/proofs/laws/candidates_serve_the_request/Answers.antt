use Rattle.std.proofs.Common.{ℕ}
use Rattle.gpu_alloc_types.specs.Flags.{usage_bits}
use Rattle.gpu_alloc_usage.proofs.Ranking.Candidates.{candidates_IsRankingWithin}
use Rattle.gpu_alloc.specs.Allocation.{IsCandidate, ServesRequest}
use Rattle.gpu_alloc_block.specs.State.{State}
use Rattle.gpu_alloc.specs.declared.request.Request.{Request}
use Rattle.gpu_alloc.proofs.laws.candidates_serve_the_request.Goals as goal

serves_request : (s : State) (r : Request) (t : ℕ) → IsCandidate s r t → ServesRequest s r t
unfolding IsCandidate
serves_request s r t candidate =
    let has = ((candidates_IsRankingWithin s.properties.memory_types (usage_bits r.usage) r.memory_types).exactly t).0 candidate in
    record { known = has.0.0; permitted = has.1; serves = has.0.1 }

pub returns : goal.returns
returns c = record { each = serves_request }
