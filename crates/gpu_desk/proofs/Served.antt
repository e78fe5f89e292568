-- The request that a shared chunk serves, and how long its block is.
use Rattle.std.proofs.Common.{◌≡◌, ℕ, Some, None, true, false, cond, Result, IfOk, ap, subst, sym}
use Rattle.gpu_alloc.specs.Allocation.{IsExactFit}
use Rattle.gpu_alloc.specs.HeldOnly.{in_pages_where}
use Rattle.gpu_alloc.specs.Request.{in_pages}
use Rattle.gpu_alloc.specs.State.{Block, State}
use Rattle.gpu_alloc.specs.Types.AllocationError.{AllocationError}
use Rattle.gpu_alloc.specs.declared.request.Request.{Request}
use Rattle.gpu_desk.specs.Wishes.{goes_by_pages, served_as}
use Rattle.gpu_desk.specs.declared.wish.Wish.{Wish}

pub pages_served : (granularity : ℕ) (r : Request) (w : Wish) → goes_by_pages granularity w ≡ true
    → served_as granularity r w ≡ in_pages granularity r
pages_served granularity r w by_pages = ap (λ b. in_pages_where (cond b (Some granularity) None) r) by_pages

pub bytes_served : (granularity : ℕ) (r : Request) (w : Wish) → goes_by_pages granularity w ≡ false
    → served_as granularity r w ≡ r
bytes_served granularity r w by_bytes = ap (λ b. in_pages_where (cond b (Some granularity) None) r) by_bytes

-- what is as long as one request asks is as long as an equal one asks
pub exact_then : (s : State) (r served : Request) (answer : Result Block AllocationError) → served ≡ r
    → IfOk answer (IsExactFit s r) → IfOk answer (IsExactFit s served)
exact_then s r served answer same exact = subst (λ q. IfOk answer (IsExactFit s q)) (sym same) exact
