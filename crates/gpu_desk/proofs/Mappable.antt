-- A mapping that misses no condition is inside its block.
use Rattle.std.proofs.Common.{◌≡◌, ℕ, ◌+◌, ◌≤◌, ◌==◌, nat_lt, Option, Some, None, ap, sym, ◌∙◌}
use Rattle.gpu_alloc.specs.State.{Block}
use Rattle.gpu_session.specs.Faults.{fault_of_block, fault_of_range, where_true}
use Rattle.gpu_session.specs.declared.command.Fault.TheVariants.{BadRange, BadSize}
use Rattle.gpu_session.proofs.Conditions.{inside, passed}

pub maps_inside : (offset size : ℕ) (o : Option Block) (b : Block)
    → fault_of_block o (λ b. where_true (size == 0) BadSize (fault_of_range offset size b.size None)) ≡ None → o ≡ Some b → offset + size ≤ b.size
maps_inside offset size o b able there =
    let tests = passed (size == 0) BadSize _ (ap (λ x. fault_of_block x (λ b. where_true (size == 0) BadSize (fault_of_range offset size b.size None))) (sym there) ∙ able) in
    inside (offset + size) b.size (passed (nat_lt b.size (offset + size)) BadRange None tests.1).0
