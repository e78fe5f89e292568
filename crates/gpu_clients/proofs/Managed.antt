-- What a manager keeps where a block is granted, moves bytes or goes back.
use Rattle.std.proofs.Common.{◌≡◌, ℕ, Option, Some, refl, sym, arith}
use Rattle.std.proofs.lemmas.Bool.Decides.{nat_tests}
use Rattle.std.specs.Cmp.{nat_cmp_total}
use Rattle.std.specs.FinMap as map
use Rattle.std.specs.FinMap.{nat_cmp-IsAntisymmetric}
use Rattle.std.specs.Ordering.{nat_cmp}
use Rattle.gpu_alloc_types.specs.Device.{Object}
use Rattle.gpu_alloc_types.specs.Properties.{Properties}
use Rattle.gpu_alloc_base.proofs.Maps.{name_test}
use Rattle.gpu_alloc_block.specs.Agreement.{Agrees, KeepsAgreement}
use Rattle.gpu_alloc_block.specs.Kept.{AddsInHand, KeepsInHand, RemovesInHand}
use Rattle.gpu_alloc_block.specs.State.{Block, State}
use Rattle.gpu_alloc.specs.Owned.{Adds, Removes}
use Rattle.gpu_clients.specs.Resources.{IsManaged}
use Rattle.gpu_slots.specs.SlotMap.{PutsAt, TakesAt}

-- to put what is there changes nothing
pub put_again : {X : Type 0} (m : map.FinMap nat_cmp X) (key : ℕ) {b now : X} → Some b ≡ map.get m key → now ≡ b → map.insert m key now ≡ m
put_again m key {now = now} there same =
    map.same_map nat_cmp_total nat_cmp-IsAntisymmetric _ _ (λ k. grind (arith, nat_tests, name_test, map.get-insert nat_cmp_total m key now k))

module _ {s after : State} {p q : Properties} {old new : ℕ → Option Object} {m n : map.FinMap nat_cmp Block} {key granularity : ℕ} {b : Block}
    (managed : IsManaged s p old m granularity) (agrees : Agrees after q new) where
  pub granted : PutsAt m key b n → AddsInHand s p old after q new b → Adds s after b → IsManaged after q new n granularity
  granted puts joins adds =
      let kept = joins.kept _ _ _ managed.kept puts.free (record { changed = puts.there; others = puts.others }) in
      record { agrees = agrees; kept = kept; count = omega arith; pages = managed.pages }

  pub gone : TakesAt m key b n → RemovesInHand s p old b after q new → Removes s b after → IsManaged after q new n granularity
  gone takes leaves removes =
      let kept = leaves.kept _ _ _ managed.kept takes.taken (record { changed = takes.gone; others = takes.others }) in
      record { agrees = agrees; kept = kept; count = omega arith; pages = managed.pages }

-- what it keeps where a block of its own moved bytes
pub moved : {s : State} {p q : Properties} {old new : ℕ → Option Object} {m : map.FinMap nat_cmp Block} {granularity : ℕ} (key : ℕ)
    {b now : Block} → IsManaged s p old m granularity → Some b ≡ map.get m key → now ≡ b → KeepsInHand b p old now q new → KeepsAgreement b p old q new
    → IsManaged s q new (map.insert m key now) granularity
moved {m = m} key managed there same stays keeps = rw (put_again m key there same) (record {
  agrees = keeps.owner _ (managed.kept.owned key _ (sym there)) managed.agrees;
  kept = stays.kept _ _ _ key managed.kept (sym there) (record { changed = sym (cc (there, same)); others = λ other ne. refl });
  count = managed.count;
  pages = managed.pages;
})
