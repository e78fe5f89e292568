-- All blocks in hand under keys of a caller's own. A caller may name these lemmas in a `using`.
use Rattle.std.proofs.Common.{◌≡◌, ℕ, List, [], Option, sym, subst, arith}
use Rattle.std.specs.FinSet as set
use Rattle.gpu_alloc_types.specs.Device.{Object}
use Rattle.gpu_alloc_types.specs.Properties.{Properties}
use Rattle.gpu_alloc_block.proofs.Keyed.{under_keys}
use Rattle.gpu_alloc_block.specs.Agreement.{Agrees}
use Rattle.gpu_alloc_block.specs.Kept.{AddsInHand, RemovesInHand}
use Rattle.gpu_alloc_block.specs.State.{Block, IsOwned, State}
use Rattle.gpu_alloc.specs.Owned.{Adds, Removes}
use Rattle.gpu_alloc.specs.UnderKeys.{AllComeAndGo, AreAllKept, PutsUnder, TakesUnder}

-- what is taken is owned
pub owned : {s : State} {p : Properties} {objects : ℕ → Option Object} {entries fewer : List (ℕ × Block)} {key : ℕ} {b : Block}
    → AreAllKept s p objects entries → TakesUnder entries key b fewer → IsOwned s b
owned all takes = all.kept.owned _ _ takes.taken

module _ {s after : State} {p q : Properties} {old new : ℕ → Option Object} {entries others : List (ℕ × Block)} {key : ℕ} {b : Block}
    (all : AreAllKept s p old entries) (agrees : Agrees after q new) where
  pub comes : PutsUnder entries key b others → AddsInHand s p old after q new b → Adds s after b → AreAllKept after q new others
  comes puts joins adds =
      let kept = under_keys.comes s after p q old new entries others key b all.kept joins puts.free puts.set in
      record { agrees = agrees; kept = kept; count = omega (arith, adds.count, all.count, puts.count) }

  pub goes : TakesUnder entries key b others → RemovesInHand s p old b after q new → Removes s b after → AreAllKept after q new others
  goes takes leaves removes =
      let kept = under_keys.goes s after p q old new entries others key b all.kept leaves takes.taken takes.set in
      record { agrees = agrees; kept = kept; count = omega (arith, removes.count, all.count, takes.count) }

pub none : {s : State} {p : Properties} {objects : ℕ → Option Object} {entries : List (ℕ × Block)}
    → Agrees s p objects → set.len s.live ≡ 0 → entries ≡ [] → AreAllKept s p objects entries
none {s} {p} {objects} agrees live empty =
    subst (AreAllKept s p objects) (sym empty) (record { agrees = agrees; kept = under_keys.none s p objects; count = live })

pub come_and_go : AllComeAndGo
come_and_go = record {
  comes = λ s after p q old new entries more key b all puts agrees joins adds. comes all agrees puts joins adds;
  owned = λ s p objects entries fewer key b all takes. owned all takes;
  goes = λ s after p q old new entries fewer key b all takes agrees leaves removes. goes all agrees takes leaves removes;
  none = λ s p objects entries agrees live empty. none agrees live empty;
}
