-- Blocks in hand of a list, by place.
use Rattle.std.proofs.Common.{◌≡◌, ◌≢◌, ℕ, zero, suc, List, [], ◌∷◌, slice_get, Option, Some, refl, ap, subst}
use Rattle.gpu_alloc_types.specs.Device.{Object}
use Rattle.gpu_alloc_types.specs.Properties.{Properties}
use Rattle.gpu_alloc_block.proofs.Changes.{some_same}
use Rattle.gpu_alloc_block.proofs.Kept.{two_back}
use Rattle.gpu_alloc_block.specs.Agreement.{BlockAgrees}
use Rattle.gpu_alloc_block.specs.InHand.{AreOwned, AreTwo, IsBeside}
use Rattle.gpu_alloc_block.specs.Kept.{AreReady, ToldByPlace}
use Rattle.gpu_alloc_block.specs.State.{Block, IsOwned, State}

owned_at : (s : State) (bs : List Block) (i : ℕ) (b : Block) → AreOwned s bs → slice_get bs i ≡ Some b → IsOwned s b
owned_at s [] i b owned at = absurd (cc)
owned_at s (c ∷ cs) zero b owned at = subst (IsOwned s) (some_same c b at) owned.0
owned_at s (c ∷ cs) (suc i) b owned at = owned_at s cs i b owned.2 at

ready_at : (p : Properties) (objects : ℕ → Option Object) (bs : List Block) (i : ℕ) (b : Block) → AreReady p objects bs → slice_get bs i ≡ Some b → BlockAgrees b p objects
ready_at p objects [] i b ready at = absurd (cc)
ready_at p objects (c ∷ cs) zero b ready at = subst (λ x. BlockAgrees x p objects) (some_same c b at) ready.0
ready_at p objects (c ∷ cs) (suc i) b ready at = ready_at p objects cs i b ready.1 at

beside_at : (b : Block) (cs : List Block) (i : ℕ) (c : Block) → IsBeside b cs → slice_get cs i ≡ Some c → AreTwo b c
beside_at b [] i c beside at = absurd (cc)
beside_at b (d ∷ cs) zero c beside at = subst (AreTwo b) (some_same d c at) beside.0
beside_at b (d ∷ cs) (suc i) c beside at = beside_at b cs i c beside.1 at

two_at : (s : State) (bs : List Block) (i j : ℕ) (b c : Block) → AreOwned s bs → slice_get bs i ≡ Some b → slice_get bs j ≡ Some c → i ≢ j → AreTwo b c
two_at s [] i j b c owned at also differ = absurd (cc)
two_at s (d ∷ ds) zero zero b c owned at also differ = absurd (differ refl)
two_at s (d ∷ ds) zero (suc j) b c owned at also differ = subst (λ x. AreTwo x c) (some_same d b at) (beside_at d ds j c owned.1 also)
two_at s (d ∷ ds) (suc i) zero b c owned at also differ = subst (AreTwo b) (some_same d c also) (two_back d b (beside_at d ds i b owned.1 at))
two_at s (d ∷ ds) (suc i) (suc j) b c owned at also differ = two_at s ds i j b c owned.2 at also (λ same. differ (ap suc same))

pub told_by_place : ToldByPlace
told_by_place = record {
  owned_at = owned_at;
  ready_at = ready_at;
  two_at = two_at;
  kept = λ s p objects bs owned ready. record {
    owned = λ i b. owned_at s bs i b owned;
    ready = λ i b. ready_at p objects bs i b ready;
    two = λ i j b c. two_at s bs i j b c owned;
  };
}
