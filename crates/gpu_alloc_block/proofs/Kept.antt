-- What a call of a block leaves of the blocks in hand.
use Rattle.std.proofs.Common.{◌≡◌, ◌≢◌, inl, inr, ℕ, ◌+◌, ◌<◌, ◌≤◌, List, [], ◌∷◌, ◌++◌, Option, Some, None, cond, is_some, refl, sym, ◌∙◌, ap, subst, arith}
use Rattle.std.specs.FinMap as map
use Rattle.gpu_alloc_base.proofs.Names.{one_or_two}
use Rattle.gpu_alloc_types.specs.Device.{Object, Changes}
use Rattle.gpu_alloc_types.specs.Objects.{put-other}
use Rattle.gpu_alloc_types.specs.Properties.{Properties}
use Rattle.gpu_alloc_block.proofs.Between.{agrees_with_other_bytes, keeps_remapped, keeps_with_other_bytes, mapped_so, unmapped_so}
use Rattle.gpu_alloc_block.proofs.Changes.{some_same}
use Rattle.gpu_alloc_block.proofs.Contents.{closed_leaves, opened_leaves, same_objects}
use Rattle.gpu_alloc_block.proofs.Keeping.{IsRemapped, agrees_remapped, same_block}
use Rattle.gpu_alloc_block.proofs.Opened.{able_seen}
use Rattle.gpu_alloc_block.specs.Agreement.{BlockAgrees, IsOfBlock, KeepsAgreement}
use Rattle.gpu_alloc_block.specs.Bytes.{HasOnlyOtherBytes}
use Rattle.gpu_alloc_block.specs.Contents.{HasSameBytes}
use Rattle.gpu_alloc_block.specs.InHand.{AreOwned, AreTwo, IsBeside, IsSameBlock}
use Rattle.gpu_alloc_block.specs.Kept.{AreKept, AreReady, ChangesKey, IsSameOutside, KeepsInHand, outside}
use Rattle.gpu_alloc_block.specs.Mapped.{IsClosed, IsOpened, mapping_of, refusal}
use Rattle.gpu_alloc_block.specs.Ranges.{rounded_range}
use Rattle.gpu_alloc_block.specs.State.{AreSpansApart, Block, IsOwned, Span, State, span_of, is_shared}
use Rattle.gpu_alloc_block.specs.declared.block.Mapping.{Mapping}

-- Two blocks, the other way round.

apart_back : (a b : Span) → AreSpansApart a b → AreSpansApart b a
apart_back a b apart = elim apart [
  | inl ne ↦ inl (λ same. ne (sym same))
  | inr sides ↦ elim sides [ inl before ↦ inr (inr before) | inr after ↦ inr (inl after) ]
]

pub two_back : (b c : Block) → AreTwo b c → AreTwo c b
two_back b c two = record {
  apart = apart_back (span_of b) (span_of c) two.apart;
  differ = λ same. two.differ (sym same);
  objects = record {
    first = λ own same. two.objects.second own (sym same);
    second = λ own same. two.objects.first own (sym same);
  };
}

-- A change of the object of an owned block changes nothing outside the allocator's objects.

held_outside : (s : State) (f : ℕ → Option Object) (b : Block) → IsOwned s b → outside s f b.object ≡ None
unfolding outside
held_outside s f b owned = ap (λ h. cond (is_some h) None (f b.object)) owned.held.1

pub same_outside : (P : Object → Object → Type 0) (f g : ℕ → Option Object) (b : Block) → Changes P f b.object g → (s : State) → IsOwned s b → IsSameOutside s f s g
unfolding outside
same_outside P f g b c s owned name = elim (one_or_two name b.object) [
  | inl same ↦ subst (λ n. outside s g n ≡ outside s f n) (sym same) (held_outside s g b owned ∙ sym (held_outside s f b owned))
  | inr other ↦
      ap (λ o. cond (is_some (map.get s.held name)) None o) (ap (λ (h : ℕ → Option Object). h name) c.2.2 ∙ put-other f b.object (Some c.2.0) name other)
]

-- A call of a block.
module _ (b now : Block) (p q : Properties) (f g : ℕ → Option Object) (keeps : KeepsAgreement b p f q g) (block : IsSameBlock b now) (agrees : BlockAgrees now q g) where
  -- Of a list.

  behind : (ds : List Block) → IsBeside b ds → AreReady p f ds → AreReady q g ds
  behind [] beside ready = tt
  behind (d ∷ ds) beside ready = (keeps.two d beside.0 ready.0, behind ds beside.1 ready.1)

  beside_at : (c : Block) (cs ds : List Block) → IsBeside c (cs ++ b ∷ ds) → AreTwo c b
  beside_at c [] ds beside = beside.0
  beside_at c (d ∷ cs) ds beside = beside_at c cs ds beside.1

  ready_still : (s : State) (cs ds : List Block) → AreOwned s (cs ++ b ∷ ds) → AreReady p f (cs ++ b ∷ ds) → AreReady q g (cs ++ now ∷ ds)
  ready_still s [] ds owned ready = (agrees, behind ds owned.1 ready.1)
  ready_still s (c ∷ cs) ds owned ready =
      (keeps.two_back c (beside_at c cs ds owned.1) ready.0, ready_still s cs ds owned.2 ready.1)

  -- Under keys.
  module _ (s : State) (at at_new : ℕ → Option Block) (key : ℕ) (kept : AreKept s p f at) (there : at key ≡ Some b) (changes : ChangesKey at at_new key (Some now)) where
    is_now : (k : ℕ) (c : Block) → k ≡ key → at_new k ≡ Some c → now ≡ c
    is_now k c same is = some_same now c (sym changes.changed ∙ ap at_new (sym same) ∙ is)

    as_before : (k : ℕ) (c : Block) → k ≢ key → at_new k ≡ Some c → at k ≡ Some c
    as_before k c other is = sym (changes.others k other) ∙ is

    owned_still : (k : ℕ) (c : Block) → at_new k ≡ Some c → IsOwned s c
    owned_still k c is = elim (one_or_two k key) [
      | inl same ↦ subst (IsOwned s) (is_now k c same is) (block.owned s (kept.owned key b there))
      | inr other ↦ kept.owned k c (as_before k c other is)
    ]

    ready_under : (k : ℕ) (c : Block) → at_new k ≡ Some c → BlockAgrees c q g
    ready_under k c is = elim (one_or_two k key) [
      | inl same ↦ subst (λ x. BlockAgrees x q g) (is_now k c same is) agrees
      | inr other ↦
          let before = as_before k c other is in
          keeps.two c (kept.two key k b c there before (λ same. other (sym same))) (kept.ready k c before)
    ]

    two_still : (j k : ℕ) (c d : Block) → at_new j ≡ Some c → at_new k ≡ Some d → j ≢ k → AreTwo c d
    two_still j k c d first second differ = elim (one_or_two j key) [
      | inl is ↦
          let another : k ≢ key = λ same. differ (is ∙ sym same) in
          subst (λ x. AreTwo x d) (is_now j c is first)
          (block.two d (kept.two key k b d there (as_before k d another second) (λ same. another (sym same))))
      | inr another ↦ elim (one_or_two k key) [
        | inl is ↦ subst (AreTwo c) (is_now k d is second) (block.two_back c (kept.two j key c b (as_before j c another first) there another))
        | inr other ↦ kept.two j k c d (as_before j c another first) (as_before k d other second) differ
      ]
    ]

    kept_still : AreKept s q g at_new
    kept_still = record { owned = owned_still; ready = ready_under; two = two_still }

  pub keeps_in_hand : ((c : Block) → AreTwo b c → HasSameBytes c f g) → ((s : State) → IsOwned s b → IsSameOutside s f s g) → KeepsInHand b p f now q g
  keeps_in_hand bytes beside = record {
    bytes = bytes;
    bytes_back = λ c two. bytes c (two_back c b two);
    outside = beside;
    ready = ready_still;
    kept = kept_still;
  }

-- A call that moves bytes alone, and leaves those of other blocks.
module _ (b : Block) (p q : Properties) (f g : ℕ → Option Object) (P : Object → Object → Type 0) (only : (o new : Object) → P o new → HasOnlyOtherBytes o new) (same : q ≡ p) (c : Changes P f b.object g) (agrees : BlockAgrees b p f) where
  pub agrees_moving : BlockAgrees b q g
  unfolding BlockAgrees
  agrees_moving = agrees_with_other_bytes b p q f g P only same c agrees

  pub moving_in_hand : ((d : Block) → AreTwo b d → HasSameBytes d f g) → KeepsInHand b p f b q g
  moving_in_hand bytes =
      keeps_in_hand b b p q f g (keeps_with_other_bytes b p q f g P only same c) (same_block b b.mapping) agrees_moving bytes
      (same_outside P f g b c)

-- A call that maps a block, or ends that: no byte moves.

-- a call that changes nothing
pub nothing_in_hand : (b : Block) (p q : Properties) (f g : ℕ → Option Object) → q ≡ p → g ≡ f → BlockAgrees b p f → KeepsInHand b p f b q g
nothing_in_hand b p q f g as_before same agrees =
    rw (as_before, same) (keeps_in_hand b b p p f f nothing (same_block b b.mapping) agrees (λ c _. same_objects c f f refl) (λ s _ name. refl))
  where
    nothing : KeepsAgreement b p f p f
    nothing = record {
      owner = λ s owned agreed. agreed;
      stranger = λ s none agreed. agreed;
      others = λ c other agreed. agreed;
      two = λ c two agreed. agreed;
      two_back = λ c two agreed. agreed;
      shared_owner = λ s shared agreed. agreed;
      shared_others = λ c shared agreed. agreed;
    }

-- the block has another mapping now, or none
remapped_in_hand : (b : Block) (m : Option Mapping) (p q : Properties) (f g : ℕ → Option Object) → q ≡ p → Changes (IsRemapped b m) f b.object g → BlockAgrees (record b { mapping = m }) q g → ((c : Block) → HasSameBytes c f g) → KeepsInHand b p f (record b { mapping = m }) q g
remapped_in_hand b m p q f g same c agrees bytes =
    keeps_in_hand b (record b { mapping = m }) p q f g (keeps_remapped b p q f g m same c) (same_block b m) agrees (λ d _. bytes d)
    (same_outside (IsRemapped b m) f g b c)

module _ (b : Block) (p q : Properties) (f g : ℕ → Option Object) (same : q ≡ p) (agrees : BlockAgrees b p f) where
  -- Some bytes of the block are mapped now.
  module _ (offset len : ℕ) (opened : IsOpened (is_shared b.kind) (rounded_range b offset len) f g) where
    now_mapped : Changes (IsRemapped b (Some (mapping_of b offset len))) f b.object g
    unfolding BlockAgrees
    now_mapped = mapped_so p b f g agrees offset len opened

    pub mapped_keeps : KeepsAgreement b p f q g
    mapped_keeps = keeps_remapped b p q f g (Some (mapping_of b offset len)) same now_mapped

    module _ (able : refusal b ≡ None) (nonempty : 0 < len) (inside : offset + len ≤ b.size) where
      pub mapped_agrees : BlockAgrees (record b { mapping = Some (mapping_of b offset len) }) q g
      unfolding BlockAgrees
      mapped_agrees =
          let within : IsOfBlock b (mapping_of b offset len) = record { nonempty = nonempty; from = omega arith; to = omega (arith, inside) } in
          agrees_remapped b (Some (mapping_of b offset len)) p q f g same within (λ some. able_seen b able) now_mapped agrees

      pub mapped_in_hand : KeepsInHand b p f (record b { mapping = Some (mapping_of b offset len) }) q g
      mapped_in_hand =
          remapped_in_hand b (Some (mapping_of b offset len)) p q f g same now_mapped mapped_agrees (λ d. opened_leaves (is_shared b.kind) (rounded_range b offset len) f g b d refl opened)

  -- It is unmapped now.
  module _ (closed : IsClosed (is_shared b.kind) b.object f g) where
    now_unmapped : Changes (IsRemapped b None) f b.object g
    unfolding BlockAgrees
    now_unmapped = unmapped_so p b f g agrees closed

    pub unmapped_keeps : KeepsAgreement b p f q g
    unmapped_keeps = keeps_remapped b p q f g None same now_unmapped

    pub unmapped_agrees : BlockAgrees (record b { mapping = None }) q g
    unfolding BlockAgrees
    unmapped_agrees = agrees_remapped b None p q f g same tt (λ some. absurd (cc)) now_unmapped agrees

    pub unmapped_in_hand : KeepsInHand b p f (record b { mapping = None }) q g
    unmapped_in_hand = remapped_in_hand b None p q f g same now_unmapped unmapped_agrees (λ d. closed_leaves (is_shared b.kind) f g b d closed)
