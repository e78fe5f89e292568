-- What a call of a block, or on its bytes, makes of the books.
use Rattle.std.proofs.Common.{◌≡◌, inl, inr, ℕ, Option, Some, sym, ◌∙◌, ap, subst}
use Rattle.std.specs.FinMap as finite
use Rattle.std.specs.Ordering.{nat_cmp}
use Rattle.gpu_alloc_types.specs.Properties.{Properties}
use Rattle.gpu_alloc_types.specs.Device.{Object}
use Rattle.gpu_alloc.specs.Agreement.{Agrees, BlockAgrees, KeepsAgreement}
use Rattle.gpu_alloc.specs.Owned.{AreTwo, IsSameBlock}
use Rattle.gpu_alloc.specs.State.{span_of, Block, State, IsOwned}
use Rattle.gpu_alloc_base.proofs.Names.{here, wherever, put-cases, get_put, get_put-other, one_or_two}
use Rattle.gpu_session.specs.Offer.{IsOffer}
use Rattle.gpu_session.specs.Sound.{IsBlock, IsSoundSession, IsSessionKept}
use Rattle.gpu_session.specs.declared.offer.Offer.{Offer}
use Rattle.gpu_session.proofs.Blocks.{live_block}

-- A call of the block of a name left the block like this, on a device whose objects are then these.
pub record Moves (blocks : finite.FinMap nat_cmp Block) (name : ℕ) (b now : Block) (p : Properties) (before : ℕ → Option Object) (q : Properties) (after : ℕ → Option Object) : Type 0 where
  pub named : finite.get blocks name ≡ Some b
  pub same : IsSameBlock b now
  pub ready : BlockAgrees now q after
  pub keeps : KeepsAgreement b p before q after
  pub properties : q ≡ p

module _ {s : State} {blocks : finite.FinMap nat_cmp Block} {name : ℕ} {b now : Block} {p q : Properties} {before after : ℕ → Option Object}
    (m : Moves blocks name b now p before q after) (sound : IsSoundSession p before (record { allocator = s; blocks = blocks })) where
  block_before : (n : ℕ) (c : Block) → finite.get blocks n ≡ Some c → IsBlock p s before c
  block_before n c at = here (finite.get blocks n) (IsBlock p s before) (sound.blocks n) c at

  same_span : span_of now ≡ span_of b
  same_span = ap span_of m.same.same

  block_after : (n : ℕ) (c : Block) → finite.get (finite.insert blocks name now) n ≡ Some c → IsBlock q s after c
  block_after n c at = elim (put-cases blocks name now n c at) [
    | inl e ↦ subst (IsBlock q s after) (sym e.1) (live_block now q after m.ready s sound.allocator (m.same.owned s (block_before name b m.named).owned))
    | inr h ↦
        let was = block_before n c h.1 in
        let two = sound.apart name n b c (λ e. h.0 (sym e)) m.named h.1 in
        live_block c q after (m.keeps.two c two was.agrees) s sound.allocator was.owned
  ]

  pub move_is_sound : IsSoundSession q after (record { allocator = s; blocks = finite.insert blocks name now })
  move_is_sound = record {
    agrees = m.keeps.owner s (block_before name b m.named).owned sound.agrees;
    allocator = sound.allocator;
    blocks = λ n. wherever (finite.get (finite.insert blocks name now) n) (IsBlock q s after) (block_after n);
    apart = λ n k c d ne at_n at_k. elim (put-cases blocks name now n c at_n) [
      | inl e ↦ elim (put-cases blocks name now k d at_k) [
        | inl f ↦ absurd (ne (e.0 ∙ sym f.0))
        | inr f ↦ subst (λ (x : Block). AreTwo x d) (sym e.1) (m.same.two d (sound.apart name k b d (λ i. f.0 (sym i)) m.named f.1))
      ]
      | inr e ↦ elim (put-cases blocks name now k d at_k) [
        | inl f ↦ subst (λ (x : Block). AreTwo c x) (sym f.1) (m.same.two_back c (sound.apart n name c b e.0 e.1 m.named))
        | inr f ↦ sound.apart n k c d ne e.1 f.1
      ]
    ];
    named = λ span live.
        let f = sound.named span live in
        elim (one_or_two f.0 name) [
          | inl is ↦
              let at : finite.get blocks name ≡ Some f.1.0 = subst (λ n. finite.get blocks n ≡ Some f.1.0) is f.1.1 in
              let named = m.named in
              let one : f.1.0 ≡ b = cc in
              (name, (now, get_put blocks name now, same_span ∙ ap span_of (sym one) ∙ f.1.2))
          | inr other ↦ (f.0, (f.1.0, get_put-other blocks name now f.0 other ∙ f.1.1, f.1.2))
        ];
  }

-- What a session keeps, it keeps over such a call.
pub move_is_kept : {A : Type 0} {s : State} {blocks : finite.FinMap nat_cmp Block} {name : ℕ} {b now : Block} {p q : Properties} {before after : ℕ → Option Object} {o : Offer A}
    → IsSessionKept p before (record { allocator = s; blocks = blocks }) o → Moves blocks name b now p before q after
    → IsSessionKept q after (record { allocator = s; blocks = finite.insert blocks name now }) o
move_is_kept {o = o} k m = record { sound = move_is_sound m k.sound; offer = subst (λ t. IsOffer t o) (sym m.properties) k.offer }

-- The device was called beside the allocator's and the blocks' calls, and all agree with it as before.
pub record Agreed (s : State) (p : Properties) (before : ℕ → Option Object) (q : Properties) (after : ℕ → Option Object) : Type 0 where
  pub allocator : Agrees s p before → Agrees s q after
  pub blocks : (c : Block) → IsOwned s c → BlockAgrees c p before → BlockAgrees c q after

-- What a session keeps, it keeps over such a call.
pub agreed_is_kept : {A : Type 0} {s : State} {blocks : finite.FinMap nat_cmp Block} {p q : Properties} {before after : ℕ → Option Object} {o : Offer A}
    → IsSessionKept p before (record { allocator = s; blocks = blocks }) o → Agreed s p before q after → IsSessionKept q after (record { allocator = s; blocks = blocks }) o
agreed_is_kept {s = s} {blocks = blocks} {p = p} {q = q} {before = before} {after = after} {o = o} k agreed =
    let sound = k.sound in
    let agrees = agreed.allocator sound.agrees in
    record {
      sound = record {
        agrees = agrees;
        allocator = sound.allocator;
        blocks = λ n. wherever (finite.get blocks n) (IsBlock q s after) (λ c at.
            let was = here (finite.get blocks n) (IsBlock p s before) (sound.blocks n) c at in
            live_block c q after (agreed.blocks c was.owned was.agrees) s sound.allocator was.owned);
        apart = sound.apart;
        named = sound.named;
      };
      offer = subst (λ t. IsOffer t o) (sym (agrees.properties ∙ sym sound.agrees.properties)) k.offer;
    }
