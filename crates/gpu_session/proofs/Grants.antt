-- What a grant makes of the books.
use Rattle.std.proofs.Common.{◌≡◌, ◌≢◌, ◌⊎◌, inl, inr, ℕ, Option, Some, None, sym, ◌∙◌, subst}
use Rattle.std.specs.FinMap as finite
use Rattle.std.specs.Ordering.{nat_cmp}
use Rattle.gpu_alloc_types.specs.Properties.{Properties}
use Rattle.gpu_alloc_types.specs.Device.{Object}
use Rattle.gpu_alloc.specs.Agreement.{Agrees, BlockAgrees}
use Rattle.gpu_alloc.specs.Owned.{Adds, Leaves, AreTwo}
use Rattle.gpu_alloc.specs.Sound as allocator
use Rattle.gpu_alloc.specs.State.{Span, span_of, Block, State, IsLive, IsOwned}
use Rattle.gpu_alloc_block.proofs.LiveSpans.{live_before}
use Rattle.gpu_alloc_base.proofs.Names.{here, wherever, put-cases, get_put, get_put-other}
use Rattle.gpu_session.specs.Offer.{IsOffer}
use Rattle.gpu_session.specs.Sound.{IsBlock, IsSoundSession, IsSessionKept}
use Rattle.gpu_session.specs.declared.offer.Offer.{Offer}
use Rattle.gpu_session.proofs.Blocks.{live_block}

-- A block was granted under a name that had none, on a device whose objects are then these.
pub record Grants (s : State) (blocks : finite.FinMap nat_cmp Block) (name : ℕ) (b : Block) (new : State) (p : Properties) (before : ℕ → Option Object) (q : Properties) (after : ℕ → Option Object) : Type 0 where
  pub free : finite.get blocks name ≡ None
  pub adds : Adds s new b
  pub leaves : Leaves s new
  pub owned : IsOwned new b
  pub ready : BlockAgrees b q after
  pub keeps : (c : Block) → IsOwned s c → BlockAgrees c p before → BlockAgrees c q after
  pub sound : allocator.IsSound new
  pub agrees : Agrees new q after

module _ {s : State} {blocks : finite.FinMap nat_cmp Block} {name : ℕ} {b : Block} {new : State} {p q : Properties} {before after : ℕ → Option Object}
    (g : Grants s blocks name b new p before q after) (sound : IsSoundSession p before (record { allocator = s; blocks = blocks })) where
  block_before : (n : ℕ) (c : Block) → finite.get blocks n ≡ Some c → IsBlock p s before c
  block_before n c at = here (finite.get blocks n) (IsBlock p s before) (sound.blocks n) c at

  live_cases : (span : Span) → IsLive new span → (span ≡ span_of b) ⊎ IsLive s span
  live_cases span live = live_before s.live (span_of b) span (rw (g.adds.live) at live)

  block_after : (n : ℕ) (c : Block) → finite.get (finite.insert blocks name b) n ≡ Some c → IsBlock q new after c
  block_after n c at = elim (put-cases blocks name b n c at) [
    | inl e ↦ subst (IsBlock q new after) (sym e.1) (live_block b q after g.ready new g.sound g.owned)
    | inr h ↦
        let was = block_before n c h.1 in
        live_block c q after (g.keeps c was.owned was.agrees) new g.sound (g.leaves.owned c was.owned)
  ]

  pub grant_is_sound : IsSoundSession q after (record { allocator = new; blocks = finite.insert blocks name b })
  grant_is_sound = record {
    agrees = g.agrees;
    allocator = g.sound;
    blocks = λ n. wherever (finite.get (finite.insert blocks name b) n) (IsBlock q new after) (block_after n);
    apart = λ n m c d ne at_n at_m. elim (put-cases blocks name b n c at_n) [
      | inl e ↦ elim (put-cases blocks name b m d at_m) [
        | inl f ↦ absurd (ne (e.0 ∙ sym f.0))
        | inr f ↦ subst (λ (x : Block). AreTwo x d) (sym e.1) (g.adds.after d (block_before m d f.1).owned)
      ]
      | inr e ↦ elim (put-cases blocks name b m d at_m) [
        | inl f ↦ subst (λ (x : Block). AreTwo c x) (sym f.1) (g.adds.before c (block_before n c e.1).owned)
        | inr f ↦ sound.apart n m c d ne e.1 f.1
      ]
    ];
    named = λ span live. elim (live_cases span live) [
      | inl e ↦ (name, (b, get_put blocks name b, sym e))
      | inr l ↦
          let f = sound.named span l in
          let ne : f.0 ≢ name = λ e. let had : finite.get blocks name ≡ Some f.1.0 = subst (λ n. finite.get blocks n ≡ Some f.1.0) e f.1.1 in let none = g.free in cc in
          (f.0, (f.1.0, get_put-other blocks name b f.0 ne ∙ f.1.1, f.1.2))
    ];
  }

  grant_keeps_properties : q ≡ p
  grant_keeps_properties = g.agrees.properties ∙ g.leaves.properties ∙ sym sound.agrees.properties

-- What a session keeps, it keeps over a grant.
pub grant_is_kept : {A : Type 0} {s : State} {blocks : finite.FinMap nat_cmp Block} {name : ℕ} {b : Block} {new : State} {p q : Properties} {before after : ℕ → Option Object} {o : Offer A}
    → IsSessionKept p before (record { allocator = s; blocks = blocks }) o → Grants s blocks name b new p before q after
    → IsSessionKept q after (record { allocator = new; blocks = finite.insert blocks name b }) o
grant_is_kept {o = o} k g = record { sound = grant_is_sound g k.sound; offer = subst (λ r. IsOffer r o) (sym (grant_keeps_properties g k.sound)) k.offer }
