-- What a return, and a cleanup, make of the books.
use Rattle.std.proofs.Common.{◌≡◌, ◌≢◌, ℕ, Option, Some, sym, ◌∙◌, ap, subst, arith}
use Rattle.std.specs.FinMap as finite
use Rattle.std.specs.Ordering.{nat_cmp}
use Rattle.gpu_alloc_types.specs.Properties.{Properties}
use Rattle.gpu_alloc_types.specs.Device.{Object}
use Rattle.gpu_alloc.specs.Agreement.{Agrees, BlockAgrees, KeepsBlocks}
use Rattle.gpu_alloc.specs.Owned.{Leaves, LeavesNoRest, Removes}
use Rattle.gpu_alloc.specs.Sound as allocator
use Rattle.gpu_alloc.specs.State.{span_of, Block, HeldObject, Span, State, IsLive, IsOwned, ledger, total}
use Rattle.gpu_alloc_block.proofs.LiveSpans.{live_other}
use Rattle.gpu_alloc_base.proofs.Names.{here, wherever, removed-cases, get_removed-other}
use Rattle.gpu_session.specs.Offer.{IsOffer}
use Rattle.gpu_session.specs.Sound.{HoldsNothingAfter, IsBlock, IsSoundSession, IsSessionKept}
use Rattle.gpu_session.specs.declared.offer.Offer.{Offer}
use Rattle.gpu_session.proofs.Blocks.{live_block}

-- a block that stays owned agrees as before
pub kept_block : (s new : State) (p q : Properties) (before after : ℕ → Option Object) (c : Block) → KeepsBlocks s p before new q after → IsOwned s c → IsOwned new c → BlockAgrees c p before → BlockAgrees c q after
unfolding KeepsBlocks
kept_block s new p q before after c keeps owned still agrees = keeps c owned still agrees

-- The block of a name was given back, on a device whose objects are then these.
pub record Returns (s : State) (blocks : finite.FinMap nat_cmp Block) (name : ℕ) (b : Block) (new : State) (p : Properties) (before : ℕ → Option Object) (q : Properties) (after : ℕ → Option Object) : Type 0 where
  pub named : finite.get blocks name ≡ Some b
  pub removes : Removes s b new
  pub keeps : KeepsBlocks s p before new q after
  pub sound : allocator.IsSound new
  pub agrees : Agrees new q after

module _ {s : State} {blocks : finite.FinMap nat_cmp Block} {name : ℕ} {b : Block} {new : State} {p q : Properties} {before after : ℕ → Option Object}
    (r : Returns s blocks name b new p before q after) (sound : IsSoundSession p before (record { allocator = s; blocks = blocks })) where
  -- a block under another name is live as before
  block_still : (n : ℕ) (c : Block) → n ≢ name → finite.get blocks n ≡ Some c → IsBlock q new after c
  block_still n c ne at =
      let was = here (finite.get blocks n) (IsBlock p s before) (sound.blocks n) c at in
      let owned = r.removes.owned c was.owned (sound.apart n name c b ne at r.named).differ in
      live_block c q after (kept_block s new p q before after c r.keeps was.owned owned was.agrees) new r.sound owned

  pub return_is_sound : IsSoundSession q after (record { allocator = new; blocks = finite.remove blocks name })
  return_is_sound = record {
    agrees = r.agrees;
    allocator = r.sound;
    blocks = λ n. wherever (finite.get (finite.remove blocks name) n) (IsBlock q new after) (λ c at. let h = removed-cases blocks name n c at in block_still n c h.0 h.1);
    apart = λ n m c d ne at_n at_m. sound.apart n m c d ne (removed-cases blocks name n c at_n).1 (removed-cases blocks name m d at_m).1;
    named = λ span live.
        let l = live_other s.live (span_of b) span (rw (r.removes.live) at live) in
        let f = sound.named span l.1 in
        let ne : f.0 ≢ name = λ e.
        let at : finite.get blocks name ≡ Some f.1.0 = subst (λ n. finite.get blocks n ≡ Some f.1.0) e f.1.1 in
        let named = r.named in
        let same : f.1.0 ≡ b = cc in
        l.0 (sym f.1.2 ∙ ap span_of same) in
        (f.0, (f.1.0, get_removed-other blocks name f.0 ne ∙ f.1.1, f.1.2));
  }

  pub return_keeps_properties : q ≡ p
  return_keeps_properties = r.agrees.properties ∙ r.removes.properties ∙ sym sound.agrees.properties

-- What a session keeps, it keeps over a return.
pub return_is_kept : {A : Type 0} {s : State} {blocks : finite.FinMap nat_cmp Block} {name : ℕ} {b : Block} {new : State} {p q : Properties} {before after : ℕ → Option Object} {o : Offer A}
    → IsSessionKept p before (record { allocator = s; blocks = blocks }) o → Returns s blocks name b new p before q after
    → IsSessionKept q after (record { allocator = new; blocks = finite.remove blocks name }) o
return_is_kept {o = o} k r = record { sound = return_is_sound r k.sound; offer = subst (λ t. IsOffer t o) (sym (return_keeps_properties r k.sound)) k.offer }

-- Chunks without a live block went.
pub record Cleans (s new : State) (p : Properties) (before : ℕ → Option Object) (q : Properties) (after : ℕ → Option Object) : Type 0 where
  pub leaves : Leaves s new
  pub rest : LeavesNoRest s new
  pub keeps : KeepsBlocks s p before new q after
  pub sound : allocator.IsSound new
  pub agrees : Agrees new q after

module _ {s : State} {blocks : finite.FinMap nat_cmp Block} {new : State} {p q : Properties} {before after : ℕ → Option Object}
    (r : Cleans s new p before q after) (sound : IsSoundSession p before (record { allocator = s; blocks = blocks })) where
  cleanup_is_sound : IsSoundSession q after (record { allocator = new; blocks = blocks })
  cleanup_is_sound = record {
    agrees = r.agrees;
    allocator = r.sound;
    blocks = λ n. wherever (finite.get blocks n) (IsBlock q new after) (λ c at.
        let was = here (finite.get blocks n) (IsBlock p s before) (sound.blocks n) c at in
        let owned = r.leaves.owned c was.owned in
        live_block c q after (kept_block s new p q before after c r.keeps was.owned owned was.agrees) new r.sound owned);
    apart = sound.apart;
    named = λ span live. sound.named span (rw (r.rest.live) at live);
  }

-- What a session keeps, it keeps over a cleanup.
pub cleanup_is_kept : {A : Type 0} {s : State} {blocks : finite.FinMap nat_cmp Block} {new : State} {p q : Properties} {before after : ℕ → Option Object} {o : Offer A}
    → IsSessionKept p before (record { allocator = s; blocks = blocks }) o → Cleans s new p before q after
    → IsSessionKept q after (record { allocator = new; blocks = blocks }) o
cleanup_is_kept {o = o} k r = record {
  sound = cleanup_is_sound r k.sound;
  offer = subst (λ t. IsOffer t o) (sym (r.agrees.properties ∙ r.leaves.properties ∙ sym k.sound.agrees.properties)) k.offer;
}

-- with no block under any name, nothing is live
pub nothing_live : {p : Properties} {objects : ℕ → Option Object} {s : State} {blocks : finite.FinMap nat_cmp Block} → IsSoundSession p objects (record { allocator = s; blocks = blocks }) → blocks ≡ finite.empty → (span : Span) → IsLive s span → ⊥
nothing_live sound empty span live =
    let f = sound.named span live in
    let none = ap (λ (m : finite.FinMap nat_cmp Block). finite.get m f.0) empty ∙ finite.get-empty {X = Block} nat_cmp f.0 in
    let some = f.1.1 in
    absurd (cc)

-- where nothing is held, what remains is the total
pub nothing_held : (s new : State) → total new ≡ total s → new.held ≡ finite.empty → ((heap : ℕ) → ledger new heap ≡ 0) → HoldsNothingAfter s new
nothing_held s new same empty ledgers =
    let none : finite.len new.held ≡ 0 = ap (λ (m : finite.FinMap nat_cmp HeldObject). finite.len m) empty ∙ finite.len-empty nat_cmp HeldObject in
    record { held = empty; remaining = omega (arith, none, same); ledgers = ledgers }
