-- Which stores a memory type has, as what is held and owned says: those of its blocks' kind.
use Rattle.std.proofs.Common.{◌≡◌, ℕ, ◌<◌, true, false, List, length, get_or, Option, IfSome, refl, sym, ◌∙◌, ap, subst, arith}
use Rattle.std.proofs.lemmas.Option.{slice_get_read}
use Rattle.gpu_alloc_base.specs.declared.heap.Heap.{Heap}
use Rattle.gpu_alloc_block.specs.State.{Block, IsOwned}
use Rattle.gpu_alloc_block.specs.declared.block.Kind.{Kind}
use Rattle.gpu_alloc_block.specs.declared.block.Kind.TheVariants.{BuddyChunk, FitChunk}
use Rattle.gpu_alloc_buddy.specs.BuddyState.{Buddy}
use Rattle.gpu_alloc_fit.specs.Fit.{FitState}
use Rattle.gpu_alloc.specs.FreeBytes.{IsFreeByte}
use Rattle.gpu_alloc.specs.Inside.{properties_in, state_in}
use Rattle.gpu_alloc.specs.Own.{OwnTable}
use Rattle.gpu_alloc.specs.Sound.{is_chosen}
use Rattle.gpu_alloc.specs.Stores.{IsChosenFor, AreStoresFor}
use Rattle.gpu_alloc.specs.Whole.{IsKept, whole}
use Rattle.gpu_alloc.specs.declared.allocator.stores.Chosen.TheVariants.{Buddy as InBuddies, Fit as InFits}
use Rattle.gpu_alloc.specs.declared.allocator.stores.TypeStores.{TypeStores}
use Rattle.gpu_alloc.specs.declared.limits.Limits.{Limits}
use Rattle.gpu_alloc.proofs.Shared.Calls.{known_type}

module _ {M X : Type 0} (l : Limits X) {heaps : List Heap} {ss : List (TypeStores M X)} {own : OwnTable} {remaining : ℕ} (kept : IsKept l.sharing l.config (properties_in l heaps) heaps ss own remaining) where
  -- an owned block's kind is one that was chosen
  pub owned_chosen : {block : Block} → IsOwned (state_in l heaps ss (whole own ss) remaining) block → is_chosen l.sharing block.kind ≡ true
  owned_chosen owned = ap (is_chosen l.sharing) (sym owned.held.3) ∙ kept.chosen _ owned.held.0 owned.held.1

  -- and so is that of a chunk with a free byte
  pub free_chosen : {i object at : ℕ} {kind : Kind} → IsFreeByte (state_in l heaps ss (whole own ss) remaining) i kind object at → is_chosen l.sharing kind ≡ true
  free_chosen {object = object} free = ap (is_chosen l.sharing) (sym free.of_kind) ∙ kept.chosen object free.chunk free.held

  module _ {i : ℕ} {e : TypeStores M X} (known : i < length (properties_in l heaps).memory_types) (at : e ≡ get_or ss i e) where
    each_for : AreStoresFor l.config (properties_in l heaps) l.sharing i e
    each_for = subst (λ (o : Option (TypeStores M X)). IfSome o (AreStoresFor l.config (properties_in l heaps) l.sharing i)) (slice_get_read ss (length ss) i e refl (omega (arith, known, kept.shared.count)) at) (kept.shared.each i)

    -- so where a buddy chunk may be held it has no fits, and the other way round
    pub not_fits : {f : FitState} → e.chosen ≡ InFits f → is_chosen l.sharing BuddyChunk ≡ true → ⊥
    not_fits is chosen = let never : false ≡ true = ap (λ s. is_chosen s BuddyChunk) (sym (subst (IsChosenFor l.config (properties_in l heaps) l.sharing i) is each_for.chosen).0) ∙ chosen in cc

    pub not_buddies : {b : Buddy} → e.chosen ≡ InBuddies b → is_chosen l.sharing FitChunk ≡ true → ⊥
    not_buddies is chosen = let never : false ≡ true = ap (λ s. is_chosen s FitChunk) (sym (subst (IsChosenFor l.config (properties_in l heaps) l.sharing i) is each_for.chosen).0) ∙ chosen in cc

  -- and no owned block of the other kind is of such a memory type
  module _ {i : ℕ} {e : TypeStores M X} {block : Block} (at : e ≡ get_or ss i e) (typed : i ≡ block.memory_type) (owned : IsOwned (state_in l heaps ss (whole own ss) remaining) block) where
    pub no_fit : {f : FitState} → e.chosen ≡ InFits f → block.kind ≡ BuddyChunk → ⊥
    no_fit is kind = not_fits (known_type l kept owned typed) at is (ap (is_chosen l.sharing) (sym kind) ∙ owned_chosen owned)

    pub no_buddy : {b : Buddy} → e.chosen ≡ InBuddies b → block.kind ≡ FitChunk → ⊥
    no_buddy is kind = not_buddies (known_type l kept owned typed) at is (ap (is_chosen l.sharing) (sym kind) ∙ owned_chosen owned)
