-- An allocator at last: where no object is held, no store has a chunk.
use Rattle.std.proofs.Common.{◌≡◌, ℕ, List, [], ◌∷◌, ◌++◌, length, get_or, Option, Some, None, IfSome, refl, ◌∙◌, ap, subst, cond, arith, length-append}
use Rattle.std.proofs.lemmas.List.{get_or_append_left}
use Rattle.std.proofs.lemmas.Option.{slice_get-get_or}
use Rattle.std.proofs.Math.Seq.{get_or-append_seam}
use Rattle.std.specs.FinMap as finite
use Rattle.std.specs.List.{slice_get, All}
use Rattle.std.specs.Ordering.{nat_cmp}
use Rattle.gpu_alloc_buddy.specs.BuddyState.{Buddy}
use Rattle.gpu_alloc_base.specs.Chunks.{Chunk}
use Rattle.gpu_alloc_freelist.specs.FreeListState.{FreeListState}
use Rattle.gpu_alloc.proofs.Linked.{HasStores, IsChosenOf}
use Rattle.gpu_alloc.specs.Opening.{AreFirst, IsFirstStore}
use Rattle.gpu_alloc.specs.Stores.{ChosenHasNoChunk, HaveNoChunk}
use Rattle.gpu_alloc.specs.declared.allocator.stores.Chosen.{Chosen}
use Rattle.gpu_alloc.specs.declared.allocator.stores.Chosen.TheVariants.{Buddy as InBuddies, Fit as InFits}
use Rattle.gpu_alloc.specs.declared.allocator.stores.TypeStores.{TypeStores}
use Rattle.gpu_alloc_block.specs.declared.sharing.Sharing.{Sharing}
use Rattle.gpu_alloc.specs.Spans.{Table}
use Rattle.gpu_alloc_block.specs.State.{HeldObject}
use Rattle.gpu_alloc_base.specs.declared.config.Config.{Config}
use Rattle.gpu_alloc_types.specs.Properties.{Properties}
use Rattle.gpu_alloc.proofs.Ledgers.{Held}
use Rattle.gpu_alloc_base.proofs.Maps.{name_test, eq-true}
use Rattle.gpu_alloc_fit.specs.Fit.{FitState}

-- Maps.

module _ {X : Type 0} where
  nothing_there : (es : List (ℕ × X)) → ((k : ℕ) (x : X) → finite.find nat_cmp k es ≡ Some x → ⊥) → length es ≡ 0
  nothing_there [] none = refl
  nothing_there (e ∷ es) none = absurd (none e.0 e.1 (ap (λ b. cond b (Some e.1) (finite.find nat_cmp e.0 es)) (name_test e.0 e.0 ∙ eq-true e.0 e.0 refl)))

  -- a map without a key is empty
  pub empty_without_key : (m : finite.FinMap nat_cmp X) → ((k : ℕ) (x : X) → finite.get m k ≡ Some x → ⊥) → finite.len m ≡ 0
  empty_without_key m none = finite.len-entries m ∙ nothing_there (finite.entries m) (λ k x is. none k x (finite.get-entries m k ∙ is))

-- Lists.

module _ {X : Type 0} (P : X → Type 0) where
  -- what holds of the element at each index holds of each element
  all_of_each : (xs : List X) (Q : ℕ → X → Type 0) → ((i : ℕ) (x : X) → Q i x → P x) → ((i : ℕ) → IfSome (slice_get xs i) (Q i)) → All P xs
  all_of_each xs Q so each k d inside = so k (get_or xs k d) (subst (λ (o : Option X). IfSome o (Q k)) (slice_get-get_or xs k d inside) (each k))

  -- one is taken off the end
  pub all_before : (xs : List X) (x : X) → All P (xs ++ x ∷ []) → All P xs
  all_before xs x all k d inside = subst P (get_or_append_left xs (x ∷ []) d k inside) (all k d (omega (arith, length-append xs (x ∷ []), inside)))

  pub all_last : (xs : List X) (x : X) → All P (xs ++ x ∷ []) → P x
  all_last xs x all = subst P (get_or-append_seam xs x [] x) (all (length xs) x (omega (arith, length-append xs (x ∷ []))))

-- Stores.

-- first ones hold no chunk
module _ {M X : Type 0} (sharing : Sharing) (c : Config) (p : Properties) where
  first_chosen_empty : (t : ℕ) (x : Chosen M X) → IsFirstStore sharing c p t x → ChosenHasNoChunk x
  first_chosen_empty t (InBuddies b) is = ap (λ (x : Buddy). finite.len x.chunks) is.1.0 ∙ finite.len-empty nat_cmp Chunk
  first_chosen_empty t (InFits f) is = ap (λ (x : FitState). finite.len x.space.chunks) is.1.0 ∙ finite.len-empty nat_cmp Chunk

  pub first_empty : (ss : List (TypeStores M X)) → AreFirst sharing c p ss → All HaveNoChunk ss
  first_empty ss are = all_of_each HaveNoChunk ss _ (λ i e is. (first_chosen_empty i e.chosen is.0, ap (λ (x : FreeListState). finite.len x.space.chunks) is.1.0 ∙ finite.len-empty nat_cmp Chunk)) are

module _ (t : Table) (none : finite.len t.held ≡ 0) where
  unheld : (object : ℕ) (h : HeldObject) → finite.get t.held object ≡ Some h → ⊥
  unheld object h held =
      let nothing : finite.get t.held object ≡ None = ap (λ (m : Held). finite.get m object) (finite.empty_of_len t.held none) ∙ finite.get-empty nat_cmp object in
      cc

module _ {M X : Type 0} (sharing : Sharing) (c : Config) (p : Properties) (t : Table) (none : finite.len t.held ≡ 0) where
  chosen_empty : (i : ℕ) (x : Chosen M X) → IsChosenOf c p t sharing i x → ChosenHasNoChunk x
  chosen_empty i (InBuddies b) is = empty_without_key b.chunks (λ key chunk found. unheld t none chunk.object _ (is.1.linked.chunks key chunk found))
  chosen_empty i (InFits f) is = empty_without_key f.space.chunks (λ key chunk found. unheld t none chunk.object _ (is.1.linked.chunks key chunk found))

  pub all_empty : (ss : List (TypeStores M X)) → HasStores c p t sharing ss → All HaveNoChunk ss
  all_empty ss has = all_of_each HaveNoChunk ss _ (λ i e is. (chosen_empty i e.chosen is.chosen, empty_without_key e.free_list.space.chunks (λ number chunk found. unheld t none chunk.object _ (is.free_list.linked.chunks number chunk found)))) has.each
