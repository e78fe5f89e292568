-- What an allocator's fields keep, as each memory type's stores see it: each has the same chunks and blocks as the whole.
use Rattle.std.proofs.Common.{◌≡◌, ℕ, List, length, IfSome, Option, Some, None, slice_get, refl, sym, ap, subst}
use Rattle.gpu_alloc_types.specs.Properties.{Properties}
use Rattle.gpu_alloc_base.specs.declared.config.Config.{Config}
use Rattle.gpu_alloc_base.specs.declared.heap.Heap.{Heap}
use Rattle.gpu_alloc_buddy.specs.BuddySound.{IsSoundBuddy}
use Rattle.gpu_alloc_buddy.specs.BuddyState.{Buddy}
use Rattle.gpu_alloc_freelist.specs.FreeListSound as list
use Rattle.gpu_alloc_freelist.specs.FreeListState.{FreeListState}
use Rattle.gpu_alloc.specs.Inside.{IsBooked, IsChosen}
use Rattle.gpu_alloc.specs.StoresFor.{HasFitSizes, IsFitForType, IsForType, IsListForType}
use Rattle.gpu_alloc.specs.Own.{OwnTable}
use Rattle.gpu_alloc.specs.Whole.{whole, IsKept}
use Rattle.gpu_alloc.proofs.Buddies.Named.{buddy_in, buddy_is_named, buddy_named}
use Rattle.gpu_alloc.proofs.Fits.Named.{fit_in, fit_is_named, fit_named}
use Rattle.gpu_alloc.proofs.FreeLists.Named.{list_is_named, list_named}
use Rattle.gpu_alloc.proofs.Shared.Stores.{IsLinked, IsNamed, Named, linked, plain_of}
use Rattle.gpu_alloc_shared.specs.Rule.{Rule}
use Rattle.gpu_alloc.proofs.Wholes.{read_is, within}
use Rattle.gpu_alloc.specs.Spans.{Table}
use Rattle.gpu_alloc.specs.Stores.{IsChosenFor, AreStoresFor}
use Rattle.gpu_alloc_block.specs.declared.sharing.Sharing.TheVariants.{Buddy as BuddyChosen, Fit as FitChosen}
use Rattle.gpu_alloc.specs.declared.allocator.stores.Chosen.{Chosen}
use Rattle.gpu_alloc.specs.declared.allocator.stores.Chosen.TheVariants.{Buddy as InBuddies, Fit as InFits}
use Rattle.gpu_alloc_fit.specs.Fit.{FitState}
use Rattle.gpu_alloc_fit.specs.FitSound as fit
use Rattle.gpu_alloc_block.specs.declared.sharing.Sharing.{Sharing}
pub use Rattle.gpu_alloc.proofs.Consistency.{chosen_less, chosen_more, chosen_same}
use Rattle.gpu_alloc.specs.declared.allocator.stores.TypeStores.{TypeStores}

pub record IsBuddyOf (c : Config) (p : Properties) (t : Table) (index : ℕ) (b : Buddy) : Type 0 where
  pub for_type : IsForType c p index b
  pub sound : IsSoundBuddy b
  pub linked : IsLinked buddy_named t b

pub record IsListOf (c : Config) (p : Properties) (t : Table) (index : ℕ) (l : FreeListState) : Type 0 where
  pub for_type : IsListForType c p index l
  pub sound : list.IsSoundFreeList l
  pub linked : IsLinked list_named t l

pub record IsFitOf (c : Config) (p : Properties) (t : Table) (index : ℕ) (f : FitState) : Type 0 where
  pub for_type : IsFitForType c p index f
  pub sized : HasFitSizes c p index f
  pub sound : fit.IsSoundFit f
  pub linked : IsLinked fit_named t f

module _ {M X : Type 0} where
  abbrev pub IsChosenOf : Config → Properties → Table → Sharing → ℕ → Chosen M X → Type 0
  IsChosenOf c p t sharing index (InBuddies b) = (sharing ≡ BuddyChosen) × IsBuddyOf c p t index b
  IsChosenOf c p t sharing index (InFits f) = (sharing ≡ FitChosen) × IsFitOf c p t index f

  pub record IsEachOf (c : Config) (p : Properties) (t : Table) (sharing : Sharing) (index : ℕ) (e : TypeStores M X) : Type 0 where
    pub chosen : IsChosenOf c p t sharing index e.chosen
    pub free_list : IsListOf c p t index e.free_list

  pub record HasStores (c : Config) (p : Properties) (t : Table) (sharing : Sharing) (ss : List (TypeStores M X)) : Type 0 where
    pub count : length ss ≡ length p.memory_types
    pub each : (index : ℕ) → IfSome (slice_get ss index) (IsEachOf c p t sharing index)

  pub record IsConsistent (sharing : Sharing) (c : Config) (p : Properties) (heaps : List Heap) (ss : List (TypeStores M X)) (t : Table) (remaining : ℕ) : Type 0 where
    pub books : IsBooked p heaps t remaining
    pub shared : HasStores c p t sharing ss
    pub chosen : IsChosen sharing t

-- They follow from what the parts hold.

module _ {M X : Type 0} (sharing : Sharing) (c : Config) (p : Properties) (heaps : List Heap) (own : OwnTable) (ss : List (TypeStores M X)) (remaining : ℕ) (kept : IsKept sharing c p heaps ss own remaining) where
  abbrev t : Table
  t = whole own ss

  -- a memory type's store
  store_linked : {T A B : Type 0} {r : Rule T A B} {n : Named r} (named : IsNamed n) (index : ℕ) (e : TypeStores M X) (x : T) → slice_get ss index ≡ Some e → n.get e ≡ Some x → (r.served x).memory_type ≡ index → r.IsSound x → IsLinked n t x
  store_linked named index e x there is typed sound = linked named {own = own} {ss = ss} (record { apart = kept.apart; at = read_is ss index e there; inside = within ss index e there; is = is; of_type = typed; plain = plain_of named x sound })

  pub consistent : IsConsistent sharing c p heaps ss t remaining
  consistent = record { books = kept.books; shared = record { count = kept.shared.count; each = λ i. each i (slice_get ss i) refl (kept.shared.each i) }; chosen = kept.chosen }
    where
      chosen_of : (i : ℕ) (e : TypeStores M X) (x : Chosen M X) → slice_get ss i ≡ Some e → e.chosen ≡ x → IsChosenFor c p sharing i x → IsChosenOf c p t sharing i x
      chosen_of i e (InBuddies b) there it is = (is.0, record { for_type = is.1.for_type; sound = is.1.sound; linked = store_linked buddy_is_named i e b there (ap buddy_in it) is.1.for_type.memory_type is.1.sound })
      chosen_of i e (InFits f) there it is = (is.0, record { for_type = is.1.for_type; sized = is.1.sized; sound = is.1.sound; linked = store_linked fit_is_named i e f there (ap fit_in it) is.1.for_type.memory_type is.1.sound })

      each : (i : ℕ) (o : Option (TypeStores M X)) → slice_get ss i ≡ o → IfSome o (AreStoresFor c p sharing i) → IfSome o (IsEachOf c p t sharing i)
      each i None there is = tt
      each i (Some e) there is =
          let l = is.free_list in
          record { chosen = chosen_of i e e.chosen there refl is.chosen; free_list = record { for_type = l.for_type; sound = l.sound; linked = store_linked list_is_named i e e.free_list there refl l.for_type.memory_type l.sound } }

-- Room is made for one more object, and nothing else changes.
pub kept-room : {M X : Type 0} (sharing : Sharing) (c : Config) (p : Properties) (heaps : List Heap) (ss : List (TypeStores M X)) (own now : OwnTable) (remaining : ℕ) → now ≡ record own { room = now.room }
    → IsKept sharing c p heaps ss own remaining → IsKept sharing c p heaps ss now remaining
kept-room sharing c p heaps ss own now remaining kept is =
    subst (λ (x : OwnTable). IsKept sharing c p heaps ss x remaining) (sym kept) (record { books = is.books; shared = is.shared; chosen = is.chosen; apart = is.apart })
