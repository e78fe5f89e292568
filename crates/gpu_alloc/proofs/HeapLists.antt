-- The list of heaps: what is read of it, and what stays as one heap's ledger changes.
use Rattle.std.proofs.Common.{◌≡◌, ◌≢◌, ℕ, zero, suc, ◌<◌, ◌≤◌, List, [], ◌∷◌, length, get_or, map, min, Option, Some, None, IfSome, refl, sym, ◌∙◌, ap, subst, arith, inl, inr}
use Rattle.std.proofs.Math.ListN.{set}
use Rattle.std.proofs.Math.Seq.{map-set_same}
use Rattle.std.proofs.lemmas.Option.{slice_get_read, slice_get_cases}
use Rattle.std.proofs.lemmas.List.{length-map, map-set}
use Rattle.std.specs.List.{sum_by, slice_get}
use Rattle.std.specs.FinMap as finite
use Rattle.gpu_alloc_types.specs.Properties.{Properties, IsUsable, heap_at, heap_of, size_of}
use Rattle.gpu_alloc_types.specs.declared.types.MemoryType.{MemoryType}
use Rattle.gpu_alloc_block.specs.State.{State, heap_limit, ledger, share}
use Rattle.gpu_alloc.specs.Budget.{asked_bytes, asked_share, heap_bytes, with_heap_limit}
use Rattle.gpu_alloc.specs.Spans.{Table}
use Rattle.gpu_alloc.specs.Inside.{types_with, properties_in, state_in, AreLedgers, IsBooked, IsLedger, limit_of, offer_of}
use Rattle.gpu_alloc_base.specs.Heap.{unused}
use Rattle.gpu_alloc.specs.Opening.{size_of_heap}
use Rattle.gpu_alloc.specs.FirstTypes.{first_types}
use Rattle.gpu_alloc.specs.Stores.{type_sizes}
use Rattle.gpu_alloc.specs.declared.limits.Limits.{Limits}
use Rattle.gpu_alloc_types.specs.declared.types.MemoryHeap.{MemoryHeap}
use Rattle.gpu_alloc_base.specs.declared.heap.Heap.{Heap}
use Rattle.gpu_alloc.proofs.Ledgers.{Entries}
use Rattle.gpu_alloc.specs.declared.allocator.stores.TypeStores.{TypeStores}

-- Heaps, as one of them changes.

-- what holds of the new element at its place, and of each other one at its own
pub each_set : {X : Type 0} (P : ℕ → X → Type 0) (xs : List X) (i : ℕ) (x : X) → P i x → ((q : ℕ) → q ≢ i → IfSome (slice_get xs q) (P q)) → (q : ℕ) → IfSome (slice_get (set xs i x) q) (P q)
each_set P [] i x is others q = tt
each_set P (y ∷ xs) zero x is others zero = is
each_set P (y ∷ xs) zero x is others (suc q) = others (suc q) (λ e. omega (arith, e))
each_set P (y ∷ xs) (suc i) x is others zero = others zero (λ e. omega (arith, e))
each_set P (y ∷ xs) (suc i) x is others (suc q) = each_set (λ n. P (suc n)) xs i x is (λ r other. others (suc r) (λ e. other (omega (arith, e)))) q

-- a ledger more or less is no other offer
pub offers_kept : (heaps : List Heap) (i : ℕ) (h old : Heap) → old ≡ get_or heaps i old → h.size ≡ old.size → map offer_of (set heaps i h) ≡ map offer_of heaps
offers_kept heaps i h old at same = map-set_same offer_of heaps i h old (λ k. record { size = (same ∙ ap (λ (x : Heap). x.size) at) k })

-- nor another limit
pub limits_kept : (heaps : List Heap) (i : ℕ) (h old : Heap) → old ≡ get_or heaps i old → h.limit ≡ old.limit → map limit_of (set heaps i h) ≡ map limit_of heaps
limits_kept heaps i h old at same = map-set_same limit_of heaps i h old (same ∙ ap (λ (x : Heap). x.limit) at)

-- a known memory type has a heap
pub heap_inside : (p : Properties) (t : ℕ) → IsUsable p → t < length p.memory_types → heap_at p t < length p.memory_heaps
heap_inside p t usable known = elim (slice_get_cases p.memory_types t).1 [
  | inl found ↦
      let at : slice_get p.memory_types t ≡ Some found.0 = found.2 in
      let inside : (get_or p.memory_types t found.0).heap < length p.memory_heaps = usable.heap_known t found.0 found.1 in
      subst (λ (o : Option MemoryType). heap_of o < length p.memory_heaps) (sym at) (subst (λ (m : MemoryType). m.heap < length p.memory_heaps) found.3 inside)
  | inr past ↦ absurd (omega (arith, past.0))
]

-- What a ledger says.

pub ledger_is : (p : Properties) (heaps : List Heap) (i : ℕ) (h : Heap) (entries : Entries) → AreLedgers p heaps entries → i < length heaps → h ≡ get_or heaps i h → IsLedger p i entries h
ledger_is p heaps i h entries are lt at = subst (λ (o : Option Heap). IfSome o (IsLedger p i entries)) (slice_get_read heaps (length heaps) i h refl lt at) (are i)

pub ledger_at : (p : Properties) (heaps : List Heap) (i : ℕ) (h : Heap) (entries : Entries) → AreLedgers p heaps entries → i < length heaps → h ≡ get_or heaps i h → h.used ≡ sum_by (share p i) entries
ledger_at p heaps i h entries are lt at = (ledger_is p heaps i h entries are lt at).used

-- of a heap that these objects are not of, or of which as many bytes are held as before
kept_ledger : (p : Properties) (q : ℕ) (old new : Entries) → sum_by (share p q) new ≡ sum_by (share p q) old → sum_by (asked_share p q) new ≡ sum_by (asked_share p q) old → (o : Option Heap) → IfSome o (IsLedger p q old) → IfSome o (IsLedger p q new)
kept_ledger p q old new same asked None is = tt
kept_ledger p q old new same asked (Some h) is = record { used = is.used ∙ sym same; within = omega (arith, is.within, asked); limited = is.limited }

-- one heap's ledger is changed, and no share of another heap is
pub ledgers_set : (p : Properties) (heaps : List Heap) (i : ℕ) (h : Heap) (old new : Entries) → AreLedgers p heaps old → IsLedger p i new h
    → ((q : ℕ) → q ≢ i → (sum_by (share p q) new ≡ sum_by (share p q) old) × (sum_by (asked_share p q) new ≡ sum_by (asked_share p q) old)) → AreLedgers p (set heaps i h) new
ledgers_set p heaps i h old new are is others =
    each_set (λ q x. IsLedger p q new x) heaps i h is
    (λ q other. let same = others q other in kept_ledger p q old new same.0 same.1 (slice_get heaps q) (are q))

-- A memory type's heap.

-- its size is what is offered
size_offered : (heaps : List Heap) (i : ℕ) (h : Heap) → i < length heaps → h ≡ get_or heaps i h → size_of (slice_get (map offer_of heaps) i) ≡ h.size
size_offered [] i h inside at = absurd (omega (arith, inside))
size_offered (x ∷ heaps) zero h inside at = ap (λ (y : Heap). y.size) (sym at)
size_offered (x ∷ heaps) (suc i) h inside at = size_offered heaps i h (omega (arith, inside)) at

-- and its limit
limit_told : (heaps : List Heap) (i : ℕ) (h : Heap) → i < length heaps → h ≡ get_or heaps i h → get_or (map limit_of heaps) i 0 ≡ h.limit
limit_told [] i h inside at = absurd (omega (arith, inside))
limit_told (x ∷ heaps) zero h inside at = ap (λ (y : Heap). y.limit) (sym at)
limit_told (x ∷ heaps) (suc i) h inside at = limit_told heaps i h (omega (arith, inside)) at

-- a heap as the state describes it
pub record IsHeap (s : State) (i : ℕ) (heap : Heap) : Type 0 where
  pub used : heap.used ≡ ledger s i
  pub size : heap.size ≡ heap_bytes s.properties i
  pub asked : asked_bytes s i ≤ heap.size
  pub limit : heap.limit ≡ heap_limit s i
  pub limited : heap.limit ≤ heap.size

pub heap_is : {A M X : Type 0} (l : Limits A) (heaps : List Heap) (ss : List (TypeStores M X)) (t : Table) (remaining : ℕ) → AreLedgers (properties_in l heaps) heaps (finite.entries t.held)
    → (i : ℕ) (heap : Heap) → i < length heaps → heap ≡ get_or heaps i heap → IsHeap (state_in l heaps ss t remaining) i heap
heap_is l heaps ss t remaining ledgers i heap inside at =
    let is = ledger_is (properties_in l heaps) heaps i heap (finite.entries t.held) ledgers inside at in
    record { used = is.used; size = sym (size_offered heaps i heap inside at); asked = is.within; limit = sym (limit_told heaps i heap inside at); limited = is.limited }

-- a heap that the device offers
pub offered_heap_is : {A M X : Type 0} (l : Limits A) (heaps : List Heap) (ss : List (TypeStores M X)) (t : Table) (remaining : ℕ) → AreLedgers (properties_in l heaps) heaps (finite.entries t.held)
    → (i : ℕ) (heap : Heap) → i < length (properties_in l heaps).memory_heaps → heap ≡ get_or heaps i heap → IsHeap (state_in l heaps ss t remaining) i heap
offered_heap_is l heaps ss t remaining ledgers i heap known at = heap_is l heaps ss t remaining ledgers i heap (omega (arith, known, length-map heaps offer_of)) at

-- the heap of a memory type
pub type_heap_is : {A M X : Type 0} (l : Limits A) (heaps : List Heap) (ss : List (TypeStores M X)) (t : Table) (remaining : ℕ) → IsBooked (properties_in l heaps) heaps t remaining
    → (index i : ℕ) (heap : Heap) → index < length (properties_in l heaps).memory_types → i ≡ heap_at (properties_in l heaps) index → heap ≡ get_or heaps i heap
    → IsHeap (state_in l heaps ss t remaining) (heap_at (properties_in l heaps) index) heap
type_heap_is l heaps ss t remaining books index i heap known here at =
    let inside = heap_inside (properties_in l heaps) index books.usable known in
    heap_is l heaps ss t remaining books.ledgers (heap_at (properties_in l heaps) index) heap (omega (arith, inside, length-map heaps offer_of)) (at ∙ ap (λ n. get_or heaps n heap) here)

-- The properties and the state, as one heap's ledger changes.

pub properties_kept : {A : Type 0} (l : Limits A) (heaps : List Heap) (i : ℕ) (h old : Heap) → old ≡ get_or heaps i old → h.size ≡ old.size → properties_in l (set heaps i h) ≡ properties_in l heaps
properties_kept l heaps i h old at same = ap (λ (offers : List MemoryHeap). record (properties_in l heaps) { memory_heaps = offers }) (offers_kept heaps i h old at same)

pub state_kept : {A M X : Type 0} (l : Limits A) (heaps : List Heap) (ss : List (TypeStores M X)) (i : ℕ) (h old : Heap) (t : Table) (remaining : ℕ) → old ≡ get_or heaps i old → h.size ≡ old.size → h.limit ≡ old.limit
    → state_in l (set heaps i h) ss t remaining ≡ state_in l heaps ss t remaining
state_kept l heaps ss i h old t remaining at same limit = λ k.
    let p = properties_kept l heaps i h old at same k in
    record (state_in l heaps ss t remaining) { heap_limits = limits_kept heaps i h old at limit k; types = types_with type_sizes (first_types l.config p) ss; properties = p }

-- with another limit of one heap, which is not over its size
pub ledgers_limited : (p : Properties) (heaps : List Heap) (i limit : ℕ) (h old : Heap) (entries : Entries) → AreLedgers p heaps entries → i < length heaps → old ≡ get_or heaps i old → h ≡ record old { limit = min limit old.size }
    → AreLedgers p (set heaps i h) entries
ledgers_limited p heaps i limit h old entries are inside at limited =
    let is = ledger_is p heaps i old entries are inside at in
    ledgers_set p heaps i h entries entries are (subst (IsLedger p i entries) (sym limited) (record { used = is.used; within = is.within; limited = omega arith })) (λ q other. (refl, refl))

state_limited : {A M X : Type 0} (l : Limits A) (heaps : List Heap) (ss : List (TypeStores M X)) (i : ℕ) (h old : Heap) (t : Table) (remaining : ℕ) → old ≡ get_or heaps i old → h.size ≡ old.size
    → state_in l (set heaps i h) ss t remaining ≡ record (state_in l heaps ss t remaining) { heap_limits = set (map limit_of heaps) i h.limit }
state_limited l heaps ss i h old t remaining at same = λ k.
    let p = properties_kept l heaps i h old at same k in
    record (state_in l heaps ss t remaining) { heap_limits = map-set limit_of heaps i h k; types = types_with type_sizes (first_types l.config p) ss; properties = p }

pub limit_is_set : {A M X : Type 0} (l : Limits A) (heaps : List Heap) (ss : List (TypeStores M X)) (t : Table) (remaining : ℕ) → AreLedgers (properties_in l heaps) heaps (finite.entries t.held)
    → (i limit : ℕ) (h old : Heap) → i < length heaps → old ≡ get_or heaps i old → h ≡ record old { limit = min limit old.size }
    → state_in l (set heaps i h) ss t remaining ≡ with_heap_limit (state_in l heaps ss t remaining) i limit
limit_is_set l heaps ss t remaining ledgers i limit h old inside at limited =
    let of = heap_is l heaps ss t remaining ledgers i old inside at in
    let least : h.limit ≡ min limit (heap_bytes (properties_in l heaps) i) = ap (λ (x : Heap). x.limit) limited ∙ ap (min limit) of.size in
    state_limited l heaps ss i h old t remaining at (ap (λ (x : Heap). x.size) limited)
    ∙ (λ k. record (state_in l heaps ss t remaining) { heap_limits = set (map limit_of heaps) i (least k) })

-- of heaps of which nothing is held all may be asked for
pub unused-limits : (hs : List MemoryHeap) → map limit_of (map (λ h. unused h.size) hs) ≡ map size_of_heap hs
unused-limits [] = refl
unused-limits (h ∷ hs) = λ k. h.size ∷ unused-limits hs k

-- heaps of which nothing is held are those that are offered
pub unused-offers : (hs : List MemoryHeap) → map offer_of (map (λ h. unused h.size) hs) ≡ hs
unused-offers [] = refl
unused-offers (h ∷ hs) = λ k. h ∷ unused-offers hs k
