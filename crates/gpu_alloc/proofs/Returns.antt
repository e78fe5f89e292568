-- What the return of a block leaves.
use Rattle.std.proofs.Common.{◌≡◌, false, ℕ, ◌+◌, List, [], ◌∷◌, length, get_or, Some, refl, sym, ◌∙◌, ap}
use Rattle.std.proofs.Math.ListN.{set}
use Rattle.std.specs.FinMap as finite
use Rattle.std.specs.FinSet as set_of
use Rattle.gpu_alloc_block.specs.State.{State, HeldObject, Block, IsOwned, is_shared, span_of}
use Rattle.gpu_alloc.specs.Spans.{Table}
use Rattle.gpu_alloc.specs.Inside.{state_in, properties_in, IsBooked}
use Rattle.gpu_alloc.specs.Release.{ReleasedWith, without_span, without_all}
use Rattle.gpu_alloc.specs.declared.limits.Limits.{Limits}
use Rattle.gpu_alloc_block.specs.declared.block.Kind.{Kind}
use Rattle.gpu_alloc_block.specs.declared.block.Kind.TheVariants.{Dedicated, Imported, BuddyChunk, FreeListChunk, FitChunk}
use Rattle.gpu_alloc_base.specs.declared.heap.Heap.{Heap}
use Rattle.gpu_alloc.proofs.Consistency.{HoldsFewer, known_object}
use Rattle.gpu_alloc.proofs.HeapLists.{state_kept}
use Rattle.gpu_alloc_base.proofs.Maps.{one_value}
use Rattle.gpu_alloc.specs.declared.allocator.stores.TypeStores.{TypeStores}

-- the state without a block and its object
abbrev pub returned : State → Block → State
returned s b = record (without_span s b) { held = without_all (without_span s b).held (b.object ∷ []); remaining = (without_span s b).remaining + length (b.object ∷ []) }

-- an object of one block is removed with it
pub goes_with : (kind : Kind) (s : State) (object : ℕ) → is_shared kind ≡ false → ReleasedWith kind s object (object ∷ [])
goes_with Dedicated s object own = refl
goes_with Imported s object own = refl
goes_with BuddyChunk s object own = absurd (cc)
goes_with (FreeListChunk number) s object own = absurd (cc)
goes_with FitChunk s object own = absurd (cc)

-- The table gave back what it had of the block's object, and holds it no more.
pub release : {A M X : Type 0} (l : Limits A) (heaps : List Heap) (ss : List (TypeStores M X)) (t now : Table) (remaining : ℕ) (b : Block) (name : ℕ) (h : HeldObject) (is : IsBooked (properties_in l heaps) heaps t remaining)
    → IsOwned (state_in l heaps ss t remaining) b → is_shared b.kind ≡ false → name ≡ b.object → finite.get t.held name ≡ Some h
    → now.held ≡ finite.remove t.held name → now.live ≡ set_of.remove t.live (span_of b)
    → (is_shared h.kind ≡ false) × HoldsFewer (properties_in l heaps) heaps t remaining is refl now h (span_of b)
release l heaps ss t now remaining b name h is owned alone same_name found held live =
    let there : finite.get t.held b.object ≡ Some h = ap (finite.get t.held) (sym same_name) ∙ found in
    let same : owned.held.0 ≡ h = one_value _ owned.held.0 h owned.held.1 there in
    let own : is_shared h.kind ≡ false = ap is_shared (ap (λ (x : HeldObject). x.kind) (sym same) ∙ owned.held.3) ∙ alone in
    let one = (known_object (properties_in l heaps) heaps t remaining is refl b.object h there).one_span own in (
      own,
      record {
        found = there;
        last = λ other live of_it. one.alone other live of_it ∙ sym (one.alone (span_of b) owned.live refl);
        held = held ∙ ap (finite.remove t.held) same_name;
        live = live;
      },
    )

-- what the fields stand for then
pub state_returned : {A M X : Type 0} (l : Limits A) (heaps : List Heap) (ss : List (TypeStores M X)) (i : ℕ) (h old : Heap) (t now : Table) (remaining : ℕ) (b : Block) → old ≡ get_or heaps i old → h.size ≡ old.size → h.limit ≡ old.limit
    → now.held ≡ finite.remove t.held b.object → now.live ≡ set_of.remove t.live (span_of b) → state_in l (set heaps i h) ss now (remaining + 1) ≡ returned (state_in l heaps ss t remaining) b
state_returned l heaps ss i h old t now remaining b at same limit held live =
    state_kept l heaps ss i h old now (remaining + 1) at same limit
    ∙ (λ k. record (state_in l heaps ss t remaining) { held = held k; live = live k; remaining = remaining + 1 })
