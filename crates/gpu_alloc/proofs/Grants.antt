-- What a granted object of its own leaves.
use Rattle.std.proofs.Common.{◌≡◌, ℕ, ◌-◌, ◌<◌, List, get_or, Some, None, Ok, refl, sym, ◌∙◌, subst, inr}
use Rattle.std.proofs.Math.ListN.{set}
use Rattle.std.specs.FinMap as finite
use Rattle.std.specs.FinSet as set_of
use Rattle.gpu_alloc_base.specs.Case.{Asks, HasQuestion, IsWithinBudget}
use Rattle.gpu_alloc_base.specs.NewChunk.{made}
use Rattle.gpu_alloc.specs.Allocation.{TriesBy}
use Rattle.gpu_alloc.specs.Candidates.{own_candidate, own_question, holding, whole_block}
use Rattle.gpu_alloc.specs.declared.allocator.Strategy.TheVariants.{OwnObject}
use Rattle.gpu_alloc.specs.Inside.{state_in}
use Rattle.gpu_alloc.specs.Spans.{Table}
use Rattle.gpu_alloc_block.specs.State.{State, HeldObject, Block, span_of}
use Rattle.gpu_alloc.specs.declared.limits.Limits.{Limits}
use Rattle.gpu_alloc_block.specs.declared.block.Kind.TheVariants.{Dedicated as DedicatedObject}
use Rattle.gpu_alloc_base.specs.declared.heap.Heap.{Heap}
use Rattle.gpu_alloc.specs.declared.request.Request.{Request}
use Rattle.gpu_alloc.proofs.HeapLists.{state_kept}
use Rattle.gpu_alloc.specs.declared.allocator.stores.TypeStores.{TypeStores}

-- the object of a block that is an object of its own
abbrev pub own_object : ℕ → ℕ → HeldObject
own_object size memory_type = record { memory_type = memory_type; counted = size; kind = DedicatedObject }

-- what the fields stand for where an object is held with a block in it
pub state_held : {A M X : Type 0} (l : Limits A) (heaps : List Heap) (ss : List (TypeStores M X)) (i : ℕ) (h old : Heap) (t now : Table) (remaining : ℕ) (object : HeldObject) (b : Block) → old ≡ get_or heaps i old → h.size ≡ old.size → h.limit ≡ old.limit
    → now.held ≡ finite.insert t.held b.object object → now.live ≡ set_of.insert t.live (span_of b)
    → state_in l (set heaps i h) ss now (remaining - 1) ≡ holding (state_in l heaps ss t remaining) object b
state_held l heaps ss i h old t now remaining object b at same limit held live =
    state_kept l heaps ss i h old now (remaining - 1) at same limit
    ∙ (λ k. record (state_in l heaps ss t remaining) { held = held k; live = live k; remaining = remaining - 1 })

-- it has a question where one more may be held
pub has_own : {s : State} {size memory_type : ℕ} → 0 < s.remaining → HasQuestion (own_candidate s size memory_type)
has_own some = record { fits = tt; no_place = λ never. never; remains = record { objects = some; number = tt } }

-- which is asked where the heap has room for it
pub asks_own : {s : State} {size memory_type : ℕ} → 0 < s.remaining → (0 < s.remaining → IsWithinBudget (own_candidate s size memory_type)) → Asks (own_candidate s size memory_type)
asks_own some room = record { has = has_own some; within = room some }

-- the candidate decides
pub decides_granted : (s now : State) (r : Request) (memory_type object : ℕ) (b : Block) → b ≡ whole_block s object r.size memory_type → Asks (own_candidate s r.size memory_type) → finite.get s.held object ≡ None
    → now ≡ holding s (own_object r.size memory_type) (whole_block s object r.size memory_type) → TriesBy OwnObject s r memory_type (made (own_question s r.size memory_type) object) (Ok (Some b)) now
decides_granted s now r memory_type object b is asks free held =
    subst (λ x. TriesBy OwnObject s r memory_type (made (own_question s r.size memory_type) object) (Ok (Some x)) now) (sym is) (inr (record {
      asks = asks;
      place = record { is = refl; was_free = free };
      asked = refl;
      state = held;
    }))
