-- What callers learn of a heap's budget: a question within it is asked, and where no import is held, what was asked for is all that is held.
use Rattle.std.proofs.Common.{◌≡◌, ℕ, ◌+◌, ◌-◌, ◌<◌, ◌≤◌, ◌==◌, Bool, true, false, cond, List, length, Option, Some, None, IfSome, Result, Ok, Err, inl, inr, refl, subst, arith}
use Rattle.std.proofs.lemmas.Bool.Decides.{nat_tests}
use Rattle.std.specs.FinMap as map
use Rattle.gpu_alloc_types.specs.Device.{Event}
use Rattle.gpu_alloc_types.specs.Properties.{heap_at, heap_size}
use Rattle.gpu_alloc_base.specs.Case.{HasQuestion, IsWithinBudget}
use Rattle.gpu_alloc_base.specs.FreeRuns.{tail_start}
use Rattle.gpu_alloc_base.specs.FreeSpace.{IsPowerOfTwo}
use Rattle.gpu_alloc_base.specs.declared.error.AllocationError.{AllocationError}
use Rattle.gpu_alloc_base.specs.declared.error.AllocationError.TheVariants.{OutOfDeviceMemory, OutOfHostMemory, NoCompatibleMemoryTypes, TooManyObjects}
use Rattle.gpu_alloc_block.specs.State.{HeldObject, Block, State, heap_limit, ledger, share}
use Rattle.gpu_alloc.specs.Allocation.{TriesCandidate, strategy}
use Rattle.gpu_alloc.specs.BuddySharing.{buddy_size}
use Rattle.gpu_alloc.specs.Budget.{asked_share, heap_budget, heap_bytes, is_import, HoldsNoImportOf, IsDevicesAnswer}
use Rattle.gpu_alloc.specs.Candidates.{candidate}
use Rattle.gpu_alloc.specs.FreeListSharing.{list_alignment, list_size}
use Rattle.gpu_alloc.specs.Sound.{IsSound}
use Rattle.gpu_alloc.specs.declared.allocator.Strategy.{Strategy}
use Rattle.gpu_alloc.specs.declared.allocator.Strategy.TheVariants.{OwnObject, InBuddyChunk, InFreeList, InFitChunk}
use Rattle.gpu_alloc.specs.declared.request.Dedicated.{Dedicated}
use Rattle.gpu_alloc.specs.declared.request.Request.{Request}
use Rattle.gpu_alloc_base.proofs.FreeRuns.{tail_below}
use Rattle.gpu_alloc_base.proofs.Multiples.{multiple_down, multiple_of_lower}
use Rattle.gpu_alloc_base.proofs.PowersOfTwo.{next_is_enough}
use Rattle.gpu_alloc_base.proofs.Sums.{sum_by-same}

-- A question within the budget.

-- a block that lies where a place says shows that there is one
place_of : (w : Strategy) (s : State) (r : Request) (t : ℕ) (b : Block) → (candidate w s r t).Fits → (candidate w s r t).IsInPlace b → (candidate w s r t).HasPlace
place_of OwnObject s r t b fits is = is
place_of InBuddyChunk s r t b fits is =
    let size = buddy_size s r t in
    let front = is.front in
    let place = front.piece.place in
    let power : IsPowerOfTwo size = (next_is_enough _ (omega (arith, fits))).0 in (
      b.object,
      b.offset,
      record {
        power = power;
        aligned = multiple_of_lower size front.length b.offset power place.power front.enough place.aligned;
        free = λ at inside. place.free at (record { from = inside.from; to = omega (arith, inside.to, front.enough) });
      },
    )
place_of InFreeList s r t b fits is =
    let size = list_size s r t in
    let alignment = list_alignment s r t in
    let last = is.tail.last in
    let end = is.tail.run.end in (
      is.tail.run.chunk,
      tail_start size alignment end,
      record {
        aligned = multiple_down (end - size) alignment;
        free = λ at from to. last.run.free at (omega (arith, from, last.room.from)) (omega (arith, to, tail_below size alignment end, last.room.enough));
      },
    )
place_of InFitChunk s r t b fits is =
    let fitting = is.fitting in
    (b.object, b.offset, record { aligned = fitting.aligned; free = λ at from to. fitting.free at from (omega (arith, to, fitting.exact)) })

pub asked_within : (s : State) (r : Request) (hint : Option Dedicated) (t : ℕ) (es : List Event) (answer : Result (Option Block) AllocationError) (new : State) → TriesCandidate s r hint t es answer new → r.size ≤ heap_size s.properties t
    → HasQuestion (candidate (strategy s r hint t) s r t) → IsWithinBudget (candidate (strategy s r hint t) s r t) → IsDevicesAnswer (candidate (strategy s r hint t) s r t) es answer
asked_within s r hint t es (Ok None) new (inl small, same) large has within = absurd (omega (arith, small.0, large))
asked_within s r hint t es (Ok None) new (inr (fits, inl (inl unfit, none)), same) large has within = absurd (unfit has.fits)
asked_within s r hint t es (Ok None) new (inr (fits, inl (inr over, none)), same) large has within = absurd (omega (arith, over.1, within))
asked_within s r hint t es (Ok None) new (inr (fits, inr (asks, lacks)), same) large has within = lacks
asked_within s r hint t es (Ok (Some b)) new (fits, inl gives) large has within = absurd (has.no_place (place_of (strategy s r hint t) s r t b has.fits gives.place))
asked_within s r hint t es (Ok (Some b)) new (fits, inr gives) large has within = gives.asked
asked_within s r hint t es (Err OutOfHostMemory) new (fits, (same, inl (none, is_open))) large has within = inl none
asked_within s r hint t es (Err OutOfHostMemory) new (fits, (same, inr (asks, refuses))) large has within = inr refuses
asked_within s r hint t es (Err TooManyObjects) new (fits, (same, none, shut)) large has within = elim (shut.barred) [
  | inl spent ↦ absurd (omega (arith, spent, has.remains.objects))
  | inr none ↦ none has.remains.number
]
asked_within s r hint t es (Err OutOfDeviceMemory) new (fits, never) large has within = never
asked_within s r hint t es (Err NoCompatibleMemoryTypes) new (fits, never) large has within = never

-- What is held of a heap.

-- what an object counts was asked for, where it is no import of the heap
asked_all : (import here : Bool) (n : ℕ) → (here ≡ true → import ≡ false) → cond import 0 (cond here n 0) ≡ cond here n 0
asked_all true true n own = absurd (let never : true ≡ false = own refl in cc)
asked_all true false n own = refl
asked_all false here n own = refl

pub held_within : (s : State) (heap : ℕ) → IsSound s → heap < length s.properties.memory_heaps → HoldsNoImportOf s heap → ledger s heap ≤ heap_bytes s.properties heap
held_within s heap sound inside none = omega (arith, sound.within heap inside, sum_by-same (asked_share s.properties heap) (share s.properties heap) s.held weighs)
  where
    weighs : (object : ℕ) (h : HeldObject) → map.get s.held object ≡ Some h → asked_share s.properties heap (object, h) ≡ share s.properties heap (object, h)
    weighs object h at =
        let own = subst (λ (o : Option HeldObject). IfSome o (λ x. heap_at s.properties x.memory_type ≡ heap → is_import x.kind ≡ false)) at (none object) in
        asked_all (is_import h.kind) (heap_at s.properties h.memory_type == heap) h.counted (λ here. own (grind (arith, nat_tests)))

-- with no limit, what is held and the budget are the whole heap
pub whole_heap : (s : State) (heap : ℕ) → IsSound s → heap < length s.properties.memory_heaps → HoldsNoImportOf s heap → heap_limit s heap ≡ heap_bytes s.properties heap
    → ledger s heap + heap_budget s heap ≡ heap_bytes s.properties heap
whole_heap s heap sound inside none unlimited = omega (arith, held_within s heap sound inside none, unlimited)
