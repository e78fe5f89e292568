-- How a block is returned, and which objects are then released.
use Rattle.std.specs.Prelude.{◌≡◌, ◌≢◌, ◌⊎◌, ◌↔◌, ℕ, zero, suc, ◌+◌, ◌<◌, ◌≤◌, Bool, true, false, List, [], ◌∷◌, ◌++◌}
use Rattle.std.specs.Prelude.{length, get_or}
use Rattle.std.specs.Prelude.{map, Option, Some, None, IsSome}
use Rattle.std.specs.List.{Contains}
use Rattle.std.specs.FinMap as finite
use Rattle.std.specs.FinSet as set
use Rattle.std.specs.Ordering.{nat_cmp}
use Rattle.gpu_alloc_types.specs.Device.{Object, Event, Chain, put}
use Rattle.gpu_alloc_types.specs.Device.Event.{Deallocated}
use Rattle.gpu_alloc_block.specs.declared.block.Kind.{Kind}
use Rattle.gpu_alloc_block.specs.declared.block.Kind.TheVariants.{Dedicated, Imported, BuddyChunk, FreeListChunk, FitChunk}
use Rattle.gpu_alloc_base.specs.declared.region.FreeListRegion.{FreeListRegion}
use Rattle.gpu_alloc_base.specs.FreeRuns.{IsLastRun}
use Rattle.gpu_alloc.specs.FreeListSharing.{IsListChunk, IsFreeInChunk}
use Rattle.gpu_alloc.specs.FitSharing.{IsFitChunk}
pub use Rattle.gpu_alloc.specs.Sound.{IsUnused}
use Rattle.gpu_alloc.specs.Sound.{may_be_unused}
use Rattle.gpu_alloc_block.specs.State.{HeldObject, span_of, Block, State}

-- the block's span is no longer live
abbrev pub without_span : State → Block → State
without_span s b = record s { live = set.remove s.live (span_of b) }

-- the held objects without some of them
abbrev pub without_all : finite.FinMap nat_cmp HeldObject → List ℕ → finite.FinMap nat_cmp HeldObject
without_all held [] = held
without_all held (name ∷ names) = without_all (finite.remove held name) names

abbrev pub without_objects : (ℕ → Option Object) → List ℕ → ℕ → Option Object
without_objects objects [] = objects
without_objects objects (name ∷ names) = without_objects (put objects name None) names

-- these objects are released to the device, in this order
abbrev pub Releases : State → List ℕ → List Event → State → Type 0
Releases s gone es new =
    (es ≡ map Deallocated gone)
    × (new ≡ record s { held = without_all s.held gone; remaining = s.remaining + length gone })

-- Free-list chunks of a memory type.

-- the last run lies in this chunk
abbrev pub HasLastListRun : State → ℕ → ℕ → Type 0
HasLastListRun s t number = (r : FreeListRegion) × (IsLastRun (IsFreeInChunk s t) r × (r.chunk ≡ number))

-- the object is the chunk with this number and may be released: nothing in it is live, and where the last run's chunk
-- is kept, it is another one
pub record ListChunkMayGo (s : State) (t : ℕ) (keep_last : Bool) (number object : ℕ) : Type 0 where
  pub chunk : IsListChunk s t number object
  pub unused : IsUnused s object
  pub not_last : keep_last ≡ true → HasLastListRun s t number → ⊥

-- These are all the objects that may be released, in rising number.
pub record AreChunksReleased (s : State) (t : ℕ) (keep_last : Bool) (gone : List ℕ) : Type 0 where
  pub rising : (i j d m n : ℕ) → i < j → j < length gone
      → IsListChunk s t m (get_or gone i d) → IsListChunk s t n (get_or gone j d) → m < n
  pub all : (object : ℕ) → Contains gone object ↔ ((number : ℕ) × ListChunkMayGo s t keep_last number object)

-- These are all the chunks of a memory type that may be released. They are released, and the device then has the other
-- objects.
pub record ReleasesChunks (s : State) (t : ℕ) (keep_last : Bool) (gone : List ℕ) (es : List Event) (new : State)
    (old_objects new_objects : ℕ → Option Object) : Type 0 where
  pub chunks : AreChunksReleased s t keep_last gone
  pub lets : Releases s gone es new
  pub objects : new_objects ≡ without_objects old_objects gone

-- Fit chunks of a memory type.

-- the object is a fit chunk of the memory type, and nothing in it is live
pub record IsUnusedFit (s : State) (t object : ℕ) : Type 0 where
  pub chunk : IsFitChunk s t object
  pub unused : IsUnused s object

-- nothing is live in the object, nor in another fit chunk of its memory type
pub record IsSpareFit (s : State) (object : ℕ) : Type 0 where
  pub unused : IsUnused s object
  pub chunk : HeldObject
  pub held : finite.get s.held object ≡ Some chunk
  pub other : ℕ
  pub differs : other ≢ object
  pub also : IsUnusedFit s chunk.memory_type other

-- These are all the fit chunks without a live block, of which there is at most one.
pub record AreFitChunksReleased (s : State) (t : ℕ) (gone : List ℕ) : Type 0 where
  pub few : length gone ≤ 1
  pub all : (object : ℕ) → Contains gone object ↔ IsUnusedFit s t object

-- They are released, and the device then has the other objects.
pub record ReleasesFitChunks (s : State) (t : ℕ) (gone : List ℕ) (es : List Event) (new : State)
    (old_objects new_objects : ℕ → Option Object) : Type 0 where
  pub chunks : AreFitChunksReleased s t gone
  pub lets : Releases s gone es new
  pub objects : new_objects ≡ without_objects old_objects gone

-- What is released with a block whose span was removed, by the kind of its object: an object of its own, or a buddy
-- chunk without a live block. A fit chunk without one is released if another is kept so.
abbrev pub ReleasedWith : Kind → State → ℕ → List ℕ → Type 0
ReleasedWith Dedicated s object gone = gone ≡ object ∷ []
ReleasedWith Imported s object gone = gone ≡ object ∷ []
ReleasedWith BuddyChunk s object gone = (IsUnused s object × (gone ≡ object ∷ [])) ⊎ ((IsUnused s object → ⊥) × (gone ≡ []))
ReleasedWith (FreeListChunk number) s object gone =
    (chunk : HeldObject) × (finite.get s.held object ≡ Some chunk) × AreChunksReleased s chunk.memory_type true gone
ReleasedWith FitChunk s object gone = (IsSpareFit s object × (gone ≡ object ∷ [])) ⊎ ((IsSpareFit s object → ⊥) × (gone ≡ []))

abbrev pub Frees : State → Block → List Event → State → Type 0
Frees s b es new =
    (gone : List ℕ) × ReleasedWith b.kind (without_span s b) b.object gone × Releases (without_span s b) gone es new

-- What a return does to the device's objects: those released with the block are gone.
abbrev pub ObjectsFreed : State → Block → (ℕ → Option Object) → (ℕ → Option Object) → Type 0
ObjectsFreed s b old new =
    (gone : List ℕ) × ReleasedWith b.kind (without_span s b) b.object gone × (new ≡ without_objects old gone)

-- What a cleanup releases: each memory type's chunks without a live block. The types come in their order, and for each
-- the chunks of its free list come first.

pub record AreReleasedOfType (s : State) (t : ℕ) (gone : List ℕ) : Type 0 where
  pub listed : List ℕ
  pub fitted : List ℕ
  pub both : gone ≡ listed ++ fitted
  pub of_list : AreChunksReleased s t false listed
  pub of_fits : AreFitChunksReleased s t fitted

-- these are all chunks of a memory type without a live block; they are released, and the device then has the other
-- objects
pub record ReleasesType (s : State) (t : ℕ) (gone : List ℕ) (es : List Event) (new : State)
    (old_objects new_objects : ℕ → Option Object) : Type 0 where
  pub chunks : AreReleasedOfType s t gone
  pub lets : Releases s gone es new
  pub objects : new_objects ≡ without_objects old_objects gone

abbrev pub AreAllReleased : State → ℕ → List ℕ → Type 0
AreAllReleased s zero gone = gone ≡ []
AreAllReleased s (suc t) gone =
    (earlier own : List ℕ) × (gone ≡ earlier ++ own) × AreAllReleased s t earlier × AreReleasedOfType s t own

abbrev pub Cleans : State → List Event → State → Type 0
Cleans s es new = (gone : List ℕ) × AreAllReleased s (length s.properties.memory_types) gone × Releases s gone es new

abbrev pub ObjectsCleaned : State → (ℕ → Option Object) → (ℕ → Option Object) → Type 0
ObjectsCleaned s old new =
    (gone : List ℕ) × AreAllReleased s (length s.properties.memory_types) gone × (new ≡ without_objects old gone)

-- What a cleanup releases: a free-list chunk or a fit chunk in which nothing is live.
abbrev pub IsCleanedUp : State → ℕ → HeldObject → Type 0
IsCleanedUp s object h = (may_be_unused h.kind ≡ true) × IsUnused s object

-- What a call releases: some objects that were held, each once and in this order, and nothing else. The allocator no
-- longer holds them, and the device no longer has them. Every other object is held and on the device as before.
pub record LetsObjectsGo {D : Type 0} (step : D → Event → D → Type 0) (objects : D → ℕ → Option Object) (s : State)
    (from : D) (new : State) (to : D) : Type 0 where
  pub gone : List ℕ
  pub asked : Chain step from (map Deallocated gone) to
  pub held : (object : ℕ) → Contains gone object → IsSome (finite.get s.held object)
  pub unheld : (object : ℕ) → Contains gone object → finite.get new.held object ≡ None
  pub others : (object : ℕ) → (Contains gone object → ⊥) → finite.get new.held object ≡ finite.get s.held object
  pub once : length gone + finite.len new.held ≡ finite.len s.held
  pub absent : (object : ℕ) → Contains gone object → objects to object ≡ None
  pub stay : (object : ℕ) → (Contains gone object → ⊥) → objects to object ≡ objects from object
