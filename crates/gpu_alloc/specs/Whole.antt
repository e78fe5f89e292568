-- All that an allocator holds: objects of one block, and the chunks of each memory type's stores.
use Rattle.std.specs.Prelude.{◌≡◌, ℕ, zero, suc, true, false, List, ◌∷◌}
use Rattle.gpu_alloc_types.specs.Properties.{Properties}
use Rattle.gpu_alloc_base.specs.declared.config.Config.{Config}
use Rattle.gpu_alloc_base.specs.declared.heap.Heap.{Heap}
use Rattle.gpu_alloc_block.specs.Parts.{Part, held_in_parts, live_in_parts, ArePartsApart}
use Rattle.gpu_alloc_block.specs.State.{HeldObject, is_shared}
use Rattle.gpu_alloc_block.specs.declared.block.Kind.{Kind}
use Rattle.gpu_alloc_block.specs.declared.block.Kind.TheVariants.{Dedicated, Imported, BuddyChunk, FreeListChunk, FitChunk}
use Rattle.gpu_alloc_block.specs.declared.sharing.Sharing.{Sharing}
use Rattle.gpu_alloc.specs.Inside.{IsBooked, IsChosen}
use Rattle.gpu_alloc.specs.Own.{OwnTable}
use Rattle.gpu_alloc.specs.Spans.{Table}
use Rattle.gpu_alloc.specs.Stores.{AreStores, parts_in}
use Rattle.gpu_alloc.specs.declared.allocator.stores.TypeStores.{TypeStores}

abbrev pub own_part : OwnTable → Part
own_part own = record { held = own.held; live = own.live }

module _ {M X : Type 0} where
  abbrev pub parts_of : OwnTable → List (TypeStores M X) → List Part
  parts_of own stores = own_part own ∷ parts_in stores

  -- all of it
  abbrev pub whole : OwnTable → List (TypeStores M X) → Table
  whole own stores = record { held = held_in_parts (parts_of own stores); live = live_in_parts (parts_of own stores) }

-- Which part may hold an object: that of objects of one block, or a memory type's store of its kind. Buddy chunks and fit
-- chunks share a place, since one of them alone was chosen (`IsKept`).

-- behind the part of the kind that was chosen stands that of the free list (objects of one block have no side)
abbrev pub part_side : Kind → ℕ
part_side Dedicated = 0
part_side Imported = 0
part_side BuddyChunk = 0
part_side FitChunk = 0
part_side (FreeListChunk number) = 1

-- where a part of a memory type's stores stands, behind that of objects of one block
abbrev pub part_at : ℕ → ℕ → ℕ
part_at zero side = side
part_at (suc i) side = suc (suc (part_at i side))

abbrev pub IsPartFor : ℕ → HeldObject → Type 0
IsPartFor zero h = is_shared h.kind ≡ false
IsPartFor (suc spot) h = (is_shared h.kind ≡ true) × (part_at h.memory_type (part_side h.kind) ≡ spot)

module _ {M X : Type 0} where
  abbrev pub AreOneWhole : OwnTable → List (TypeStores M X) → Type 0
  AreOneWhole own stores = ArePartsApart IsPartFor (parts_of own stores)

  -- what an allocator's fields keep between calls
  pub record IsKept (sharing : Sharing) (c : Config) (p : Properties) (heaps : List Heap) (stores : List (TypeStores M X))
      (own : OwnTable) (remaining : ℕ) : Type 0 where
    pub books : IsBooked p heaps (whole own stores) remaining
    pub shared : AreStores c p sharing stores
    pub chosen : IsChosen sharing (whole own stores)
    pub apart : AreOneWhole own stores
