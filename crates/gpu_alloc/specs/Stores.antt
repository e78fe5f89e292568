-- Each memory type's stores of shared chunks, as the allocator's field has them, and their parts of the whole.
use Rattle.std.specs.Prelude.{◌≡◌, ℕ, List, [], ◌∷◌, IfSome, length, slice_get}
use Rattle.std.specs.FinMap as map
use Rattle.gpu_alloc_types.specs.Properties.{Properties}
use Rattle.gpu_alloc_base.specs.Chunks.{Chunk}
use Rattle.gpu_alloc_base.specs.declared.config.Config.{Config}
use Rattle.gpu_alloc_block.specs.Parts.{Part, by_name, by_span}
use Rattle.gpu_alloc_block.specs.State.{HeldObject, Span, TypeState}
use Rattle.gpu_alloc_block.specs.declared.block.Kind.{Kind}
use Rattle.gpu_alloc_block.specs.declared.block.Kind.TheVariants.{BuddyChunk, FreeListChunk, FitChunk}
use Rattle.gpu_alloc_block.specs.declared.sharing.Sharing.{Sharing}
use Rattle.gpu_alloc_block.specs.declared.sharing.Sharing.TheVariants.{Buddy as BuddyChosen, Fit as FitChosen}
use Rattle.gpu_alloc_buddy.specs.BuddyRule.{buddy_rule}
use Rattle.gpu_alloc_fit.specs.FitRule.{fit_rule}
use Rattle.gpu_alloc_freelist.specs.FreeListRule.{list_rule}
use Rattle.gpu_alloc_freelist.specs.FreeListState.{FreeListState}
use Rattle.gpu_alloc_shared.specs.Rule.{Rule}
use Rattle.gpu_alloc.specs.StoresFor.{IsBuddyFor, IsFitFor, IsListFor}
use Rattle.gpu_alloc.specs.declared.allocator.stores.Chosen.{Chosen}
use Rattle.gpu_alloc.specs.declared.allocator.stores.Chosen.TheVariants.{Buddy as InBuddies, Fit as InFits}
use Rattle.gpu_alloc.specs.declared.allocator.stores.TypeStores.{TypeStores}

module _ {T A B : Type 0} (r : Rule T A B) where
  abbrev pub block_span : B → Span
  block_span b = record { object = (r.bytes b).object; offset = (r.bytes b).offset; size = (r.bytes b).size }

  -- a held chunk as an object of the kind that its key says
  abbrev pub chunk_row : (ℕ → Kind) → T → ℕ → Chunk → HeldObject
  chunk_row kind x key c = record { memory_type = (r.served x).memory_type; counted = c.size; kind = kind key }

  -- chunks by name, and the spans of the blocks in them
  abbrev pub part : (ℕ → Kind) → T → Part
  part kind x = record { held = by_name (chunk_row kind x) (r.chunks x); live = by_span block_span (r.live x) }

abbrev pub list_part : FreeListState → Part
list_part l = part list_rule FreeListChunk l

module _ {M X : Type 0} where
  abbrev pub chosen_part : Chosen M X → Part
  chosen_part (InBuddies b) = part buddy_rule (λ key. BuddyChunk) b
  chosen_part (InFits f) = part fit_rule (λ key. FitChunk) f

  -- those of each memory type, first of the kind that was chosen
  abbrev pub parts_in : List (TypeStores M X) → List Part
  parts_in [] = []
  parts_in (e ∷ es) = chosen_part e.chosen ∷ list_part e.free_list ∷ parts_in es

  -- The sizes of next chunks.

  abbrev pub chosen_sizes : Chosen M X → TypeState → TypeState
  chosen_sizes (InBuddies b) type = record type { next_chunk = b.next_chunk }
  chosen_sizes (InFits f) type = record type { fit_chunk = f.next_chunk }

  abbrev pub type_sizes : TypeStores M X → TypeState → TypeState
  type_sizes e type =
      chosen_sizes e.chosen (record type { list_chunk = e.free_list.next_chunk; number = e.free_list.space.latest })

  -- What they are for.

  abbrev pub IsChosenFor : Config → Properties → Sharing → ℕ → Chosen M X → Type 0
  IsChosenFor c p sharing i (InBuddies b) = (sharing ≡ BuddyChosen) × IsBuddyFor c p i b
  IsChosenFor c p sharing i (InFits f) = (sharing ≡ FitChosen) × IsFitFor c p i f

  pub record AreStoresFor (c : Config) (p : Properties) (sharing : Sharing) (i : ℕ) (e : TypeStores M X) : Type 0 where
    pub chosen : IsChosenFor c p sharing i e.chosen
    pub free_list : IsListFor c p i e.free_list

  -- each memory type has its stores
  pub record AreStores (c : Config) (p : Properties) (sharing : Sharing) (es : List (TypeStores M X)) : Type 0 where
    pub count : length es ≡ length p.memory_types
    pub each : (i : ℕ) → IfSome (slice_get es i) (AreStoresFor c p sharing i)

  -- They hold no chunk.

  abbrev pub ChosenHasNoChunk : Chosen M X → Type 0
  ChosenHasNoChunk (InBuddies b) = map.len b.chunks ≡ 0
  ChosenHasNoChunk (InFits f) = map.len f.space.chunks ≡ 0

  abbrev pub HaveNoChunk : TypeStores M X → Type 0
  HaveNoChunk e = ChosenHasNoChunk e.chosen × (map.len e.free_list.space.chunks ≡ 0)
