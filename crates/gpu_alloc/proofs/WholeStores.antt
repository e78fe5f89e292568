-- The chunks of a memory type's stores, as they are listed and counted.
use Rattle.std.proofs.Common.{◌≡◌, ◌<◌, ℕ, List, ◌∷◌, ◌++◌, map, sym, subst}
use Rattle.std.specs.List.{Contains}
use Rattle.gpu_alloc_types.specs.Properties.{Properties}
use Rattle.gpu_alloc_base.specs.declared.config.Config.{Config}
use Rattle.gpu_alloc_block.specs.Parts.{Part}
use Rattle.gpu_alloc_block.specs.declared.sharing.Sharing.{Sharing}
use Rattle.gpu_alloc_buddy.specs.BuddyState.{Buddy}
use Rattle.gpu_alloc_fit.specs.Fit.{FitState}
use Rattle.gpu_alloc_freelist.specs.Chunks.{ListsChunks as ListsNumbered}
use Rattle.gpu_alloc_freelist.specs.declared.freelist.chunks.NumberedChunk.{NumberedChunk}
use Rattle.gpu_alloc_pairs.specs.HeldLists.{ListsChunks as ListsPairs}
use Rattle.gpu_alloc_pairs.specs.declared.pairs.Chunk.{Chunk as PairsChunk}
use Rattle.gpu_alloc_runs.specs.Listed.{ListsChunks as ListsFits}
use Rattle.gpu_alloc_runs.specs.declared.fits.Chunk.{Chunk as FitsChunk}
use Rattle.gpu_alloc.specs.Stores.{IsChosenFor, AreStoresFor, chosen_part, list_part}
use Rattle.gpu_alloc.specs.declared.allocator.stores.Chosen.{Chosen}
use Rattle.gpu_alloc.specs.declared.allocator.stores.Chosen.TheVariants.{Buddy as InBuddies, Fit as InFits}
use Rattle.gpu_alloc.specs.declared.allocator.stores.TypeStores.{TypeStores}
use Rattle.gpu_alloc.specs.declared.spans.HeldRow.{HeldRow}
use Rattle.gpu_alloc.proofs.WholeBuddies.{buddy_row, buddy_rows, is_short}
use Rattle.gpu_alloc.proofs.WholeFits.{fit_row, fit_rows}
use Rattle.gpu_alloc.proofs.WholeLists.{list_row, list_rows}
use Rattle.gpu_alloc.proofs.WholeParts.{AreMet, Held, met_next}
use Rattle.gpu_alloc.proofs.WholeRows.{AreRowsOf}

module _ {M X N : Type 0} (object : N → ℕ) {c : Config} {p : Properties} {sharing : Sharing} {i : ℕ} {e : TypeStores M X} (its : AreStoresFor c p sharing i e) where
  -- Where it has a buddy allocator.

  module _ {b : Buddy} (is : e.chosen ≡ InBuddies b) (listed : List (ℕ × PairsChunk N)) (lists : ListsPairs object b.chunks listed) where
    -- each chunk is short
    pub short_in : (x : ℕ × PairsChunk N) → Contains listed x → x.1.order < 64
    short_in = is_short object b (subst (IsChosenFor c p sharing i) is its.chosen).1.sound.space.one_object listed lists

    -- what it holds is as they are listed
    pub buddy_rows_in : AreRowsOf (chosen_part e.chosen).held (buddy_row object i) listed
    buddy_rows_in =
        let of = (subst (IsChosenFor c p sharing i) is its.chosen).1 in
        subst (λ (x : Chosen M X). AreRowsOf (chosen_part x).held (buddy_row object i) listed) (sym is) (buddy_rows object b of.sound.space.one_object listed lists i of.for_type.memory_type)

  -- Where it has an allocator of fit chunks.

  pub fit_rows_in : {f : FitState} → e.chosen ≡ InFits f → (listed : List (ℕ × FitsChunk N)) → ListsFits object f.space.chunks listed → AreRowsOf (chosen_part e.chosen).held (fit_row object i) listed
  fit_rows_in {f} is listed lists =
      let of = (subst (IsChosenFor c p sharing i) is its.chosen).1 in
      subst (λ (x : Chosen M X). AreRowsOf (chosen_part x).held (fit_row object i) listed) (sym is) (fit_rows object f of.sound.space.one_object listed lists i of.for_type.memory_type)

  -- Its free list.

  pub list_rows_in : (listed : List (ℕ × NumberedChunk N)) → ListsNumbered object e.free_list.space.chunks listed → AreRowsOf (list_part e.free_list).held (list_row object i) listed
  list_rows_in listed lists = list_rows object e.free_list its.free_list.sound.one_object listed lists i its.free_list.for_type.memory_type

-- rows that are added to a list, of the first part of those that are left
pub rows_met : {E : Type 0} (all : Held) (rows now : List (ℕ × HeldRow)) (p : Part) (ps : List Part) (row : E → ℕ × HeldRow) (listed : List E) → AreMet all rows (p ∷ ps) → AreRowsOf p.held row listed → now ≡ rows ++ map row listed → AreMet all now ps
rows_met all rows now p ps row listed met of is = met_next all rows (map row listed) now p ps met is of.rows of.once
