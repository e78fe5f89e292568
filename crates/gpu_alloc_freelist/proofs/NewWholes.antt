-- The runs that are whole chunks, as a chunk comes of which some is used.
use Rattle.std.proofs.Common.{◌≡◌, ◌≢◌, ℕ, ◌+◌, List, [], ◌∷◌, ◌++◌, ◌∙◌, ap, arith}
use Rattle.gpu_alloc_base.specs.Accounts.{HeldChunks}
use Rattle.gpu_alloc_base.specs.Chunks.{Chunk}
use Rattle.gpu_alloc_base.specs.FreeRuns.{AreRuns, tail_start}
use Rattle.gpu_alloc_base.specs.declared.free_list_block.Slot.{Slot}
use Rattle.gpu_alloc_base.specs.declared.region.FreeListRegion.{FreeListRegion}
use Rattle.gpu_alloc_base.proofs.FreeRuns.{tail_below}
use Rattle.gpu_alloc_base.proofs.Maps.{own_inserted, other_inserted}
use Rattle.gpu_alloc_freelist.specs.FreeList.{with_numbered_chunk}
use Rattle.gpu_alloc_freelist.specs.FreeListSound.{IsSoundListSpace}
use Rattle.gpu_alloc_freelist.specs.FreeListState.{ListSpace, IsFreeIn}
use Rattle.gpu_alloc_freelist.specs.Wholes.{wholes}
use Rattle.gpu_alloc_freelist.proofs.FreeListGrants.{IsFirstTail}
use Rattle.gpu_alloc_freelist.proofs.WholeRuns.{wholes_pushed, wholes_same}

module _ (s : ListSpace) (object whole : ℕ) where
  abbrev made : Chunk
  made = record { object = object; size = whole }

  abbrev held : HeldChunks
  held = (with_numbered_chunk s object whole).chunks

  -- those that were lie in other chunks
  pub wholes_begun : IsSoundListSpace s → (regions : List FreeListRegion) → AreRuns regions (IsFreeIn s) → wholes held regions ≡ wholes s.chunks regions
  wholes_begun sound regions runs = wholes_same held s.chunks regions (λ r has.
      let first = runs.spaced.free r has r.start (omega arith) (runs.spaced.nonempty r has) in
      let other : r.chunk ≢ s.latest + 1 = λ same. omega (arith, same, (sound.numbers r.chunk first.held first.is).1) in
      other_inserted s.chunks (s.latest + 1) made r.chunk other)

  -- the front of the chunk ends before it
  pub wholes_begun_behind : (size alignment : ℕ) (slot : Slot) → IsFirstTail s object whole size alignment slot → IsSoundListSpace s → (regions new : List FreeListRegion) → AreRuns regions (IsFreeIn s)
      → new ≡ regions ++ record { chunk = s.latest + 1; start = 0; end = slot.offset } ∷ [] → wholes held new ≡ wholes s.chunks regions
  wholes_begun_behind size alignment slot of sound regions new runs pushed =
      let start : slot.offset ≡ tail_start size alignment whole = ap (λ (x : Slot). x.offset) of.is in
      ap (wholes held) pushed
      ∙ wholes_pushed held regions (record { chunk = s.latest + 1; start = 0; end = slot.offset }) made (own_inserted s.chunks (s.latest + 1) made) (omega (arith, start, of.some, of.inside, tail_below size alignment whole))
      ∙ wholes_begun sound regions runs
