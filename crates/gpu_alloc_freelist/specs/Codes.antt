-- How contracts see these values.
use Rattle.std.specs.Prelude.{ℕ, List, refl}
use Rattle.std.specs.Coded.{Coded, code_by, coded×, coded_ℕ, coded_list}
use Rattle.std.specs.FinMap as map
use Rattle.std.specs.FinSet as set
use Rattle.std.specs.Ordering.{nat_cmp}
use Rattle.gpu_alloc_base.specs.Codes.{chunk_code, slot_code}
use Rattle.gpu_alloc_base.specs.Accounts.{HeldChunks}
use Rattle.gpu_alloc_base.specs.Chunks.{Chunk}
use Rattle.gpu_alloc_base.specs.declared.region.FreeListRegion.{FreeListRegion}
use Rattle.gpu_alloc_freelist.specs.Chunks.{NumberedChunks}
use Rattle.gpu_alloc_freelist.specs.FreeListState.{FreeListState, ListSpace, ListStore, SizedList}
use Rattle.gpu_alloc_freelist.specs.Live.{LiveBlocks}
use Rattle.gpu_alloc_freelist.specs.Runs.{Runs}
use Rattle.gpu_alloc_base.specs.Slots.{slot_cmp}
use Rattle.gpu_alloc_shared.specs.Sized.{sized_code}

abbrev pub list_space_code : Coded ListSpace
list_space_code =
    code_by (map.FinMap nat_cmp Chunk × (set.FinSet slot_cmp × ℕ))
    (coded× (map.code coded_ℕ chunk_code) (coded× (set.code slot_code) coded_ℕ))
    (λ s. (s.chunks, (s.live, s.latest)))
    (λ c. record { chunks = c.0; live = c.1.0; latest = c.1.1 }) (λ _. refl)

abbrev pub list_store_code : Coded ListStore
list_store_code =
    code_by (ListSpace × ℕ) (coded× list_space_code coded_ℕ) (λ s. (s.space, s.room)) (λ c. record { space = c.0; room = c.1 })
    (λ _. refl)

abbrev pub listing_code : Coded FreeListState
listing_code = sized_code list_space_code

abbrev pub sized_list_code : Coded SizedList
sized_list_code =
    code_by (FreeListState × ℕ) (coded× listing_code coded_ℕ) (λ s. (s.state, s.room)) (λ c. record { state = c.0; room = c.1 })
    (λ _. refl)

abbrev pub region_code : Coded FreeListRegion
region_code =
    code_by (ℕ × (ℕ × ℕ)) (coded× coded_ℕ (coded× coded_ℕ coded_ℕ)) (λ r. (r.chunk, (r.start, r.end)))
    (λ c. record { chunk = c.0; start = c.1.0; end = c.1.1 }) (λ _. refl)

abbrev pub runs_code : Coded Runs
runs_code =
    code_by (List FreeListRegion × ℕ) (coded× (coded_list region_code) coded_ℕ) (λ r. (r.regions, r.room))
    (λ c. record { regions = c.0; room = c.1 }) (λ _. refl)

abbrev pub live_blocks_code : Coded LiveBlocks
live_blocks_code =
    code_by (set.FinSet slot_cmp × (ℕ × ℕ)) (coded× (set.code slot_code) (coded× coded_ℕ coded_ℕ))
    (λ l. (l.slots, (l.count, l.room))) (λ c. record { slots = c.0; count = c.1.0; room = c.1.1 }) (λ _. refl)

abbrev pub numbered_chunks_code : Coded NumberedChunks
numbered_chunks_code =
    code_by (HeldChunks × ℕ) (coded× (map.code coded_ℕ chunk_code) coded_ℕ) (λ l. (l.held, l.room))
    (λ c. record { held = c.0; room = c.1 }) (λ _. refl)
