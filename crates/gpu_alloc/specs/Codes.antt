-- How contracts see these values.
use Rattle.std.specs.Prelude.{ℕ, List, refl}
use Rattle.std.specs.Coded.{Coded, code_by, coded×, coded_ℕ, coded_list}
use Rattle.std.specs.FinMap as map
use Rattle.std.specs.FinSet as set
use Rattle.std.specs.Ordering.{nat_cmp}
use Rattle.gpu_alloc_types.specs.Codes.{properties_code}
use Rattle.gpu_alloc_types.specs.Properties.{Properties}
use Rattle.gpu_alloc_block.specs.State.{HeldObject, span_cmp, TypeState, State}
pub use Rattle.gpu_alloc_base.specs.Codes.{config_code, leaf_code, chunk_code, slot_code}
pub use Rattle.gpu_alloc_buddy.specs.Codes.{buddy_code}
pub use Rattle.gpu_alloc_freelist.specs.Codes.{list_space_code, list_store_code, listing_code}
use Rattle.gpu_alloc.specs.Own.{OwnTable}
use Rattle.gpu_alloc_block.specs.declared.block.Kind.{Kind}
use Rattle.gpu_alloc_block.specs.declared.sharing.Sharing.{Sharing}
pub use Rattle.gpu_alloc_fit.specs.Codes.{fitting_code}
pub use Rattle.gpu_alloc_block.specs.Codes.{kind_code, sharing_code, span_code, mapping_code, block_code}
use Rattle.gpu_alloc_base.specs.declared.config.Config.{Config}

abbrev pub held_object_code : Coded HeldObject
held_object_code =
    code_by (ℕ × (ℕ × Kind)) (coded× coded_ℕ (coded× coded_ℕ kind_code))
    (λ h. (h.memory_type, (h.counted, h.kind)))
    (λ c. record { memory_type = c.0; counted = c.1.0; kind = c.1.1 }) (λ _. refl)

abbrev pub type_state_code : Coded TypeState
type_state_code =
    code_by ((ℕ × ℕ) × (ℕ × ℕ)) (coded× (coded× coded_ℕ coded_ℕ) (coded× coded_ℕ coded_ℕ))
    (λ t. ((t.next_chunk, t.list_chunk), (t.number, t.fit_chunk)))
    (λ c. record { next_chunk = c.0.0; list_chunk = c.0.1; number = c.1.0; fit_chunk = c.1.1 }) (λ _. refl)

abbrev pub state_code : Coded State
state_code =
    code_by (map.FinMap nat_cmp HeldObject × (set.FinSet span_cmp × ((ℕ × (List ℕ × List TypeState)) × (Sharing × (Config × Properties)))))
    (coded× (map.code coded_ℕ held_object_code)
    (coded× (set.code span_code)
    (coded× (coded× coded_ℕ (coded× (coded_list coded_ℕ) (coded_list type_state_code)))
    (coded× sharing_code (coded× config_code properties_code)))))
    (λ s. (s.held, (s.live, ((s.remaining, (s.heap_limits, s.types)), (s.sharing, (s.config, s.properties))))))
    (λ c. record {
      held = c.0;
      live = c.1.0;
      remaining = c.1.1.0.0;
      heap_limits = c.1.1.0.1.0;
      types = c.1.1.0.1.1;
      sharing = c.1.1.1.0;
      config = c.1.1.1.1.0;
      properties = c.1.1.1.1.1;
    })
    (λ _. refl)

abbrev pub own_table_code : Coded OwnTable
own_table_code =
    code_by (map.FinMap nat_cmp HeldObject × (set.FinSet span_cmp × ℕ))
    (coded× (map.code coded_ℕ held_object_code) (coded× (set.code span_code) coded_ℕ))
    (λ t. (t.held, (t.live, t.room))) (λ c. record { held = c.0; live = c.1.0; room = c.1.1 }) (λ _. refl)
