-- How contracts see these values.
use Rattle.std.specs.Prelude.{ℕ, refl}
use Rattle.std.specs.Coded.{Coded, code_by, coded×, coded_ℕ}
use Rattle.gpu_alloc_base.specs.Chunks.{Chunk}
use Rattle.gpu_alloc_base.specs.declared.buddy_block.Leaf.{Leaf}
use Rattle.gpu_alloc_base.specs.declared.config.Config.{Config}
use Rattle.gpu_alloc_base.specs.declared.free_list_block.Slot.{Slot}

abbrev pub config_code : Coded Config
config_code =
    code_by ((ℕ × (ℕ × ℕ)) × ((ℕ × ℕ) × (ℕ × ℕ)))
    (coded× (coded× coded_ℕ (coded× coded_ℕ coded_ℕ)) (coded× (coded× coded_ℕ coded_ℕ) (coded× coded_ℕ coded_ℕ)))
    (λ c. (
      (c.dedicated_threshold, (c.preferred_dedicated_threshold, c.transient_dedicated_threshold)),
      ((c.starting_free_list_chunk, c.final_free_list_chunk), (c.minimal_buddy_size, c.initial_buddy_dedicated_size)),
    ))
    (λ n. record {
      dedicated_threshold = n.0.0;
      preferred_dedicated_threshold = n.0.1.0;
      transient_dedicated_threshold = n.0.1.1;
      starting_free_list_chunk = n.1.0.0;
      final_free_list_chunk = n.1.0.1;
      minimal_buddy_size = n.1.1.0;
      initial_buddy_dedicated_size = n.1.1.1;
    })
    (λ _. refl)

abbrev pub leaf_code : Coded Leaf
leaf_code =
    code_by (ℕ × (ℕ × (ℕ × (ℕ × ℕ)))) (coded× coded_ℕ (coded× coded_ℕ (coded× coded_ℕ (coded× coded_ℕ coded_ℕ))))
    (λ b. (b.object, (b.chunk, (b.offset, (b.size, b.index)))))
    (λ c. record { object = c.0; chunk = c.1.0; offset = c.1.1.0; size = c.1.1.1.0; index = c.1.1.1.1 }) (λ _. refl)

abbrev pub chunk_code : Coded Chunk
chunk_code =
    code_by (ℕ × ℕ) (coded× coded_ℕ coded_ℕ) (λ c. (c.object, c.size)) (λ c. record { object = c.0; size = c.1 })
    (λ _. refl)

abbrev pub slot_code : Coded Slot
slot_code =
    code_by (ℕ × (ℕ × (ℕ × ℕ))) (coded× coded_ℕ (coded× coded_ℕ (coded× coded_ℕ coded_ℕ)))
    (λ b. (b.object, (b.chunk, (b.offset, b.size))))
    (λ c. record { object = c.0; chunk = c.1.0; offset = c.1.1.0; size = c.1.1.1 }) (λ _. refl)
