-- How contracts see these values.
use Rattle.std.specs.Prelude.{ℕ, refl}
use Rattle.std.specs.Coded.{Coded, code_by, coded×, coded_ℕ}
use Rattle.std.specs.FinMap as map
use Rattle.std.specs.FinSet as set
use Rattle.std.specs.Ordering.{nat_cmp}
use Rattle.gpu_alloc_base.specs.Codes.{chunk_code, leaf_code}
use Rattle.gpu_alloc_buddy.specs.BuddyRule.{Stored}
use Rattle.gpu_alloc_buddy.specs.BuddyState.{Buddy}
use Rattle.gpu_alloc_pairs.specs.Codes.{buddy_store_code}
use Rattle.gpu_alloc_pairs.specs.Store.{BuddyStore}
use Rattle.gpu_alloc_base.specs.Chunks.{Chunk}
use Rattle.gpu_alloc_base.specs.Leaves.{leaf_cmp}

abbrev pub buddy_code : Coded Buddy
buddy_code =
    code_by (map.FinMap nat_cmp Chunk × (set.FinSet leaf_cmp × ((ℕ × ℕ) × (ℕ × (ℕ × ℕ)))))
    (coded× (map.code coded_ℕ chunk_code)
    (coded× (set.code leaf_code) (coded× (coded× coded_ℕ coded_ℕ) (coded× coded_ℕ (coded× coded_ℕ coded_ℕ)))))
    (λ b. (b.chunks, (b.live, ((b.next_chunk, b.minimal), (b.memory_type, (b.props, b.atom))))))
    (λ c. record {
      chunks = c.0;
      live = c.1.0;
      next_chunk = c.1.1.0.0;
      minimal = c.1.1.0.1;
      memory_type = c.1.1.1.0;
      props = c.1.1.1.1.0;
      atom = c.1.1.1.1.1;
    })
    (λ _. refl)

abbrev pub stored_code : Coded Stored
stored_code =
    code_by (Buddy × BuddyStore) (coded× buddy_code buddy_store_code) (λ s. (s.state, s.pairs))
    (λ c. record { state = c.0; pairs = c.1 }) (λ _. refl)
