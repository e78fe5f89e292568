-- A store of no chunk.
use Rattle.std.proofs.Common.{◌≡◌, ℕ, List, [], Option, Some, None, IsSome, option_map, sym, ◌∙◌, ap, arith}
use Rattle.std.specs.Prelude as list
use Rattle.std.specs.Prelude.{slice_index_or}
use Rattle.std.specs.FinMap as map
use Rattle.std.specs.FinSet as set
use Rattle.std.specs.Ordering.{nat_cmp}
use Rattle.slab.specs.Slab.{Slab, entries_from, get}
use Rattle.gpu_alloc_base.specs.Accounts.{HeldChunks}
use Rattle.gpu_alloc_runs.specs.Inside.{IsStoredInTiles, chunk_of_row, chunk_size_in, chunks_of_rows, fit_space_in, live_slot, live_slots_in, made_of, row_size}
use Rattle.gpu_alloc_runs.specs.Links.{AreNodesKept}
use Rattle.gpu_alloc_runs.specs.Space.{no_fit_space}
use Rattle.gpu_alloc_runs.specs.Tiles.{tile_in}
use Rattle.gpu_alloc_runs.specs.declared.fits.Chunk.{Chunk as Row}
use Rattle.gpu_alloc_runs.specs.declared.tile.Node.{Node}
use Rattle.gpu_alloc_runs.specs.declared.tile.Tile.{Tile}

module _ {M : Type 0} (object : M → ℕ) (rows : Slab (Row M)) (nodes : Slab Node) (no_rows : rows.slots ≡ []) (no_nodes : nodes.slots ≡ []) where
  nowhere : (k : ℕ) (a : Tile) → tile_in nodes k ≡ Some a → ⊥
  nowhere k a is =
      let e : None ≡ Some a = sym (ap (λ (xs : List (Option Node)). option_map (λ (n : Node). n.tile) (slice_index_or xs k None)) no_nodes) ∙ is in cc

  no_row : (k : ℕ) (row : Row M) → get rows k ≡ Some row → ⊥
  no_row k row is =
      let e : None ≡ Some row = sym (ap (λ (xs : List (Option (Row M))). slice_index_or xs k None) no_rows) ∙ is in cc

  no_chunks : chunks_of_rows object rows ≡ map.empty
  no_chunks = ap (λ (xs : List (Option (Row M))). map.from_entries {R = nat_cmp} (list.map (λ (e : ℕ × Row M). (e.0, chunk_of_row object e.1)) (entries_from 0 xs))) no_rows

  no_live : live_slots_in (chunks_of_rows object rows) nodes ≡ set.empty
  unfolding live_slots_in
  no_live = ap (λ (xs : List (Option Node)). set.from_list (made_of (live_slot (chunks_of_rows object rows)) (entries_from 0 xs))) no_nodes

  pub empty_space : fit_space_in (chunks_of_rows object rows) nodes ≡ no_fit_space
  empty_space = λ i. record { chunks = no_chunks i; live = no_live i }

  empty_kept : AreNodesKept (chunk_size_in rows) nodes
  empty_kept = record {
    tiled = record {
      nonempty = λ k a is. absurd (nowhere k a is);
      inside = λ k a is. absurd (nowhere k a is);
      apart = λ j k a b is_a is_b same lt gt. absurd (nowhere j a is_a);
      covers = λ chunk at lt.
          let e : chunk_size_in rows chunk ≡ 0 = ap (λ (xs : List (Option (Row M))). row_size (slice_index_or xs chunk None)) no_rows in
          absurd (omega (arith, lt, e));
    };
    calm = λ j k a b is_a is_b both. nowhere j a is_a;
    linked = λ j k a b is_a is_b near. absurd (nowhere j a is_a);
  }

  pub empty_stored : IsStoredInTiles object rows nodes None
  empty_stored = record {
    kept = empty_kept;
    sizes = λ k row is. absurd (no_row k row is);
    one_object = λ i k a b is_a is_b same. absurd (no_row i a is_a);
    spare_is = λ key w. (let none = ap (λ (m : HeldChunks). map.get m key) no_chunks ∙ map.get-empty nat_cmp key in let there : IsSome (map.get (chunks_of_rows object rows) key) = w.held in absurd (cc));
  }
