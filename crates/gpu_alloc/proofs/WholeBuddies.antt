-- The chunks and the live blocks of buddy allocators, as they are listed and counted.
use Rattle.std.proofs.Common.{◌≡◌, ◌<◌, ℕ, ◌^◌, List, map, sym}
use Rattle.std.specs.FinSet as set
use Rattle.std.specs.List.{Contains, IsDistinct}
use Rattle.std.specs.Ordering.{eq_by_cmp}
use Rattle.gpu_alloc_base.specs.Chunks.{Chunk}
use Rattle.gpu_alloc_base.specs.Leaves.{leaf_cmp}
use Rattle.gpu_alloc_base.specs.declared.buddy_block.Leaf.{Leaf}
use Rattle.gpu_alloc_base.proofs.Leaves.{leaf_exact, leaf_total}
use Rattle.gpu_alloc_block.specs.Parts.{HaveOwnObjects}
use Rattle.gpu_alloc_block.specs.declared.block.Kind.TheVariants.{BuddyChunk}
use Rattle.gpu_alloc_buddy.specs.BuddyRule.{buddy_rule}
use Rattle.gpu_alloc_buddy.specs.BuddySound.{IsSoundBuddy}
use Rattle.gpu_alloc_buddy.specs.BuddyState.{Buddy}
use Rattle.gpu_alloc_pairs.specs.HeldLists.{ListsChunks}
use Rattle.gpu_alloc_pairs.specs.declared.pairs.Chunk.{Chunk as Row}
use Rattle.gpu_alloc.specs.Listing.{AreOnce}
use Rattle.gpu_alloc.specs.Spans.{span_in}
use Rattle.gpu_alloc.specs.Stores.{block_span, chunk_row, part}
use Rattle.gpu_alloc.specs.declared.spans.HeldRow.{HeldRow}
use Rattle.gpu_alloc.proofs.WholeRows.{AreRowsOf, key_listed, listed_by_key, rows_of, own_spans_are, own_spans_once}
use Rattle.gpu_alloc.proofs.Wholes.{one_buddy}

-- A buddy allocator's chunks.

-- what a chunk of a memory type is listed as
abbrev pub buddy_row : {M : Type 0} → (M → ℕ) → ℕ → ℕ × Row M → ℕ × HeldRow
buddy_row object memory_type e =
    (object e.1.memory, record { memory_type = memory_type; counted = 2 ^ e.1.order; kind = BuddyChunk })

module _ {M : Type 0} (object : M → ℕ) (b : Buddy) (named : HaveOwnObjects b.chunks) (listed : List (ℕ × Row M)) (lists : ListsChunks object b.chunks listed) where
  abbrev said : Row M → Chunk
  said row = record { object = object row.memory; size = 2 ^ row.order }

  -- each is short
  pub is_short : (e : ℕ × Row M) → Contains listed e → e.1.order < 64
  is_short e has = lists.short e.0 e.1 (key_listed said b.chunks named lists.rows lists.exact listed lists.are e has)

  pub buddy_rows : (memory_type : ℕ) → b.memory_type ≡ memory_type → AreRowsOf (part buddy_rule (λ key. BuddyChunk) b).held (buddy_row object memory_type) listed
  buddy_rows memory_type typed =
      rows_of named (listed_by_key said b.chunks named lists.rows lists.exact listed lists.are) (chunk_row buddy_rule (λ key. BuddyChunk) b) (buddy_row object memory_type)
      (λ e i. (object e.1.memory, record { memory_type = sym typed i; counted = 2 ^ e.1.order; kind = BuddyChunk }))

-- Its live blocks.

module _ (b : Buddy) (sound : IsSoundBuddy b) (leaves : List Leaf) (exact : set.from_list leaves ≡ b.live) (once : IsDistinct (eq_by_cmp leaf_cmp) leaves) where
  pub leaf_rows_are : set.from_list (map span_in leaves) ≡ (part buddy_rule (λ key. BuddyChunk) b).live
  leaf_rows_are = own_spans_are leaf_total leaf_exact (block_span buddy_rule) b.live (one_buddy b sound) leaves exact once

  pub leaf_rows_once : AreOnce (map span_in leaves)
  leaf_rows_once = own_spans_once leaf_total leaf_exact (block_span buddy_rule) b.live (one_buddy b sound) leaves exact once
