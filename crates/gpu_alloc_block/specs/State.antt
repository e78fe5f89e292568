-- What an allocator holds and has given out.
use Rattle.std.specs.Prelude.{◌≡◌, ◌≢◌, ◌⊎◌, ℕ, ◌+◌, ◌≤◌, ◌==◌, Bool, true, false, List, [], ◌∷◌, cond, Option, Some}
use Rattle.std.specs.Prelude.{None, IsTrue, sum_by, get_or}
use Rattle.std.specs.FinMap as map
use Rattle.std.specs.FinSet as set
use Rattle.std.specs.declared.cmp.Ordering.{Ordering}
use Rattle.std.specs.Ordering.{nat_cmp}
use Rattle.std.specs.Cmp.Lexicographic.{slice_cmp}
use Rattle.gpu_alloc_types.specs.Properties.{Properties, heap_at, props_at, atom_of}
use Rattle.gpu_alloc_block.specs.declared.block.Kind.{Kind}
use Rattle.gpu_alloc_block.specs.declared.block.Kind.TheVariants.{Dedicated, Imported, BuddyChunk, FreeListChunk, FitChunk}
use Rattle.gpu_alloc_block.specs.declared.block.Mapping.{Mapping}
use Rattle.gpu_alloc_block.specs.declared.sharing.Sharing.{Sharing}
use Rattle.gpu_alloc_base.specs.declared.config.Config.{Config}

-- whether many blocks may share an object that is held for this
abbrev pub is_shared : Kind → Bool
is_shared Dedicated = false
is_shared Imported = false
is_shared BuddyChunk = true
is_shared (FreeListChunk number) = true
is_shared FitChunk = true

-- a held object: its memory type, what it adds to its heap's ledger, and what it is held for
pub record HeldObject : Type 0 where
  pub memory_type : ℕ
  pub counted : ℕ
  pub kind : Kind

-- a span of an object
pub record Span : Type 0 where
  pub object : ℕ
  pub offset : ℕ
  pub size : ℕ

abbrev pub span_numbers : Span → List ℕ
span_numbers s = s.object ∷ s.offset ∷ s.size ∷ []

-- the two share no byte
abbrev pub AreSpansApart : Span → Span → Type 0
AreSpansApart a b = (a.object ≢ b.object) ⊎ ((a.offset + a.size ≤ b.offset) ⊎ (b.offset + b.size ≤ a.offset))

-- by object, then offset, then size
abbrev pub span_cmp : Span → Span → Ordering
span_cmp a b = slice_cmp nat_cmp (span_numbers a) (span_numbers b)

-- A block: its span, the memory type of its object with that type's property bits and atom, what its object is held
-- for, and what it has mapped.
pub record Block : Type 0 where
  pub object : ℕ
  pub offset : ℕ
  pub size : ℕ
  pub memory_type : ℕ
  pub props : ℕ
  pub atom : ℕ
  pub kind : Kind
  pub mapping : Option Mapping

abbrev pub span_of : Block → Span
span_of b = record { object = b.object; offset = b.offset; size = b.size }

-- The state of one memory type: the next buddy chunk's least size, the next free-list chunk's least size, the number of
-- the latest free-list chunk, and the next fit chunk's least size.
pub record TypeState : Type 0 where
  pub next_chunk : ℕ
  pub list_chunk : ℕ
  pub number : ℕ
  pub fit_chunk : ℕ

-- An allocator: the held objects by name, the live spans, how many more objects may be held, and the limit of each heap
-- in bytes. Also the chunk sizes of each memory type, how requests share objects, and what `new` was given.
pub record State : Type 0 where
  pub held : map.FinMap nat_cmp HeldObject
  pub live : set.FinSet span_cmp
  pub remaining : ℕ
  pub heap_limits : List ℕ
  pub types : List TypeState
  pub sharing : Sharing
  pub config : Config
  pub properties : Properties

-- the block that a grant gives: the span, unmapped, in an object of this memory type and kind
abbrev pub granted_block : State → ℕ → Kind → Span → Block
granted_block s t kind span = record {
  object = span.object;
  offset = span.offset;
  size = span.size;
  memory_type = t;
  props = props_at s.properties t;
  atom = atom_of s.properties t;
  kind = kind;
  mapping = None;
}

abbrev pub IsLive : State → Span → Type 0
IsLive s span = IsTrue (set.contains s.live span)

-- what a held object adds to a heap's ledger
abbrev pub share : Properties → ℕ → ℕ × HeldObject → ℕ
share p heap entry = cond (heap_at p entry.1.memory_type == heap) entry.1.counted 0

-- a heap's ledger: the sum of the counted sizes of the held objects of its memory types
abbrev pub ledger : State → ℕ → ℕ
ledger s heap = sum_by (share s.properties heap) (map.entries s.held)

-- the limit of a heap, in bytes, 0 where there is no such heap
abbrev pub heap_limit : State → ℕ → ℕ
heap_limit s heap = get_or s.heap_limits heap 0

-- how many objects are held or may still be
abbrev pub total : State → ℕ
total s = s.remaining + map.len s.held

-- the block's object, span, memory type and kind are live
pub record IsOwned (s : State) (b : Block) : Type 0 where
  pub live : IsLive s (span_of b)
  pub held : (h : HeldObject) × (map.get s.held b.object ≡ Some h) × (h.memory_type ≡ b.memory_type) × (h.kind ≡ b.kind)
