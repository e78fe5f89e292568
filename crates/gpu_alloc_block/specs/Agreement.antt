-- When an allocator, or one block, and the device agree.
use Rattle.std.specs.Prelude.{◌≡◌, ◌≢◌, ◌⊎◌, ℕ, ◌+◌, ◌%◌, ◌<◌, ◌≤◌, true, false, Option, Some, None}
use Rattle.std.specs.Prelude.{IfSome, IsSome}
use Rattle.std.specs.FinMap as map
use Rattle.gpu_alloc_types.specs.Flags.{has_bit, host_visible}
use Rattle.gpu_alloc_types.specs.Properties.{Properties, is_host_visible, is_non_coherent, props_at, atom_of}
use Rattle.gpu_alloc_types.specs.Device.{Object, HeldWith, Range}
use Rattle.gpu_alloc_block.specs.InHand.{AreTwo}
use Rattle.gpu_alloc_block.specs.Ranges.{own_mapping}
use Rattle.gpu_alloc_block.specs.declared.block.Mapping.{Mapping}
use Rattle.gpu_alloc_block.specs.declared.block.Kind.{Kind}
use Rattle.gpu_alloc_block.specs.declared.block.Kind.TheVariants.{Dedicated, Imported, BuddyChunk, FreeListChunk, FitChunk}
use Rattle.gpu_alloc_block.specs.State.{HeldObject, Span, State, Block, IsLive, IsOwned, is_shared}

-- a shared object is mapped whole where it is host-visible
abbrev pub IsMappedWhole : Properties → Object → Type 0
IsMappedWhole p o = is_host_visible p o.memory_type ≡ true → o.mapped ≡ Some (0, o.size)

-- an import lies inside its object. Where it must be flushed, it ends on the atom or at the object's end
pub record IsInside (p : Properties) (span : Span) (o : Object) : Type 0 where
  pub within : span.offset + span.size ≤ o.size
  pub finish : is_non_coherent p o.memory_type ≡ true → ((span.offset + span.size) % p.non_coherent_atom_size ≡ 0)
      ⊎ (span.offset + span.size ≡ o.size)

-- the device has the object as the allocator counts it, depending on what it is held for
abbrev pub IsCountedFor : Kind → State → ℕ → ℕ → Object → Type 0
IsCountedFor Dedicated s name counted o = o.size ≡ counted
IsCountedFor Imported s name counted o = (span : Span) → IsLive s span → span.object ≡ name → IsInside s.properties span o
IsCountedFor BuddyChunk s name counted o = (o.size ≡ counted) × IsMappedWhole s.properties o
IsCountedFor (FreeListChunk number) s name counted o = (o.size ≡ counted) × IsMappedWhole s.properties o
IsCountedFor FitChunk s name counted o = (o.size ≡ counted) × IsMappedWhole s.properties o

pub record IsHeldThere (s : State) (name : ℕ) (h : HeldObject) (o : Object) : Type 0 where
  pub of_type : o.memory_type ≡ h.memory_type
  pub of_size : IsCountedFor h.kind s name h.counted o

-- The device has the properties that the allocator was given, and holds what the allocator holds.
pub record Agrees (s : State) (p : Properties) (objects : ℕ → Option Object) : Type 0 where
  pub properties : p ≡ s.properties
  pub holds : (name : ℕ) → IfSome (map.get s.held name) (λ h. HeldWith objects name (IsHeldThere s name h))

-- The same for one block, whichever allocator it is of.

-- a mapping is some bytes inside the block
pub record IsOfBlock (b : Block) (m : Mapping) : Type 0 where
  pub nonempty : 0 < m.len
  pub from : b.offset ≤ m.start
  pub to : m.start + m.len ≤ b.offset + b.size

-- the object that the device holds for a block
pub record IsBeneath (p : Properties) (b : Block) (o : Object) : Type 0 where
  pub of_type : o.memory_type ≡ b.memory_type
  pub inside : b.offset + b.size ≤ o.size
  -- a dedicated block is its whole object
  pub whole : b.kind ≡ Dedicated → (b.offset ≡ 0) × (b.size ≡ o.size)
  -- a shared object is mapped whole where it is host-visible, and a block's own exactly where the block is mapped
  pub shared : is_shared b.kind ≡ true → IsMappedWhole p o
  pub own : is_shared b.kind ≡ false → o.mapped ≡ own_mapping b
  -- a block of a shared object starts and ends on the atom; any other ends on it or at its object's end
  pub atoms : is_shared b.kind ≡ true → (b.offset % b.atom ≡ 0) × ((b.offset + b.size) % b.atom ≡ 0)
  pub finish : ((b.offset + b.size) % b.atom ≡ 0) ⊎ (b.offset + b.size ≡ o.size)

-- The block has the property bits and the atom of its memory type, and the device holds its object accordingly.
pub record IsHeldFor (b : Block) (p : Properties) (objects : ℕ → Option Object) : Type 0 where
  pub props : b.props ≡ props_at p b.memory_type
  pub atom : b.atom ≡ atom_of p b.memory_type
  pub mapping : IfSome b.mapping (IsOfBlock b)
  -- only host-visible memory is mapped
  pub visible : IsSome b.mapping → has_bit b.props host_visible ≡ true
  pub there : HeldWith objects b.object (IsBeneath p b)

-- A block agrees with a device that offers these properties and holds these objects.
unfoldable pub BlockAgrees : Block → Properties → (ℕ → Option Object) → Type 0
BlockAgrees b p objects = IsHeldFor b p objects

-- A range of a block's object that lies inside the block. Only an import's may begin before the block, by less than one
-- atom.
pub record LiesInBlock (b : Block) (r : Range) : Type 0 where
  pub start : b.kind ≢ Imported → b.offset ≤ r.offset
  pub near : b.offset < r.offset + b.atom
  pub finish : r.offset + r.size ≤ b.offset + b.size

-- What a block's call keeps from one device state to the next: the agreement of each allocator that owns the block or
-- does not hold its object, and of each block of another object. Where the object is shared, it keeps all agreement.
pub record KeepsAgreement (b : Block) (p : Properties) (old : ℕ → Option Object) (q : Properties)
    (new : ℕ → Option Object) : Type 0 where
  pub owner : (s : State) → IsOwned s b → Agrees s p old → Agrees s q new
  pub stranger : (s : State) → map.get s.held b.object ≡ None → Agrees s p old → Agrees s q new
  pub others : (c : Block) → c.object ≢ b.object → BlockAgrees c p old → BlockAgrees c q new
  pub two : (c : Block) → AreTwo b c → BlockAgrees c p old → BlockAgrees c q new
  pub two_back : (c : Block) → AreTwo c b → BlockAgrees c p old → BlockAgrees c q new
  pub shared_owner : (s : State) → is_shared b.kind ≡ true → Agrees s p old → Agrees s q new
  pub shared_others : (c : Block) → is_shared b.kind ≡ true → BlockAgrees c p old → BlockAgrees c q new

-- What an allocator's call keeps from one device state to the next: the agreement of each block that stays owned.
unfoldable pub KeepsBlocks : State → Properties → (ℕ → Option Object) → State → Properties → (ℕ → Option Object) → Type 0
KeepsBlocks s p old after q new =
    (b : Block) → IsOwned s b → IsOwned after b → BlockAgrees b p old → BlockAgrees b q new

-- A call keeps this exactly where each block stays in agreement: either fact gives the other.
pub record KeptBlocksAgree : Type 0 where
  pub each : (s after : State) (b : Block) (p q : Properties) (old new : ℕ → Option Object)
      → KeepsBlocks s p old after q new → IsOwned s b → IsOwned after b → BlockAgrees b p old → BlockAgrees b q new
