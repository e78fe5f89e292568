-- What an import adds, and when allocator and device agree afterwards.
use Rattle.std.specs.Prelude.{◌≡◌, ◌≢◌, ◌⊎◌, ◌↔◌, ℕ, ◌+◌, ◌%◌, ◌≤◌, true, Option, None, Result, IfOk}
use Rattle.std.specs.FinMap as map
use Rattle.std.specs.Result.{result_map_both}
use Rattle.gpu_alloc_types.specs.declared.types.OutOfMemory.{OutOfMemory}
use Rattle.gpu_alloc_types.specs.Device.{Object, Event, HeldWith}
use Rattle.gpu_alloc_types.specs.Device.Event.{Allocated, Deallocated}
use Rattle.gpu_alloc_types.specs.Properties.{Properties, is_non_coherent}
use Rattle.gpu_alloc_block.specs.Agreement.{Agrees, BlockAgrees}
use Rattle.gpu_alloc_block.specs.Kept.{AddsInHand, AreKept, outside}
use Rattle.gpu_alloc_block.specs.State.{HeldObject, Block, State, granted_block, IsOwned}
use Rattle.gpu_alloc_block.specs.declared.block.Kind.TheVariants.{Imported}
use Rattle.gpu_alloc.specs.Candidates.{holding}

-- an import as a held object: it counts as many bytes as its caller gave
abbrev pub imported_object : (memory_type size : ℕ) → HeldObject
imported_object memory_type size = record { memory_type = memory_type; counted = size; kind = Imported }

-- an unmapped block of an import: exactly the given span
abbrev pub imported_block : State → (object memory_type offset size : ℕ) → Block
imported_block s object t offset size =
    granted_block s t Imported (record { object = object; offset = offset; size = size })

-- The block is the given span of the object, which is held for it from then on. Nothing else changes.
pub record Imports (s : State) (object memory_type offset size : ℕ) (new : State) (b : Block) : Type 0 where
  pub block : b ≡ imported_block s object memory_type offset size
  pub state : new ≡ holding s (imported_object memory_type size) b
  pub owned : IsOwned new b

-- An object on the device that may be imported: of the memory type, unmapped, with the range inside it. Where the
-- memory type must be flushed, the range ends on the atom or at the object's end.
pub record IsImportable (p : Properties) (memory_type offset size : ℕ) (o : Object) : Type 0 where
  pub of_type : o.memory_type ≡ memory_type
  pub unmapped : o.mapped ≡ None
  pub within : offset + size ≤ o.size
  pub finish : is_non_coherent p memory_type ≡ true → ((offset + size) % p.non_coherent_atom_size ≡ 0)
      ⊎ (offset + size ≡ o.size)

-- a device that offers these properties holds such an object under the name
unfoldable pub MayBeImported : Properties → (ℕ → Option Object) → (object memory_type offset size : ℕ) → Type 0
MayBeImported p objects object t offset size = HeldWith objects object (IsImportable p t offset size)

-- On every device that agreed with the allocator and held such an object, the allocator agrees with it afterwards, and
-- so does the block.
unfoldable pub ImportAgrees : State → (object memory_type offset size : ℕ) → State → Block → Type 0
ImportAgrees s object t offset size new b =
    (p : Properties) (objects : ℕ → Option Object) → Agrees s p objects
    → MayBeImported p objects object t offset size → Agrees new p objects × BlockAgrees b p objects

-- Either fact gives the other.
pub record ImportsAgree : Type 0 where
  pub allocator : (s new : State) (b : Block) (object memory_type offset size : ℕ) (p : Properties)
      (objects : ℕ → Option Object) → ImportAgrees s object memory_type offset size new b → Agrees s p objects
      → MayBeImported p objects object memory_type offset size → Agrees new p objects
  pub block : (s new : State) (b : Block) (object memory_type offset size : ℕ) (p : Properties)
      (objects : ℕ → Option Object) → ImportAgrees s object memory_type offset size new b → Agrees s p objects
      → MayBeImported p objects object memory_type offset size → BlockAgrees b p objects

-- On every device, whose bytes do not change, blocks in hand stay so. Where it agreed with the allocator and held such
-- an object, the block joins them. Of what was outside the allocator it takes the object and nothing else.
pub record ImportsInHand (s : State) (object memory_type offset size : ℕ) (new : State) (b : Block) : Type 0 where
  pub kept : (p : Properties) (objects : ℕ → Option Object) (at : ℕ → Option Block) → AreKept s p objects at
      → AreKept new p objects at
  pub joins : (p : Properties) (objects : ℕ → Option Object) → Agrees s p objects
      → MayBeImported p objects object memory_type offset size → AddsInHand s p objects new p objects b
  pub taken : (objects : ℕ → Option Object) → outside new objects object ≡ None
  pub others : (objects : ℕ → Option Object) (name : ℕ) → name ≢ object
      → outside new objects name ≡ outside s objects name

-- Which objects may be imported: exactly these. Where the range starts is left open. So a range may also be imported if
-- it ends where one that may be imported does, or before it on the atom.
pub record WhichMayBeImported : Type 0 where
  pub exactly : (p : Properties) (objects : ℕ → Option Object) (object memory_type offset size : ℕ)
      → HeldWith objects object (IsImportable p memory_type offset size)
      ↔ MayBeImported p objects object memory_type offset size
  pub as_far : (p : Properties) (objects : ℕ → Option Object) (object memory_type offset size from len : ℕ)
      → MayBeImported p objects object memory_type offset size → from + len ≡ offset + size
      → MayBeImported p objects object memory_type from len
  pub less_far : (p : Properties) (objects : ℕ → Option Object) (object memory_type offset size from len : ℕ)
      → MayBeImported p objects object memory_type offset size → from + len ≤ offset + size
      → (from + len) % p.non_coherent_atom_size ≡ 0 → MayBeImported p objects object memory_type from len

-- A device's calls for its caller, which are not calls of an allocator.

module _ (s : State) {D : Type 0} (step : D → Event → D → Type 0) (properties : D → Properties)
    (objects : D → ℕ → Option Object) (now : D) where
  -- The device was asked for an object: the allocator and each block agree with it as before. If it made one, its name
  -- is new to such an allocator, and the whole object may be imported.
  pub record MadeObjects {M : Type 0} (name : M → ℕ) (answer : Result M OutOfMemory) : Type 0 where
    pub allocator : (old : D) (size memory_type flags : ℕ)
        → step old (Allocated size memory_type flags (result_map_both name (λ e. e) answer)) now
        → Agrees s (properties old) (objects old) → Agrees s (properties now) (objects now)
    pub blocks : (old : D) (size memory_type flags : ℕ) (b : Block)
        → step old (Allocated size memory_type flags (result_map_both name (λ e. e) answer)) now
        → BlockAgrees b (properties old) (objects old) → BlockAgrees b (properties now) (objects now)
    pub unheld : (old : D) (size memory_type flags : ℕ)
        → step old (Allocated size memory_type flags (result_map_both name (λ e. e) answer)) now
        → Agrees s (properties old) (objects old) → IfOk answer (λ memory. map.get s.held (name memory) ≡ None)
    pub whole : (old : D) (size memory_type flags : ℕ)
        → step old (Allocated size memory_type flags (result_map_both name (λ e. e) answer)) now
        → IfOk answer (λ memory. MayBeImported (properties now) (objects now) (name memory) memory_type 0 size)

  -- The device released an object that the allocator does not hold: the allocator agrees as before, and so does each
  -- block that it owns.
  pub record ObjectsOfOthers : Type 0 where
    pub allocator : (old : D) (name : ℕ) → step old (Deallocated name) now → map.get s.held name ≡ None
        → Agrees s (properties old) (objects old) → Agrees s (properties now) (objects now)
    pub blocks : (old : D) (name : ℕ) (b : Block) → step old (Deallocated name) now → map.get s.held name ≡ None
        → IsOwned s b → BlockAgrees b (properties old) (objects old) → BlockAgrees b (properties now) (objects now)
