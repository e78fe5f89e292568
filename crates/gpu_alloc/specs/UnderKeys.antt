-- All blocks in hand, under keys of the caller's own, with the allocator and the device.
use Rattle.std.specs.Prelude.{◌≡◌, ℕ, ◌+◌, List, [], length, Option, Some, None}
use Rattle.std.specs.FinSet as set
use Rattle.gpu_alloc_types.specs.Device.{Object}
use Rattle.gpu_alloc_types.specs.Properties.{Properties}
use Rattle.gpu_alloc_block.specs.Agreement.{Agrees}
use Rattle.gpu_alloc_block.specs.Keyed.{IsSetUnder, under}
use Rattle.gpu_alloc_block.specs.Kept.{AreKept, AddsInHand, RemovesInHand}
use Rattle.gpu_alloc_block.specs.State.{Block, IsOwned, State}
use Rattle.gpu_alloc.specs.Owned.{Adds, Removes}

-- A block is put under a key that has none.
pub record PutsUnder (entries : List (ℕ × Block)) (key : ℕ) (b : Block) (more : List (ℕ × Block)) : Type 0 where
  pub free : under entries key ≡ None
  pub set : IsSetUnder entries key (Some b) more
  pub count : length more ≡ length entries + 1

-- The block under a key is taken out.
pub record TakesUnder (entries : List (ℕ × Block)) (key : ℕ) (b : Block) (fewer : List (ℕ × Block)) : Type 0 where
  pub taken : under entries key ≡ Some b
  pub set : IsSetUnder entries key None fewer
  pub count : length fewer + 1 ≡ length entries

-- Allocator and device agree, the blocks are kept under their keys, and nothing else is live.
pub record AreAllKept (s : State) (p : Properties) (objects : ℕ → Option Object) (entries : List (ℕ × Block))
    : Type 0 where
  pub agrees : Agrees s p objects
  pub kept : AreKept s p objects (under entries)
  pub count : set.len s.live ≡ length entries

-- That stays so as blocks are granted and put, or taken out and returned, and what is taken out is owned.
pub record AllComeAndGo : Type 0 where
  pub comes : (s after : State) (p q : Properties) (old new : ℕ → Option Object) (entries more : List (ℕ × Block))
      (key : ℕ) (b : Block) → AreAllKept s p old entries → PutsUnder entries key b more → Agrees after q new
      → AddsInHand s p old after q new b → Adds s after b → AreAllKept after q new more
  pub owned : (s : State) (p : Properties) (objects : ℕ → Option Object) (entries fewer : List (ℕ × Block)) (key : ℕ)
      (b : Block) → AreAllKept s p objects entries → TakesUnder entries key b fewer → IsOwned s b
  pub goes : (s after : State) (p q : Properties) (old new : ℕ → Option Object) (entries fewer : List (ℕ × Block))
      (key : ℕ) (b : Block) → AreAllKept s p old entries → TakesUnder entries key b fewer → Agrees after q new
      → RemovesInHand s p old b after q new → Removes s b after → AreAllKept after q new fewer
  pub none : (s : State) (p : Properties) (objects : ℕ → Option Object) (entries : List (ℕ × Block))
      → Agrees s p objects → set.len s.live ≡ 0 → entries ≡ [] → AreAllKept s p objects entries
