-- What contracts see of a `ResourceManager`.
use Rattle.std.specs.Prelude.{◌≡◌, ◌≢◌, ℕ, List, Option, Some, refl}
use Rattle.std.specs.Coded.{Coded, code_by, coded×, coded_ℕ, coded_list}
use Rattle.std.specs.FinMap as map
use Rattle.std.specs.FinSet as set
use Rattle.std.specs.Ordering.{nat_cmp}
use Rattle.gpu_alloc_types.specs.Device.{Object}
use Rattle.gpu_alloc_types.specs.Properties.{Properties}
use Rattle.gpu_alloc_block.specs.Agreement.{Agrees}
use Rattle.gpu_alloc_block.specs.Codes.{block_code}
use Rattle.gpu_alloc_block.specs.Contents.{HasSameBytes}
use Rattle.gpu_alloc_block.specs.Kept.{AreKept, outside}
use Rattle.gpu_alloc_block.specs.State.{Block, State}
use Rattle.gpu_alloc.specs.Allocation.{IsInPages}
use Rattle.gpu_alloc.specs.Codes.{state_code}
use Rattle.gpu_alloc.specs.Pages.{SharesNoPage}
use Rattle.gpu_alloc.specs.Request.{IsGranularity}
use Rattle.gpu_slots.specs.SlotMap.{SlotState, IsGiven, IsGone}

-- its allocator, its device, the blocks by handle, the generation of each slot, and how many bytes a page has
pub record ManagerState (D : Type 0) : Type 0 where
  pub allocator : State
  pub device : D
  pub blocks : map.FinMap nat_cmp Block
  pub generations : List ℕ
  pub granularity : ℕ

abbrev pub manager_code : {D : Type 0} → Coded D → Coded (ManagerState D)
manager_code {D} d =
    code_by (State × (D × (map.FinMap nat_cmp Block × (List ℕ × ℕ))))
    (coded× state_code (coded× d (coded× (map.code coded_ℕ block_code) (coded× (coded_list coded_ℕ) coded_ℕ))))
    (λ m. (m.allocator, (m.device, (m.blocks, (m.generations, m.granularity)))))
    (λ c. record {
      allocator = c.0;
      device = c.1.0;
      blocks = c.1.1.0;
      generations = c.1.1.1.0;
      granularity = c.1.1.1.1;
    }) (λ _. refl)

module _ {D : Type 0} where
  -- the block that a handle finds
  abbrev pub block_at : ManagerState D → ℕ → Option Block
  block_at m handle = map.get m.blocks handle

  -- the handle has a block, and the block has the property
  abbrev pub FindsBlock : ManagerState D → ℕ → (Block → Type 0) → Type 0
  FindsBlock m handle P = (b : Block) × (block_at m handle ≡ Some b) × P b

  abbrev pub slots : ManagerState D → SlotState Block
  slots m = record { live = m.blocks; generations = m.generations; room = 0 }

  -- the handle was given, to a block that is there or to one that was freed
  abbrev pub WasGiven : ManagerState D → ℕ → Type 0
  WasGiven m handle = IsGiven (slots m) handle

  -- it was given, and its block was freed
  abbrev pub HasEnded : ManagerState D → ℕ → Type 0
  HasEnded m handle = IsGone (slots m) handle

  -- each handle that had ended still has
  abbrev pub StayEnded : ManagerState D → ManagerState D → Type 0
  StayEnded old new = (handle : ℕ) → HasEnded old handle → HasEnded new handle

  -- each other handle finds what it found
  abbrev pub OthersStay : ManagerState D → ManagerState D → ℕ → Type 0
  OthersStay old new handle = (other : ℕ) → other ≢ handle → block_at new other ≡ block_at old other

  -- a block that has whole pages for these bytes shares none of those pages with the block of another handle
  abbrev pub KeepsPagesApart : ManagerState D → Type 0
  KeepsPagesApart m =
      (image other size : ℕ) (b c : Block) → block_at m image ≡ Some b → block_at m other ≡ Some c → image ≢ other
      → IsInPages m.granularity size b → SharesNoPage m.granularity size b c

  -- its allocator and all its handles are unchanged
  pub record IsManagerAsBefore (old new : ManagerState D) : Type 0 where
    pub allocator : new.allocator ≡ old.allocator
    pub blocks : new.blocks ≡ old.blocks
    pub generations : new.generations ≡ old.generations

  module _ (objects : D → ℕ → Option Object) where
    -- what the device has apart from the manager's objects
    abbrev pub beside : ManagerState D → ℕ → Option Object
    beside m name = outside m.allocator (objects m.device) name

    -- that is unchanged
    abbrev pub IsSameBeside : ManagerState D → ManagerState D → Type 0
    IsSameBeside old new = (name : ℕ) → beside new name ≡ beside old name

    -- each byte of a block that had a handle and still has it is unchanged
    abbrev pub KeepsBytes : ManagerState D → ManagerState D → Type 0
    KeepsBytes old new = (handle : ℕ) (b : Block) → block_at old handle ≡ Some b → block_at new handle ≡ Some b
        → HasSameBytes b (objects old.device) (objects new.device)

-- What holds of a manager between calls: allocator and device agree, its blocks are kept, nothing else is live, and its
-- granularity is valid.
pub record IsManaged (s : State) (p : Properties) (objects : ℕ → Option Object) (blocks : map.FinMap nat_cmp Block)
    (granularity : ℕ) : Type 0 where
  pub agrees : Agrees s p objects
  pub kept : AreKept s p objects (map.get blocks)
  pub count : set.len s.live ≡ map.len blocks
  pub pages : IsGranularity granularity
