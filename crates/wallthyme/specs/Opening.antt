-- How a desk begins and ends.
use Rattle.std.specs.Prelude.{◌≡◌, ℕ, []}
use Rattle.std.specs.FinMap as map
use Rattle.gpu_alloc_base.specs.declared.config.Config.{Config}
use Rattle.gpu_alloc_types.specs.Properties.{Properties}
use Rattle.gpu_alloc.specs.Opening.{opened_by}
use Rattle.gpu_alloc_block.specs.declared.sharing.Sharing.{Sharing}
use Rattle.gpu_desk.specs.Desk.{DeskState, IsEmpty, page_of}

-- a desk with nothing held, for this device, with this granularity of buffers and images and this way to share objects
pub record IsOpenedDesk (sharing : Sharing) (config : Config) (properties : Properties) (granularity : ℕ) (s : DeskState)
    : Type 0 where
  pub allocator : s.allocator ≡ opened_by sharing config properties
  pub page : s.granularity ≡ page_of granularity
  pub empty : IsEmpty s

-- no block is live, no object is held, and each name of a released object was read
pub record HasNothing (s : DeskState) : Type 0 where
  pub blocks : map.len s.blocks.live ≡ 0
  pub held : map.len s.allocator.held ≡ 0
  pub names : s.device.held.gone ≡ []
