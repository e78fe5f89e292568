-- What a contract sees of a desk.
use Rattle.std.specs.Prelude.{◌≡◌, ℕ, ◌==◌, cond, List, [], length, Option, Some, refl}
use Rattle.std.specs.Coded.{Coded, code_by, coded×, coded_ℕ, coded_list}
use Rattle.std.specs.FinMap as map
use Rattle.gpu_alloc_types.specs.Device.{Object}
use Rattle.gpu_alloc.specs.Codes.{block_code, state_code}
use Rattle.gpu_alloc.specs.Request.{IsGranularity}
use Rattle.gpu_alloc.specs.State.{Block, State}
use Rattle.gpu_answers.specs.Device.{objects_of}
use Rattle.gpu_answers.specs.DeviceState.{DeviceState, device_code}
use Rattle.gpu_answers.specs.Held.{AreNamed}
use Rattle.gpu_session.specs.Books.{Books}
use Rattle.gpu_session.specs.Sound as session
use Rattle.gpu_session.specs.declared.offer.Offer.{Offer}
use Rattle.gpu_slots.specs.SlotMap.{SlotState, slots_code}
use Rattle.gpu_desk.specs.Pages.{ArePaged, ShareNoPage}
use Rattle.gpu_desk.specs.Tags.{tag_at}
use Rattle.gpu_desk.specs.contracts.wish.Tag as tag
use Rattle.gpu_desk.specs.declared.wish.Tag.{Tag}

-- The allocator, the live blocks by key, the device that is asked from outside, the tags by the place of the key, and
-- the granularity of buffers and images, in bytes.
pub record DeskState : Type 0 where
  pub allocator : State
  pub blocks : SlotState Block
  pub device : DeviceState
  pub tags : List Tag
  pub granularity : ℕ

abbrev pub desk_code : Coded DeskState
desk_code =
    code_by (State × (SlotState Block × (DeviceState × (List Tag × ℕ))))
    (coded× state_code (coded× (slots_code block_code) (coded× device_code (coded× (coded_list tag.the_row.coded) coded_ℕ))))
    (λ s. (s.allocator, (s.blocks, (s.device, (s.tags, s.granularity)))))
    (λ c. record {
      allocator = c.0;
      blocks = c.1.0;
      device = c.1.1.0;
      tags = c.1.1.1.0;
      granularity = c.1.1.1.1;
    })
    (λ _. refl)

-- the tag of the block of a key
abbrev pub tag_of : DeskState → ℕ → Tag
tag_of s key = tag_at s.tags key

-- the allocator and its live blocks, as a session has them under names
abbrev pub books : DeskState → Books
books s = record { allocator = s.allocator; blocks = s.blocks.live }

-- the objects that the device holds
abbrev pub objects : DeskState → ℕ → Option Object
objects s = objects_of s.device

-- Blocks share no memory, as in a session. Each key's block is a live span of a held object, and no two share a byte
-- (nor an object where one of them has its own). Nothing else is live, and allocator and device agree. No held object
-- has a name that waits to be read, and each such name is listed once. Blocks for optimal resources share no page with
-- linear ones.
pub record IsSoundDesk (s : DeskState) : Type 0 where
  pub memory : session.IsSoundSession s.device.properties (objects s) (books s)
  pub names : AreNamed s.device.held
  pub pages : ShareNoPage s.blocks.live s.tags s.granularity

-- the key has a block, and the block has the property
abbrev pub OfKey : DeskState → ℕ → (Block → Type 0) → Type 0
OfKey s key P = (b : Block) × (map.get s.blocks.live key ≡ Some b) × P b

-- nothing is held, no key was given, and no name of an object waits to be read
pub record IsEmpty (s : DeskState) : Type 0 where
  pub live : s.blocks.live ≡ map.empty
  pub keys : s.blocks.generations ≡ []
  pub held : s.allocator.held ≡ map.empty
  pub objects : s.device.held.objects ≡ map.empty
  pub names : s.device.held.gone ≡ []
  pub tags : s.tags ≡ []

-- the size of a page for a granularity, which is at least 1
abbrev pub page_of : ℕ → ℕ
page_of granularity = cond (granularity == 0) 1 granularity

-- The invariants of a desk's fields: those of a session, a place for each key, and a tag for each place.
pub record IsDesk {A : Type 0} (o : Offer A) (s : DeskState) : Type 0 where
  pub kept : session.IsSessionKept s.device.properties (objects s) (books s) o
  pub tagged : length s.tags ≡ length s.blocks.generations
  pub page : IsGranularity s.granularity
  pub paged : ArePaged s.blocks.live s.tags s.granularity
