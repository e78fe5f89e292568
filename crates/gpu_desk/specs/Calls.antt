-- What the calls of a desk do.
use Rattle.std.specs.Prelude.{◌≡◌, ◌≢◌, ◌⊎◌, ◌↔◌, ℕ, ◌<◌, ◌+◌, min, ◌==◌, ◌&&◌, ◌≤◌, Bool, true, false, not, cond, List, []}
use Rattle.std.specs.Prelude.{◌++◌, length, Option, Some, None, is_some, IsSome, Ok, Err, IsTrue}
use Rattle.std.specs.FinMap as map
use Rattle.gpu_alloc_types.specs.Device.{Chain, Event, HeldWith}
use Rattle.gpu_alloc_types.specs.Flags.{device_address, has_bit, host_visible, usage_bits}
use Rattle.gpu_alloc_types.specs.declared.usage_flags.UsageFlags.{UsageFlags}
use Rattle.gpu_alloc_types.specs.Properties.{are_non_coherent}
use Rattle.gpu_alloc.specs.Allocation.{AllocatesBy, IsExactFit, IsGranted, IsInPages, Plan}
use Rattle.gpu_alloc.specs.Budget.{heap_budget, heap_bytes, with_heap_limit}
use Rattle.gpu_alloc.specs.HeldOnly.{AllocatesHeld}
use Rattle.gpu_alloc.specs.Importing.{Imports}
use Rattle.gpu_alloc.specs.Mapped.{AsksToMap, mapping_of, unmapping}
use Rattle.gpu_alloc.specs.Ranges.{rounded_range}
use Rattle.gpu_alloc.specs.Release.{Cleans, Frees, LetsObjectsGo}
use Rattle.gpu_alloc.specs.State.{Block, heap_limit, is_shared, ledger, total}
use Rattle.gpu_alloc.specs.Types.AllocationError.{AllocationError}
use Rattle.gpu_alloc.specs.Types.Kind.TheVariants.{Dedicated as DedicatedObject}
use Rattle.gpu_alloc.specs.Types.MapError.{MapError}
use Rattle.gpu_alloc.specs.Types.MapError.TheVariants.{NonHostVisible}
use Rattle.gpu_alloc.specs.Types.Mapping.{Mapping}
use Rattle.gpu_alloc.specs.declared.request.Dedicated.TheVariants.{Required}
use Rattle.gpu_alloc.specs.declared.request.Request.{Request}
use Rattle.gpu_answers.specs.Asking.{begun}
use Rattle.gpu_answers.specs.Device.{IsStep, objects_of}
use Rattle.gpu_answers.specs.DeviceState.{DeviceState}
use Rattle.gpu_answers.specs.Held.{KeepsNames}
use Rattle.gpu_answers.specs.declared.question.Answered.{Answered}
use Rattle.gpu_answers.specs.declared.question.Question.{Question}
use Rattle.gpu_answers.specs.declared.run.Stop.{Stop}
use Rattle.gpu_answers.specs.declared.run.Stop.TheVariants as Stopped
use Rattle.gpu_session.specs.Faults.{fault_of_block, fault_of_import, fault_of_range, fault_of_request, where_true}
use Rattle.gpu_session.specs.Sound.{HoldsNothingAfter, KeepsGiven}
use Rattle.gpu_session.specs.declared.command.Fault.{Fault as FaultCode}
use Rattle.gpu_session.specs.declared.command.Fault.TheVariants.{BadSize, NoMemory, UnknownName}
use Rattle.gpu_slots.specs.SlotMap.{IsGiven, IsGone, SlotState, StaysGone}
use Rattle.gpu_desk.specs.Desk.{DeskState, OfKey, objects, tag_of}
use Rattle.gpu_desk.specs.Names.{LosesBut}
use Rattle.gpu_desk.specs.Wishes.{asks_own, is_own, plan_for, served_as}
use Rattle.gpu_desk.specs.declared.denial.Denial.{Denial}
use Rattle.gpu_desk.specs.declared.denial.Denial.TheVariants.{Open, Strayed, WouldAsk, Refused, MapRefused, Fault}
use Rattle.gpu_desk.specs.declared.answers.Counts.{Counts}
use Rattle.gpu_desk.specs.declared.answers.Grant.{Grant}
use Rattle.gpu_desk.specs.declared.answers.HeapCounts.{HeapCounts}
use Rattle.gpu_desk.specs.declared.answers.ObjectRange.{ObjectRange}
use Rattle.gpu_desk.specs.declared.wish.Tag.{Tag}
use Rattle.gpu_desk.specs.declared.wish.Wish.{Wish}

-- What calls keep.

-- each block that stays live has the tag that it had
abbrev pub KeepsTags : DeskState → DeskState → Type 0
KeepsTags old new =
    (key : ℕ) → IsSome (map.get old.blocks.live key) → IsSome (map.get new.blocks.live key)
    → tag_of new key ≡ tag_of old key

-- What was given to the allocator and the desk stays, and so do each heap's limit and the total of objects. Freed keys
-- stay invalid, past names stay past, no object is lost, and each block that stays live keeps its tag.
pub record KeepsDesk (old new : DeskState) : Type 0 where
  pub given : KeepsGiven old.allocator new.allocator
  pub limits : new.allocator.heap_limits ≡ old.allocator.heap_limits
  pub total : total new.allocator ≡ total old.allocator
  pub gone : StaysGone old.blocks new.blocks
  pub names : KeepsNames old.device.held new.device.held
  pub lost : LosesBut [] old new
  pub tags : KeepsTags old new
  pub page : new.granularity ≡ old.granularity

-- Nothing changed except the room for keys, which names are spent, and the device's record of the run.
pub record IsAsBefore (old new : DeskState) : Type 0 where
  pub allocator : new.allocator ≡ old.allocator
  pub live : new.blocks.live ≡ old.blocks.live
  pub keys : new.blocks.generations ≡ old.blocks.generations
  pub objects : objects new ≡ objects old
  pub names : new.device.held.gone ≡ old.device.held.gone
  pub tags : new.tags ≡ old.tags
  pub page : new.granularity ≡ old.granularity

-- The device in a run.

-- a run with these answers: what was asked in it, and the device's state then
abbrev pub InRun : DeskState → List Answered → (List Event → DeviceState → Type 0) → Type 0
InRun s answers P =
    (es : List Event) × (after : DeviceState) × Chain IsStep (record (s.device) { run = begun answers }) es after
    × P es after

-- why a run fails that ended so, with this refusal, and whether its open question is for an object of its own
abbrev pub denial_after : (Question → Bool) → Option Stop → Denial → Denial
denial_after own None refusal = refusal
denial_after own (Some (Stopped.Open question)) refusal = Open question (own question)
denial_after own (Some Stopped.Strayed) refusal = Strayed

-- each question that the run of the latest call asked had an answer, to that question
abbrev pub IsAllAnswered : DeskState → Type 0
IsAllAnswered s = s.device.run.stop ≡ None

-- no question to map is for an object of its own
abbrev pub none_own : Question → Bool
none_own question = false

-- Blocks and keys.

-- the grant says where the block lies
pub record Tells (b : Block) (g : Grant) : Type 0 where
  pub object : g.object ≡ b.object
  pub offset : g.offset ≡ b.offset
  pub size : g.size ≡ b.size
  pub memory_type : g.memory_type ≡ b.memory_type

-- the grant has the tag
pub record TellsTag (t : Tag) (g : Grant) : Type 0 where
  pub user : g.user ≡ t.user
  pub asked : g.asked ≡ t.asked
  pub optimal : g.optimal ≡ t.optimal

-- the tag of a wish for a request of this size, and of an import of this size
abbrev pub wished : Wish → ℕ → Tag
wished w asked = record { user = w.user; asked = asked; optimal = w.optimal }

abbrev pub imported : ℕ → Tag
imported asked = record { user = 0; asked = asked; optimal = false }

-- the block is kept under a key that was never given
pub record HasKey (old : SlotState Block) (key : ℕ) (b : Block) (new : SlotState Block) : Type 0 where
  pub never_zero : key ≢ 0
  pub new_key : IsGiven old key → ⊥
  pub live : new.live ≡ map.insert old.live key b
  pub gone : StaysGone old new

-- a grant: the block, its new key and its tag. No name of an object waits to be read that did not wait before
pub record Gives (old : DeskState) (g : Grant) (b : Block) (t : Tag) (new : DeskState) : Type 0 where
  pub tells : Tells b g
  pub tells_tag : TellsTag t g
  pub tag : tag_of new g.key ≡ t
  pub key : HasKey old.blocks g.key b new.blocks
  pub names : new.device.held.gone ≡ old.device.held.gone

-- how the allocator tries a request of the desk
abbrev pub plan_of : DeskState → Request → Wish → Plan
plan_of s r w = plan_for s.allocator s.granularity r w

-- the first condition that a request misses
abbrev pub fault_of_alloc : DeskState → Request → Option FaultCode
fault_of_alloc s r = fault_of_request s.allocator.properties.buffer_device_address r

-- A request that misses no condition is granted: as it asks, and as the allocator decides it in a run with these
-- answers.
pub record Allocated (old : DeskState) (r : Request) (w : Wish) (answers : List Answered) (new : DeskState) (g : Grant)
    : Type 0 where
  pub askable : fault_of_alloc old r ≡ None
  pub block : Block
  pub gives : Gives old g block (wished w r.size) new
  pub as_asked : IsGranted old.allocator r new.allocator block
  pub exact : IsExactFit old.allocator (served_as old.granularity r w) block
  pub own : w.dedicated ≡ Some Required → block.kind ≡ DedicatedObject
  -- it has its object alone exactly where its memory type serves it so
  pub alone : IsTrue (is_own old.allocator (plan_of old r w) block.memory_type) ↔ (block.kind ≡ DedicatedObject)
  pub pages : w.optimal ≡ true → IsInPages old.granularity r.size block
  pub run : InRun old answers (λ es after. AllocatesBy old.allocator (plan_of old r w) es (Ok block) new.allocator
      × (objects new ≡ objects_of after))
  pub answered : IsAllAnswered new
  -- the object is new, or it was held; no other object comes or goes
  pub fresh : IsTrue g.fresh ↔ (map.get old.allocator.held block.object ≡ None)
  pub others : (name : ℕ) → name ≢ block.object → objects new name ≡ objects old name

-- the allocator refuses it in a run that ends so
abbrev pub RefusesIn : DeskState → Request → Wish → List Answered → Denial → Type 0
RefusesIn s r w answers d =
    InRun s answers (λ es after. (e : AllocationError) × AllocatesBy s.allocator (plan_of s r w) es (Err e) s.allocator
    × (d ≡ denial_after (asks_own s.allocator (plan_of s r w)) after.run.stop (Refused e)))

-- why a request is denied: by the first condition that it misses, for want of memory, or by the run
abbrev pub IsFaultOf : Option FaultCode → Denial → Type 0
IsFaultOf missed d =
    (fault : FaultCode) × (d ≡ Fault fault) × ((missed ≡ Some fault) ⊎ ((missed ≡ None) × (fault ≡ NoMemory)))

unfoldable pub AllocationDenied : DeskState → Request → Wish → List Answered → Denial → Type 0
AllocationDenied s r w answers d =
    IsFaultOf (fault_of_alloc s r) d ⊎ ((fault_of_alloc s r ≡ None) × RefusesIn s r w answers d)

-- A request that misses no condition is granted from what is held: as it asks, and as the allocator decides it. The
-- device is unchanged.
pub record AllocatedHeld (old : DeskState) (r : Request) (w : Wish) (new : DeskState) (g : Grant) : Type 0 where
  pub askable : fault_of_alloc old r ≡ None
  pub block : Block
  pub gives : Gives old g block (wished w r.size) new
  pub as_asked : IsGranted old.allocator r new.allocator block
  pub exact : IsExactFit old.allocator (served_as old.granularity r w) block
  pub shared : is_shared block.kind ≡ true
  pub pages : w.optimal ≡ true → IsInPages old.granularity r.size block
  pub decided : AllocatesHeld old.allocator (plan_of old r w) (Ok (Some block)) new.allocator
  pub unasked : new.device ≡ old.device
  pub fresh : g.fresh ≡ false
  pub held : new.allocator.held ≡ old.allocator.held

-- why it is then denied: by the first condition that it misses, for want of memory, because no candidate has a place,
-- or because the allocator refuses it
unfoldable pub HeldDenied : DeskState → Request → Wish → Denial → Type 0
HeldDenied s r w d =
    IsFaultOf (fault_of_alloc s r) d
    ⊎ ((fault_of_alloc s r ≡ None)
    × (((d ≡ WouldAsk) × AllocatesHeld s.allocator (plan_of s r w) (Ok None) s.allocator)
    ⊎ ((e : AllocationError) × (d ≡ Refused e) × AllocatesHeld s.allocator (plan_of s r w) (Err e) s.allocator)))

-- An import that misses no condition: the allocator imports the given span of a new object, which the device holds
-- accordingly. No other object comes or goes.
pub record Imported (old : DeskState) (t object_size offset size : ℕ) (new : DeskState) (g : Grant) : Type 0 where
  pub importable : fault_of_import old.allocator t object_size offset size ≡ None
  pub block : Block
  pub gives : Gives old g block (imported size) new
  pub imports : Imports old.allocator g.object t offset size new.allocator block
  pub fresh : g.fresh ≡ false
  pub was_free : objects old g.object ≡ None
  pub held : HeldWith (objects new) g.object (λ o. (o.memory_type ≡ t) × (o.size ≡ object_size))
  pub others : (name : ℕ) → name ≢ g.object → objects new name ≡ objects old name

abbrev pub ImportDenied : DeskState → (t object_size offset size : ℕ) → Denial → Type 0
ImportDenied s t object_size offset size d = IsFaultOf (fault_of_import s.allocator t object_size offset size) d

-- no block has the key
abbrev pub IsUnknown : DeskState → ℕ → Denial → Type 0
IsUnknown s key d = (d ≡ Fault UnknownName) × (map.get s.blocks.live key ≡ None)

-- Objects are released, and their names are to be read after the earlier ones.
pub record LetsNamesGo (old new : DeskState) : Type 0 where
  pub back : LetsObjectsGo IsStep objects_of old.allocator old.device new.allocator new.device
  pub names : new.device.held.gone ≡ old.device.held.gone ++ back.gone

-- A block is freed as the allocator frees it, and its key is invalid from then on.
pub record Returns (old : DeskState) (key : ℕ) (new : DeskState) : Type 0 where
  pub block : Block
  pub at : map.get old.blocks.live key ≡ Some block
  pub freed : (es : List Event) × Chain IsStep old.device es new.device × Frees old.allocator block es new.allocator
  pub goes : LetsNamesGo old new
  pub live : new.blocks.live ≡ map.remove old.blocks.live key
  pub refused : IsGone new.blocks key

-- Each object that no block needs is released. Where no block is live, none is held then.
pub record CleansUp (old new : DeskState) : Type 0 where
  pub cleaned : (es : List Event) × Chain IsStep old.device es new.device × Cleans old.allocator es new.allocator
  pub goes : LetsNamesGo old new
  pub blocks : new.blocks ≡ old.blocks
  pub tags : new.tags ≡ old.tags
  pub rest : old.blocks.live ≡ map.empty → HoldsNothingAfter old.allocator new.allocator

-- Blocks and where they lie.

-- the grant describes the block of the key
abbrev pub Told : DeskState → ℕ → Grant → Type 0
Told s key g = (g.key ≡ key) × (g.fresh ≡ false) × OfKey s key (λ b. Tells b g) × TellsTag (tag_of s key) g

-- only the caller's value of one live block changes
pub record SetsUser (old : DeskState) (key user : ℕ) (new : DeskState) : Type 0 where
  pub live : IsSome (map.get old.blocks.live key)
  pub only : new ≡ record old { tags = new.tags }
  pub set : tag_of new key ≡ record (tag_of old key) { user = user }
  pub others : (other : ℕ) → IsSome (map.get old.blocks.live other) → other ≢ key → tag_of new other ≡ tag_of old other

-- only one block's mapping changes in the books
pub record MapsOnly (old : DeskState) (key : ℕ) (b : Block) (mapping : Option Mapping) (new : DeskState) : Type 0 where
  pub at : map.get old.blocks.live key ≡ Some b
  pub live : new.blocks.live ≡ map.insert old.blocks.live key (record b { mapping = mapping })
  pub keys : new.blocks.generations ≡ old.blocks.generations
  pub allocator : new.allocator ≡ old.allocator
  pub names : new.device.held.gone ≡ old.device.held.gone

-- the first condition that a mapping misses
abbrev pub fault_of_map : DeskState → (key offset size : ℕ) → Option FaultCode
fault_of_map s key offset size =
    fault_of_block (map.get s.blocks.live key)
    (λ b. where_true (size == 0) BadSize (fault_of_range offset size b.size None))

-- Bytes of a block are mapped, as the block asks for it in a run with these answers. No condition is missed.
pub record Maps (old : DeskState) (key offset size : ℕ) (answers : List Answered) (new : DeskState) (r : ObjectRange)
    : Type 0 where
  pub able : fault_of_map old key offset size ≡ None
  pub block : Block
  pub only : MapsOnly old key block (Some (mapping_of block offset size)) new
  pub inside : offset + size ≤ block.size
  pub told : r ≡ record { object = block.object; offset = block.offset + offset; size = size }
  pub run : InRun old answers (λ es after. AsksToMap block offset size (Ok (mapping_of block offset size)) es
      × (new.device ≡ after))
  pub answered : IsAllAnswered new

-- the block's mapping is refused in a run that ends so
abbrev pub MapRefusedIn : DeskState → (key offset size : ℕ) → List Answered → Denial → Type 0
MapRefusedIn s key offset size answers d =
    OfKey s key (λ b. InRun s answers (λ es after. (e : MapError) × AsksToMap b offset size (Err e) es
    × (d ≡ denial_after none_own after.run.stop (MapRefused e))))

unfoldable pub MapDenied : DeskState → (key offset size : ℕ) → List Answered → Denial → Type 0
MapDenied s key offset size answers d =
    IsFaultOf (fault_of_map s key offset size) d
    ⊎ ((fault_of_map s key offset size ≡ None) × MapRefusedIn s key offset size answers d)

-- the object that is to be unmapped: the block's own, where the block was mapped
abbrev pub object_to_unmap : Block → Option ℕ
object_to_unmap b = cond (is_some b.mapping && not (is_shared b.kind)) (Some b.object) None

-- the block is unmapped
pub record Unmaps (old : DeskState) (key : ℕ) (new : DeskState) (object : Option ℕ) : Type 0 where
  pub block : Block
  pub only : MapsOnly old key block None new
  pub told : object ≡ object_to_unmap block
  pub asked : Chain IsStep old.device (unmapping block) new.device

-- the rounded range of some bytes, which is empty where no flush is needed
abbrev pub range_told : Block → (offset size : ℕ) → ObjectRange
range_told b offset size =
    let r = rounded_range b offset size in
    record {
      object = b.object;
      offset = r.offset;
      size = cond (not (size == 0) && are_non_coherent b.props) r.size 0;
    }

abbrev pub RangeTold : DeskState → (key offset size : ℕ) → ObjectRange → Type 0
RangeTold s key offset size r =
    OfKey s key (λ b. (offset + size ≤ b.size) × (has_bit b.props host_visible ≡ true) × (r ≡ range_told b offset size))

-- the first condition that it misses: there is such a block, with such a range, and its memory is host-visible
abbrev pub RangeDenied : DeskState → (key offset size : ℕ) → Denial → Type 0
RangeDenied s key offset size d =
    ((fault : FaultCode) × (d ≡ Fault fault)
    × (fault_of_block (map.get s.blocks.live key) (λ b. fault_of_range offset size b.size None) ≡ Some fault))
    ⊎ ((d ≡ MapRefused NonHostVisible)
    × OfKey s key (λ b. (offset + size ≤ b.size) × (has_bit b.props host_visible ≡ false)))

-- Counts.

-- the usage asks for an address, which the device cannot give
abbrev pub lacks_address : DeskState → UsageFlags → Bool
lacks_address s usage = has_bit (usage_bits usage) device_address && not s.allocator.properties.buffer_device_address

pub record CountsOf (s : DeskState) (c : Counts) : Type 0 where
  pub blocks : c.blocks ≡ map.len s.blocks.live
  pub unread : c.unread ≡ length s.device.held.gone
  pub held : c.held ≡ map.len s.allocator.held
  pub remaining : c.remaining ≡ s.allocator.remaining

pub record HeapCountsOf (s : DeskState) (heap : ℕ) (c : HeapCounts) : Type 0 where
  pub used : c.used ≡ ledger s.allocator heap
  pub budget : c.budget ≡ heap_budget s.allocator heap
  pub limit : c.limit ≡ heap_limit s.allocator heap

-- only the limit of one heap changes
pub record LimitsHeap (old : DeskState) (heap limit : ℕ) (new : DeskState) : Type 0 where
  pub known : heap < length old.allocator.properties.memory_heaps
  pub set : new ≡ record old { allocator = with_heap_limit old.allocator heap limit }
  pub told : heap_limit new.allocator heap ≡ min limit (heap_bytes old.allocator.properties heap)
  pub others : (other : ℕ) → other ≢ heap → heap_limit new.allocator other ≡ heap_limit old.allocator other

-- a name was read, and nothing else changed
pub record OnlyReads (old new : DeskState) : Type 0 where
  pub allocator : new.allocator ≡ old.allocator
  pub blocks : new.blocks ≡ old.blocks
  pub objects : objects new ≡ objects old
  pub tags : new.tags ≡ old.tags
  pub page : new.granularity ≡ old.granularity
