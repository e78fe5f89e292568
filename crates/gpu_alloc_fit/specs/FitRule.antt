-- The rule of exact runs, and what it owes as that of a store of shared chunks.
use Rattle.std.specs.Prelude.{◌≡◌, ℕ, ◌+◌, ◌<◌, ◌≤◌, refl}
use Rattle.gpu_alloc_base.specs.Slots.{slot_cmp}
use Rattle.gpu_alloc_base.specs.declared.free_list_block.Slot.{Slot}
use Rattle.gpu_alloc_fit.specs.FitState.{FitState, fitting_in_new_chunk}
use Rattle.gpu_alloc_fit.specs.FitSound.{IsSoundFit}
use Rattle.gpu_alloc_runs.specs.Space.{BeginsFitChunk, HasPlace, IsFitting, IsSpare, IsWhollyFree, LooksAtFew, bytes_of, neighbours, without_slot}
use Rattle.gpu_alloc_shared.specs.Rule.{IsLawful, Rule}
use Rattle.gpu_alloc_shared.specs.Sized.{IsWholeAsk, ServesWhole, chunk_size, whole_ask}
use Rattle.gpu_alloc_shared.specs.declared.store.Ask.{Ask}

abbrev pub fit_ask : FitState → ℕ → ℕ → Ask
fit_ask f = whole_ask f.atom

-- few free runs are looked at, and at least one where there is a place
abbrev pub Looks : FitState → Ask → ℕ → ℕ → Type 0
Looks f ask old new =
    LooksAtFew f.space ask.size (ask.align_mask + 1) old new × (HasPlace f.space ask.size (ask.align_mask + 1) → old < new)

-- A chunk of the largest size always fits, and a key is always left. Nothing is split.
abbrev pub fit_rule : Rule FitState Ask Slot
fit_rule = record {
  served = λ f. record { memory_type = f.memory_type; props = f.props };
  chunks = λ f. f.space.chunks;
  order = slot_cmp;
  live = λ f. f.space.live;
  with_space = λ f chunks live. record f { space = record { chunks = chunks; live = live } };
  key = λ slot. slot.chunk;
  bytes = bytes_of;
  IsSound = IsSoundFit;
  Serves = λ f heap size align_mask. ServesWhole f.final_chunk f.atom size align_mask;
  asked = fit_ask;
  Fits = λ ask. Unit {0};
  IsAsk = λ f. IsWholeAsk f.atom;
  Holds = λ f heap ask. ask.size ≤ f.final_chunk;
  HasPlace = λ f ask. HasPlace f.space ask.size (ask.align_mask + 1);
  IsTaken = λ f ask slot. IsFitting f.space ask.size (ask.align_mask + 1) slot;
  HasNumber = λ f. Unit {0};
  chunk_size = λ f heap ask. chunk_size f ask.size;
  Begins = λ f ask whole slot. BeginsFitChunk f.space ask.size slot;
  in_new_chunk = λ f ask whole slot. fitting_in_new_chunk f slot whole;
  ReleasedWith = λ f slot. IsSpare (without_slot f.space slot) slot.chunk;
  IsNext = λ f keep_last key. IsWhollyFree f.space key;
  Left = λ f keep_last found. (key : ℕ) → IsWhollyFree f.space key → ⊥;
  Looks = Looks;
  Tries = λ f ask found looks now splits after. Looks f ask looks now;
  Begun = λ f ask whole splits after. Unit {0};
  Joins = λ f slot looks now. now ≡ looks + neighbours f.space slot;
}

pub fit_lawful : IsLawful fit_rule
fit_lawful = record {
  its_chunks = λ f chunks live. refl;
  its_live = λ f chunks live. refl;
  its_type = λ f chunks live. refl;
  in_held = λ f ask slot fits. (fits.chunk, fits.held);
  new_key = λ f s ask whole slot begins. begins.free_key;
  one_chunk = λ f ask whole slot begins. refl;
  one_block = λ f ask whole slot begins. refl;
  same_type = λ f ask whole slot. refl;
  own_object = λ f s. s.space.one_object;
  of_chunk = λ f slot s live. let lies = s.space.inside slot live in (lies.chunk, (lies.held, lies.object));
}

-- A store with its sizes: what is held and live, and how many more chunks and tiles there is room for.
pub record Stored : Type 0 where
  pub state : FitState
  pub chunk_room : ℕ
  pub tile_room : ℕ

-- there is room for one more chunk with one more block
pub record HasRooms (s : Stored) : Type 0 where
  pub chunk : 0 < s.chunk_room
  pub tiles : 3 ≤ s.tile_room
