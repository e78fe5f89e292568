-- What the calls of one length do to its pairs.
use Rattle.std.specs.Prelude.{◌≡◌, ◌≢◌, ◌+◌, ◌<◌, ◌^◌, ℕ, Some, None}
use Rattle.slab.specs.Slab.{Slab, get, Updates}
use Rattle.gpu_alloc_pairs.specs.Entry.{Entry, use_of, with_use, other_side}
use Rattle.gpu_alloc_pairs.specs.declared.length.Half.{Half}
use Rattle.gpu_alloc_pairs.specs.declared.length.Whole.{Whole}
use Rattle.gpu_alloc_pairs.specs.declared.pair.Side.{Side}
use Rattle.gpu_alloc_pairs.specs.declared.pair.Use.{Use}
use Rattle.gpu_alloc_pairs.specs.declared.pair.Use.TheVariants.{Free}

-- the half has this use
pub record IsUsedAs (pairs : Slab Entry) (key : ℕ) (side : Side) (now : Use) : Type 0 where
  pub entry : Entry
  pub at : get pairs key ≡ Some entry
  pub used : use_of entry side ≡ now

-- there is such a half, and it is not free
pub record IsInUse (pairs : Slab Entry) (key : ℕ) (side : Side) : Type 0 where
  pub entry : Entry
  pub at : get pairs key ≡ Some entry
  pub used : use_of entry side ≢ Free

-- a free half, with where its pair lies
pub record IsReadyHalf (pairs : Slab Entry) (h : Half) : Type 0 where
  pub entry : Entry
  pub at : get pairs h.key ≡ Some entry
  pub free : use_of entry h.side ≡ Free
  pub chunk : h.chunk ≡ entry.chunk
  pub offset : h.offset ≡ entry.offset

-- a half gets another use, and nothing else changes
pub record SetsUse (old new : Slab Entry) (key : ℕ) (side : Side) (now : Use) : Type 0 where
  pub entry : Entry
  pub at : get old key ≡ Some entry
  pub updates : Updates old new key (Some (with_use entry side now))

-- a half becomes free, and its pair stays, since the other half is not free
pub record FreesHalf (old new : Slab Entry) (key : ℕ) (side : Side) : Type 0 where
  pub entry : Entry
  pub at : get old key ≡ Some entry
  pub other : use_of entry (other_side side) ≢ Free
  pub updates : Updates old new key (Some (with_use entry side Free))

-- a pair is removed, since its other half is free
pub record Merges (old new : Slab Entry) (key : ℕ) (side : Side) (w : Whole) : Type 0 where
  pub entry : Entry
  pub at : get old key ≡ Some entry
  pub other : use_of entry (other_side side) ≡ Free
  pub chunk : w.chunk ≡ entry.chunk
  pub offset : w.offset ≡ entry.offset
  pub parent : w.parent ≡ entry.parent
  pub updates : Updates old new key None

-- where halves have 2 ^ order bytes, each right half starts below 2 ^ 64
abbrev pub AreBounded : ℕ → Slab Entry → Type 0
AreBounded order pairs = (key : ℕ) (e : Entry) → get pairs key ≡ Some e → e.offset + 2 ^ order < 2 ^ 64
