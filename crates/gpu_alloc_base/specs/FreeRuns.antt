-- Free runs: the longest nonempty ranges of free bytes, and how a list of regions keeps them.
use Rattle.std.specs.Prelude.{◌≡◌, ◌⊎◌, ℕ, ◌+◌, ◌-◌, ◌<◌, ◌≤◌, List, length, Contains, get_or}
use Rattle.gpu_alloc_base.specs.FreeSpace.{IsMultipleOf}
use Rattle.gpu_alloc_base.specs.declared.region.FreeListRegion.{FreeListRegion}
use Rattle.gpu_alloc_base.specs.Sizes.{down}

-- the first lies before the second, in another chunk or with bytes between them
abbrev pub IsBefore : FreeListRegion → FreeListRegion → Type 0
IsBefore r s = (r.chunk < s.chunk) ⊎ ((r.chunk ≡ s.chunk) × (r.end < s.start))

-- where a block of this size starts if it ends where the range does
abbrev pub tail_start : ℕ → ℕ → ℕ → ℕ
tail_start size alignment end = down (end - size) alignment

-- a range has room for such a block
pub record HasRoom (size alignment start end : ℕ) : Type 0 where
  pub enough : size ≤ end
  pub from : start ≤ tail_start size alignment end

-- the regions rise
abbrev pub AreRising : List FreeListRegion → Type 0
AreRising regions =
    (i j : ℕ) (d : FreeListRegion) → i < j → j < length regions → IsBefore (get_or regions i d) (get_or regions j d)

-- the free bytes without those of a range, and with them
abbrev pub Without : (ℕ → ℕ → Type 0) → FreeListRegion → ℕ → ℕ → Type 0
Without F x chunk at = F chunk at × (chunk ≡ x.chunk → x.start ≤ at → at < x.end → ⊥)

abbrev pub With : (ℕ → ℕ → Type 0) → FreeListRegion → ℕ → ℕ → Type 0
With F x chunk at = F chunk at ⊎ ((chunk ≡ x.chunk) × (x.start ≤ at) × (at < x.end))

-- F says which bytes of which chunks are free.
module _ (F : ℕ → ℕ → Type 0) where
  -- each byte of the range is free
  abbrev pub AreFree : ℕ → ℕ → ℕ → Type 0
  AreFree chunk start end = (at : ℕ) → start ≤ at → at < end → F chunk at

  -- a nonempty free range that is not part of a longer one
  pub record IsFreeRun (chunk start end : ℕ) : Type 0 where
    pub nonempty : start < end
    pub free : AreFree chunk start end
    pub longest : (start' end' : ℕ) → AreFree chunk start' end' → start' ≤ start → end ≤ end' → (start' ≡ start)
        × (end' ≡ end)

  -- room for a block of this size at a multiple of the alignment
  pub record IsListPlace (size alignment chunk start : ℕ) : Type 0 where
    pub aligned : IsMultipleOf alignment start
    pub free : AreFree chunk start (start + size)

  -- The regions are not empty, no two of a chunk overlap or touch, and together they are the free bytes.
  pub record IsSpaced (Has : FreeListRegion → Type 0) : Type 0 where
    pub nonempty : (r : FreeListRegion) → Has r → r.start < r.end
    pub apart : (r s : FreeListRegion) → Has r → Has s → r.chunk ≡ s.chunk → r.start ≤ s.end → s.start ≤ r.end → r ≡ s
    pub free : (r : FreeListRegion) → Has r → AreFree r.chunk r.start r.end
    pub covers : (chunk at : ℕ) → F chunk at → (r : FreeListRegion) × Has r × (r.chunk ≡ chunk) × (r.start ≤ at)
        × (at < r.end)

  -- the last run that has room
  pub record IsLastWithRoom (size alignment : ℕ) (r : FreeListRegion) : Type 0 where
    pub run : IsFreeRun r.chunk r.start r.end
    pub room : HasRoom size alignment r.start r.end
    pub last : (s : FreeListRegion) → IsFreeRun s.chunk s.start s.end → HasRoom size alignment s.start s.end → (s ≡ r)
        ⊎ IsBefore s r

  -- no run comes after it
  pub record IsLastRun (r : FreeListRegion) : Type 0 where
    pub run : IsFreeRun r.chunk r.start r.end
    pub last : (s : FreeListRegion) → IsFreeRun s.chunk s.start s.end → (s ≡ r) ⊎ IsBefore s r

-- the list has the free bytes as its regions, which are spaced and rise
pub record AreRuns (regions : List FreeListRegion) (F : ℕ → ℕ → Type 0) : Type 0 where
  pub spaced : IsSpaced F (Contains regions)
  pub rising : AreRising regions

-- the same for the free bytes without those of x, which is in hand
pub record AreRunsBeside (regions : List FreeListRegion) (F : ℕ → ℕ → Type 0) (x : FreeListRegion) : Type 0 where
  pub rest : AreRuns regions (Without F x)
  pub inside : AreFree F x.chunk x.start x.end
