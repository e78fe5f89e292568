-- Live blocks under their owner's names for them.
use Rattle.std.specs.Prelude.{◌≡◌, ℕ, List, map, Contains}
use Rattle.std.specs.List.{filter}
use Rattle.std.specs.Cmp.Lexicographic.{slice_cmp}
use Rattle.std.specs.List.Sorted.{IsNonDecreasingBy, IsSortedByKey}
use Rattle.std.specs.Ordering.{nat_cmp}
use Rattle.std.specs.FinSet as set
use Rattle.gpu_alloc.specs.Listing.{AreOnce}
use Rattle.gpu_alloc.specs.State.{HeldObject, Span, State, IsLive, span_numbers}
use Rattle.gpu_report.specs.declared.part.Part.{Part}
use Rattle.gpu_report.specs.declared.live.LiveBlock.{LiveBlock}
use Rattle.gpu_report.specs.Held.{is_listed_as}

abbrev pub live_block_span : LiveBlock → Span
live_block_span b = record { object = b.object; offset = b.offset; size = b.size }

-- these are all that are live, each once, by the name of their object
pub record AreLive (s : State) (live : List LiveBlock) : Type 0 where
  pub exact : set.from_list (map live_block_span live) ≡ s.live
  pub once : AreOnce (map live_block_span live)
  pub by_object : IsNonDecreasingBy (λ b. b.object) live

-- blocks in the order of their spans' numbers
abbrev pub AreBySpan : List LiveBlock → Type 0
AreBySpan blocks = IsSortedByKey (λ b. span_numbers (live_block_span b)) (slice_cmp nat_cmp) blocks

-- a live span that none of the blocks has
pub record LacksSpan (s : State) (blocks : List LiveBlock) : Type 0 where
  pub span : Span
  pub live : IsLive s span
  pub lacks : Contains (map live_block_span blocks) span → ⊥

-- the sizes of the live blocks in the held objects that are held as this
abbrev pub live_sizes : List (ℕ × HeldObject) → Part → List LiveBlock → List ℕ
live_sizes held p live = map (λ b. b.size) (filter (λ b. is_listed_as held p b.object) live)

-- how many bytes were requested for each of these blocks
abbrev pub asked_sizes : List (ℕ × HeldObject) → Part → List LiveBlock → List ℕ
asked_sizes held p live = map (λ b. b.asked) (filter (λ b. is_listed_as held p b.object) live)
