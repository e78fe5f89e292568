-- Walks: one block more in a page, and a walk in pages as one block by block.
use Rattle.std.proofs.Common.{◌≡◌, ◌<◌, ◌+◌, ◌++◌, ◌∷◌, [], ℕ, List, length, map, take, slice_set, refl, sym, subst, ap, ◌∙◌}
use Rattle.std.proofs.lemmas.List.{take_more_set}
use Rattle.gpu_desk.specs.Desk.{DeskState}
use Rattle.gpu_desk.specs.Walk.{Walks}
use Rattle.wallthyme.specs.Walk.{AreNext, IsNextBlock, Page, WalksInPages, key_behind, keys_in, met_for, states_in}
use Rattle.wallthyme.specs.declared.layout.Block.{Block}

more_next : (s : DeskState) (after : ℕ) (told : List Block) (b : Block) → AreNext s after told
    → IsNextBlock s (key_behind after told) b → AreNext s after (told ++ b ∷ [])
more_next s after [] b told next = (next, told)
more_next s after (x ∷ xs) b told next = (told.0, more_next s x.key xs b told.1 next)

behind_more : (after : ℕ) (told : List Block) (b : Block) → key_behind after (told ++ b ∷ []) ≡ b.key
behind_more after [] b = refl
behind_more after (x ∷ xs) b = behind_more x.key xs b

-- what is written in a room with the block at its index
module _ (s : DeskState) (after : ℕ) (room : List Block) (index : ℕ) (b : Block) (within : index < length room) where
  pub one_more_next : AreNext s after (take index room) → IsNextBlock s (key_behind after (take index room)) b
      → AreNext s after (take (index + 1) (slice_set room index b))
  one_more_next told next =
      subst (AreNext s after) (sym (take_more_set room index b within)) (more_next s after (take index room) b told next)

  pub one_more_behind : b.key ≡ key_behind after (take (index + 1) (slice_set room index b))
  one_more_behind =
      sym (ap (key_behind after) (take_more_set room index b within) ∙ behind_more after (take index room) b)

-- a page before a walk
page_before : (s : DeskState) (blocks : List Block) (after : ℕ) (states : List DeskState) (keys : List ℕ)
    → AreNext s after blocks → Walks (key_behind after blocks) states keys
    → Walks after (met_for blocks s states) (map (λ b. b.key) blocks ++ keys)
page_before s [] after states keys next rest = rest
page_before s (b ∷ []) after [] keys next rest = absurd rest
page_before s (b ∷ []) after (t ∷ ts) keys next rest = (next.0.next, rest)
page_before s (b ∷ c ∷ blocks) after states keys next rest =
    (next.0.next, page_before s (c ∷ blocks) b.key states keys next.1 rest)

pub pages_walk : (after : ℕ) (pages : List Page) (last : DeskState) → WalksInPages after pages last
    → Walks after (states_in pages last) (keys_in pages)
pages_walk after [] last walk = walk
pages_walk after (p ∷ pages) last walk =
    page_before p.met p.blocks after (states_in pages last) (keys_in pages) walk.0
    (pages_walk (key_behind after p.blocks) pages last walk.1)
