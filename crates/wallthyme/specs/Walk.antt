-- What a walk over live blocks writes.
use Rattle.std.specs.Prelude.{ℕ, List, [], ◌∷◌, ◌++◌, map}
use Rattle.gpu_desk.specs.Calls.{Told}
use Rattle.gpu_desk.specs.Desk.{DeskState}
use Rattle.gpu_desk.specs.Walk.{IsLast, IsNext}
use Rattle.wallthyme.specs.Layout.{grant_of}
use Rattle.wallthyme.specs.Malformed.{HasFlags}
use Rattle.wallthyme.specs.declared.layout.Block.{Block}

-- the first live block after the place of a key, as C gets it
pub record IsNextBlock (s : DeskState) (after : ℕ) (b : Block) : Type 0 where
  pub next : IsNext s after b.key
  pub told : Told s b.key (grant_of b)
  pub flags : HasFlags b

-- the live blocks after the place of a key, each the next after the one before
abbrev pub AreNext : DeskState → (after : ℕ) → List Block → Type 0
AreNext s after [] = Unit {0}
AreNext s after (b ∷ blocks) = IsNextBlock s after b × AreNext s b.key blocks

-- the key that a walk goes on with, after these blocks
abbrev pub key_behind : ℕ → List Block → ℕ
key_behind after [] = after
key_behind after (b ∷ blocks) = key_behind b.key blocks

-- a page of a walk: the desk as a call met it, and the blocks that the call wrote
pub record Page : Type 0 where
  pub met : DeskState
  pub blocks : List Block

-- A walk in pages from a key on: each page goes on after the one before. After the last page no block is left in the
-- desk as the last call met it.
abbrev pub WalksInPages : (after : ℕ) → List Page → (last : DeskState) → Type 0
WalksInPages after [] last = IsLast last after
WalksInPages after (p ∷ pages) last = AreNext p.met after p.blocks × WalksInPages (key_behind after p.blocks) pages last

-- the keys that a walk wrote, in their order
abbrev pub keys_in : List Page → List ℕ
keys_in [] = []
keys_in (p ∷ pages) = map (λ b. b.key) p.blocks ++ keys_in pages

-- the desk as it was met for each of these blocks, and then as it was met for others
abbrev pub met_for : List Block → DeskState → List DeskState → List DeskState
met_for [] s others = others
met_for (b ∷ blocks) s others = s ∷ met_for blocks s others

-- the desk as it was met for each key that a walk wrote, and at its end
abbrev pub states_in : List Page → (last : DeskState) → List DeskState
states_in [] last = last ∷ []
states_in (p ∷ pages) last = met_for p.blocks p.met (states_in pages last)
