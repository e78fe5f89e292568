-- What a walk over the live blocks meets.
use Rattle.std.specs.Prelude.{◌≡◌, ◌==◌, ◌+◌, ℕ, List, [], ◌∷◌, cond, filter, IsSome}
use Rattle.std.specs.FinMap as map
use Rattle.gpu_slots.specs.SlotMap.{HasNoneFrom, IsFirstFrom, place_of}
use Rattle.gpu_desk.specs.Desk.{DeskState}

-- the first place after that of a key; the invalid key 0 is before place 0
abbrev pub behind : ℕ → ℕ
behind after = cond (after == 0) 0 (place_of after + 1)

-- the key has a live block
abbrev pub IsLiveKey : ℕ → DeskState → Type 0
IsLiveKey key s = IsSome (map.get s.blocks.live key)

-- the key's block is the first live one after the place of a key
abbrev pub IsNext : DeskState → (after key : ℕ) → Type 0
IsNext s after key = IsFirstFrom s.blocks (behind after) key

-- no live block is after the place of a key
abbrev pub IsLast : DeskState → (after : ℕ) → Type 0
IsLast s after = HasNoneFrom s.blocks (behind after)

-- A walk from a key on: the states of the desk as each call of the walk met it, and the keys that were returned. Each
-- is the next after the one before, and in the last state there is no next.
abbrev pub Walks : (after : ℕ) → List DeskState → (keys : List ℕ) → Type 0
Walks after [] keys = ⊥
Walks after (s ∷ []) [] = IsLast s after
Walks after (s ∷ t ∷ states) [] = ⊥
Walks after (s ∷ states) (key ∷ keys) = IsNext s after key × Walks key states keys

-- a whole walk
abbrev pub WalksAll : List DeskState → (keys : List ℕ) → Type 0
WalksAll states keys = Walks 0 states keys

-- the key comes once, or never
abbrev pub ComesOnce : List ℕ → ℕ → Type 0
ComesOnce keys key = filter (λ k. k == key) keys ≡ key ∷ []

abbrev pub NeverComes : List ℕ → ℕ → Type 0
NeverComes keys key = filter (λ k. k == key) keys ≡ []
