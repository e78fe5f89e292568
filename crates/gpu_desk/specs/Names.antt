-- What happens to the names of objects as calls follow one another.
use Rattle.std.specs.Prelude.{◌≡◌, ◌⊎◌, ⊤, ℕ, List, [], ◌∷◌, ◌++◌, All, Contains, IsSome, Option, Some, None}
use Rattle.gpu_answers.specs.Held as held
use Rattle.gpu_answers.specs.Held.{KeepsNames}
use Rattle.gpu_desk.specs.Desk.{DeskState, IsSoundDesk, OfKey, objects}

-- The states of a desk as calls follow one another: each is sound, and each call keeps names.
abbrev pub Follows : DeskState → List DeskState → Type 0
Follows s [] = IsSoundDesk s
Follows s (next ∷ rest) = IsSoundDesk s × KeepsNames s.device.held next.device.held × Follows next rest

-- neither a held object nor a live block's object has the name
pub record NamesNothing (s : DeskState) (name : ℕ) : Type 0 where
  pub object : objects s name ≡ None
  pub block : (key : ℕ) → OfKey s key (λ b. b.object ≡ name) → ⊥

-- one property of a name gives it the other, then and in each later state
abbrev pub MakesEver : (DeskState → ℕ → Type 0) → (DeskState → ℕ → Type 0) → Type 0
MakesEver P Q =
    (first : DeskState) (states : List DeskState) → Follows first states → (name : ℕ) → P first name
    → All (λ s. Q s name) (first ∷ states)

-- the name was given, and no held object has it
abbrev pub IsPastName : DeskState → ℕ → Type 0
IsPastName s name = held.IsPast s.device.held name

-- it is past, and does not wait to be read
abbrev pub IsSpentName : DeskState → ℕ → Type 0
IsSpentName s name = held.IsSpent s.device.held name

-- the name waits to be read
abbrev pub Waits : DeskState → ℕ → Type 0
Waits s name = Contains s.device.held.gone name

-- the name that a call read, if it read one
abbrev pub as_read : Option ℕ → List ℕ
as_read None = []
as_read (Some name) = name ∷ []

-- Of the objects that were held and the names that waited, nothing is lost but the names that were read: a held object
-- is held still, or its name waits, and a name that waited waits still, or was read.
pub record LosesBut (read : List ℕ) (old new : DeskState) : Type 0 where
  pub held : (name : ℕ) → IsSome (objects old name) → IsSome (objects new name) ⊎ Waits new name
  pub waits : (name : ℕ) → Waits old name → Waits new name ⊎ Contains read name

-- The states of a desk as calls follow one another, each with the names that the call before it read.
abbrev pub FollowsReading : DeskState → List (List ℕ × DeskState) → Type 0
FollowsReading s [] = ⊤
FollowsReading s (call ∷ rest) = LosesBut call.0 s call.1 × FollowsReading call.1 rest

-- the last of these states, and all names that were read on the way to it
abbrev pub last_after : DeskState → List (List ℕ × DeskState) → DeskState
last_after s [] = s
last_after s (call ∷ rest) = last_after call.1 rest

abbrev pub read_in : List (List ℕ × DeskState) → List ℕ
read_in [] = []
read_in (call ∷ rest) = call.0 ++ read_in rest
