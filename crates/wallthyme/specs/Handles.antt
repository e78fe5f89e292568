-- What C keeps.
use Rattle.std.specs.Prelude.{◌≡◌, ℕ, List, Option, Some, None}
use Rattle.std.specs.FinMap as map
use Rattle.gpu_answers.specs.Held.{KeepsNames}
use Rattle.gpu_desk.specs.Calls.{KeepsDesk}
use Rattle.gpu_desk.specs.Desk.{DeskState, IsSoundDesk}
use Rattle.gpu_desk.specs.Names.{LosesBut}
use Rattle.wallthyme.specs.declared.handle.Handle.{Handle}

-- the desk that a handle has, where it is open
abbrev pub desk_of : Handle → Option DeskState
desk_of handle = handle.seal.desk

-- the two desks are related so, or there is none before and none after
abbrev pub Relates : (DeskState → DeskState → Type 0) → Option DeskState → Option DeskState → Type 0
Relates R None None = Unit {0}
Relates R None (Some new) = ⊥
Relates R (Some old) None = ⊥
Relates R (Some old) (Some new) = R old new

-- a handle was open and still is, and its desks before and after are related so; or it was closed and still is
abbrev pub OnDesks : (DeskState → DeskState → Type 0) → Handle → Handle → Type 0
OnDesks R old new = Relates R (desk_of old) (desk_of new)

-- no live block has the key
abbrev pub NoBlock : DeskState → ℕ → Type 0
NoBlock s key = map.get s.blocks.live key ≡ None

-- Live blocks share no memory, no name of an object comes twice, and no object is lost but those whose names were read.
pub record KeepsBut (read : List ℕ) (old new : DeskState) : Type 0 where
  pub names : KeepsNames old.device.held new.device.held
  pub lost : LosesBut read old new
  pub sound : IsSoundDesk new

-- what was given stays, live blocks share no memory, no name of an object comes twice, and no object is lost
pub record KeepsSound (old new : DeskState) : Type 0 where
  pub keeps : KeepsDesk old new
  pub sound : IsSoundDesk new
