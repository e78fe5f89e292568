-- What a byte of a block may hold, from the commands and their replies alone.
use Rattle.std.specs.Prelude.{◌≡◌, ◌≢◌, ℕ, ◌+◌, ◌-◌, ◌==◌, Bool, false, cond, List, [], ◌∷◌, ◌++◌, length, Option, Some, None, slice_get}
use Rattle.std.specs.Prelude.{nat_le}
use Rattle.gpu_alloc.specs.Types.MapError.TheVariants.{AlreadyMapped, MapFailed}
use Rattle.gpu_session.specs.declared.command.Command.{Command}
use Rattle.gpu_session.specs.declared.command.Command.TheVariants.{Alloc, Dedicated, Import, Free, Map, Unmap, Write}
use Rattle.gpu_session.specs.declared.command.Command.TheVariants.{Read, Put, Get, SetRemaining, Cleanup, FreeRanges}
use Rattle.gpu_session.specs.declared.command.Command.TheVariants.{Counts}
use Rattle.gpu_session.specs.declared.command.Reply.{Reply}
use Rattle.gpu_session.specs.declared.command.Reply.TheVariants.{Granted, Done, Mapped as MappedTo, MapRefused}

-- whether a command names a block
abbrev pub is_about : {A : Type 0} → ℕ → Command A → Bool
is_about name (Alloc n request) = n == name
is_about name (Dedicated n request dedicated) = n == name
is_about name (Import n t object_size offset size) = n == name
is_about name (Free n) = n == name
is_about name (Map n offset size) = n == name
is_about name (Unmap n) = n == name
is_about name (Write n offset bytes) = n == name
is_about name (Read n offset len) = n == name
is_about name (Put n offset bytes) = n == name
is_about name (Get n offset len) = n == name
is_about name (SetRemaining remaining) = false
is_about name Cleanup = false
is_about name (FreeRanges t) = false
is_about name Counts = false

-- What is known of one byte of a block: where the block's latest mapping starts in it, and the values that the byte may
-- have, the latest first. There is no value where no write has covered it since the block was granted.
pub record Seen : Type 0 where
  pub mapped_from : ℕ
  pub values : List ℕ

abbrev pub unseen : Seen
unseen = record { mapped_from = 0; values = [] }

-- the value that `bytes`, of which the first goes to an offset, give a byte, if they cover it
abbrev pub given : (offset : ℕ) → List ℕ → ℕ → Option ℕ
given offset bytes byte = cond (nat_le offset byte) (slice_get bytes (byte - offset)) None

-- it has this value from now on
abbrev pub surely : Option ℕ → Seen → Seen
surely None seen = seen
surely (Some v) seen = record seen { values = v ∷ [] }

-- one value more, where there are any
abbrev pub with_more : ℕ → List ℕ → List ℕ
with_more v [] = []
with_more v (w ∷ values) = v ∷ w ∷ values

-- it may have this value too
abbrev pub maybe : Option ℕ → Seen → Seen
maybe None seen = seen
maybe (Some v) seen = record seen { values = with_more v seen.values }

-- After a command that names the block. A completed write gives its bytes. A put may give its bytes to the host only. A
-- refused write may have given them to either side, unless it was refused because the block is mapped or because the
-- mapping failed.
abbrev pub own_after : {A : Type 0} → ℕ → Command A → Reply A → Seen → Seen
own_after byte (Write name offset bytes) Done seen = surely (given offset bytes byte) seen
own_after byte (Write name offset bytes) (MapRefused AlreadyMapped) seen = seen
own_after byte (Write name offset bytes) (MapRefused MapFailed) seen = seen
own_after byte (Write name offset bytes) (MapRefused e) seen = maybe (given offset bytes byte) seen
own_after byte (Put name offset bytes) Done seen = maybe (given (seen.mapped_from + offset) bytes byte) seen
own_after byte (Map name offset size) (MappedTo mapping) seen = record seen { mapped_from = offset }
own_after byte (Free name) Done seen = unseen
own_after byte command (Granted memory_type object offset size) seen = unseen
own_after byte command reply seen = seen

abbrev pub seen_after : {A : Type 0} → (name byte : ℕ) → Command A → Reply A → Seen → Seen
seen_after name byte command reply seen = cond (is_about name command) (own_after byte command reply seen) seen

abbrev pub seen_along : {A : Type 0} → (name byte : ℕ) → List (Command A) → List (Reply A) → Seen → Seen
seen_along name byte [] replies seen = seen
seen_along name byte (command ∷ commands) [] seen = seen
seen_along name byte (command ∷ commands) (reply ∷ replies) seen =
    seen_along name byte commands replies (seen_after name byte command reply seen)

-- the values that a byte of a named block may have after these commands with these replies; none where no write has
-- covered it
abbrev pub written : {A : Type 0} → List (Command A) → List (Reply A) → (name byte : ℕ) → List ℕ
written commands replies name byte = (seen_along name byte commands replies unseen).values

-- The command with this reply leaves the byte alone. It neither frees the block nor grants it anew, and no write or put
-- goes there, completed or (a write) refused for any cause. A put's bytes count from the start of the mapping.
abbrev pub LeavesByte : {A : Type 0} → (name byte mapped_from : ℕ) → Command A → Reply A → Type 0
LeavesByte name byte mapped_from (Write n offset bytes) Done = n ≡ name → given offset bytes byte ≡ None
LeavesByte name byte mapped_from (Write n offset bytes) (MapRefused e) = n ≡ name → given offset bytes byte ≡ None
LeavesByte name byte mapped_from (Put n offset bytes) Done = n ≡ name → given (mapped_from + offset) bytes byte ≡ None
LeavesByte name byte mapped_from (Free n) Done = n ≢ name
LeavesByte name byte mapped_from command (Granted memory_type object offset size) = is_about name command ≡ false
LeavesByte name byte mapped_from command reply = Unit {0}

-- where the block's latest mapping starts, after a command
abbrev pub mapped_after : {A : Type 0} → ℕ → Command A → Reply A → ℕ → ℕ
mapped_after name (Map n offset size) (MappedTo mapping) mapped_from = cond (n == name) offset mapped_from
mapped_after name command reply mapped_from = mapped_from

-- each of these commands with these replies leaves the byte alone
abbrev pub AllLeaveByte : {A : Type 0} → (name byte mapped_from : ℕ) → List (Command A) → List (Reply A) → Type 0
AllLeaveByte name byte mapped_from [] replies = Unit {0}
AllLeaveByte name byte mapped_from (command ∷ commands) [] = Unit {0}
AllLeaveByte name byte mapped_from (command ∷ commands) (reply ∷ replies) =
    LeavesByte name byte mapped_from command reply
    × AllLeaveByte name byte (mapped_after name command reply mapped_from) commands replies

-- The latest write of a byte gave it this value: the write was completed, and each command after it leaves the byte
-- alone.
pub record IsWrittenLast {A : Type 0} (commands : List (Command A)) (replies : List (Reply A)) (name byte v : ℕ) : Type 0 where
  pub before : List (Command A)
  pub answers : List (Reply A)
  pub offset : ℕ
  pub bytes : List ℕ
  pub later : List (Command A)
  pub later_answers : List (Reply A)
  pub asked : commands ≡ before ++ Write name offset bytes ∷ later
  pub answered : replies ≡ answers ++ Done ∷ later_answers
  pub each : length answers ≡ length before
  pub gives : given offset bytes byte ≡ Some v
  pub since : AllLeaveByte name byte (seen_along name byte before answers unseen).mapped_from later later_answers
