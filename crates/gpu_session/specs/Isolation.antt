-- Which bytes a command may change, and what is known of bytes that were written.
use Rattle.std.specs.Prelude.{◌≡◌, ◌≢◌, ◌⊎◌, ℕ, ◌+◌, ◌<◌, ◌≤◌, false, List, [], ◌∷◌, ◌++◌, length, take}
use Rattle.std.specs.Prelude.{Option, Some, None, slice_get}
use Rattle.std.specs.FinMap as finite
use Rattle.gpu_alloc_types.specs.Device.{Object, Changes, IsPut}
use Rattle.gpu_alloc_types.specs.Properties.{Properties}
use Rattle.gpu_alloc_types.specs.declared.types.OutOfMemory.{OutOfMemory}
use Rattle.gpu_alloc.specs.Bytes.{ChangesBytes, IsWrittenThrough, IsPartlyWritten, IsReadThrough, IsPartlyRead}
pub use Rattle.gpu_alloc.specs.Contents.{host_at, device_at, AreSame}
use Rattle.gpu_alloc.specs.Errors.{map_like_memory}
use Rattle.gpu_alloc.specs.Ranges.{HasAll, rounded_range}
use Rattle.gpu_alloc.specs.State.{Block}
use Rattle.gpu_alloc.specs.Types.MapError.{MapError}
use Rattle.gpu_alloc.specs.Types.Mapping.{Mapping}
use Rattle.gpu_session.specs.Books.{Books, OfBlock, SessionState}
use Rattle.gpu_session.specs.Run.{Run}
use Rattle.gpu_session.specs.Written.{IsWrittenLast, Seen, is_about, seen_along, written}
use Rattle.gpu_session.specs.declared.command.Command.{Command}
use Rattle.gpu_session.specs.declared.command.Command.TheVariants.{Map, Unmap, Write, Read, Put, Get}
use Rattle.gpu_session.specs.declared.command.Reply.{Reply}
use Rattle.gpu_session.specs.declared.command.Reply.TheVariants.{Done, Mapped as MappedTo, MapRefused, Bytes}
use Rattle.gpu_session.specs.declared.command.Reply.TheVariants.{Unmapped as WasMapped}

-- A block that the command does not name is unchanged, with its mapping and each of its bytes, as host and device see
-- it.
abbrev pub LeavesOthers : {A : Type 0} → (ℕ → Option Object) → Books → Command A → (ℕ → Option Object) → Books → Type 0
LeavesOthers objects old command new_objects new =
    (name : ℕ) (b : Block) → is_about name command ≡ false → finite.get old.blocks name ≡ Some b
    → (finite.get new.blocks name ≡ Some b)
    × ((k : ℕ) → b.offset ≤ k → k < b.offset + b.size → AreSame (objects b.object) (new_objects b.object) k)

-- What a command does to the bytes of its own block.

-- host and device both have the bytes, and agree on all that is flushed with them
pub record WritesBytes (b : Block) (offset : ℕ) (bytes : List ℕ) (old new : ℕ → Option Object) : Type 0 where
  pub through : ChangesBytes b (length bytes) (IsWrittenThrough b offset bytes) old new
  pub all : HasAll (rounded_range b offset (length bytes)) (b.offset + offset) (length bytes)

-- a refused write moved no byte, or the device had no memory for the flush
abbrev pub IsRefusedWrite : Block → ℕ → List ℕ → MapError → (old new : ℕ → Option Object) → Type 0
IsRefusedWrite b offset bytes e old new =
    (new ≡ old)
    ⊎ ((cause : OutOfMemory) × (e ≡ map_like_memory cause)
    × Changes (IsPartlyWritten b offset bytes) old b.object new)

-- a refused read moved no byte, or part of the device's bytes to the host
abbrev pub IsRefusedRead : Block → (offset len : ℕ) → (old new : ℕ → Option Object) → Type 0
IsRefusedRead b offset len old new = (new ≡ old) ⊎ Changes (IsPartlyRead (rounded_range b offset len)) old b.object new

-- some bytes are put, in the block's mapping
abbrev pub PutsBytes : Properties → Block → ℕ → List ℕ → (old new : ℕ → Option Object) → Type 0
PutsBytes p b offset bytes old new =
    (m : Mapping) × (b.mapping ≡ Some m)
    × ((0 < length bytes → Changes (IsPut p (m.start + offset) bytes) old b.object new)
    × (length bytes ≡ 0 → new ≡ old))

-- the object may have another mapping, and has the same bytes
abbrev pub HasOnlyOtherMapping : Object → Object → Type 0
HasOnlyOtherMapping o new = (new.host_bytes ≡ o.host_bytes) × (new.device_bytes ≡ o.device_bytes)

abbrev pub MovesNoByte : Block → (old new : ℕ → Option Object) → Type 0
MovesNoByte b old new = (new ≡ old) ⊎ Changes HasOnlyOtherMapping old b.object new

abbrev pub MovesBytes : {A : Type 0} → (ℕ → Option Object) → Books → Command A → Reply A → (ℕ → Option Object) → Type 0
MovesBytes old s (Map name offset size) (MappedTo mapping) new = OfBlock s name (λ b. MovesNoByte b old new)
MovesBytes old s (Map name offset size) (MapRefused e) new = new ≡ old
MovesBytes old s (Unmap name) (WasMapped was) new = OfBlock s name (λ b. MovesNoByte b old new)
MovesBytes old s (Write name offset bytes) Done new =
    OfBlock s name (λ b. WritesBytes b offset bytes old new)
MovesBytes old s (Write name offset bytes) (MapRefused e) new =
    OfBlock s name (λ b. IsRefusedWrite b offset bytes e old new)
MovesBytes old s (Read name offset len) (Bytes bytes) new =
    OfBlock s name (λ b. ChangesBytes b len (IsReadThrough b offset bytes) old new)
MovesBytes old s (Read name offset len) (MapRefused e) new = OfBlock s name (λ b. IsRefusedRead b offset len old new)
MovesBytes old s (Put name offset bytes) Done new =
    OfBlock s name (λ b. PutsBytes (s.allocator).properties b offset bytes old new)
MovesBytes old s (Get name offset len) (Bytes bytes) new = new ≡ old
MovesBytes old s command reply new = Unit {0}

-- What was written.

-- the number is one of these values
abbrev pub IsAmong : List ℕ → ℕ → Type 0
IsAmong [] v = ⊥
IsAmong (w ∷ values) v = (v ≡ w) ⊎ IsAmong values v

-- there is a byte, and it has one of these values
abbrev pub HasOneOf : List ℕ → Option ℕ → Type 0
HasOneOf values None = ⊥
HasOneOf values (Some v) = IsAmong values v

-- the byte has one of these values for the host, and one for the device
abbrev pub HasBoth : List ℕ → Option Object → ℕ → Type 0
HasBoth values o k = HasOneOf values (host_at o k) × HasOneOf values (device_at o k)

-- each byte of a live block that has possible values has one of them for the host, and one for the device
unfoldable pub HoldsWritten : (ℕ → Option Object) → Books → ((name byte : ℕ) → List ℕ) → Type 0
HoldsWritten objects s values =
    (name byte : ℕ) (b : Block) → finite.get s.blocks name ≡ Some b → byte < b.size → values name byte ≢ []
    → HasBoth (values name byte) (objects b.object) (b.offset + byte)

-- In each state of a run, after each number of its commands, the blocks hold what was written by then.
abbrev pub HoldsAlong : {D A : Type 0} → (SessionState D → Command A → Reply A → SessionState D → Type 0)
    → (D → ℕ → Option Object) → SessionState D → List (Command A) → List (Reply A) → Type 0
HoldsAlong {D} Steps objects old commands replies =
    (n : ℕ) (mid : SessionState D) → Run Steps old (take n commands) (take n replies) mid
    → HoldsWritten (objects mid.device) mid.books (written (take n commands) (take n replies))

-- What was read of a byte after these commands: one of its possible values, where it has any, and the only one, where
-- there is one. It is the latest write's where the block stayed and no write or put has gone there since.
pub record TellsByte {A : Type 0} (commands : List (Command A)) (replies : List (Reply A)) (name byte : ℕ) (read : Option ℕ)
    : Type 0 where
  pub known : written commands replies name byte ≢ [] → HasOneOf (written commands replies name byte) read
  pub only : (v : ℕ) → written commands replies name byte ≡ v ∷ [] → read ≡ Some v
  pub latest : (v : ℕ) → IsWrittenLast commands replies name byte v → read ≡ Some v

-- A read that is answered with bytes gives what the commands before it wrote.
abbrev pub TellsWritten : {A : Type 0} → List (Command A) → List (Reply A) → Command A → Reply A → Type 0
TellsWritten commands replies (Read name offset len) (Bytes bytes) =
    (j : ℕ) → j < length bytes → TellsByte commands replies name (offset + j) (slice_get bytes j)
TellsWritten commands replies command reply = Unit {0}

-- Each read of a list does.
abbrev pub TellAlong : {A : Type 0} → List (Command A) → List (Reply A) → Type 0
TellAlong {A} commands replies =
    (n : ℕ) (command : Command A) (reply : Reply A) → slice_get commands n ≡ Some command → slice_get replies n ≡ Some reply
    → TellsWritten (take n commands) (take n replies) command reply

-- What is known of a byte along joined lists is what the later ones make of what the earlier ones left.
abbrev pub SeenAlongJoined : {A : Type 0} → List (Command A) → List (Reply A) → Type 0
SeenAlongJoined {A} commands replies =
    (later : List (Command A)) (answers : List (Reply A)) (name byte : ℕ) (seen : Seen)
    → seen_along name byte (commands ++ later) (replies ++ answers) seen
    ≡ seen_along name byte later answers (seen_along name byte commands replies seen)
