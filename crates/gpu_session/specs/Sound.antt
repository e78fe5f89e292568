-- What holds in every state between two commands, and what each step keeps.
use Rattle.std.specs.Prelude.{◌≡◌, ◌≢◌, ◌↔◌, ℕ, ◌+◌, ◌%◌, ◌≤◌, ◌<◌, true, List, length, map, Contains, Option, Some}
use Rattle.std.specs.Prelude.{IsSome, IfSome}
use Rattle.std.specs.FinMap as finite
use Rattle.gpu_alloc_types.specs.Properties.{Properties, atom_of}
use Rattle.gpu_alloc_types.specs.Device.{Event, Object, HeldWith}
use Rattle.gpu_alloc_types.specs.Device.Event.{Deallocated}
use Rattle.gpu_alloc.specs.Agreement.{Agrees, BlockAgrees}
use Rattle.gpu_alloc.specs.Allocation.{IsExactFit, IsGranted}
use Rattle.gpu_alloc.specs.Importing.{imported_block}
use Rattle.gpu_alloc.specs.Owned.{AreTwo}
use Rattle.gpu_alloc.specs.Sound as allocator
use Rattle.gpu_alloc.specs.State.{Span, span_of, Block, State, IsLive, IsOwned, is_shared, total, ledger}
use Rattle.gpu_alloc.specs.Types.Kind.TheVariants.{Dedicated as DedicatedObject}
use Rattle.gpu_alloc.specs.declared.request.Dedicated.TheVariants.{Required}
use Rattle.gpu_session.specs.Books.{Books, OfBlock, SessionState}
use Rattle.gpu_session.specs.Does.{IsTold}
use Rattle.gpu_session.specs.Isolation.{LeavesOthers, MovesBytes}
use Rattle.gpu_session.specs.Offer.{IsOffer}
use Rattle.gpu_session.specs.Run.{Step}
use Rattle.gpu_session.specs.declared.command.Command.{Command}
use Rattle.gpu_session.specs.declared.command.Command.TheVariants.{Alloc, Dedicated, Import}
use Rattle.gpu_session.specs.declared.command.Command.TheVariants.{SetRemaining, Cleanup}
use Rattle.gpu_session.specs.declared.command.Reply.{Reply}
use Rattle.gpu_session.specs.declared.command.Reply.TheVariants.{Granted, Refused, Fault as Faulty}
use Rattle.gpu_session.specs.declared.offer.Offer.{Offer}

-- What holds in every state between two commands.

-- a live block: bytes of an object that the allocator and the device hold
pub record IsBlock (p : Properties) (s : State) (objects : ℕ → Option Object) (b : Block) : Type 0 where
  pub nonempty : 0 < b.size
  pub owned : IsOwned s b
  pub inside : HeldWith objects b.object (λ o. (o.memory_type ≡ b.memory_type) × (b.offset + b.size ≤ o.size))
  -- in a shared object it has whole atoms
  pub whole_atoms : is_shared b.kind ≡ true → (b.offset % atom_of p b.memory_type ≡ 0)
      × (b.size % atom_of p b.memory_type ≡ 0)
  -- its mapping lies inside it, and the device has mapped that of its object
  pub agrees : BlockAgrees b p objects

-- Live blocks share no memory: allocator and device agree, and the allocator is sound. Each named block is a live span
-- of a held object, no two share a byte (nor an object where one of them has its own), and nothing else is live.
pub record IsSoundSession (p : Properties) (objects : ℕ → Option Object) (s : Books) : Type 0 where
  pub agrees : Agrees s.allocator p objects
  pub allocator : allocator.IsSound s.allocator
  pub blocks : (name : ℕ) → IfSome (finite.get s.blocks name) (IsBlock p s.allocator objects)
  pub apart : (n m : ℕ) (b c : Block) → n ≢ m → finite.get s.blocks n ≡ Some b → finite.get s.blocks m ≡ Some c
      → AreTwo b c
  pub named : (span : Span) → IsLive s.allocator span → (name : ℕ) × OfBlock s name (λ b. span_of b ≡ span)

-- the invariants of a session's fields
pub record IsSessionKept {A : Type 0} (p : Properties) (objects : ℕ → Option Object) (s : Books) (o : Offer A) : Type 0 where
  pub sound : IsSoundSession p objects s
  pub offer : IsOffer p o

-- What each step keeps.

-- what was given to the allocator stays
pub record KeepsGiven (s new : State) : Type 0 where
  pub properties : new.properties ≡ s.properties
  pub config : new.config ≡ s.config
  pub sharing : new.sharing ≡ s.sharing

-- A block is granted as the command asks: large enough and aligned, exactly as long where it is of a fit chunk, an object
-- of its own where it must be one, and for an import exactly the given span.
abbrev pub GrantsAsAsked : {A : Type 0} → Books → Command A → Reply A → Books → Type 0
GrantsAsAsked old (Alloc name request) (Granted memory_type object offset size) new =
    OfBlock new name (λ b. IsTold b memory_type object offset size × IsGranted old.allocator request new.allocator b
    × IsExactFit old.allocator request b)
GrantsAsAsked old (Dedicated name request dedicated) (Granted memory_type object offset size) new =
    OfBlock new name (λ b. IsTold b memory_type object offset size × IsGranted old.allocator request new.allocator b
    × IsExactFit old.allocator request b × (dedicated ≡ Required → b.kind ≡ DedicatedObject))
GrantsAsAsked old (Import name t object_size start len) (Granted memory_type object offset size) new =
    OfBlock new name (λ b. IsTold b memory_type object offset size
    × (b ≡ imported_block old.allocator object t start len))
GrantsAsAsked old command reply new = Unit {0}

-- A refused allocation or a fault changes nothing: neither the books nor the device's objects, mappings and bytes.
abbrev pub ChangesNothing : {A : Type 0} → (ℕ → Option Object) → Books → Reply A → (ℕ → Option Object) → Books → Type 0
ChangesNothing objects old (Refused e) new_objects new = (new ≡ old) × (new_objects ≡ objects)
ChangesNothing objects old (Faulty fault) new_objects new = (new ≡ old) × (new_objects ≡ objects)
ChangesNothing objects old reply new_objects new = Unit {0}

-- nothing is held, and the whole total may be held again
pub record HoldsNothingAfter (s new : State) : Type 0 where
  pub held : new.held ≡ finite.empty
  pub remaining : new.remaining ≡ total s
  pub ledgers : (heap : ℕ) → ledger new heap ≡ 0

-- Only `SetRemaining` changes the total. Once no name has a block, a cleanup leaves nothing held.
abbrev pub Balances : {A : Type 0} → Books → Command A → Books → Type 0
Balances old (SetRemaining remaining) new = Unit {0}
Balances old Cleanup new =
    (total new.allocator ≡ total old.allocator) × (old.blocks ≡ finite.empty → HoldsNothingAfter old.allocator new.allocator)
Balances old command new = total new.allocator ≡ total old.allocator

-- What each step keeps.
pub record StepKeeps {D A : Type 0} (objects : D → ℕ → Option Object) (old : SessionState D) (command : Command A)
    (reply : Reply A) (new : SessionState D) : Type 0 where
  pub given : KeepsGiven (old.books).allocator (new.books).allocator
  pub granted : GrantsAsAsked old.books command reply new.books
  pub refused : ChangesNothing (objects old.device) old.books reply (objects new.device) new.books
  pub balance : Balances old.books command new.books
  pub others : LeavesOthers (objects old.device) old.books command (objects new.device) new.books
  pub bytes : MovesBytes (objects old.device) old.books command reply (objects new.device)

-- A step from a sound state to a sound state, with all that each step keeps.
pub record SoundStep {D A : Type 0} (step : D → Event → D → Type 0) (properties : D → Properties)
    (objects : D → ℕ → Option Object) (old : SessionState D) (command : Command A) (reply : Reply A)
    (new : SessionState D) : Type 0 where
  pub before : IsSoundSession (properties old.device) (objects old.device) old.books
  pub taken : Step step old command reply new
  pub keeps : StepKeeps objects old command reply new
  pub after : IsSoundSession (properties new.device) (objects new.device) new.books

-- Special runs, and the end.

-- the command does not set how many more objects may be held
abbrev pub LeavesRemaining : {A : Type 0} → Command A → Type 0
LeavesRemaining (SetRemaining remaining) = ⊥
LeavesRemaining command = Unit {0}

-- if no name has a block, nothing is held
abbrev pub HasNothingLeft : Books → Type 0
HasNothingLeft s = s.blocks ≡ finite.empty → HoldsNothingAfter s.allocator s.allocator

-- Each live block is the whole of an object, and no two are of one object.
pub record AreWholeObjects (objects : ℕ → Option Object) (s : Books) : Type 0 where
  pub kind : (name : ℕ) → IfSome (finite.get s.blocks name) (λ b. b.kind ≡ DedicatedObject)
  pub whole : (name : ℕ)
      → IfSome (finite.get s.blocks name) (λ b. (b.offset ≡ 0) × HeldWith objects b.object (λ o. o.size ≡ b.size))
  pub distinct : (n m : ℕ) (b c : Block) → n ≢ m → finite.get s.blocks n ≡ Some b → finite.get s.blocks m ≡ Some c
      → b.object ≢ c.object

-- the same of a session's state
abbrev pub HasWholeObjects : {D : Type 0} → (D → ℕ → Option Object) → SessionState D → Type 0
HasWholeObjects objects s = AreWholeObjects (objects s.device) s.books

-- the command asks for blocks only with the hint `Required`
abbrev pub IsForRequired : {A : Type 0} → Command A → Type 0
IsForRequired (Alloc name request) = ⊥
IsForRequired (Dedicated name request dedicated) = dedicated ≡ Required
IsForRequired (Import name t object_size offset size) = ⊥
IsForRequired command = Unit {0}

-- each held object is released once, and nothing else is asked
pub record ReturnsAll (s : Books) (es : List Event) : Type 0 where
  pub gone : List ℕ
  pub asked : es ≡ map Deallocated gone
  pub each : (object : ℕ) → Contains gone object ↔ IsSome (finite.get (s.allocator).held object)
  pub once : length gone ≡ finite.len (s.allocator).held
