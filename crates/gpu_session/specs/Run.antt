-- Steps and runs of a session.
use Rattle.std.specs.Prelude.{◌≡◌, List, [], ◌∷◌, ◌++◌}
use Rattle.gpu_alloc_types.specs.Device.{Event, Chain}
use Rattle.gpu_session.specs.Books.{SessionState}
use Rattle.gpu_session.specs.Does.{Does}
use Rattle.gpu_session.specs.declared.command.Command.{Command}
use Rattle.gpu_session.specs.declared.command.Command.TheVariants.{Cleanup}
use Rattle.gpu_session.specs.declared.command.Reply.{Reply}

-- From old, a session may give this reply to the command and go on to new: the device was asked a chain of its steps.
abbrev pub Step : {D A : Type 0} → (D → Event → D → Type 0) → SessionState D → Command A → Reply A → SessionState D
    → Type 0
Step step old command reply new =
    (es : List Event) × Chain step old.device es new.device × Does old.books command es reply new.books

-- These replies answer these commands, one step after another.
abbrev pub Run : {S A : Type 0} → (S → Command A → Reply A → S → Type 0) → S → List (Command A) → List (Reply A) → S
    → Type 0
Run Steps old [] [] new = new ≡ old
Run {S} Steps old (command ∷ commands) (reply ∷ replies) new =
    (mid : S) × Steps old command reply mid × Run Steps mid commands replies new
Run Steps old [] (reply ∷ replies) new = ⊥
Run Steps old (command ∷ commands) [] new = ⊥

-- two runs of these steps, one after the other, are a run of the joined lists
abbrev pub Joins : {S A : Type 0} → (S → Command A → Reply A → S → Type 0) → Type 0
Joins {S} {A} Steps =
    (old mid new : S) (commands later : List (Command A)) (replies answers : List (Reply A))
    → Run Steps old commands replies mid → Run Steps mid later answers new
    → Run Steps old (commands ++ later) (replies ++ answers) new

-- this holds of each run of these steps
abbrev pub EachRun : {S A : Type 0} → (S → Command A → Reply A → S → Type 0)
    → (S → List (Command A) → List (Reply A) → S → Type 0) → Type 0
EachRun {S} {A} Steps P =
    (old new : S) (commands : List (Command A)) (replies : List (Reply A))
    → Run Steps old commands replies new → P old commands replies new

-- the last command is a cleanup
abbrev pub EndsWithCleanup : {A : Type 0} → List (Command A) → Type 0
EndsWithCleanup {A} commands = (before : List (Command A)) × (commands ≡ before ++ Cleanup ∷ [])

-- this holds of each command that is served next, with its reply
abbrev pub EachNext : {S A : Type 0} → (S → Command A → Reply A → S → Type 0) → S → (Command A → Reply A → Type 0)
    → Type 0
EachNext {S} {A} Steps old P = (command : Command A) (reply : Reply A) (new : S) → Steps old command reply new → P command reply
