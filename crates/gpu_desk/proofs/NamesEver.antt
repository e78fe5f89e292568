-- No name comes twice, along any calls.
use Rattle.std.proofs.Common.{◌≡◌, ℕ, List, [], ◌∷◌, All, Some, None, option_map, subst, ap}
use Rattle.std.proofs.lemmas.List.Elements.{All-cons, All-nil}
use Rattle.std.specs.FinMap as map
use Rattle.gpu_alloc_base.proofs.Names.{here}
use Rattle.gpu_answers.specs.Device.{shown_object}
use Rattle.gpu_answers.specs.Held.{KeepsNames}
use Rattle.gpu_session.specs.Sound as session
use Rattle.gpu_desk.specs.Desk.{DeskState, IsSoundDesk, OfKey, objects}
use Rattle.gpu_desk.specs.Names.{Follows, IsPastName, NamesNothing}

-- a past name is that of no held object, and so of no live block's
pub past_names_nothing : (s : DeskState) → IsSoundDesk s → (name : ℕ) → IsPastName s name → NamesNothing s name
past_names_nothing s sound name past = record { object = none; block = no_block }
  where
    none : objects s name ≡ None
    none = ap (option_map (shown_object s.device.properties)) past.1

    no_block : (key : ℕ) → OfKey s key (λ b. b.object ≡ name) → ⊥
    no_block key of =
        let lives = here (map.get s.blocks.live key) (session.IsBlock s.device.properties s.allocator (objects s)) (sound.memory.blocks key) of.0 of.1 in
        let there = subst (λ n. objects s n ≡ Some lives.inside.0) of.2 lives.inside.1 in
        cc

-- what each call keeps of a name, and what follows from it in a sound state, holds along them all
module _ (P Q : DeskState → Type 0) (keeps : (old new : DeskState) → KeepsNames old.device.held new.device.held → P old → P new)
    (makes : (s : DeskState) → IsSoundDesk s → P s → Q s) where
  pub ever : (first : DeskState) (states : List DeskState) → Follows first states → P first → All Q (first ∷ states)
  ever first [] sound p = All-cons Q first [] (makes first sound p) (All-nil Q)
  ever first (next ∷ rest) follows p =
      All-cons Q first (next ∷ rest) (makes first follows.0 p) (ever next rest follows.2 (keeps first next follows.1 p))
