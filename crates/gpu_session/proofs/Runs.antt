-- Runs, one after the other.
use Rattle.std.proofs.Common.{◌≡◌, ℕ, ◌+◌, ◌<◌, List, [], ◌∷◌, ◌++◌, length, take, get_or, add-one, suc, ap, refl, subst}
use Rattle.std.proofs.Math.Seq.{take-suc}
use Rattle.gpu_session.specs.Run.{Run}
use Rattle.gpu_session.specs.declared.command.Command.{Command}
use Rattle.gpu_session.specs.declared.command.Reply.{Reply}

module _ {S A : Type 0} (Steps : S → Command A → Reply A → S → Type 0) where
  -- a run has a reply for each command
  pub run_answers_each : (old new : S) (commands : List (Command A)) (replies : List (Reply A)) → Run Steps old commands replies new → length replies ≡ length commands
  run_answers_each old new [] [] run = refl
  run_answers_each old new [] (r ∷ replies) run = absurd run
  run_answers_each old new (c ∷ commands) [] run = absurd run
  run_answers_each old new (c ∷ commands) (r ∷ replies) run = ap suc (run_answers_each run.0 new commands replies run.2)

  -- a run goes on by one step
  pub run_more : (old mid new : S) (commands : List (Command A)) (replies : List (Reply A)) (command : Command A) (reply : Reply A)
      → Run Steps old commands replies mid → Steps mid command reply new → Run Steps old (commands ++ command ∷ []) (replies ++ reply ∷ []) new
  run_more old mid new [] [] command reply run s = (new, subst (λ x. Steps x command reply new) run s, refl)
  run_more old mid new [] (r ∷ replies) command reply run s = absurd run
  run_more old mid new (c ∷ commands) [] command reply run s = absurd run
  run_more old mid new (c ∷ commands) (r ∷ replies) command reply run s = (run.0, run.1, run_more run.0 mid new commands replies command reply run.2 s)

  -- of a list of commands, a run goes on by the next one
  pub run_next : (old mid new : S) (commands : List (Command A)) (i : ℕ) (default : Command A) (replies : List (Reply A)) (reply : Reply A) → i < length commands
      → Run Steps old (take i commands) replies mid → Steps mid (get_or commands i default) reply new → Run Steps old (take (i + 1) commands) (replies ++ reply ∷ []) new
  run_next old mid new commands i default replies reply lt run s = rw (add-one, take-suc commands i default lt) (run_more old mid new (take i commands) replies (get_or commands i default) reply run s)

  -- the same, where the next command is known
  pub run_next_is : (old mid new : S) (commands : List (Command A)) (i : ℕ) (command : Command A) (replies : List (Reply A)) (reply : Reply A) → i < length commands → command ≡ get_or commands i command
      → Run Steps old (take i commands) replies mid → Steps mid command reply new → Run Steps old (take (i + 1) commands) (replies ++ reply ∷ []) new
  run_next_is old mid new commands i command replies reply lt is run s = run_next old mid new commands i command replies reply lt run (subst (λ x. Steps mid x reply new) is s)

  -- two runs, one after the other, are a run of the joined lists
  pub run_append : (old mid new : S) (commands later : List (Command A)) (replies answers : List (Reply A))
      → Run Steps old commands replies mid → Run Steps mid later answers new → Run Steps old (commands ++ later) (replies ++ answers) new
  run_append old mid new [] later [] answers run rest = subst (λ x. Run Steps x later answers new) run rest
  run_append old mid new [] later (r ∷ replies) answers run rest = absurd run
  run_append old mid new (c ∷ commands) later [] answers run rest = absurd run
  run_append old mid new (c ∷ commands) later (r ∷ replies) answers run rest = (run.0, run.1, run_append run.0 mid new commands later replies answers run.2 rest)

-- a run of finer steps is a run
pub run_coarser : {S A : Type 0} (Fine Steps : S → Command A → Reply A → S → Type 0) → ((old : S) (command : Command A) (reply : Reply A) (new : S) → Fine old command reply new → Steps old command reply new)
    → (old new : S) (commands : List (Command A)) (replies : List (Reply A)) → Run Fine old commands replies new → Run Steps old commands replies new
run_coarser Fine Steps is old new [] [] run = run
run_coarser Fine Steps is old new [] (r ∷ replies) run = absurd run
run_coarser Fine Steps is old new (c ∷ commands) [] run = absurd run
run_coarser Fine Steps is old new (c ∷ commands) (r ∷ replies) run = (run.0, is old c r run.0 run.1, run_coarser Fine Steps is run.0 new commands replies run.2)
