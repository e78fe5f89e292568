-- How many objects are held or may still be, along a run, and what is held at its end.
use Rattle.std.proofs.Common.{◌≡◌, ℕ, suc, List, [], ◌∷◌, ◌++◌, All, Option, sym, ◌∙◌, ap, subst, arith}
use Rattle.gpu_alloc_types.specs.Device.{Event, Object}
use Rattle.gpu_alloc_types.specs.Properties.{Properties}
use Rattle.gpu_alloc.specs.State.{total}
use Rattle.gpu_session.specs.Books.{Books, SessionState}
use Rattle.gpu_session.specs.Does.{Does}
use Rattle.gpu_session.specs.Run.{Run}
use Rattle.gpu_session.specs.Sound.{Balances, HasNothingLeft, LeavesRemaining, SoundStep}
use Rattle.gpu_session.specs.declared.command.Command.{Command}
use Rattle.gpu_session.specs.declared.command.Command.TheVariants.{Alloc, Dedicated, Import, Free, Map, Unmap, Write, Read, Put, Get, SetRemaining, Cleanup, FreeRanges, Counts}
use Rattle.gpu_session.specs.declared.command.Reply.{Reply}
use Rattle.gpu_session.specs.declared.command.Reply.TheVariants.{Granted, Refused, Done, Mapped as MappedTo, MapRefused, Unmapped as WasMapped, Bytes, Ranges, Counts as Counted, Fault as Faulty}

balanced : {A : Type 0} (old new : Books) (command : Command A) → LeavesRemaining command → Balances old command new → total new.allocator ≡ total old.allocator
balanced old new (Alloc name request) leaves same = same
balanced old new (Dedicated name request dedicated) leaves same = same
balanced old new (Import name t object_size offset size) leaves same = same
balanced old new (Free name) leaves same = same
balanced old new (Map name offset size) leaves same = same
balanced old new (Unmap name) leaves same = same
balanced old new (Write name offset bytes) leaves same = same
balanced old new (Read name offset len) leaves same = same
balanced old new (Put name offset bytes) leaves same = same
balanced old new (Get name offset len) leaves same = same
balanced old new (SetRemaining remaining) leaves same = absurd leaves
balanced old new Cleanup leaves same = same.0
balanced old new (FreeRanges t) leaves same = same
balanced old new Counts leaves same = same

-- a cleanup leaves the names
cleanup_names : {A : Type 0} (old new : Books) (es : List Event) (reply : Reply A) → Does old Cleanup es reply new → new.blocks ≡ old.blocks
cleanup_names old new es (Faulty fault) does = ap (λ (b : Books). b.blocks) does.0
cleanup_names old new es Done does = does.1.1
cleanup_names old new es (Granted memory_type object offset size) does = absurd does.1
cleanup_names old new es (Refused e) does = absurd does.1
cleanup_names old new es (MappedTo mapping) does = absurd does.1
cleanup_names old new es (MapRefused e) does = absurd does.1
cleanup_names old new es (WasMapped was) does = absurd does.1
cleanup_names old new es (Bytes bytes) does = absurd does.1
cleanup_names old new es (Ranges ranges) does = absurd does.1
cleanup_names old new es (Counted remaining held used) does = absurd does.1

module _ {D A : Type 0} (step : D → Event → D → Type 0) (properties : D → Properties) (objects : D → ℕ → Option Object) where
  pub run_total : (old new : SessionState D) (commands : List (Command A)) (replies : List (Reply A)) → All LeavesRemaining commands → Run (SoundStep step properties objects) old commands replies new
      → total (new.books).allocator ≡ total (old.books).allocator
  run_total old new [] [] leaves run = ap (λ (s : SessionState D). total (s.books).allocator) run
  run_total old new [] (r ∷ replies) leaves run = absurd run
  run_total old new (c ∷ commands) [] leaves run = absurd run
  run_total old new (c ∷ commands) (r ∷ replies) leaves (mid, first, rest) =
      run_total mid new commands replies (λ i d inside. leaves (suc i) d (omega (arith, inside))) rest
      ∙ balanced old.books mid.books c (leaves 0 c (omega arith)) first.keeps.balance

  -- a step of a cleanup leaves nothing held where no name has a block
  step_ends : (old new : SessionState D) (reply : Reply A) → SoundStep step properties objects old Cleanup reply new → HasNothingLeft new.books
  step_ends old new reply s empty =
      let balance = s.keeps.balance in
      let was = sym (cleanup_names old.books new.books s.taken.0 reply s.taken.2) ∙ empty in
      let nothing = balance.1 was in
      record { held = nothing.held; remaining = nothing.remaining ∙ sym balance.0; ledgers = nothing.ledgers }

  pub run_ends : (old new : SessionState D) (commands : List (Command A)) (replies : List (Reply A)) (before : List (Command A)) → commands ≡ before ++ Cleanup ∷ [] → Run (SoundStep step properties objects) old commands replies new
      → HasNothingLeft new.books
  run_ends old new commands replies before is run = last old new before replies (subst (λ cs. Run (SoundStep step properties objects) old cs replies new) is run)
    where
      last : (old new : SessionState D) (before : List (Command A)) (replies : List (Reply A)) → Run (SoundStep step properties objects) old (before ++ Cleanup ∷ []) replies new → HasNothingLeft new.books
      last old new [] [] run = absurd run
      last old new [] (r ∷ []) (mid, first, rest) = subst (λ (s : SessionState D). HasNothingLeft s.books) (sym rest) (step_ends old mid r first)
      last old new [] (r ∷ r' ∷ replies) (mid, first, rest) = absurd rest
      last old new (c ∷ before) [] run = absurd run
      last old new (c ∷ before) (r ∷ replies) (mid, first, rest) = last mid new before replies rest
