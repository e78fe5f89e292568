-- Runs of requests for objects of their own.
use Rattle.std.proofs.Common.{◌≡◌, inl, inr, ℕ, suc, arith, List, [], ◌∷◌, All, Option, Some, IfSome, refl, sym, ◌∙◌, ap, subst}
use Rattle.std.specs.FinMap as finite
use Rattle.std.specs.Ordering.{nat_cmp}
use Rattle.gpu_alloc_types.specs.Device.{Event, Object}
use Rattle.gpu_alloc_types.specs.Properties.{Properties}
use Rattle.gpu_alloc.specs.Agreement.{IsCountedFor}
use Rattle.gpu_alloc.specs.Sound.{LiesIn}
use Rattle.gpu_alloc.specs.State.{Span, span_of, HeldObject, Block, State, is_shared}
use Rattle.gpu_alloc.specs.Types.Kind.{Kind}
use Rattle.gpu_alloc.specs.Types.Kind.TheVariants.{Dedicated as DedicatedObject}
use Rattle.gpu_alloc_base.proofs.Maps.{one_value}
use Rattle.gpu_alloc_base.proofs.Names.{get_put, here, wherever, put-cases, removed-cases}
use Rattle.gpu_session.specs.Books.{Books, SessionState, with_block}
use Rattle.gpu_session.specs.Does.{Does, ServesCommand}
use Rattle.gpu_session.specs.Run.{Run}
use Rattle.gpu_session.specs.Sound.{IsBlock, IsSoundSession, AreWholeObjects, GrantsAsAsked, SoundStep, IsForRequired}
use Rattle.gpu_session.specs.declared.command.Command.{Command}
use Rattle.gpu_session.specs.declared.command.Command.TheVariants.{Alloc, Dedicated, Import, Free, Map, Unmap, Write, Read, Put, Get, SetRemaining, Cleanup, FreeRanges, Counts}
use Rattle.gpu_session.specs.declared.command.Reply.{Reply}
use Rattle.gpu_session.specs.declared.command.Reply.TheVariants.{Granted, Refused, Done, Mapped as MappedTo, MapRefused, Unmapped as WasMapped, Bytes, Ranges, Counts as Counted, Fault as Faulty}

-- each block has an object of its own
abbrev AreOwn : Books → Type 0
AreOwn s = (name : ℕ) → IfSome (finite.get s.blocks name) (λ b. b.kind ≡ DedicatedObject)

-- In a sound state such blocks are whole objects.

lies_whole : (k : Kind) (s : State) (name counted : ℕ) (span : Span) (o : Object) → k ≡ DedicatedObject → LiesIn k counted span → IsCountedFor k s name counted o → (span.offset ≡ 0) × (o.size ≡ span.size)
lies_whole k s name counted span o is lies count =
    let whole : LiesIn DedicatedObject counted span = subst (λ (x : Kind). LiesIn x counted span) is lies in
    let counts : IsCountedFor DedicatedObject s name counted o = subst (λ (x : Kind). IsCountedFor x s name counted o) is count in
    (whole.0, counts ∙ sym whole.1)

module _ {p : Properties} {objects : ℕ → Option Object} {s : Books} (sound : IsSoundSession p objects s) where
  block_at : (name : ℕ) (b : Block) → finite.get s.blocks name ≡ Some b → IsBlock p s.allocator objects b
  block_at name b at = here (finite.get s.blocks name) (IsBlock p s.allocator objects) (sound.blocks name) b at

  whole_object : (b : Block) → IsBlock p s.allocator objects b → b.kind ≡ DedicatedObject → (b.offset ≡ 0) × ((o : Object) × (objects b.object ≡ Some o) × (o.size ≡ b.size))
  whole_object b is kind =
      let lies = sound.allocator.inside (span_of b) is.owned.live in
      let there = here (finite.get (s.allocator).held b.object) _ (sound.agrees.holds b.object) lies.0 lies.1 in
      let same : is.owned.held.0 ≡ lies.0 = one_value _ is.owned.held.0 lies.0 is.owned.held.1 lies.1 in
      let own : (lies.0).kind ≡ DedicatedObject = ap (λ (h : HeldObject). h.kind) (sym same) ∙ is.owned.held.3 ∙ kind in
      let whole = lies_whole lies.0.kind s.allocator b.object lies.0.counted (span_of b) there.0 own lies.2 there.2.of_size in
      (whole.0, (there.0, there.1, whole.1))

  pub own_are_whole : AreOwn s → AreWholeObjects objects s
  own_are_whole own = record {
    kind = own;
    whole = λ name. wherever (finite.get s.blocks name) _ (λ b at. whole_object b (block_at name b at) (here (finite.get s.blocks name) _ (own name) b at));
    distinct = λ n m b c ne at_n at_m same.
        let first = block_at n b at_n in
        let second = block_at m c at_m in
        let kind : first.owned.held.0.kind ≡ DedicatedObject = first.owned.held.3 ∙ here (finite.get s.blocks n) _ (own n) b at_n in
        let one : span_of b ≡ span_of c = sound.allocator.alone b.object first.owned.held.0 first.owned.held.1 (ap is_shared kind) (span_of b) (span_of c) first.owned.live second.owned.live refl (sym same) in
        (sound.apart n m b c ne at_n at_m).differ one;
  }

-- Steps.

own_put : (old new : Books) (name : ℕ) (b : Block) → new.blocks ≡ finite.insert old.blocks name b → b.kind ≡ DedicatedObject → AreOwn old → AreOwn new
own_put old new name b put kind own n = wherever (finite.get new.blocks n) _ (λ c at. elim (put-cases old.blocks name b n c (rw put at at)) [
  | inl e ↦ ap (λ (x : Block). x.kind) e.1 ∙ kind
  | inr h ↦ here (finite.get old.blocks n) _ (own n) c h.1
])

own_taken : (old new : Books) (name : ℕ) → new.blocks ≡ finite.remove old.blocks name → AreOwn old → AreOwn new
own_taken old new name taken own n = wherever (finite.get new.blocks n) _ (λ c at. here (finite.get old.blocks n) _ (own n) c (removed-cases old.blocks name n c (rw taken at at)).1)

own_same : (old new : Books) → new.blocks ≡ old.blocks → AreOwn old → AreOwn new
own_same old new same own n = wherever (finite.get new.blocks n) _ (λ c at. here (finite.get old.blocks n) _ (own n) c (rw same at at))

own_placed : (old new : Books) (name : ℕ) (b now : Block) → finite.get old.blocks name ≡ Some b → now.kind ≡ b.kind → new ≡ with_block old name now → AreOwn old → AreOwn new
own_placed old new name b now at same placed own =
    own_put old new name now (ap (λ (s : Books). s.blocks) placed) (same ∙ here (finite.get old.blocks name) _ (own name) b at) own

own_books : (old new : Books) → new ≡ old → AreOwn old → AreOwn new
own_books old new same own = own_same old new (ap (λ (b : Books). b.blocks) same) own

module _ {A : Type 0} (old : Books) (own : AreOwn old) (es : List Event) where
  serves_own : (command : Command A) (reply : Reply A) (new : Books) → IsForRequired command → GrantsAsAsked old command reply new → ServesCommand old command es reply new → AreOwn new
  serves_own (Alloc name request) reply new required granted served = absurd required
  serves_own (Dedicated name request dedicated) (Granted memory_type object offset size) new required granted served =
      let at = ap (λ (m : finite.FinMap nat_cmp Block). finite.get m name) served.3 ∙ get_put old.blocks name served.0 in
      let one : granted.0 ≡ served.0 = one_value _ granted.0 served.0 granted.1 at in
      own_put old new name served.0 served.3 (ap (λ (x : Block). x.kind) (sym one) ∙ granted.2.3 required) own
  serves_own (Dedicated name request dedicated) (Refused e) new required granted served = own_same old new served.1 own
  serves_own (Dedicated name request dedicated) reply new required granted served = absurd served
  serves_own (Import name t object_size offset size) reply new required granted served = absurd required
  serves_own (Free name) Done new required granted served = own_taken old new name served.2.1 own
  serves_own (Free name) reply new required granted served = absurd served
  serves_own (Map name offset size) (MappedTo mapping) new required granted served = own_placed old new name served.0 _ served.1 refl served.2.2 own
  serves_own (Map name offset size) (MapRefused e) new required granted served = own_books old new served.2.1 own
  serves_own (Map name offset size) reply new required granted served = absurd served
  serves_own (Unmap name) (WasMapped was) new required granted served = own_placed old new name served.0 _ served.1 refl served.2.2 own
  serves_own (Unmap name) reply new required granted served = absurd served
  serves_own (Write name offset bytes) Done new required granted served = own_books old new served.2.1 own
  serves_own (Write name offset bytes) (MapRefused e) new required granted served = own_books old new served.2.1 own
  serves_own (Write name offset bytes) reply new required granted served = absurd served
  serves_own (Read name offset len) (Bytes bytes) new required granted served = own_books old new served.2.2 own
  serves_own (Read name offset len) (MapRefused e) new required granted served = own_books old new served.2.1 own
  serves_own (Read name offset len) reply new required granted served = absurd served
  serves_own (Put name offset bytes) Done new required granted served = own_books old new served.2.1 own
  serves_own (Put name offset bytes) reply new required granted served = absurd served
  serves_own (Get name offset len) (Bytes bytes) new required granted served = own_books old new served.2.2 own
  serves_own (Get name offset len) reply new required granted served = absurd served
  serves_own (SetRemaining remaining) Done new required granted served = own_same old new (ap (λ (b : Books). b.blocks) served.1) own
  serves_own (SetRemaining remaining) reply new required granted served = absurd served
  serves_own Cleanup Done new required granted served = own_same old new served.1 own
  serves_own Cleanup reply new required granted served = absurd served
  serves_own (FreeRanges t) (Ranges ranges) new required granted served = own_books old new served.1 own
  serves_own (FreeRanges t) reply new required granted served = absurd served
  serves_own Counts (Counted remaining held used) new required granted served = own_books old new served.1 own
  serves_own Counts reply new required granted served = absurd served

  does_own : (command : Command A) (reply : Reply A) (new : Books) → IsForRequired command → GrantsAsAsked old command reply new → Does old command es reply new → AreOwn new
  does_own command (Faulty fault) new required granted does = own_books old new does.0 own
  does_own command (Granted memory_type object offset size) new required granted does = serves_own command (Granted memory_type object offset size) new required granted does.1
  does_own command (Refused e) new required granted does = serves_own command (Refused e) new required granted does.1
  does_own command Done new required granted does = serves_own command Done new required granted does.1
  does_own command (MappedTo mapping) new required granted does = serves_own command (MappedTo mapping) new required granted does.1
  does_own command (MapRefused e) new required granted does = serves_own command (MapRefused e) new required granted does.1
  does_own command (WasMapped was) new required granted does = serves_own command (WasMapped was) new required granted does.1
  does_own command (Bytes bytes) new required granted does = serves_own command (Bytes bytes) new required granted does.1
  does_own command (Ranges ranges) new required granted does = serves_own command (Ranges ranges) new required granted does.1
  does_own command (Counted remaining held used) new required granted does = serves_own command (Counted remaining held used) new required granted does.1

-- Runs.

module _ {D A : Type 0} (step : D → Event → D → Type 0) (properties : D → Properties) (objects : D → ℕ → Option Object) where
  pub run_whole : (old new : SessionState D) (commands : List (Command A)) (replies : List (Reply A)) → All IsForRequired commands → AreWholeObjects (objects old.device) old.books
      → Run (SoundStep step properties objects) old commands replies new → AreWholeObjects (objects new.device) new.books
  run_whole old new [] [] required whole run = subst (λ (s : SessionState D). AreWholeObjects (objects s.device) s.books) (sym run) whole
  run_whole old new [] (r ∷ replies) required whole run = absurd run
  run_whole old new (c ∷ commands) [] required whole run = absurd run
  run_whole old new (c ∷ commands) (r ∷ replies) required whole (mid, first, rest) =
      run_whole mid new commands replies (λ i d inside. required (suc i) d (omega (arith, inside)))
      (own_are_whole first.after (does_own old.books whole.kind first.taken.0 c r mid.books (required 0 c (omega arith)) first.keeps.granted first.taken.2)) rest
