-- Each step keeps what is known of each byte that was written, and so does a run.
use Rattle.std.proofs.Common.{◌≡◌, ◌⊎◌, inl, inr, ℕ, zero, suc, ◌+◌, ◌<◌, ◌≤◌, ◌==◌, Bool, true, false, cond, is_some, List, [], ◌∷◌, ◌++◌, length, slice_get, take, Option, Some, None, refl, sym, ◌∙◌, ap, subst, arith}
use Rattle.std.proofs.lemmas.Bool.Decides.{nat_tests}
use Rattle.std.specs.FinMap as finite
use Rattle.gpu_alloc_types.specs.Device.{Changes, Event, IsOutside, IsPut, Object}
use Rattle.gpu_alloc_types.specs.Properties.{Properties}
use Rattle.gpu_alloc_types.specs.declared.types.OutOfMemory.{OutOfMemory}
use Rattle.gpu_alloc_types.specs.declared.types.OutOfMemory.TheVariants.{OutOfDeviceMemory as NoDeviceMemory, OutOfHostMemory as NoHostMemory}
use Rattle.gpu_alloc.specs.Bytes.{ChangesBytes, IsReadThrough}
use Rattle.gpu_alloc.specs.Errors.{map_like_memory}
use Rattle.gpu_alloc.specs.State.{Block}
use Rattle.gpu_alloc.specs.Types.MapError.{MapError}
use Rattle.gpu_alloc.specs.Types.MapError.TheVariants.{AlreadyMapped, MapFailed, NonHostVisible, OutOfDeviceMemory, OutOfHostMemory}
use Rattle.gpu_alloc.specs.Types.Mapping.{Mapping}
use Rattle.gpu_alloc_base.proofs.Names.{get_put}
use Rattle.gpu_session.specs.Books.{Books, SessionState}
use Rattle.gpu_session.specs.Isolation.{SeenAlongJoined, HasBoth, HasOneOf, HoldsAlong, HoldsWritten, IsRefusedWrite, TellsByte, MovesNoByte, PutsBytes, TellAlong, TellsWritten, WritesBytes, device_at}
use Rattle.gpu_session.specs.Run.{Run, Step}
use Rattle.gpu_session.specs.Sound.{SoundStep, StepKeeps}
use Rattle.gpu_session.specs.Written.{IsWrittenLast, AllLeaveByte, LeavesByte, Seen, given, is_about, mapped_after, maybe, own_after, seen_after, seen_along, surely, unseen, written}
use Rattle.gpu_session.specs.declared.command.Command.{Command}
use Rattle.gpu_session.specs.declared.command.Command.TheVariants.{Alloc, Dedicated, Import, Free, Map, Unmap, Write, Read, Put, Get, SetRemaining, Cleanup, FreeRanges, Counts}
use Rattle.gpu_session.specs.declared.command.Reply.{Reply}
use Rattle.gpu_session.specs.declared.command.Reply.TheVariants.{Granted, Refused, Done, Mapped as MappedTo, MapRefused, Unmapped as WasMapped, Bytes, Fault as Faulty}
use Rattle.gpu_session.proofs.Conditions.{range_inside}
use Rattle.gpu_session.proofs.Seen.{IsKnown, IsSeen, both_more, flush_aside, flush_here, known_of, maybe_known, maybe_none, moved_none, of_its_name, other_seen, put_aside, put_here, read_refused, read_through, seen_again, still_known, still_seen, surely_known, write_aside, write_here}

same_name : (n name : ℕ) → (n == name) ≡ true → n ≡ name
same_name n name is = grind (arith, nat_tests)

at_name : (P : ℕ → Type 0) (n name : ℕ) → (n == name) ≡ true → (P n → P name)
at_name P n name is h = subst P (same_name n name is) h

-- what may be written is not mapped
not_mapped : (visible : Bool) (m : Option Mapping) → cond visible (cond (is_some m) (Some AlreadyMapped) None) (Some NonHostVisible) ≡ None → m ≡ None
not_mapped true None e = refl
not_mapped true (Some m) e = absurd (cc)
not_mapped false m e = absurd (cc)

not_like_memory : (cause : OutOfMemory) → (AlreadyMapped ≡ map_like_memory cause → ⊥) × (MapFailed ≡ map_like_memory cause → ⊥)
not_like_memory NoDeviceMemory = ((λ e. cc), (λ e. cc))
not_like_memory NoHostMemory = ((λ e. cc), (λ e. cc))

module _ (f g : ℕ → Option Object) (s new : Books) (n byte : ℕ) (seen : Seen) (b : Block) (at : finite.get s.blocks n ≡ Some b) (same : new ≡ s) (before : IsSeen f s n byte seen) where
  -- the block stays, and its byte has one of the earlier values
  byte_stays : (HasBoth seen.values (f b.object) (b.offset + byte) → HasBoth seen.values (g b.object) (b.offset + byte)) → IsSeen g new n byte seen
  byte_stays stays = elim (known_of f s n byte seen b at before) [
    | inl none ↦ inl none
    | inr known ↦ seen_again g s new n byte seen b same at (inr (still_known f g seen byte b known (stays known.bytes)))
  ]

  write_seen : (offset : ℕ) (bytes : List ℕ) → b.mapping ≡ None → offset + length bytes ≤ b.size → WritesBytes b offset bytes f g → IsSeen g new n byte (surely (given offset bytes byte) seen)
  write_seen offset bytes unmapped within w =
      seen_again g s new n byte (surely (given offset bytes byte) seen) b same at (surely_known f g seen byte b offset bytes (known_of f s n byte seen b at before) unmapped within
      (λ out h. write_aside b offset bytes f g (b.offset + byte) seen.values out w.through h) (λ v here. write_here b offset bytes f g (b.offset + byte) v here w.all w.through))

  flush_seen : (offset : ℕ) (bytes : List ℕ) (e : MapError) → IsRefusedWrite b offset bytes e f g → IsSeen g new n byte (maybe (given offset bytes byte) seen)
  flush_seen offset bytes e (inl moved) = elim (known_of f s n byte seen b at before) [
    | inl none ↦ inl (maybe_none seen (given offset bytes byte) none)
    | inr known ↦ seen_again g s new n byte (maybe (given offset bytes byte) seen) b same at (more_known known)
  ]
    where
      stays : HasBoth seen.values (f b.object) (b.offset + byte) → HasBoth seen.values (g b.object) (b.offset + byte)
      stays h = subst (λ (t : ℕ → Option Object). HasBoth seen.values (t b.object) (b.offset + byte)) (sym moved) h

      more_known : IsKnown f seen byte b → ((maybe (given offset bytes byte) seen).values ≡ []) ⊎ IsKnown g (maybe (given offset bytes byte) seen) byte b
      more_known known = maybe_known f g seen byte b offset bytes known (λ out h. stays h) (λ v some here h. both_more v seen.values (g b.object) (b.offset + byte) some (stays h))
  flush_seen offset bytes e (inr failed) = elim (known_of f s n byte seen b at before) [
    | inl none ↦ inl (maybe_none seen (given offset bytes byte) none)
    | inr known ↦
        seen_again g s new n byte (maybe (given offset bytes byte) seen) b same at (maybe_known f g seen byte b offset bytes known
        (λ out h. flush_aside b offset bytes f g (b.offset + byte) seen.values out failed.2 h) (λ v some here h. flush_here b offset bytes f g (b.offset + byte) v seen.values some here failed.2 h))
  ]

  put_seen : (p : Properties) (offset : ℕ) (bytes : List ℕ) → PutsBytes p b offset bytes f g → IsSeen g new n byte (maybe (given (seen.mapped_from + offset) bytes byte) seen)
  put_seen p offset bytes puts = elim (known_of f s n byte seen b at before) [
    | inl none ↦ inl (maybe_none seen (given (seen.mapped_from + offset) bytes byte) none)
    | inr known ↦
        let m = puts.0 in
        let start : m.start ≡ b.offset + seen.mapped_from = known.mapping m puts.1 in
        let place : m.start + offset ≡ b.offset + (seen.mapped_from + offset) = omega (arith, start) in
        let some : 0 < length bytes → Changes (IsPut p (b.offset + (seen.mapped_from + offset)) bytes) f b.object g = λ more. subst (λ i. Changes (IsPut p i bytes) f b.object g) place (puts.2.0 more) in
        seen_again g s new n byte (maybe (given (seen.mapped_from + offset) bytes byte) seen) b same at (maybe_known f g seen byte b (seen.mapped_from + offset) bytes known
        (λ out h. put_either (length bytes) refl some puts.2.1 out h)
        (λ v has here h. let low = here.2 in put_here p b (b.offset + (seen.mapped_from + offset)) bytes f g (b.offset + byte) seen.values (some (omega (arith, low))) v has here h))
  ]
    where
      put_either : (len : ℕ) → length bytes ≡ len → (0 < length bytes → Changes (IsPut p (b.offset + (seen.mapped_from + offset)) bytes) f b.object g) → (length bytes ≡ 0 → g ≡ f)
          → IsOutside (b.offset + (seen.mapped_from + offset)) (length bytes) (b.offset + byte) → HasBoth seen.values (f b.object) (b.offset + byte) → HasBoth seen.values (g b.object) (b.offset + byte)
      put_either zero is some none out h = subst (λ (t : ℕ → Option Object). HasBoth seen.values (t b.object) (b.offset + byte)) (sym (none is)) h
      put_either (suc len) is some none out h = put_aside p b (b.offset + (seen.mapped_from + offset)) bytes f g (b.offset + byte) seen.values (some (omega (arith, is))) out h

-- the block is mapped, or its mapping ends
map_seen : (f g : ℕ → Option Object) (s new : Books) (n byte from : ℕ) (seen : Seen) (b : Block) (mapping : Option Mapping) → finite.get s.blocks n ≡ Some b → finite.get new.blocks n ≡ Some (record b { mapping = mapping })
    → ((m : Mapping) → mapping ≡ Some m → m.start ≡ b.offset + from) → MovesNoByte b f g → IsSeen f s n byte seen → IsSeen g new n byte (record seen { mapped_from = from })
map_seen f g s new n byte from seen b mapping at now starts moved before = elim (known_of f s n byte seen b at before) [
  | inl none ↦ inl none
  | inr known ↦ inr (record b { mapping = mapping }, now, record { bytes = moved_none b f g (b.offset + byte) seen.values moved known.bytes; mapping = starts; inside = known.inside })
]

module _ {D : Type 0} (objects : D → ℕ → Option Object) (old new : SessionState D) (byte : ℕ) (seen : Seen) where
  abbrev f : ℕ → Option Object
  f = objects old.device

  abbrev g : ℕ → Option Object
  g = objects new.device

  abbrev Stays : ℕ → Seen → Type 0
  Stays n then = IsSeen f old.books n byte seen → IsSeen g new.books n byte then

  as_before : (n : ℕ) → new.books ≡ old.books → g ≡ f → Stays n seen
  as_before n books moved before = still_seen f g old.books new.books n byte seen books moved before

  module _ {A : Type 0} (step : D → Event → D → Type 0) where
    map_done : (n offset size : ℕ) (m : Mapping) → Step {A = A} step old (Map n offset size) (MappedTo m) new → StepKeeps {A = A} objects old (Map n offset size) (MappedTo m) new → Stays n (record seen { mapped_from = offset })
    map_done n offset size m s keeps before =
        let b = s.2.1.0 in
        let at = s.2.1.1 in
        let rest = s.2.1.2 in
        map_seen f g old.books new.books n byte offset seen b (Some m) at (ap (λ (t : Books). finite.get t.blocks n) rest.2 ∙ get_put old.books.blocks n _)
        (λ x is. let one : m ≡ x = cc in ap (λ (y : Mapping). y.start) (sym one) ∙ ap (λ (y : Mapping). y.start) rest.1) (of_its_name old.books n b (λ x. MovesNoByte x f g) at keeps.bytes) before

    unmap_done : (n : ℕ) (was : Bool) → Step {A = A} step old (Unmap n) (WasMapped was) new → StepKeeps {A = A} objects old (Unmap n) (WasMapped was) new → Stays n seen
    unmap_done n was s keeps before =
        let b = s.2.1.0 in
        let at = s.2.1.1 in
        let rest = s.2.1.2 in
        map_seen f g old.books new.books n byte seen.mapped_from seen b None at (ap (λ (t : Books). finite.get t.blocks n) rest.2 ∙ get_put old.books.blocks n _)
        (λ x is. absurd (cc)) (of_its_name old.books n b (λ x. MovesNoByte x f g) at keeps.bytes) before

    write_done : (n offset : ℕ) (bytes : List ℕ) → Step {A = A} step old (Write n offset bytes) Done new → StepKeeps {A = A} objects old (Write n offset bytes) Done new → Stays n (surely (given offset bytes byte) seen)
    write_done n offset bytes s keeps before =
        let b = s.2.1.0 in
        let at = s.2.1.1 in
        let rest = s.2.1.2 in
        write_seen f g old.books new.books n byte seen b at rest.1 before offset bytes (not_mapped _ b.mapping rest.0.0) (range_inside (finite.get old.books.blocks n) b offset (length bytes) at s.2.0)
        (of_its_name old.books n b (λ x. WritesBytes x offset bytes f g) at keeps.bytes)

    write_refused : (n offset : ℕ) (bytes : List ℕ) (e : MapError) → Step {A = A} step old (Write n offset bytes) (MapRefused e) new → StepKeeps {A = A} objects old (Write n offset bytes) (MapRefused e) new → Stays n (maybe (given offset bytes byte) seen)
    write_refused n offset bytes e s keeps before =
        let b = s.2.1.0 in
        let at = s.2.1.1 in
        flush_seen f g old.books new.books n byte seen b at s.2.1.2.1 before offset bytes e (of_its_name old.books n b (λ x. IsRefusedWrite x offset bytes e f g) at keeps.bytes)

    unmoved : (n offset : ℕ) (bytes : List ℕ) (e : MapError) → ((cause : OutOfMemory) → e ≡ map_like_memory cause → ⊥) → Step {A = A} step old (Write n offset bytes) (MapRefused e) new
        → StepKeeps {A = A} objects old (Write n offset bytes) (MapRefused e) new → Stays n seen
    unmoved n offset bytes e other s keeps before = elim keeps.bytes.2 [
      | inl moved ↦ as_before n s.2.1.2.1 moved before
      | inr failed ↦ absurd (other failed.0 failed.1)
    ]

    read_done : (n offset len : ℕ) (bytes : List ℕ) → Step {A = A} step old (Read n offset len) (Bytes bytes) new → StepKeeps {A = A} objects old (Read n offset len) (Bytes bytes) new → Stays n seen
    read_done n offset len bytes s keeps before =
        byte_stays f g old.books new.books n byte seen keeps.bytes.0 keeps.bytes.1 s.2.1.2.2 before (λ h. read_through keeps.bytes.0 offset bytes f g (keeps.bytes.0.offset + byte) len seen.values keeps.bytes.2 h)

    read_fails : (n offset len : ℕ) (e : MapError) → Step {A = A} step old (Read n offset len) (MapRefused e) new → StepKeeps {A = A} objects old (Read n offset len) (MapRefused e) new → Stays n seen
    read_fails n offset len e s keeps before =
        byte_stays f g old.books new.books n byte seen keeps.bytes.0 keeps.bytes.1 s.2.1.2.1 before (λ h. read_refused keeps.bytes.0 offset [] f g (keeps.bytes.0.offset + byte) len seen.values keeps.bytes.2 h)

    put_done : (n offset : ℕ) (bytes : List ℕ) → Step {A = A} step old (Put n offset bytes) Done new → StepKeeps {A = A} objects old (Put n offset bytes) Done new → Stays n (maybe (given (seen.mapped_from + offset) bytes byte) seen)
    put_done n offset bytes s keeps before =
        put_seen f g old.books new.books n byte seen keeps.bytes.0 keeps.bytes.1 s.2.1.2.1 before (old.books.allocator).properties offset bytes keeps.bytes.2

    own_step : (command : Command A) (reply : Reply A) (name : ℕ) → is_about name command ≡ true → Step step old command reply new → StepKeeps objects old command reply new → Stays name (own_after byte command reply seen)
    own_step (Alloc n request) (Granted memory_type object offset size) name is s k before = inl refl
    own_step (Alloc n request) (Refused e) name is s k before = as_before name k.refused.0 k.refused.1 before
    own_step (Alloc n request) (Faulty fault) name is s k before = as_before name k.refused.0 k.refused.1 before
    own_step (Alloc n request) reply name is s k before = absurd s.2.1
    own_step (Dedicated n request dedicated) (Granted memory_type object offset size) name is s k before = inl refl
    own_step (Dedicated n request dedicated) (Refused e) name is s k before = as_before name k.refused.0 k.refused.1 before
    own_step (Dedicated n request dedicated) (Faulty fault) name is s k before = as_before name k.refused.0 k.refused.1 before
    own_step (Dedicated n request dedicated) reply name is s k before = absurd s.2.1
    own_step (Import n t object_size start len) (Granted memory_type object offset size) name is s k before = inl refl
    own_step (Import n t object_size start len) (Refused e) name is s k before = as_before name k.refused.0 k.refused.1 before
    own_step (Import n t object_size start len) (Faulty fault) name is s k before = as_before name k.refused.0 k.refused.1 before
    own_step (Import n t object_size start len) reply name is s k before = absurd s.2.1
    own_step (Free n) Done name is s k before = inl refl
    own_step (Free n) (Faulty fault) name is s k before = as_before name k.refused.0 k.refused.1 before
    own_step (Free n) reply name is s k before = absurd s.2.1
    own_step (Map n offset size) (MappedTo m) name is s k before = at_name (λ x. Stays x (record seen { mapped_from = offset })) n name is (map_done n offset size m s k) before
    own_step (Map n offset size) (MapRefused e) name is s k before = as_before name s.2.1.2.1 k.bytes before
    own_step (Map n offset size) (Faulty fault) name is s k before = as_before name k.refused.0 k.refused.1 before
    own_step (Map n offset size) reply name is s k before = absurd s.2.1
    own_step (Unmap n) (WasMapped was) name is s k before = at_name (λ x. Stays x seen) n name is (unmap_done n was s k) before
    own_step (Unmap n) (Faulty fault) name is s k before = as_before name k.refused.0 k.refused.1 before
    own_step (Unmap n) reply name is s k before = absurd s.2.1
    own_step (Write n offset bytes) Done name is s k before = at_name (λ x. Stays x (surely (given offset bytes byte) seen)) n name is (write_done n offset bytes s k) before
    own_step (Write n offset bytes) (MapRefused AlreadyMapped) name is s k before = at_name (λ x. Stays x seen) n name is (unmoved n offset bytes AlreadyMapped (λ cause. (not_like_memory cause).0) s k) before
    own_step (Write n offset bytes) (MapRefused MapFailed) name is s k before = at_name (λ x. Stays x seen) n name is (unmoved n offset bytes MapFailed (λ cause. (not_like_memory cause).1) s k) before
    own_step (Write n offset bytes) (MapRefused NonHostVisible) name is s k before = at_name (λ x. Stays x (maybe (given offset bytes byte) seen)) n name is (write_refused n offset bytes NonHostVisible s k) before
    own_step (Write n offset bytes) (MapRefused OutOfDeviceMemory) name is s k before = at_name (λ x. Stays x (maybe (given offset bytes byte) seen)) n name is (write_refused n offset bytes OutOfDeviceMemory s k) before
    own_step (Write n offset bytes) (MapRefused OutOfHostMemory) name is s k before = at_name (λ x. Stays x (maybe (given offset bytes byte) seen)) n name is (write_refused n offset bytes OutOfHostMemory s k) before
    own_step (Write n offset bytes) (Faulty fault) name is s k before = as_before name k.refused.0 k.refused.1 before
    own_step (Write n offset bytes) reply name is s k before = absurd s.2.1
    own_step (Read n offset len) (Bytes bytes) name is s k before = at_name (λ x. Stays x seen) n name is (read_done n offset len bytes s k) before
    own_step (Read n offset len) (MapRefused e) name is s k before = at_name (λ x. Stays x seen) n name is (read_fails n offset len e s k) before
    own_step (Read n offset len) (Faulty fault) name is s k before = as_before name k.refused.0 k.refused.1 before
    own_step (Read n offset len) reply name is s k before = absurd s.2.1
    own_step (Put n offset bytes) Done name is s k before = at_name (λ x. Stays x (maybe (given (seen.mapped_from + offset) bytes byte) seen)) n name is (put_done n offset bytes s k) before
    own_step (Put n offset bytes) (Faulty fault) name is s k before = as_before name k.refused.0 k.refused.1 before
    own_step (Put n offset bytes) reply name is s k before = absurd s.2.1
    own_step (Get n offset len) (Bytes bytes) name is s k before = as_before name s.2.1.2.2 k.bytes before
    own_step (Get n offset len) (Faulty fault) name is s k before = as_before name k.refused.0 k.refused.1 before
    own_step (Get n offset len) reply name is s k before = absurd s.2.1
    own_step (SetRemaining remaining) reply name is s k before = absurd (cc)
    own_step Cleanup reply name is s k before = absurd (cc)
    own_step (FreeRanges t) reply name is s k before = absurd (cc)
    own_step Counts reply name is s k before = absurd (cc)

    pub step_seen : (command : Command A) (reply : Reply A) (name : ℕ) → Step step old command reply new → StepKeeps objects old command reply new → Stays name (seen_after name byte command reply seen)
    step_seen command reply name s k before =
        elim (is_about name command) as (λ t. is_about name command ≡ t → IsSeen g new.books name byte (cond t (own_after byte command reply seen) seen)) [
          | true ↦ λ is. own_step command reply name is s k before
          | false ↦ λ is. other_seen f g old.books new.books command name byte seen k.others is before
        ] refl

module _ {D A : Type 0} (step : D → Event → D → Type 0) (properties : D → Properties) (objects : D → ℕ → Option Object) (name byte : ℕ) where
  run_seen : (old new : SessionState D) (commands : List (Command A)) (replies : List (Reply A)) (seen : Seen) → Run (SoundStep step properties objects) old commands replies new
      → IsSeen (objects old.device) old.books name byte seen → IsSeen (objects new.device) new.books name byte (seen_along name byte commands replies seen)
  run_seen old new [] [] seen run before = subst (λ (s : SessionState D). IsSeen (objects s.device) s.books name byte seen) (sym run) before
  run_seen old new [] (r ∷ replies) seen run before = absurd run
  run_seen old new (c ∷ commands) [] seen run before = absurd run
  run_seen old new (c ∷ commands) (r ∷ replies) seen run before =
      run_seen run.0 new commands replies (seen_after name byte c r seen) run.2 (step_seen objects old run.0 byte seen step c r name run.1.taken run.1.keeps before)

-- After a run each byte that has values by what was written has one of them for the host, and one for the device.
pub run_holds : {D A : Type 0} (step : D → Event → D → Type 0) (properties : D → Properties) (objects : D → ℕ → Option Object) (old new : SessionState D) (commands : List (Command A)) (replies : List (Reply A))
    → Run (SoundStep step properties objects) old commands replies new → HoldsWritten (objects new.device) new.books (written commands replies)
unfolding HoldsWritten
run_holds step properties objects old new commands replies run name byte b at low some =
    elim (known_of (objects new.device) new.books name byte (seen_along name byte commands replies unseen) b at (run_seen step properties objects name byte old new commands replies unseen run (inl refl))) [
      | inl none ↦ absurd (some none)
      | inr known ↦ known.bytes
    ]

-- In each state of a run, as after the run that ends there.
pub run_holds_along : {D A : Type 0} (step : D → Event → D → Type 0) (properties : D → Properties) (objects : D → ℕ → Option Object) (old : SessionState D) (commands : List (Command A)) (replies : List (Reply A))
    → HoldsAlong (SoundStep step properties objects) objects old commands replies
run_holds_along step properties objects old commands replies n mid run = run_holds step properties objects old mid (take n commands) (take n replies) run

-- what is known along joined lists, where each of the first commands has its reply
pub goes_on : {A : Type 0} (commands : List (Command A)) (replies : List (Reply A)) → length replies ≡ length commands → SeenAlongJoined commands replies
goes_on [] [] each later answers name byte seen = refl
goes_on [] (r ∷ replies) each later answers name byte seen = absurd (cc)
goes_on (c ∷ commands) [] each later answers name byte seen = absurd (cc)
goes_on (c ∷ commands) (r ∷ replies) each later answers name byte seen = goes_on commands replies (omega (arith, each)) later answers name byte (seen_after name byte c r seen)

-- A read returns what was written.

the_only : (v : ℕ) (x : Option ℕ) → HasOneOf (v ∷ []) x → x ≡ Some v
the_only v None h = absurd h
the_only v (Some w) (inl is) = ap Some is
the_only v (Some w) (inr none) = absurd none

-- a write that is done, and covers the byte
after_write : (A : Type 0) (name byte offset : ℕ) (bytes : List ℕ) (v : ℕ) (seen : Seen) → given offset bytes byte ≡ Some v → seen_after {A = A} name byte (Write name offset bytes) Done seen ≡ record seen { values = v ∷ [] }
after_write A name byte offset bytes v seen gives = rw (own_name) (rw (gives) refl)
  where
    own_name : (name == name) ≡ true
    own_name = grind (arith, nat_tests)

module _ {A : Type 0} (name byte : ℕ) where
  -- after a command that leaves the byte alone
  own_left : (command : Command A) (reply : Reply A) (seen : Seen) → is_about name command ≡ true → LeavesByte name byte seen.mapped_from command reply
      → ((own_after byte command reply seen).values ≡ seen.values) × ((own_after byte command reply seen).mapped_from ≡ mapped_after name command reply seen.mapped_from)
  own_left (Write n offset bytes) Done seen is leaves = rw (leaves (same_name n name is)) (refl, refl)
  own_left (Write n offset bytes) (MapRefused AlreadyMapped) seen is leaves = (refl, refl)
  own_left (Write n offset bytes) (MapRefused MapFailed) seen is leaves = (refl, refl)
  own_left (Write n offset bytes) (MapRefused NonHostVisible) seen is leaves = rw (leaves (same_name n name is)) (refl, refl)
  own_left (Write n offset bytes) (MapRefused OutOfDeviceMemory) seen is leaves = rw (leaves (same_name n name is)) (refl, refl)
  own_left (Write n offset bytes) (MapRefused OutOfHostMemory) seen is leaves = rw (leaves (same_name n name is)) (refl, refl)
  own_left (Put n offset bytes) Done seen is leaves = rw (leaves (same_name n name is)) (refl, refl)
  own_left (Map n offset size) (MappedTo m) seen is leaves = (refl, rw (is) refl)
  own_left (Free n) Done seen is leaves = absurd (leaves (same_name n name is))
  own_left command (Granted memory_type object offset size) seen is leaves = absurd (let e = sym is ∙ leaves in cc)
  own_left command reply seen is leaves = (refl, refl)

  other_left : (command : Command A) (reply : Reply A) (mapped_from : ℕ) → is_about name command ≡ false → mapped_after name command reply mapped_from ≡ mapped_from
  other_left (Map n offset size) (MappedTo m) mapped_from is = rw (is) refl
  other_left command reply mapped_from is = refl

  step_left : (command : Command A) (reply : Reply A) (seen : Seen) → LeavesByte name byte seen.mapped_from command reply
      → ((seen_after name byte command reply seen).values ≡ seen.values) × ((seen_after name byte command reply seen).mapped_from ≡ mapped_after name command reply seen.mapped_from)
  step_left command reply seen leaves =
      elim (is_about name command) as (λ t. is_about name command ≡ t → ((cond t (own_after byte command reply seen) seen).values ≡ seen.values) × ((cond t (own_after byte command reply seen) seen).mapped_from ≡ mapped_after name command reply seen.mapped_from)) [
        | true ↦ λ is. own_left command reply seen is leaves
        | false ↦ λ is. (refl, sym (other_left command reply seen.mapped_from is))
      ] refl

  all_left : (commands : List (Command A)) (replies : List (Reply A)) (seen : Seen) → AllLeaveByte name byte seen.mapped_from commands replies → (seen_along name byte commands replies seen).values ≡ seen.values
  all_left [] replies seen leave = refl
  all_left (c ∷ commands) [] seen leave = refl
  all_left (c ∷ commands) (r ∷ replies) seen leave =
      let one = step_left c r seen leave.0 in
      all_left commands replies (seen_after name byte c r seen) (subst (λ from. AllLeaveByte name byte from commands replies) (sym one.1) leave.1) ∙ one.0

  -- the latest write leaves one value
  pub latest_is_only : (commands : List (Command A)) (replies : List (Reply A)) (v : ℕ) → IsWrittenLast commands replies name byte v → written commands replies name byte ≡ v ∷ []
  latest_is_only commands replies v l =
      let there = seen_along name byte l.before l.answers unseen in
      let now : Seen = record there { values = v ∷ [] } in
      let both = ap (λ (cs : List (Command A)). seen_along name byte cs replies unseen) l.asked ∙ ap (λ (rs : List (Reply A)). seen_along name byte (l.before ++ Write name l.offset l.bytes ∷ l.later) rs unseen) l.answered in
      let joined = goes_on l.before l.answers l.each (Write name l.offset l.bytes ∷ l.later) (Done ∷ l.later_answers) name byte unseen in
      let wrote = ap (seen_along name byte l.later l.later_answers) (after_write A name byte l.offset l.bytes v there l.gives) in
      ap (λ (s : Seen). s.values) (both ∙ joined ∙ wrote) ∙ all_left l.later l.later_answers now l.since

told : {A : Type 0} (commands : List (Command A)) (replies : List (Reply A)) (name byte : ℕ) (x : Option ℕ) → ((written commands replies name byte ≡ [] → ⊥) → HasOneOf (written commands replies name byte) x) → TellsByte commands replies name byte x
told commands replies name byte x known = record { known = known; only = only; latest = λ v l. only v (latest_is_only name byte commands replies v l) }
  where
    only : (v : ℕ) → written commands replies name byte ≡ v ∷ [] → x ≡ Some v
    only v is = the_only v x (subst (λ vs. HasOneOf vs x) is (known (λ none. let e = sym is ∙ none in absurd (cc))))

module _ {D A : Type 0} (step : D → Event → D → Type 0) (properties : D → Properties) (objects : D → ℕ → Option Object) (old mid : SessionState D) (commands : List (Command A)) (replies : List (Reply A))
    (run : Run (SoundStep step properties objects) old commands replies mid) where
  byte_told : (new : SessionState D) (name offset len : ℕ) (bytes : List ℕ) → SoundStep {A = A} step properties objects mid (Read name offset len) (Bytes bytes) new
      → (j : ℕ) → j < length bytes → (written commands replies name (offset + j) ≡ [] → ⊥) → HasOneOf (written commands replies name (offset + j)) (slice_get bytes j)
  unfolding HoldsWritten
  byte_told new name offset len bytes s j low some =
      let b = s.taken.2.1.0 in
      let at = s.taken.2.1.1 in
      let many : length bytes ≡ len = s.taken.2.1.2.0 in
      let within = range_inside (finite.get mid.books.blocks name) b offset len at s.taken.2.0 in
      let read = of_its_name mid.books name b (λ x. ChangesBytes x len (IsReadThrough x offset bytes) (objects mid.device) (objects new.device)) at s.keeps.bytes in
      let c = read.some (omega (arith, many, low)) in
      let held = (run_holds step properties objects old mid commands replies run name (offset + j) b at (omega (arith, within, many, low)) some).1 in
      let here : b.offset + (offset + j) ≡ b.offset + offset + j = omega arith in
      let there : device_at (objects mid.device b.object) (b.offset + (offset + j)) ≡ slice_get bytes j =
      ap (λ x. device_at x (b.offset + (offset + j))) c.1 ∙ ap (slice_get c.0.device_bytes) here ∙ sym (c.2.1.told j low) in
      subst (HasOneOf (written commands replies name (offset + j))) there held

  pub next_tells : (new : SessionState D) (command : Command A) (reply : Reply A) → SoundStep step properties objects mid command reply new → TellsWritten commands replies command reply
  next_tells new (Read name offset len) (Bytes bytes) s = λ j low. told commands replies name (offset + j) _ (byte_told new name offset len bytes s j low)
  next_tells new command reply s = tt

-- A run, parted at the place of one of its commands.
run_parted : {S A : Type 0} (Steps : S → Command A → Reply A → S → Type 0) (old new : S) (commands : List (Command A)) (replies : List (Reply A)) (n : ℕ) (command : Command A) (reply : Reply A) → Run Steps old commands replies new
    → slice_get commands n ≡ Some command → slice_get replies n ≡ Some reply → (mid : S) × (next : S) × Run Steps old (take n commands) (take n replies) mid × Steps mid command reply next
run_parted Steps old new [] replies n command reply run c r = absurd (cc)
run_parted Steps old new (x ∷ commands) [] n command reply run c r = absurd run
run_parted Steps old new (x ∷ commands) (y ∷ replies) zero command reply run c r =
    let command_is : x ≡ command = cc in
    let reply_is : y ≡ reply = cc in
    (old, run.0, refl, subst (λ t. Steps old t reply run.0) command_is (subst (λ t. Steps old x t run.0) reply_is run.1))
run_parted Steps old new (x ∷ commands) (y ∷ replies) (suc n) command reply run c r =
    let rest = run_parted Steps run.0 new commands replies n command reply run.2 c r in
    (rest.0, rest.1, (run.0, run.1, rest.2), rest.3)

-- Each read of a run returns what was written by the commands before it.
pub run_tells : {D A : Type 0} (step : D → Event → D → Type 0) (properties : D → Properties) (objects : D → ℕ → Option Object) (old new : SessionState D) (commands : List (Command A)) (replies : List (Reply A))
    → Run (SoundStep step properties objects) old commands replies new → TellAlong commands replies
run_tells step properties objects old new commands replies run n command reply c r =
    let parted = run_parted (SoundStep step properties objects) old new commands replies n command reply run c r in
    next_tells step properties objects old parted.0 (take n commands) (take n replies) parted.2 parted.1 command reply parted.3
