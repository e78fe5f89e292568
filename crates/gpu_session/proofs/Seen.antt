-- What becomes of a byte whose values are known, and every step keeps what is known of it.
use Rattle.std.proofs.Common.{get_or, ◌≡◌, ◌⊎◌, inl, inr, ℕ, zero, suc, ◌+◌, ◌-◌, ◌<◌, ◌≤◌, Bool, true, false, cond, List, [], ◌∷◌, length, slice_get, nat_le, nat_lt, Option, Some, None, refl, sym, ◌∙◌, ap, subst, arith}
use Rattle.std.proofs.lemmas.Bool.Decides.{nat_tests}
use Rattle.std.proofs.lemmas.Option.{slice_get_past, slice_get-get_or}
use Rattle.std.specs.FinMap as finite
use Rattle.gpu_alloc_types.specs.Device.{Changes, IsCopied, IsOutside, IsPut, IsPutDevice, IsWritten, Object}
use Rattle.gpu_alloc_types.specs.Objects.{put-same}
use Rattle.gpu_alloc_types.specs.Properties.{Properties, is_coherent}
use Rattle.gpu_alloc.specs.Bytes.{ChangesBytes, IsPartlyRead, IsPartlyWritten, IsReadThrough, IsWrittenThrough}
use Rattle.gpu_alloc.specs.Ranges.{HasAll, rounded_range}
use Rattle.gpu_alloc.specs.State.{Block}
use Rattle.gpu_alloc.specs.Types.Mapping.{Mapping}
use Rattle.gpu_session.specs.Books.{Books, OfBlock}
use Rattle.gpu_session.specs.Isolation.{HasBoth, HasOneOf, HasOnlyOtherMapping, IsRefusedRead, LeavesOthers, MovesNoByte, device_at, host_at}
use Rattle.gpu_session.specs.Written.{Seen, given, is_about, maybe, seen_along, surely, with_more}
use Rattle.gpu_session.specs.declared.command.Command.{Command}
use Rattle.gpu_session.specs.declared.command.Reply.{Reply}

-- What is known of a byte of a live block: it has one of the values on both sides, and where the block is mapped, the
-- mapping starts where the latest one did.
pub record IsKnown (objects : ℕ → Option Object) (seen : Seen) (byte : ℕ) (b : Block) : Type 0 where
  pub bytes : HasBoth seen.values (objects b.object) (b.offset + byte)
  pub mapping : (m : Mapping) → b.mapping ≡ Some m → m.start ≡ b.offset + seen.mapped_from
  pub inside : byte < b.size

-- no values are known of the byte, or this of the block that has the name
abbrev pub IsSeen : (ℕ → Option Object) → Books → (name byte : ℕ) → Seen → Type 0
IsSeen objects s name byte seen = (seen.values ≡ []) ⊎ OfBlock s name (IsKnown objects seen byte)

-- what is known of a block is known of the one that has its name
pub of_its_name : (s : Books) (name : ℕ) (b : Block) (P : Block → Type 0) → finite.get s.blocks name ≡ Some b → OfBlock s name P → P b
of_its_name s name b P at live = let there = live.1 in let one : live.0 ≡ b = cc in subst P one live.2

pub known_of : (f : ℕ → Option Object) (s : Books) (name byte : ℕ) (seen : Seen) (b : Block) → finite.get s.blocks name ≡ Some b → IsSeen f s name byte seen → (seen.values ≡ []) ⊎ IsKnown f seen byte b
known_of f s name byte seen b at (inl none) = inl none
known_of f s name byte seen b at (inr live) = inr (of_its_name s name b (IsKnown f seen byte) at live)

pub seen_at : (g : ℕ → Option Object) (s new : Books) (name byte : ℕ) (seen : Seen) (b : Block) → new ≡ s → finite.get s.blocks name ≡ Some b → IsKnown g seen byte b → IsSeen g new name byte seen
seen_at g s new name byte seen b same at known = inr (b, ap (λ (t : Books). finite.get t.blocks name) same ∙ at, known)

-- where nothing changes, all stays known
pub still_seen : (f g : ℕ → Option Object) (s new : Books) (name byte : ℕ) (seen : Seen) → new ≡ s → g ≡ f → IsSeen f s name byte seen → IsSeen g new name byte seen
still_seen f g s new name byte seen books objects before =
    subst (λ t. IsSeen g t name byte seen) (sym books) (subst (λ (h : ℕ → Option Object). IsSeen h s name byte seen) (sym objects) before)

-- a command that does not name the block leaves it so
pub other_seen : {A : Type 0} (f g : ℕ → Option Object) (s new : Books) (command : Command A) (name byte : ℕ) (seen : Seen) → LeavesOthers f s command g new → is_about name command ≡ false
    → IsSeen f s name byte seen → IsSeen g new name byte seen
other_seen f g s new command name byte seen leaves other (inl none) = inl none
other_seen f g s new command name byte seen leaves other (inr live) =
    let b = live.0 in
    let known = live.2 in
    let kept = leaves name b other live.1 in
    let same = kept.1 (b.offset + byte) (omega arith) (let inside = known.inside in omega (arith, inside)) in
    inr (
      b,
      kept.0,
      record {
        bytes = (subst (HasOneOf seen.values) (sym same.0) known.bytes.0, subst (HasOneOf seen.values) (sym same.1) known.bytes.1);
        mapping = known.mapping;
        inside = known.inside;
      },
    )

-- One of the values.

along : (values : List ℕ) (x y : Option ℕ) → y ≡ x → HasOneOf values x → HasOneOf values y
along values x y same h = subst (HasOneOf values) (sym same) h

one_of : (values : List ℕ) (x y z : Option ℕ) → (y ≡ x) ⊎ (y ≡ z) → HasOneOf values x → HasOneOf values z → HasOneOf values y
one_of values x y z (inl same) a b = along values x y same a
one_of values x y z (inr same) a b = along values z y same b

among_more : (v : ℕ) (values : List ℕ) (x : Option ℕ) → HasOneOf values x → HasOneOf (v ∷ values) x
among_more v values None h = absurd h
among_more v values (Some w) h = inr h

some_more : (v : ℕ) (values : List ℕ) (x : Option ℕ) → (values ≡ [] → ⊥) → HasOneOf values x → HasOneOf (with_more v values) x
some_more v [] x some h = absurd (some refl)
some_more v (w ∷ values) x some h = among_more v (w ∷ values) x h

pub both_more : (v : ℕ) (values : List ℕ) (o : Option Object) (k : ℕ) → (values ≡ [] → ⊥) → HasBoth values o k → HasBoth (with_more v values) o k
both_more v values o k some h = (some_more v values (host_at o k) some h.0, some_more v values (device_at o k) some h.1)

this_more : (v : ℕ) (values : List ℕ) (x : Option ℕ) → (values ≡ [] → ⊥) → x ≡ Some v → HasOneOf (with_more v values) x
this_more v [] x some is = absurd (some refl)
this_more v (w ∷ values) x some is = subst (HasOneOf (v ∷ w ∷ values)) (sym is) (inl refl)

only_this : (v : ℕ) (x : Option ℕ) → x ≡ Some v → HasOneOf (v ∷ []) x
only_this v x is = subst (HasOneOf (v ∷ [])) (sym is) (inl refl)

none_or_some : (values : List ℕ) → (values ≡ []) ⊎ (values ≡ [] → ⊥)
none_or_some [] = inl refl
none_or_some (v ∷ values) = inr (λ e. cc)

-- What bytes give a byte: it lies outside of them, or it has the one at its place.
abbrev pub IsGiven : (start : ℕ) → List ℕ → (k v : ℕ) → Type 0
IsGiven start bytes k v = (j : ℕ) × (start + j ≡ k) × (j < length bytes) × (slice_get bytes j ≡ Some v)

pub given_cases : (offset : ℕ) (bytes : List ℕ) (byte : ℕ)
    → ((given offset bytes byte ≡ None) × IsOutside offset (length bytes) byte) ⊎ ((v : ℕ) × (given offset bytes byte ≡ Some v) × IsGiven offset bytes byte v)
given_cases offset bytes byte = by_tests (nat_le offset byte) (nat_lt (byte - offset) (length bytes)) refl refl
  where
    by_tests : (a b : Bool) → nat_le offset byte ≡ a → nat_lt (byte - offset) (length bytes) ≡ b
        → ((cond a (slice_get bytes (byte - offset)) None ≡ None) × IsOutside offset (length bytes) byte) ⊎ ((v : ℕ) × (cond a (slice_get bytes (byte - offset)) None ≡ Some v) × IsGiven offset bytes byte v)
    by_tests false b e h = inl (refl, inl (grind (arith, nat_tests)))
    by_tests true false e h =
        let past : length bytes ≤ byte - offset = grind (arith, nat_tests) in
        let from : offset ≤ byte = grind (arith, nat_tests) in
        inl (slice_get_past bytes (byte - offset) past, inr (omega (arith, past, from)))
    by_tests true true e h =
        let low : byte - offset < length bytes = grind (arith, nat_tests) in
        let from : offset ≤ byte = grind (arith, nat_tests) in
        let is = slice_get-get_or bytes (byte - offset) 0 low in
        inr (get_or bytes (byte - offset) 0, is, (byte - offset, omega (arith, from), low, is))

-- the same counted in the block's object
outside_there : (base offset len byte : ℕ) → IsOutside offset len byte → IsOutside (base + offset) len (base + byte)
outside_there base offset len byte (inl low) = inl (omega (arith, low))
outside_there base offset len byte (inr high) = inr (omega (arith, high))

given_there : (base offset : ℕ) (bytes : List ℕ) (byte v : ℕ) → IsGiven offset bytes byte v → IsGiven (base + offset) bytes (base + byte) v
given_there base offset bytes byte v at = let place = at.1 in (at.0, omega (arith, place), at.2, at.3)

-- One object is changed.

changed : (P : Object → Object → Type 0) (f g : ℕ → Option Object) (n k : ℕ) (values more : List ℕ) → Changes P f n g → ((o new : Object) → P o new → HasBoth values (Some o) k → HasBoth more (Some new) k)
    → HasBoth values (f n) k → HasBoth more (g n) k
changed P f g n k values more c each before =
    let now : g n ≡ Some c.2.0 = ap (λ (h : ℕ → Option Object). h n) c.2.2 ∙ put-same f n (Some c.2.0) in
    subst (λ x. HasBoth more x k) (sym now) (each c.0 c.2.0 c.2.1 (subst (λ x. HasBoth values x k) c.1 before))

set_to : (P : Object → Object → Type 0) (f g : ℕ → Option Object) (n k : ℕ) (more : List ℕ) → Changes P f n g → ((o new : Object) → P o new → HasBoth more (Some new) k) → HasBoth more (g n) k
set_to P f g n k more c each =
    let now : g n ≡ Some c.2.0 = ap (λ (h : ℕ → Option Object). h n) c.2.2 ∙ put-same f n (Some c.2.0) in
    subst (λ x. HasBoth more x k) (sym now) (each c.0 c.2.0 c.2.1)

unchanged : (f g : ℕ → Option Object) (n k : ℕ) (values : List ℕ) → g ≡ f → HasBoth values (f n) k → HasBoth values (g n) k
unchanged f g n k values same h = subst (λ (t : ℕ → Option Object). HasBoth values (t n) k) (sym same) h

pub moved_none : (b : Block) (f g : ℕ → Option Object) (k : ℕ) (values : List ℕ) → MovesNoByte b f g → HasBoth values (f b.object) k → HasBoth values (g b.object) k
moved_none b f g k values (inl same) h = unchanged f g b.object k values same h
moved_none b f g k values (inr c) h =
    changed HasOnlyOtherMapping f g b.object k values values c (λ o new p both. (along values _ _ (ap (λ xs. slice_get xs k) p.0) both.0, along values _ _ (ap (λ xs. slice_get xs k) p.1) both.1)) h

-- where bytes are moved at all
either : (b : Block) (len : ℕ) (P : Object → Object → Type 0) (f g : ℕ → Option Object) → ChangesBytes b len P f g → (g ≡ f) ⊎ Changes P f b.object g
either b zero P f g c = inl (c.none refl)
either b (suc len) P f g c = inr (c.some (omega arith))

-- A byte in a list that was copied, written or put.

in_range : (offset size k : ℕ) → IsOutside offset size k ⊎ ((offset ≤ k) × (k < offset + size))
in_range offset size k = by_tests (nat_lt k offset) (nat_lt k (offset + size)) refl refl
  where
    by_tests : (a b : Bool) → nat_lt k offset ≡ a → nat_lt k (offset + size) ≡ b → IsOutside offset size k ⊎ ((offset ≤ k) × (k < offset + size))
    by_tests true b e h = inl (inl (grind (arith, nat_tests)))
    by_tests false true e h = inr (grind (arith, nat_tests), grind (arith, nat_tests))
    by_tests false false e h = inl (inr (grind (arith, nat_tests)))

copied : (offset size : ℕ) (from to new : List ℕ) (k : ℕ) → IsCopied offset size from to new → (slice_get new k ≡ slice_get to k) ⊎ (slice_get new k ≡ slice_get from k)
copied offset size from to new k c = elim (in_range offset size k) [ inl out ↦ inl (c.outside k out) | inr within ↦ inr (c.inside k within.0 within.1) ]

written_there : (start : ℕ) (bytes to new : List ℕ) (k v : ℕ) → IsGiven start bytes k v → IsWritten start bytes to new → slice_get new k ≡ Some v
written_there start bytes to new k v at w = ap (slice_get new) (sym at.1) ∙ w.inside at.0 at.2 ∙ at.3

module _ (b : Block) (offset : ℕ) (bytes : List ℕ) (f g : ℕ → Option Object) (k : ℕ) where
  -- A write that is done.

  pub write_aside : (values : List ℕ) → IsOutside (b.offset + offset) (length bytes) k → ChangesBytes b (length bytes) (IsWrittenThrough b offset bytes) f g → HasBoth values (f b.object) k → HasBoth values (g b.object) k
  write_aside values out c h = elim (either b (length bytes) (IsWrittenThrough b offset bytes) f g c) [
    | inl same ↦ unchanged f g b.object k values same h
    | inr change ↦
        changed (IsWrittenThrough b offset bytes) f g b.object k values values change (λ o new w both.
        let host = along values (slice_get o.host_bytes k) (slice_get new.host_bytes k) (w.host.outside k out) both.0 in
        (host, one_of values _ _ _ (copied _ _ new.host_bytes o.device_bytes new.device_bytes k w.device) both.1 host)) h
  ]

  pub write_here : (v : ℕ) → IsGiven (b.offset + offset) bytes k v → HasAll (rounded_range b offset (length bytes)) (b.offset + offset) (length bytes) → ChangesBytes b (length bytes) (IsWrittenThrough b offset bytes) f g
      → HasBoth (v ∷ []) (g b.object) k
  write_here v at all c =
      let place = at.1 in
      let low = at.2 in
      set_to (IsWrittenThrough b offset bytes) f g b.object k (v ∷ []) (c.some (omega (arith, low))) (λ o new w.
      let host = written_there (b.offset + offset) bytes o.host_bytes new.host_bytes k v at w.host in
      (only_this v (slice_get new.host_bytes k) host, only_this v (slice_get new.device_bytes k) (w.device.inside k (omega (arith, place, all.0)) (omega (arith, place, low, all.1)) ∙ host)))

  -- A write whose flush is refused.

  pub flush_aside : (values : List ℕ) → IsOutside (b.offset + offset) (length bytes) k → Changes (IsPartlyWritten b offset bytes) f b.object g → HasBoth values (f b.object) k → HasBoth values (g b.object) k
  flush_aside values out c h =
      changed (IsPartlyWritten b offset bytes) f g b.object k values values c (λ o new w both.
      let host = along values (slice_get o.host_bytes k) (slice_get new.host_bytes k) (w.host.outside k out) both.0 in
      (host, one_of values _ _ _ (w.device.inside k) both.1 host)) h

  pub flush_here : (v : ℕ) (values : List ℕ) → (values ≡ [] → ⊥) → IsGiven (b.offset + offset) bytes k v → Changes (IsPartlyWritten b offset bytes) f b.object g → HasBoth values (f b.object) k
      → HasBoth (with_more v values) (g b.object) k
  flush_here v values some at c h =
      changed (IsPartlyWritten b offset bytes) f g b.object k values (with_more v values) c (λ o new w both.
      let host = this_more v values (slice_get new.host_bytes k) some (written_there (b.offset + offset) bytes o.host_bytes new.host_bytes k v at w.host) in
      (host, one_of (with_more v values) _ _ _ (w.device.inside k) (some_more v values (slice_get o.device_bytes k) some both.1) host)) h

  -- A read, and one whose invalidate is refused.

  pub read_through : (len : ℕ) (values : List ℕ) → ChangesBytes b len (IsReadThrough b offset bytes) f g → HasBoth values (f b.object) k → HasBoth values (g b.object) k
  read_through len values c h = elim (either b len (IsReadThrough b offset bytes) f g c) [
    | inl same ↦ unchanged f g b.object k values same h
    | inr change ↦
        changed (IsReadThrough b offset bytes) f g b.object k values values change (λ o new w both. (
          one_of values _ _ _ (copied _ _ o.device_bytes o.host_bytes new.host_bytes k w.host) both.0 both.1,
          along values _ _ (ap (λ xs. slice_get xs k) w.device) both.1,
        )) h
  ]

  pub read_refused : (len : ℕ) (values : List ℕ) → IsRefusedRead b offset len f g → HasBoth values (f b.object) k → HasBoth values (g b.object) k
  read_refused len values (inl same) h = unchanged f g b.object k values same h
  read_refused len values (inr c) h =
      changed (IsPartlyRead (rounded_range b offset len)) f g b.object k values values c (λ o new w both. (
        one_of values _ _ _ (w.host.inside k) both.0 both.1,
        along values _ _ (ap (λ xs. slice_get xs k) w.device) both.1,
      )) h

-- A put, of the host's bytes, and where the object is coherent of the device's too.
module _ (p : Properties) (b : Block) (start : ℕ) (bytes : List ℕ) (f g : ℕ → Option Object) (k : ℕ) (values : List ℕ) (c : Changes (IsPut p start bytes) f b.object g) where
  device_aside : (coherent : Bool) (from to : List ℕ) → IsPutDevice coherent start bytes from to → IsOutside start (length bytes) k → slice_get to k ≡ slice_get from k
  device_aside true from to w out = w.outside k out
  device_aside false from to same out = ap (λ xs. slice_get xs k) same

  device_here : (coherent : Bool) (from to : List ℕ) (v : ℕ) → (values ≡ [] → ⊥) → IsPutDevice coherent start bytes from to → IsGiven start bytes k v → HasOneOf values (slice_get from k) → HasOneOf (with_more v values) (slice_get to k)
  device_here true from to v some w at h = this_more v values (slice_get to k) some (written_there start bytes from to k v at w)
  device_here false from to v some same at h = some_more v values (slice_get to k) some (along values (slice_get from k) (slice_get to k) (ap (λ xs. slice_get xs k) same) h)

  pub put_aside : IsOutside start (length bytes) k → HasBoth values (f b.object) k → HasBoth values (g b.object) k
  put_aside out h =
      changed (IsPut p start bytes) f g b.object k values values c (λ o new w both. (
        along values _ _ (ap (λ (x : Object). slice_get x.host_bytes k) w.4 ∙ w.2.outside k out) both.0,
        along values _ _ (ap (λ (x : Object). slice_get x.device_bytes k) w.4 ∙ device_aside (is_coherent p o.memory_type) o.device_bytes w.1 w.3 out) both.1,
      )) h

  pub put_here : (v : ℕ) → (values ≡ [] → ⊥) → IsGiven start bytes k v → HasBoth values (f b.object) k → HasBoth (with_more v values) (g b.object) k
  put_here v some at h =
      changed (IsPut p start bytes) f g b.object k values (with_more v values) c (λ o new w both. (
        this_more v values _ some (ap (λ (x : Object). slice_get x.host_bytes k) w.4 ∙ written_there start bytes o.host_bytes w.0 k v at w.2),
        along (with_more v values) _ _ (ap (λ (x : Object). slice_get x.device_bytes k) w.4) (device_here (is_coherent p o.memory_type) o.device_bytes w.1 v some w.3 at both.1),
      )) h

-- What is known of the byte afterwards, where its block stays with its mapping.

pub still_known : (f g : ℕ → Option Object) (seen : Seen) (byte : ℕ) (b : Block) → IsKnown f seen byte b → HasBoth seen.values (g b.object) (b.offset + byte) → IsKnown g seen byte b
still_known f g seen byte b known bytes = record { bytes = bytes; mapping = known.mapping; inside = known.inside }

-- no value is added where there are none
pub maybe_none : (seen : Seen) (v : Option ℕ) → seen.values ≡ [] → (maybe v seen).values ≡ []
maybe_none seen None none = none
maybe_none seen (Some v) none = ap (with_more v) none

-- it may have a value more: from bytes that go to an offset of the block
pub maybe_known : (f g : ℕ → Option Object) (seen : Seen) (byte : ℕ) (b : Block) (offset : ℕ) (bytes : List ℕ) → IsKnown f seen byte b
    → (IsOutside (b.offset + offset) (length bytes) (b.offset + byte) → HasBoth seen.values (f b.object) (b.offset + byte) → HasBoth seen.values (g b.object) (b.offset + byte))
    → ((v : ℕ) → (seen.values ≡ [] → ⊥) → IsGiven (b.offset + offset) bytes (b.offset + byte) v → HasBoth seen.values (f b.object) (b.offset + byte)
    → HasBoth (with_more v seen.values) (g b.object) (b.offset + byte))
    → ((maybe (given offset bytes byte) seen).values ≡ []) ⊎ IsKnown g (maybe (given offset bytes byte) seen) byte b
maybe_known f g seen byte b offset bytes known aside here = elim (given_cases offset bytes byte) [
  | inl out ↦ rw out.0 (inr (still_known f g seen byte b known (aside (outside_there b.offset offset (length bytes) byte out.1) known.bytes)))
  | inr at ↦ rw at.1 (elim (none_or_some seen.values) [
    | inl none ↦ inl (ap (with_more at.0) none)
    | inr some ↦ inr (record { bytes = here at.0 some (given_there b.offset offset bytes byte at.0 at.2) known.bytes; mapping = known.mapping; inside = known.inside })
  ])
]

-- it has a value for sure, where bytes cover it that go to an offset of the block, which is not mapped
pub surely_known : (f g : ℕ → Option Object) (seen : Seen) (byte : ℕ) (b : Block) (offset : ℕ) (bytes : List ℕ) → (seen.values ≡ []) ⊎ IsKnown f seen byte b → b.mapping ≡ None → offset + length bytes ≤ b.size
    → (IsOutside (b.offset + offset) (length bytes) (b.offset + byte) → HasBoth seen.values (f b.object) (b.offset + byte) → HasBoth seen.values (g b.object) (b.offset + byte))
    → ((v : ℕ) → IsGiven (b.offset + offset) bytes (b.offset + byte) v → HasBoth (v ∷ []) (g b.object) (b.offset + byte))
    → ((surely (given offset bytes byte) seen).values ≡ []) ⊎ IsKnown g (surely (given offset bytes byte) seen) byte b
surely_known f g seen byte b offset bytes before unmapped within aside here = elim (given_cases offset bytes byte) [
  | inl out ↦ rw out.0 (elim before [
    | inl none ↦ inl none
    | inr known ↦ inr (still_known f g seen byte b known (aside (outside_there b.offset offset (length bytes) byte out.1) known.bytes))
  ])
  | inr at ↦
      let place = at.2.1 in
      let low = at.2.2 in
      rw at.1 (inr (record {
        bytes = here at.0 (given_there b.offset offset bytes byte at.0 at.2);
        mapping = λ m is. absurd (cc);
        inside = omega (arith, place, low, within);
      }))
]

-- what is known of the block of a name, where the books stay
pub seen_again : (g : ℕ → Option Object) (s new : Books) (name byte : ℕ) (seen : Seen) (b : Block) → new ≡ s → finite.get s.blocks name ≡ Some b → (seen.values ≡ []) ⊎ IsKnown g seen byte b → IsSeen g new name byte seen
seen_again g s new name byte seen b same at (inl none) = inl none
seen_again g s new name byte seen b same at (inr known) = seen_at g s new name byte seen b same at known

-- where one of the lists is at its end, nothing more comes to be known
pub along_end : {A : Type 0} (name byte : ℕ) (commands : List (Command A)) (replies : List (Reply A)) (seen : Seen) → (commands ≡ []) ⊎ (replies ≡ []) → seen_along name byte commands replies seen ≡ seen
along_end name byte commands replies seen (inl none) = rw none refl
along_end name byte [] replies seen (inr none) = refl
along_end name byte (c ∷ commands) replies seen (inr none) = rw none refl
