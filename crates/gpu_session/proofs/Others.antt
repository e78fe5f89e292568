-- What a command leaves of the bytes of blocks that it does not name.
use Rattle.std.proofs.Common.{◌≡◌, ◌≢◌, inl, inr, ℕ, ◌+◌, ◌<◌, ◌≤◌, ◌==◌, Bool, true, false, List, length, slice_get, Option, Some, None, sym, ◌∙◌, ap, arith}
use Rattle.std.proofs.lemmas.Bool.Decides.{nat_tests}
use Rattle.std.specs.FinMap as finite
use Rattle.std.specs.Ordering.{nat_cmp}
use Rattle.gpu_alloc_types.specs.Device.{Changes, Event, IsOutside, IsPut, IsPutDevice, Object, Range, put}
use Rattle.gpu_alloc_types.specs.Objects.{put-other}
use Rattle.gpu_alloc_types.specs.Properties.{Properties, is_coherent}
use Rattle.gpu_alloc.specs.Agreement.{BlockAgrees}
use Rattle.gpu_alloc_block.specs.Agreement.{IsOfBlock}
use Rattle.gpu_alloc.specs.Bytes.{EndsRead, EndsWrite}
use Rattle.gpu_alloc.specs.Mapped.{IsClosed, IsOpened}
use Rattle.gpu_alloc_block.specs.InHand.{AreTwo}
use Rattle.gpu_alloc.specs.State.{Block, State}
use Rattle.gpu_alloc.specs.Types.MapError.{MapError}
use Rattle.gpu_alloc.specs.Types.Mapping.{Mapping}
use Rattle.gpu_alloc_base.proofs.Names.{get_put-other, here}
use Rattle.gpu_alloc_block.specs.Contents.{HasSameBytes}
use Rattle.gpu_alloc_block.proofs.Contents.{change_leaves, outside_data}
use Rattle.gpu_session.specs.Isolation.{AreSame, IsRefusedRead, IsRefusedWrite, MovesNoByte, host_at, device_at}
use Rattle.gpu_session.specs.Sound.{IsBlock, IsSoundSession}

-- the bytes of a block are as before
abbrev pub IsUntouched : (old new : ℕ → Option Object) → Block → Type 0
IsUntouched old new b = (k : ℕ) → b.offset ≤ k → k < b.offset + b.size → AreSame (old b.object) (new b.object) k

pub untouched_object : (f g : ℕ → Option Object) (b : Block) → g b.object ≡ f b.object → IsUntouched f g b
untouched_object f g b same k low high = (ap (λ o. host_at o k) same, ap (λ o. device_at o k) same)

pub untouched : (f g : ℕ → Option Object) (b : Block) → g ≡ f → IsUntouched f g b
untouched f g b same = untouched_object f g b (ap (λ (h : ℕ → Option Object). h b.object) same)

-- a command of one name names no other
pub another_name : (own name : ℕ) → (own == name) ≡ false → name ≢ own
another_name own name e = grind (arith, nat_tests)

-- Where the block of one name is put, each block of another name stays, and is untouched if it is so on the device.
pub others_left : (blocks : finite.FinMap nat_cmp Block) (own : ℕ) (now : Block) (f g : ℕ → Option Object) → ((name : ℕ) (b : Block) → name ≢ own → finite.get blocks name ≡ Some b → HasSameBytes b f g)
    → (name : ℕ) (b : Block) → (own == name) ≡ false → finite.get blocks name ≡ Some b → (finite.get (finite.insert blocks own now) name ≡ Some b) × IsUntouched f g b
unfolding HasSameBytes
others_left blocks own now f g each name b another there =
    let ne = another_name own name another in
    (get_put-other blocks own now name ne ∙ there, each name b ne there)

-- where the names stay
pub others_stay : (blocks : finite.FinMap nat_cmp Block) (own : ℕ) (f g : ℕ → Option Object) → ((name : ℕ) (b : Block) → name ≢ own → finite.get blocks name ≡ Some b → HasSameBytes b f g)
    → (name : ℕ) (b : Block) → (own == name) ≡ false → finite.get blocks name ≡ Some b → (finite.get blocks name ≡ Some b) × IsUntouched f g b
unfolding HasSameBytes
others_stay blocks own f g each name b another there = (there, each name b (another_name own name another) there)

-- what a call says about the bytes
pub untouched_bytes : (f g : ℕ → Option Object) (b : Block) → HasSameBytes b f g → IsUntouched f g b
unfolding HasSameBytes
untouched_bytes f g b same = same

-- the object of a block that has a name
pub its_object : {p : Properties} {objects : ℕ → Option Object} {s : State} {blocks : finite.FinMap nat_cmp Block} → IsSoundSession p objects (record { allocator = s; blocks = blocks }) → (name : ℕ) (b : Block) → finite.get blocks name ≡ Some b → (o : Object) × (objects b.object ≡ Some o)
its_object {p = p} {objects = objects} {s = s} {blocks = blocks} sound name b at =
    let inside = (here (finite.get blocks name) (IsBlock p s objects) (sound.blocks name) b at).inside in
    (inside.0, inside.1)

-- A grant makes one object at most, of a name that the device had not.

pub new_leaves : (f g : ℕ → Option Object) (name : ℕ) (made : Object) (c : Block) (o : Object) → f name ≡ None → g ≡ put f name (Some made) → f c.object ≡ Some o → IsUntouched f g c
new_leaves f g name made c o free now there =
    untouched_object f g c (ap (λ (h : ℕ → Option Object). h c.object) now ∙ put-other f name (Some made) c.object (λ is. absurd (let both = sym there ∙ ap f is ∙ free in cc)))

-- Bytes that are put in one block leave those of another.

put_device : (coherent : Bool) (offset : ℕ) (bytes from to : List ℕ) (k : ℕ) → IsPutDevice coherent offset bytes from to → IsOutside offset (length bytes) k → slice_get to k ≡ slice_get from k
put_device true offset bytes from to k put outside = put.outside k outside
put_device false offset bytes from to k same outside = ap (λ xs. slice_get xs k) same

pub put_leaves : (b c : Block) → AreTwo b c → (p : Properties) (start : ℕ) (bytes : List ℕ) (f g : ℕ → Option Object) → b.offset ≤ start → start + length bytes ≤ b.offset + b.size → Changes (IsPut p start bytes) f b.object g → HasSameBytes c f g
put_leaves b c two p start bytes f g from to changes =
    change_leaves (IsPut p start bytes) f g b c changes (λ o n w k same low high.
    let out = outside_data b c two start (length bytes) from to same k low high in
    (ap (λ (x : Object). slice_get x.host_bytes k) w.4 ∙ w.2.outside k out, ap (λ (x : Object). slice_get x.device_bytes k) w.4 ∙ put_device (is_coherent p o.memory_type) start bytes o.device_bytes w.1 k w.3 out))

-- a mapping lies in its block
pub mapping_in_block : (b : Block) (p : Properties) (objects : ℕ → Option Object) (m : Mapping) → BlockAgrees b p objects → b.mapping ≡ Some m → (b.offset ≤ m.start) × (m.start + m.len ≤ b.offset + b.size)
unfolding BlockAgrees
mapping_in_block b p objects m agrees is = let inside = here b.mapping (IsOfBlock b) agrees.mapping m is in (inside.from, inside.to)

-- How refused byte calls end, for the bytes alone.

pub refused_write : (b : Block) (offset : ℕ) (bytes : List ℕ) (e : MapError) (f g : ℕ → Option Object) (es : List Event) → EndsWrite b offset bytes e f g es → IsRefusedWrite b offset bytes e f g
refused_write b offset bytes e f g es ends = elim ends [ inl refused ↦ inl refused.1 | inr failed ↦ inr (failed.0.cause, failed.0.like, failed.1) ]

pub refused_read : (b : Block) (offset len : ℕ) (e : MapError) (f g : ℕ → Option Object) (es : List Event) → EndsRead b offset len e f g es → IsRefusedRead b offset len f g
refused_read b offset len e f g es ends = elim ends [ inl refused ↦ inl refused.1 | inr failed ↦ inr failed.1 ]

-- a map or an unmap moves no byte
pub opened_moves_none : (shared : Bool) (r : Range) (f g : ℕ → Option Object) (b : Block) → r.object ≡ b.object → IsOpened shared r f g → MovesNoByte b f g
opened_moves_none true r f g b own same = inl same
opened_moves_none false r f g b own changes =
    let c = rw own at changes in
    inr (c.0, c.1, (c.2.0, (ap (λ (x : Object). x.host_bytes) c.2.1, ap (λ (x : Object). x.device_bytes) c.2.1), c.2.2))

pub closed_moves_none : (shared : Bool) (f g : ℕ → Option Object) (b : Block) → IsClosed shared b.object f g → MovesNoByte b f g
closed_moves_none true f g b same = inl same
closed_moves_none false f g b c = inr (c.0, c.1, (c.2.0, (ap (λ (x : Object). x.host_bytes) c.2.1, ap (λ (x : Object). x.device_bytes) c.2.1), c.2.2))
