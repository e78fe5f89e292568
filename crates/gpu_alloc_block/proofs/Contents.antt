-- Which bytes a call of a block leaves as they were, and what the device has of those that it moves.
use Rattle.std.proofs.Common.{◌≡◌, ◌≢◌, inl, inr, ℕ, ◌+◌, ◌<◌, ◌≤◌, Bool, true, false, List, length, slice_get, Option, Some, Result, Ok, Err, OnOk, refl, sym, ◌∙◌, ap, arith}
use Rattle.gpu_alloc_base.proofs.Names.{one_or_two}
use Rattle.gpu_alloc_types.specs.Device.{Object, Range, Changes, IsOutside, IsMappedOver, IsUnmapped}
use Rattle.gpu_alloc_types.specs.Objects.{put-other}
use Rattle.gpu_alloc_block.proofs.Changes.{changed_there}
use Rattle.gpu_alloc_block.proofs.Rounded.{rounded_covers}
use Rattle.gpu_alloc_block.specs.Agreement.{LiesInBlock}
use Rattle.gpu_alloc_block.specs.Bytes.{ChangesBytes, IsReadThrough, IsWrittenThrough, ReadsWithin, WritesWithin}
use Rattle.gpu_alloc_block.specs.Contents.{BytesStay, HasSameBytes, HasSameDeviceBytes, Stores, device_at, host_at}
use Rattle.gpu_alloc_block.specs.InHand.{AreTwo}
use Rattle.gpu_alloc_block.specs.Mapped.{IsClosed, IsOpened}
use Rattle.gpu_alloc_block.specs.Ranges.{rounded_range}
use Rattle.gpu_alloc_block.specs.State.{Block, is_shared}
use Rattle.gpu_alloc_block.specs.declared.block.Kind.TheVariants.{Imported}

pub same_object : (b : Block) (f g : ℕ → Option Object) → g b.object ≡ f b.object → HasSameBytes b f g
unfolding HasSameBytes
same_object b f g same k low high = (ap (λ o. host_at o k) same, ap (λ o. device_at o k) same)

pub same_objects : (b : Block) (f g : ℕ → Option Object) → g ≡ f → HasSameBytes b f g
same_objects b f g same = same_object b f g (ap (λ (h : ℕ → Option Object). h b.object) same)

pub bytes_stay : BytesStay
unfolding HasSameBytes HasSameDeviceBytes Stores
bytes_stay = record {
  none = λ b objects k low high. (refl, refl);
  twice = λ b old mid new first second k low high.
      ((second k low high).0 ∙ (first k low high).0, (second k low high).1 ∙ (first k low high).1);
  stored = λ b offset bytes old new inside stores same k less.
      (same (b.offset + offset + k) (omega arith) (omega (arith, inside, less))).1 ∙ stores k less;
  device = λ b offset bytes old new stores same k less. same (b.offset + offset + k) ∙ stores k less;
}

-- a change of one object leaves the bytes of a block that it does not reach
pub change_leaves : (P : Object → Object → Type 0) (f g : ℕ → Option Object) (b c : Block) → Changes P f b.object g
    → ((o n : Object) → P o n → (k : ℕ) → c.object ≡ b.object → c.offset ≤ k → k < c.offset + c.size
    → (slice_get n.host_bytes k ≡ slice_get o.host_bytes k) × (slice_get n.device_bytes k ≡ slice_get o.device_bytes k))
    → HasSameBytes c f g
unfolding HasSameBytes
change_leaves P f g b c changes same k low high = elim (one_or_two c.object b.object) [
  | inr other ↦ same_object c f g (ap (λ (h : ℕ → Option Object). h c.object) changes.2.2 ∙ put-other f b.object (Some changes.2.0) c.object other) k low high
  | inl is ↦
      let there : f c.object ≡ Some changes.0 = ap f is ∙ changes.1 in
      let now : g c.object ≡ Some changes.2.0 = ap g is ∙ changed_there f b.object P g changes in
      let two = same changes.0 changes.2.0 changes.2.1 k is low high in
      (ap (λ o. host_at o k) now ∙ two.0 ∙ sym (ap (λ o. host_at o k) there), ap (λ o. device_at o k) now ∙ two.1 ∙ sym (ap (λ o. device_at o k) there))
]

-- A mapping, and its end, leave all bytes.

pub opened_leaves : (shared : Bool) (r : Range) (f g : ℕ → Option Object) (b c : Block) → r.object ≡ b.object → IsOpened shared r f g → HasSameBytes c f g
opened_leaves true r f g b c own same = same_objects c f g same
opened_leaves false r f g b c own changes =
    change_leaves (IsMappedOver r) f g b c (rw own at changes) (λ o n is k _ _ _. (ap (λ (x : Object). slice_get x.host_bytes k) is, ap (λ (x : Object). slice_get x.device_bytes k) is))

pub closed_leaves : (shared : Bool) (f g : ℕ → Option Object) (b c : Block) → IsClosed shared b.object f g → HasSameBytes c f g
closed_leaves true f g b c same = same_objects c f g same
closed_leaves false f g b c changes =
    change_leaves IsUnmapped f g b c changes (λ o n is k _ _ _. (ap (λ (x : Object). slice_get x.host_bytes k) is, ap (λ (x : Object). slice_get x.device_bytes k) is))

-- Two blocks that share no byte: what lies in the one, or is flushed of it, lies outside the other.
module _ (b c : Block) (two : AreTwo b c) where
  own_object : c.object ≡ b.object → b.kind ≢ Imported
  own_object same is = two.objects.first (ap is_shared is) (sym same)

  outside_range : (r : Range) → LiesInBlock b r → c.object ≡ b.object → (k : ℕ) → c.offset ≤ k → k < c.offset + c.size → IsOutside r.offset r.size k
  outside_range r lies same k low high = elim two.apart [
    | inl ne ↦ absurd (ne (sym same))
    | inr sides ↦ elim sides [
      | inl before ↦ let end = lies.finish in inr (omega (arith, before, low, end))
      | inr after ↦ let start = lies.start (own_object same) in inl (omega (arith, after, high, start))
    ]
  ]

  pub outside_data : (start len : ℕ) → b.offset ≤ start → start + len ≤ b.offset + b.size → c.object ≡ b.object → (k : ℕ) → c.offset ≤ k → k < c.offset + c.size → IsOutside start len k
  outside_data start len from to same k low high = elim two.apart [
    | inl ne ↦ absurd (ne (sym same))
    | inr sides ↦ elim sides [
      | inl before ↦ inr (omega (arith, before, low, to))
      | inr after ↦ inl (omega (arith, after, high, from))
    ]
  ]

  pub write_leaves : (offset len : ℕ) (f g : ℕ → Option Object) → offset + len ≤ b.size → LiesInBlock b (rounded_range b offset len) → Changes (WritesWithin b offset len) f b.object g → HasSameBytes c f g
  write_leaves offset len f g inside lies changes =
      change_leaves (WritesWithin b offset len) f g b c changes (λ o n w k same low high. (w.host k (outside_data (b.offset + offset) len (omega arith) (omega (arith, inside)) same k low high), w.device k (outside_range (rounded_range b offset len) lies same k low high)))

  pub read_leaves : (offset len : ℕ) (f g : ℕ → Option Object) → LiesInBlock b (rounded_range b offset len) → Changes (ReadsWithin b offset len) f b.object g → HasSameBytes c f g
  read_leaves offset len f g lies changes =
      change_leaves (ReadsWithin b offset len) f g b c changes (λ o n w k same low high. (w.host k (outside_range (rounded_range b offset len) lies same k low high), ap (λ xs. slice_get xs k) w.device))

-- of a success, what follows from what is known of it
pub on_success : {T E : Type 0} (answer : Result T E) (P Q : Type 0) → (P → Q) → OnOk answer P → OnOk answer Q
on_success (Ok x) P Q follows known = follows known
on_success (Err e) P Q follows known = tt

-- What was written is there for the device, and what was read was.
module _ (b : Block) (offset : ℕ) (bytes : List ℕ) (f g : ℕ → Option Object) where
  pub written_stored : 0 < b.atom → offset + length bytes ≤ b.size → ChangesBytes b (length bytes) (IsWrittenThrough b offset bytes) f g → Stores b offset bytes g
  unfolding Stores
  written_stored some inside changes k less =
      let c = changes.some (omega (arith, less)) in
      let covers = rounded_covers b offset (length bytes) some inside in
      ap (λ o. device_at o (b.offset + offset + k)) (changed_there f b.object (IsWrittenThrough b offset bytes) g c)
      ∙ c.2.1.device.inside (b.offset + offset + k) (omega (arith, covers.0)) (omega (arith, covers.1, less)) ∙ c.2.1.host.inside k less

  pub read_told : (len : ℕ) → length bytes ≡ len → ChangesBytes b len (IsReadThrough b offset bytes) f g → Stores b offset bytes f
  unfolding Stores
  read_told len long changes k less =
      let c = changes.some (omega (arith, less, long)) in
      ap (λ o. device_at o (b.offset + offset + k)) c.1 ∙ sym (c.2.1.told k less)

-- a read leaves each of the device's bytes, of every object
pub read_unmoved : (b : Block) (offset len : ℕ) (f g : ℕ → Option Object) → Changes (ReadsWithin b offset len) f b.object g → (c : Block) → HasSameDeviceBytes c f g
unfolding HasSameDeviceBytes
read_unmoved b offset len f g changes c k = elim (one_or_two c.object b.object) [
  | inr other ↦ ap (λ (h : ℕ → Option Object). device_at (h c.object) k) changes.2.2 ∙ ap (λ o. device_at o k) (put-other f b.object (Some changes.2.0) c.object other)
  | inl is ↦
      ap (λ n. device_at (g n) k) is ∙ ap (λ o. device_at o k) (changed_there f b.object (ReadsWithin b offset len) g changes)
      ∙ ap (λ xs. slice_get xs k) changes.2.1.device ∙ sym (ap (λ n. device_at (f n) k) is ∙ ap (λ o. device_at o k) changes.1)
]
