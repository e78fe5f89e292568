-- What holds of every step of the simulated device, and of its objects.
use Rattle.std.specs.Prelude.{◌≡◌, ℕ, ◌+◌, ◌/◌, ◌≤◌, Bool, true, false, cond, List, [], ◌∷◌, length, Option, Some, None}
use Rattle.std.specs.Prelude.{Ok, Err, IfSome, refl}
use Rattle.std.specs.FinMap as map
use Rattle.std.specs.FinMap.{FinMap}
use Rattle.std.specs.Ordering.{nat_cmp}
use Rattle.std.proofs.Common.{◌∙◌, ap, arith, subst, sym}
use Rattle.gpu_alloc_types.specs.Properties.{Properties, is_coherent}
use Rattle.gpu_alloc_types.specs.Device.{Object, Event, Range, Row, Changes, InTurn, IsWellFormed}
use Rattle.gpu_alloc_types.specs.Device.{IsMappedOver, IsUnmapped, IsFlushed, IsInvalidated, IsPut, IsPutDevice}
use Rattle.gpu_alloc_types.specs.Device.Event.{Allocated, Deallocated, Mapped, Unmapped, Flushed, Invalidated, BytesPut}
use Rattle.gpu_alloc_types.specs.Device.Event.{BytesGot}
use Rattle.gpu_alloc_types.specs.declared.types.OutOfMemory.{OutOfMemory}
use Rattle.gpu_sim.specs.ByteLaws.{is_copied, is_partly_copied, is_written, slice_get-read}
use Rattle.gpu_sim.specs.Bytes.{bytes_written, size_of_part}
use Rattle.gpu_sim.specs.ObjectLaws.{alike, decides_well_formed, new_is_whole, mapped_is_whole, copied_is_whole}
use Rattle.gpu_sim.specs.ObjectLaws.{put_by_device_is_whole, put_by_host_is_whole, whole_at, whole-insert}
use Rattle.gpu_sim.specs.ObjectLaws.{shown-insert, shown-remove, shown_once_held, shown_passes}
use Rattle.gpu_sim.specs.Objects.{ChangesAt, CopiesEach, HasBytes, HasRange, IsWhole, AreWhole, shown, shown_if}
use Rattle.gpu_sim.specs.Objects.{is_well_formed, new_object, mapped_as, copied, put_by_device, put_by_host}
use Rattle.gpu_sim.specs.Sim.{SimState, SimStep, CommandWrites, objects_of}
use Rattle.gpu_sim.specs.declared.sim.bytes.Direction.{Direction}
use Rattle.gpu_sim.specs.declared.sim.bytes.Direction.TheVariants.{ToDevice, ToHost}
use Rattle.gpu_sim.specs.declared.sim.bytes.Part.{Part}
use Rattle.gpu_sim.specs.declared.sim.bytes.Part.TheVariants.{Whole, FirstHalf}

module _ (p : Properties) where
  -- A change of one object, in the form in which every device shows it.
  module _ (Q : Object → Type 0) (f : Object → Object) (keeps : (o : Object) → IsWhole p o → Q o → IsWhole p (f o))
      (old : FinMap nat_cmp Object) (name : ℕ) (new : FinMap nat_cmp Object) (c : ChangesAt Q f old name new)
      (whole : AreWhole p old) where
    pub change_keeps_whole : AreWhole p new
    change_keeps_whole =
        subst (AreWhole p) (sym c.3)
        (whole-insert p old name (f c.0) whole (keeps c.0 (whole_at p old name c.0 whole c.1) c.2))

    pub shown_change : (P : Object → Object → Type 0) → ((o : Object) → IsWhole p o → Q o → P o (f o))
        → Changes P (shown p old) name (shown p new)
    shown_change P does =
        let w = whole_at p old name c.0 whole c.1 in (
          c.0,
          shown_once_held p old name c.0 c.1 w,
          (
            f c.0,
            does c.0 w c.2,
            ap (shown p) c.3 ∙ shown-insert p old name (f c.0) (keeps c.0 w c.2),
          ),
        )

  module _ (way : Direction) (part : Part) where
    keeps_copied : (r : Range) (o : Object) → IsWhole p o → HasRange r.offset r.size o
        → IsWhole p (copied way r.offset (size_of_part part r.size) o)
    keeps_copied r o w has = copied_is_whole p o w way r.offset (size_of_part part r.size)

    pub copies_keep_whole : (rs : List Range) (old new : FinMap nat_cmp Object) → CopiesEach way part rs old new
        → AreWhole p old → AreWhole p new
    copies_keep_whole [] old new c whole = subst (AreWhole p) (sym c) whole
    copies_keep_whole (r ∷ rs) old new c whole =
        copies_keep_whole rs c.0 new c.2
        (change_keeps_whole (HasRange r.offset r.size) _ (keeps_copied r) old r.object c.0 c.1 whole)

    shown_copies : (P : Range → Object → Object → Type 0)
        → ((r : Range) (o : Object) → IsWhole p o → P r o (copied way r.offset (size_of_part part r.size) o))
        → (rs : List Range) (old new : FinMap nat_cmp Object) → CopiesEach way part rs old new → AreWhole p old
        → InTurn P rs (shown p old) (shown p new)
    shown_copies P does [] old new c whole = ap (shown p) c
    shown_copies P does (r ∷ rs) old new c whole = (
      shown p c.0,
      shown_change (HasRange r.offset r.size) _ (keeps_copied r) old r.object c.0 c.1 whole (P r)
          (λ o w has. does r o w),
      shown_copies P does rs c.0 new c.2
          (change_keeps_whole (HasRange r.offset r.size) _ (keeps_copied r) old r.object c.0 c.1 whole),
    )

  -- A copy and a write, in the form in which every device describes them.
  module _ (r : Range) (o : Object) (w : IsWhole p o) where
    flushed : (x : Unit {0}) → IsFlushed {E = OutOfMemory} (Ok x) r o (copied ToDevice r.offset r.size o)
    flushed x = (_, is_copied r.offset r.size o.host_bytes o.device_bytes (alike p o w), refl)

    half_flushed : (e : OutOfMemory) → IsFlushed (Err e) r o (copied ToDevice r.offset (r.size / 2) o)
    half_flushed e =
        (_, is_partly_copied r.offset (r.size / 2) o.host_bytes o.device_bytes (alike p o w) r.size (omega arith), refl)

    invalidated : (x : Unit {0}) → IsInvalidated {E = OutOfMemory} (Ok x) r o (copied ToHost r.offset r.size o)
    invalidated x = (_, is_copied r.offset r.size o.device_bytes o.host_bytes (sym (alike p o w)), refl)

    half_invalidated : (e : OutOfMemory) → IsInvalidated (Err e) r o (copied ToHost r.offset (r.size / 2) o)
    half_invalidated e =
        let same = sym (alike p o w) in
        (_, is_partly_copied r.offset (r.size / 2) o.device_bytes o.host_bytes same r.size (omega arith), refl)

  put_device : (coherent : Bool) (offset : ℕ) (bytes to : List ℕ) → offset + length bytes ≤ length to
      → IsPutDevice coherent offset bytes to (cond coherent (bytes_written offset bytes to) to)
  put_device true offset bytes to fits = is_written offset bytes to fits
  put_device false offset bytes to fits = refl

  is_put : (offset : ℕ) (bytes : List ℕ) (o : Object) → HasRange offset (length bytes) o
      → IsPut p offset bytes o (put_by_host p offset bytes o)
  is_put offset bytes o has = (
    _,
    _,
    is_written offset bytes o.host_bytes has.host,
    put_device (is_coherent p o.memory_type) offset bytes o.device_bytes has.device,
    refl,
  )

pub step_is_row : (old : SimState) (e : Event) (new : SimState) → SimStep old e new
    → Row old.properties (objects_of old) e (objects_of new)
step_is_row old (Allocated size t flags (Ok name)) new s =
    let p = old.properties in
    let o = new_object p size t in (
      ap (shown_if (is_well_formed p)) s.1.1.free,
      (
        o,
        record { of_type = refl; of_size = refl; unmapped = refl },
        ap objects_of s.1.1.held ∙ shown-insert p old.objects name o (new_is_whole p size t),
      ),
    )
step_is_row old (Allocated size t flags (Err error)) new s = ap objects_of s.1.1
step_is_row old (Deallocated name) new s = ap objects_of s.1 ∙ shown-remove old.properties old.objects name
step_is_row old (Mapped r (Ok x)) new s =
    let m : Option (ℕ × ℕ) = Some (r.offset, r.size) in
    subst (λ objects. Changes (IsMappedOver r) (objects_of old) r.object objects) (sym (ap objects_of s.1.1.2))
    (shown_change old.properties (HasBytes m) (mapped_as m) (λ o w has. mapped_is_whole old.properties o w m has)
    old.objects r.object s.1.1.0 s.1.1.1 s.0.whole (IsMappedOver r) (λ o w has. refl))
step_is_row old (Mapped r (Err error)) new s = ap objects_of s.1.1
step_is_row old (Unmapped name) new s =
    subst (λ objects. Changes IsUnmapped (objects_of old) name objects) (sym (ap objects_of s.1.2))
    (shown_change old.properties (HasBytes None) (mapped_as None)
    (λ o w has. mapped_is_whole old.properties o w None has) old.objects name s.1.0 s.1.1 s.0.whole IsUnmapped
    (λ o w has. refl))
step_is_row old (Flushed rs (Ok x)) new s =
    let P : Range → Object → Object → Type 0 = IsFlushed {E = OutOfMemory} (Ok x) in
    subst (λ objects. InTurn P rs (objects_of old) objects) (sym (ap objects_of s.1.1.2))
    (shown_copies old.properties ToDevice Whole P (λ r o w. flushed old.properties r o w x)
    rs old.objects s.1.1.0 s.1.1.1 s.0.whole)
step_is_row old (Flushed rs (Err e)) new s =
    subst (λ objects. InTurn (IsFlushed (Err e)) rs (objects_of old) objects) (sym (ap objects_of s.1.1.2))
    (shown_copies old.properties ToDevice FirstHalf (IsFlushed (Err e)) (λ r o w. half_flushed old.properties r o w e)
    rs old.objects s.1.1.0 s.1.1.1 s.0.whole)
step_is_row old (Invalidated rs (Ok x)) new s =
    let P : Range → Object → Object → Type 0 = IsInvalidated {E = OutOfMemory} (Ok x) in
    subst (λ objects. InTurn P rs (objects_of old) objects) (sym (ap objects_of s.1.1.2))
    (shown_copies old.properties ToHost Whole P (λ r o w. invalidated old.properties r o w x)
    rs old.objects s.1.1.0 s.1.1.1 s.0.whole)
step_is_row old (Invalidated rs (Err e)) new s =
    subst (λ objects. InTurn (IsInvalidated (Err e)) rs (objects_of old) objects) (sym (ap objects_of s.1.1.2))
    (shown_copies old.properties ToHost FirstHalf (IsInvalidated (Err e))
    (λ r o w. half_invalidated old.properties r o w e) rs old.objects s.1.1.0 s.1.1.1 s.0.whole)
step_is_row old (BytesPut name offset bytes) new s =
    let p = old.properties in
    subst (λ objects. Changes (IsPut p offset bytes) (objects_of old) name objects) (sym (ap objects_of s.1.2))
    (shown_change p (HasRange offset (length bytes)) (put_by_host p offset bytes)
    (λ o w has. put_by_host_is_whole offset bytes p o w has) old.objects name s.1.0 s.1.1 s.0.whole
    (IsPut p offset bytes) (λ o w has. is_put p offset bytes o has))
step_is_row old (BytesGot name offset bytes) new s =
    let held = s.1.1 in (
      ap objects_of s.1.0,
      (
        held.0,
        shown_once_held old.properties old.objects name held.0 held.1
            (whole_at old.properties old.objects name held.0 s.0.whole held.1),
        slice_get-read offset bytes held.0.host_bytes held.2,
      ),
    )

pub step_keeps_properties : (old : SimState) (e : Event) (new : SimState) → SimStep old e new
    → new.properties ≡ old.properties
step_keeps_properties old (Allocated size t flags (Ok name)) new s = ap (λ sim. sim.properties) s.1.1.held
step_keeps_properties old (Allocated size t flags (Err error)) new s = ap (λ sim. sim.properties) s.1.1
step_keeps_properties old (Deallocated name) new s = ap (λ sim. sim.properties) s.1
step_keeps_properties old (Mapped range (Ok _)) new s = ap (λ sim. sim.properties) s.1.1.2
step_keeps_properties old (Mapped range (Err error)) new s = ap (λ sim. sim.properties) s.1.1
step_keeps_properties old (Unmapped name) new s = ap (λ sim. sim.properties) s.1.2
step_keeps_properties old (Flushed ranges (Ok _)) new s = ap (λ sim. sim.properties) s.1.1.2
step_keeps_properties old (Flushed ranges (Err error)) new s = ap (λ sim. sim.properties) s.1.1.2
step_keeps_properties old (Invalidated ranges (Ok _)) new s = ap (λ sim. sim.properties) s.1.1.2
step_keeps_properties old (Invalidated ranges (Err error)) new s = ap (λ sim. sim.properties) s.1.1.2
step_keeps_properties old (BytesPut name offset bytes) new s = ap (λ sim. sim.properties) s.1.2
step_keeps_properties old (BytesGot name offset bytes) new s = ap (λ sim. sim.properties) s.1.0

passes_well_formed : (p : Properties) (o : Option Object) → IfSome o (λ o. is_well_formed p o ≡ true)
    → IfSome o (IsWellFormed p)
passes_well_formed p None is = tt
passes_well_formed p (Some o) is = (decides_well_formed p o).0 is

pub objects_are_well_formed : (s : SimState) (name : ℕ) → IfSome (objects_of s name) (IsWellFormed s.properties)
objects_are_well_formed s name =
    passes_well_formed s.properties (objects_of s name)
    (shown_passes (is_well_formed s.properties) (map.get s.objects name))

-- what a command writes, in the form in which every device shows it
pub shown_command : (old : SimState) (object offset : ℕ) (bytes : List ℕ) (new : SimState)
    → CommandWrites old object offset bytes new
    → Changes (λ o o'. o' ≡ put_by_device old.properties offset bytes o) (objects_of old) object (objects_of new)
shown_command old object offset bytes new s =
    let p = old.properties in
    let P : Object → Object → Type 0 = λ o o'. o' ≡ put_by_device p offset bytes o in
    subst (λ objects. Changes P (objects_of old) object objects) (sym (ap objects_of s.1.2))
    (shown_change p (HasRange offset (length bytes)) (put_by_device p offset bytes)
    (λ o w has. put_by_device_is_whole offset bytes p o w has) old.objects object s.1.0 s.1.1 s.0.whole P
    (λ o w has. refl))
