-- What putting and getting bytes makes of an object.
use Rattle.std.proofs.Common.{◌≡◌, inl, inr, ℕ, ◌+◌, ◌<◌, ◌≤◌, Bool, true, false, not, ◌&&◌, List, length, slice_get, None, Ok, Err, refl, sym, ◌∙◌, ap, subst, arith}
use Rattle.gpu_alloc_types.specs.Flags.{has_bit}
use Rattle.gpu_alloc_types.specs.Properties.{Properties, props_at, is_coherent, are_non_coherent}
use Rattle.gpu_alloc_types.specs.Device.{Object, Range, IsWellFormed, IsOutside, IsWritten, IsCopied, IsPut, IsPutDevice, IsFlushed, IsInvalidated, IsMappedOver, IsUnmapped}
use Rattle.gpu_alloc_types.specs.declared.types.OutOfMemory.{OutOfMemory}
use Rattle.gpu_alloc_block.proofs.Rounded.{rounded_covers}
use Rattle.gpu_alloc_block.specs.Bytes.{IsOpenForBytes, HasOnlyOtherBytes, IsWrittenThrough, IsPartlyWritten, IsReadThrough, IsPartlyRead, WritesWithin, ReadsWithin}
use Rattle.gpu_alloc_block.specs.Ranges.{rounded_range}
use Rattle.gpu_alloc_block.specs.State.{Block}

-- Both sides have the same bytes of a coherent object, which is as after a flush and an invalidate.

coherent_tests : (visible coherent : Bool) → visible ≡ true → (visible && not coherent) ≡ false → coherent ≡ true
coherent_tests visible true seen is = refl
coherent_tests visible false seen is = absurd (let no : true ≡ false = rw seen at is in cc)

incoherent_tests : (visible coherent : Bool) → (visible && not coherent) ≡ true → coherent ≡ false
incoherent_tests true true is = absurd (cc)
incoherent_tests true false is = refl
incoherent_tests false coherent is = absurd (cc)

pub incoherent : (p : Properties) (b : Block) (r : Range) (o : Object) → IsOpenForBytes p b r o → are_non_coherent b.props ≡ true
    → is_coherent p o.memory_type ≡ false
incoherent p b r o is apart =
    ap (λ t. has_bit (props_at p t) 4) is.of_type ∙ ap (λ bits. has_bit bits 4) (sym is.props)
    ∙ incoherent_tests (has_bit b.props 2) (has_bit b.props 4) apart

module _ (p : Properties) (b : Block) (r : Range) (o : Object) (is : IsOpenForBytes p b r o) (well : IsWellFormed p o) (coherent : are_non_coherent b.props ≡ false) where
  same_bytes : o.host_bytes ≡ o.device_bytes
  same_bytes =
      well.coherent
      (ap (λ t. has_bit (props_at p t) 4) is.of_type ∙ ap (λ bits. has_bit bits 4) (sym is.props)
      ∙ coherent_tests (has_bit b.props 2) (has_bit b.props 4) is.visible coherent)

  pub as_flushed : IsFlushed {E = OutOfMemory} (Ok tt) r o o
  as_flushed = (o.device_bytes, record { outside = λ k out. refl; inside = λ k low high. ap (λ bytes. slice_get bytes k) (sym same_bytes) }, refl)

  pub as_invalidated : IsInvalidated {E = OutOfMemory} (Ok tt) r o o
  as_invalidated = (o.host_bytes, record { outside = λ k out. refl; inside = λ k low high. ap (λ bytes. slice_get bytes k) same_bytes }, refl)

-- What was put and got.

module _ (p : Properties) (b : Block) (offset : ℕ) (bytes : List ℕ) (some : 0 < b.atom) (within : offset + length bytes ≤ b.size) where
  abbrev r : Range
  r = rounded_range b offset (length bytes)

  covers : (r.offset ≤ b.offset + offset) × (b.offset + offset + length bytes ≤ r.offset + r.size)
  covers = rounded_covers b offset (length bytes) some within

  -- a byte outside the rounded range is outside the range
  outside : (k : ℕ) → IsOutside r.offset r.size k → IsOutside (b.offset + offset) (length bytes) k
  outside k (inl before) = inl (omega (arith, covers.0, before))
  outside k (inr behind) = inr (omega (arith, covers.1, behind))

  -- bytes that are put change no byte of the device's outside
  module _ (o mid new : Object) (put : IsPut p (b.offset + offset) bytes o mid) where
    device_outside : (coherent : Bool) → IsPutDevice coherent (b.offset + offset) bytes o.device_bytes mid.device_bytes
        → (k : ℕ) → IsOutside r.offset r.size k → slice_get mid.device_bytes k ≡ slice_get o.device_bytes k
    device_outside true is k out = is.outside k (outside k out)
    device_outside false is k out = ap (λ bs. slice_get bs k) is

    device_put : IsPutDevice (is_coherent p o.memory_type) (b.offset + offset) bytes o.device_bytes mid.device_bytes
    device_put = rw (put.4) (put.3)

    stays : (k : ℕ) → IsOutside r.offset r.size k → slice_get mid.device_bytes k ≡ slice_get o.device_bytes k
    stays = device_outside (is_coherent p o.memory_type) device_put

    host_put : IsWritten (b.offset + offset) bytes o.host_bytes mid.host_bytes
    host_put = rw (put.4) (put.2)

    only : HasOnlyOtherBytes o mid
    only = rw (put.4) (record { same_type = refl; same_size = refl; same_mapping = refl })

    -- what is put is there for the device once it is flushed
    pub put_flushed : IsFlushed {E = OutOfMemory} (Ok tt) r mid new → IsWrittenThrough b offset bytes o new
    put_flushed flushed = rw (flushed.2) (record {
      rest = record { same_type = only.same_type; same_size = only.same_size; same_mapping = only.same_mapping };
      host = host_put;
      device = record { outside = λ k out. flushed.1.outside k out ∙ stays k out; inside = flushed.1.inside };
    })

    pub put_partly : (e : OutOfMemory) → is_coherent p o.memory_type ≡ false → IsFlushed (Err e) r mid new
        → IsPartlyWritten b offset bytes o new
    put_partly e apart flushed =
        let same : mid.device_bytes ≡ o.device_bytes =
        subst (λ c. IsPutDevice c (b.offset + offset) bytes o.device_bytes mid.device_bytes) apart device_put in
        rw (flushed.2) (record {
          rest = record { same_type = only.same_type; same_size = only.same_size; same_mapping = only.same_mapping };
          host = host_put;
          device = rw same at flushed.1;
        })

  -- what is got is what the device has, once it is invalidated
  pub got_invalidated : (o new : Object) → IsInvalidated {E = OutOfMemory} (Ok tt) r o new
      → ((k : ℕ) → k < length bytes → slice_get bytes k ≡ slice_get new.host_bytes (b.offset + offset + k))
      → IsReadThrough b offset bytes o new
  got_invalidated o new invalidated got = record {
    rest = rw (invalidated.2) (record { same_type = refl; same_size = refl; same_mapping = refl });
    device = rw (invalidated.2) refl;
    host = copied;
    told = λ k less. got k less ∙ copied.inside (b.offset + offset + k) (low k) (high k less);
  }
    where
      copied : IsCopied r.offset r.size o.device_bytes o.host_bytes new.host_bytes
      copied = rw (invalidated.2) (invalidated.1)

      low : (k : ℕ) → r.offset ≤ b.offset + offset + k
      low k = omega (arith, covers.0)

      high : (k : ℕ) → k < length bytes → b.offset + offset + k < r.offset + r.size
      high k less = omega (arith, covers.1, less)

-- Outside the ranges nothing has changed.

pub written_within : (b : Block) (offset : ℕ) (bytes : List ℕ) (o new : Object) → IsWrittenThrough b offset bytes o new
    → WritesWithin b offset (length bytes) o new
written_within b offset bytes o new w = record { rest = w.rest; host = w.host.outside; device = w.device.outside }

pub partly_written_within : (b : Block) (offset : ℕ) (bytes : List ℕ) (o new : Object)
    → IsPartlyWritten b offset bytes o new → WritesWithin b offset (length bytes) o new
partly_written_within b offset bytes o new w = record { rest = w.rest; host = w.host.outside; device = w.device.outside }

pub read_within : (b : Block) (offset : ℕ) (bytes : List ℕ) (o new : Object) → IsReadThrough b offset bytes o new
    → ReadsWithin b offset (length bytes) o new
read_within b offset bytes o new w = record { rest = w.rest; host = w.host.outside; device = w.device }

pub not_written : (b : Block) (offset len : ℕ) (o : Object) → WritesWithin b offset len o o
not_written b offset len o = record {
  rest = record { same_type = refl; same_size = refl; same_mapping = refl };
  host = λ k out. refl;
  device = λ k out. refl;
}

pub not_read : (b : Block) (offset len : ℕ) (o : Object) → ReadsWithin b offset len o o
not_read b offset len o = record {
  rest = record { same_type = refl; same_size = refl; same_mapping = refl };
  host = λ k out. refl;
  device = refl;
}

pub partly_read_within : (b : Block) (offset len : ℕ) (o new : Object) → IsPartlyRead (rounded_range b offset len) o new
    → ReadsWithin b offset len o new
partly_read_within b offset len o new w = record { rest = w.rest; host = w.host.outside; device = w.device }

-- Bytes are moved while a range is mapped as they are moved from before to after it.

module _ (r : Range) (b : Block) (offset : ℕ) (bytes : List ℕ) (o held changed new : Object) (none : o.mapped ≡ None) (opened : IsMappedOver r o held) (closed : IsUnmapped changed new) where
  rest_between : HasOnlyOtherBytes held changed → HasOnlyOtherBytes o new
  rest_between rest = rw closed (record {
    same_type = rest.same_type ∙ ap (λ x. x.memory_type) opened;
    same_size = rest.same_size ∙ ap (λ x. x.size) opened;
    same_mapping = sym none;
  })

  host_before : held.host_bytes ≡ o.host_bytes
  host_before = ap (λ x. x.host_bytes) opened

  device_before : held.device_bytes ≡ o.device_bytes
  device_before = ap (λ x. x.device_bytes) opened

  host_after : changed.host_bytes ≡ new.host_bytes
  host_after = sym (ap (λ x. x.host_bytes) closed)

  device_after : changed.device_bytes ≡ new.device_bytes
  device_after = sym (ap (λ x. x.device_bytes) closed)

  pub written_between : IsWrittenThrough b offset bytes held changed → IsWrittenThrough b offset bytes o new
  written_between w = record {
    rest = rest_between w.rest;
    host = rw (host_before, host_after) at w.host;
    device = rw (device_before, host_after, device_after) at w.device;
  }

  pub partly_written_between : IsPartlyWritten b offset bytes held changed → IsPartlyWritten b offset bytes o new
  partly_written_between w = record {
    rest = rest_between w.rest;
    host = rw (host_before, host_after) at w.host;
    device = rw (device_before, host_after, device_after) at w.device;
  }

  pub read_between : IsReadThrough b offset bytes held changed → IsReadThrough b offset bytes o new
  read_between w = record {
    rest = rest_between w.rest;
    device = rw (device_before, device_after) at w.device;
    host = rw (host_before, device_before, host_after) at w.host;
    told = λ k less. rw device_before at (w.told k less);
  }

  pub partly_read_between : IsPartlyRead r held changed → IsPartlyRead r o new
  partly_read_between w = record {
    rest = rest_between w.rest;
    device = rw (device_before, device_after) at w.device;
    host = rw (host_before, device_before, host_after) at w.host;
  }
