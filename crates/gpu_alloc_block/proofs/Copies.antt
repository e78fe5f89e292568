-- Putting and then flushing, invalidating and then getting, over all of a device's objects.
use Rattle.std.proofs.Common.{◌≡◌, ℕ, ◌+◌, ◌<◌, ◌≤◌, true, false, List, length, slice_get, Option, IfSome, Result, Ok, Err, OnOk, OnErr, refl, sym, ◌∙◌, ap, subst, arith}
use Rattle.gpu_alloc_types.specs.Properties.{Properties, is_coherent, are_non_coherent}
use Rattle.gpu_alloc_types.specs.Device.{Object, Range, Row, Changes, HeldWith, IsWellFormed, IsPut, IsFlushed, IsInvalidated, IsInMapped}
use Rattle.gpu_alloc_types.specs.Device.Event.{BytesPut, BytesGot}
use Rattle.gpu_alloc_types.specs.declared.types.OutOfMemory.{OutOfMemory}
use Rattle.gpu_alloc_block.proofs.Changes.{some_same, some_known, changed_there, changes_none, changes_of, changes_twice}
use Rattle.gpu_alloc_block.proofs.Moving.{as_flushed, as_invalidated, incoherent, put_flushed, put_partly, got_invalidated}
use Rattle.gpu_alloc_block.proofs.Rounded.{rounded_covers}
use Rattle.gpu_alloc_block.specs.Bytes.{HasOnlyOtherBytes, IsOpenForBytes, IsWrittenThrough, IsPartlyWritten, IsReadThrough}
use Rattle.gpu_alloc_block.specs.Ranges.{rounded_range}
use Rattle.gpu_alloc_block.specs.State.{Block}

-- an object with other bytes is as ready as before
still_open : (p : Properties) (b : Block) (r : Range) (o new : Object) → HasOnlyOtherBytes o new → IsOpenForBytes p b r o → IsOpenForBytes p b r new
still_open p b r o new only is = record {
  visible = is.visible;
  props = is.props;
  of_type = only.same_type ∙ is.of_type;
  ready = record {
    mapped = record {
      nonempty = is.ready.mapped.nonempty;
      inside = (is.ready.mapped.inside.0, only.same_mapping ∙ is.ready.mapped.inside.1, is.ready.mapped.inside.2, is.ready.mapped.inside.3);
    };
    start = rw (only.same_type) is.ready.start;
    finish = rw (only.same_type, only.same_size) is.ready.finish;
  };
}

-- Coherent memory needs no flush and no invalidate: it is as after one.
module _ (p : Properties) (b : Block) (r : Range) (f : ℕ → Option Object) (well : IfSome (f b.object) (IsWellFormed p)) (held : HeldWith f b.object (IsOpenForBytes p b r)) (coherent : are_non_coherent b.props ≡ false) where
  held_well : IsWellFormed p held.0
  held_well = some_known (f b.object) held.0 (IsWellFormed p) held.1 well

  pub flush_needless : Changes (IsFlushed {E = OutOfMemory} (Ok tt) r) f b.object f
  flush_needless = changes_none f b.object (IsFlushed {E = OutOfMemory} (Ok tt) r) held.0 held.1 (as_flushed p b r held.0 held.2 held_well coherent)

  pub invalidate_needless : Changes (IsInvalidated {E = OutOfMemory} (Ok tt) r) f b.object f
  invalidate_needless = changes_none f b.object (IsInvalidated {E = OutOfMemory} (Ok tt) r) held.0 held.1 (as_invalidated p b r held.0 held.2 held_well coherent)

module _ (p : Properties) (b : Block) (offset : ℕ) (bytes : List ℕ) (some : 0 < b.atom) (within : offset + length bytes ≤ b.size) (f : ℕ → Option Object) where
  abbrev r : Range
  r = rounded_range b offset (length bytes)

  -- of a range inside what is mapped, its bytes are
  narrower : (o : Object) → 0 < length bytes → IsInMapped r.offset r.size o → IsInMapped (b.offset + offset) (length bytes) o
  narrower o nonempty is =
      let covers = rounded_covers b offset (length bytes) some within in
      record { nonempty = nonempty; inside = (is.inside.0, is.inside.1, omega (arith, is.inside.2, covers.0), omega (arith, is.inside.3, covers.1)) }

  module _ (held : HeldWith f b.object (IsOpenForBytes p b r)) where
    module _ (g : ℕ → Option Object) (row : Row p f (BytesPut b.object (b.offset + offset) bytes) g) where
      -- what was put may be flushed
      pub flush_ready : (q : Properties) → q ≡ p → HeldWith g b.object (IsOpenForBytes q b r)
      flush_ready q same =
          let before : held.0 ≡ row.0 = some_same held.0 row.0 (sym held.1 ∙ row.1) in
          let only : HasOnlyOtherBytes row.0 row.2.0 = rw (row.2.1.4) (record { same_type = refl; same_size = refl; same_mapping = refl }) in
          let now : IsOpenForBytes p b r row.2.0 = still_open p b r row.0 row.2.0 only (subst (IsOpenForBytes p b r) before held.2) in
          (row.2.0, changed_there f b.object (IsPut p (b.offset + offset) bytes) g row, rw same now)

      pub put_written : (answer : Result (Unit {0}) OutOfMemory) (h : ℕ → Option Object) → Changes (IsFlushed answer r) g b.object h → OnOk answer (Changes (IsWrittenThrough b offset bytes) f b.object h)
      put_written (Ok _) h flushed =
          changes_twice f b.object (IsPut p (b.offset + offset) bytes) (IsFlushed {E = OutOfMemory} (Ok tt) r) (IsWrittenThrough b offset bytes) g h
          (λ o mid new put done. put_flushed p b offset bytes some within o mid new put done) row flushed
      put_written (Err e) h flushed = tt

      Incoherent : Object → Object → Type 0
      Incoherent o mid = (is_coherent p o.memory_type ≡ false) × IsPut p (b.offset + offset) bytes o mid

      pub put_refused : (answer : Result (Unit {0}) OutOfMemory) (h : ℕ → Option Object) → OnErr answer (are_non_coherent b.props ≡ true) → Changes (IsFlushed answer r) g b.object h → OnErr answer (Changes (IsPartlyWritten b offset bytes) f b.object h)
      unfolding Incoherent
      put_refused (Ok _) h apart flushed = tt
      put_refused (Err e) h apart flushed =
          let put = changes_of f b.object (IsPut p (b.offset + offset) bytes) Incoherent (λ o. is_coherent p o.memory_type ≡ false) g (λ o mid is put. (is, put)) held.0 held.1 (incoherent p b r held.0 held.2 apart) row in
          changes_twice f b.object Incoherent (IsFlushed (Err e) r) (IsPartlyWritten b offset bytes) g h
          (λ o mid new put done. put_partly p b offset bytes some within o mid new put.1 e put.0 done) put flushed

    -- what was invalidated may be got
    pub get_ready : (answer : Result (Unit {0}) OutOfMemory) (g : ℕ → Option Object) → 0 < length bytes → Changes (IsInvalidated answer r) f b.object g → HeldWith g b.object (IsInMapped (b.offset + offset) (length bytes))
    get_ready answer g nonempty c =
        let before : held.0 ≡ c.0 = some_same held.0 c.0 (sym held.1 ∙ c.1) in
        let only : HasOnlyOtherBytes c.0 c.2.0 = rw (c.2.1.2) (record { same_type = refl; same_size = refl; same_mapping = refl }) in
        let now : IsOpenForBytes p b r c.2.0 = still_open p b r c.0 c.2.0 only (subst (IsOpenForBytes p b r) before held.2) in
        (c.2.0, changed_there f b.object (IsInvalidated answer r) g c, narrower c.2.0 nonempty now.ready.mapped)

  -- and what was got is what the device has
  pub got_read : (g h : ℕ → Option Object) → Changes (IsInvalidated {E = OutOfMemory} (Ok tt) r) f b.object g → Row p g (BytesGot b.object (b.offset + offset) bytes) h → Changes (IsReadThrough b offset bytes) f b.object h
  got_read g h c row =
      let now : c.2.0 ≡ row.1.0 = some_same c.2.0 row.1.0 (sym (changed_there f b.object (IsInvalidated {E = OutOfMemory} (Ok tt) r) g c) ∙ row.1.1) in
      let told : (k : ℕ) → k < length bytes → slice_get bytes k ≡ slice_get c.2.0.host_bytes (b.offset + offset + k) = λ k less. row.1.2 k less ∙ ap (λ o. slice_get o.host_bytes (b.offset + offset + k)) (sym now) in
      (c.0, c.1, (c.2.0, got_invalidated p b offset bytes some within c.0 c.2.0 c.2.1 told, row.0 ∙ c.2.2))
