-- A new object that is mapped, or given back.
use Rattle.std.proofs.Common.{◌≡◌, inl, inr, ℕ, ◌<◌, true, [], ◌∷◌, Option, Some, None, Ok, Err, refl, ◌∙◌, ap, arith}
use Rattle.gpu_alloc_types.specs.Properties.{Properties, is_host_visible}
use Rattle.gpu_alloc_types.specs.Device.{Object, Row, HeldWith, IsHeld, IsMappable, put}
use Rattle.gpu_alloc_types.specs.Device.Event.{Allocated, Mapped}
use Rattle.gpu_alloc_types.specs.Objects.{put-same, put-put, put-undone}
use Rattle.gpu_alloc_types.specs.declared.types.DeviceMapError.{DeviceMapError}
use Rattle.gpu_alloc_types.specs.declared.types.DeviceMapError.TheVariants.{OutOfDeviceMemory as MapDeviceFull, OutOfHostMemory as MapHostFull, MapFailed}
use Rattle.gpu_alloc_types.specs.declared.types.OutOfMemory.{OutOfMemory}
use Rattle.gpu_alloc_types.specs.declared.types.OutOfMemory.TheVariants.{OutOfDeviceMemory as DeviceFull, OutOfHostMemory as HostFull}
use Rattle.gpu_alloc_base.specs.Errors.{like_memory}
use Rattle.gpu_alloc_base.specs.NewChunk.{ChunkQuestion, HasOneChunkMore, AsksChunk, unmapped, new_chunk_refusal}

module _ (q : ChunkQuestion) (f g : ℕ → Option Object) (flags name : ℕ) (p : Properties) where
  -- a new object may be mapped whole
  pub may_map : (now : Properties) → Row p f (Allocated q.size q.memory_type flags (Ok name)) g → now ≡ p → is_host_visible p q.memory_type ≡ true → 0 < q.size
      → HeldWith g name (IsMappable now 0 q.size)
  may_map now row same visible some =
      let o : Object = row.1.0 in (
        o,
        ap (λ h. h name) row.1.2 ∙ put-same f name (Some o),
        record {
          visible = rw (same, row.1.1.of_type) visible;
          unmapped = row.1.1.unmapped;
          nonempty = some;
          inside = omega (arith, row.1.1.of_size);
        },
      )

  pub mapped_after : (now : Properties) (h : ℕ → Option Object) → q.mapped ≡ true → Row p f (Allocated q.size q.memory_type flags (Ok name)) g
      → Row now g (Mapped (record { object = name; offset = 0; size = q.size }) (Ok tt)) h → HasOneChunkMore q name f h
  mapped_after now h visible row maps =
      let o : Object = row.1.0 in
      let there : g name ≡ Some o = ap (λ x. x name) row.1.2 ∙ put-same f name (Some o) in
      let same : maps.0 ≡ o = cc (there, maps.1) in
      let whole : Object → Object = λ x. record x { mapped = Some (0, q.size) } in (
        row.0,
        (
          whole o,
          record { of_type = row.1.1.of_type; of_size = row.1.1.of_size; mapped = rw visible refl },
          maps.2.2 ∙ ap (λ x. put g name (Some x)) (maps.2.1 ∙ ap whole same) ∙ ap (λ x. put x name (Some (whole o))) row.1.2 ∙ put-put f name (Some o) (Some (whole o)),
        ),
      )

  -- it is still there where its mapping was refused
  pub still_there : (h : ℕ → Option Object) → Row p f (Allocated q.size q.memory_type flags (Ok name)) g → h ≡ g → IsHeld h name
  still_there h row same = rw (ap (λ x. x name) (same ∙ row.1.2) ∙ put-same f name (Some row.1.0)) refl

  -- and when it goes all is as before
  pub release : (h k : ℕ → Option Object) → Row p f (Allocated q.size q.memory_type flags (Ok name)) g → h ≡ g → k ≡ put h name None → k ≡ f
  release h k row same gone = gone ∙ ap (λ x. put x name None) (same ∙ row.1.2) ∙ put-undone f name (Some row.1.0) row.0

-- a new chunk that goes again
pub chunk_release : (q : ChunkQuestion) (f g h : ℕ → Option Object) (name : ℕ) → HasOneChunkMore q name f g → h ≡ put g name None → h ≡ f
chunk_release q f g h name more gone = gone ∙ ap (λ x. put x name None) more.1.2 ∙ put-undone f name (Some more.1.0) more.0

pub chunk_is_there : (q : ChunkQuestion) (f g : ℕ → Option Object) (name : ℕ) → HasOneChunkMore q name f g → IsHeld g name
chunk_is_there q f g name more = rw (ap (λ x. x name) more.1.2 ∙ put-same f name (Some more.1.0)) refl

-- a refused question, as a refusal of the chunk
pub refused_question : (q : ChunkQuestion) (cause : OutOfMemory) → AsksChunk q (Allocated q.size q.memory_type q.flags (Err cause) ∷ []) (Err (like_memory cause))
refused_question q DeviceFull = inl refl
refused_question q HostFull = inl refl

-- a refused mapping, as a refusal of the chunk
pub refused_mapping : (q : ChunkQuestion) (object : ℕ) (cause : DeviceMapError) → q.mapped ≡ true → AsksChunk q (unmapped q object cause) (Err (new_chunk_refusal cause))
refused_mapping q object MapDeviceFull visible = inr (visible, (object, refl))
refused_mapping q object MapHostFull visible = inr (visible, (object, (MapHostFull, (λ e. absurd (cc)), refl)))
refused_mapping q object MapFailed visible = inr (visible, (object, (MapFailed, (λ e. absurd (cc)), refl)))

-- Chunks on the device.
