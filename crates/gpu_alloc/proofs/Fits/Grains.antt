-- The free ranges of a fit chunk start and end at grains.
use Rattle.std.proofs.Common.{◌≡◌, inl, inr, ℕ, ◌+◌, sym, ◌∙◌, ap, subst, arith}
use Rattle.std.proofs.Math.Nat.{add-mul}
use Rattle.gpu_alloc_types.specs.Properties.{heap_size}
use Rattle.gpu_alloc_types.specs.declared.types.FreeRange.{FreeRange}
use Rattle.gpu_alloc_base.specs.FreeSpace.{IsMultipleOf}
use Rattle.gpu_alloc_base.proofs.Maps.{one_value}
use Rattle.gpu_alloc_block.specs.State.{HeldObject, IsLive, Span, State}
use Rattle.gpu_alloc_block.specs.declared.block.Kind.{Kind}
use Rattle.gpu_alloc_block.specs.declared.block.Kind.TheVariants.{BuddyChunk, FitChunk}
use Rattle.gpu_alloc.specs.FitSharing.{IsFitChunk, grain_of}
use Rattle.gpu_alloc.specs.FreeBytes.{IsFreeByte}
use Rattle.gpu_alloc.specs.FreeRanges.{IsFreeRangeOf}
use Rattle.gpu_alloc.specs.Sound.{IsSound}
use Rattle.gpu_alloc.proofs.Fits.Small.{sized_is_small}
use Rattle.gpu_alloc.proofs.Shared.Free.{AreFreeBeside, first_byte, run_ends, run_starts}

multiple_sum : (n x y : ℕ) → IsMultipleOf n x → IsMultipleOf n y → IsMultipleOf n (x + y)
multiple_sum n x y (m, x_is) (k, y_is) = (m + k, omega (arith, x_is, y_is, add-mul m k n))

module _ (s : State) (sound : IsSound s) (t : ℕ) (r : FreeRange) (of : IsFitChunk s t r.object) where
  abbrev g : ℕ
  g = grain_of s t

  abbrev Has : Span → Type 0
  Has span = IsLive s span × (span.object ≡ r.object)

  -- the kind of its object is a fit chunk's
  kind_is : (kind : Kind) (at : ℕ) → IsFreeByte s t kind r.object at → kind ≡ FitChunk
  kind_is kind at free = sym free.of_kind ∙ ap (λ (h : HeldObject). h.kind) (one_value _ free.chunk of.chunk free.held of.held) ∙ of.of_kind

  beside : (kind : Kind) → kind ≡ FitChunk → AreFreeBeside (IsFreeByte s t kind) r.object of.chunk.counted Has
  beside kind is = record {
    inside = λ at free. let same = one_value _ free.chunk of.chunk free.held of.held in omega (arith, free.inside, ap (λ (h : HeldObject). h.counted) same);
    unused = λ at free span has. free.unused span has.0 has.1;
    free = λ at inside unused. record { chunk = of.chunk; held = of.held; of_type = of.of_type; of_kind = of.of_kind ∙ sym is; inside = inside; unused = λ span live named. unused span (live, named) };
  }

  -- a live span of it starts and ends at grains
  span_of_grains : (span : Span) → Has span → IsMultipleOf g span.offset × IsMultipleOf g (span.offset + span.size)
  span_of_grains span has =
      let whole = sound.fit t span (subst (IsFitChunk s t) (sym has.1) of) has.0 in
      (whole.0, multiple_sum g span.offset span.size whole.0 whole.1)

  pub range_of_grains : IsFreeRangeOf s t r → IsMultipleOf g r.start × IsMultipleOf g r.end
  range_of_grains (inl piece) = absurd (let never = kind_is BuddyChunk r.start (first_byte _ r.object r.start piece.length piece.piece.place) in cc)
  range_of_grains (inr free) =
      let run = free.run in
      let bytes = beside free.kind (kind_is free.kind r.start (run.free r.start (omega arith) run.nonempty)) in (
        run_starts bytes g r.start r.end run (λ span has. (span_of_grains span has).1),
        run_ends bytes g r.start r.end run (λ span has. (span_of_grains span has).0) (sized_is_small s.config (heap_size s.properties t) g (omega arith) of.chunk.counted (sound.fit_sizes t r.object of)).whole,
      )
