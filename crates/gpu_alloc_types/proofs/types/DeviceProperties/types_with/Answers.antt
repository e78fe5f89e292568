use Rattle.std.proofs.Common.{◌≡◌, ◌+◌, ◌<◌, ◌↔◌, ℕ, IsTrue, sym, subst, ap, ◌∙◌, arith, length, true, false, bit_or}
use Rattle.std.specs.Int.{bit_at}
use Rattle.gpu_alloc_types.proofs.TypeMasks.{added, passed, props_of_known, shifted_one}
use Rattle.gpu_alloc_types.specs.Flags.{property_bits, has_all_bits}
use Rattle.gpu_alloc_types.specs.Properties.{props_at, properties_of}
use Rattle.gpu_alloc_types.proofs.types.DeviceProperties.types_with.Goals as goal
use Rattle.gpu_alloc_types.proofs.types.DeviceProperties.types_with.Goals.{then-contains, else-contains}

pub loop-index-preserved : goal.loop-index-preserved
loop-index-preserved c =
    let p = properties_of c.args.self.now in
    let index = c.loop-index.index in
    let flags = property_bits c.args.flags in
    let P : ℕ → Type 0 = λ t. IsTrue (has_all_bits (props_at p t) flags) in
    let known : index < length p.memory_types = omega arith in
    let told = c.contains.ensures ∙ ap (λ bits. has_all_bits bits flags) (sym (props_of_known p index _ known)) in
    elim c.if-contains.branch [
      | then-contains w ↦
          let is = w.mask-is ∙ ap (bit_or c.loop-index.mask) (shifted_one index (omega arith)) in
          subst (λ mask. (t : ℕ) → (bit_at mask t ≡ 1) ↔ (t < index + 1) × P t) (sym is)
          (added P c.loop-index.mask index c.loop-index.invariant (sym told ∙ w.if-contains.true))
      | else-contains w ↦
          subst (λ mask. (t : ℕ) → (bit_at mask t ≡ 1) ↔ (t < index + 1) × P t) (sym w.mask-is)
          (passed P c.loop-index.mask index c.loop-index.invariant (λ yes. let n : true ≡ false = sym (told ∙ yes) ∙ w.if-contains.false in cc))
    ]
