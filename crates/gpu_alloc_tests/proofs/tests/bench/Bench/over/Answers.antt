use Rattle.std.proofs.Common.{◌≡◌, ◌<◌, List, [], ◌∷◌, length, slice_index_or, refl, sym, ap, subst, arith}
use Rattle.std.specs.List.{slice_get}
use Rattle.gpu_alloc_types.specs.Flags.{property_bits}
use Rattle.gpu_alloc_types.specs.Properties.{Properties, bits_of}
use Rattle.gpu_alloc_types.specs.declared.types.MemoryType.{MemoryType}
use Rattle.gpu_alloc.specs.State.{State}
use Rattle.gpu_alloc_tests.proofs.tests.bench.Bench.over.Goals as goal

-- the properties of the first type, where there is one
first_props : (types : List MemoryType) (d : MemoryType) → 0 < length types → property_bits (slice_index_or types 0 d).props ≡ bits_of (slice_get types 0)
first_props [] d some = absurd (omega (arith, some))
first_props (t ∷ types) d some = refl

pub invariant_of-result : goal.invariant_of-result
invariant_of-result g c =
    let same = ap (λ (s : State). s.properties) c.in-Ok.ensures.opened in
    let first : 0 < length c.args.offered.memory_types.now = omega (arith, c.requires.second) in (
      c.agrees_at_first.ensures,
      record {
        heap = subst (λ (p : Properties). 0 < length p.memory_heaps) (sym same) c.requires.heap;
        first = subst (λ (p : Properties). 0 < length p.memory_types) (sym same) first;
        second = subst (λ (p : Properties). 1 < length p.memory_types) (sym same) c.requires.second;
        props = rw (same) (first_props c.args.offered.memory_types.now _ first);
      },
    )
