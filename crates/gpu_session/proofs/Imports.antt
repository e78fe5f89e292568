-- What an import asks, and when allocator and device agree afterwards.
use Rattle.std.proofs.Common.{◌≡◌, ◌⊎◌, inl, inr, ℕ, ◌+◌, ◌%◌, ◌<◌, ◌≤◌, ◌==◌, ◌&&◌, ◌||◌, arith, Bool, true, false, not, nat_le, nat_lt, length, Option, Some, None, Ok, is_some, refl, ◌∙◌, ap}
use Rattle.std.proofs.lemmas.Bool.Decides.{nat_tests}
use Rattle.gpu_alloc_types.specs.Device.{Event, IsHeld, Object, Row, put}
use Rattle.gpu_alloc_types.specs.Device.Event.{Allocated, Deallocated}
use Rattle.gpu_alloc_types.specs.Objects.{put-undone}
use Rattle.gpu_alloc_types.specs.Properties.{Properties, is_non_coherent}
use Rattle.gpu_alloc.specs.Agreement.{Agrees, BlockAgrees}
use Rattle.gpu_alloc.specs.Importing.{ImportAgrees, MayBeImported}
use Rattle.gpu_alloc.specs.State.{Block, State}
use Rattle.gpu_session.specs.Faults.{fault_of_import, is_bad_end}
use Rattle.gpu_session.specs.declared.command.Fault.TheVariants.{BadImportEnd, BadRange, BadSize, BadType, NoRemaining}
use Rattle.gpu_session.proofs.Conditions.{passed}

-- What an import has that misses no condition.
pub record IsFaultless (s : State) (t object_size offset size : ℕ) : Type 0 where
  pub known : t < length (s.properties).memory_types
  pub object : 0 < object_size
  pub some : 0 < size
  pub within : offset + size ≤ object_size
  pub finish : is_bad_end s.properties t object_size (offset + size) ≡ false
  pub remains : 0 < s.remaining

neither : (a b : Bool) → (a || b) ≡ false → (a ≡ false) × (b ≡ false)
neither false false e = (refl, refl)
neither false true e = absurd (cc)
neither true b e = absurd (cc)

below : (n limit : ℕ) → nat_le limit n ≡ false → n < limit
below n limit e = grind (arith, nat_tests)

at_most : (n limit : ℕ) → nat_lt limit n ≡ false → n ≤ limit
at_most n limit e = grind (arith, nat_tests)

not_zero : (n : ℕ) → (n == 0) ≡ false → 0 < n
not_zero n e = grind (arith, nat_tests)

pub faultless : (s : State) (t object_size offset size : ℕ) → fault_of_import s t object_size offset size ≡ None → IsFaultless s t object_size offset size
faultless s t object_size offset size none =
    let known = passed (nat_le (length (s.properties).memory_types) t) BadType _ none in
    let sizes = passed (object_size == 0 || size == 0) BadSize _ known.1 in
    let range = passed (nat_lt object_size (offset + size)) BadRange _ sizes.1 in
    let end = passed (is_bad_end s.properties t object_size (offset + size)) BadImportEnd _ range.1 in
    let remains = passed (s.remaining == 0) NoRemaining None end.1 in
    let two = neither (object_size == 0) (size == 0) sizes.0 in
    record {
      known = below t (length (s.properties).memory_types) known.0;
      object = not_zero object_size two.0;
      some = not_zero size two.1;
      within = at_most (offset + size) object_size range.0;
      finish = end.0;
      remains = not_zero s.remaining remains.0;
    }

-- A span inside a whole object that may be imported.

good_end : (non : Bool) (end atom object_size : ℕ) → (non && not (end % atom == 0) && not (end == object_size)) ≡ false → non ≡ true → (end % atom ≡ 0) ⊎ (end ≡ object_size)
good_end true end atom object_size good is = by (end % atom == 0) (end == object_size) refl refl good
  where
    by : (a b : Bool) → (end % atom == 0) ≡ a → (end == object_size) ≡ b → (not a && not b) ≡ false → (end % atom ≡ 0) ⊎ (end ≡ object_size)
    by true b e f g = inl (grind (arith, nat_tests))
    by false true e f g = inr (grind (arith, nat_tests))
    by false false e f g = absurd (cc)
good_end false end atom object_size good is = absurd (cc)

pub part_may_be_imported : (p : Properties) (objects : ℕ → Option Object) (name t object_size offset size : ℕ) → MayBeImported p objects name t 0 object_size → offset + size ≤ object_size
    → is_bad_end p t object_size (offset + size) ≡ false → MayBeImported p objects name t offset size
unfolding MayBeImported
part_may_be_imported p objects name t object_size offset size whole within good = (
  whole.0,
  whole.1,
  record {
    of_type = whole.2.of_type;
    unmapped = whole.2.unmapped;
    within = omega (arith, whole.2.within, within);
    finish = λ non. elim (good_end (is_non_coherent p t) (offset + size) p.non_coherent_atom_size object_size good non) [
      | inl on_atom ↦ inl on_atom
      | inr at_end ↦ elim (whole.2.finish non) [
        | inl on_atom ↦ inl (ap (λ n. n % p.non_coherent_atom_size) (at_end ∙ no_start) ∙ on_atom)
        | inr last ↦ inr (at_end ∙ no_start ∙ last)
      ]
    ];
  },
)
  where
    no_start : object_size ≡ 0 + object_size
    no_start = omega arith

pub importable_is_held : (p : Properties) (objects : ℕ → Option Object) (name t offset size : ℕ) → MayBeImported p objects name t offset size → IsHeld objects name
unfolding MayBeImported
importable_is_held p objects name t offset size may = ap is_some may.1

pub import_agrees : (s new : State) (b : Block) (name t offset size : ℕ) (p : Properties) (objects : ℕ → Option Object) → ImportAgrees s name t offset size new b → Agrees s p objects → MayBeImported p objects name t offset size
    → Agrees new p objects × BlockAgrees b p objects
unfolding ImportAgrees
import_agrees s new b name t offset size p objects agree agrees may = agree p objects agrees may

-- an object that was made and given back leaves the device's objects as they were
pub undone : {D : Type 0} (properties : D → Properties) (objects : D → ℕ → Option Object) (step : D → Event → D → Type 0) → ((old : D) (e : Event) (new : D) → step old e new → Row (properties old) (objects old) e (objects new))
    → (a b c : D) (size t flags name : ℕ) → step a (Allocated size t flags (Ok name)) b → step b (Deallocated name) c → objects c ≡ objects a
undone properties objects step row a b c size t flags name first second =
    let made = row a (Allocated size t flags (Ok name)) b first in
    row b (Deallocated name) c second ∙ ap (λ (f : ℕ → Option Object). put f name None) made.1.2 ∙ put-undone (objects a) name (Some made.1.0) made.0
