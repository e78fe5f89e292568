-- A block's object while a call moves its bytes.
use Rattle.std.proofs.Common.{◌≡◌, ◌⊎◌, inl, inr, ℕ, ◌+◌, ◌%◌, ◌<◌, ◌≤◌, Bool, true, false, cond, Option, Some, None, Result, Ok, Err, OnOk, is_some, refl, sym, ◌∙◌, ap, subst, arith}
use Rattle.gpu_alloc_types.specs.Flags.{has_bit}
use Rattle.gpu_alloc_types.specs.Properties.{Properties, props_at, atom_of, is_host_visible}
use Rattle.gpu_alloc_types.specs.Device.{Object, Range, Row, Changes, HeldWith, IsMappedOver}
use Rattle.gpu_alloc_types.specs.Device.Event.{Mapped}
use Rattle.gpu_alloc_types.specs.declared.types.DeviceMapError.{DeviceMapError}
use Rattle.gpu_alloc_base.specs.declared.error.MapError.TheVariants.{NonHostVisible, AlreadyMapped}
use Rattle.gpu_alloc_block.proofs.Changes.{some_same, changed_there}
use Rattle.gpu_alloc_block.proofs.Rounded.{rounded_inside, rounded_start, rounded_finish, rounded_some}
use Rattle.gpu_alloc_block.specs.Agreement.{IsBeneath, IsHeldFor}
use Rattle.gpu_alloc_block.specs.Bytes.{IsOpenForBytes}
use Rattle.gpu_alloc_block.specs.Mapped.{refusal}
use Rattle.gpu_alloc_block.specs.Ranges.{rounded_range, own_mapping}
use Rattle.gpu_alloc_block.specs.State.{Block, is_shared}
use Rattle.gpu_alloc_block.specs.declared.block.Mapping.{Mapping}

-- A block that does not refuse is seen by the host, and unmapped.

seen : (visible mapped : Bool) → cond visible (cond mapped (Some AlreadyMapped) None) (Some NonHostVisible) ≡ None → visible ≡ true
seen true mapped able = refl
seen false mapped able = absurd (cc)

unmapped : (visible : Bool) (m : Option Mapping) → cond visible (cond (is_some m) (Some AlreadyMapped) None) (Some NonHostVisible) ≡ None → m ≡ None
unmapped visible None able = refl
unmapped true (Some m) able = absurd (cc)
unmapped false (Some m) able = absurd (cc)

pub able_seen : (b : Block) → refusal b ≡ None → has_bit b.props 2 ≡ true
able_seen b able = seen (has_bit b.props 2) (is_some b.mapping) able

pub able_unmapped : (b : Block) → refusal b ≡ None → b.mapping ≡ None
able_unmapped b able = unmapped (has_bit b.props 2) b.mapping able

module _ (p : Properties) (b : Block) (offset len : ℕ) (some : 0 < b.atom) (within : offset + len ≤ b.size) (nonempty : 0 < len) where
  abbrev r : Range
  r = rounded_range b offset len

  module _ (props : b.props ≡ props_at p b.memory_type) (atom : b.atom ≡ atom_of p b.memory_type) (visible : has_bit b.props 2 ≡ true) (o new : Object) (beneath : IsBeneath p b o) (of_type : new.memory_type ≡ o.memory_type) (of_size : new.size ≡ o.size) where
    same_type : new.memory_type ≡ b.memory_type
    same_type = of_type ∙ beneath.of_type

    same_atom : b.atom ≡ atom_of p new.memory_type
    same_atom = atom ∙ ap (atom_of p) (sym same_type)

    finish : ((r.offset + r.size) % b.atom ≡ 0) ⊎ (r.offset + r.size ≡ new.size)
    finish = elim (rounded_finish b offset len some within) [
      | inl whole ↦ inl whole
      | inr last ↦ elim beneath.finish [
        | inl whole ↦ inl (ap (λ n. n % b.atom) last ∙ whole)
        | inr same ↦ inr (last ∙ same ∙ sym of_size)
      ]
    ]

    -- what is mapped may be flushed
    opened : (m : ℕ × ℕ) → new.mapped ≡ Some m → m.0 ≤ r.offset → r.offset + r.size ≤ m.0 + m.1 → IsOpenForBytes p b r new
    opened m is low high = record {
      visible = visible;
      props = props;
      of_type = same_type;
      ready = record {
        mapped = record { nonempty = rounded_some b offset len some within nonempty; inside = (m, is, low, high) };
        start = rw (← same_atom) (rounded_start b offset len some within);
        finish = rw (← same_atom) finish;
      };
    }

  module _ (f : ℕ → Option Object) (able : refusal b ≡ None) (agrees : IsHeldFor b p f) where
    o : Object
    o = agrees.there.0

    -- of a shared object that is all of it
    pub open_shared : is_shared b.kind ≡ true → HeldWith f b.object (IsOpenForBytes p b r)
    unfolding o
    open_shared shared =
        let beneath = agrees.there.2 in
        let visible : has_bit b.props 2 ≡ true = able_seen b able in
        let visible_there : is_host_visible p o.memory_type ≡ true =
        ap (λ t. has_bit (props_at p t) 2) beneath.of_type ∙ ap (λ bits. has_bit bits 2) (sym agrees.props) ∙ visible in (
          o,
          agrees.there.1,
          opened agrees.props agrees.atom visible o o beneath refl refl (0, o.size) (beneath.shared shared visible_there) (omega arith)
              (omega (arith, rounded_inside b offset len some within, beneath.inside)),
        )

    -- and of the block's own the range
    pub open_own : (g : ℕ → Option Object) → Changes (IsMappedOver r) f b.object g → HeldWith g b.object (IsOpenForBytes p b r)
    unfolding o
    open_own g c =
        let same : o ≡ c.0 = some_same o c.0 (sym agrees.there.1 ∙ c.1) in
        let beneath : IsBeneath p b c.0 = subst (IsBeneath p b) same agrees.there.2 in (
          c.2.0,
          changed_there f b.object (IsMappedOver r) g c,
          opened agrees.props agrees.atom (able_seen b able) c.0 c.2.0 beneath (ap (λ x. x.memory_type) c.2.1) (ap (λ x. x.size) c.2.1)
              (r.offset, r.size) (ap (λ x. x.mapped) c.2.1) (omega arith) (omega arith),
        )

-- a block's own object is unmapped where the block is
pub own_unmapped : (p : Properties) (b : Block) (o : Object) → IsBeneath p b o → b.mapping ≡ None → is_shared b.kind ≡ false → o.mapped ≡ None
own_unmapped p b o beneath none own = beneath.own own ∙ none_mapped b.mapping none
  where
    none_mapped : (m : Option Mapping) → m ≡ None → own_mapping (record b { mapping = m }) ≡ None
    none_mapped m is = rw is refl

-- what the device answers to the mapping of a block's own object
pub open_answered : (p q : Properties) (b : Block) (offset len : ℕ) → 0 < b.atom → offset + len ≤ b.size → 0 < len
    → (f g : ℕ → Option Object) → refusal b ≡ None → IsHeldFor b p f → q ≡ p → (answer : Result (Unit {0}) DeviceMapError)
    → Row p f (Mapped (rounded_range b offset len) answer) g
    → OnOk answer (HeldWith g b.object (IsOpenForBytes q b (rounded_range b offset len)))
open_answered p q b offset len some within nonempty f g able agrees same (Ok _) row =
    rw same (open_own p b offset len some within nonempty f able agrees g row)
open_answered p q b offset len some within nonempty f g able agrees same (Err e) row = tt

-- a range by its parts
pub range_is : (r : Range) (object offset size : ℕ) → object ≡ r.object → offset ≡ r.offset → size ≡ r.size
    → record { object = object; offset = offset; size = size } ≡ r
range_is r object offset size o f s = rw (o, f, s) refl
