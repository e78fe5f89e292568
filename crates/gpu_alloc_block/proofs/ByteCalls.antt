-- What a device's own byte calls need and keep.
use Rattle.std.proofs.Common.{◌≡◌, inl, inr, ℕ, ◌+◌, ◌-◌, ◌<◌, ◌≤◌, Bool, true, false, Option, Some, IfSome, IsSome, List, [], ◌∷◌, Result, refl, sym, ◌∙◌, ap, subst, arith}
use Rattle.std.specs.FinMap as map
use Rattle.gpu_alloc_base.proofs.Names.{one_or_two}
use Rattle.gpu_alloc_types.specs.Flags.{has_bit}
use Rattle.gpu_alloc_types.specs.Properties.{Properties, props_at, is_host_visible}
use Rattle.gpu_alloc_types.specs.Device.{Object, Event, Range, Row, Changes, InTurn, HeldWith, IsInMapped, IsPut, IsFlushed, IsInvalidated}
use Rattle.gpu_alloc_types.specs.Device.Event.{Allocated, Deallocated, Mapped, Unmapped, Flushed, Invalidated, BytesPut, BytesGot}
use Rattle.gpu_alloc_types.specs.Objects.{put-other}
use Rattle.gpu_alloc_types.specs.declared.types.OutOfMemory.{OutOfMemory}
use Rattle.gpu_alloc_block.proofs.Changes.{some_same, changed_there, changes_told}
use Rattle.gpu_alloc_block.proofs.Keeping.{if_some_told, counted_same, beneath_same}
use Rattle.gpu_alloc_block.proofs.Rounded.{rounded_covers}
use Rattle.gpu_alloc_block.specs.Agreement.{Agrees, BlockAgrees, IsHeldFor, IsHeldThere, IsOfBlock}
use Rattle.gpu_alloc_block.specs.ByteCalls.{IsByteCall}
use Rattle.gpu_alloc_block.specs.Bytes.{HasOnlyOtherBytes}
use Rattle.gpu_alloc_block.specs.Ranges.{whole_atoms, own_mapping, mapped_range}
use Rattle.gpu_alloc_block.specs.State.{Block, HeldObject, State, is_shared}
use Rattle.gpu_alloc_block.specs.declared.block.Mapping.{Mapping}

-- What may be put and got.

module _ (b : Block) (some : 0 < b.atom) (p : Properties) (objects : ℕ → Option Object) (agrees : IsHeldFor b p objects) (m : Mapping) (is : b.mapping ≡ Some m) where
  o : Object
  o = agrees.there.0

  of_block : IsOfBlock b m
  of_block = subst (λ x. IfSome x (IsOfBlock b)) is agrees.mapping

  -- the whole atoms of a mapping cover it
  covered : ((whole_atoms b m.start m.len).offset ≤ m.start) × (m.start + m.len ≤ (whole_atoms b m.start m.len).offset + (whole_atoms b m.start m.len).size)
  covered =
      let from : b.offset + (m.start - b.offset) ≡ m.start = omega (arith, of_block.from) in
      subst (λ n. ((whole_atoms b n m.len).offset ≤ n) × (n + m.len ≤ (whole_atoms b n m.len).offset + (whole_atoms b n m.len).size)) from
      (rounded_covers b (m.start - b.offset) m.len some (omega (arith, of_block.from, of_block.to)))

  seen : is_host_visible p o.memory_type ≡ true
  unfolding o
  seen =
      ap (λ t. has_bit (props_at p t) 2) agrees.there.2.of_type ∙ ap (λ bits. has_bit bits 2) (sym agrees.props)
      ∙ agrees.visible (subst IsSome (sym is) refl)

  -- what is mapped of the object holds the mapping
  module _ (place len : ℕ) (nonempty : 0 < len) (low : m.start ≤ place) (high : place + len ≤ m.start + m.len) where
    by_kind : (shared : Bool) → is_shared b.kind ≡ shared → IsInMapped place len o
    unfolding o
    by_kind true kind = record {
      nonempty = nonempty;
      inside = ((0, o.size), agrees.there.2.shared kind seen, omega arith, omega (arith, high, of_block.to, agrees.there.2.inside));
    }
    by_kind false kind = record {
      nonempty = nonempty;
      inside = (mapped_range b m, agrees.there.2.own kind ∙ ap (λ x. own_mapping (record b { mapping = x })) is, omega (arith, low, covered.0), omega (arith, high, covered.1));
    }

    pub may_be_moved : HeldWith objects b.object (IsInMapped place len)
    unfolding o
    may_be_moved = (o, agrees.there.1, by_kind (is_shared b.kind) refl)

-- What keeps agreement.

-- each object that was held is held, with other bytes at most
abbrev HaveOnlyOtherBytes : (ℕ → Option Object) → (ℕ → Option Object) → Type 0
HaveOnlyOtherBytes f g = (name : ℕ) (o : Object) → f name ≡ Some o → HeldWith g name (HasOnlyOtherBytes o)

none_other : (f g : ℕ → Option Object) → g ≡ f → HaveOnlyOtherBytes f g
none_other f g same = λ name o is. (o, ap (λ objects. objects name) same ∙ is, record { same_type = refl; same_size = refl; same_mapping = refl })

one_other : (f g : ℕ → Option Object) (object : ℕ) → Changes HasOnlyOtherBytes f object g → HaveOnlyOtherBytes f g
one_other f g object c = λ name o is. elim (one_or_two name object) [
  | inl same ↦
      let before : c.0 ≡ o = some_same c.0 o (sym c.1 ∙ ap f (sym same) ∙ is) in
      (c.2.0, ap g same ∙ changed_there f object HasOnlyOtherBytes g c, subst (λ x. HasOnlyOtherBytes x c.2.0) before c.2.1)
  | inr other ↦
      (o, ap (λ objects. objects name) c.2.2 ∙ put-other f object (Some c.2.0) name other ∙ is, record { same_type = refl; same_size = refl; same_mapping = refl })
]

both_other : (f g h : ℕ → Option Object) → HaveOnlyOtherBytes f g → HaveOnlyOtherBytes g h → HaveOnlyOtherBytes f h
both_other f g h first second = λ name o is.
    let mid = first name o is in
    let last = second name mid.0 mid.1 in (
      last.0,
      last.1,
      record {
        same_type = last.2.same_type ∙ mid.2.same_type;
        same_size = last.2.same_size ∙ mid.2.same_size;
        same_mapping = last.2.same_mapping ∙ mid.2.same_mapping;
      },
    )

in_turn_other : (P : Range → Object → Object → Type 0) → ((r : Range) (o new : Object) → P r o new → HasOnlyOtherBytes o new)
    → (rs : List Range) (f g : ℕ → Option Object) → InTurn P rs f g → HaveOnlyOtherBytes f g
in_turn_other P only [] f g same = none_other f g same
in_turn_other P only (r ∷ rs) f g turn =
    both_other f turn.0 g (one_other f turn.0 r.object (changes_told f r.object (P r) HasOnlyOtherBytes turn.0 (only r) turn.1))
    (in_turn_other P only rs turn.0 g turn.2)

flushed_other : (answer : Result (Unit {0}) OutOfMemory) (r : Range) (o new : Object) → IsFlushed answer r o new → HasOnlyOtherBytes o new
flushed_other answer r o new done = rw (done.2) (record { same_type = refl; same_size = refl; same_mapping = refl })

invalidated_other : (answer : Result (Unit {0}) OutOfMemory) (r : Range) (o new : Object) → IsInvalidated answer r o new → HasOnlyOtherBytes o new
invalidated_other answer r o new done = rw (done.2) (record { same_type = refl; same_size = refl; same_mapping = refl })

put_other : (p : Properties) (offset : ℕ) (bytes : List ℕ) (o new : Object) → IsPut p offset bytes o new → HasOnlyOtherBytes o new
put_other p offset bytes o new done = rw (done.4) (record { same_type = refl; same_size = refl; same_mapping = refl })

row_other : (p : Properties) (f g : ℕ → Option Object) (e : Event) → IsByteCall e → Row p f e g → HaveOnlyOtherBytes f g
row_other p f g (Allocated size t flags answer) moves row = absurd moves
row_other p f g (Deallocated object) moves row = absurd moves
row_other p f g (Mapped r answer) moves row = absurd moves
row_other p f g (Unmapped object) moves row = absurd moves
row_other p f g (Flushed rs answer) moves row = in_turn_other (IsFlushed answer) (flushed_other answer) rs f g row
row_other p f g (Invalidated rs answer) moves row = in_turn_other (IsInvalidated answer) (invalidated_other answer) rs f g row
row_other p f g (BytesPut object offset bytes) moves row =
    one_other f g object (changes_told f object (IsPut p offset bytes) HasOnlyOtherBytes g (put_other p offset bytes) row)
row_other p f g (BytesGot object offset bytes) moves row = none_other f g row.0

module _ (p q : Properties) (f g : ℕ → Option Object) (e : Event) (moves : IsByteCall e) (same : q ≡ p) (row : Row p f e g) where
  there_moved : (s : State) (name : ℕ) (h : HeldObject) (o new : Object) → HasOnlyOtherBytes o new → IsHeldThere s name h o → IsHeldThere s name h new
  there_moved s name h o new only is = record {
    of_type = only.same_type ∙ is.of_type;
    of_size = counted_same s name h.counted o new only.same_type only.same_size h.kind (λ _. only.same_mapping) is.of_size;
  }

  -- an allocator agrees as before
  pub allocator_moved : (s : State) → Agrees s p f → Agrees s q g
  allocator_moved s agrees = record {
    properties = same ∙ agrees.properties;
    holds = λ name.
        if_some_told (map.get s.held name) (λ h. HeldWith f name (IsHeldThere s name h)) (λ h. HeldWith g name (IsHeldThere s name h))
        (λ h is held.
        let now = row_other p f g e moves row name held.0 held.1 in
        (now.0, now.1, there_moved s name h held.0 now.0 now.2 held.2))
        (agrees.holds name);
  }

  -- and so does a block
  pub block_moved : (b : Block) → BlockAgrees b p f → BlockAgrees b q g
  unfolding BlockAgrees
  block_moved b agrees =
      let now = row_other p f g e moves row b.object agrees.there.0 agrees.there.1 in
      rw same (record {
        props = agrees.props;
        atom = agrees.atom;
        mapping = agrees.mapping;
        visible = agrees.visible;
        there = (now.0, now.1, beneath_same p b agrees.there.0 now.0 now.2.same_type now.2.same_size now.2.same_mapping agrees.there.2);
      })
