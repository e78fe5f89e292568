-- A byte call: what is asked and changed from before the mapping to after it.
use Rattle.std.proofs.Common.{◌≡◌, ℕ, ◌<◌, ◌==◌, Bool, true, false, cond, List, [], ◌∷◌, ◌++◌, append-nil, Option, Some, None, IsSome, Result, Ok, Err, OnOk, OnErr, refl, sym, ◌∙◌, ap, subst, arith}
use Rattle.std.proofs.lemmas.Bool.Decides.{nat_tests}
use Rattle.gpu_alloc_types.specs.Chains.{chain_append}
use Rattle.gpu_alloc_types.specs.Properties.{Properties}
use Rattle.gpu_alloc_types.specs.Device.{Object, Event, Range, Asked, Changes, HeldWith, IsMapped}
use Rattle.gpu_alloc_types.specs.Device.Event.{Mapped, Unmapped}
use Rattle.gpu_alloc_block.proofs.Changes.{some_same, changed_there, changes_none, changes_told, HoldsWhileMapped, changes_between}
use Rattle.gpu_alloc_block.proofs.Keeping.{HasSameShape, IsRemapped, same_shape, keeps, agrees_moved}
use Rattle.gpu_alloc_block.proofs.Moving.{not_read, not_written}
use Rattle.gpu_alloc_block.proofs.Opened.{able_unmapped, own_unmapped}
use Rattle.gpu_alloc_block.specs.Agreement.{BlockAgrees, IsHeldFor, KeepsAgreement}
use Rattle.gpu_alloc_block.specs.Bytes.{HasOnlyOtherBytes, IsOpenForBytes, ChangesBytes, ReadsWithin, WritesWithin, around, where_some}
use Rattle.gpu_alloc_block.specs.Mapped.{refusal, of_own, mapping_of, IsOpened, IsClosed}
use Rattle.gpu_alloc_block.specs.Ranges.{own_mapping, rounded_range}
use Rattle.gpu_alloc_block.specs.State.{Block, is_shared}
use Rattle.gpu_alloc_block.specs.declared.block.Mapping.{Mapping}

-- What is asked.

around_own : (shared : Bool) (e : Event) (es : List Event) (f : Event) → cond shared [] (e ∷ []) ++ (es ++ cond shared [] (f ∷ [])) ≡ cond shared es (e ∷ es ++ f ∷ [])
around_own true e es f = append-nil es
around_own false e es f = refl

module _ {D : Type 0} (step : D → Event → D → Type 0) (a b c d : D) where
  -- between the mapping of the block's own object and its end
  pub asked_around : (blk : Block) (r : Range) (P : List Event → Type 0) (es : List Event) → P (around blk r es)
      → Asked step a b (λ first. first ≡ of_own blk (Mapped r (Ok tt) ∷ [])) → Asked step b c (λ middle. middle ≡ es)
      → Asked step c d (λ last. last ≡ of_own blk (Unmapped blk.object ∷ [])) → Asked step a d P
  asked_around blk r P es holds first middle last =
      let all : List Event = first.0 ++ (middle.0 ++ last.0) in
      let parts : all ≡ around blk r es =
      ap (λ x. x ++ (middle.0 ++ last.0)) first.2 ∙ ap (λ x. of_own blk (Mapped r (Ok tt) ∷ []) ++ (x ++ last.0)) middle.2
      ∙ ap (λ x. of_own blk (Mapped r (Ok tt) ∷ []) ++ (es ++ x)) last.2
      ∙ around_own (is_shared blk.kind) (Mapped r (Ok tt)) es (Unmapped blk.object) in (
        all,
        chain_append step first.0 (middle.0 ++ last.0) a b d first.1 (chain_append step middle.0 last.0 b c d middle.1 last.1),
        subst P (sym parts) holds,
      )

-- where there are bytes to move
pub some_asked : (len : ℕ) (es : List Event) → 0 < len → es ≡ where_some len es
some_asked len es some = grind (arith, nat_tests)

-- there are bytes where there are not none
pub some_bytes : (len : ℕ) (empty : Bool) → empty ≡ (len == 0) → empty ≡ false → 0 < len
some_bytes len empty is not_empty = grind (arith, nat_tests)

pub not_none : (len : ℕ) → (len ≡ 0 → ⊥) → 0 < len
not_none len some = grind (arith)

-- What is changed.

-- a change of bytes, whatever the answer
pub either_way : {T E : Type 0} (P Q R : Object → Object → Type 0) (f g : ℕ → Option Object) (name : ℕ) (answer : Result T E)
    → ((o new : Object) → P o new → R o new) → ((o new : Object) → Q o new → R o new)
    → OnOk answer (Changes P f name g) → OnErr answer (Changes Q f name g) → Changes R f name g
either_way P Q R f g name (Ok x) first second done failed = changes_told f name P R g first done
either_way P Q R f g name (Err e) first second done failed = changes_told f name Q R g second failed

-- an object that was mapped is mapped with other bytes
pub still_mapped : (p : Properties) (b : Block) (r : Range) (f g : ℕ → Option Object) → HeldWith f b.object (IsOpenForBytes p b r) → Changes HasOnlyOtherBytes f b.object g → HeldWith g b.object IsMapped
still_mapped p b r f g held c =
    let before : held.0 ≡ c.0 = some_same held.0 c.0 (sym held.1 ∙ c.1) in
    let mapped : c.2.0.mapped ≡ Some held.2.ready.mapped.inside.0 = c.2.1.same_mapping ∙ ap (λ o. o.mapped) (sym before) ∙ held.2.ready.mapped.inside.1 in
    (c.2.0, changed_there f b.object HasOnlyOtherBytes g c, subst IsSome (sym mapped) refl)

module _ (p : Properties) (b : Block) (offset len : ℕ) (f : ℕ → Option Object) (agrees : BlockAgrees b p f) where
  -- what changes while the range is mapped changes from before the mapping to after it
  pub through : refusal b ≡ None → (g h end : ℕ → Option Object) (P : Object → Object → Type 0) → HoldsWhileMapped P (rounded_range b offset len) → IsOpened (is_shared b.kind) (rounded_range b offset len) f g → IsClosed (is_shared b.kind) b.object h end → Changes P g b.object h → Changes P f b.object end
  unfolding BlockAgrees
  through able g h end P holds opened closed c =
      changes_between P (rounded_range b offset len) holds (is_shared b.kind) f g h end agrees.there.0 agrees.there.1 (λ own. own_unmapped p b agrees.there.0 agrees.there.2 (able_unmapped b able) own) opened c closed

  -- nothing is read
  pub reads_none : Changes (ReadsWithin b offset len) f b.object f
  unfolding BlockAgrees
  reads_none = changes_none f b.object (ReadsWithin b offset len) agrees.there.0 agrees.there.1 (not_read b offset len agrees.there.0)

  -- nothing is written
  pub writes_none : Changes (WritesWithin b offset len) f b.object f
  unfolding BlockAgrees
  writes_none = changes_none f b.object (WritesWithin b offset len) agrees.there.0 agrees.there.1 (not_written b offset len agrees.there.0)

-- the bytes of a block's object are changed so where there are some
pub changes_some : (b : Block) (len : ℕ) (P : Object → Object → Type 0) (f g : ℕ → Option Object) → 0 < len → Changes P f b.object g → ChangesBytes b len P f g
changes_some b len P f g some c = record { some = λ _. c; none = λ none. absurd (omega (arith, some, none)) }

pub agrees_with_other_bytes : (b : Block) (p q : Properties) (f g : ℕ → Option Object) (P : Object → Object → Type 0) → ((o new : Object) → P o new → HasOnlyOtherBytes o new) → q ≡ p → Changes P f b.object g → IsHeldFor b p f → IsHeldFor b q g
agrees_with_other_bytes b p q f g P only same c agrees = agrees_moved b p q f g same (changes_told f b.object P HasOnlyOtherBytes g only c) agrees

pub keeps_with_other_bytes : (b : Block) (p q : Properties) (f g : ℕ → Option Object) (P : Object → Object → Type 0) → ((o new : Object) → P o new → HasOnlyOtherBytes o new) → q ≡ p → Changes P f b.object g → KeepsAgreement b p f q g
keeps_with_other_bytes b p q f g P only same c = keeps b p f g (changes_told f b.object P (HasSameShape b) g (λ o new x. same_shape b o new (only o new x)) c) q same

-- Another mapping: where the object is shared nothing has changed, and where it is the block's own its mapping has.
module _ (p : Properties) (b : Block) (f g : ℕ → Option Object) (agrees : IsHeldFor b p f) where
  remapped_shared : (m : Option Mapping) → is_shared b.kind ≡ true → g ≡ f → Changes (IsRemapped b m) f b.object g
  remapped_shared m is same =
      subst (λ objects. Changes (IsRemapped b m) f b.object objects) (sym same)
      (changes_none f b.object (IsRemapped b m) agrees.there.0 agrees.there.1
      (record { shape = record { same_type = refl; same_size = refl; same_mapping = λ _. refl }; own = λ own. absurd (let no : true ≡ false = sym is ∙ own in cc) }))

  remapped_own : (m : Option Mapping) → is_shared b.kind ≡ false → Changes (λ o new. new ≡ record o { mapped = own_mapping (record b { mapping = m }) }) f b.object g → Changes (IsRemapped b m) f b.object g
  remapped_own m is c =
      changes_told f b.object (λ o new. new ≡ record o { mapped = own_mapping (record b { mapping = m }) }) (IsRemapped b m) g
      (λ o new over. record {
        shape = record {
          same_type = ap (λ x. x.memory_type) over;
          same_size = ap (λ x. x.size) over;
          same_mapping = λ shared. absurd (let no : true ≡ false = sym shared ∙ is in cc);
        };
        own = λ own. ap (λ x. x.mapped) over;
      }) c

  opened_so : (offset len : ℕ) (shared : Bool) → is_shared b.kind ≡ shared → IsOpened shared (rounded_range b offset len) f g → Changes (IsRemapped b (Some (mapping_of b offset len))) f b.object g
  opened_so offset len true is same = remapped_shared (Some (mapping_of b offset len)) is same
  opened_so offset len false is c = remapped_own (Some (mapping_of b offset len)) is c

  pub mapped_so : (offset len : ℕ) → IsOpened (is_shared b.kind) (rounded_range b offset len) f g → Changes (IsRemapped b (Some (mapping_of b offset len))) f b.object g
  mapped_so offset len = opened_so offset len (is_shared b.kind) refl

  closed_so : (shared : Bool) → is_shared b.kind ≡ shared → IsClosed shared b.object f g → Changes (IsRemapped b None) f b.object g
  closed_so true is same = remapped_shared None is same
  closed_so false is c = remapped_own None is c

  pub unmapped_so : IsClosed (is_shared b.kind) b.object f g → Changes (IsRemapped b None) f b.object g
  unmapped_so = closed_so (is_shared b.kind) refl

pub keeps_remapped : (b : Block) (p q : Properties) (f g : ℕ → Option Object) (m : Option Mapping) → q ≡ p → Changes (IsRemapped b m) f b.object g → KeepsAgreement b p f q g
keeps_remapped b p q f g m same c = keeps b p f g (changes_told f b.object (IsRemapped b m) (HasSameShape b) g (λ o new re. re.shape) c) q same
