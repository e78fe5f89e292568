-- What all parts hold, as one of them changes: the objects of one block, or one of a memory type's stores.
use Rattle.std.proofs.Common.{◌≡◌, ◌⊎◌, inl, inr, false, true, ℕ, zero, suc, ◌<◌, List, [], ◌∷◌, ◌++◌, length, get_or, slice_get, Some, None, IsTrue, refl, sym, ◌∙◌, ap, subst, arith}
use Rattle.std.proofs.Math.ListN.{set}
use Rattle.std.specs.Cmp.{IsTotalOrder, nat_cmp_total}
use Rattle.std.specs.FinMap as finite
use Rattle.std.specs.FinMap.{IsAntisymmetric, nat_cmp-IsAntisymmetric}
use Rattle.std.specs.FinSet as set_of
use Rattle.std.specs.Ordering.{nat_cmp}
use Rattle.gpu_alloc_base.specs.Chunks.{Chunk}
use Rattle.gpu_alloc_base.specs.declared.buddy_block.Leaf.{Leaf}
use Rattle.gpu_alloc_base.specs.declared.free_list_block.Slot.{Slot}
use Rattle.gpu_alloc_base.proofs.ListViews.{named_absent}
use Rattle.gpu_alloc_block.specs.Parts.{HaveOwnObjects, Held, Live, Part, Chunks, HasLive, IsAt, Makes}
use Rattle.gpu_alloc_block.specs.State.{HeldObject, Span, is_shared, span_cmp}
use Rattle.gpu_alloc_block.specs.declared.block.Kind.{Kind}
use Rattle.gpu_alloc_block.proofs.LiveSpans.{not_live, span_exact, span_total}
use Rattle.gpu_alloc_block.proofs.Parts.ByName.{span_row_there}
use Rattle.gpu_alloc_block.proofs.Parts.Entries.{there_entry}
use Rattle.gpu_alloc_block.proofs.Parts.Steps.{holds_of, own_part, part_span, object_comes, last_goes}
use Rattle.gpu_alloc_block.proofs.Parts.Unions.{none_at, none_of, live_at}
use Rattle.gpu_alloc_buddy.specs.BuddyRule.{buddy_rule}
use Rattle.gpu_alloc_buddy.specs.BuddySound.{IsSoundBuddy}
use Rattle.gpu_alloc_buddy.specs.BuddyState.{Buddy, IsLiveBuddyLeaf, space_of}
use Rattle.gpu_alloc_pairs.proofs.LiveSpans.{one_leaf}
use Rattle.gpu_alloc_freelist.specs.FreeListRule.{list_rule}
use Rattle.gpu_alloc_freelist.specs.FreeListSound.{IsSoundFreeList}
use Rattle.gpu_alloc_freelist.specs.FreeListState.{FreeListState, IsLiveSlot}
use Rattle.gpu_alloc_fit.specs.FitRule.{fit_rule}
use Rattle.gpu_alloc_fit.specs.FitSound.{IsSoundFit}
use Rattle.gpu_alloc_runs.specs.Space.{IsLiveSlot as IsLiveFit}
use Rattle.gpu_alloc_shared.specs.Rule.{Rule}
use Rattle.gpu_alloc.specs.Own.{OwnTable, own_held, own_span, IsRowOf}
use Rattle.gpu_alloc.specs.declared.own.OwnRow.{OwnRow}
use Rattle.gpu_alloc.specs.Stores.{block_span, chosen_part, chunk_row, list_part, part, parts_in}
use Rattle.gpu_alloc.specs.Whole.{own_part as part_of_own, parts_of, whole, AreOneWhole, IsPartFor, part_at}
use Rattle.gpu_alloc_fit.specs.Fit.{FitState}
use Rattle.gpu_alloc.specs.declared.allocator.stores.TypeStores.{TypeStores}

-- an object has one place
pub single : (i j : ℕ) (h : HeldObject) → IsPartFor i h → IsPartFor j h → i ≡ j
single zero zero h a b = refl
single zero (suc j) h a b = let both : true ≡ false = sym b.0 ∙ a in absurd (cc)
single (suc i) zero h a b = let both : true ≡ false = sym a.0 ∙ b in absurd (cc)
single (suc i) (suc j) h a b = ap suc (sym a.1 ∙ b.1)

-- Where parts stand.

pub at_read : {A : Type 0} (xs : List A) (i : ℕ) (x : A) → i < length xs → x ≡ get_or xs i x → IsAt xs i x
at_read [] i x inside at = absurd (omega (arith, inside))
at_read (y ∷ ys) zero x inside at = sym at
at_read (y ∷ ys) (suc i) x inside at = at_read ys i x (omega (arith, inside)) at

-- what is there is what is read
pub read_is : {X : Type 0} (xs : List X) (i : ℕ) (x : X) → slice_get xs i ≡ Some x → x ≡ get_or xs i x
read_is [] i x is = absurd (cc)
read_is (y ∷ xs) zero x is = let same : y ≡ x = cc is in sym same
read_is (y ∷ xs) (suc i) x is = read_is xs i x is

pub stands_at : {A : Type 0} (xs : List A) (i : ℕ) (x : A) → slice_get xs i ≡ Some x → IsAt xs i x
stands_at [] i x at = absurd (cc)
stands_at (y ∷ ys) zero x at = (let same : y ≡ x = cc in same)
stands_at (y ∷ ys) (suc i) x at = stands_at ys i x at

pub within : {A : Type 0} (xs : List A) (i : ℕ) (x : A) → slice_get xs i ≡ Some x → i < length xs
within [] i x at = absurd (cc)
within (y ∷ ys) zero x at = omega arith
within (y ∷ ys) (suc i) x at = let later = within ys i x at in omega (arith, later)

pub there_at : {X : Type 0} (xs : List X) (i : ℕ) (x : X) → IsAt xs i x → slice_get xs i ≡ Some x
there_at [] i x here = absurd here
there_at (y ∷ ys) zero x here = ap Some here
there_at (y ∷ ys) (suc i) x here = there_at ys i x here

-- Parts of one memory type.

abbrev pub two : {M X : Type 0} → TypeStores M X → List Part
two e = chosen_part e.chosen ∷ list_part e.free_list ∷ []

-- they stand among those of all
pub type_part_at : {M X : Type 0} (ss : List (TypeStores M X)) (i : ℕ) (e : TypeStores M X) (side : ℕ) (p : Part) → IsAt ss i e → IsAt (two e) side p → IsAt (parts_in ss) (part_at i side) p
type_part_at [] i e side p at of = absurd at
type_part_at (f ∷ ss) zero e zero p at of = ap (λ (x : TypeStores _ _). chosen_part x.chosen) at ∙ of
type_part_at (f ∷ ss) zero e (suc zero) p at of = ap (λ (x : TypeStores _ _). list_part x.free_list) at ∙ of
type_part_at (f ∷ ss) zero e (suc (suc side)) p at of = absurd of
type_part_at (f ∷ ss) (suc i) e side p at of = type_part_at ss i e side p at of

-- another one in its place is that of other stores
pub type_part_set : {M X : Type 0} (ss : List (TypeStores M X)) (i : ℕ) (e new : TypeStores M X) (side : ℕ) (q : Part) → side < 2 → IsAt ss i e → set (two e) side q ≡ two new → set (parts_in ss) (part_at i side) q ≡ parts_in (set ss i new)
type_part_set [] i e new side q small at is = absurd at
type_part_set (f ∷ ss) zero e new zero q small at is = ap (λ (x : TypeStores _ _). set (two x) 0 q ++ parts_in ss) at ∙ ap (λ ps. ps ++ parts_in ss) is
type_part_set (f ∷ ss) zero e new (suc zero) q small at is = ap (λ (x : TypeStores _ _). set (two x) 1 q ++ parts_in ss) at ∙ ap (λ ps. ps ++ parts_in ss) is
type_part_set (f ∷ ss) zero e new (suc (suc side)) q small at is = absurd (omega (arith, small))
type_part_set (f ∷ ss) (suc i) e new side q small at is = ap (λ ps. chosen_part f.chosen ∷ list_part f.free_list ∷ ps) (type_part_set ss i e new side q small at is)

-- whose it is
type_part_of : {M X : Type 0} (ss : List (TypeStores M X)) (spot : ℕ) (p : Part) → IsAt (parts_in ss) spot p → (i : ℕ) × (e : TypeStores M X) × IsAt ss i e × ((chosen_part e.chosen ≡ p) ⊎ (list_part e.free_list ≡ p))
type_part_of [] spot p at = absurd at
type_part_of (e ∷ ss) zero p at = (zero, e, refl, inl at)
type_part_of (e ∷ ss) (suc zero) p at = (zero, e, refl, inr at)
type_part_of (e ∷ ss) (suc (suc spot)) p at = let later = type_part_of ss spot p at in (suc later.0, later.1, later.2, later.3)

-- Objects of one block.

module _ {M X : Type 0} (own : OwnTable) (ss : List (TypeStores M X)) (apart : AreOneWhole own ss) where
  abbrev ps : List Part
  ps = parts_of own ss

  pub held_whole : (object : ℕ) (h : HeldObject) → finite.get own.held object ≡ Some h → finite.get (whole own ss).held object ≡ Some h
  held_whole object h has = holds_of IsPartFor ps apart zero (part_of_own own) object h refl has

  pub held_here : (object : ℕ) (h : HeldObject) → finite.get (whole own ss).held object ≡ Some h → is_shared h.kind ≡ false → finite.get own.held object ≡ Some h
  held_here object h is kind = own_part IsPartFor ps apart (single) zero (part_of_own own) object h is kind refl

  pub unheld_here : (object : ℕ) → finite.get (whole own ss).held object ≡ None → finite.get own.held object ≡ None
  unheld_here object none = none_at ps object none zero (part_of_own own) refl

  pub live_here : (span : Span) (h : HeldObject) → IsTrue (set_of.contains (whole own ss).live span) → finite.get own.held span.object ≡ Some h → IsTrue (set_of.contains own.live span)
  live_here span h live has = part_span IsPartFor ps apart zero (part_of_own own) span h live has refl

  module _ (now : OwnTable) where
    pub own_comes : (span : Span) (h : HeldObject) → finite.get (whole own ss).held span.object ≡ None → is_shared h.kind ≡ false
        → now.held ≡ finite.insert own.held span.object h → now.live ≡ set_of.insert own.live span
        → Makes IsPartFor (parts_of now ss) (finite.insert (whole own ss).held span.object h) (set_of.insert (whole own ss).live span)
    own_comes span h none kind held live = object_comes IsPartFor ps apart zero (part_of_own own) (part_of_own now) refl span h none kind held live

    pub own_goes : (row : OwnRow) (object : ℕ) → IsRowOf own.held own.live object row → now.held ≡ finite.remove own.held object → now.live ≡ set_of.remove own.live (own_span row)
        → Makes IsPartFor (parts_of now ss) (finite.remove (whole own ss).held object) (set_of.remove (whole own ss).live (own_span row))
    own_goes row object of held live =
        subst (λ n. Makes IsPartFor (parts_of now ss) (finite.remove (whole own ss).held n) (set_of.remove (whole own ss).live (own_span row))) of.named
        (last_goes IsPartFor ps apart zero (part_of_own own) (part_of_own now) refl (own_span row) (own_held row) (ap (finite.get own.held) of.named ∙ of.is_held) (λ other stood same. of.alone other stood (same ∙ of.named))
        (held ∙ ap (finite.remove own.held) (sym of.named)) live)

-- Room is made for one more, and nothing else changes.

module _ {M X : Type 0} (own now : OwnTable) (ss : List (TypeStores M X)) (apart : AreOneWhole own ss) (kept : now ≡ record own { room = now.room }) (object : ℕ) (none : finite.get (whole own ss).held object ≡ None) where
  pub unheld_then : finite.get now.held object ≡ None
  unheld_then = ap (λ (x : OwnTable). finite.get x.held object) kept ∙ unheld_here own ss apart object none

-- A memory type's buddy allocator.

-- no two live blocks have one span
pub one_buddy : (b : Buddy) → IsSoundBuddy b → (x y : Leaf) → IsLiveBuddyLeaf b x → IsLiveBuddyLeaf b y → block_span buddy_rule x ≡ block_span buddy_rule y → x ≡ y
one_buddy b sound x y live also same = one_leaf (space_of b) sound.space x y live also (ap (λ (s : Span). s.object) same) (ap (λ (s : Span). s.offset) same)

-- A memory type's free list, and its allocator of fit chunks.

-- slots of chunks with objects of their own are one where their spans are
same_slot : (chunks : Chunks) → HaveOwnObjects chunks → {a b : Slot} {c d : Chunk} → finite.get chunks a.chunk ≡ Some c → a.object ≡ c.object → finite.get chunks b.chunk ≡ Some d → b.object ≡ d.object → block_span list_rule a ≡ block_span list_rule b → a ≡ b
same_slot chunks one {a} {b} {c} {d} held_a of_a held_b of_b same =
    let key = one a.chunk b.chunk c d held_a held_b (sym of_a ∙ ap (λ (s : Span). s.object) same ∙ of_b) in
    λ k. record { object = (same k).object; chunk = key k; offset = (same k).offset; size = (same k).size }

-- so no two live slots have one span
pub one_slot : (l : FreeListState) → IsSoundFreeList l → (a b : Slot) → IsLiveSlot l.space a → IsLiveSlot l.space b → block_span list_rule a ≡ block_span list_rule b → a ≡ b
one_slot l sound a b live also = let lies = sound.space.inside in same_slot _ sound.one_object (lies a live).held (lies a live).object (lies b also).held (lies b also).object

pub one_fit : (f : FitState) → IsSoundFit f → (a b : Slot) → IsLiveFit f.space a → IsLiveFit f.space b → block_span fit_rule a ≡ block_span fit_rule b → a ≡ b
one_fit f sound a b live also = let lies = sound.space.inside in same_slot _ sound.space.one_object (lies a live).held (lies a live).object (lies b also).held (lies b also).object

-- Where nothing is held.

pub record HoldsNone (p : Part) : Type 0 where
  pub held : (object : ℕ) → finite.get p.held object ≡ None
  pub live : (span : Span) → HasLive p span → ⊥

-- a store with no chunk and no block
pub no_part : {T A B : Type 0} (r : Rule T A B) → IsTotalOrder r.order → IsAntisymmetric r.order → (kind : ℕ → Kind) (x : T) → r.chunks x ≡ finite.empty → r.live x ≡ set_of.empty → HoldsNone (part r kind x)
no_part r total exact kind x chunks live = record {
  held = λ object.
      named_absent nat_cmp_total nat_cmp-IsAntisymmetric (λ (e : ℕ × Chunk). e.1.object) (λ e. chunk_row r kind x e.0 e.1) (finite.entries (r.chunks x)) object (λ e has same.
      let at = there_entry (r.chunks x) e.0 e.1 has in
      let none = ap (λ (m : Chunks). finite.get m e.0) chunks ∙ finite.get-empty nat_cmp e.0 in
      absurd (cc));
  live = λ span has.
      let row = span_row_there total exact (block_span r) (r.live x) span has in
      let none = ap (λ (s : set_of.FinSet r.order). set_of.contains s row.0) live ∙ set_of.contains-empty r.order row.0 in
      let bad : false ≡ true = sym none ∙ row.1 in
      absurd (cc);
}

module _ {M X : Type 0} (own : OwnTable) (ss : List (TypeStores M X)) (held : own.held ≡ finite.empty) (live : own.live ≡ set_of.empty) (none : (i : ℕ) (e : TypeStores M X) → IsAt ss i e → HoldsNone (chosen_part e.chosen) × HoldsNone (list_part e.free_list)) where
  none_in : (i : ℕ) (p : Part) → IsAt (parts_of own ss) i p → HoldsNone p
  none_in zero p at = subst HoldsNone at (record {
    held = λ object. ap (λ (m : Held). finite.get m object) held ∙ finite.get-empty nat_cmp object;
    live = λ span has. (let bad : false ≡ true = sym (ap (λ (l : Live). set_of.contains l span) live ∙ set_of.contains-empty span_cmp span) ∙ has in absurd (cc));
  })
  none_in (suc i) p at =
      let of = type_part_of ss i p at in
      let both = none of.0 of.1 of.2 in
      elim of.3 [
        | inl is ↦ subst HoldsNone is both.0
        | inr is ↦ subst HoldsNone is both.1
      ]

  pub nothing_held : (whole own ss).held ≡ finite.empty
  nothing_held = finite.same_map nat_cmp_total nat_cmp-IsAntisymmetric _ _ (λ q. none_of (parts_of own ss) q (λ i p at. (none_in i p at).held q) ∙ sym (finite.get-empty nat_cmp q))

  pub nothing_live : (whole own ss).live ≡ set_of.empty
  nothing_live = set_of.same_set span_total span_exact _ _ (λ q.
      not_live (whole own ss).live q (λ stands. let there = live_at (parts_of own ss) q stands in (none_in there.0 there.1 there.2).live q there.3) ∙ sym (set_of.contains-empty span_cmp q))

  pub apart_unused : AreOneWhole own ss
  apart_unused = record {
    placed = λ i p object h at has. absurd (let no = (none_in i p at).held object in cc);
    once = λ i j p q object h k at also has had. absurd (let no = (none_in i p at).held object in cc);
    inside = λ i p span at has. absurd ((none_in i p at).live span has);
  }
