-- What is reported of one more memory type and kind.
use Rattle.std.proofs.Common.{◌≡◌, inl, inr, ℕ, zero, suc, ◌+◌, ◌<◌, ◌≤◌, Bool, true, false, cond, List, [], ◌∷◌, ◌++◌, length, map, take, get_or, All, refl, sym, subst, ◌∙◌, ap, arith}
use Rattle.std.proofs.lemmas.Bool.{cases_lt}
use Rattle.std.proofs.lemmas.Bool.Decides.{nat_tests}
use Rattle.std.proofs.lemmas.List.{map-append, append-nil}
use Rattle.std.proofs.lemmas.List.Elements.{filter-append, All-append, All-push, Contains-append_left, Contains-append_right}
use Rattle.std.proofs.lemmas.Grind.{flat_map-append}
use Rattle.std.specs.List.{filter, flat_map}
use Rattle.std.specs.List.{Contains}
use Rattle.gpu_alloc_types.specs.declared.types.FreeRange.{FreeRange}
use Rattle.gpu_alloc_base.proofs.Lists.{all_contained, contains_cases, contains_none}
use Rattle.gpu_alloc_base.proofs.ListViews.{contains_name}
use Rattle.gpu_alloc_block.specs.declared.block.Kind.{Kind}
use Rattle.gpu_alloc_block.specs.declared.block.Kind.TheVariants as kinds
use Rattle.gpu_alloc.specs.Listing.{AreOfKnownTypes}
use Rattle.gpu_alloc.specs.Sound.{IsSound}
use Rattle.gpu_alloc.specs.Spans.{held_entry_of, held_of}
use Rattle.gpu_alloc.specs.State.{HeldObject, State, is_shared}
use Rattle.gpu_alloc.specs.declared.spans.HeldRow.{HeldRow}
use Rattle.gpu_report.specs.Free.{AreFreeRanges}
use Rattle.gpu_report.specs.Held.{held_as, is_of, kind_of, part_of, parts, parts_of_type, AreHeld}
use Rattle.gpu_report.specs.Live.{AreLive}
use Rattle.gpu_report.specs.Places.{ArePlaces, Tile}
use Rattle.gpu_report.specs.Report.{head_held, head_told, is_chunk, is_used, part_told, ArePartsTold, HasPlaces, Head, AreSums, IsKindTold, IsObjectTold, TellsEach}
use Rattle.gpu_report.proofs.Covering.{AreTheFree, tiled}
use Rattle.gpu_report.proofs.HeldRows.{entry_held, held_entry, held_more}
use Rattle.gpu_report.proofs.Members.{each_member, from_filtered, from_mapped, to_filtered}
use Rattle.gpu_report.specs.declared.live.LiveBlock.{LiveBlock}
use Rattle.gpu_report.specs.declared.part.Part.{Part}
use Rattle.gpu_report.specs.declared.report.KindReport.{KindReport}
use Rattle.gpu_report.specs.declared.report.ObjectKind.{ObjectKind}
use Rattle.gpu_report.specs.declared.report.ObjectKind.TheVariants as objects
use Rattle.gpu_report.specs.declared.report.ObjectReport.{ObjectReport}

used : (held : List (ℕ × HeldObject)) (p : Part) → 0 < length (held_as held p) → is_used held p ≡ true
used held p some = grind (arith, nat_tests)

unused : (held : List (ℕ × HeldObject)) (p : Part) → length (held_as held p) ≤ 0 → is_used held p ≡ false
unused held p none = grind (arith, nat_tests)

module _ (s : State) (held : List (ℕ × HeldObject)) (live : List LiveBlock) (p : Part) (ps : List Part) (ks : List KindReport) (os : List ObjectReport) (told : ArePartsTold s held live ps ks os) where
  heads_more : (more : List ObjectReport) → map head_told more ≡ map head_held (held_as held p) → map head_told (os ++ more) ≡ map head_held (flat_map (held_as held) (ps ++ p ∷ []))
  heads_more more heads =
      map-append head_told os more ∙ (λ i. told.heads i ++ heads i)
      ∙ sym (map-append head_held (flat_map (held_as held) ps) (held_as held p))
      ∙ ap (λ (es : List (ℕ × HeldObject)). map head_held (flat_map (held_as held) ps ++ es)) (sym (append-nil (held_as held p)))
      ∙ ap (map head_held) (sym (flat_map-append (held_as held) ps (p ∷ [])))

  -- an object is held so
  pub told_used : (k : KindReport) → 0 < length (held_as held p) → part_told k ≡ p → AreSums s held live k
      → (more : List ObjectReport) → map head_told more ≡ map head_held (held_as held p) → All (IsObjectTold s live) more
      → ArePartsTold s held live (ps ++ p ∷ []) (ks ++ k ∷ []) (os ++ more)
  told_used k some of sums more heads each = record {
    heads = heads_more more heads;
    objects = All-append (IsObjectTold s live) os more told.objects each;
    rows = map-append part_told ks (k ∷ []) ∙ (λ i. told.rows i ++ of i ∷ [])
        ∙ sym (filter-append (is_used held) ps (p ∷ []) ∙ ap (λ b. filter (is_used held) ps ++ cond b (p ∷ []) []) (used held p some));
    kinds = All-push (IsKindTold s held live) ks k told.kinds (record {
      sums = sums;
      some = subst (λ n. 0 < n) (sym (sums.objects ∙ ap (λ q. length (held_as held q)) of)) some;
    });
  }

  -- none is
  pub told_unused : length (held_as held p) ≤ 0 → (more : List ObjectReport) → map head_told more ≡ map head_held (held_as held p) → All (IsObjectTold s live) more
      → ArePartsTold s held live (ps ++ p ∷ []) ks (os ++ more)
  told_unused none more heads each = record {
    heads = heads_more more heads;
    objects = All-append (IsObjectTold s live) os more told.objects each;
    rows = told.rows ∙ sym (append-nil (filter (is_used held) ps))
        ∙ sym (filter-append (is_used held) ps (p ∷ []) ∙ ap (λ b. filter (is_used held) ps ++ cond b (p ∷ []) []) (unused held p none));
    kinds = told.kinds;
  }

-- One row more of those that are looked at.

module _ (p : Part) (rows : List (ℕ × HeldRow)) (i : ℕ) (d : ℕ × HeldRow) (lt : i < length rows) (os : List ObjectReport)
    (so_far : map head_told os ≡ map head_held (held_as (map held_entry_of (take i rows)) p)) where
  more_heads : (b : Bool) → is_of p (held_of (get_or rows i d).1) ≡ b
      → map head_held (held_as (map held_entry_of (take (i + 1) rows)) p) ≡ map head_held (held_as (map held_entry_of (take i rows)) p) ++ map head_held (cond b (held_entry_of (get_or rows i d) ∷ []) [])
  more_heads b is =
      ap (map head_held) (held_more p rows i d lt ∙ ap (λ t. held_as (map held_entry_of (take i rows)) p ++ cond t (held_entry_of (get_or rows i d) ∷ []) []) is)
      ∙ map-append head_held (held_as (map held_entry_of (take i rows)) p) (cond b (held_entry_of (get_or rows i d) ∷ []) [])

  pub objects_more : (o : ObjectReport) → is_of p (held_of (get_or rows i d).1) ≡ true → head_told o ≡ head_held (held_entry_of (get_or rows i d))
      → map head_told (os ++ o ∷ []) ≡ map head_held (held_as (map held_entry_of (take (i + 1) rows)) p)
  objects_more o is of = map-append head_told os (o ∷ []) ∙ (λ k. so_far k ++ of k ∷ []) ∙ sym (more_heads true is)

  pub objects_same : is_of p (held_of (get_or rows i d).1) ≡ false → map head_told os ≡ map head_held (held_as (map held_entry_of (take (i + 1) rows)) p)
  objects_same is = so_far ∙ sym (more_heads false is ∙ append-nil _)

-- Objects that are held as one memory type and kind, each with its places.

is_shared_chunk : (kind : Kind) → is_chunk (kind_of kind) ≡ true → is_shared kind ≡ true
is_shared_chunk kinds.Dedicated e = e
is_shared_chunk kinds.Imported e = e
is_shared_chunk kinds.BuddyChunk e = e
is_shared_chunk (kinds.FreeListChunk number) e = e
is_shared_chunk kinds.FitChunk e = e

module _ (s : State) (held : List (ℕ × HeldObject)) (live : List LiveBlock) (free : List FreeRange) (p : Part) (sound : IsSound s) (are_held : AreHeld s held) (are_live : AreLive s live)
    (are_free : AreFreeRanges s p.memory_type free) (law : AreTheFree s p.memory_type) where
  object_told : (e : ℕ × HeldObject) (o : ObjectReport) → Contains held e → is_of p e.1 ≡ true → head_held e ≡ head_told o → HasPlaces live free o → IsObjectTold s live o
  object_told e o has is_p head placed =
      let of_type : e.1.memory_type ≡ p.memory_type = of_part e.1 is_p in
      let told_type : e.1.memory_type ≡ o.memory_type = ap (λ (h : Head). h.memory_type) head in
      let name : e.0 ≡ o.object = ap (λ (h : Head). h.object) head in
      let size : e.1.counted ≡ o.size = ap (λ (h : Head). h.size) head in
      let kind : kind_of e.1.kind ≡ o.kind = ap (λ (h : Head). h.kind) head in
      let there = held_entry s held e are_held has in
      let free_of = subst (λ t. AreFreeRanges s t free) (sym of_type) are_free in
      let law_of = subst (λ t. AreTheFree s t) (sym of_type) law in
      record {
        free = free;
        are_free = subst (λ t. AreFreeRanges s t free) told_type free_of;
        places = placed;
        tiled = λ chunk. subst (λ n. Tile 0 n o.places.items) size (tiled s e.0 e.1 live free
            (record { sound = sound; are_live = are_live; are_free = free_of; held = there; shared = is_shared_chunk e.1.kind (ap is_chunk kind ∙ chunk) }) law_of
            o.places.items (subst (λ n. ArePlaces live free n o.places.items) (sym name) placed));
      }
    where
      of_part : (h : HeldObject) → is_of p h ≡ true → h.memory_type ≡ p.memory_type
      of_part h e = grind (arith, nat_tests)

  pub objects_told : (os : List ObjectReport) → map head_told os ≡ map head_held (held_as held p) → All (HasPlaces live free) os → All (IsObjectTold s live) os
  objects_told os heads placed = each_member (IsObjectTold s live) os (λ o has.
      let head = subst (λ hs. Contains hs (head_told o)) heads (contains_name head_told os o has) in
      let e = from_mapped head_held (held_as held p) (head_told o) head in
      let kept = from_filtered (λ (x : ℕ × HeldObject). is_of p x.1) held e.0 e.1 in
      object_told e.0 o kept.0 kept.1 e.2 (all_contained (HasPlaces live free) os o placed has))

-- Each held object is reported, where each is of a memory type that there is.

from_flat : {X Y : Type 0} (f : X → List Y) (xs : List X) (x : X) (y : Y) → Contains xs x → Contains (f x) y → Contains (flat_map f xs) y
from_flat f [] x y has there = absurd (contains_none x has)
from_flat f (z ∷ zs) x y has there = elim (contains_cases z x zs has) [
  | inl is ↦ Contains-append_left (f z) (flat_map f zs) y (subst (λ w. Contains (f w) y) is there)
  | inr later ↦ Contains-append_right (f z) (flat_map f zs) y (from_flat f zs x y later there)
]

has_kind : (t : ℕ) (kind : ObjectKind) → Contains (parts_of_type t) (part_of t kind)
has_kind t objects.Dedicated = (0, omega arith, refl)
has_kind t objects.Imported = (1, omega arith, refl)
has_kind t objects.BuddyChunk = (2, omega arith, refl)
has_kind t objects.FreeListChunk = (3, omega arith, refl)
has_kind t objects.FitChunk = (4, omega arith, refl)

has_part : (n t : ℕ) (kind : ObjectKind) → t < n → Contains (parts n) (part_of t kind)
has_part zero t kind lt = absurd (omega (arith, lt))
has_part (suc n) t kind lt = elim (cases_lt t n) [
  | inl less ↦ Contains-append_left (parts n) (parts_of_type n) (part_of t kind) (has_part n t kind less)
  | inr ge ↦ let e : n ≡ t = omega (arith, lt) in Contains-append_right (parts n) (parts_of_type n) (part_of t kind) (subst (λ m. Contains (parts_of_type m) (part_of t kind)) (sym e) (has_kind t kind))
]

is_its_own : (h : HeldObject) → is_of (part_of h.memory_type (kind_of h.kind)) h ≡ true
is_its_own h = grind (arith, nat_tests)

pub each_told : (s : State) (held : List (ℕ × HeldObject)) (live : List LiveBlock) (ks : List KindReport) (os : List ObjectReport) → AreHeld s held → AreOfKnownTypes s
    → ArePartsTold s held live (parts (length s.properties.memory_types)) ks os → TellsEach s os
each_told s held live ks os are known told object h is =
    let p = part_of h.memory_type (kind_of h.kind) in
    let kept = to_filtered (λ (e : ℕ × HeldObject). is_of p e.1) held (object, h) (entry_held s held object h are is) (is_its_own h) in
    let all = parts (length s.properties.memory_types) in
    let there = from_flat (held_as held) all p (object, h) (has_part (length s.properties.memory_types) h.memory_type (kind_of h.kind) (known object h is)) kept in
    subst (λ hs. Contains hs (head_held (object, h))) (sym told.heads) (contains_name head_held (flat_map (held_as held) all) (object, h) there)
