-- Lengths of which only the room changes: their pairs are the same, and so are their halves.
use Rattle.std.proofs.Common.{◌≡◌, inl, inr, ℕ, ◌+◌, ◌<◌, List, [], ◌∷◌, ◌++◌, length, map, get_or, slice_set, Option, None, refl, sym, ◌∙◌, ap, subst, arith}
use Rattle.std.proofs.Math.ListN.{get_or-map}
use Rattle.std.proofs.Math.Seq.{map-set_same}
use Rattle.std.proofs.lemmas.Bool.{cases_eq}
use Rattle.std.proofs.lemmas.List.{get_or_default, get_or-set_same, get_or-set_other}
use Rattle.slab.specs.Slab.{Slab, HasRoomFor}
use Rattle.gpu_alloc_pairs.specs.Entry.{Entry}
use Rattle.gpu_alloc_pairs.specs.Halves.{halves_of_length, halves_from}
use Rattle.gpu_alloc_pairs.specs.Lengths.{HasRoomsFor, HasSameSlots}
use Rattle.gpu_alloc_pairs.specs.Tree.{pair_at, no_pairs}
use Rattle.gpu_alloc_pairs.specs.declared.pair.Use.{Use}

-- the slots of one length
abbrev pub slots_at : List (Slab Entry) → ℕ → List (Option Entry)
slots_at lengths n = (get_or lengths n no_pairs).slots

pub same_slots_at : (old new : List (Slab Entry)) → HasSameSlots old new → (n : ℕ) → slots_at new n ≡ slots_at old n
same_slots_at old new same n =
    sym (get_or-map (λ (s : Slab Entry). s.slots) new n no_pairs) ∙ ap (λ xs. get_or xs n []) same ∙ get_or-map (λ (s : Slab Entry). s.slots) old n no_pairs

pub same_pairs : (old new : List (Slab Entry)) → HasSameSlots old new → (n k : ℕ) → pair_at new n k ≡ pair_at old n k
same_pairs old new same n k = ap (λ xs. get_or xs k None) (same_slots_at old new same n)

pub same_halves : (old new : List (Slab Entry)) (now : Use) (n : ℕ) → HasSameSlots old new → halves_from now n new ≡ halves_from now n old
unfolding halves_from halves_of_length
same_halves [] [] now n same = refl
same_halves [] (y ∷ ys) now n same = absurd (cc)
same_halves (x ∷ xs) [] now n same = absurd (cc)
same_halves (x ∷ xs) (y ∷ ys) now n same =
    let first : y.slots ≡ x.slots = cc in
    let rest : map (λ (s : Slab Entry). s.slots) ys ≡ map (λ s. s.slots) xs = cc in
    ap (λ zs. halves_of_length now n (record { slots = zs; vacant_key = 0; capacity = 0 }) ++ halves_from now (n + 1) ys) first
    ∙ ap (λ zs. halves_of_length now n (record { slots = x.slots; vacant_key = 0; capacity = 0 }) ++ zs) (same_halves xs ys now (n + 1) rest)

-- One length is changed.

module _ (lengths : List (Slab Entry)) (i : ℕ) (was now : Slab Entry) (in_range : i < length lengths) (is : was ≡ get_or lengths i was) where
  was_there : was ≡ get_or lengths i no_pairs
  was_there = is ∙ get_or_default lengths i was no_pairs in_range

  pub same_slots_set : now.slots ≡ was.slots → HasSameSlots lengths (slice_set lengths i now)
  same_slots_set same = map-set_same (λ (s : Slab Entry). s.slots) lengths i now no_pairs (same ∙ ap (λ (s : Slab Entry). s.slots) was_there)

  -- room for one more there is room for one length more
  pub one_more_room : (low : ℕ) → HasRoomsFor lengths low i → HasRoomFor now 1 → HasRoomsFor (slice_set lengths i now) low (i + 1)
  one_more_room low rooms room n from to = elim (cases_eq n i) [
    | inl here ↦ subst (λ (m : ℕ). HasRoomFor (get_or (slice_set lengths i now) m no_pairs) 1) (sym here) (subst (λ (s : Slab Entry). HasRoomFor s 1) (sym (get_or-set_same lengths i now no_pairs in_range)) room)
    | inr other ↦ subst (λ (s : Slab Entry). HasRoomFor s 1) (sym (get_or-set_other lengths i n now no_pairs other)) (rooms n from (omega (arith, to, other)))
  ]
