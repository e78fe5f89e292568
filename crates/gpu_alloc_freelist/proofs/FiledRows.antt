-- Rows in a slab, and beside it their numbers in rising order, each with its row's key: what is found by a number.
use Rattle.std.proofs.Common.{◌≡◌, inl, inr, ℕ, ◌<◌, List, [], ◌∷◌, length, get_or, Some, IfSome, IsSome, slice_get, refl, sym, ◌∙◌, ap, subst, arith}
use Rattle.std.specs.Cmp.{nat_cmp_total}
use Rattle.std.specs.FinMap as map
use Rattle.std.specs.FinMap.{nat_cmp-IsAntisymmetric}
use Rattle.std.specs.List.{Contains}
use Rattle.slab.specs.Slab.{Slab, get, entries}
use Rattle.slab.proofs.SlabLemmas.{Contains-entries}
use Rattle.gpu_alloc_base.specs.SlabViews.{HasOneKeyEach}
use Rattle.gpu_alloc_base.proofs.ListViews.{seek_name}
use Rattle.gpu_alloc_base.proofs.InHand.{no_chunks}
use Rattle.gpu_alloc_base.proofs.Lists.{contains_head, none_is_some}
use Rattle.gpu_alloc_base.proofs.SlabViews.{map_there, map_absent}
use Rattle.gpu_alloc_base.proofs.Sums.{len_less}
use Rattle.gpu_alloc_freelist.specs.Chunks.{AreFiled, IsFiled, chunk_of, held_in, keys_by_number}
use Rattle.gpu_alloc_freelist.specs.declared.freelist.chunks.NumberedChunk.{NumberedChunk}
use Rattle.gpu_alloc_freelist.specs.declared.freelist.chunks.NumberedKey.{NumberedKey}
use Rattle.gpu_alloc_freelist.proofs.NumberSearch.{said_at}
use Rattle.gpu_alloc_freelist.proofs.NumberedRows.{one_row, row_found}

-- the entry of a row
abbrev pub entry : ℕ → ℕ → NumberedKey
entry number key = record { number = number; key = key }

abbrev pub number_of : NumberedKey → ℕ
number_of n = n.number

abbrev pub key_of : NumberedKey → ℕ
key_of n = n.key

module _ {M : Type 0} where
  abbrev pub number_in : NumberedChunk M → ℕ
  number_in row = row.number

  -- no two rows have one number
  pub filed_once : (rows : Slab (NumberedChunk M)) (numbers : List NumberedKey) → AreFiled rows numbers → HasOneKeyEach number_in rows
  filed_once rows numbers filed i k a b at_i at_k same =
      let has_i = (filed.exact (entry a.number i)).1 (a, at_i, refl) in
      let has_k = (filed.exact (entry a.number k)).1 (b, at_k, sym same) in
      ap key_of (one_row number_of key_of numbers (entry a.number i) (entry a.number k) filed.rising has_i has_k refl)

  -- only the slots matter
  pub filed_roomier : (old new : Slab (NumberedChunk M)) (numbers : List NumberedKey) → new.slots ≡ old.slots → AreFiled old numbers → AreFiled new numbers
  filed_roomier old new numbers slots filed = record { rising = filed.rising; exact = λ n. rw slots (filed.exact n) }

  -- What is held, by the names of objects.

  module _ (object : M → ℕ) (rows : Slab (NumberedChunk M)) (numbers : List NumberedKey) (filed : AreFiled rows numbers) where
    -- what is held under the number of the row at a key
    pub row_says : (key : ℕ) (row : NumberedChunk M) → get rows key ≡ Some row → map.get (held_in object rows) row.number ≡ Some (chunk_of object row)
    row_says key row at = map_there nat_cmp_total nat_cmp-IsAntisymmetric number_in (chunk_of object) rows key row (filed_once rows numbers filed) at

    -- a held number is one of a row
    held_stands : (k : ℕ) → IsSome (map.get (held_in object rows) k) → (key : ℕ) × (row : NumberedChunk M) × (get rows key ≡ Some row) × (row.number ≡ k)
    held_stands k some = elim (seek_name nat_cmp_total nat_cmp-IsAntisymmetric (λ (e : ℕ × NumberedChunk M). number_in e.1) (λ e. chunk_of object e.1) (entries rows) k) [
      | inl h ↦ (h.0.0, h.0.1, (Contains-entries rows h.0.0 h.0.1).0 h.1, h.2)
      | inr none ↦
          let absent = map_absent nat_cmp_total nat_cmp-IsAntisymmetric number_in (chunk_of object) rows k (λ key row at. none (key, row) ((Contains-entries rows key row).1 at)) in
          absurd (none_is_some _ absent some)
    ]

    -- and is listed
    pub held_listed : (k : ℕ) → IsSome (map.get (held_in object rows) k) → IsSome (map.get (keys_by_number numbers) k)
    held_listed k some =
        let h = held_stands k some in
        let there = row_found number_of key_of numbers (entry (number_in h.1) h.0) filed.rising ((filed.exact (entry (number_in h.1) h.0)).1 (h.1, h.2, refl)) in
        subst (λ q. IsSome (map.get (keys_by_number numbers) q)) h.3 (rw there refl)

    -- nothing is held where nothing is listed
    pub none_listed : length numbers ≡ 0 → map.len (held_in object rows) ≡ 0
    none_listed none = no_chunks (held_in object rows) (λ k chunk is.
        let h = held_stands k (rw is refl) in
        let has = (filed.exact (entry (number_in h.1) h.0)).1 (h.1, h.2, refl) in
        omega (arith, has.1, none))

    -- and nothing is listed where nothing is held
    pub none_held : map.len (held_in object rows) ≡ 0 → length numbers ≡ 0
    none_held none = elim numbers as (λ ns. numbers ≡ ns → length ns ≡ 0) [
      | [] ↦ λ is. refl
      | n ∷ ns ↦ λ is.
          let f = (filed.exact n).0 (subst (λ l. Contains l n) (sym is) (contains_head n ns)) in
          let there = row_says n.key f.0 f.1 in
          let less = len_less (held_in object rows) (number_in f.0) (chunk_of object f.0) there in
          absurd (omega (arith, less, none))
    ] refl

    -- what is above each held number is above each that is listed
    pub above_listed : (k : ℕ) → ((q : ℕ) → IsSome (map.get (held_in object rows) q) → q < k) → (n : NumberedKey) → Contains numbers n → n.number < k
    above_listed k above n has =
        let f = (filed.exact n).0 has in
        subst (λ q. q < k) f.2 (above (number_in f.0) (rw (row_says n.key f.0 f.1) refl))

  -- What the entry at the place of a number leads to.

  module _ (rows : Slab (NumberedChunk M)) (numbers : List NumberedKey) (filed : AreFiled rows numbers) (i : ℕ) (n : NumberedKey) (k : ℕ) (within : i < length numbers) (is : n ≡ get_or numbers i n)
      (named : IfSome (slice_get numbers i) (λ m. m.number ≡ k)) where
    stands : IsFiled rows n
    stands = (filed.exact n).0 (i, within, sym is)

    pub key_stands : IsSome (get rows n.key)
    key_stands = rw (stands.1) refl

    pub number_under : (row : NumberedChunk M) → get rows n.key ≡ Some row → row.number ≡ k
    number_under row at =
        let both = sym at ∙ stands.1 in
        let same : row ≡ stands.0 = cc in
        ap number_in same ∙ stands.2 ∙ said_at (λ m. m.number ≡ k) numbers i n within is named

    pub says_under : (object : M → ℕ) (row : NumberedChunk M) → get rows n.key ≡ Some row → map.get (held_in object rows) k ≡ Some (chunk_of object row)
    says_under object row at = subst (λ q. map.get (held_in object rows) q ≡ Some (chunk_of object row)) (number_under row at) (row_says object rows numbers filed n.key row at)
