-- Rows in a slab, and beside it their numbers in rising order, as a row comes with the greatest number, or one goes.
use Rattle.std.proofs.Common.{◌≡◌, ◌≢◌, inl, inr, ℕ, ◌<◌, List, [], ◌∷◌, ◌++◌, length, get_or, Some, refl, sym, ◌∙◌, ap, subst}
use Rattle.std.specs.Cmp.{nat_cmp_total}
use Rattle.std.specs.FinMap as map
use Rattle.std.specs.FinMap.{nat_cmp-IsAntisymmetric}
use Rattle.std.specs.List.{Contains, remove}
use Rattle.slab.specs.Slab.{Slab, get}
use Rattle.gpu_alloc_base.proofs.ListViews.{IsMore, IsLess, same_or_other}
use Rattle.gpu_alloc_base.proofs.SlabViews.{IsInserted, IsRemoved, map_inserted, map_removed}
use Rattle.gpu_alloc_freelist.specs.Chunks.{AreFiled, IsFiled, chunk_of, held_in}
use Rattle.gpu_alloc_freelist.specs.declared.freelist.chunks.NumberedChunk.{NumberedChunk}
use Rattle.gpu_alloc_freelist.specs.declared.freelist.chunks.NumberedKey.{NumberedKey}
use Rattle.gpu_alloc_freelist.proofs.NumberedRows.{numbered_push, numbered_remove, rows_more, rows_less}
use Rattle.gpu_alloc_freelist.proofs.FiledRows.{entry, filed_once, key_of, number_in, number_of}

same_entry : (a b : NumberedKey) → a.number ≡ b.number → a.key ≡ b.key → a ≡ b
same_entry a b number key = λ i. record { number = number i; key = key i }

module _ {M : Type 0} where
  -- A row comes, with a number above all.

  module _ (old new : Slab (NumberedChunk M)) (numbers : List NumberedKey) (key : ℕ) (x : NumberedChunk M) (filed : AreFiled old numbers) (above : (n : NumberedKey) → Contains numbers n → n.number < x.number)
      (h : IsInserted old new key x) where
    still : (k : ℕ) (row : NumberedChunk M) → get old k ≡ Some row → get new k ≡ Some row
    still k row at = h.updates.others k (λ same. let vacant = ap (get old) same ∙ h.was_vacant in absurd (cc)) ∙ at

    pub filed_pushed : AreFiled new (numbers ++ entry x.number key ∷ [])
    filed_pushed = record {
      rising = numbered_push number_of key_of numbers (entry x.number key) filed.rising above;
      exact = λ n. (
        λ has. elim (more.cases n has) [
          | inl new_one ↦ subst (IsFiled new) (sym new_one) (x, h.updates.changed, refl)
          | inr was ↦ let f = (filed.exact n).0 was in (f.0, still n.key f.0 f.1, f.2)
        ],
        λ f. elim (same_or_other nat_cmp_total nat_cmp-IsAntisymmetric n.key key) [
          | inl same ↦
              let both = sym f.1 ∙ ap (get new) same ∙ h.updates.changed in
              let row : f.0 ≡ x = cc in
              subst (Contains (numbers ++ entry x.number key ∷ [])) (sym (same_entry n (entry x.number key) (sym f.2 ∙ ap number_in row) same)) more.has
          | inr other ↦ more.kept n ((filed.exact n).1 (f.0, sym (h.updates.others n.key other) ∙ f.1, f.2))
        ],
      );
    }
      where
        more : IsMore numbers (numbers ++ entry x.number key ∷ []) (entry x.number key)
        more = rows_more number_of key_of numbers (entry x.number key)

    pub held_pushed : (object : M → ℕ) → held_in object new ≡ map.insert (held_in object old) x.number (chunk_of object x)
    held_pushed object = map_inserted nat_cmp_total nat_cmp-IsAntisymmetric number_in (chunk_of object) old new key x (filed_once new (numbers ++ entry x.number key ∷ []) filed_pushed) h

  -- A row is removed, and the entry that leads to it.

  module _ (old new : Slab (NumberedChunk M)) (numbers : List NumberedKey) (i : ℕ) (n : NumberedKey) (x : NumberedChunk M) (filed : AreFiled old numbers) (within : i < length numbers) (is : n ≡ get_or numbers i n)
      (h : IsRemoved old new n.key x) where
    less : IsLess numbers (remove numbers i) n
    less = subst (IsLess numbers (remove numbers i)) (sym is) (rows_less number_of key_of numbers i n filed.rising within)

    number_is : x.number ≡ n.number
    number_is = let f = (filed.exact n).0 less.had in let both = sym h.was ∙ f.1 in let row : x ≡ f.0 = cc in ap number_in row ∙ f.2

    -- no other entry has its key
    one_key : (m : NumberedKey) → Contains numbers m → m.key ≡ n.key → m ≡ n
    one_key m has same =
        let f = (filed.exact m).0 has in
        let both = sym f.1 ∙ ap (get old) same ∙ h.was in
        let row : f.0 ≡ x = cc in
        same_entry m n (sym f.2 ∙ ap number_in row ∙ number_is) same

    pub filed_removed : AreFiled new (remove numbers i)
    filed_removed = record {
      rising = numbered_remove number_of key_of numbers i filed.rising within;
      exact = λ m. (
        λ has.
            let was = less.kept m has in
            let f = (filed.exact m).0 was.1 in
            let other : m.key ≢ n.key = λ same. was.0 (one_key m was.1 same) in
            (f.0, h.updates.others m.key other ∙ f.1, f.2),
        λ f.
            let other : m.key ≢ n.key = λ same. let gone = sym f.1 ∙ ap (get new) same ∙ h.updates.changed in absurd (cc) in
            elim (less.cases m ((filed.exact m).1 (f.0, sym (h.updates.others m.key other) ∙ f.1, f.2))) [
              | inl same ↦ absurd (other (ap key_of same))
              | inr left ↦ left
            ],
      );
    }

    pub held_removed : (object : M → ℕ) → held_in object new ≡ map.remove (held_in object old) x.number
    held_removed object = map_removed nat_cmp_total nat_cmp-IsAntisymmetric number_in (chunk_of object) old new n.key x (filed_once old numbers filed) h
