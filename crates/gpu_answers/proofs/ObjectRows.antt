-- Rows of objects seen as a finite map by name.
use Rattle.std.specs.Prelude.{map}
use Rattle.std.proofs.Common.{◌≡◌, ℕ, suc, ◌+◌, ◌≤◌, Bool, true, false, cond, List, [], ◌∷◌, length, Some, None, sym, ap, ◌∙◌, subst, arith}
use Rattle.std.proofs.lemmas.List.{length-map}
use Rattle.std.specs.Option.{is_some}
use Rattle.std.specs.Cmp.{nat_cmp_total}
use Rattle.std.specs.FinMap as finite
use Rattle.std.specs.FinMap.{nat_cmp-IsAntisymmetric}
use Rattle.std.specs.Ordering.{nat_cmp}
use Rattle.slab.specs.Slab.{Slab, get, entries, slab_len}
use Rattle.slab.proofs.SlabLemmas.{length-entries}
use Rattle.gpu_alloc_base.specs.SlabViews.{map_by, HasOneKeyEach}
use Rattle.gpu_alloc_base.proofs.SlabViews.{IsInserted, IsRemoved, once_inserted, map_there, map_absent, map_inserted, map_removed}
use Rattle.gpu_answers.specs.Objects.{name_in, row_object, IsUnder, IsNowhere}
use Rattle.gpu_answers.specs.declared.objects.HeldObject.{HeldObject}
use Rattle.gpu_answers.specs.declared.objects.ObjectRow.{ObjectRow}

abbrev pub by_name : Slab ObjectRow → finite.FinMap nat_cmp HeldObject
by_name rows = map_by name_in row_object rows

module _ (rows : Slab ObjectRow) (name : ℕ) where
  pub nowhere_absent : IsNowhere rows name → finite.get (by_name rows) name ≡ None
  nowhere_absent none = map_absent nat_cmp_total nat_cmp-IsAntisymmetric name_in row_object rows name none

  -- what the row under a place says
  pub under_object : (place : ℕ) (row : ObjectRow) → HasOneKeyEach name_in rows → IsUnder rows name place → get rows place ≡ Some row
      → (name_in row ≡ name) × (finite.get (by_name rows) name ≡ Some (row_object row))
  under_object place row once under at =
      let both = sym at ∙ under.1 in
      let same : row ≡ under.0 = cc in
      let named : name_in row ≡ name = ap name_in same ∙ under.2 in
      (named, subst (λ q. finite.get (by_name rows) q ≡ Some (row_object row)) named (map_there nat_cmp_total nat_cmp-IsAntisymmetric name_in row_object rows place row once at))

-- a name that none has goes under one place alone
pub once_more : (old new : Slab ObjectRow) (place : ℕ) (row : ObjectRow) → HasOneKeyEach name_in old → finite.get (by_name old) (name_in row) ≡ None
    → IsInserted old new place row → HasOneKeyEach name_in new
once_more old new place row once free is = once_inserted name_in old new place row once
    (λ i other at same.
    let there = (under_object old (name_in row) i other once (other, at, same) at).1 in
    absurd (let no : None ≡ Some (row_object other) = sym free ∙ there in cc)) is

pub more : (old new : Slab ObjectRow) (place : ℕ) (row : ObjectRow) → HasOneKeyEach name_in new → IsInserted old new place row
    → by_name new ≡ finite.insert (by_name old) (name_in row) (row_object row)
more old new place row once is = map_inserted nat_cmp_total nat_cmp-IsAntisymmetric name_in row_object old new place row once is

pub fewer : (old new : Slab ObjectRow) (place : ℕ) (row : ObjectRow) → HasOneKeyEach name_in old → IsRemoved old new place row
    → by_name new ≡ finite.remove (by_name old) (name_in row)
fewer old new place row once is = map_removed nat_cmp_total nat_cmp-IsAntisymmetric name_in row_object old new place row once is

-- there are no more objects than rows
len_at_most : (es : List (ℕ × HeldObject)) → finite.len (finite.from_entries {R = nat_cmp} es) ≤ length es
len_at_most [] = let none = finite.len-empty nat_cmp HeldObject in omega (arith, none)
len_at_most (e ∷ es) =
    let rest = len_at_most es in
    subst (λ n. n ≤ suc (length es)) (sym (finite.len-insert nat_cmp_total (finite.from_entries {R = nat_cmp} es) e.0 e.1))
    (at_most_one_more (is_some (finite.get (finite.from_entries {R = nat_cmp} es) e.0)) _ _ rest)
  where
    at_most_one_more : (b : Bool) (n m : ℕ) → n ≤ m → cond b n (n + 1) ≤ suc m
    at_most_one_more true n m le = omega arith
    at_most_one_more false n m le = omega arith

pub few : (rows : Slab ObjectRow) → finite.len (by_name rows) ≤ slab_len rows
few rows =
    let most = len_at_most (map (λ (e : ℕ × ObjectRow). (name_in e.1, row_object e.1)) (entries rows)) in
    let long = length-map {B = ℕ × HeldObject} (entries rows) (λ (e : ℕ × ObjectRow). (name_in e.1, row_object e.1)) in
    let all = length-entries rows in
    omega (arith, most, long, all)
