-- A list of entries by number, as a finite map.
use Rattle.std.proofs.Common.{◌≡◌, ℕ, false, nat_eq, List, [], ◌∷◌, length, None, ◌∙◌, arith}
use Rattle.std.proofs.lemmas.Map.{NonePasses, lookup-none}
use Rattle.std.proofs.lemmas.Map.Keys.{IsDistinct-head, IsDistinct-tail}
use Rattle.std.specs.List.{IsDistinct, AllByRecursion}
use Rattle.std.specs.Map.{keys_of}
use Rattle.std.specs.Cmp.{nat_cmp_total}
use Rattle.std.specs.Ordering.{nat_cmp}
use Rattle.std.specs.FinMap as map
use Rattle.gpu_alloc_base.proofs.Names.{get_entries}

module _ {V : Type 0} where
  none_later : (number : ℕ) (entries : List (ℕ × V)) → AllByRecursion (λ other. nat_eq number other ≡ false) (keys_of entries) → NonePasses (nat_eq number) entries
  none_later number [] none = none
  none_later number (e ∷ entries) none = (none.0, none_later number entries none.1)

  -- under distinct numbers the map has as many values as the list has entries
  pub len-entries : (entries : List (ℕ × V)) → IsDistinct nat_eq (keys_of entries) → map.len (map.from_entries {R = nat_cmp} entries) ≡ length entries
  len-entries [] distinct = map.len-empty nat_cmp V
  len-entries (e ∷ entries) distinct =
      let is_new : map.get (map.from_entries {R = nat_cmp} entries) e.0 ≡ None = get_entries entries e.0 ∙ lookup-none (nat_eq e.0) entries (none_later e.0 entries (IsDistinct-head nat_eq e.0 (keys_of entries) distinct)) in
      let more = rw is_new at (map.len-insert {K = ℕ} {X = V} {R = nat_cmp} nat_cmp_total (map.from_entries entries) e.0 e.1) in
      let rest = len-entries entries (IsDistinct-tail nat_eq e.0 (keys_of entries) distinct) in
      omega (arith, more, rest)
