-- What holds of the simulated device's objects, and how they are shown.
use Rattle.std.specs.Prelude.{◌≡◌, ℕ, ◌+◌, ◌≤◌, ◌==◌, ◌||◌, not, Bool, true, false, cond, List, [], length, replicate}
use Rattle.std.specs.Prelude.{Option, Some, None, IfSome, IsTrue, nat_le, refl}
use Rattle.std.specs.Bool.{Decides}
use Rattle.std.specs.Cmp.{nat_cmp_total}
use Rattle.std.specs.FinMap as map
use Rattle.std.specs.FinMap.{FinMap}
use Rattle.std.specs.Ordering.{nat_cmp, eq_by_cmp}
use Rattle.std.proofs.Common.{◌∙◌, ap, arith, subst, sym}
use Rattle.std.proofs.Math.Path.{fun_ext}
use Rattle.std.proofs.lemmas.Bool.Decides.{nat_tests, Decides-and, Decides-eqb, Decides-like}
use Rattle.std.proofs.lemmas.List.{length-replicate}
use Rattle.std.proofs.lemmas.Slice.Eq.{bytes_eq-Decides}
use Rattle.gpu_alloc_types.specs.Properties.{Properties, is_host_visible, is_coherent}
use Rattle.gpu_alloc_types.specs.Device.{Object, IsWellFormed, put}
use Rattle.gpu_sim.specs.ByteLaws.{length-with_range, with_range-same, length-written}
use Rattle.gpu_sim.specs.Bytes.{bytes_written, with_range}
use Rattle.gpu_sim.specs.Objects.{HasBytes, HasRange, IsWhole, AreWhole, shown, shown_if, is_well_formed, ends_within}
use Rattle.gpu_sim.specs.Objects.{new_bytes, new_object, mapped_as, copied, put_by_host, put_by_device}
use Rattle.gpu_sim.specs.declared.sim.bytes.Direction.{Direction}
use Rattle.gpu_sim.specs.declared.sim.bytes.Direction.TheVariants.{ToDevice, ToHost}

-- The test of what is well-formed.

equal_where : (coherent equal : Bool) (host device : List ℕ) → Decides equal (host ≡ device)
    → Decides (not coherent || equal) (IsTrue coherent → host ≡ device)
equal_where true equal host device d = (λ e is. d.0 e, λ same. d.1 (same refl))
equal_where false equal host device d = (λ e is. absurd (let no : false ≡ true = is in cc), λ same. refl)

range_within : (mapped : Option (ℕ × ℕ)) (size : ℕ)
    → Decides (ends_within mapped size) (IfSome mapped (λ r. r.0 + r.1 ≤ size))
range_within None size = (λ e. tt, λ is. refl)
range_within (Some r) size = (at_most, tested)
  where
    at_most : nat_le (r.0 + r.1) size ≡ true → r.0 + r.1 ≤ size
    at_most e = grind (arith, nat_tests)

    tested : r.0 + r.1 ≤ size → nat_le (r.0 + r.1) size ≡ true
    tested le = grind (arith, nat_tests)

pub decides_well_formed : (p : Properties) (o : Object) → Decides (is_well_formed p o) (IsWellFormed p o)
unfolding is_well_formed
decides_well_formed p o =
    let size : ℕ = cond (is_host_visible p o.memory_type) o.size 0 in
    Decides-like _
    (λ all. record { host = all.0.0.0; device = all.0.0.1; coherent = all.0.1; range = all.1 })
    (λ (w : IsWellFormed p o). (((w.host, w.device), w.coherent), w.range))
    (Decides-and _ _
    (Decides-and _ _
    (Decides-and _ _ (Decides-eqb (length o.host_bytes) size) (Decides-eqb (length o.device_bytes) size))
    (equal_where (is_coherent p o.memory_type) _ o.host_bytes o.device_bytes
    (bytes_eq-Decides o.host_bytes o.device_bytes)))
    (range_within o.mapped o.size))

-- Calls keep whole objects whole.

length-bytes : (seen : Bool) (size byte : ℕ) → length (cond seen (replicate size byte) []) ≡ cond seen size 0
length-bytes true size byte = length-replicate size byte
length-bytes false size byte = refl

first_bytes : (coherent : Bool) (bytes : ℕ → List ℕ) → IsTrue coherent → bytes (cond coherent 0 238) ≡ bytes 0
first_bytes true bytes is = refl
first_bytes false bytes is = absurd (let no : false ≡ true = is in cc)

pub new_is_whole : (p : Properties) (size t : ℕ) → IsWhole p (new_object p size t)
new_is_whole p size t = record {
  well_formed = record {
    host = length-bytes (is_host_visible p t) size _;
    device = length-bytes (is_host_visible p t) size 0;
    coherent = first_bytes (is_coherent p t) (new_bytes p size t);
    range = tt;
  };
  mapped_bytes = tt;
}

cond_within : (seen : Bool) (size : ℕ) → cond seen size 0 ≤ size
cond_within true size = omega arith
cond_within false size = omega arith

in_bytes : (range : Option (ℕ × ℕ)) (o : Object) → HasBytes range o
    → IfSome range (λ r. r.0 + r.1 ≤ length o.host_bytes)
in_bytes None o has = tt
in_bytes (Some r) o has = has.host

ends_within_size : (range : Option (ℕ × ℕ)) (bytes size : ℕ) → bytes ≤ size → IfSome range (λ r. r.0 + r.1 ≤ bytes)
    → IfSome range (λ r. r.0 + r.1 ≤ size)
ends_within_size None bytes size le is = tt
ends_within_size (Some r) bytes size le is = omega arith

module _ (p : Properties) (o : Object) (w : IsWhole p o) where
  pub alike : length o.host_bytes ≡ length o.device_bytes
  alike = w.well_formed.host ∙ sym w.well_formed.device

  pub mapped_is_whole : (range : Option (ℕ × ℕ)) → HasBytes range o → IsWhole p (mapped_as range o)
  mapped_is_whole range has = record {
    well_formed = record {
      host = w.well_formed.host;
      device = w.well_formed.device;
      coherent = w.well_formed.coherent;
      range = ends_within_size range (length o.host_bytes) o.size
          (subst (λ n. n ≤ o.size) (sym w.well_formed.host) (cond_within (is_host_visible p o.memory_type) o.size))
          (in_bytes range o has);
    };
    mapped_bytes = in_bytes range o has;
  }

  pub copied_is_whole : (way : Direction) (offset size : ℕ) → IsWhole p (copied way offset size o)
  copied_is_whole ToDevice offset size = record {
    well_formed = record {
      host = w.well_formed.host;
      device = length-with_range offset size o.host_bytes o.device_bytes alike ∙ w.well_formed.device;
      coherent = λ is.
          let e = w.well_formed.coherent is in
          sym (ap (λ l. with_range offset size o.host_bytes l) (sym e) ∙ with_range-same offset size o.host_bytes);
      range = w.well_formed.range;
    };
    mapped_bytes = w.mapped_bytes;
  }
  copied_is_whole ToHost offset size =
      let long = length-with_range offset size o.device_bytes o.host_bytes (sym alike) in record {
        well_formed = record {
          host = long ∙ w.well_formed.host;
          device = w.well_formed.device;
          coherent = λ is.
              let e = w.well_formed.coherent is in
              ap (λ l. with_range offset size o.device_bytes l) e ∙ with_range-same offset size o.device_bytes;
          range = w.well_formed.range;
        };
        mapped_bytes = subst (λ n. IfSome o.mapped (λ r. r.0 + r.1 ≤ n)) (sym long) w.mapped_bytes;
      }

module _ (offset : ℕ) (bytes : List ℕ) where
  length-where : (coherent : Bool) (xs : List ℕ) → offset + length bytes ≤ length xs
      → length (cond coherent (bytes_written offset bytes xs) xs) ≡ length xs
  length-where true xs fits = length-written offset bytes xs fits
  length-where false xs fits = refl

  written_both : (coherent : Bool) (xs ys : List ℕ) → (IsTrue coherent → xs ≡ ys) → IsTrue coherent
      → bytes_written offset bytes xs ≡ cond coherent (bytes_written offset bytes ys) ys
  written_both true xs ys same is = ap (bytes_written offset bytes) (same is)
  written_both false xs ys same is = absurd (let no : false ≡ true = is in cc)

  module _ (p : Properties) (o : Object) (w : IsWhole p o) (has : HasRange offset (length bytes) o) where
    pub put_by_host_is_whole : IsWhole p (put_by_host p offset bytes o)
    put_by_host_is_whole =
        let long = length-written offset bytes o.host_bytes has.host in record {
          well_formed = record {
            host = long ∙ w.well_formed.host;
            device = length-where (is_coherent p o.memory_type) o.device_bytes has.device ∙ w.well_formed.device;
            coherent = written_both (is_coherent p o.memory_type) o.host_bytes o.device_bytes w.well_formed.coherent;
            range = w.well_formed.range;
          };
          mapped_bytes = subst (λ n. IfSome o.mapped (λ r. r.0 + r.1 ≤ n)) (sym long) w.mapped_bytes;
        }

    pub put_by_device_is_whole : IsWhole p (put_by_device p offset bytes o)
    put_by_device_is_whole =
        let long = length-where (is_coherent p o.memory_type) o.host_bytes has.host in record {
          well_formed = record {
            host = long ∙ w.well_formed.host;
            device = length-written offset bytes o.device_bytes has.device ∙ w.well_formed.device;
            coherent = λ is.
                sym (written_both (is_coherent p o.memory_type) o.device_bytes o.host_bytes
                (λ is. sym (w.well_formed.coherent is)) is);
            range = w.well_formed.range;
          };
          mapped_bytes = subst (λ n. IfSome o.mapped (λ r. r.0 + r.1 ≤ n)) (sym long) w.mapped_bytes;
        }

-- Whole objects by name.

some_where : (P : Object → Type 0) (b : Bool) (x y : Option Object) → IfSome x P → IfSome y P → IfSome (cond b x y) P
some_where P true x y is is' = is
some_where P false x y is is' = is'

-- what holds of an object that may be there holds of the one that is
some_is : (P : Object → Type 0) (found : Option Object) (o : Object) → IfSome found P → found ≡ Some o → P o
some_is P None o is e = absurd (cc)
some_is P (Some x) o is e = let same : x ≡ o = cc in subst P same is

module _ (p : Properties) (objects : FinMap nat_cmp Object) where
  pub whole_at : (name : ℕ) (o : Object) → AreWhole p objects → map.get objects name ≡ Some o → IsWhole p o
  whole_at name o whole e = some_is (IsWhole p) (map.get objects name) o (whole name) e

  pub whole-insert : (name : ℕ) (o : Object) → AreWhole p objects → IsWhole p o → AreWhole p (map.insert objects name o)
  whole-insert name o whole w q =
      subst (λ found. IfSome found (IsWhole p)) (sym (map.get-insert nat_cmp_total objects name o q))
      (some_where (IsWhole p) (eq_by_cmp nat_cmp q name) (Some o) (map.get objects q) w (whole q))

  pub whole-remove : (name : ℕ) → AreWhole p objects → AreWhole p (map.remove objects name)
  whole-remove name whole q =
      subst (λ found. IfSome found (IsWhole p)) (sym (map.get-remove nat_cmp_total objects name q))
      (some_where (IsWhole p) (eq_by_cmp nat_cmp q name) None (map.get objects q) tt (whole q))

pub whole-empty : (p : Properties) → AreWhole p map.empty
whole-empty p q = subst (λ found. IfSome found (IsWhole p)) (sym (map.get-empty nat_cmp q)) tt

-- How they are shown.

same_test : (q name : ℕ) → eq_by_cmp nat_cmp q name ≡ (q == name)
same_test q name = grind (arith, nat_tests)

module _ (test : Object → Bool) where
  shown_some : (o : Object) → test o ≡ true → shown_if test (Some o) ≡ Some o
  shown_some o is = ap (λ b. cond b (Some o) None) is

  shown_cond : (b : Bool) (x y : Option Object)
      → shown_if test (cond b x y) ≡ cond b (shown_if test x) (shown_if test y)
  shown_cond true x y = refl
  shown_cond false x y = refl

  passes : (b : Bool) (x o : Object) → cond b (Some x) None ≡ Some o → (b ≡ true) × (x ≡ o)
  passes true x o e = (refl, cc)
  passes false x o e = absurd (cc)

  found_shown : (found : Option Object) (o : Object) → shown_if test found ≡ Some o → found ≡ Some o
  found_shown None o e = absurd (cc)
  found_shown (Some x) o e = ap (λ o. Some o) (passes (test x) x o e).1

  pub shown_passes : (found : Option Object) → IfSome (shown_if test found) (λ o. test o ≡ true)
  shown_passes None = tt
  shown_passes (Some x) = by (test x) refl
    where
      by : (b : Bool) → test x ≡ b → IfSome (cond b (Some x) None) (λ o. test o ≡ true)
      by true e = e
      by false e = tt

module _ (p : Properties) (objects : FinMap nat_cmp Object) (name : ℕ) where
  -- what is shown is held
  pub held_once_shown : (o : Object) → shown p objects name ≡ Some o → map.get objects name ≡ Some o
  held_once_shown o e = found_shown (is_well_formed p) (map.get objects name) o e

  -- what is held and whole is shown
  pub shown_once_held : (o : Object) → map.get objects name ≡ Some o → IsWhole p o → shown p objects name ≡ Some o
  shown_once_held o e w =
      ap (shown_if (is_well_formed p)) e
      ∙ shown_some (is_well_formed p) o ((decides_well_formed p o).1 w.well_formed)

  pub shown-insert : (o : Object) → IsWhole p o
      → shown p (map.insert objects name o) ≡ put (shown p objects) name (Some o)
  unfolding put
  shown-insert o w =
      fun_ext (λ q. ap (shown_if (is_well_formed p)) (map.get-insert nat_cmp_total objects name o q
      ∙ ap (λ b. cond b (Some o) (map.get objects q)) (same_test q name))
      ∙ shown_cond (is_well_formed p) (q == name) (Some o) (map.get objects q)
      ∙ ap (λ s. cond (q == name) s (shown p objects q))
      (shown_some (is_well_formed p) o ((decides_well_formed p o).1 w.well_formed)))

  pub shown-remove : shown p (map.remove objects name) ≡ put (shown p objects) name None
  unfolding put
  shown-remove =
      fun_ext (λ q. ap (shown_if (is_well_formed p)) (map.get-remove nat_cmp_total objects name q
      ∙ ap (λ b. cond b None (map.get objects q)) (same_test q name))
      ∙ shown_cond (is_well_formed p) (q == name) None (map.get objects q))
