-- Ranges of objects that are copied one after another.
use Rattle.std.proofs.Common.{◌≡◌, ◌≢◌, ◌⊎◌, inl, inr, ℕ, zero, suc, ◌+◌, ◌-◌, ◌<◌, ◌≤◌, List, [], ◌∷◌, ◌++◌, length, map, get_or, slice_get, Option, Some, refl, ap, sym, subst, ◌∙◌, arith}
use Rattle.std.proofs.lemmas.List.{length-map, length-append, length-take, length-drop}
use Rattle.std.proofs.lemmas.Option.{slice_get-map, slice_get_within}
use Rattle.std.specs.FinMap as finite
use Rattle.std.specs.Option.{option_map}
use Rattle.std.specs.FinMap.{FinMap}
use Rattle.std.specs.Ordering.{nat_cmp}
use Rattle.gpu_alloc_types.specs.Device.{Object, Range, HeldWith}
use Rattle.gpu_alloc_base.proofs.Names.{one_or_two, get_put, get_put-other}
use Rattle.gpu_sim.specs.Bytes.{size_of_part, with_range}
use Rattle.gpu_sim.specs.Objects.{ChangesAt, CopiesEach, HasRange, copied}
use Rattle.gpu_sim.specs.Sim.{latest}
use Rattle.gpu_sim.specs.declared.sim.bytes.Direction.{Direction}
use Rattle.gpu_sim.specs.declared.sim.bytes.Direction.TheVariants.{ToDevice, ToHost}
use Rattle.gpu_sim.specs.declared.sim.bytes.Part.{Part}

module _ {X Y : Type 0} (f : X → Y) where
  pub item_of_map : (xs : List X) (k : ℕ) (x : X) → x ≡ get_or xs k x → get_or (map f xs) k (f x) ≡ f x
  item_of_map [] k x is = refl
  item_of_map (y ∷ xs) zero x is = ap f (sym is)
  item_of_map (y ∷ xs) (suc k) x is = item_of_map xs k x is

-- the last of some ranges is reported
pub latest_at : (told : Option Range) (rs : List Range) (k : ℕ) (r : Range) → k + 1 ≡ length rs → slice_get rs k ≡ Some r → latest told rs ≡ Some r
latest_at told [] k r len is = absurd (cc)
latest_at told (x ∷ []) zero r len is = is
latest_at told (x ∷ []) (suc k) r len is = absurd (cc)
latest_at told (x ∷ y ∷ rs) zero r len is = absurd (let no : 1 ≡ length (x ∷ y ∷ rs) = len in omega (arith, no))
latest_at told (x ∷ y ∷ rs) (suc k) r len is = latest_at (Some x) (y ∷ rs) k r (omega arith) is

pub latest-map : {X : Type 0} (f : X → Range) (told : Option Range) (xs : List X) (x : X) → Some x ≡ slice_get xs (length xs - 1) → latest told (map f xs) ≡ Some (f x)
latest-map f told xs x is =
    let within : length xs - 1 < length xs = slice_get_within xs (length xs - 1) x (sym is) in
    latest_at told (map f xs) (length xs - 1) (f x) (omega (arith, within, length-map xs f)) (slice_get-map f xs (length xs - 1) ∙ ap (option_map f) (sym is))

-- one more range
pub copies-push : (way : Direction) (part : Part) (rs : List Range) (r : Range) (old mid new : FinMap nat_cmp Object) → CopiesEach way part rs old mid
    → ChangesAt (HasRange r.offset r.size) (copied way r.offset (size_of_part part r.size)) mid r.object new → CopiesEach way part (rs ++ r ∷ []) old new
copies-push way part [] r old mid new c last = (new, subst (λ m. ChangesAt (HasRange r.offset r.size) (copied way r.offset (size_of_part part r.size)) m r.object new) c last, refl)
copies-push way part (q ∷ rs) r old mid new c last = (c.0, c.1, copies-push way part rs r c.0 mid new c.2 last)

module _ (offset size : ℕ) (from to : List ℕ) (in_from : offset + size ≤ length from) (in_to : offset + size ≤ length to) where
  length-copied : length (with_range offset size from to) ≡ length to
  length-copied = simp (length-append, length-take, length-drop) (omega arith)

-- an object has the ranges that it had before a copy
range_kept : (way : Direction) (offset size : ℕ) (o : Object) → HasRange offset size o → (from n : ℕ) → HasRange from n o → HasRange from n (copied way offset size o)
range_kept ToDevice offset size o within from n has = record {
  host = has.host;
  device = subst (λ len. from + n ≤ len) (sym (length-copied offset size o.host_bytes o.device_bytes within.host within.device)) has.device;
}
range_kept ToHost offset size o within from n has = record {
  host = subst (λ len. from + n ≤ len) (sym (length-copied offset size o.device_bytes o.host_bytes within.device within.host)) has.host;
  device = has.device;
}

pub smaller_range : (offset size n : ℕ) (o : Object) → n ≤ size → HasRange offset size o → HasRange offset n o
smaller_range offset size n o le has = record { host = let h = has.host in omega arith; device = let h = has.device in omega arith }

same_found : (found : Option Object) (a b : Object) → found ≡ Some a → found ≡ Some b → a ≡ b
same_found found a b is is' = cc

module _ (way : Direction) (offset size : ℕ) (old : FinMap nat_cmp Object) (name : ℕ) (new : FinMap nat_cmp Object)
    (c : ChangesAt (HasRange offset size) (copied way offset size) old name new) where
  pub held_kept : (q from n : ℕ) → HeldWith (finite.get old) q (HasRange from n) → HeldWith (finite.get new) q (HasRange from n)
  held_kept q from n held = subst (λ objects. HeldWith (finite.get objects) q (HasRange from n)) (sym c.3) (by (one_or_two q name))
    where
      by : (q ≡ name) ⊎ (q ≢ name) → HeldWith (finite.get (finite.insert old name (copied way offset size c.0))) q (HasRange from n)
      by (inl same) =
          let there : finite.get old name ≡ Some held.0 = subst (λ k. finite.get old k ≡ Some held.0) same held.1 in (
            copied way offset size c.0,
            subst (λ k. finite.get (finite.insert old name (copied way offset size c.0)) k ≡ Some (copied way offset size c.0)) (sym same) (get_put old name (copied way offset size c.0)),
            range_kept way offset size c.0 c.2 from n (subst (HasRange from n) (same_found _ held.0 c.0 there c.1) held.2),
          )
      by (inr other) = (held.0, get_put-other old name (copied way offset size c.0) q other ∙ held.1, held.2)

  -- the change, of an object that has a greater range
  pub change_in : (whole n : ℕ) → size ≡ n → HeldWith (finite.get old) name (HasRange offset whole) → ChangesAt (HasRange offset whole) (copied way offset n) old name new
  change_in whole n is held = (c.0, c.1, subst (HasRange offset whole) (same_found _ held.0 c.0 held.1 c.1) held.2, subst (λ m. new ≡ finite.insert old name (copied way offset m c.0)) is c.3)
