-- Changes of one object of a device, one after another.
use Rattle.std.proofs.Common.{◌≡◌, ℕ, Bool, true, false, Option, Some, None, IfSome, refl, sym, ◌∙◌, ap, subst}
use Rattle.gpu_alloc_types.specs.Device.{Object, Range, Changes, IsMappedOver, IsUnmapped, put}
use Rattle.gpu_alloc_types.specs.Objects.{put-same, put-kept, put-put}
use Rattle.gpu_alloc_block.specs.Mapped.{IsOpened, IsClosed}

pub some_same : {X : Type 0} (a b : X) → Some a ≡ Some b → a ≡ b
some_same a b same = cc

module _ (f : ℕ → Option Object) (name : ℕ) where
  -- nothing is changed
  pub changes_none : (P : Object → Object → Type 0) (o : Object) → f name ≡ Some o → P o o → Changes P f name f
  changes_none P o is p = (o, is, (o, p, sym (put-kept f name (Some o) is)))

  -- what is changed is described otherwise
  pub changes_told : (P Q : Object → Object → Type 0) (g : ℕ → Option Object) → ((o new : Object) → P o new → Q o new)
      → Changes P f name g → Changes Q f name g
  changes_told P Q g told c = (c.0, c.1, (c.2.0, told c.0 c.2.0 c.2.1, c.2.2))

  -- what is changed, of an object of which something is known
  pub changes_of : (P Q : Object → Object → Type 0) (R : Object → Type 0) (g : ℕ → Option Object)
      → ((o new : Object) → R o → P o new → Q o new) → (o : Object) → f name ≡ Some o → R o → Changes P f name g
      → Changes Q f name g
  changes_of P Q R g told o is known c =
      let same : o ≡ c.0 = some_same o c.0 (sym is ∙ c.1) in
      (c.0, c.1, (c.2.0, told c.0 c.2.0 (subst R same known) c.2.1, c.2.2))

  -- the object that is there afterwards
  pub changed_there : (P : Object → Object → Type 0) (g : ℕ → Option Object) (c : Changes P f name g) → g name ≡ Some c.2.0
  changed_there P g c = ap (λ objects. objects name) c.2.2 ∙ put-same f name (Some c.2.0)

  -- one change and then another
  pub changes_twice : (P Q R : Object → Object → Type 0) (g h : ℕ → Option Object)
      → ((o mid new : Object) → P o mid → Q mid new → R o new) → Changes P f name g → Changes Q g name h
      → Changes R f name h
  changes_twice P Q R g h both c d =
      let same : c.2.0 ≡ d.0 = some_same c.2.0 d.0 (sym (changed_there P g c) ∙ d.1) in
      let there : h ≡ put (put f name (Some c.2.0)) name (Some d.2.0) = d.2.2 ∙ ap (λ objects. put objects name (Some d.2.0)) c.2.2 in (
        c.0,
        c.1,
        (d.2.0, both c.0 c.2.0 d.2.0 c.2.1 (subst (λ o. Q o d.2.0) (sym same) d.2.1), there ∙ put-put f name (Some c.2.0) (Some d.2.0)),
      )

-- An object is changed so while a range of it is mapped.
abbrev pub HoldsWhileMapped : (Object → Object → Type 0) → Range → Type 0
HoldsWhileMapped P r = (o held changed new : Object) → o.mapped ≡ None → IsMappedOver r o held → IsUnmapped changed new
    → P held changed → P o new

-- a change that is made while a range is mapped, unless the object is shared, is one from before the mapping to after it
pub changes_between : (P : Object → Object → Type 0) (r : Range) → HoldsWhileMapped P r → (shared : Bool)
    → (f g h end : ℕ → Option Object) (o : Object) → f r.object ≡ Some o → (shared ≡ false → o.mapped ≡ None)
    → IsOpened shared r f g → Changes P g r.object h → IsClosed shared r.object h end → Changes P f r.object end
changes_between P r holds true f g h end o is unmapped opened c closed =
    subst (λ objects. Changes P f r.object objects) (sym closed) (subst (λ objects. Changes P objects r.object h) opened c)
changes_between P r holds false f g h end o is unmapped opened c closed =
    let first = changes_of f r.object (IsMappedOver r) (λ x y. (x.mapped ≡ None) × IsMappedOver r x y) (λ x. x.mapped ≡ None) g (λ x y none over. (none, over)) o is (unmapped refl) opened in
    let Opens : Object → Object → Type 0 = λ x y. (mid : Object) × ((x.mapped ≡ None) × IsMappedOver r x mid) × P mid y in
    let both = changes_twice f r.object (λ x y. (x.mapped ≡ None) × IsMappedOver r x y) P Opens g h (λ x mid y over p. (mid, over, p)) first c in
    changes_twice f r.object Opens IsUnmapped P h end (λ x mid y through done. holds x through.0 mid y through.1.0 through.1.1 done through.2) both closed

-- what is known of an option's value
pub some_known : {X : Type 0} (x : Option X) (value : X) (P : X → Type 0) → x ≡ Some value → IfSome x P → P value
some_known None value P is known = absurd (cc)
some_known (Some other) value P is known = subst P (some_same other value is) known
