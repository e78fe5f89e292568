-- What is found under a name, in the maps of live blocks.
use Rattle.std.proofs.Common.{◌≡◌, inl, inr, ℕ, true, false, cond, nat_eq, Option, Some, None, refl, sym, ◌∙◌, ap, List}
use Rattle.std.specs.Option.{is_some}
use Rattle.std.specs.Map.{lookup}
use Rattle.std.specs.Ordering.{nat_cmp}
use Rattle.std.specs.Cmp.{nat_cmp_total}
use Rattle.std.specs.FinMap as finite
use Rattle.std.specs.FinMap.{nat_cmp-IsAntisymmetric}
use Rattle.gpu_alloc.specs.State.{Block}
use Rattle.gpu_session.specs.Books.{Books, with_block}
use Rattle.gpu_alloc_base.proofs.Names.{get_entries, get_put, get_put-other, is_there, one_or_two, put_by_name}

module _ {X : Type 0} where
  -- to put what is there changes nothing
  pub put_again : (m : finite.FinMap nat_cmp X) (name : ℕ) (x : X) → finite.get m name ≡ Some x → finite.insert m name x ≡ m
  put_again m name x there = finite.same_map nat_cmp_total nat_cmp-IsAntisymmetric _ _ (λ q. elim (one_or_two q name) [
    | inl same ↦ ap (finite.get (finite.insert m name x)) same ∙ get_put m name x ∙ sym (ap (finite.get m) same ∙ there)
    | inr other ↦ get_put-other m name x q other
  ])

  module _ (es : List (ℕ × X)) (name : ℕ) where
    -- a name that is not found has no block
    pub unnamed : is_some (lookup (nat_eq name) es) ≡ false → finite.get (finite.from_entries {R = nat_cmp} es) name ≡ None
    unnamed e = get_entries es name ∙ is_absent (lookup (nat_eq name) es) e
      where
        is_absent : (o : Option X) → is_some o ≡ false → o ≡ None
        is_absent None e = refl
        is_absent (Some x) e = absurd (let n : true ≡ false = e in cc)

    -- a name that is found has one
    pub named : is_some (lookup (nat_eq name) es) ≡ true → (x : X) × (finite.get (finite.from_entries {R = nat_cmp} es) name ≡ Some x)
    named e = let there = is_there (lookup (nat_eq name) es) e in (there.0, get_entries es name ∙ there.1)

    -- what is found under a name is its block
    pub found : (o : Option X) → o ≡ lookup (nat_eq name) es → finite.get (finite.from_entries {R = nat_cmp} es) name ≡ o
    found o is = get_entries es name ∙ sym is

-- What `get_mut` lends, and what becomes of it.
module _ {X : Type 0} (es : List (ℕ × X)) (name : ℕ) (x : X) (value : Some x ≡ lookup (nat_eq name) es) where
  -- it is the block of the name
  pub lent_at : finite.get (finite.from_entries {R = nat_cmp} es) name ≡ Some x
  lent_at = get_entries es name ∙ sym value

  module _ (w : X) (new : List (ℕ × X)) (through : is_some (lookup (nat_eq name) es) ≡ true → (q : ℕ) → lookup (nat_eq q) new ≡ cond (nat_eq name q) (Some w) (lookup (nat_eq q) es)) where
    -- what it was changed to is the name's from then on
    pub lent_put : finite.from_entries {R = nat_cmp} new ≡ finite.insert (finite.from_entries es) name w
    lent_put = put_by_name es new name w (through (ap is_some (sym value)))

    -- where it is as before, so are the names
    pub lent_back : w ≡ x → finite.from_entries {R = nat_cmp} new ≡ finite.from_entries {R = nat_cmp} es
    lent_back same = lent_put ∙ ap (finite.insert (finite.from_entries {R = nat_cmp} es) name) same ∙ put_again _ name x lent_at

-- Books with another block under a name.

pub placed : (s : Books) (name : ℕ) (x y : Block) → x ≡ y → with_block s name x ≡ with_block s name y
placed s name x y same = ap (with_block s name) same

-- with the same one they are as before
pub placed_again : (s : Books) (name : ℕ) (b x : Block) → finite.get s.blocks name ≡ Some b → x ≡ b → with_block s name x ≡ s
placed_again s name b x at same = placed s name x b same ∙ ap (λ (m : finite.FinMap nat_cmp Block). record s { blocks = m }) (put_again s.blocks name b at)
