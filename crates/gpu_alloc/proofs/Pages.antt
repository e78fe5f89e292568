-- Pages of a granularity, which a block in whole pages shares with no other.
use Rattle.std.proofs.Common.{◌≡◌, ◌≢◌, inl, inr, ℕ, ◌+◌, ◌-◌, ◌*◌, ◌/◌, ◌%◌, ◌<◌, ◌≤◌, Bool, true, false, sym, subst, refl, arith}
use Rattle.std.proofs.Math.Nat.{div-lt_iff_lt-mul, lt-div-mul-add}
use Rattle.gpu_alloc_base.proofs.Multiples.{multiple_from_mod}
use Rattle.gpu_alloc_base.specs.Sizes.{up}
use Rattle.gpu_alloc.proofs.Atoms.{one_more}
use Rattle.gpu_alloc.specs.Allocation.{IsInPages}
use Rattle.gpu_alloc.specs.Owned.{AreTwo}
use Rattle.gpu_alloc.specs.Pages.{PagesApart, SharesNoPage}
use Rattle.gpu_alloc.specs.Request.{IsGranularity}
use Rattle.gpu_alloc_block.specs.State.{Block, is_shared}

module _ (g : ℕ) (some : 0 < g) where
  -- two bytes of which one lies before a page's start and the other doesn't are of two pages
  parted : (x y page : ℕ) → x < page * g → page * g ≤ y → x / g ≢ y / g
  parted x y page before behind same =
      let less : x / g < page = (div-lt_iff_lt-mul some).1 before in
      let also : y < page * g = (div-lt_iff_lt-mul some).0 (subst (λ z. z < page) same less) in
      let none : ⊥ = omega (arith, also, behind) in absurd none

  holds_all : (size : ℕ) → size ≤ up size g
  holds_all size = let above : size + (g - 1) < (size + (g - 1)) / g * g + g = lt-div-mul-add some in omega (arith, above, some)

  module _ (size : ℕ) (b c : Block) (start : b.offset % g ≡ 0) (whole : up size g ≤ b.size) where
    behind : b.offset + b.size ≤ c.offset → SharesNoPage g size b c
    behind after i j inside there same =
        let m = multiple_from_mod g b.offset start in
        let is = m.1 in
        let all = holds_all size in
        let pages = (size + (g - 1)) / g in
        let first : b.offset + i < (m.0 + pages) * g = omega (arith, is, all, inside) in
        let second : (m.0 + pages) * g ≤ c.offset + j = omega (arith, is, whole, after) in
        parted (b.offset + i) (c.offset + j) (m.0 + pages) first second

    before : c.offset + c.size ≤ b.offset → SharesNoPage g size b c
    before after i j inside there same together =
        let m = multiple_from_mod g b.offset start in
        let is = m.1 in
        let first : c.offset + j < m.0 * g = omega (arith, is, there, after) in
        let second : m.0 * g ≤ b.offset + i = omega (arith, is) in
        parted (c.offset + j) (b.offset + i) m.0 first second (sym together)

  of_kind : (size : ℕ) (b c : Block) (shared : Bool) → is_shared b.kind ≡ shared → IsInPages g size b → AreTwo b c → SharesNoPage g size b c
  of_kind size b c false own pages two = λ i j inside there same. absurd (two.objects.first own same)
  of_kind size b c true shared pages two = elim two.apart [
    | inl other ↦ λ i j inside there same. absurd (other same)
    | inr sides ↦
        let in_pages = pages shared in
        elim sides [
          | inl after ↦ behind size b c in_pages.0 in_pages.1 after
          | inr ahead ↦ before size b c in_pages.0 in_pages.1 ahead
        ]
  ]

pub pages_apart : PagesApart
pages_apart g size b c granularity pages two = of_kind g (positive g granularity) size b c (is_shared b.kind) refl pages two
  where
    positive : (g : ℕ) → IsGranularity g → 0 < g
    positive g is = let kept = one_more g is.power in omega (arith, kept)
