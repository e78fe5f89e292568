-- Blocks for optimal resources and the pages of their objects.
use Rattle.std.proofs.Common.{◌≡◌, ◌≢◌, ◌⊎◌, inl, inr, ℕ, ◌+◌, ◌-◌, ◌*◌, ◌/◌, ◌%◌, ◌^◌, get_or, set, length, ◌<◌, ◌≤◌, Bool, true, false, List, Some, None, refl, sym, ◌∙◌, ap, subst, arith}
use Rattle.std.proofs.Math.Nat.{add-mul, div-lt_iff_lt-mul, le-div_iff_mul-le, lt-div-mul-add}
use Rattle.std.proofs.lemmas.List.{get_or-set_same, get_or-set_other, get_or_default}
use Rattle.std.proofs.lemmas.Nat.{pow_pos}
use Rattle.std.specs.FinMap as map
use Rattle.std.specs.FinMap.{FinMap}
use Rattle.std.specs.Option.{IsSome}
use Rattle.std.specs.Ordering.{nat_cmp}
use Rattle.gpu_alloc_base.specs.Sizes.{up}
use Rattle.gpu_alloc_base.proofs.Multiples.{multiple_from_mod}
use Rattle.gpu_alloc_base.proofs.Names.{one_or_two, put-cases, removed-cases}
use Rattle.gpu_alloc_base.proofs.PowersOfTwo.{power_of_bit}
use Rattle.gpu_alloc.specs.Allocation.{IsInPages}
use Rattle.gpu_alloc.specs.Owned.{AreTwo, IsSameBlock}
use Rattle.gpu_alloc.specs.Request.{IsGranularity}
use Rattle.gpu_alloc.specs.State.{Block, is_shared, span_of, AreSpansApart}
use Rattle.gpu_desk.specs.Pages.{ArePaged, ShareNoPage}
use Rattle.gpu_desk.specs.Tags.{tag_at}
use Rattle.gpu_desk.specs.declared.wish.Tag.{Tag}

-- Whole pages.

-- in pages of one byte all is in whole pages
pub in_bytes : (size : ℕ) (b : Block) → size ≤ b.size → IsInPages 1 size b
in_bytes size b enough shared = (omega arith, omega (arith, enough))

module _ (g : ℕ) (is : IsGranularity g) where
  some : 0 < g
  some = let power = power_of_bit g is.power in omega (arith, power.1, pow_pos power.0)

  up_holds : (n : ℕ) → n ≤ up n g
  up_holds n = let most = lt-div-mul-add {a = n + (g - 1)} {b = g} some in omega (arith, most, some)

  -- bytes on either side of a page's start are in two pages
  two_pages : (k x y : ℕ) → x < k * g → k * g ≤ y → x / g < y / g
  two_pages k x y before behind =
      let below = (div-lt_iff_lt-mul some).1 before in
      let past = (le-div_iff_mul-le some).1 behind in
      omega (arith, below, past)

  apart_by_pages : (offset size n x y : ℕ) → offset % g ≡ 0 → up n g ≤ size → offset ≤ x → x < offset + n
      → (y < offset) ⊎ (offset + size ≤ y) → x / g ≡ y / g → ⊥
  apart_by_pages offset size n x y begins holds from below (inl before) same =
      let at = multiple_from_mod g offset begins in
      let less = two_pages at.0 y x (omega (arith, before, at.1)) (omega (arith, from, at.1)) in
      omega (arith, less, same)
  apart_by_pages offset size n x y begins holds from below (inr behind) same =
      let at = multiple_from_mod g offset begins in
      let ends : (at.0 + (n + (g - 1)) / g) * g ≡ offset + up n g = add-mul at.0 ((n + (g - 1)) / g) g ∙ ap (λ k. k + up n g) (sym at.1) in
      let most = up_holds n in
      let less = two_pages (at.0 + (n + (g - 1)) / g) x y (omega (arith, ends, most, below)) (omega (arith, ends, holds, behind)) in
      omega (arith, less, same)

  module _ (live : FinMap nat_cmp Block) (tags : List Tag) (paged : ArePaged live tags g)
      (two : (n m : ℕ) (b c : Block) → n ≢ m → map.get live n ≡ Some b → map.get live m ≡ Some c → AreTwo b c) where
    -- Blocks that share no byte share no page either, where one is for an optimal resource and the other is not.
    pub share_no_page : ShareNoPage live tags g
    share_no_page key other a b at_key at_other optimal linear same x y of_a of_b page = by (is_shared a.kind) refl
      where
        differ : key ≢ other
        differ e = let one = subst (λ k. (tag_at tags k).optimal ≡ true) e optimal in cc

        apart : AreTwo a b
        apart = two key other a b differ at_key at_other

        beside : is_shared a.kind ≡ true → AreSpansApart (span_of a) (span_of b) → ⊥
        beside shared (inl others) = others same
        beside shared (inr (inl before)) =
            let pages = paged key a at_key optimal shared in
            apart_by_pages a.offset a.size (tag_at tags key).asked x y pages.0 pages.1 of_a.0 of_a.1 (inr (omega (arith, before, of_b.0))) page
        beside shared (inr (inr behind)) =
            let pages = paged key a at_key optimal shared in
            apart_by_pages a.offset a.size (tag_at tags key).asked x y pages.0 pages.1 of_a.0 of_a.1 (inl (omega (arith, behind, of_b.1))) page

        by : (b : Bool) → is_shared a.kind ≡ b → ⊥
        by true shared = beside shared apart.apart
        by false alone = (apart.objects).first alone same

-- What calls make of them.

none_paged : (live : FinMap nat_cmp Block) (tags : List Tag) (g : ℕ) → ((key : ℕ) → map.get live key ≡ None) → ArePaged live tags g
none_paged live tags g none key b at optimal = absurd (let not = none key in cc)

pub empty_paged : (tags : List Tag) (g : ℕ) → ArePaged map.empty tags g
empty_paged tags g = none_paged map.empty tags g (λ key. map.get-empty nat_cmp key)

module _ (live : FinMap nat_cmp Block) (tags : List Tag) (g : ℕ) (paged : ArePaged live tags g) where
  -- one more block, with a tag of its own
  pub put_paged : (key : ℕ) (b : Block) (new : List Tag) → ((other : ℕ) → IsSome (map.get live other) → tag_at new other ≡ tag_at tags other)
      → ((tag_at new key).optimal ≡ true → IsInPages g (tag_at new key).asked b) → ArePaged (map.insert live key b) new g
  put_paged key b new others this q c at optimal = elim (put-cases live key b q c at) [
    | inl (e, same) ↦ subst (λ n. IsInPages g (tag_at new n).asked c) (sym e) (subst (IsInPages g (tag_at new key).asked) (let is : b ≡ c = cc in is) (this (subst (λ n. (tag_at new n).optimal ≡ true) e optimal)))
    | inr (ne, was) ↦
        let as_before = others q (subst IsSome (sym was) refl) in
        subst (λ (t : Tag). IsInPages g t.asked c) (sym as_before) (paged q c was (subst (λ (t : Tag). t.optimal ≡ true) as_before optimal))
  ]

  -- one less
  pub out_paged : (key : ℕ) → ArePaged (map.remove live key) tags g
  out_paged key q c at optimal = let was = removed-cases live key q c at in paged q c was.1 optimal

  -- one block with another mapping
  pub over_paged : (key : ℕ) (b c : Block) → map.get live key ≡ Some b → IsSameBlock b c → ArePaged (map.insert live key c) tags g
  over_paged key b c at same = put_paged key c tags (λ other is. refl) (λ optimal. subst (IsInPages g (tag_at tags key).asked) (sym same.same) (paged key b at optimal))

  -- other values of the caller's
  pub retagged : (new : List Tag) → ((key : ℕ) → IsSome (map.get live key) → ((tag_at new key).asked ≡ (tag_at tags key).asked) × ((tag_at new key).optimal ≡ (tag_at tags key).optimal))
      → ArePaged live new g
  retagged new same key b at optimal =
      let is = same key (subst IsSome (sym at) refl) in
      subst (λ n. IsInPages g n b) (sym is.0) (paged key b at (sym is.1 ∙ optimal))

-- a tag with another value of the caller's is for as many bytes of the same sort
pub user_set : (tags : List Tag) (i : ℕ) (t : Tag) (user : ℕ) → i < length tags → t ≡ get_or tags i t → (key : ℕ)
    → ((tag_at (set tags i (record t { user = user })) key).asked ≡ (tag_at tags key).asked) × ((tag_at (set tags i (record t { user = user })) key).optimal ≡ (tag_at tags key).optimal)
user_set tags i t user within is key = elim (one_or_two (key % 2 ^ 32) i) [
  | inl e ↦
      let new : tag_at (set tags i (record t { user = user })) key ≡ record t { user = user } = ap (λ n. get_or (set tags i (record t { user = user })) n none) e ∙ get_or-set_same tags i (record t { user = user }) none within in
      let old : t ≡ tag_at tags key = is ∙ get_or_default tags i t none within ∙ ap (λ n. get_or tags n none) (sym e) in
      (ap (λ (q : Tag). q.asked) new ∙ ap (λ (q : Tag). q.asked) old, ap (λ (q : Tag). q.optimal) new ∙ ap (λ (q : Tag). q.optimal) old)
  | inr ne ↦
      let same : tag_at (set tags i (record t { user = user })) key ≡ tag_at tags key = get_or-set_other tags i (key % 2 ^ 32) (record t { user = user }) none ne in
      (ap (λ (q : Tag). q.asked) same, ap (λ (q : Tag). q.optimal) same)
]
  where
    none : Tag
    none = record { user = 0; asked = 0; optimal = false }
