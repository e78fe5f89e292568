-- Live blocks against the live spans, and spans in another order.
use Rattle.std.proofs.Common.{◌≡◌, ◌≢◌, ℕ, ◌<◌, Bool, true, false, List, [], ◌∷◌, map, length, get_or, arith, refl, sym, ◌∙◌, ap, subst}
use Rattle.std.proofs.lemmas.Bool.Decides.{same_from_decides}
use Rattle.std.proofs.lemmas.List.Elements.{recursion_from_All}
use Rattle.std.proofs.lemmas.List.Sorted.{list_any-IsPermutation}
use Rattle.std.proofs.lemmas.Map.Keys.{IsDistinct-cons, IsDistinct-tail, IsDistinct-IsPermutation}
use Rattle.std.specs.List.{Contains, IsDistinct}
use Rattle.std.proofs.lemmas.List.{length-map, get_or-map}
use Rattle.std.specs.List.Sorted.{IsNonDecreasingBy, IsPermutation}
use Rattle.std.specs.Ordering.{eq_by_cmp}
use Rattle.std.specs.FinSet as set
use Rattle.gpu_alloc.specs.Listing.{AreOnce}
use Rattle.gpu_alloc.specs.Spans.{span_in}
use Rattle.gpu_alloc.specs.State.{Span, span_cmp, State, IsLive}
use Rattle.gpu_alloc_base.specs.declared.buddy_block.Leaf.{Leaf as LiveSpan}
use Rattle.gpu_alloc_base.proofs.Lists.{head_is_other}
use Rattle.gpu_alloc_base.proofs.ListSets.{in_set}
use Rattle.gpu_alloc_base.proofs.ListViews.{contains_name}
use Rattle.gpu_alloc_block.proofs.LiveSpans.{span_total, span_exact, span_test}
use Rattle.gpu_report.specs.Live.{live_block_span}
use Rattle.gpu_report.specs.declared.live.LiveBlock.{LiveBlock}
use Rattle.gpu_report.proofs.Members.{each_member}

-- a span in the list of the live ones is live
pub live_listed : (s : State) (spans : List Span) → set.from_list spans ≡ s.live → (x : Span) → Contains spans x → IsLive s x
live_listed s spans is x has = subst (λ (l : set.FinSet span_cmp). set.contains l x ≡ true) is ((in_set span_cmp span_total span_exact spans x).1 has)

-- and the other way round
pub listed_live : (s : State) (spans : List Span) → set.from_list spans ≡ s.live → (x : Span) → IsLive s x → Contains spans x
listed_live s spans is x live = (in_set span_cmp span_total span_exact spans x).0 (subst (λ (l : set.FinSet span_cmp). set.contains l x ≡ true) (sym is) live)

-- what is not true
is_false : (b : Bool) → (b ≡ true → ⊥) → b ≡ false
is_false true not_so = absurd (not_so refl)
is_false false not_so = refl

-- the two have one span
abbrev pub same_span : LiveBlock → LiveBlock → Bool
same_span b c = eq_by_cmp span_cmp (live_block_span b) (live_block_span c)

pub span_other : (b c : LiveBlock) → same_span b c ≡ false → live_block_span b ≢ live_block_span c
span_other b c other same = let one = (span_test (live_block_span b) (live_block_span c)).1 same in absurd (cc)

-- of blocks whose spans stand once, no two have one span
pub once_distinct : (live : List LiveBlock) → AreOnce (map live_block_span live) → IsDistinct same_span live
unfolding IsDistinct
once_distinct [] once = once
once_distinct (b ∷ bs) once =
    IsDistinct-cons same_span b bs (recursion_from_All _ _ (each_member (λ c. same_span b c ≡ false) bs (λ c has.
    is_false _ (λ e. once.0 (live_block_span c) (contains_name live_block_span bs c has) (sym ((span_test (live_block_span b) (live_block_span c)).0 e))))))
    (once_distinct bs once.1)

-- Spans in another order.

abbrev one_span : Span → Span → Bool
one_span x y = eq_by_cmp span_cmp x y

one_span-flips : (x y : Span) → one_span x y ≡ one_span y x
one_span-flips x y = same_from_decides _ _ (span_test x y) ((λ e. sym ((span_test y x).0 e)), (λ e. (span_test y x).1 (sym e)))

to_distinct : (xs : List Span) → AreOnce xs → IsDistinct one_span xs
unfolding IsDistinct
to_distinct [] once = once
to_distinct (x ∷ xs) once =
    IsDistinct-cons one_span x xs (recursion_from_All _ _ (each_member (λ y. one_span x y ≡ false) xs (λ y has.
    is_false _ (λ e. once.0 y has (sym ((span_test x y).0 e)))))) (to_distinct xs once.1)

from_distinct : (xs : List Span) → IsDistinct one_span xs → AreOnce xs
from_distinct [] apart = tt
from_distinct (x ∷ xs) apart = (
  λ y has same. let no = head_is_other one_span x y xs apart has in let yes = (span_test x y).1 (sym same) in absurd (cc),
  from_distinct xs (IsDistinct-tail one_span x xs apart),
)

pub once_permuted : (xs ys : List Span) → IsPermutation xs ys → AreOnce xs → AreOnce ys
once_permuted xs ys perm once = from_distinct ys (IsDistinct-IsPermutation one_span one_span-flips xs ys perm (to_distinct xs once))

pub set_permuted : (xs ys : List Span) → IsPermutation xs ys → set.from_list {R = span_cmp} ys ≡ set.from_list xs
set_permuted xs ys perm = set.same_set span_total span_exact _ _ (λ q.
    set.contains-from_list span_total ys q ∙ sym (list_any-IsPermutation (eq_by_cmp span_cmp q) xs ys perm) ∙ sym (set.contains-from_list span_total xs q))

nothing : LiveSpan
nothing = record { object = 0; offset = 0; size = 0; chunk = 0; index = 0 }

-- blocks rise by object where the spans that they have do
pub told_rises : (live : List LiveBlock) (spans : List LiveSpan) → map live_block_span live ≡ map span_in spans → IsNonDecreasingBy (λ s. s.object) spans → IsNonDecreasingBy (λ b. b.object) live
told_rises live spans told up i j d le lt =
    let count : length live ≡ length spans = sym (length-map live live_block_span) ∙ ap length told ∙ length-map spans span_in in
    let same = λ (k : ℕ) (in_live : k < length live). (
    ap (λ (x : Span). x.object) (sym (get_or-map live_block_span live k d (live_block_span d) in_live) ∙ ap (λ xs. get_or xs k (live_block_span d)) told ∙ get_or-map span_in spans k nothing (live_block_span d) (omega (arith, count)))) in
    let at_i = same i (omega arith) in
    let at_j = same j lt in
    omega (arith, at_i, at_j, up i j nothing le (omega (arith, count)))
