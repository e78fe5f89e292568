-- What is made of the tiles of a slab, one after another: all of it, and nothing twice.
use Rattle.std.proofs.Common.{◌≡◌, ◌≢◌, inl, inr, ◌≤◌, ℕ, ◌+◌, Bool, false, List, [], ◌∷◌, ◌++◌, append_assoc, Contains, Option, Some, None, refl, sym, ◌∙◌, ap, arith}
use Rattle.std.proofs.lemmas.List.{append-nil}
use Rattle.std.specs.List.{AllByRecursion, IsDistinct}
use Rattle.std.proofs.lemmas.Map.Keys.{IsDistinct-cons}
use Rattle.slab.specs.Slab.{Slab, entries, entries_from, get}
use Rattle.slab.proofs.SlabLemmas.{Contains-cons, Contains-entries}
use Rattle.gpu_alloc_base.proofs.Lists.{contains_cases, contains_head, contains_later, contains_none}
use Rattle.gpu_alloc_runs.specs.Inside.{listed, made_of}
use Rattle.gpu_alloc_runs.specs.declared.tile.Node.{Node}
use Rattle.gpu_alloc_runs.specs.declared.tile.Tile.{Tile}

-- the tiles that are left are of the slab, and with what was made they make all
pub record AreMade {Y : Type 0} (h : Tile → Option Y) (nodes : Slab Node) (old now : List Y) (rest : List (ℕ × Node)) : Type 0 where
  pub own : (k : ℕ) (n : Node) → Contains rest (k, n) → get nodes k ≡ Some n
  pub all : now ++ made_of h rest ≡ old ++ made_of h (entries nodes)

module _ {Y : Type 0} (h : Tile → Option Y) (nodes : Slab Node) (old : List Y) where
  pub none_made : (rest : List (ℕ × Node)) → rest ≡ entries nodes → AreMade h nodes old old rest
  none_made rest is = record { own = λ k n has. (Contains-entries nodes k n).0 (rw is at has); all = ap (λ r. old ++ made_of h r) is }

  made_front : (o : Option Y) (xs : List Y) (k : ℕ) (n : Node) (rest : List (ℕ × Node)) → h n.tile ≡ o → listed o ++ made_of h rest ≡ made_of h ((k, n) ∷ rest)
  made_front None xs k n rest e = rw e refl
  made_front (Some y) xs k n rest e = rw e refl

  -- those that are left go on with one
  module _ (before : List Y) (left rest : List (ℕ × Node)) (k : ℕ) (n : Node) (step : left ≡ (k, n) ∷ rest) (made : AreMade h nodes old before left) where
    pub own_here : get nodes k ≡ Some n
    own_here = made.own k n (rw step (contains_head (k, n) rest))

    pub one_made : (after : List Y) → after ≡ before ++ listed (h n.tile) → AreMade h nodes old after rest
    one_made after more = record {
      own = λ q m has. made.own q m (rw step (Contains-cons _ _ _ has));
      all =
          ap (λ l. l ++ made_of h rest) more ∙ append_assoc before (listed (h n.tile)) (made_of h rest) ∙ ap (λ l. before ++ l) (made_front (h n.tile) [] k n rest refl)
          ∙ ap (λ l. before ++ made_of h l) (sym step) ∙ made.all;
    }

  -- none are left
  pub all_made : (now : List Y) (rest : List (ℕ × Node)) → rest ≡ [] → AreMade h nodes old now rest → now ≡ old ++ made_of h (entries nodes)
  all_made now rest none made = sym (append-nil now) ∙ ap (λ r. now ++ made_of h r) (sym none) ∙ made.all

  -- Nothing twice, where two tiles make nothing that is equal.
  module _ (eq : Y → Y → Bool) (differ : (i k : ℕ) (a b : Node) (y z : Y) → get nodes i ≡ Some a → get nodes k ≡ Some b → i ≢ k → h a.tile ≡ Some y → h b.tile ≡ Some z → eq y z ≡ false) where
    later_keys : (first : ℕ) (slots : List (Option Node)) (e : ℕ × Node) → Contains (entries_from first slots) e → first ≤ e.0
    later_keys first [] e has = absurd (contains_none e has)
    later_keys first (None ∷ slots) e has = let more = later_keys (first + 1) slots e has in omega (arith, more)
    later_keys first (Some n ∷ slots) e has = elim (contains_cases (first, n) e (entries_from (first + 1) slots) has) [
      | inl is ↦ let here : e.0 ≡ first = ap (λ (x : ℕ × Node). x.0) is in omega (arith, here)
      | inr rest ↦ let more = later_keys (first + 1) slots e rest in omega (arith, more)
    ]

    others : (y : Y) (es : List (ℕ × Node)) → ((e : ℕ × Node) (z : Y) → Contains es e → h e.1.tile ≡ Some z → eq y z ≡ false) → AllByRecursion (λ z. eq y z ≡ false) (made_of h es)
    others y [] none = tt
    others y (e ∷ es) none = cases (others y es (λ d z has is. none d z (contains_later e d es has) is)) (h e.1.tile) refl
      where
        cases : AllByRecursion (λ z. eq y z ≡ false) (made_of h es) → (o : Option Y) → h e.1.tile ≡ o → AllByRecursion (λ z. eq y z ≡ false) (made_of h (e ∷ es))
        cases rest None is = rw is rest
        cases rest (Some z) is = rw is (none e z (contains_head e es) is, rest)

    distinct_from : (first : ℕ) (slots : List (Option Node)) → ((e : ℕ × Node) → Contains (entries_from first slots) e → get nodes e.0 ≡ Some e.1) → IsDistinct eq (made_of h (entries_from first slots))
    unfolding IsDistinct
    distinct_from first [] own = tt
    distinct_from first (None ∷ slots) own = distinct_from (first + 1) slots own
    distinct_from first (Some n ∷ slots) own =
        cases (distinct_from (first + 1) slots (λ e has. own e (contains_later (first, n) e (entries_from (first + 1) slots) has))) (h n.tile) refl
      where
        cases : IsDistinct eq (made_of h (entries_from (first + 1) slots)) → (o : Option Y) → h n.tile ≡ o → IsDistinct eq (made_of h ((first, n) ∷ entries_from (first + 1) slots))
        cases rest None is = rw is rest
        cases rest (Some y) is =
            rw is (IsDistinct-cons eq y (made_of h (entries_from (first + 1) slots)) (others y (entries_from (first + 1) slots) (λ e z has made.
            let more = later_keys (first + 1) slots e has in
            differ first e.0 n e.1 y z (own (first, n) (contains_head (first, n) (entries_from (first + 1) slots))) (own e (contains_later (first, n) e (entries_from (first + 1) slots) has)) (λ same. omega (arith, same, more)) is made)) rest)

    pub made_once : IsDistinct eq (made_of h (entries nodes))
    made_once = distinct_from 0 nodes.slots (λ e has. (Contains-entries nodes e.0 e.1).0 has)
