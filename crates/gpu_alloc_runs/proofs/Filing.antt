-- Keys in the lists of classes: one comes into a list, and one is taken out.
use Rattle.std.proofs.Common.{◌≡◌, ◌≢◌, ◌↔◌, ◌⊎◌, ◌==◌, inl, inr, ℕ, cond, List, [], ◌∷◌, ◌++◌, Option, Some, None, refl, sym, ◌∙◌, ap, subst}
use Rattle.std.proofs.lemmas.Bool.{cases_eq}
use Rattle.std.proofs.lemmas.Bool.Decides.{Decides-eqb}
use Rattle.gpu_alloc_runs.specs.Classes.{AreFiled, IsChain, IsIn, IsListOf, IsOnce, above_in, below_in, filed_but}
use Rattle.gpu_alloc_runs.specs.declared.tile.TheConstants.{NONE}
use Rattle.gpu_alloc_runs.proofs.Tiles.{bit}

-- A choice by one key.

pub at_same : {A : Type 0} (j k : ℕ) (a b : A) → j ≡ k → cond (j == k) a b ≡ a
at_same j k a b same = ap (λ t. cond t a b) ((Decides-eqb j k).1 same)

pub at_other : {A : Type 0} (j k : ℕ) (a b : A) → j ≢ k → cond (j == k) a b ≡ b
at_other j k a b other = elim (bit (j == k)) [
  | inl yes' ↦ absurd (other ((Decides-eqb j k).0 yes'))
  | inr no' ↦ ap (λ t. cond t a b) no'
]

pub below_none : (first : ℕ) (down : ℕ → ℕ) → below_in first down NONE ≡ first
below_none first down = at_same NONE NONE first (down NONE) refl

pub below_key : (first : ℕ) (down : ℕ → ℕ) (k : ℕ) → k ≢ NONE → below_in first down k ≡ down k
below_key first down k some = at_other k NONE first (down k) some

pub above_first : (first : ℕ) (up : ℕ → ℕ) (k : ℕ) → k ≡ first → above_in first up k ≡ NONE
above_first first up k same = at_same k first NONE (up k) same

pub above_key : (first : ℕ) (up : ℕ → ℕ) (k : ℕ) → k ≢ first → above_in first up k ≡ up k
above_key first up k later = at_other k first NONE (up k) later

pub but_same : (filed : ℕ → Option ℕ) (x k : ℕ) (class : Option ℕ) → k ≡ x → filed_but filed x class k ≡ class
but_same filed x k class same = at_same k x class (filed k) same

pub but_other : (filed : ℕ → Option ℕ) (x k : ℕ) (class : Option ℕ) → k ≢ x → filed_but filed x class k ≡ filed k
but_other filed x k class other = at_other k x class (filed k) other

-- Chains.

-- a key of the list is not one that is not there
pub apart_in : (keys : List ℕ) (j k : ℕ) → IsIn keys j → (IsIn keys k → ⊥) → j ≢ k
apart_in keys j k is not same = not (subst (IsIn keys) same is)

-- without its key
pub record IsLess (keys less : List ℕ) (key : ℕ) : Type 0 where
  pub stays : (k : ℕ) → k ≢ key → IsIn keys k → IsIn less k
  pub was : (k : ℕ) → IsIn less k → IsIn keys k × (k ≢ key)
  pub once : IsOnce less

module _ (below up : ℕ → ℕ) where
  -- what is below a key is in the list, or none
  pub next_in : (above : ℕ) (keys : List ℕ) → IsChain below up above keys → (below above ≡ NONE) ⊎ IsIn keys (below above)
  next_in above [] chain = inl chain
  next_in above (k ∷ rest) chain = inr (inl chain.0)

  pub below_is_in : (above : ℕ) (keys : List ℕ) (key : ℕ) → IsChain below up above keys → IsIn keys key → (below key ≡ NONE) ⊎ IsIn keys (below key)
  below_is_in above [] key chain is = absurd is
  below_is_in above (k ∷ rest) key chain (inl same) = elim (next_in k rest chain.1.1) [
    | inl none ↦ inl (ap below same ∙ none)
    | inr later ↦ inr (inr (subst (λ q. IsIn rest (below q)) (sym same) later))
  ]
  below_is_in above (k ∷ rest) key chain (inr later) = elim (below_is_in k rest key chain.1.1 later) [
    | inl none ↦ inl none
    | inr is ↦ inr (inr is)
  ]

  -- what is above a key is in the list, or above all
  pub up_is_in : (above : ℕ) (keys : List ℕ) (key : ℕ) → IsChain below up above keys → IsIn keys key → (up key ≡ above) ⊎ IsIn keys (up key)
  up_is_in above [] key chain is = absurd is
  up_is_in above (k ∷ rest) key chain (inl same) = inl (ap up same ∙ chain.1.0)
  up_is_in above (k ∷ rest) key chain (inr later) = elim (up_is_in k rest key chain.1.1 later) [
    | inl first ↦ inr (inl first)
    | inr is ↦ inr (inr is)
  ]

  -- where a key is in the list, what is below the one above all is
  pub first_there : (above : ℕ) (keys : List ℕ) (key : ℕ) → IsChain below up above keys → IsIn keys key → IsIn keys (below above)
  first_there above [] key chain is = absurd is
  first_there above (k ∷ rest) key chain is = inl chain.0

  -- below what is above a key is the key
  pub below_up : (above : ℕ) (keys : List ℕ) (key : ℕ) → IsChain below up above keys → IsIn keys key → below (up key) ≡ key
  below_up above [] key chain is = absurd is
  below_up above (k ∷ rest) key chain (inl same) = ap below (ap up same ∙ chain.1.0) ∙ chain.0 ∙ sym same
  below_up above (k ∷ rest) key chain (inr later) = below_up k rest key chain.1.1 later

  -- what is below a key is not the first one
  pub not_back : (above : ℕ) (keys : List ℕ) (key : ℕ) → IsChain below up above keys → IsOnce keys → (IsIn keys NONE → ⊥) → IsIn keys key → below key ≢ below above
  not_back above [] key chain once keyed is back = absurd is
  not_back above (k ∷ rest) key chain once keyed is back =
      let next : (below key ≡ NONE) ⊎ IsIn rest (below key) = elim is [
        | inl same ↦ subst (λ q. (below q ≡ NONE) ⊎ IsIn rest (below q)) (sym same) (next_in k rest chain.1.1)
        | inr later ↦ below_is_in k rest key chain.1.1 later
      ] in
      elim next [
        | inl none ↦ keyed (inl (sym none ∙ back ∙ chain.0))
        | inr there ↦ once.0 (subst (IsIn rest) (back ∙ chain.0) there)
      ]

  -- one is the last
  pub ends : (above : ℕ) (keys : List ℕ) → IsChain below up above keys → (e : ℕ) × (((e ≡ above) ⊎ IsIn keys e) × (below e ≡ NONE))
  ends above [] chain = (above, (inl refl, chain))
  ends above (k ∷ rest) chain =
      let e = ends k rest chain.1.1 in
      (e.0, (inr e.1.0, e.1.1))

  module _ (below' up' : ℕ → ℕ) where
    pub same_chain : (above : ℕ) (keys : List ℕ) → IsChain below up above keys → below' above ≡ below above → ((k : ℕ) → IsIn keys k → (below' k ≡ below k) × (up' k ≡ up k)) → IsChain below' up' above keys
    same_chain above [] chain top same = top ∙ chain
    same_chain above (k ∷ rest) chain top same =
        let here = same k (inl refl) in
        (top ∙ chain.0, (here.1 ∙ chain.1.0, same_chain k rest chain.1.1 here.0 (λ j is. same j (inr is))))

    -- A key comes in front.
    module _ (key : ℕ) (front : below' NONE ≡ key) (next : below' key ≡ below NONE) (top : up' key ≡ NONE) (below_other : (k : ℕ) → k ≢ NONE → k ≢ key → below' k ≡ below k) (up_other : (k : ℕ) → k ≢ key → k ≢ below NONE → up' k ≡ up k) where
      pub chain_more : (keys : List ℕ) → IsChain below up NONE keys → IsOnce keys → (IsIn keys NONE → ⊥) → (IsIn keys key → ⊥) → (IsIn keys (below NONE) → up' (below NONE) ≡ key) → IsChain below' up' NONE (key ∷ keys)
      chain_more [] chain once keyed off second = (front, (top, next ∙ chain))
      chain_more (x ∷ rest) chain once keyed off second =
          let is_x : up' x ≡ key = ap up' (sym chain.0) ∙ second (inl chain.0) in (
            front,
            (
              top,
              (
                next ∙ chain.0,
                (
                  is_x,
                  same_chain x rest chain.1.1
                      (below_other x (apart_in (x ∷ rest) x NONE (inl refl) keyed) (apart_in (x ∷ rest) x key (inl refl) off))
                      (λ k is. (
                        below_other k (apart_in (x ∷ rest) k NONE (inr is) keyed) (apart_in (x ∷ rest) k key (inr is) off),
                        up_other k (apart_in (x ∷ rest) k key (inr is) off) (λ same. once.0 (subst (IsIn rest) (same ∙ chain.0) is)),
                      )),
                ),
              ),
            ),
          )

    -- A key comes at the end.
    module _ (key last : ℕ) (below_key' : below' key ≡ NONE) (over : below' last ≡ key) (top : up' key ≡ last) (was_last : below last ≡ NONE) (below_other : (k : ℕ) → k ≢ last → k ≢ key → below' k ≡ below k) (up_other : (k : ℕ) → k ≢ key → up' k ≡ up k) where
      pub chain_end : (above : ℕ) (keys : List ℕ) → IsChain below up above keys → (below above ≡ NONE → above ≡ last) → ((k : ℕ) → IsIn keys k → below k ≡ NONE → k ≡ last) → above ≢ key → (IsIn keys NONE → ⊥) → (IsIn keys key → ⊥)
          → IsChain below' up' above (keys ++ (key ∷ []))
      chain_end above [] chain here only ne keyed off = (ap below' (here chain) ∙ over, (top ∙ sym (here chain), below_key'))
      chain_end above (k ∷ rest) chain here only ne keyed off =
          let other : k ≢ key = (λ e. off (inl (sym e))) in (
            below_other above (λ e. keyed (inl (sym was_last ∙ ap below (sym e) ∙ chain.0))) ne ∙ chain.0,
            (up_other k other ∙ chain.1.0, chain_end k rest chain.1.1 (only k (inl refl)) (λ j is. only j (inr is)) other (λ is. keyed (inr is)) (λ is. off (inr is))),
          )

    -- A key is removed.
    module _ (key : ℕ) (over : below' (up key) ≡ below key) (below_other : (k : ℕ) → k ≢ up key → below' k ≡ below k) (up_other : (k : ℕ) → k ≢ NONE → k ≢ key → k ≢ below key → up' k ≡ up k) where
      -- the first one
      chain_rest : (above k : ℕ) (rest : List ℕ) → key ≡ k → up k ≡ above → IsChain below up k rest → IsOnce rest → (IsIn rest NONE → ⊥) → (IsIn rest key → ⊥) → (IsIn rest above → ⊥) → (IsIn rest (below key) → up' (below key) ≡ up key) → IsChain below' up' above rest
      chain_rest above k [] same top chain once keyed gone off under = ap below' (sym (ap up same ∙ top)) ∙ over ∙ ap below same ∙ chain
      chain_rest above k (y ∷ ys) same top chain once keyed gone off under =
          let is_up : up key ≡ above = ap up same ∙ top in
          let is_y : below key ≡ y = ap below same ∙ chain.0 in (
            ap below' (sym is_up) ∙ over ∙ is_y,
            (
              ap up' (sym is_y) ∙ under (inl is_y) ∙ is_up,
              same_chain y ys chain.1.1 (below_other y (λ e. off (inl (sym (e ∙ is_up))))) (λ j is. (
                below_other j (λ e. off (inr (subst (IsIn ys) (e ∙ is_up) is))),
                up_other j (apart_in (y ∷ ys) j NONE (inr is) keyed) (apart_in (y ∷ ys) j key (inr is) gone) (λ e. once.0 (subst (IsIn ys) (e ∙ is_y) is)),
              )),
            ),
          )

      pub chain_less : (above : ℕ) (keys : List ℕ) → IsChain below up above keys → IsOnce keys → (IsIn keys NONE → ⊥) → (IsIn keys above → ⊥) → IsIn keys key → (IsIn keys (below key) → up' (below key) ≡ up key)
          → (less : List ℕ) × (IsChain below' up' above less × IsLess keys less key)
      chain_less above [] chain once keyed off is under = absurd is
      chain_less above (k ∷ rest) chain once keyed off (inl same) under = (
        rest,
        (
          chain_rest above k rest same chain.1.0 chain.1.1 once.1 (λ is. keyed (inr is)) (λ is. once.0 (subst (IsIn rest) same is)) (λ is. off (inr is)) (λ is. under (inr is)),
          record {
            stays = λ j ne is. elim is [
              | inl here ↦ absurd (ne (here ∙ sym same))
              | inr later ↦ later
            ];
            was = λ j is. (inr is, λ e. once.0 (subst (IsIn rest) (e ∙ same) is));
            once = once.1;
          },
        ),
      )
      chain_less above (k ∷ rest) chain once keyed off (inr later) under =
          let rec = chain_less k rest chain.1.1 once.1 (λ is. keyed (inr is)) once.0 later (λ is. under (inr is)) in
          let not_up : above ≢ up key = λ e. elim (up_is_in k rest key chain.1.1 later) [
            | inl is ↦ off (inl (e ∙ is))
            | inr is ↦ off (inr (subst (IsIn rest) (sym e) is))
          ] in
          let not_below : k ≢ below key = λ e. elim (below_is_in k rest key chain.1.1 later) [
            | inl none ↦ keyed (inl (sym (e ∙ none)))
            | inr is ↦ once.0 (subst (IsIn rest) (sym e) is)
          ] in (
            k ∷ rec.0,
            (
              (below_other above not_up ∙ chain.0, (up_other k (apart_in (k ∷ rest) k NONE (inl refl) keyed) (λ e. once.0 (subst (IsIn rest) (sym e) later)) not_below ∙ chain.1.0, rec.1.0)),
              record {
                stays = λ j ne is. elim is [
                  | inl here ↦ inl here
                  | inr there ↦ inr (rec.1.1.stays j ne there)
                ];
                was = λ j is. elim is [
                  | inl here ↦ (inl here, λ e. once.0 (subst (IsIn rest) (sym e ∙ here) later))
                  | inr there ↦ let w = rec.1.1.was j there in (inr w.0, w.1)
                ];
                once = (λ is. once.0 (rec.1.1.was k is).0, rec.1.1.once);
              },
            ),
          )

-- Keys with one more at the end.

in_end : (keys : List ℕ) (key k : ℕ) → IsIn (keys ++ (key ∷ [])) k ↔ ((k ≡ key) ⊎ IsIn keys k)
in_end [] key k = (λ is. is, λ is. is)
in_end (j ∷ rest) key k = (
  (λ is. elim is [
    | inl here ↦ inr (inl here)
    | inr later ↦ elim ((in_end rest key k).0 later) [
      | inl new ↦ inl new
      | inr old ↦ inr (inr old)
    ]
  ]),
  (λ is. elim is [
    | inl new ↦ inr ((in_end rest key k).1 (inl new))
    | inr old ↦ elim old [
      | inl here ↦ inl here
      | inr later ↦ inr ((in_end rest key k).1 (inr later))
    ]
  ]),
)

once_end : (keys : List ℕ) (key : ℕ) → IsOnce keys → (IsIn keys key → ⊥) → IsOnce (keys ++ (key ∷ []))
once_end [] key once off = ((λ is. is), tt)
once_end (j ∷ rest) key once off = (
  (λ is. elim ((in_end rest key j).0 is) [
    | inl same ↦ off (inl (sym same))
    | inr old ↦ once.0 old
  ]),
  once_end rest key once.1 (λ is. off (inr is)),
)

-- Lists of classes.

-- the first key of a list is in it, where any is
pub list_first : (filed : ℕ → Option ℕ) (first : ℕ) (up down : ℕ → ℕ) (class : ℕ) (keys : List ℕ) → IsListOf filed first up down class keys → (k : ℕ) → IsIn keys k → IsIn keys first
list_first filed first up down class keys is k has = subst (IsIn keys) (below_none first down) (first_there (below_in first down) (above_in first up) NONE keys k is.chain has)

-- a list stays that of its class
pub same_list : (filed filed' : ℕ → Option ℕ) (f f' : ℕ) (up down up' down' : ℕ → ℕ) (class : ℕ) (keys : List ℕ) → IsListOf filed f up down class keys → f' ≡ f → ((k : ℕ) → IsIn keys k → (up' k ≡ up k) × (down' k ≡ down k))
    → ((k : ℕ) → (filed k ≡ Some class) ↔ (filed' k ≡ Some class)) → IsListOf filed' f' up' down' class keys
same_list filed filed' f f' up down up' down' class keys is same_first same same_filed = record {
  chain = same_chain (below_in f down) (above_in f up) (below_in f' down') (above_in f' up') NONE keys is.chain (below_none f' down' ∙ same_first ∙ sym (below_none f down)) (λ k has.
      let some = apart_in keys k NONE has is.keyed in
      let s = same k has in
      (below_key f' down' k some ∙ s.1 ∙ sym (below_key f down k some), (λ i. cond (k == same_first i) NONE (s.0 i))));
  once = is.once;
  keyed = is.keyed;
  exact = λ k. (λ has. (same_filed k).0 ((is.exact k).0 has), λ filed_k. (is.exact k).1 ((same_filed k).1 filed_k));
  last = λ k has none. ap up' same_first ∙ (same f (list_first filed f up down class keys is k has)).0 ∙ is.last k has (sym (same k has).1 ∙ none);
}

module _ (filed : ℕ → Option ℕ) (first up down : ℕ → ℕ) (lists : AreFiled filed first up down) where
  -- the first key of a class is in its list, or none
  pub first_is : (class : ℕ) → (first class ≡ NONE) ⊎ IsIn (lists class).0 (first class)
  first_is class = subst (λ k. (k ≡ NONE) ⊎ IsIn (lists class).0 k) (below_none (first class) down) (next_in (below_in (first class) down) (above_in (first class) up) NONE (lists class).0 (lists class).1.chain)

  -- a key in no list is not in this one
  pub not_in : (key class : ℕ) → filed key ≡ None → IsIn (lists class).0 key → ⊥
  not_in key class off is = let on = ((lists class).1.exact key).0 is in cc

  module _ (first' up' down' : ℕ → ℕ) (key class : ℕ) (keyed : key ≢ NONE) (first_other : (c : ℕ) → c ≢ class → first' c ≡ first c) where
    abbrev f : ℕ
    f = first class

    abbrev f' : ℕ
    f' = first' class

    abbrev keys : List ℕ
    keys = (lists class).0

    abbrev l : IsListOf filed f up down class keys
    l = (lists class).1

    abbrev below : ℕ → ℕ
    below = below_in f down

    abbrev above : ℕ → ℕ
    above = above_in f up

    front : below NONE ≡ f
    front = below_none f down

    -- Only the list of one class changes.
    module _ (new : Option ℕ) (links : (k : ℕ) → k ≢ key → k ≢ NONE → (IsIn keys k → ⊥) → (up' k ≡ up k) × (down' k ≡ down k)) (off : (c : ℕ) → c ≢ class → (filed key ≡ Some c → ⊥) × (new ≡ Some c → ⊥)) where
      -- lists of other classes have other keys
      in_other : (c k : ℕ) → c ≢ class → IsIn (lists c).0 k → IsIn keys k → ⊥
      in_other c k other is_c is =
          let e : Some c ≡ Some class = sym (((lists c).1.exact k).0 is_c) ∙ (l.exact k).0 is in
          other (cc)

      filed_list : (ks : List ℕ) → IsListOf (filed_but filed key new) f' up' down' class ks → AreFiled (filed_but filed key new) first' up' down'
      filed_list ks list c = elim (cases_eq c class) [
        | inl same ↦ subst (λ q. (js : List ℕ) × IsListOf (filed_but filed key new) (first' q) up' down' q js) (sym same) (ks, list)
        | inr other ↦
            let l = (lists c).1 in (
              (lists c).0,
              same_list filed (filed_but filed key new) (first c) (first' c) up down up' down' c (lists c).0 l (first_other c other)
                  (λ k is. links k (λ e. (off c other).0 (ap filed (sym e) ∙ (l.exact k).0 is)) (apart_in (lists c).0 k NONE is l.keyed) (in_other c k other is))
                  (λ k. elim (cases_eq k key) [
                    | inl here ↦ (
                      (λ on. absurd ((off c other).0 (ap filed (sym here) ∙ on))),
                      (λ on. absurd ((off c other).1 (sym (but_same filed key k new here) ∙ on))),
                    )
                    | inr ne ↦ ((λ on. but_other filed key k new ne ∙ on), (λ on. sym (but_other filed key k new ne) ∙ on))
                  ]),
            )
      ]

    -- A key comes into the list of its class.
    module _ (off : filed key ≡ None) (up_other : (k : ℕ) → k ≢ key → k ≢ f → up' k ≡ up k) (up_first : IsIn (lists class).0 f → up' f ≡ key) where
      off_list : IsIn keys key → ⊥
      off_list = not_in key class off

      off_class : (c : ℕ) → c ≢ class → (filed key ≡ Some c → ⊥) × (Some class ≡ Some c → ⊥)
      off_class c other = ((λ on. let none : None ≡ Some c = sym off ∙ on in cc), (λ e. other (cc)))

      not_first : key ≢ f
      not_first e = elim (first_is class) [
        | inl none ↦ keyed (e ∙ none)
        | inr there ↦ off_list (subst (IsIn keys) (sym e) there)
      ]

      -- beside the list only the key changes
      up_beside : (k : ℕ) → k ≢ key → k ≢ NONE → (IsIn keys k → ⊥) → up' k ≡ up k
      up_beside k ne some not = up_other k ne (λ e. elim (first_is class) [
        | inl none ↦ some (e ∙ none)
        | inr there ↦ not (subst (IsIn keys) (sym e) there)
      ])

      -- the keys of the class are those of its list, and this one
      exact_more : (ks : List ℕ) → ((k : ℕ) → IsIn ks k ↔ ((k ≡ key) ⊎ IsIn keys k)) → (k : ℕ) → IsIn ks k ↔ (filed_but filed key (Some class) k ≡ Some class)
      exact_more ks are k = (
        (λ is. elim ((are k).0 is) [
          | inl here ↦ but_same filed key k (Some class) here
          | inr later ↦ but_other filed key k (Some class) (apart_in keys k key later off_list) ∙ (l.exact k).0 later
        ]),
        (λ on. (are k).1 (elim (cases_eq k key) [
          | inl here ↦ inl here
          | inr other ↦ inr ((l.exact k).1 (sym (but_other filed key k (Some class) other) ∙ on))
        ])),
      )

      -- In front.
      module _ (front' : f' ≡ key) (next : down' key ≡ f) (down_other : (k : ℕ) → k ≢ key → down' k ≡ down k) (up_key : IsIn keys f → up' key ≡ up f) (alone : f ≡ NONE → up' key ≡ key) where
        front_here : IsListOf (filed_but filed key (Some class)) f' up' down' class (key ∷ keys)
        front_here = record {
          chain = chain_more below above (below_in f' down') (above_in f' up') key (below_none f' down' ∙ front') (below_key f' down' key keyed ∙ next ∙ sym front) (above_first f' up' key (sym front'))
              (λ k some ne. below_key f' down' k some ∙ down_other k ne ∙ sym (below_key f down k some))
              (λ k ne not. let later : k ≢ f = (λ e. not (e ∙ sym front)) in above_key f' up' k (λ e. ne (e ∙ front')) ∙ up_other k ne later ∙ sym (above_key f up k later))
              keys l.chain l.once l.keyed off_list
              (λ is. ap (above_in f' up') front ∙ above_key f' up' f (λ e. not_first (sym (e ∙ front'))) ∙ up_first (subst (IsIn keys) front is));
          once = (off_list, l.once);
          keyed = λ is. elim is [
            | inl none ↦ keyed (sym none)
            | inr later ↦ l.keyed later
          ];
          exact = exact_more (key ∷ keys) (λ k. (λ is. is, λ is. is));
          last = λ k is none. ap up' front' ∙ elim is [
            | inl here ↦ alone (sym next ∙ ap down' (sym here) ∙ none) ∙ sym here
            | inr later ↦ up_key (list_first filed f up down class keys l k later) ∙ l.last k later (sym (down_other k (apart_in keys k key later off_list)) ∙ none)
          ];
        }

        pub filed_front : AreFiled (filed_but filed key (Some class)) first' up' down'
        filed_front = filed_list (Some class) (λ k ne some not. (up_beside k ne some not, down_other k ne)) off_class (key ∷ keys) front_here

      -- At the end of a list that has a key.
      module _ (stays : f' ≡ f) (some : f ≢ NONE) (up_key : up' key ≡ up f) (down_key : down' key ≡ NONE) (down_last : IsIn keys (up f) → down' (up f) ≡ key) (down_other : (k : ℕ) → k ≢ key → k ≢ up f → down' k ≡ down k) where
        -- the last one is above the first
        last_is : IsIn keys (up f) × (down (up f) ≡ NONE)
        last_is =
            let e = ends below above NONE keys l.chain in
            let there : IsIn keys e.0 = elim e.1.0 [
              | inl none ↦ absurd (some (sym front ∙ ap below (sym none) ∙ e.1.1))
              | inr is ↦ is
            ] in
            let none = sym (below_key f down e.0 (apart_in keys e.0 NONE there l.keyed)) ∙ e.1.1 in
            let same = sym (l.last e.0 there none) in
            (subst (IsIn keys) same there, ap down (sym same) ∙ none)

        last_some : up f ≢ NONE
        last_some = apart_in keys (up f) NONE last_is.0 l.keyed

        first_in_list : IsIn keys f
        first_in_list = list_first filed f up down class keys l (up f) last_is.0

        end_here : IsListOf (filed_but filed key (Some class)) f' up' down' class (keys ++ (key ∷ []))
        end_here = record {
          chain = chain_end below above (below_in f' down') (above_in f' up') key (up f) (below_key f' down' key keyed ∙ down_key) (below_key f' down' (up f) last_some ∙ down_last last_is.0) (above_key f' up' key (λ e. not_first (e ∙ stays)) ∙ up_key)
              (below_key f down (up f) last_some ∙ last_is.1) (λ k ne_last ne. elim (cases_eq k NONE) [
                | inl none ↦ ap (below_in f' down') none ∙ below_none f' down' ∙ stays ∙ sym front ∙ ap below (sym none)
                | inr other ↦ below_key f' down' k other ∙ down_other k ne ne_last ∙ sym (below_key f down k other)
              ])
              (λ k ne. elim (cases_eq k f) [
                | inl here ↦ above_first f' up' k (here ∙ sym stays) ∙ sym (above_first f up k here)
                | inr later ↦ above_key f' up' k (λ e. later (e ∙ stays)) ∙ up_other k ne later ∙ sym (above_key f up k later)
              ])
              NONE keys l.chain (λ none. absurd (some (sym front ∙ none)))
              (λ k is none. sym (l.last k is (sym (below_key f down k (apart_in keys k NONE is l.keyed)) ∙ none)))
              (λ e. keyed (sym e)) l.keyed off_list;
          once = once_end keys key l.once off_list;
          keyed = λ is. elim ((in_end keys key NONE).0 is) [
            | inl none ↦ keyed (sym none)
            | inr later ↦ l.keyed later
          ];
          exact = exact_more (keys ++ (key ∷ [])) (in_end keys key);
          last = λ k is none. elim ((in_end keys key k).0 is) [
            | inl here ↦ ap up' stays ∙ up_first first_in_list ∙ sym here
            | inr old ↦ absurd (elim (cases_eq k (up f)) [
              | inl same ↦ keyed (sym (down_last last_is.0) ∙ ap down' (sym same) ∙ none)
              | inr ne ↦ ne (sym (l.last k old (sym (down_other k (apart_in keys k key old off_list) ne) ∙ none)))
            ])
          ];
        }

        pub filed_end : AreFiled (filed_but filed key (Some class)) first' up' down'
        filed_end =
            filed_list (Some class) (λ k ne other not. (up_beside k ne other not, down_other k ne (λ e. not (subst (IsIn keys) (sym e) last_is.0)))) off_class (keys ++ (key ∷ [])) end_here

    -- A key is taken out of the list of its class. What is below it, or the first one where none is, gets what is above
    -- it.
    module _ (on : filed key ≡ Some class) (b : ℕ) (b_is : b ≡ cond (down key == NONE) f (down key)) (written : IsIn keys b → up' b ≡ up key) (up_other : (k : ℕ) → k ≢ b → up' k ≡ up k) where
      is_key : IsIn keys key
      is_key = (l.exact key).1 on

      same_below : below key ≡ down key
      same_below = below_key f down key keyed

      b_first : down key ≡ NONE → b ≡ f
      b_first none = b_is ∙ at_same (down key) NONE f (down key) none

      b_down : down key ≢ NONE → b ≡ down key
      b_down some = b_is ∙ at_other (down key) NONE f (down key) some

      b_in : IsIn keys b
      b_in = elim (below_is_in below above NONE keys key l.chain is_key) [
        | inl none ↦ subst (IsIn keys) (sym (b_first (sym same_below ∙ none))) (list_first filed f up down class keys l key is_key)
        | inr is ↦ let there = subst (IsIn keys) same_below is in subst (IsIn keys) (sym (b_down (apart_in keys (down key) NONE there l.keyed))) there
      ]

      up_apart : (k : ℕ) → k ≢ f → k ≢ down key → up' k ≡ up k
      up_apart k not_first not_down = up_other k (λ e. elim (cases_eq (down key) NONE) [
        | inl none ↦ not_first (e ∙ b_first none)
        | inr some ↦ not_down (e ∙ b_down some)
      ])

      module _ (over : below_in f' down' (above key) ≡ down key) (below_other : (k : ℕ) → k ≢ above key → below_in f' down' k ≡ below k) (above_other : (k : ℕ) → k ≢ key → k ≢ down key → above_in f' up' k ≡ above k)
          (under : IsIn keys (down key) → above_in f' up' (down key) ≡ above key) (last : (k : ℕ) → IsIn keys k → k ≢ key → down' k ≡ NONE → up' f' ≡ k) (down_beside : (k : ℕ) → (IsIn keys k → ⊥) → down' k ≡ down k) where
        less_here : (less : List ℕ) × (IsChain (below_in f' down') (above_in f' up') NONE less × IsLess keys less key)
        less_here =
            chain_less below above (below_in f' down') (above_in f' up') key (over ∙ sym same_below) below_other (λ k some ne not. above_other k ne (λ e. not (e ∙ sym same_below)))
            NONE keys l.chain l.once l.keyed l.keyed is_key
            (λ is. ap (above_in f' up') same_below ∙ under (subst (IsIn keys) same_below is))

        is_less : IsListOf (filed_but filed key None) f' up' down' class less_here.0
        is_less =
            let less = less_here.1.1 in
            record {
              chain = less_here.1.0;
              once = less.once;
              keyed = λ is. l.keyed (less.was NONE is).0;
              exact = λ k. (
                (λ is. let w = less.was k is in but_other filed key k None w.1 ∙ (l.exact k).0 w.0),
                (λ filed_k. elim (cases_eq k key) [
                  | inl here ↦ absurd (let e : None ≡ Some class = sym (but_same filed key k None here) ∙ filed_k in cc)
                  | inr ne ↦ less.stays k ne ((l.exact k).1 (sym (but_other filed key k None ne) ∙ filed_k))
                ]),
              );
              last = λ k is. let w = less.was k is in last k w.0 w.1;
            }

        filed_less : AreFiled (filed_but filed key None) first' up' down'
        filed_less =
            filed_list None (λ k ne some not. (up_other k (λ e. not (subst (IsIn keys) (sym e) b_in)), down_beside k not))
            (λ c other. ((λ on_c. let two : Some class ≡ Some c = sym on ∙ on_c in other (cc)), (λ e. cc)))
            less_here.0 is_less

      -- It is the first one.
      pub filed_second : key ≡ f → f' ≡ down key → ((k : ℕ) → down' k ≡ down k) → AreFiled (filed_but filed key None) first' up' down'
      filed_second is_first next same_down =
          let top : above key ≡ NONE = above_first f up key is_first in
          filed_less (ap (below_in f' down') top ∙ below_none f' down' ∙ next)
          (λ k ne. let some : k ≢ NONE = (λ e. ne (e ∙ sym top)) in below_key f' down' k some ∙ same_down k ∙ sym (below_key f down k some))
          (λ k ne not. let later : k ≢ f = (λ e. ne (e ∙ sym is_first)) in above_key f' up' k (λ e. not (e ∙ next)) ∙ up_apart k later not ∙ sym (above_key f up k later))
          (λ is. above_first f' up' (down key) (sym next) ∙ sym top)
          (λ k is ne none.
          let was = l.last k is (sym (same_down k) ∙ none) in
          elim (cases_eq (down key) NONE) [
            | inl end' ↦ absurd (ne (sym was ∙ l.last key is_key end'))
            | inr some ↦ ap up' (next ∙ sym (b_down some)) ∙ written b_in ∙ ap up is_first ∙ was
          ])
          (λ k not. same_down k)

      -- It is not.
      module _ (later : key ≢ f) (stays : f' ≡ f) where
        above_is : above key ≡ up key
        above_is = above_key f up key later

        back : below (above key) ≡ key
        back = below_up below above NONE keys key l.chain is_key

        pub over_in : IsIn keys (up key)
        over_in = elim (up_is_in below above NONE keys key l.chain is_key) [
          | inl none ↦ absurd (later (sym back ∙ ap below none ∙ front))
          | inr is ↦ subst (IsIn keys) above_is is
        ]

        over_some : up key ≢ NONE
        over_some = apart_in keys (up key) NONE over_in l.keyed

        -- the key is below the one above it
        pub over_down : down (up key) ≡ key
        over_down = sym (below_key f down (up key) over_some) ∙ ap below (sym above_is) ∙ back

        not_first' : down key ≢ f
        not_first' e = not_back below above NONE keys key l.chain l.once l.keyed is_key (same_below ∙ e ∙ sym front)

        module _ (over : down' (up key) ≡ down key) (down_other : (k : ℕ) → k ≢ up key → down' k ≡ down k) where
          pub filed_later : AreFiled (filed_but filed key None) first' up' down'
          filed_later =
              filed_less (ap (below_in f' down') above_is ∙ below_key f' down' (up key) over_some ∙ over)
              (λ k ne. elim (cases_eq k NONE) [
                | inl none ↦ ap (below_in f' down') none ∙ below_none f' down' ∙ stays ∙ sym front ∙ ap below (sym none)
                | inr some ↦ below_key f' down' k some ∙ down_other k (λ e. ne (e ∙ sym above_is)) ∙ sym (below_key f down k some)
              ])
              (λ k ne not. elim (cases_eq k f) [
                | inl here ↦ above_first f' up' k (here ∙ sym stays) ∙ sym (above_first f up k here)
                | inr other ↦ above_key f' up' k (λ e. other (e ∙ stays)) ∙ up_apart k other not ∙ sym (above_key f up k other)
              ])
              (λ is. above_key f' up' (down key) (λ e. not_first' (e ∙ stays)) ∙ ap up' (sym (b_down (apart_in keys (down key) NONE is l.keyed))) ∙ written b_in ∙ sym above_is)
              (λ k is ne none. elim (cases_eq k (up key)) [
                | inl same ↦ ap up' (stays ∙ sym (b_first (sym over ∙ ap down' (sym same) ∙ none))) ∙ written b_in ∙ sym same
                | inr other ↦
                    let was = l.last k is (sym (down_other k other) ∙ none) in
                    elim (cases_eq (down key) NONE) [
                      | inl end' ↦ absurd (ne (sym was ∙ l.last key is_key end'))
                      | inr some ↦ ap up' stays ∙ up_other f (λ e. not_first' (sym (e ∙ b_down some))) ∙ was
                    ]
              ])
              (λ k not. down_other k (λ e. not (subst (IsIn keys) (sym e) over_in)))
