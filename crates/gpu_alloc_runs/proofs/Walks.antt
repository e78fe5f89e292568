-- A search through the lists of free tiles, class by class.
use Rattle.std.proofs.Common.{◌≡◌, ◌≢◌, ◌⊎◌, inl, inr, ℕ, ◌+◌, ◌<◌, ◌≤◌, List, [], ◌∷◌, length, Option, Some, refl, sym, ◌∙◌, ap, subst, arith}
use Rattle.std.proofs.lemmas.Bool.{cases_eq, cases_lt}
use Rattle.slab.specs.Slab.{ContainsKey, Slab, slab_len}
use Rattle.gpu_alloc_runs.specs.Classes.{IsChain, IsIn, IsOnce, below_in, first_in}
use Rattle.gpu_alloc_runs.specs.Filed.{AreFreeFiled, down_in, filed_in}
use Rattle.gpu_alloc_runs.specs.declared.classes.Classes.{Classes}
use Rattle.gpu_alloc_runs.specs.declared.tile.Node.{Node}
use Rattle.gpu_alloc_runs.specs.declared.tile.TheConstants.{NONE}
use Rattle.gpu_alloc_runs.proofs.Counts.{few_keys}
use Rattle.gpu_alloc_runs.proofs.Filing.{below_none}
use Rattle.gpu_alloc_runs.proofs.Rooms.{none_filed}

-- the keys follow one another below this one, to the last
abbrev pub AreBelow : (ℕ → ℕ) → ℕ → List ℕ → Type 0
AreBelow below above [] = below above ≡ NONE
AreBelow below above (k ∷ rest) = (below above ≡ k) × AreBelow below k rest

pub are_below : (below up : ℕ → ℕ) (above : ℕ) (keys : List ℕ) → IsChain below up above keys → AreBelow below above keys
are_below below up above [] chain = chain
are_below below up above (k ∷ rest) chain = (chain.0, are_below below up k rest chain.1.1)

-- a key is filed in a class from this one on, in none above the one of the search, and in none that is sure
pub record IsPassed (filed : ℕ → Option ℕ) (own sure class key : ℕ) : Type 0 where
  pub of : ℕ
  pub is : filed key ≡ Some of
  pub from : own ≤ of
  pub up_to : of ≤ class
  pub unsure : of < sure

-- that many keys are passed, none of which is wanted, and this one of the class is next
pub record IsSearch (nodes : Slab Node) (classes : Classes) (own sure : ℕ) (Wanted : ℕ → Type 0) (class key passed : ℕ) : Type 0 where
  pub from : own ≤ class
  pub seen : List ℕ
  pub many : length seen ≡ passed
  pub once : IsOnce seen
  pub not : (k : ℕ) → IsIn seen k → Wanted k → ⊥
  pub filed : (k : ℕ) → IsIn seen k → IsPassed (filed_in nodes) own sure class k
  pub lower : (c k : ℕ) → own ≤ c → c < class → filed_in nodes k ≡ Some c → IsIn seen k
  pub above : ℕ
  pub rest : List ℕ
  pub next : below_in (first_in classes class) (down_in nodes) above ≡ key
  pub chain : AreBelow (below_in (first_in classes class) (down_in nodes)) above rest
  pub left : (k : ℕ) → IsIn rest k → (filed_in nodes k ≡ Some class) × (IsIn seen k → ⊥)
  pub told : (k : ℕ) → filed_in nodes k ≡ Some class → IsIn rest k ⊎ IsIn seen k
  pub each : IsOnce rest
  pub end : key ≡ NONE → 464 ≤ class

module _ (nodes : Slab Node) (classes : Classes) (filed : AreFreeFiled nodes classes) (own sure : ℕ) (Wanted : ℕ → Type 0) where
  -- a key that is filed is one of a tile
  keyed : (k class : ℕ) → filed_in nodes k ≡ Some class → k ≢ NONE
  keyed k class on none = filed.vacant (subst (ContainsKey nodes) none (filed.there k class on))

  -- a class that is filled has a first key
  filled_key : (class key : ℕ) → key ≡ first_in classes class → (class < 464 → first_in classes class ≢ NONE) → key ≡ NONE → 464 ≤ class
  filled_key class key is filled none = elim (cases_lt class 464) [
    | inl less ↦ absurd (filled less (sym is ∙ none))
    | inr le ↦ le
  ]

  pub begin : (class key : ℕ) → own ≤ class → ((c : ℕ) → own ≤ c → c < class → first_in classes c ≡ NONE) → key ≡ first_in classes class → (class < 464 → first_in classes class ≢ NONE)
      → IsSearch nodes classes own sure Wanted class key 0
  begin class key from least is filled =
      let l = filed.lists class in
      record {
        from = from;
        seen = [];
        many = refl;
        once = record {};
        not = λ k none. absurd none;
        filed = λ k none. absurd none;
        lower = λ c k le less on. absurd (none_filed nodes classes filed c (least c le less) k on);
        above = NONE;
        rest = l.0;
        next = below_none (first_in classes class) (down_in nodes) ∙ sym is;
        chain = are_below (below_in (first_in classes class) (down_in nodes)) _ NONE l.0 l.1.chain;
        left = λ k in_list. ((l.1.exact k).0 in_list, λ none. none);
        told = λ k on. inl ((l.1.exact k).1 on);
        each = l.1.once;
        end = filled_key class key is filled;
      }

  module _ (class key passed : ℕ) (s : IsSearch nodes classes own sure Wanted class key passed) where
    -- what is left of the class begins with the next key
    begins_with : (rest : List ℕ) (above : ℕ) → below_in (first_in classes class) (down_in nodes) above ≡ key → AreBelow (below_in (first_in classes class) (down_in nodes)) above rest
        → ((key ≡ NONE) × (rest ≡ [])) ⊎ ((later : List ℕ) × ((rest ≡ key ∷ later) × AreBelow (below_in (first_in classes class) (down_in nodes)) key later))
    begins_with [] above next chain = inl (sym next ∙ chain, refl)
    begins_with (k ∷ later) above next chain =
        let same : k ≡ key = sym chain.0 ∙ next in
        inr (later, (ap (λ q. q ∷ later) same, subst (λ q. AreBelow (below_in (first_in classes class) (down_in nodes)) q later) same chain.1))

    pub record IsNext : Type 0 where
      pub later : List ℕ
      pub rest_is : s.rest ≡ key ∷ later
      pub chain : AreBelow (below_in (first_in classes class) (down_in nodes)) key later
      pub each : IsOnce (key ∷ later)
      pub on : filed_in nodes key ≡ Some class
      pub new : IsIn s.seen key → ⊥

    pub is_next : key ≢ NONE → IsNext
    is_next some = elim (begins_with s.rest s.above s.next s.chain) [
      | inl last ↦ absurd (some last.0)
      | inr more ↦
          let l = s.left key (subst (λ r. IsIn r key) (sym more.1.0) (inl refl)) in
          record { later = more.0; rest_is = more.1.0; chain = more.1.1; each = subst IsOnce more.1.0 s.each; on = l.0; new = l.1 }
    ]

    -- no key of a lower class is wanted
    pub none_lower : (k c : ℕ) → own ≤ c → filed_in nodes k ≡ Some c → Wanted k → class ≤ c
    none_lower k c from on wanted = elim (cases_lt c class) [
      | inl less ↦ absurd (s.not k (s.lower c k from less on) wanted)
      | inr le ↦ le
    ]

    -- where all tiles are passed, none is wanted
    pub all_passed : passed ≡ slab_len nodes → (k : ℕ) → ContainsKey nodes k → Wanted k → ⊥
    all_passed all k there wanted =
        let few = few_keys nodes (k ∷ s.seen) ((λ is. s.not k is wanted), s.once) (λ j is. elim is [
          | inl same ↦ subst (ContainsKey nodes) (sym same) there
          | inr is_seen ↦ let p = s.filed j is_seen in filed.there j p.of p.is
        ]) in
        omega (arith, few, s.many, all)

    -- One more is passed.
    module _ (here : IsNext) (below : class < sure) (not : Wanted key → ⊥) where
      more_seen : (k : ℕ) → IsIn (key ∷ s.seen) k → IsPassed (filed_in nodes) own sure class k
      more_seen k (inl same) = record { of = class; is = ap (filed_in nodes) same ∙ here.on; from = s.from; up_to = omega arith; unsure = below }
      more_seen k (inr is) = s.filed k is

      none_seen : (k : ℕ) → IsIn (key ∷ s.seen) k → Wanted k → ⊥
      none_seen k (inl same) wanted = not (subst Wanted same wanted)
      none_seen k (inr is) wanted = s.not k is wanted

      -- those of the class are seen, or come later
      are_told : (k : ℕ) → filed_in nodes k ≡ Some class → IsIn here.later k ⊎ IsIn (key ∷ s.seen) k
      are_told k on = elim (s.told k on) [
        | inl in_rest ↦ by_place (subst (λ r. IsIn r k) here.rest_is in_rest)
        | inr is ↦ inr (inr is)
      ]
        where
          by_place : IsIn (key ∷ here.later) k → IsIn here.later k ⊎ IsIn (key ∷ s.seen) k
          by_place (inl same) = inr (inl same)
          by_place (inr later) = inl later

      -- the next one is of the same class
      pub in_class : (down : ℕ) → below_in (first_in classes class) (down_in nodes) key ≡ down → down ≢ NONE → IsSearch nodes classes own sure Wanted class down (passed + 1)
      in_class down next some = record {
        from = s.from;
        seen = key ∷ s.seen;
        many = omega (arith, s.many);
        once = (here.new, s.once);
        not = none_seen;
        filed = more_seen;
        lower = λ c k from_c to on. inr (s.lower c k from_c to on);
        above = key;
        rest = here.later;
        next = next;
        chain = here.chain;
        left = λ k later.
            let l = s.left k (subst (λ r. IsIn r k) (sym here.rest_is) (inr later)) in (
              l.0,
              λ is. elim is [
                | inl same ↦ here.each.0 (subst (IsIn here.later) same later)
                | inr is_seen ↦ l.1 is_seen
              ],
            );
        told = are_told;
        each = here.each.1;
        end = λ none. absurd (some none);
      }

      -- it is of a higher class
      pub to_class : here.later ≡ [] → (class' key' : ℕ) → class + 1 ≤ class' → ((c : ℕ) → class + 1 ≤ c → c < class' → first_in classes c ≡ NONE) → key' ≡ first_in classes class' → (class' < 464 → first_in classes class' ≢ NONE)
          → IsSearch nodes classes own sure Wanted class' key' (passed + 1)
      to_class last class' key' above least is filled =
          let l = filed.lists class' in
          record {
            from = omega (arith, s.from, above);
            seen = key ∷ s.seen;
            many = omega (arith, s.many);
            once = (here.new, s.once);
            not = none_seen;
            filed = λ k is_seen.
                let p = more_seen k is_seen in
                record { of = p.of; is = p.is; from = p.from; up_to = omega (arith, p.up_to, above); unsure = p.unsure };
            lower = λ c k from_c to on. elim (cases_lt c class) [
              | inl less ↦ inr (s.lower c k from_c less on)
              | inr le ↦ elim (cases_eq c class) [
                | inl same ↦ elim (are_told k (on ∙ ap Some same)) [
                  | inl later ↦ absurd (subst (λ r. IsIn r k) last later)
                  | inr is_seen ↦ is_seen
                ]
                | inr ne ↦ absurd (none_filed nodes classes filed c (least c (omega (arith, le, ne)) to) k on)
              ]
            ];
            above = NONE;
            rest = l.0;
            next = below_none (first_in classes class') (down_in nodes) ∙ sym is;
            chain = are_below (below_in (first_in classes class') (down_in nodes)) _ NONE l.0 l.1.chain;
            left = λ k in_list.
                let on = (l.1.exact k).0 in_list in (
                  on,
                  λ is_seen.
                      let p = more_seen k is_seen in
                      let e : Some p.of ≡ Some class' = sym p.is ∙ on in
                      let same : p.of ≡ class' = (cc) in
                      omega (arith, p.up_to, above, same),
                );
            told = λ k on. inl ((l.1.exact k).1 on);
            each = l.1.once;
            end = filled_key class' key' is filled;
          }
