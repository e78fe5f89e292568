-- What calls leave of the blocks that a caller has in hand, by the sets of live blocks.
use Rattle.std.proofs.Common.{◌≡◌, ◌≢◌, inl, inr, ℕ, zero, suc, ◌+◌, ◌-◌, ◌<◌, true, false, cond, List, length, [], ◌∷◌, ◌++◌, Option, Some, None, IsTrue, Equal, refl, sym, ◌∙◌, ap, subst, arith}
use Rattle.std.specs.Cmp.{IsTotalOrder, nat_cmp_total}
use Rattle.std.specs.FinMap as map
use Rattle.std.specs.FinMap.{nat_cmp-IsAntisymmetric}
use Rattle.std.specs.FinSet as set
use Rattle.std.specs.List.{sum_by}
use Rattle.std.specs.Ordering.{nat_cmp}
use Rattle.std.specs.declared.cmp.Ordering.{Ordering}
use Rattle.gpu_alloc_base.specs.Accounts.{HeldChunks, chunk_bytes}
use Rattle.gpu_alloc_base.specs.Chunks.{Chunk}
use Rattle.gpu_alloc_base.specs.InHand.{Bytes, AreApart, AreTwo, IsBeside, IsInHand, AreInHand, Leaves, Adds, Removes, HoldsNothing}
use Rattle.gpu_alloc_base.proofs.ListSets.{in_inserted, in_removed}
use Rattle.gpu_alloc_base.proofs.Names.{wherever}

-- Two blocks.

module _ {B : Type 0} (bytes : B → Bytes) where
  two_back : (b c : B) → AreTwo bytes b c → AreTwo bytes c b
  two_back b c two = record { apart = λ same at in_c in_b. two.apart (sym same) at in_b in_c; differ = λ same. two.differ (sym same) }

  beside_more : (b c : B) (cs : List B) → IsBeside bytes c cs → AreTwo bytes c b → IsBeside bytes c (cs ++ b ∷ [])
  beside_more b c [] beside two = (two, tt)
  beside_more b c (d ∷ cs) beside two = (beside.0, beside_more b c cs beside.1 two)

-- Sets of live blocks.

module _ {B : Type 0} {R : B → B → Ordering} (bytes : B → Bytes) where
  all_kept : (old new : set.FinSet R) → ((c : B) → IsInHand old c → IsInHand new c) → (cs : List B) → AreInHand bytes old cs → AreInHand bytes new cs
  all_kept old new kept [] in_hand = tt
  all_kept old new kept (c ∷ cs) in_hand = (kept c in_hand.0, in_hand.1, all_kept old new kept cs in_hand.2)

  pub leaves_by : (old new : set.FinSet R) → ((c : B) → IsInHand old c → IsInHand new c) → Leaves bytes old new
  leaves_by old new kept = record { block = kept; all = all_kept old new kept }

  -- where nothing changed, everything is left
  pub leaves_same : (old new : set.FinSet R) → new ≡ old → Leaves bytes old new
  leaves_same old new same = leaves_by old new (λ c in_hand. subst (λ (l : set.FinSet R). IsInHand l c) (sym same) in_hand)

not_in : {B : Type 0} {R : B → B → Ordering} (live : set.FinSet R) (b : B) → (IsTrue (set.contains live b) → ⊥) → set.contains live b ≡ false
not_in live b never = elim (set.contains live b) as (λ x. set.contains live b ≡ x → x ≡ false) [ true ↦ λ is. absurd (never is) | false ↦ λ is. refl ] refl

some_in : {B : Type 0} {R : B → B → Ordering} (live : set.FinSet R) (b : B) → set.contains live b ≡ true → 0 < set.len live
some_in {R = R} live b there = elim (set.len live) as (λ n. set.len live ≡ n → 0 < n) [
  | zero ↦ λ none.
      let empty = set.empty_of_len live none in
      let no : set.contains live b ≡ false = ap (λ (l : set.FinSet R). set.contains l b) empty ∙ set.contains-empty R b in
      absurd (let n : false ≡ true = sym no ∙ there in cc)
  | suc n ↦ λ is. omega arith
] refl

-- none is live where there are none
pub none_in : {B : Type 0} {R : B → B → Ordering} (live : set.FinSet R) → set.len live ≡ 0 → (b : B) → IsTrue (set.contains live b) → ⊥
none_in live none b there = let some = some_in live b there in omega (arith, some, none)

module _ {B : Type 0} {R : B → B → Ordering} (total : IsTotalOrder R) (exact : (a b : B) → R a b ≡ Equal → a ≡ b) (bytes : B → Bytes) (old : set.FinSet R) (b : B) (new : set.FinSet R) where
  -- A grant.

  module _ (live : new ≡ set.insert old b) where
    added_kept : (c : B) → IsInHand old c → IsInHand new c
    added_kept c in_hand = record { is_live = rw live ((in_inserted R total exact old b c).1 (inr in_hand.is_live)) }

    pub grant_leaves : Leaves bytes old new
    grant_leaves = leaves_by bytes old new added_kept

    module _ (some : 0 < (bytes b).size) (free : (c : B) → IsTrue (set.contains old c) → AreApart (bytes c) (bytes b)) where
      other : (c : B) → IsInHand old c → AreTwo bytes c b
      other c in_hand = record {
        apart = free c in_hand.is_live;
        differ = λ same.
            let own : AreApart (bytes b) (bytes b) = subst (λ (d : B). AreApart (bytes d) (bytes b)) same (free c in_hand.is_live) in
            own refl (bytes b).offset (record { from = omega arith; to = omega (arith, some) }) (record { from = omega arith; to = omega (arith, some) });
      }

      own_now : IsInHand new b
      own_now = record { is_live = rw live ((in_inserted R total exact old b b).1 (inl refl)) }

      more : (cs : List B) → AreInHand bytes old cs → AreInHand bytes new (cs ++ b ∷ [])
      more [] in_hand = (own_now, tt, tt)
      more (c ∷ cs) in_hand = (added_kept c in_hand.0, beside_more bytes b c cs in_hand.1 (other c in_hand.0), more cs in_hand.2)

      not_yet : set.contains old b ≡ false
      not_yet = not_in old b (λ there. (other b (record { is_live = there })).differ refl)

      pub grant_adds : Adds bytes old new b
      grant_adds = record {
        live = live;
        count = ap (λ (l : set.FinSet R). set.len l) live ∙ set.len-insert total old b ∙ ap (λ t. cond t (set.len old) (set.len old + 1)) not_yet;
        own = own_now;
        before = other;
        after = λ c in_hand. two_back bytes c b (other c in_hand);
        all = more;
      }

  -- A return.

  module _ (live : new ≡ set.remove old b) where
    left : (c : B) → IsInHand old c → c ≢ b → IsInHand new c
    left c in_hand differ = record { is_live = rw live ((in_removed R total exact old b c).1 (differ, in_hand.is_live)) }

    all_left : (cs : List B) → IsBeside bytes b cs → AreInHand bytes old cs → AreInHand bytes new cs
    all_left [] beside in_hand = tt
    all_left (c ∷ cs) beside in_hand = (left c in_hand.0 (λ same. beside.0.differ (sym same)), in_hand.1, all_left cs beside.1 in_hand.2)

    pub return_removes : IsTrue (set.contains old b) → Removes bytes old b new
    return_removes there = record {
      live = live;
      count =
          let some = some_in old b there in
          let less : set.len new ≡ set.len old - 1 = ap (λ (l : set.FinSet R). set.len l) live ∙ set.len-remove total old b ∙ ap (λ t. cond t (set.len old - 1) (set.len old)) there in
          omega (arith, some, less);
      block = left;
      all = λ cs all. all_left cs all.1 all.2;
    }

-- Chunks.

-- where none is held under any key, there is none
pub no_chunks : (chunks : HeldChunks) → ((key : ℕ) (chunk : Chunk) → map.get chunks key ≡ Some chunk → ⊥) → map.len chunks ≡ 0
no_chunks chunks none = ap (λ (m : HeldChunks). map.len m) empty ∙ map.len-empty nat_cmp Chunk
  where
    under : (key : ℕ) (o : Option Chunk) → map.get chunks key ≡ o → o ≡ None
    under key None is = refl
    under key (Some chunk) is = absurd (none key chunk is)

    empty : chunks ≡ map.empty
    empty = map.same_map nat_cmp_total nat_cmp-IsAntisymmetric _ _ (λ key. under key (map.get chunks key) refl ∙ sym (map.get-empty nat_cmp key))

none_summed : {X : Type 0} (f : X → ℕ) (es : List X) → length es ≡ 0 → sum_by f es ≡ 0
none_summed f [] none = refl
none_summed f (e ∷ es) none = absurd (omega (arith, none))

-- no chunks have no bytes
pub no_bytes : (chunks : HeldChunks) → map.len chunks ≡ 0 → chunk_bytes chunks ≡ 0
no_bytes chunks none = none_summed (λ e. e.1.size) (map.entries chunks) (sym (map.len-entries chunks) ∙ none)

-- what holds nothing
pub holds_nothing : {B : Type 0} {R : B → B → Ordering} (memory_type props : ℕ) → HoldsNothing {B = B} {R = R} memory_type props set.empty map.empty
holds_nothing {B} {R} memory_type props = record {
  live = set.len-empty R;
  held = map.len-empty nat_cmp Chunk;
  agrees = λ p offers objects. record {
    known = offers.known;
    same = offers.same;
    holds = λ name. wherever (map.get (map.empty {X = Chunk} {R = nat_cmp}) name) _ (λ h at. let none = map.get-empty {X = Chunk} nat_cmp name in absurd (cc));
  };
  counted = λ heap remaining few. record {
    ledger = omega (arith, no_bytes map.empty (map.len-empty nat_cmp Chunk));
    objects = omega (arith, few, map.len-empty nat_cmp Chunk);
  };
}
