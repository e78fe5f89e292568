-- Lengths of no pair: nothing is held and nothing is live.
use Rattle.std.proofs.Common.{◌≡◌, ℕ, zero, suc, ◌+◌, List, [], ◌∷◌, ◌++◌, length, map, get_or, Some, None, refl, sym, ◌∙◌, ap, subst}
use Rattle.std.specs.FinMap as finite
use Rattle.std.specs.FinSet as set
use Rattle.std.specs.List.{AllByRecursion}
use Rattle.std.proofs.Common.{nat_cmp}
use Rattle.slab.specs.Slab.{Slab}
use Rattle.gpu_alloc_base.specs.Accounts.{HeldChunks}
use Rattle.gpu_alloc_base.specs.Chunks.{Chunk}
use Rattle.gpu_alloc_base.specs.declared.buddy_block.Leaf.{Leaf}
use Rattle.gpu_alloc_base.proofs.Leaves.{in_leaves}
use Rattle.gpu_alloc_base.proofs.Lists.{contains_none}
use Rattle.gpu_alloc_pairs.specs.Entry.{Entry}
use Rattle.gpu_alloc_pairs.specs.Halves.{halves_of_length, halves_from, leaf_of}
use Rattle.gpu_alloc_pairs.specs.Space.{BuddySpace, IsLiveLeaf, IsSoundBuddySpace}
use Rattle.gpu_alloc_pairs.specs.Store.{buddy_space_in, IsStored}
use Rattle.gpu_alloc_pairs.specs.Tree.{IsReady, no_pairs, pair_at}
use Rattle.gpu_alloc_pairs.specs.declared.pair.Use.{Use}
use Rattle.gpu_alloc_pairs.specs.declared.pair.Use.TheVariants.{Taken}

-- each of the lengths is empty
abbrev pub AreEmpty : List (Slab Entry) → Type 0
AreEmpty lengths = AllByRecursion (λ s. s.slots ≡ []) lengths

pub one_more_empty : (lengths : List (Slab Entry)) (s : Slab Entry) → AreEmpty lengths → s.slots ≡ [] → AreEmpty (lengths ++ s ∷ [])
one_more_empty [] s all none = (none, tt)
one_more_empty (x ∷ xs) s all none = (all.0, one_more_empty xs s all.1 none)

slots_of : (lengths : List (Slab Entry)) (n : ℕ) → AreEmpty lengths → (get_or lengths n no_pairs).slots ≡ []
slots_of [] n all = refl
slots_of (x ∷ xs) zero all = all.0
slots_of (x ∷ xs) (suc n) all = slots_of xs n all.1

no_pair : (lengths : List (Slab Entry)) → AreEmpty lengths → (order key : ℕ) (e : Entry) → pair_at lengths order key ≡ Some e → ⊥
no_pair lengths all order key e is = let none : pair_at lengths order key ≡ None = ap (λ xs. get_or xs key None) (slots_of lengths order all) in cc

no_halves : (now : Use) (order : ℕ) (lengths : List (Slab Entry)) → AreEmpty lengths → halves_from now order lengths ≡ []
unfolding halves_from halves_of_length
no_halves now order [] all = refl
no_halves now order (x ∷ xs) all =
    ap (λ zs. halves_of_length now order (record { slots = zs; vacant_key = 0; capacity = 0 }) ++ halves_from now (order + 1) xs) all.0 ∙ no_halves now (order + 1) xs all.1

abbrev no_chunks : HeldChunks
no_chunks = finite.empty

none_held : (key : ℕ) (chunk : Chunk) → finite.get no_chunks key ≡ Some chunk → ⊥
none_held key chunk is = let none : finite.get no_chunks key ≡ None = finite.get-empty nat_cmp key in cc

abbrev pub nothing : BuddySpace
nothing = record { chunks = no_chunks; live = set.empty }

none_live : (leaf : Leaf) → IsLiveLeaf nothing leaf → ⊥
none_live leaf live = contains_none leaf ((in_leaves [] leaf).0 live)

module _ (lengths : List (Slab Entry)) (all : AreEmpty lengths) where
  pub empty_space : buddy_space_in no_chunks lengths ≡ nothing
  empty_space = ap (λ hs. record { chunks = no_chunks; live = set.from_list (map (leaf_of no_chunks) hs) }) (no_halves Taken 0 lengths all)

  none_ready : {p : _} → IsReady (pair_at lengths) p → ⊥
  none_ready r = no_pair lengths all _ r.key r.half.entry r.half.pair

  pub stored_empty : length lengths ≡ 63 → IsStored no_chunks lengths
  stored_empty count = record {
    count = count;
    tree = record {
      placed = λ order key e is. absurd (no_pair lengths all order key e is);
      aligned = λ order key e is. absurd (no_pair lengths all order key e is);
      inside = λ order key e is. absurd (no_pair lengths all order key e is);
      one_place = λ order k l e f is_e is_f same at. absurd (no_pair lengths all order k e is_e);
    };
    canonical = record {
      aligned = λ p r. absurd (none_ready r);
      apart = λ p q r_p r_q same at in_p in_q. absurd (none_ready r_p);
      no_halves = λ p q r_p r_q halves. none_ready r_p;
      free = λ p r at in_p. absurd (none_ready r);
      covers = λ chunk at f. absurd (none_held chunk f.held f.is);
    };
    sound = subst IsSoundBuddySpace (sym empty_space) (record {
      one_object = λ k l c d is_c is_d same. absurd (none_held k c is_c);
      powers = λ k c is. absurd (none_held k c is);
      used = λ k c is. absurd (none_held k c is);
      inside = λ leaf live. absurd (none_live leaf live);
      apart = λ x y x_live y_live same at in_x in_y. absurd (none_live x x_live);
    });
  }
