-- The pairs of a slab as they are seen: what is under a key, how many there are, and a change of one.
use Rattle.std.proofs.Common.{◌≡◌, ◌≢◌, ℕ, ◌+◌, List, [], ◌∷◌, map, Option, Some, None, cond, count_by, is_some, option_map, refl, sym, ◌∙◌, ap}
use Rattle.std.proofs.Math.ListN.{get_or-map}
use Rattle.std.proofs.lemmas.List.Sums.{sum_by-cons}
use Rattle.slab.specs.Slab.{Slab, Updates, get, slab_len}
use Rattle.gpu_alloc_pairs.specs.Entry.{Entry, entry_of}
use Rattle.gpu_alloc_pairs.specs.Seen.{seen}
use Rattle.gpu_alloc_pairs.specs.declared.pair.Pair.{Pair}

-- what is seen under a key
abbrev pub entry_at : Slab Pair → ℕ → Option Entry
entry_at s k = option_map entry_of (get s k)

pub get_seen : (s : Slab Pair) (k : ℕ) → get (seen s) k ≡ entry_at s k
get_seen s k = get_or-map (option_map entry_of) s.slots k None

-- the same of a value that the pairs are seen as
pub get_view : (s : Slab Pair) (v : Slab Entry) (k : ℕ) → seen s ≡ v → get v k ≡ entry_at s k
get_view s v k e = ap (λ x. get x k) (sym e) ∙ get_seen s k

some_map : (o : Option Pair) → is_some (option_map entry_of o) ≡ is_some o
some_map None = refl
some_map (Some p) = refl

count_seen : (xs : List (Option Pair)) → count_by is_some (map (option_map entry_of) xs) ≡ count_by is_some xs
count_seen [] = refl
count_seen (o ∷ xs) =
    sum_by-cons (λ q. cond (is_some q) 1 0) (option_map entry_of o) (map (option_map entry_of) xs)
    ∙ ap (λ n. cond (is_some (option_map entry_of o)) 1 0 + n) (count_seen xs)
    ∙ ap (λ b. cond b 1 0 + count_by is_some xs) (some_map o) ∙ sym (sum_by-cons (λ q. cond (is_some q) 1 0) o xs)

pub len_seen : (s : Slab Pair) → slab_len (seen s) ≡ slab_len s
len_seen s = count_seen s.slots

-- a change of one key
pub seen_updates : (s s' : Slab Pair) (v : Slab Entry) (key : ℕ) (slot : Option Entry) → seen s ≡ v → entry_at s' key ≡ slot
    → ((k : ℕ) → k ≢ key → entry_at s' k ≡ entry_at s k) → Updates v (seen s') key slot
seen_updates s s' v key slot e at others = record {
  changed = get_seen s' key ∙ at;
  others = λ k ne. get_seen s' k ∙ others k ne ∙ sym (get_view s v k e);
}
