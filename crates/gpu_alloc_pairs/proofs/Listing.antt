-- What is made of the halves of a slab's pairs, one pair after another, and the free pieces among it.
use Rattle.std.proofs.Common.{◌≡◌, ◌<◌, ◌+◌, ◌^◌, ℕ, Contains, List, [], ◌∷◌, ◌++◌, append_assoc, map, Option, Some, None, option_map, refl, sym, ◌∙◌, ap}
use Rattle.std.proofs.lemmas.List.{map-append}
use Rattle.std.specs.List.{flat_map}
use Rattle.slab.proofs.SlabLemmas.{Contains-cons, Contains-entries}
use Rattle.gpu_alloc_base.proofs.Lists.{contains_head}
use Rattle.slab.specs.Slab.{Slab, entries, entries_from}
use Rattle.gpu_alloc_base.specs.declared.piece.Piece.{Piece}
use Rattle.gpu_alloc_pairs.specs.Entry.{Entry, entry_of}
use Rattle.gpu_alloc_pairs.specs.Halves.{HalfAt, half_used, halves_of_length, halves_of_pair}
use Rattle.gpu_alloc_pairs.specs.Length.{AreBounded}
use Rattle.gpu_alloc_pairs.specs.Pieces.{pieces_of_pair}
use Rattle.gpu_alloc_pairs.specs.Seen.{seen}
use Rattle.gpu_alloc_pairs.specs.declared.pair.Pair.{Pair}
use Rattle.gpu_alloc_pairs.specs.declared.pair.Side.TheVariants.{Left, Right}
use Rattle.gpu_alloc_pairs.specs.declared.pair.Use.{Use}
use Rattle.gpu_alloc_pairs.specs.declared.pair.Use.TheVariants.{Free}
use Rattle.gpu_alloc_pairs.proofs.Seen.{get_view}

abbrev pub shown : ℕ × Pair → ℕ × Entry
shown pair = (pair.0, entry_of pair.1)

entries_seen : (key : ℕ) (slots : List (Option Pair)) → entries_from key (map (option_map entry_of) slots) ≡ map shown (entries_from key slots)
entries_seen key [] = refl
entries_seen key (None ∷ rest) = entries_seen (key + 1) rest
entries_seen key (Some p ∷ rest) = ap (λ l. (key, entry_of p) ∷ l) (entries_seen (key + 1) rest)

-- What is made of each half of a length that is used so.

module _ {Y : Type 0} (now : Use) (make : HalfAt → Y) (order : ℕ) where
  -- by these pairs
  abbrev pub made : List (ℕ × Pair) → List Y
  made [] = []
  made (pair ∷ rest) = map make (halves_of_pair now order (shown pair)) ++ made rest

  made_are : (xs : List (ℕ × Pair)) → map make (flat_map (halves_of_pair now order) (map shown xs)) ≡ made xs
  made_are [] = refl
  made_are (x ∷ xs) =
      map-append make (halves_of_pair now order (shown x)) (flat_map (halves_of_pair now order) (map shown xs))
      ∙ ap (λ l. map make (halves_of_pair now order (shown x)) ++ l) (made_are xs)

  pub length_made : (s : Slab Pair) (v : Slab Entry) → seen s ≡ v → map make (halves_of_length now order v) ≡ made (entries s)
  unfolding halves_of_length
  length_made s v e =
      ap (λ x. map make (flat_map (halves_of_pair now order) (entries x))) (sym e)
      ∙ ap (λ xs. map make (flat_map (halves_of_pair now order) xs)) (entries_seen 0 s.slots)
      ∙ made_are (entries s)

  -- one pair more, its left half first
  pub pair_made : (before between after : List Y) (pair : ℕ × Pair) (left rest : List (ℕ × Pair)) → left ≡ pair ∷ rest
      → between ≡ before ++ map make (half_used now order pair.0 (entry_of pair.1) Left)
      → after ≡ between ++ map make (half_used now order pair.0 (entry_of pair.1) Right)
      → after ++ made rest ≡ before ++ made left
  pair_made before between after pair left rest step first second =
      let a : List Y = map make (half_used now order pair.0 (entry_of pair.1) Left) in
      let b : List Y = map make (half_used now order pair.0 (entry_of pair.1) Right) in
      let both : a ++ b ≡ map make (halves_of_pair now order (shown pair)) =
      sym (map-append make (half_used now order pair.0 (entry_of pair.1) Left) (half_used now order pair.0 (entry_of pair.1) Right)) in
      ap (λ l. l ++ made rest) (second ∙ ap (λ l. l ++ b) first ∙ append_assoc before a b ∙ ap (λ l. before ++ l) both)
      ∙ append_assoc before (map make (halves_of_pair now order (shown pair))) (made rest)
      ∙ ap (λ l. before ++ made l) (sym step)

-- The free pieces of a length.

abbrev pub free_pieces : ℕ → List (ℕ × Pair) → List Piece
free_pieces order = made Free (λ h. h.piece) order

pub length_listed : (order : ℕ) (s : Slab Pair) (v : Slab Entry) → seen s ≡ v
    → map (λ (h : HalfAt). h.piece) (halves_of_length Free order v) ≡ free_pieces order (entries s)
length_listed order s v e = length_made Free (λ h. h.piece) order s v e

-- one pair more, with a free half
pub one_listed : (order : ℕ) (before after : List Piece) (pair : ℕ × Pair) (left rest : List (ℕ × Pair)) (piece : Piece)
    → left ≡ pair ∷ rest → pieces_of_pair order (shown pair) ≡ piece ∷ [] → after ≡ before ++ piece ∷ []
    → after ++ free_pieces order rest ≡ before ++ free_pieces order left
one_listed order before after pair left rest piece step is pushed =
    ap (λ l. l ++ free_pieces order rest) (pushed ∙ ap (λ l. before ++ l) (sym is))
    ∙ append_assoc before (pieces_of_pair order (shown pair)) (free_pieces order rest)
    ∙ ap (λ l. before ++ free_pieces order l) (sym step)

-- one pair more, with none
pub none_listed : (order : ℕ) (before : List Piece) (pair : ℕ × Pair) (left rest : List (ℕ × Pair))
    → left ≡ pair ∷ rest → pieces_of_pair order (shown pair) ≡ []
    → before ++ free_pieces order rest ≡ before ++ free_pieces order left
none_listed order before pair left rest step is =
    ap (λ l. before ++ (l ++ free_pieces order rest)) (sym is) ∙ ap (λ l. before ++ free_pieces order l) (sym step)

-- the right halves of these pairs start below 2 ^ 64
abbrev pub AreShort : ℕ → List (ℕ × Pair) → Type 0
AreShort order pairs = (key : ℕ) (p : Pair) → Contains pairs (key, p) → p.offset + 2 ^ order < 2 ^ 64

pub entries_short : (order : ℕ) (s : Slab Pair) (v : Slab Entry) → seen s ≡ v → AreBounded order v → AreShort order (entries s)
entries_short order s v e bounded key p has =
    bounded key (entry_of p) (get_view s v key e ∙ ap (option_map entry_of) ((Contains-entries s key p).0 has))

pub rest_short : (order : ℕ) (pair : ℕ × Pair) (left rest : List (ℕ × Pair)) → left ≡ pair ∷ rest → AreShort order left
    → AreShort order rest
rest_short order pair left rest step short key p has = short key p (rw step (Contains-cons _ _ _ has))

pub first_short : (order key : ℕ) (p : Pair) (left rest : List (ℕ × Pair)) → left ≡ (key, p) ∷ rest → AreShort order left
    → p.offset + 2 ^ order < 2 ^ 64
first_short order key p left rest step short = short key p (rw step (contains_head (key, p) rest))
