-- Texts that go on, and their rows.
use Rattle.std.proofs.Common.{◌≡◌, ℕ, suc, ◌+◌, ◌-◌, ◌^◌, ◌<◌, ◌≤◌, List, [], ◌∷◌, ◌++◌, length, take, get_or, min, append_assoc, refl, sym, ◌∙◌, ap, subst, arith, length-append, length-take}
use Rattle.std.proofs.Math.ListN.{set}
use Rattle.std.proofs.lemmas.List.{append-nil, take_more}
use Rattle.std.proofs.lemmas.Grind.{flat_map-append}
use Rattle.std.specs.List.{flat_map}
use Rattle.gpu_report.specs.Text.{lead, rows}
use Rattle.gpu_report.specs.Writing.{written_over, IsTextWritten, GoesOn}

over_more : (text old : List ℕ) (b : ℕ) → length text < length old → written_over (text ++ b ∷ []) old ≡ set (written_over text old) (length text) b
over_more [] [] b lt = absurd (omega (arith, lt))
over_more [] (x ∷ old) b lt = refl
over_more (t ∷ text) [] b lt = absurd (omega (arith, lt))
over_more (t ∷ text) (x ∷ old) b lt = ap (λ xs. t ∷ xs) (over_more text old b (omega (arith, lt)))

over_full : (text old : List ℕ) (b : ℕ) → length old ≤ length text → written_over (text ++ b ∷ []) old ≡ written_over text old
over_full [] [] b le = refl
over_full [] (x ∷ old) b le = absurd (omega (arith, le))
over_full (t ∷ text) [] b le = refl
over_full (t ∷ text) (x ∷ old) b le = ap (λ xs. t ∷ xs) (over_full text old b (omega (arith, le)))

length-over : (text old : List ℕ) → length (written_over text old) ≡ length old
length-over [] old = refl
length-over (t ∷ text) [] = refl
length-over (t ∷ text) (x ∷ old) = ap suc (length-over text old)

-- one text after another
pub goes_on : {a b c xs ys : List ℕ} {i j k : ℕ} → GoesOn a i xs b j → GoesOn b j ys c k → GoesOn a i (xs ++ ys) c k
goes_on {a} {b} {c} {xs} {ys} {i} {j} {k} first second = record {
  on = λ text before is. subst (λ t. IsTextWritten t before c k) (append_assoc text xs ys) (second.on (text ++ xs) before (first.on text before is));
}

-- the whole text, from the start on
pub written : {old text new : List ℕ} {end : ℕ} → GoesOn old 0 text new end → IsTextWritten text old new end
written {old} goes = goes.on [] old (record { bytes = refl; length = refl })

-- a byte for which there is room
pub byte_fits : (a : List ℕ) (i b : ℕ) → i < length a → length a ≤ 2 ^ 64 - 1 → GoesOn a i (b ∷ []) (set a i b) (min (i + 1) (2 ^ 64 - 1))
byte_fits a i b lt few = record {
  on = λ text before is.
      let long : length a ≡ length before = ap length is.bytes ∙ length-over text before in
      let at : i ≡ length text = omega (arith, is.length, long) in
      record {
        bytes = ap (λ xs. set xs i b) is.bytes ∙ ap (λ n. set (written_over text before) n b) at ∙ sym (over_more text before b (omega (arith, at, long)));
        length = omega (arith, at, length-append text (b ∷ []));
      };
}

-- and one for which there is none
pub byte_passes : (a : List ℕ) (i b : ℕ) → length a ≤ i → GoesOn a i (b ∷ []) a (min (i + 1) (2 ^ 64 - 1))
byte_passes a i b le = record {
  on = λ text before is.
      let long : length a ≡ length before = ap length is.bytes ∙ length-over text before in
      record {
        bytes = is.bytes ∙ sym (over_full text before b (omega (arith, is.length, long)));
        length = omega (arith, is.length, length-append text (b ∷ []));
      };
}

-- Rows.

rows_push : {X : Type 0} (f : X → List ℕ) (xs : List X) (y : X) → rows f (xs ++ y ∷ []) ≡ rows f xs ++ (lead (length xs) ++ f y)
rows_push {X} f [] y = append-nil (lead 0 ++ f y)
rows_push {X} f (x ∷ xs) y =
    let g : X → List ℕ = λ z. lead 1 ++ f z in
    ap (λ later. (lead 0 ++ f x) ++ later) (flat_map-append g xs (y ∷ []) ∙ ap (λ last. flat_map g xs ++ last) (append-nil (g y)))
    ∙ sym (append_assoc (lead 0 ++ f x) (flat_map g xs) (g y))

-- one row more
pub row_more : {X : Type 0} (f : X → List ℕ) (xs : List X) (i : ℕ) (d : X) → i < length xs
    → rows f (take i xs) ++ (lead i ++ f (get_or xs i d)) ≡ rows f (take (i + 1) xs)
row_more f xs i d lt =
    ap (λ n. rows f (take i xs) ++ (lead n ++ f (get_or xs i d))) (sym (omega (arith, length-take i xs)))
    ∙ sym (rows_push f (take i xs) (get_or xs i d)) ∙ ap (rows f) (sym (take_more xs i d lt))
