-- After what is written to a list, the rest of it stays as it was.
use Rattle.std.proofs.Common.{◌≡◌, ◌≤◌, ◌+◌, ℕ, List, drop, length, slice_set, arith, ap, sym, ◌∙◌}
use Rattle.std.proofs.lemmas.List.{drop-drop, drop-set-lt, drop_all}

-- one more is written
pub rest_stays : {X : Type 0} (now old : List X) (i : ℕ) (x : X) → drop i now ≡ drop i old
    → drop (i + 1) (slice_set now i x) ≡ drop (i + 1) old
rest_stays now old i x same =
    drop-set-lt (i + 1) now i x (omega arith) ∙ sym (drop-drop 1 i now) ∙ ap (drop 1) same ∙ drop-drop 1 i old

-- past the end there is nothing
pub nothing_behind : {X : Type 0} (now old : List X) (n : ℕ) → length now ≡ length old → length now ≤ n
    → drop n now ≡ drop n old
nothing_behind now old n same past = drop_all n now past ∙ sym (drop_all n old (omega (arith, same, past)))
