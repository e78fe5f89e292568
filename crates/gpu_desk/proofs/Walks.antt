-- Each block comes exactly once that lives all along.
use Rattle.std.proofs.Common.{◌≡◌, ◌≢◌, inl, inr, ℕ, ◌+◌, ◌%◌, ◌^◌, ◌<◌, ◌≤◌, ◌==◌, true, false, cond, List, [], ◌∷◌, filter, All, refl, sym, ◌∙◌, ap, subst, arith}
use Rattle.std.proofs.lemmas.Bool.Decides.{nat_tests}
use Rattle.std.proofs.lemmas.List.Elements.{All-head, All-tail}
use Rattle.gpu_desk.specs.Desk.{DeskState}
use Rattle.gpu_desk.specs.Walk.{behind, ComesOnce, IsLiveKey, NeverComes, Walks}

same : (a b : ℕ) → a ≡ b → (a == b) ≡ true
same a b e = grind (arith, nat_tests)

other : (a b : ℕ) → (a ≡ b → ⊥) → (a == b) ≡ false
other a b ne = grind (arith, nat_tests)

-- the first place after that of a key other than 0
next_place : (k : ℕ) → k ≢ 0 → behind k ≡ k % 2 ^ 32 + 1
next_place k some = ap (λ b. cond b 0 (k % 2 ^ 32 + 1)) (other k 0 some)

module _ (key : ℕ) where
  with_it : (k : ℕ) (ks : List ℕ) → k ≡ key → filter (λ q. q == key) ks ≡ [] → ComesOnce (k ∷ ks) key
  with_it k ks e rest = ap (λ b. cond b (k ∷ filter (λ q. q == key) ks) (filter (λ q. q == key) ks)) (same k key e) ∙ ap (λ qs. k ∷ qs) rest ∙ ap (λ q. q ∷ []) e

  without : (k : ℕ) (ks : List ℕ) (is : List ℕ) → (k ≡ key → ⊥) → filter (λ q. q == key) ks ≡ is → filter (λ q. q == key) (k ∷ ks) ≡ is
  without k ks is ne rest = ap (λ b. cond b (k ∷ filter (λ q. q == key) ks) (filter (λ q. q == key) ks)) (other k key ne) ∙ rest

  -- once its place is passed it comes no more
  no_more : (after : ℕ) (states : List DeskState) (keys : List ℕ) → Walks after states keys → key % 2 ^ 32 < behind after → NeverComes keys key
  no_more after [] keys walk past = absurd walk
  no_more after (s ∷ []) [] walk past = refl
  no_more after (s ∷ t ∷ states) [] walk past = absurd walk
  no_more after (s ∷ states) (k ∷ keys) walk past =
      without k keys [] differs (no_more k states keys walk.1 (omega (arith, place, next, past)))
    where
      place : behind after ≤ k % 2 ^ 32
      place = (walk.0).from

      next : behind k ≡ k % 2 ^ 32 + 1
      next = next_place k (walk.0).never_zero

      differs : k ≡ key → ⊥
      differs e = let one = ap (λ n. n % 2 ^ 32) e in omega (arith, one, place, past)

  pub once : (after : ℕ) (states : List DeskState) (keys : List ℕ) → Walks after states keys → behind after ≤ key % 2 ^ 32 → All (IsLiveKey key) states → ComesOnce keys key
  once after [] keys walk from lives = absurd walk
  once after (s ∷ []) [] walk from lives = let before = walk key (All-head (IsLiveKey key) s [] lives) in absurd (omega (arith, before, from))
  once after (s ∷ t ∷ states) [] walk from lives = absurd walk
  once after (s ∷ states) (k ∷ keys) walk from lives = elim ((walk.0).others key (All-head (IsLiveKey key) s states lives)) [
    | inl e ↦ with_it k keys (sym e) (no_more k states keys walk.1 (let one = ap (λ n. n % 2 ^ 32) e in omega (arith, one, next)))
    | inr (inl before) ↦ absurd (omega (arith, before, from))
    | inr (inr later) ↦ without k keys (key ∷ []) (λ e. let one = ap (λ n. n % 2 ^ 32) e in omega (arith, one, later)) (once k states keys walk.1 (omega (arith, later, next)) (All-tail (IsLiveKey key) s states lives))
  ]
    where
      next : behind k ≡ k % 2 ^ 32 + 1
      next = next_place k (walk.0).never_zero

  pub never : (after : ℕ) (states : List DeskState) (keys : List ℕ) → Walks after states keys → All (λ s. IsLiveKey key s → ⊥) states → NeverComes keys key
  never after [] keys walk dead = absurd walk
  never after (s ∷ []) [] walk dead = refl
  never after (s ∷ t ∷ states) [] walk dead = absurd walk
  never after (s ∷ states) (k ∷ keys) walk dead =
      without k keys [] (λ e. All-head (λ s. IsLiveKey key s → ⊥) s states dead (subst (λ q. IsLiveKey q s) e (walk.0).live))
      (never k states keys walk.1 (All-tail (λ s. IsLiveKey key s → ⊥) s states dead))
