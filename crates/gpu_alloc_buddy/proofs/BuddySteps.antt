-- How many steps a call takes, and how many pieces are free.
use Rattle.std.proofs.Common.{◌≡◌, inl, inr, ℕ, ◌+◌, ◌*◌, ◌-◌, ◌^◌, ◌<◌, ◌≤◌, ◌==◌, Bool, cond, List, [], ◌∷◌, map, Result, Ok, Err, IfOk, refl, sym, ◌∙◌, ap, subst, arith, count_by}
use Rattle.std.proofs.lemmas.Bool.Decides.{Decides-eqb, same_from_decides}
use Rattle.std.proofs.lemmas.List.Sums.{sum_by-cons}
use Rattle.std.proofs.lemmas.Nat.{pow-add, pow_pos}
use Rattle.std.specs.FinSet as set
use Rattle.gpu_alloc_base.specs.Accounts.{Account}
use Rattle.gpu_alloc_base.specs.FreeSpace.{IsFreePiece, IsIn}
use Rattle.gpu_alloc_base.specs.declared.buddy_block.Leaf.{Leaf}
use Rattle.gpu_alloc_base.specs.declared.error.AllocationError.{AllocationError}
use Rattle.gpu_alloc_base.specs.declared.piece.Piece.{Piece}
use Rattle.gpu_alloc_base.proofs.AlignedPowers.{order-le, pow-le}
use Rattle.gpu_alloc_base.proofs.ExactPieces.{one_free_piece}
use Rattle.gpu_alloc_base.proofs.Multiples.{multiple_of_lower}
use Rattle.gpu_alloc_buddy.specs.BuddyRule.{buddy_rule}
use Rattle.gpu_alloc_buddy.specs.BuddyState.{Buddy, HasPlace, IsFreeInBuddy, IsLiveBuddyLeaf, chunk_size, space_of}
use Rattle.gpu_alloc_buddy.specs.BuddySteps.{AreFewRanges, AreFewReleases, CountsBeginning, CountsRefusing, CountsSteps}
use Rattle.gpu_alloc_pairs.specs.Space.{IsSoundBuddySpace}
use Rattle.gpu_alloc_pairs.specs.Store.{piece_range}
use Rattle.gpu_alloc_shared.specs.Shared as shared
use Rattle.gpu_alloc_shared.specs.Shared.{Counted}
use Rattle.gpu_alloc_buddy.proofs.BuddyAnswers.{same_order}

-- A grant.

-- a free piece that is long enough is a place
has_place : (b : Buddy) (order k : ℕ) (leaf : Leaf) → leaf.size ≡ 2 ^ order → IsFreePiece (IsFreeInBuddy b) leaf.chunk leaf.offset (leaf.size * 2 ^ k) → HasPlace b (2 ^ order)
has_place b order k leaf size piece =
    let long : leaf.size * 2 ^ k ≡ 2 ^ (order + k) = ap (λ n. n * 2 ^ k) size ∙ sym (pow-add 2 order k) in
    let le : 2 ^ order ≤ leaf.size * 2 ^ k = omega (arith, long, pow-le order (order + k) (omega arith)) in (
      leaf.chunk,
      leaf.offset,
      record {
        power = (order, refl);
        aligned = multiple_of_lower (2 ^ order) (leaf.size * 2 ^ k) leaf.offset (order, refl) piece.place.power le piece.place.aligned;
        free = λ at is. piece.place.free at (record { from = is.from; to = omega (arith, is.to, le) });
      },
    )

-- the first byte of a free piece is one of it
first_in : (b : Buddy) (chunk start length : ℕ) → IsFreePiece (IsFreeInBuddy b) chunk start length → IsIn start length start
first_in b chunk start length piece = record { from = omega arith; to = omega (arith, piece.place.power.1, pow_pos piece.place.power.0) }

module _ (b : Buddy) (order looks now splits after : ℕ) where
  -- a block in a place is the front of the one piece that the pairs tell
  grant_counts : (leaf : Leaf) → leaf.size ≡ 2 ^ order → Counted buddy_rule {E = AllocationError} b order (chunk_size b (2 ^ order)) (Ok leaf) looks now splits after → CountsSteps b looks now splits after leaf
  grant_counts leaf size (inl front) k piece =
      let long = (one_free_piece (IsFreeInBuddy b) leaf.chunk leaf.offset _ leaf.offset _ leaf.offset piece front.piece (first_in b _ _ _ piece) (first_in b _ _ _ front.piece)).1 in
      let powers = pow-add 2 order k ∙ subst (λ n. n * 2 ^ k ≡ n * 2 ^ front.doublings) size long ∙ sym (pow-add 2 order front.doublings) in
      let same = same_order (order + k) (order + front.doublings) powers in
      (omega (arith, front.looked, same), omega (arith, front.split, same))
  grant_counts leaf size (inr begun) k piece = absurd (begun.1.0.0 (has_place b order k leaf size piece))

  -- and one that begins a chunk is of no such piece
  grant_begins : (leaf : Leaf) → leaf.size ≡ 2 ^ order → Counted buddy_rule {E = AllocationError} b order (chunk_size b (2 ^ order)) (Ok leaf) looks now splits after → CountsBeginning b looks now splits after leaf
  grant_begins leaf size (inl front) none k is = let there = (front.piece.place.free leaf.offset (first_in b _ _ _ front.piece)).is in absurd (cc)
  grant_begins leaf size (inr begun) none k is =
      let halves = begun.1.1 in
      let long : 2 ^ halves.chunk_order ≡ 2 ^ (order + k) = sym halves.is ∙ ap (chunk_size b) (sym size) ∙ is ∙ ap (λ x. x * 2 ^ k) size ∙ sym (pow-add 2 order k) in
      (rw size begun.1.0.1.0, omega (arith, halves.split, begun.1.0.1.1, same_order halves.chunk_order (order + k) long))

  pub granted_counts : (answer : Result Leaf AllocationError) → IfOk answer (λ leaf. leaf.size ≡ 2 ^ order) → Counted buddy_rule b order (chunk_size b (2 ^ order)) answer looks now splits after
      → IfOk answer (CountsSteps b looks now splits after) × IfOk answer (CountsBeginning b looks now splits after)
  granted_counts (Ok leaf) size counted = (grant_counts leaf size counted, grant_begins leaf size counted)
  granted_counts (Err e) size counted = (tt, tt)

-- A test for a refusal.

pub refusing_so : (a : Account Buddy) (order looks now : ℕ) → shared.CountsRefusing buddy_rule a order looks now → CountsRefusing a (2 ^ order) looks now
refusing_so a order looks now (inl ((fits, inl (inl none)), search)) = inl ((fits, inl none), search)
refusing_so a order looks now (inl ((fits, inl (inr spent)), search)) = absurd (spent tt)
refusing_so a order looks now (inl ((fits, inr over), search)) = inl ((fits, inr over), search)
refusing_so a order looks now (inr (never, same)) = inr ((λ (fits, first). never (fits, elim first [ inl none ↦ inl (inl none) | inr over ↦ inr over ])), same)

-- A return.

pub few_at_most : (b : Buddy) (leaf : Leaf) (old new : ℕ) → IsSoundBuddySpace (space_of b) → IsLiveBuddyLeaf b leaf → old < new → AreFewReleases b leaf old new → new ≤ old + 63
few_at_most b leaf old new sound live some few =
    let lies = sound.inside leaf live in
    let power = sound.powers leaf.chunk lies.chunk lies.held in
    let most = few lies.chunk lies.held in
    let long : leaf.size * 2 ^ (new - old) ≡ 2 ^ (lies.power.0 + (new - old)) = ap (λ n. n * 2 ^ (new - old)) lies.power.1 ∙ sym (pow-add 2 lies.power.0 (new - old)) in
    let le = order-le (lies.power.0 + (new - old)) power.0 (omega (arith, most, long, power.1.1)) in
    omega (arith, le, power.1.0, some)

-- Free pieces.

count_ranges : {X Y : Type 0} (f : X → Y) (p : Y → Bool) (q : X → Bool) → ((x : X) → p (f x) ≡ q x) → (xs : List X) → count_by p (map f xs) ≡ count_by q xs
count_ranges f p q same [] = refl
count_ranges f p q same (x ∷ xs) =
    sum_by-cons (λ y. cond (p y) 1 0) (f x) (map f xs)
    ∙ ap (λ b. cond b 1 0 + count_by p (map f xs)) (same x) ∙ ap (λ n. cond (q x) 1 0 + n) (count_ranges f p q same xs)
    ∙ sym (sum_by-cons (λ y. cond (q y) 1 0) x xs)

-- a range determines its piece's order
as_long : (start n order : ℕ) → (start + 2 ^ n == start + 2 ^ order) ≡ (n == order)
as_long start n order = same_from_decides _ _ (Decides-eqb (start + 2 ^ n) (start + 2 ^ order)) (
  (λ t. let is = (Decides-eqb n order).0 t in ap (λ k. start + 2 ^ k) is),
  (λ e. (Decides-eqb n order).1 (same_order n order (omega (arith, e)))),
)

pub few_ranges : (b : Buddy) (pieces : List Piece) → ((order : ℕ) → count_by (λ p. p.order == order) pieces ≤ set.len b.live) → AreFewRanges b (map (piece_range (space_of b)) pieces)
few_ranges b pieces few order =
    let same = count_ranges (piece_range (space_of b)) (λ r. r.end == r.start + 2 ^ order) (λ p. p.order == order) (λ p. as_long p.start p.order order) pieces in
    omega (arith, few order, same)
