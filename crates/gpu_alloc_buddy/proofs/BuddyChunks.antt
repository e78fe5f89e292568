-- What the pairs tell, as the rule has it.
use Rattle.std.proofs.Common.{◌≡◌, ℕ, ◌^◌, Option, Some, None, Result, Ok, Err, IfNone, IfOk, IfSome, sym, ◌∙◌, ap, arith}
use Rattle.std.proofs.lemmas.Nat.{pow_pos}
use Rattle.std.specs.FinSet as set
use Rattle.gpu_alloc_base.specs.InHand.{AreApart}
use Rattle.gpu_alloc_base.specs.declared.buddy_block.Leaf.{Leaf}
use Rattle.gpu_alloc_base.proofs.InHand.{grant_adds, grant_leaves, leaves_same, no_chunks, none_in}
use Rattle.gpu_alloc_base.proofs.Leaves.{leaf_exact, leaf_total}
use Rattle.gpu_alloc_buddy.specs.Buddy.{Adds, Leaves, LeavesNoRest, bytes_of}
use Rattle.gpu_alloc_buddy.specs.BuddyRule.{Tries, buddy_rule}
use Rattle.gpu_alloc_buddy.specs.BuddySound.{IsSoundBuddy}
use Rattle.gpu_alloc_buddy.specs.BuddyState.{Buddy, space_of}
use Rattle.gpu_alloc_pairs.specs.Space.{BuddySpace, IsFront, IsLiveLeaf, IsSoundBuddySpace, without_leaf, without_leaf_and_chunk}
use Rattle.gpu_alloc_pairs.specs.Store.{CountsTaking, IsUnheld, TakesFront}
use Rattle.gpu_alloc_shared.specs.Shared.{Takes, tried}

-- A block is given only where no live one has a byte: in a free piece, or in a chunk of another object.

module _ (s : BuddySpace) (sound : IsSoundBuddySpace s) (leaf other : Leaf) (live : IsLiveLeaf s other) where
  front_apart : (size : ℕ) → IsFront s size leaf → AreApart (bytes_of other) (bytes_of leaf)
  front_apart size front same at in_other in_leaf =
      let there = sound.inside other live in
      let chunk = sound.one_object other.chunk leaf.chunk there.chunk front.chunk there.held front.held (sym there.object ∙ same ∙ front.object) in
      (front.piece.place.free at (record { from = in_leaf.from; to = omega (arith, in_leaf.to, front.of_size, front.enough) })).unused other live chunk in_other

  pub new_apart : IsUnheld s leaf.object → AreApart (bytes_of other) (bytes_of leaf)
  new_apart unheld same = let there = sound.inside other live in absurd (unheld other.chunk there.chunk there.held (sym there.object ∙ same))

-- A place is taken.

abbrev in_space : Buddy → BuddySpace → Buddy
in_space b s = record b { chunks = s.chunks; live = s.live }

module _ {E : Type 0} (b : Buddy) (now : BuddySpace) (order : ℕ) where
  -- what is live stays, and a block that is given is another
  pub takes_so : IsSoundBuddySpace (space_of b) → (answer : Result (Option Leaf) E) → TakesFront (space_of b) (2 ^ order) answer now
      → Takes buddy_rule b order answer (in_space b now) × (IfOk answer (λ block. IfSome block (Adds b (in_space b now))) × Leaves b (in_space b now))
  takes_so sound (Ok None) took = ((took.0, ap (in_space b) took.1), (tt, leaves_same bytes_of b.live now.live (ap (λ (x : BuddySpace). x.live) took.1)))
  takes_so sound (Ok (Some leaf)) took =
      let live : now.live ≡ set.insert b.live leaf = ap (λ (x : BuddySpace). x.live) took.1 in (
        (took.0, ap (in_space b) took.1),
        (grant_adds leaf_total leaf_exact bytes_of b.live leaf now.live live (omega (arith, took.0.of_size, pow_pos order)) (λ other is. front_apart (space_of b) sound leaf other is (2 ^ order) took.0), grant_leaves leaf_total leaf_exact bytes_of b.live leaf now.live live),
      )
  takes_so sound (Err e) took = ((took.0, ap (in_space b) took.1), (tt, leaves_same bytes_of b.live now.live (ap (λ (x : BuddySpace). x.live) took.1)))

  pub tries_so : (answer : Result (Option Leaf) E) (looks next splits after : ℕ) → TakesFront (space_of b) (2 ^ order) answer now → CountsTaking (space_of b) (2 ^ order) answer looks next splits after → Tries b (2 ^ order) (tried buddy_rule answer) looks next splits after
  tries_so (Ok None) looks next splits after took counted = (took.0, counted)
  tries_so (Ok (Some leaf)) looks next splits after took counted = counted
  tries_so (Err e) looks next splits after took counted = counted

-- A return.

pub live_less : {X : Type 0} (P : Type 0) (Q R : X → Type 0) (s now : BuddySpace) (leaf : Leaf) (gone : Option X) → IfNone gone (P × (now ≡ without_leaf s leaf)) → IfSome gone (λ x. Q x × (R x × (now ≡ without_leaf_and_chunk s leaf))) → now.live ≡ set.remove s.live leaf
live_less P Q R s now leaf None stays goes = ap (λ (x : BuddySpace). x.live) stays.1
live_less P Q R s now leaf (Some gone) stays goes = ap (λ (x : BuddySpace). x.live) goes.1.1

-- a chunk is held only for a live block
pub leaves_no_rest : (b : Buddy) → IsSoundBuddy b → LeavesNoRest b
leaves_no_rest b sound = record { held = λ none. no_chunks b.chunks (λ key chunk is. let used = sound.space.used key chunk is in none_in b.live none used.0 used.1.0) }
