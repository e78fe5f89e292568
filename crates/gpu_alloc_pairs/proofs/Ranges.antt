-- The free pieces of a store lie in its chunks, which are held and of at most 2^63 bytes.
use Rattle.std.proofs.Common.{◌≡◌, ℕ, ◌+◌, ◌^◌, ◌<◌, ◌≤◌, List, get_or, length, IsSome, Option, Some, None, refl, subst, arith}
use Rattle.std.proofs.lemmas.List.Elements.{Contains-get_or}
use Rattle.std.specs.List.{Contains}
use Rattle.std.specs.FinMap as finite
use Rattle.slab.specs.Slab.{Slab}
use Rattle.gpu_alloc_base.specs.Accounts.{HeldChunks}
use Rattle.gpu_alloc_base.specs.declared.piece.Piece.{Piece}
use Rattle.gpu_alloc_base.proofs.AlignedPowers.{doubled, pow-le}
use Rattle.gpu_alloc_pairs.specs.Entry.{Entry}
use Rattle.gpu_alloc_pairs.specs.Halves.{free_pieces}
use Rattle.gpu_alloc_pairs.specs.Length.{AreBounded}
use Rattle.gpu_alloc_pairs.specs.Store.{buddy_space_in, IsStored}
use Rattle.gpu_alloc_pairs.specs.Tree.{no_pairs}
use Rattle.gpu_alloc_pairs.proofs.Halves.{free_pieces_are}
use Rattle.gpu_alloc_pairs.proofs.Space.{PieceLies, bounded_piece, free_lies}

held_some : {X : Type 0} (o : Option X) (x : X) → o ≡ Some x → IsSome o
held_some None x is = cc
held_some (Some y) x is = refl

module _ (chunks : HeldChunks) (lengths : List (Slab Entry)) (i : IsStored chunks lengths) where
  -- each right half starts below 2^64
  pub all_bounded : (n : ℕ) → AreBounded n (get_or lengths n no_pairs)
  all_bounded n key e at =
      let l = i.tree.inside n key e at in
      let power = i.sound.powers e.chunk l.chunk l.held in
      omega (arith, l.inside, power.1.1, pow-le power.0 63 power.1.0, doubled n)

  -- an element of the list of free pieces
  pub in_pieces : (pieces : List Piece) (k : ℕ) (d : Piece) → pieces ≡ free_pieces lengths → k < length pieces → Contains (free_pieces lengths) (get_or pieces k d)
  in_pieces pieces k d is lt = subst (λ ps. Contains ps (get_or pieces k d)) is (Contains-get_or pieces k d lt)

  module _ (p : Piece) (has : Contains (free_pieces lengths) p) where
    lies : PieceLies (buddy_space_in chunks lengths) p
    lies = free_lies (buddy_space_in chunks lengths) p (λ at j. i.canonical.free p ((free_pieces_are lengths p).0 has) at j)

    pub piece_held : IsSome (finite.get chunks p.chunk)
    piece_held = held_some (finite.get chunks p.chunk) lies.held lies.is

    pub piece_bounded : (p.order ≤ 63) × (p.start + 2 ^ p.order ≤ 2 ^ 63)
    piece_bounded = bounded_piece (buddy_space_in chunks lengths) p
        (λ key held is. let power = i.sound.powers key held is in omega (arith, power.1.1, pow-le power.0 63 power.1.0)) lies
