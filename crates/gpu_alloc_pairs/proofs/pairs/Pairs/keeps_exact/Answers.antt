use Rattle.std.proofs.Common.{ℕ, ◌==◌, List, subst, arith}
use Rattle.std.proofs.lemmas.Bool.Decides.{Decides-eqb}
use Rattle.slab.specs.Slab.{Slab}
use Rattle.gpu_alloc_base.specs.Accounts.{HeldChunks}
use Rattle.gpu_alloc_base.specs.declared.piece.Piece.{Piece}
use Rattle.gpu_alloc_base.proofs.ExactPieces.{kept_is_free_piece, free_piece_is_kept}
use Rattle.gpu_alloc_pairs.specs.Entry.{Entry}
use Rattle.gpu_alloc_pairs.specs.Halves.{free_pieces}
use Rattle.gpu_alloc_pairs.specs.Space.{IsFreeAt}
use Rattle.gpu_alloc_pairs.specs.Store.{AreFew, buddy_space_in, buddy_store_in, IsExact, IsStored}
use Rattle.gpu_alloc_pairs.specs.Tree.{IsReady, pair_at}
use Rattle.gpu_alloc_pairs.specs.declared.pair.Use.TheVariants.{Free}
use Rattle.gpu_alloc_pairs.proofs.Counts.{few_pieces}
use Rattle.gpu_alloc_pairs.proofs.Halves.{free_pieces_are, free_pieces_once}
use Rattle.gpu_alloc_pairs.proofs.Listed.{distinct_only, in_only, length_only, only}
use Rattle.gpu_alloc_pairs.proofs.Trees.{one_half}
use Rattle.gpu_alloc_pairs.proofs.pairs.Pairs.keeps_exact.Goals as goal

module _ (chunks : HeldChunks) (room : ℕ) (lengths : List (Slab Entry)) (i : IsStored chunks lengths) where
  exact_in : IsExact (buddy_store_in chunks room lengths)
  exact_in = record {
    pieces = λ p. (
      (λ has. kept_is_free_piece (IsReady (pair_at lengths)) (IsFreeAt (buddy_space_in chunks lengths)) i.canonical p ((free_pieces_are lengths p).0 has)),
      (λ is. (free_pieces_are lengths p).1 (free_piece_is_kept (IsReady (pair_at lengths)) (IsFreeAt (buddy_space_in chunks lengths)) i.canonical p is)),
    );
    once = free_pieces_once (IsFreeAt (buddy_space_in chunks lengths)) lengths i.canonical (λ p k l a b. one_half (pair_at lengths) chunks i.tree p k l a b Free Free);
  }

  few_in : AreFew (buddy_store_in chunks room lengths)
  few_in order =
      let test = λ (p : Piece). p.order == order in
      let some = few_pieces (buddy_space_in chunks lengths) i.sound order (only test (free_pieces lengths)) (distinct_only test _ (free_pieces lengths) exact_in.once)
      (λ p has. let w = in_only test (free_pieces lengths) p has in ((Decides-eqb p.order order).0 w.0, (exact_in.pieces p).0 w.1)) in
      omega (arith, some, length_only test (free_pieces lengths))

pub returns-clause-exact : goal.returns-clause-exact
returns-clause-exact g c = subst IsExact c.self.view_is (exact_in _ _ c.self.inside.lengths.items c.self.invariant)

pub returns-clause-few : goal.returns-clause-few
returns-clause-few g c = subst AreFew c.self.view_is (few_in _ 0 c.self.inside.lengths.items c.self.invariant)
