-- All tiles are searched for one of a kind.
use Rattle.std.proofs.Common.{◌≡◌, ◌∷◌, ℕ, List, Contains, Some, inl, inr, ap}
use Rattle.slab.specs.Slab.{Slab, get, entries}
use Rattle.slab.proofs.SlabLemmas.{Contains-cons, Contains-cons_cases, Contains-entries}
use Rattle.gpu_alloc_base.proofs.Lists.{contains_head}
use Rattle.gpu_alloc_runs.specs.Tiles.{tile_in}
use Rattle.gpu_alloc_runs.specs.declared.tile.Node.{Node}
use Rattle.gpu_alloc_runs.specs.declared.tile.Tile.{Tile}
use Rattle.gpu_alloc_runs.proofs.Nodes.{tile_of_node}

-- those of the kind are among the entries that are left, and these are of the slab
pub record AreLeft (nodes : Slab Node) (P : Tile → Type 0) (rest : List (ℕ × Node)) : Type 0 where
  pub all : (k : ℕ) (n : Node) → get nodes k ≡ Some n → P n.tile → Contains rest (k, n)
  pub own : (k : ℕ) (n : Node) → Contains rest (k, n) → get nodes k ≡ Some n

module _ (nodes : Slab Node) (P : Tile → Type 0) where
  pub at_first : (rest : List (ℕ × Node)) → rest ≡ entries nodes → AreLeft nodes P rest
  at_first rest is = record {
    all = λ k n at p. rw is ((Contains-entries nodes k n).1 at);
    own = λ k n has. (Contains-entries nodes k n).0 (rw is at has);
  }

  module _ (before rest : List (ℕ × Node)) (k : ℕ) (n : Node) (is : before ≡ (k, n) ∷ rest) (left : AreLeft nodes P before) where
    pub own_node : get nodes k ≡ Some n
    own_node = left.own k n (rw is (contains_head _ _))

    pub one_less : (P n.tile → ⊥) → AreLeft nodes P rest
    one_less not = record {
      all = λ q m at p. elim (Contains-cons_cases _ _ _ (rw is at (left.all q m at p))) [
        | inl same ↦ absurd (not (rw (← (ap (λ e. e.1.tile) same)) at p))
        | inr later ↦ later
      ];
      own = λ q m has. left.own q m (rw is (Contains-cons _ _ _ has));
    }

    pub is_found : P n.tile → (a : Tile) × ((tile_in nodes k ≡ Some a) × P a)
    is_found yes' = (n.tile, (tile_of_node nodes k n own_node, yes'))
