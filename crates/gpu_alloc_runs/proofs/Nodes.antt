-- Nodes and their tiles, and what writes leave as it was.
use Rattle.std.proofs.Common.{◌≡◌, ◌≢◌, inl, inr, ℕ, Bool, true, Option, Some, None, IsSome, option_map, refl, sym, ◌∙◌, ap, subst}
use Rattle.std.proofs.lemmas.Bool.{cases_eq}
use Rattle.slab.specs.Slab.{Slab, ContainsKey, Updates, get}
use Rattle.gpu_alloc_runs.specs.Links.{AreLinked, AreNodesKept, KeepsNodes, SetsBefore, after_in, after_of, before_in, before_of}
use Rattle.gpu_alloc_runs.specs.Tiles.{IsCalm, IsTiled, Sets, tile_in}
use Rattle.gpu_alloc_runs.specs.declared.tile.Node.{Node}
use Rattle.gpu_alloc_runs.specs.declared.tile.Tile.{Tile}
use Rattle.gpu_alloc_runs.proofs.Tiles.{bit}

abbrev pub tile_of : Option Node → Option Tile
tile_of o = option_map (λ (n : Node). n.tile) o

-- a node has its tile
pub tile_of_node : (nodes : Slab Node) (k : ℕ) (n : Node) → get nodes k ≡ Some n → tile_in nodes k ≡ Some n.tile
tile_of_node nodes k n at = ap tile_of at

-- and a tile its node
pub node_of_tile : (nodes : Slab Node) (k : ℕ) (a : Tile) → tile_in nodes k ≡ Some a → (n : Node) × (get nodes k ≡ Some n) × (n.tile ≡ a)
node_of_tile nodes k a at = cases (get nodes k) refl at
  where
    cases : (o : Option Node) → get nodes k ≡ o → tile_of o ≡ Some a → (n : Node) × (get nodes k ≡ Some n) × (n.tile ≡ a)
    cases None is h = absurd (cc)
    cases (Some n) is h = (n, is, (let e : Some n.tile ≡ Some a = h in cc))

pub has_tile : (nodes : Slab Node) (k : ℕ) (a : Tile) → tile_in nodes k ≡ Some a → ContainsKey nodes k
has_tile nodes k a at = let n = node_of_tile nodes k a at in subst IsSome (sym n.1) refl

-- What holds of nodes holds where tiles and neighbours stay.

module _ (old new : Slab Node) (keeps : KeepsNodes old new) where
  same_tiles : tile_in new ≡ tile_in old
  same_tiles i k = keeps.tiles k i

  pub keeps_linked : AreLinked (tile_in old) (before_in old) (after_in old) → AreLinked (tile_in new) (before_in new) (after_in new)
  keeps_linked linked j k a b is_a is_b near =
      let was = linked j k a b (sym (keeps.tiles j) ∙ is_a) (sym (keeps.tiles k) ∙ is_b) near in
      (keeps.after j ∙ was.0, keeps.before k ∙ was.1)

  pub keeps_kept : (size : ℕ → ℕ) → AreNodesKept size old → AreNodesKept size new
  keeps_kept size kept = record {
    tiled = subst (IsTiled size) (sym same_tiles) kept.tiled;
    calm = subst IsCalm (sym same_tiles) kept.calm;
    linked = keeps_linked kept.linked;
  }

  -- of tiles alone, forth and back
  pub with_tiles : (P : (ℕ → Option Tile) → Type 0) → P (tile_in old) → P (tile_in new)
  with_tiles P = subst P (sym same_tiles)

  pub with_tiles_back : (P : (ℕ → Option Tile) → Type 0) → P (tile_in new) → P (tile_in old)
  with_tiles_back P = subst P same_tiles

pub keeps_self : (s : Slab Node) → KeepsNodes s s
keeps_self s = record { tiles = λ k. refl; before = λ k. refl; after = λ k. refl }

pub keeps_then : (n0 n1 n2 : Slab Node) → KeepsNodes n0 n1 → KeepsNodes n1 n2 → KeepsNodes n0 n2
keeps_then n0 n1 n2 one two = record {
  tiles = λ k. two.tiles k ∙ one.tiles k;
  before = λ k. two.before k ∙ one.before k;
  after = λ k. two.after k ∙ one.after k;
}

-- What is written.

module _ (old new : Slab Node) (key : ℕ) (n : Node) (u : Updates old new key (Some n)) where
  pub puts : Sets (tile_in old) (tile_in new) key (Some n.tile)
  puts = record { changed = ap tile_of u.changed; others = λ k ne. ap tile_of (u.others k ne) }

  pub put_before : before_in new key ≡ n.before
  put_before = ap before_of u.changed

  pub put_after : after_in new key ≡ n.after
  put_after = ap after_of u.changed

-- a node that is written anew is that of the key
pub written : (old new : Slab Node) (key : ℕ) (n : Node) (f : Node → Node) → get old key ≡ Some n → Updates old new key (option_map f (get old key)) → Updates old new key (Some (f n))
written old new key n f at u = subst (Updates old new key) (ap (option_map f) at) u

module _ (old new : Slab Node) (key : ℕ) (o : Option Node) (u : Updates old new key o) where
  pub other_before : (k : ℕ) → k ≢ key → before_in new k ≡ before_in old k
  other_before k ne = ap before_of (u.others k ne)

  pub other_after : (k : ℕ) → k ≢ key → after_in new k ≡ after_in old k
  other_after k ne = ap after_of (u.others k ne)

  pub other_tile : (k : ℕ) → k ≢ key → tile_in new k ≡ tile_in old k
  other_tile k ne = ap tile_of (u.others k ne)

-- A write of a neighbour leaves a key that it does not mean.

pub before_left : (old new : Slab Node) (there : Bool) (key value : ℕ) → SetsBefore old new there key value → (k : ℕ) → (there ≡ true → k ≢ key) → before_in new k ≡ before_in old k
before_left old new there key value sets k spared = elim (bit there) [
  | inl yes' ↦ sets.others k (spared yes')
  | inr no' ↦ elim (cases_eq k key) [
    | inl same ↦ ap (before_in new) same ∙ sets.left no' ∙ sym (ap (before_in old) same)
    | inr other ↦ sets.others k other
  ]
]
