-- Which classes have room for a block: surely, surely not, and maybe.
use Rattle.std.proofs.Common.{◌≡◌, ◌≢◌, inl, inr, ℕ, ◌+◌, ◌-◌, ◌*◌, ◌/◌, ◌%◌, ◌<◌, ◌≤◌, Bool, true, false, cond, List, [], ◌∷◌, Option, Some, None, refl, sym, ◌∙◌, arith}
use Rattle.std.proofs.lemmas.Bool.{cases_lt}
use Rattle.std.proofs.lemmas.Nat.{div-add-mod', mod_below}
use Rattle.slab.specs.Slab.{Slab}
use Rattle.gpu_alloc_base.proofs.FreeRuns.{tail_below}
use Rattle.gpu_alloc_runs.specs.Choice.{sure_class}
use Rattle.gpu_alloc_runs.specs.Classes.{IsChain, IsIn, below_in, class_of_bytes, first_in}
use Rattle.gpu_alloc_runs.specs.Filed.{AreFreeFiled, class_at, down_in, filed_in, up_in}
use Rattle.gpu_alloc_runs.specs.Tiles.{HasRoomAt, HasRoomIn, tile_in}
use Rattle.gpu_alloc_runs.specs.declared.classes.Classes.{Classes}
use Rattle.gpu_alloc_runs.specs.declared.tile.Node.{Node}
use Rattle.gpu_alloc_runs.specs.declared.tile.TheConstants.{NONE}
use Rattle.gpu_alloc_runs.specs.declared.tile.Tile.{Tile}
use Rattle.gpu_alloc_runs.proofs.Filing.{below_none, first_is}
use Rattle.gpu_alloc_runs.proofs.Lengths.{class_rises}

-- a tile of a class is free, and as long as that says
pub record IsTileOfClass (T : ℕ → Option Tile) (key class : ℕ) : Type 0 where
  pub tile : Tile
  pub at : T key ≡ Some tile
  pub free : tile.free ≡ true
  pub class_is : class_of_bytes (tile.end - tile.start) ≡ class

pub tile_of_class : (T : ℕ → Option Tile) (key class : ℕ) → class_at (T key) ≡ Some class → IsTileOfClass T key class
tile_of_class T key class on = by_tile (T key) refl on
  where
    by_free : (t : Tile) (b : Bool) → t.free ≡ b → T key ≡ Some t → cond b (Some (class_of_bytes (t.end - t.start))) None ≡ Some class → IsTileOfClass T key class
    by_free t true is at on = record { tile = t; at = at; free = is; class_is = (let e : Some (class_of_bytes (t.end - t.start)) ≡ Some class = on in cc) }
    by_free t false is at on = absurd (let e : None ≡ Some class = on in cc)

    by_tile : (o : Option Tile) → T key ≡ o → class_at o ≡ Some class → IsTileOfClass T key class
    by_tile None at on = absurd (let e : None ≡ Some class = on in cc)
    by_tile (Some t) at on = by_free t t.free refl at on

-- a tile with room is no shorter than the block
pub long_enough : (size mask : ℕ) (a : Tile) → HasRoomIn size (mask + 1) a → size ≤ a.end - a.start
long_enough size mask a room = omega (arith, room.1.enough, room.1.from, tail_below size (mask + 1) a.end)

-- one that is longer than the block and its alignment has room
pub long_has_room : (size mask : ℕ) (a : Tile) → a.free ≡ true → size + mask ≤ a.end - a.start → 0 < size → HasRoomIn size (mask + 1) a
long_has_room size mask a free long some =
    let all : (a.end - size) / (mask + 1) * (mask + 1) + (a.end - size) % (mask + 1) ≡ a.end - size = div-add-mod' (a.end - size) (mask + 1) in
    let low = mod_below (a.end - size) (mask + 1) (omega arith) in
    (free, record { enough = omega (arith, long, some); from = omega (arith, all, low, long, some) })

module _ (nodes : Slab Node) (classes : Classes) (filed : AreFreeFiled nodes classes) where
  -- a class without a first tile has none
  pub none_filed : (class : ℕ) → first_in classes class ≡ NONE → (k : ℕ) → filed_in nodes k ≡ Some class → ⊥
  none_filed class none k on = cases _ (filed.lists class).0 (filed.lists class).1.chain (filed.lists class).1.keyed (((filed.lists class).1.exact k).1 on)
    where
      cases : (up : ℕ → ℕ) (keys : List ℕ) → IsChain (below_in (first_in classes class) (down_in nodes)) up NONE keys → (IsIn keys NONE → ⊥) → IsIn keys k → ⊥
      cases up [] chain keyed is = is
      cases up (x ∷ rest) chain keyed is = keyed (inl (sym none ∙ sym (below_none (first_in classes class) (down_in nodes)) ∙ chain.0))

  -- and a first tile is of the class
  pub first_filed : (class : ℕ) → first_in classes class ≢ NONE → filed_in nodes (first_in classes class) ≡ Some class
  first_filed class some = elim (first_is (filed_in nodes) (first_in classes) (up_in nodes) (down_in nodes) filed.lists class) [
    | inl none ↦ absurd (some none)
    | inr is ↦ ((filed.lists class).1.exact (first_in classes class)).0 is
  ]

  -- in a class that is sure each tile has room
  pub sure_room : (size mask : ℕ) → 0 < size → (k class : ℕ) → sure_class size (mask + 1) ≤ class → filed_in nodes k ≡ Some class → HasRoomAt (tile_in nodes) size (mask + 1) k
  sure_room size mask some k class sure on =
      let t = tile_of_class (tile_in nodes) k class on in
      let longer : size - 1 + (mask + 1 - 1) < t.tile.end - t.tile.start = (elim (cases_lt (size - 1 + (mask + 1 - 1)) (t.tile.end - t.tile.start)) [
        | inl less ↦ less
        | inr le ↦ absurd (let rise = class_rises (t.tile.end - t.tile.start) (size - 1 + (mask + 1 - 1)) le in omega (arith, rise, t.class_is, sure))
      ]) in
      (t.tile, (t.at, long_has_room size mask t.tile t.free (omega (arith, longer, some)) some))
