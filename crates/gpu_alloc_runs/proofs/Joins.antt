-- A free tile takes the free ones beside it in.
use Rattle.std.proofs.Common.{◌≡◌, ◌≢◌, inl, inr, ℕ, ◌-◌, ◌<◌, ◌≤◌, Bool, true, false, Option, Some, None, option_map, refl, sym, ◌∙◌, ap, subst, arith}
use Rattle.std.proofs.lemmas.Bool.{cases_eq}
use Rattle.std.specs.Prelude.{not}
use Rattle.slab.specs.Slab.{Slab, ContainsKey, Updates, get}
use Rattle.gpu_alloc_runs.specs.Classes.{class_of_bytes, filed_but}
use Rattle.gpu_alloc_runs.specs.Filed.{AreFreeFiled, AreFreeFiledBut, IsIndexed, KeepsEnds, KeepsLasts, KeepsLists, Refiles, class_at, down_in, down_of, filed_in}
use Rattle.gpu_alloc_runs.specs.Links.{AreLinked, AreNodesKept, AreNodesKeptBut, KeepsNodes, SetsBefore, after_in, after_of, before_in, before_of, with_end, with_free}
use Rattle.gpu_alloc_runs.specs.Tiles.{AreFreeNeighbours, AreNeighbours, IsCalmBut, IsFirst, IsTiled, KeepsElsewhere, KeepsLive, PutsTileBack, Sets, tile_in}
use Rattle.gpu_alloc_runs.specs.declared.classes.Classes.{Classes}
use Rattle.gpu_alloc_runs.specs.declared.tile.Node.{Node}
use Rattle.gpu_alloc_runs.specs.declared.tile.TheConstants.{NONE}
use Rattle.gpu_alloc_runs.specs.declared.tile.Tile.{Tile}
use Rattle.gpu_alloc_runs.proofs.Filed.{but_as, free_class, kept_lists, live_class, unfiled_goes}
use Rattle.gpu_alloc_runs.proofs.Filing.{but_other, but_same}
use Rattle.gpu_alloc_runs.proofs.Links.{after_else, before_else, ends_before, joint_linked, key_after, key_before, retiled_linked}
use Rattle.gpu_alloc_runs.proofs.Nodes.{before_left, has_tile, node_of_tile, other_after, other_before, other_tile, put_after, put_before, puts, tile_of, tile_of_node, written}
use Rattle.gpu_alloc_runs.proofs.Tiles.{Absorbs, IsJoint, IsLast, came, came_joint, joint_calm, joint_lives, joint_tiled, not_both, one_tile, retiled, settled}

-- A live tile is freed: it may touch free ones.
module _ (size : ℕ → ℕ) (s0 s1 : Slab Node) (x : ℕ) (n : Node) (kept : AreNodesKept size s0) (at : get s0 x ≡ Some n) (writes : Updates s0 s1 x (option_map (with_free true) (get s0 x))) where
  abbrev freed_tile : Tile
  freed_tile = record { chunk = n.tile.chunk; start = n.tile.start; end = n.tile.end; free = true }

  puts_freed : Updates s0 s1 x (Some (with_free true n))
  puts_freed = written s0 s1 x n (with_free true) at writes

  sets : Sets (tile_in s0) (tile_in s1) x (Some freed_tile)
  sets = puts s0 s1 x (with_free true n) puts_freed

  at_t : tile_in s0 x ≡ Some n.tile
  at_t = tile_of_node s0 x n at

  same_before : (k : ℕ) → before_in s1 k ≡ before_in s0 k
  same_before k = elim (cases_eq k x) [
    | inl here ↦ ap (before_in s1) here ∙ put_before s0 s1 x (with_free true n) puts_freed ∙ sym (ap before_of at) ∙ sym (ap (before_in s0) here)
    | inr other ↦ other_before s0 s1 x (Some (with_free true n)) puts_freed k other
  ]

  same_after : (k : ℕ) → after_in s1 k ≡ after_in s0 k
  same_after k = elim (cases_eq k x) [
    | inl here ↦ ap (after_in s1) here ∙ put_after s0 s1 x (with_free true n) puts_freed ∙ sym (ap after_of at) ∙ sym (ap (after_in s0) here)
    | inr other ↦ other_after s0 s1 x (Some (with_free true n)) puts_freed k other
  ]

  pub freed : AreNodesKeptBut size x s1
  freed = record {
    tiled = retiled size (tile_in s0) (tile_in s1) x n.tile freed_tile kept.tiled at_t (record { chunk = refl; start = refl; end = refl }) sets;
    calm = λ j k c d ne_j ne_k is_c is_d both. kept.calm j k c d (sym (sets.others j ne_j) ∙ is_c) (sym (sets.others k ne_k) ∙ is_d) both;
    linked = retiled_linked (tile_in s0) (tile_in s1) (before_in s0) (after_in s0) (before_in s1) (after_in s1) kept.linked x n.tile freed_tile at_t (record { chunk = refl; start = refl; end = refl }) sets same_before same_after;
    tile = freed_tile;
    at = sets.changed;
    free = refl;
  }

  -- and is live no more
  pub freed_others : PutsTileBack (tile_in s0) (tile_in s1) x
  freed_others = record {
    stays = λ k c h ne. (sets.others k ne ∙ h.0, h.1);
    was = λ k c h. elim (came (tile_in s0) (tile_in s1) x freed_tile sets k c h.0) [
      | inl new ↦ absurd (not_both freed_tile c (sym new.1) refl h.1)
      | inr was ↦ ((was.1, h.1), was.0)
    ];
  }

  pub freed_elsewhere : KeepsElsewhere n.tile.chunk (tile_in s0) (tile_in s1)
  freed_elsewhere k a is ne = sets.others k (λ same. ne (ap (λ (t : Tile). t.chunk) (one_tile (tile_in s0) k x a n.tile is at_t same))) ∙ is

  -- it is in no list yet
  pub freed_filed : n.tile.free ≡ false → (classes : Classes) → KeepsLists s0 s1 → AreFreeFiled s0 classes → AreFreeFiledBut s1 classes x None
  freed_filed live classes lists filed =
      but_as (filed_in s0) s1 classes x None (live_class (tile_in s0) x n.tile at_t live) (λ k ne. ap class_at (sets.others k ne)) (kept_lists (filed_in s0) s0 s1 classes lists filed)

-- a tile is free where it is not live
pub unnot : (b : Bool) → not b ≡ false → b ≡ true
unnot true e = refl
unnot false e = absurd (cc)

pub beside_free : (size : ℕ → ℕ) (s : Slab Node) (x : ℕ) (n : Node) → AreNodesKeptBut size x s → get s x ≡ Some n → n.tile.free ≡ true
beside_free size s x n beside at = ap (λ (t : Tile). t.free) (one_tile (tile_in s) x x n.tile beside.tile (tile_of_node s x n at) beside.at refl) ∙ beside.free

-- Where nothing is joined.

module _ (size : ℕ → ℕ) (s : Slab Node) (x : ℕ) (n : Node) (beside : AreNodesKeptBut size x s) (at : get s x ≡ Some n) where
  here_t : tile_in s x ≡ Some n.tile
  here_t = tile_of_node s x n at

  -- at its end
  pub at_end : n.tile.end ≡ size n.tile.chunk → IsLast x (tile_in s)
  at_end all k c z is_c is_z both =
      let e = one_tile (tile_in s) x x z n.tile is_z here_t refl in
      let of : c.chunk ≡ n.tile.chunk = sym both.chunk ∙ ap (λ (t : Tile). t.chunk) e in
      let most = subst (λ i. c.end ≤ size i) of (beside.tiled.inside k c is_c) in
      omega (arith, beside.tiled.nonempty k c is_c, both.meet, ap (λ (t : Tile). t.end) e, all, most)

  -- the key of the tile before it, and of the one after it
  pub front_there : n.tile.start ≢ 0 → (a : Tile) × (tile_in s n.before ≡ Some a) × AreNeighbours a n.tile
  front_there some =
      let h = key_before size (tile_in s) beside.tiled x n.tile here_t (before_in s) (after_in s) beside.linked (omega (arith, some)) in
      (h.0, ap (tile_in s) (sym (ap before_of at)) ∙ h.1, h.2)

  pub back_there : n.tile.end ≢ size n.tile.chunk → (b : Tile) × (tile_in s n.after ≡ Some b) × AreNeighbours n.tile b
  back_there less =
      let inside = beside.tiled.inside x n.tile here_t in
      let h = key_after size (tile_in s) beside.tiled x n.tile here_t (before_in s) (after_in s) beside.linked (omega (arith, less, inside)) in
      (h.0, ap (tile_in s) (sym (ap after_of at)) ∙ h.1, h.2)

  pub front_key : n.tile.start ≢ 0 → ContainsKey s n.before
  front_key some = let h = front_there some in has_tile s n.before h.0 h.1

  pub back_key : n.tile.end ≢ size n.tile.chunk → ContainsKey s n.after
  back_key less = let h = back_there less in has_tile s n.after h.0 h.1

  -- the tile of that key lies beside it
  pub front_near : (o : Node) → n.tile.start ≢ 0 → get s n.before ≡ Some o → AreNeighbours o.tile n.tile
  front_near o some there =
      let h = front_there some in
      subst (λ t. AreNeighbours t n.tile) (one_tile (tile_in s) n.before n.before h.0 o.tile h.1 (tile_of_node s n.before o there) refl) h.2

  pub back_near : (o : Node) → n.tile.end ≢ size n.tile.chunk → get s n.after ≡ Some o → AreNeighbours n.tile o.tile
  back_near o less there =
      let h = back_there less in
      subst (AreNeighbours n.tile) (one_tile (tile_in s) n.after n.after h.0 o.tile h.1 (tile_of_node s n.after o there) refl) h.2

  pub front_else : (o : Node) → n.tile.start ≢ 0 → get s n.before ≡ Some o → n.before ≢ x
  front_else o some there = before_else size (tile_in s) beside.tiled x n.tile here_t n.before o.tile (tile_of_node s n.before o there) (front_near o some there)

  pub back_else : (o : Node) → n.tile.end ≢ size n.tile.chunk → get s n.after ≡ Some o → n.after ≢ x
  back_else o less there = after_else size (tile_in s) beside.tiled x n.tile here_t n.after o.tile (tile_of_node s n.after o there) (back_near o less there)

  -- then all is kept
  pub kept_beside : IsFirst x (tile_in s) → IsLast x (tile_in s) → AreNodesKept size s
  kept_beside first last = record { tiled = beside.tiled; calm = settled (tile_in s) x beside.calm first last; linked = beside.linked }

-- what a join leaves of a free tile
pub record IsJoined (size : ℕ → ℕ) (old new : Slab Node) (x chunk : ℕ) : Type 0 where
  pub beside : AreNodesKeptBut size x new
  pub of_chunk : beside.tile.chunk ≡ chunk
  pub lives : KeepsLive (tile_in old) (tile_in new)
  pub elsewhere : KeepsElsewhere chunk (tile_in old) (tile_in new)

-- where the one tile went, the other stands
pub put_key : (s0 z s1 : Slab Node) (x y : ℕ) (n : Node) → get s0 x ≡ Some n → y ≢ x → KeepsNodes s0 z → Updates z s1 y None → ContainsKey s1 x
put_key s0 z s1 x y n at ne k0 gone = has_tile s1 x n.tile (other_tile z s1 y None gone x (λ e. ne (sym e)) ∙ k0.tiles x ∙ tile_of_node s0 x n at)

-- The steps of a join: the later tile is removed, the one before it grows, and what comes after both has its key.
module _ (size : ℕ → ℕ) (s0 z s1 s2 : Slab Node) (x y : ℕ) (n o : Node) (tiled : IsTiled size (tile_in s0)) (linked : AreLinked (tile_in s0) (before_in s0) (after_in s0)) (at : get s0 x ≡ Some n) (n_free : n.tile.free ≡ true) (there : get s0 y ≡ Some o)
    (free : o.tile.free ≡ true) (ne : y ≢ x) (k0 : KeepsNodes s0 z) (gone : Updates z s1 y None)
    (writes : Updates s1 s2 x (option_map (with_end o.tile.end o.after) (get s1 x))) where
  at_x : tile_in s0 x ≡ Some n.tile
  at_x = tile_of_node s0 x n at

  at_y : tile_in s0 y ≡ Some o.tile
  at_y = tile_of_node s0 y o there

  -- the node that is written
  node : (q : Node) × (get z x ≡ Some q) × (q.tile ≡ n.tile)
  node = node_of_tile z x n.tile (k0.tiles x ∙ at_x)

  abbrev m : Node
  m = with_end o.tile.end o.after node.0

  puts_m : Updates s1 s2 x (Some m)
  puts_m = written s1 s2 x node.0 (with_end o.tile.end o.after) (gone.others x (λ e. ne (sym e)) ∙ node.1) writes

  m_tile : m.tile ≡ record { chunk = n.tile.chunk; start = n.tile.start; end = o.tile.end; free = true }
  m_tile = ap (λ (t : Tile). record { chunk = t.chunk; start = t.start; end = o.tile.end; free = t.free }) node.2 ∙ ap (λ b. record { chunk = n.tile.chunk; start = n.tile.start; end = o.tile.end; free = b }) n_free

  m_before : m.before ≡ n.before
  m_before = sym (ap before_of node.1) ∙ k0.before x ∙ ap before_of at

  tile_2 : (k : ℕ) → k ≢ x → k ≢ y → tile_in s2 k ≡ tile_in s0 k
  tile_2 k ne_x ne_y = other_tile s1 s2 x (Some m) puts_m k ne_x ∙ other_tile z s1 y None gone k ne_y ∙ k0.tiles k

  before_2 : (k : ℕ) → k ≢ x → k ≢ y → before_in s2 k ≡ before_in s0 k
  before_2 k ne_x ne_y = other_before s1 s2 x (Some m) puts_m k ne_x ∙ other_before z s1 y None gone k ne_y ∙ k0.before k

  after_2 : (k : ℕ) → k ≢ x → k ≢ y → after_in s2 k ≡ after_in s0 k
  after_2 k ne_x ne_y = other_after s1 s2 x (Some m) puts_m k ne_x ∙ other_after z s1 y None gone k ne_y ∙ k0.after k

  absorbed : (s3 : Slab Node) (t : Tile) → m.tile ≡ t → ((k : ℕ) → tile_in s3 k ≡ tile_in s2 k) → Absorbs (tile_in s0) (tile_in s3) x y t
  absorbed s3 t is same = record {
    grown = same x ∙ (puts s1 s2 x m puts_m).changed ∙ ap Some is;
    gone = same y ∙ other_tile s1 s2 x (Some m) puts_m y ne ∙ ap (λ (q : Option Node). tile_of q) gone.changed;
    others = λ k ne_x ne_y. same k ∙ tile_2 k ne_x ne_y;
  }

  went_elsewhere : (s3 : Slab Node) (t : Tile) → o.tile.chunk ≡ n.tile.chunk → Absorbs (tile_in s0) (tile_in s3) x y t → KeepsElsewhere n.tile.chunk (tile_in s0) (tile_in s3)
  went_elsewhere s3 t chunk absorbs k a is other =
      absorbs.others k
      (λ same. other (ap (λ (t : Tile). t.chunk) (one_tile (tile_in s0) k x a n.tile is at_x same)))
      (λ same. other (ap (λ (t : Tile). t.chunk) (one_tile (tile_in s0) k y a o.tile is at_y same) ∙ chunk))
      ∙ is

  module _ (s3 : Slab Node) (near : AreNeighbours n.tile o.tile)
      (less : Bool) (yes' : o.tile.end < size o.tile.chunk → less ≡ true) (some : less ≡ true → o.tile.end < size o.tile.chunk) (sets : SetsBefore s2 s3 less o.after x) where
    abbrev right_tile : Tile
    right_tile = record { chunk = n.tile.chunk; start = n.tile.start; end = o.tile.end; free = true }

    right_absorbed : Absorbs (tile_in s0) (tile_in s3) x y right_tile
    right_absorbed = absorbed s3 right_tile m_tile sets.tiles

    right_grown : tile_in s3 x ≡ Some right_tile
    right_grown = right_absorbed.grown

    -- the one that is removed was in no list
    joined_lists : (filed : ℕ → Option ℕ) (classes : Classes) → filed y ≡ None → KeepsLists s1 s2 → KeepsLists s2 s3 → IsIndexed filed z classes → IsIndexed filed s3 classes
    joined_lists filed classes off lists_2 lists_3 indexed = kept_lists filed s2 s3 classes lists_3 (kept_lists filed s1 s2 classes lists_2 (unfiled_goes filed z s1 classes y None gone off indexed refl))

    -- the other keeps its class
    joined_filed : (filed : ℕ → Option ℕ) (classes : Classes) (class : Option ℕ) → filed x ≡ class → filed y ≡ None → ((k : ℕ) → k ≢ x → k ≢ y → filed k ≡ filed_in s0 k) → KeepsLists s1 s2 → KeepsLists s2 s3 → IsIndexed filed z classes
        → AreFreeFiledBut s3 classes x class
    joined_filed filed classes class here off others lists_2 lists_3 indexed =
        but_as filed s3 classes x class here (λ k ne. elim (cases_eq k y) [
          | inl same ↦ ap (filed_in s3) same ∙ ap class_at right_absorbed.gone ∙ sym off ∙ ap filed (sym same)
          | inr other ↦ ap class_at (right_absorbed.others k ne other) ∙ sym (others k ne other)
        ]) (joined_lists filed classes off lists_2 lists_3 indexed)

    -- the last ones of other chunks stay so
    joined_ends : ((k : ℕ) → k ≢ y → down_in s0 k ≡ NONE → down_in z k ≡ NONE) → KeepsLists s1 s2 → KeepsLists s2 s3 → KeepsEnds n.tile.chunk s0 s3
    joined_ends first lists_2 lists_3 k a is other none =
        let apart : k ≢ y = (λ e. other (ap (λ (t : Tile). t.chunk) (one_tile (tile_in s0) k y a o.tile is at_y e) ∙ sym near.chunk)) in
        lists_3.down k ∙ lists_2.down k ∙ ap down_of (gone.others k apart) ∙ first k apart none

    -- The one that is removed was freed just now.
    left_filed : (classes : Classes) (class : ℕ) → class ≡ class_of_bytes (n.tile.end - n.tile.start) → KeepsLists s1 s2 → KeepsLists s2 s3 → IsIndexed (filed_but (filed_in s0) y None) z classes → AreFreeFiledBut s3 classes x (Some class)
    left_filed classes class is lists_2 lists_3 indexed =
        joined_filed (filed_but (filed_in s0) y None) classes (Some class)
        (but_other (filed_in s0) y x None (λ e. ne (sym e)) ∙ free_class (tile_in s0) x n.tile at_x n_free ∙ ap (λ c. Some c) (sym is))
        (but_same (filed_in s0) y y None refl) (λ k ne_x ne_y. but_other (filed_in s0) y k None ne_y) lists_2 lists_3 indexed

    -- The one that stays was.
    back_on : (class : ℕ) (was : Option ℕ) → class ≡ class_of_bytes (o.tile.end - o.tile.start) → filed_but (filed_in s0) x was y ≡ Some class
    back_on class was is = but_other (filed_in s0) x y was ne ∙ free_class (tile_in s0) y o.tile at_y free ∙ ap (λ c. Some c) (sym is)

    back_ends : (classes : Classes) (class : ℕ) (was : Option ℕ) → class ≡ class_of_bytes (o.tile.end - o.tile.start) → AreFreeFiledBut s0 classes x was → KeepsLasts s0 classes z y (Some class) → KeepsLists s1 s2 → KeepsLists s2 s3 → KeepsEnds n.tile.chunk s0 s3
    back_ends classes class was is filed lasts = joined_ends (lasts (filed_but (filed_in s0) x was) filed (back_on class was is))

    back_filed : (classes new : Classes) (class : ℕ) (was : Option ℕ) → class ≡ class_of_bytes (o.tile.end - o.tile.start) → AreFreeFiledBut s0 classes x was → Refiles s0 classes z new y (Some class) None → KeepsLists s1 s2 → KeepsLists s2 s3
        → AreFreeFiledBut s3 new x was
    back_filed classes new class was is filed refiles lists_2 lists_3 =
        joined_filed (filed_but (filed_but (filed_in s0) x was) y None) new was
        (but_other (filed_but (filed_in s0) x was) y x None (λ e. ne (sym e)) ∙ but_same (filed_in s0) x x was refl)
        (but_same (filed_but (filed_in s0) x was) y y None refl)
        (λ k ne_x ne_y. but_other (filed_but (filed_in s0) x was) y k None ne_y ∙ but_other (filed_in s0) x k was ne_x) lists_2 lists_3
        (refiles (filed_but (filed_in s0) x was) filed (back_on class was is))

    right_joint : IsJoint n.tile o.tile right_tile
    right_joint = record { chunk = near.chunk; meet = near.meet; in_chunk = refl; start = refl; end = refl }

    around_right : (a : Tile) → a ≡ n.tile → AreNeighbours o.tile a → ⊥
    around_right a same other = omega (arith, other.meet, near.meet, ap (λ (t : Tile). t.start) same, tiled.nonempty x n.tile at_x, tiled.nonempty y o.tile at_y)

    key_behind : less ≡ true → (b : Tile) × (tile_in s0 o.after ≡ Some b) × AreNeighbours o.tile b × (before_in s0 o.after ≡ y)
    key_behind h =
        let k = key_after size (tile_in s0) tiled y o.tile at_y (before_in s0) (after_in s0) linked (some h) in
        let same : after_in s0 y ≡ o.after = ap after_of there in
        (k.0, ap (tile_in s0) (sym same) ∙ k.1, k.2, ap (before_in s0) (sym same) ∙ k.3)

    right_linked : AreLinked (tile_in s3) (before_in s3) (after_in s3)
    right_linked = joint_linked (tile_in s0) (tile_in s3) (before_in s0) (after_in s0) (before_in s3) (after_in s3) linked size tiled x y x y n.tile o.tile right_tile at_x at_y right_joint right_absorbed
        (λ j a at_j first.
        let keys = linked j x a n.tile at_j at_x first in
        let ne_x = before_else size (tile_in s0) tiled x n.tile at_x j a at_j first in
        let ne_y : j ≢ y = λ same. around_right n.tile refl (subst (λ t. AreNeighbours t n.tile) (one_tile (tile_in s0) j y a o.tile at_j at_y same) first) in (
          sets.after j ∙ after_2 j ne_x ne_y ∙ keys.0,
          before_left s2 s3 less o.after x sets x (λ h same. let w = key_behind h in around_right w.0 (one_tile (tile_in s0) o.after x w.0 n.tile w.1 at_x (sym same)) w.2)
              ∙ put_before s1 s2 x m puts_m ∙ m_before ∙ sym (ap before_of at) ∙ keys.1,
        ))
        (λ k b at_k last.
        let keys = linked y k o.tile b at_y at_k last in
        let is : o.after ≡ k = sym (ap after_of there) ∙ keys.0 in
        let ne_x : k ≢ x = λ same. around_right b (one_tile (tile_in s0) k x b n.tile at_k at_x same) last in
        let ne_y = after_else size (tile_in s0) tiled y o.tile at_y k b at_k last in
        let held : ContainsKey s2 o.after = subst (ContainsKey s2) (sym is) (has_tile s2 k b (tile_2 k ne_x ne_y ∙ at_k)) in (
          sets.after x ∙ put_after s1 s2 x m puts_m ∙ is,
          ap (before_in s3) (sym is) ∙ sets.written (yes' (ends_before size (tile_in s0) tiled y o.tile at_y k b at_k last)) held,
        ))
        (λ j k a b j_x j_y k_x k_y at_j at_k both. (
          sets.after j ∙ after_2 j j_x j_y,
          before_left s2 s3 less o.after x sets k (λ h same. j_y (sym (linked j k a b at_j at_k both).1 ∙ ap (before_in s0) same ∙ (key_behind h).3)) ∙ before_2 k k_x k_y,
        ))

    right_joined : IsCalmBut x (tile_in s3) → IsJoined size s0 s3 x n.tile.chunk
    right_joined calm = record {
      beside = record {
        tiled = joint_tiled size (tile_in s0) (tile_in s3) x y x y n.tile o.tile right_tile tiled at_x at_y (inl (refl, refl)) right_joint right_absorbed;
        calm = calm;
        linked = right_linked;
        tile = right_tile;
        at = right_absorbed.grown;
        free = refl;
      };
      of_chunk = refl;
      lives = joint_lives (tile_in s0) (tile_in s3) x y n.tile o.tile right_tile at_x n_free at_y free refl right_absorbed;
      elsewhere = went_elsewhere s3 right_tile (sym near.chunk) right_absorbed;
    }

    -- a free tile that ends where the joint starts did so before
    first_was : (k : ℕ) (c t : Tile) → tile_in s3 k ≡ Some c → tile_in s3 x ≡ Some t → AreFreeNeighbours c t → (k ≢ y) × (tile_in s0 k ≡ Some c) × AreFreeNeighbours c n.tile
    first_was k c t is_c is_t both =
        let e = one_tile (tile_in s3) x x t right_tile is_t right_absorbed.grown refl in
        elim (came_joint (tile_in s0) (tile_in s3) x y right_tile right_absorbed k c is_c) [
          | inl new ↦ absurd (omega (arith, both.meet, ap (λ (t : Tile). t.end) new.1, ap (λ (t : Tile). t.start) e, near.meet, tiled.nonempty x n.tile at_x, tiled.nonempty y o.tile at_y))
          | inr was ↦ (
            was.1,
            was.2,
            record {
              chunk = both.chunk ∙ ap (λ (t : Tile). t.chunk) e;
              meet = both.meet ∙ ap (λ (t : Tile). t.start) e;
              left = both.left;
              right = n_free;
            },
          )
        ]

    -- The one before was free first, and the one that is removed touched it.
    module _ (calm : IsCalmBut y (tile_in s0)) where
      left_joined : IsJoined size s0 s3 x n.tile.chunk
      left_joined = right_joined (λ j k c d ne_j ne_k is_c is_d both. elim (came_joint (tile_in s0) (tile_in s3) x y right_tile right_absorbed j c is_c) [
        | inl new ↦ ne_j new.0
        | inr was_c ↦ elim (came_joint (tile_in s0) (tile_in s3) x y right_tile right_absorbed k d is_d) [
          | inl new ↦ ne_k new.0
          | inr was_d ↦ calm j k c d was_c.1 was_d.1 was_c.2 was_d.2 both
        ]
      ])

      left_is_first : IsFirst x (tile_in s3)
      left_is_first k c t is_c is_t both = let was = first_was k c t is_c is_t both in calm k x c n.tile was.0 (λ e. ne (sym e)) was.1 at_x was.2

      -- all that the join leaves
      pub left_all : (class : ℕ) → class ≡ class_of_bytes (n.tile.end - n.tile.start) → KeepsLists s1 s2 → KeepsLists s2 s3 → ((k : ℕ) → k ≢ y → down_in s0 k ≡ NONE → down_in z k ≡ NONE)
          → IsJoined size s0 s3 x n.tile.chunk × IsFirst x (tile_in s3) × ((classes : Classes) → IsIndexed (filed_but (filed_in s0) y None) z classes → AreFreeFiledBut s3 classes x (Some class)) × KeepsEnds n.tile.chunk s0 s3
      left_all class is lists_2 lists_3 first = (left_joined, left_is_first, λ classes indexed. left_filed classes class is lists_2 lists_3 indexed, joined_ends first lists_2 lists_3)

    -- The one that is removed was free first.
    module _ (calm : IsCalmBut x (tile_in s0)) where
      back_joined : IsJoined size s0 s3 x n.tile.chunk
      back_joined = right_joined (joint_calm size (tile_in s0) (tile_in s3) x y x y n.tile o.tile right_tile tiled at_x at_y (inl (refl, refl)) right_joint right_absorbed calm)

      right_last : IsLast x (tile_in s3)
      right_last k c t is_c is_t both =
          let e = one_tile (tile_in s3) x x t right_tile is_t right_absorbed.grown refl in
          elim (came_joint (tile_in s0) (tile_in s3) x y right_tile right_absorbed k c is_c) [
            | inl new ↦ omega (arith, both.meet, ap (λ (t : Tile). t.start) new.1, ap (λ (t : Tile). t.end) e, near.meet, tiled.nonempty x n.tile at_x, tiled.nonempty y o.tile at_y)
            | inr was ↦ calm y k o.tile c ne was.0 at_y was.2 (record {
              chunk = sym near.chunk ∙ sym (ap (λ (t : Tile). t.chunk) e) ∙ both.chunk;
              meet = sym (ap (λ (t : Tile). t.end) e) ∙ both.meet;
              left = free;
              right = both.right;
            })
          ]

      back_kept : IsFirst x (tile_in s0) → AreNodesKept size s3
      back_kept first = record {
        tiled = back_joined.beside.tiled;
        calm = settled (tile_in s3) x back_joined.beside.calm (λ k c t is_c is_t both. let was = first_was k c t is_c is_t both in first k c n.tile was.1 at_x was.2) right_last;
        linked = right_linked;
      }

      -- all that the join leaves
      pub back_all : IsFirst x (tile_in s0) → (classes new : Classes) (class : ℕ) → class ≡ class_of_bytes (o.tile.end - o.tile.start) → Refiles s0 classes z new y (Some class) None → KeepsLasts s0 classes z y (Some class) → KeepsLists s1 s2 → KeepsLists s2 s3
          → IsJoined size s0 s3 x n.tile.chunk × AreNodesKept size s3 × (tile_in s3 x ≡ Some right_tile) × ((was : Option ℕ) → AreFreeFiledBut s0 classes x was → AreFreeFiledBut s3 new x was × KeepsEnds n.tile.chunk s0 s3)
      back_all first classes new class is refiles lasts lists_2 lists_3 =
          (back_joined, back_kept first, right_grown, λ was filed. (back_filed classes new class was is filed refiles lists_2 lists_3, back_ends classes class was is filed lasts lists_2 lists_3))
