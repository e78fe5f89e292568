-- The end of a free tile is taken, and what a block leaves after it is free again.
use Rattle.std.proofs.Common.{◌≡◌, ◌≢◌, inl, inr, ℕ, ◌-◌, ◌<◌, Bool, true, false, Option, Some, None, IsSome, option_map, refl, sym, ◌∙◌, ap, subst, arith}
use Rattle.std.proofs.lemmas.Bool.{cases_eq}
use Rattle.slab.specs.Slab.{Slab, ContainsKey, Updates, get}
use Rattle.gpu_alloc_runs.specs.Classes.{class_of_bytes, filed_but}
use Rattle.gpu_alloc_runs.specs.Filed.{AreFreeFiled, IsIndexed, KeepsEnds, KeepsLasts, KeepsLists, Refiles, class_at, down_of, filed_in}
use Rattle.gpu_alloc_runs.specs.Inside.{chunk_size_in, row_size}
use Rattle.gpu_alloc_runs.specs.Links.{AreLinked, AreNodesKept, KeepsNodes, SetsBefore, after_in, after_of, before_in, before_of, with_end, with_free}
use Rattle.gpu_alloc_runs.specs.Tiles.{AreNeighbours, IsFreeRight, IsTiled, Sets, tile_in}
use Rattle.gpu_alloc_runs.specs.declared.classes.Classes.{Classes}
use Rattle.gpu_alloc_runs.specs.declared.fits.Chunk.{Chunk as Row}
use Rattle.gpu_alloc_runs.specs.declared.tile.Node.{Node}
use Rattle.gpu_alloc_runs.specs.declared.tile.TheConstants.{NONE}
use Rattle.gpu_alloc_runs.specs.declared.tile.Tile.{Tile}
use Rattle.gpu_alloc_runs.proofs.Filed.{but_as, filed_differs, free_class, kept_lists, live_class, refiled_free, same_filing, unfiled_comes}
use Rattle.gpu_alloc_runs.proofs.Links.{ends_before, key_after, retiled_linked}
use Rattle.gpu_alloc_runs.proofs.Nodes.{before_left, has_tile, keeps_kept, node_of_tile, other_after, other_before, other_tile, put_after, put_before, puts, tile_of, tile_of_node, with_tiles, written}
use Rattle.gpu_alloc_runs.proofs.Splits.{back_calm, calm_end, cut_tiled, right_end, split_linked}
use Rattle.gpu_alloc_runs.proofs.Tiles.{IsJoint, Splits, came, not_both, one_tile, retiled}

-- A free tile is taken whole.

module _ (size : ℕ → ℕ) (s0 z s1 : Slab Node) (x : ℕ) (run : Tile) (kept : AreNodesKept size s0) (at_run : tile_in s0 x ≡ Some run) (free : run.free ≡ true) (k0 : KeepsNodes s0 z) (writes : Updates z s1 x (option_map (with_free false) (get z x))) where
  abbrev taken_tile : Tile
  taken_tile = record { chunk = run.chunk; start = run.start; end = run.end; free = false }

  at_t : tile_in z x ≡ Some run
  at_t = k0.tiles x ∙ at_run

  node : (n : Node) × (get z x ≡ Some n) × (n.tile ≡ run)
  node = node_of_tile z x run at_t

  puts_m : Updates z s1 x (Some (with_free false node.0))
  puts_m = written z s1 x node.0 (with_free false) node.1 writes

  same_tile : record node.0.tile { free = false } ≡ taken_tile
  same_tile = ap (λ (t : Tile). record { chunk = t.chunk; start = t.start; end = t.end; free = false }) node.2

  sets : Sets (tile_in z) (tile_in s1) x (Some taken_tile)
  sets = subst (λ t. Sets (tile_in z) (tile_in s1) x (Some t)) same_tile (puts z s1 x (with_free false node.0) puts_m)

  kept_z : AreNodesKept size z
  kept_z = keeps_kept s0 z k0 size kept

  -- what is free then was free before, under another key
  old : (k : ℕ) (c : Tile) → tile_in s1 k ≡ Some c → c.free ≡ true → (k ≢ x) × (tile_in z k ≡ Some c)
  old k c is c_free = elim (came (tile_in z) (tile_in s1) x taken_tile sets k c is) [
    | inl new ↦ absurd (not_both c taken_tile new.1 c_free refl)
    | inr was ↦ was
  ]

  same_before : (k : ℕ) → before_in s1 k ≡ before_in z k
  same_before k = elim (cases_eq k x) [
    | inl here ↦ ap (before_in s1) here ∙ put_before z s1 x (with_free false node.0) puts_m ∙ sym (ap before_of node.1) ∙ sym (ap (before_in z) here)
    | inr other ↦ other_before z s1 x (Some (with_free false node.0)) puts_m k other
  ]

  same_after : (k : ℕ) → after_in s1 k ≡ after_in z k
  same_after k = elim (cases_eq k x) [
    | inl here ↦ ap (after_in s1) here ∙ put_after z s1 x (with_free false node.0) puts_m ∙ sym (ap after_of node.1) ∙ sym (ap (after_in z) here)
    | inr other ↦ other_after z s1 x (Some (with_free false node.0)) puts_m k other
  ]

  pub taken : AreNodesKept size s1
  taken = record {
    tiled = retiled size (tile_in z) (tile_in s1) x run taken_tile kept_z.tiled at_t (record { chunk = refl; start = refl; end = refl }) sets;
    calm = λ j k c d is_c is_d both. kept_z.calm j k c d (old j c is_c both.left).1 (old k d is_d both.right).1 both;
    linked = retiled_linked (tile_in z) (tile_in s1) (before_in z) (after_in z) (before_in s1) (after_in s1) kept_z.linked x run taken_tile at_t (record { chunk = refl; start = refl; end = refl }) sets same_before same_after;
  }

  -- it is taken out of its list
  pub taken_filed : (classes new : Classes) (class : ℕ) → class ≡ class_of_bytes (run.end - run.start) → AreFreeFiled s0 classes → Refiles s0 classes z new x (Some class) None → KeepsLists z s1 → AreFreeFiled s1 new
  taken_filed classes new class is filed refiles lists =
      same_filing (filed_but (filed_in s0) x None) (filed_in s1) s1 new
      (filed_differs (filed_in s0) (filed_in s1) x None (live_class (tile_in s1) x taken_tile sets.changed refl) (λ k ne. ap class_at (sets.others k ne ∙ k0.tiles k)))
      (kept_lists (filed_but (filed_in s0) x None) z s1 new lists (refiles (filed_in s0) filed (free_class (tile_in s0) x run at_run free ∙ ap (λ c. Some c) (sym is))))

  -- and the last ones of other chunks stay so
  pub taken_ends : (classes : Classes) (class : ℕ) → class ≡ class_of_bytes (run.end - run.start) → AreFreeFiled s0 classes → KeepsLasts s0 classes z x (Some class) → KeepsLists z s1 → KeepsEnds run.chunk s0 s1
  taken_ends classes class is filed lasts lists k a is_k other none =
      lists.down k
      ∙ lasts (filed_in s0) filed (free_class (tile_in s0) x run at_run free ∙ ap (λ c. Some c) (sym is)) k (λ same. other (ap (λ (t : Tile). t.chunk) (one_tile (tile_in s0) k x a run is_k at_run same))) none

-- The steps of a cut: the end comes under y, the front is put under x, and the tile after it has the key of the end.
module _ (size : ℕ → ℕ) (s0 s1 s2 : Slab Node) (x y cut : ℕ) (n o : Node) (m : Tile) (kept : AreNodesKept size s0) (at : get s0 x ≡ Some n) (at_m : tile_in s0 x ≡ Some m) (vacant : get s0 y ≡ None)
    (comes : Updates s0 s1 y (Some o)) (writes : Updates s1 s2 x (option_map (with_end cut y) (get s1 x))) where
  fresh : tile_in s0 y ≡ None
  fresh = ap tile_of vacant

  ne : y ≢ x
  ne e = let none : None ≡ Some m = sym fresh ∙ ap (tile_in s0) e ∙ at_m in cc

  not_new : (k : ℕ) (a : Tile) → tile_in s0 k ≡ Some a → k ≢ y
  not_new k a is same = let none : None ≡ Some a = sym fresh ∙ ap (tile_in s0) (sym same) ∙ is in cc

  abbrev q : Node
  q = with_end cut y n

  puts_q : Updates s1 s2 x (Some q)
  puts_q = written s1 s2 x n (with_end cut y) (comes.others x (λ e. ne (sym e)) ∙ at) writes

  rest_tile : q.tile ≡ record { chunk = m.chunk; start = m.start; end = cut; free = m.free }
  rest_tile = ap (λ (t : Tile). record { chunk = t.chunk; start = t.start; end = cut; free = t.free }) (one_tile (tile_in s0) x x n.tile m (tile_of_node s0 x n at) at_m refl)

  tile_2 : (k : ℕ) → k ≢ x → k ≢ y → tile_in s2 k ≡ tile_in s0 k
  tile_2 k ne_x ne_y = other_tile s1 s2 x (Some q) puts_q k ne_x ∙ other_tile s0 s1 y (Some o) comes k ne_y

  before_2 : (k : ℕ) → k ≢ x → k ≢ y → before_in s2 k ≡ before_in s0 k
  before_2 k ne_x ne_y = other_before s1 s2 x (Some q) puts_q k ne_x ∙ other_before s0 s1 y (Some o) comes k ne_y

  after_2 : (k : ℕ) → k ≢ x → k ≢ y → after_in s2 k ≡ after_in s0 k
  after_2 k ne_x ne_y = other_after s1 s2 x (Some q) puts_q k ne_x ∙ other_after s0 s1 y (Some o) comes k ne_y

  new_before : before_in s2 y ≡ o.before
  new_before = other_before s1 s2 x (Some q) puts_q y ne ∙ put_before s0 s1 y o comes

  new_after : after_in s2 y ≡ o.after
  new_after = other_after s1 s2 x (Some q) puts_q y ne ∙ put_after s0 s1 y o comes

  split_in : (s3 : Slab Node) (rest new : Tile) → q.tile ≡ rest → o.tile ≡ new → ((k : ℕ) → tile_in s3 k ≡ tile_in s2 k) → Splits (tile_in s0) (tile_in s3) x y rest new
  split_in s3 rest new rest_is new_is same = record {
    rest = same x ∙ (puts s1 s2 x q puts_q).changed ∙ ap Some rest_is;
    new = same y ∙ other_tile s1 s2 x (Some q) puts_q y ne ∙ (puts s0 s1 y o comes).changed ∙ ap Some new_is;
    fresh = fresh;
    others = λ k ne_x ne_y. same k ∙ tile_2 k ne_x ne_y;
  }

  -- Each of the two may be free.
  module _ (s3 s4 : Slab Node) (from : m.start < cut) (to : cut < m.end) (new_free : Bool) (new_tile : o.tile ≡ record { chunk = m.chunk; start = cut; end = m.end; free = new_free }) (o_before : o.before ≡ x) (o_after : o.after ≡ n.after)
      (less : Bool) (yes' : m.end < size m.chunk → less ≡ true) (some : less ≡ true → m.end < size m.chunk) (sets : SetsBefore s2 s3 less n.after y) (files : KeepsNodes s3 s4) where
    abbrev back_tile : Tile
    back_tile = record { chunk = m.chunk; start = cut; end = m.end; free = new_free }

    abbrev back_rest : Tile
    back_rest = record { chunk = m.chunk; start = m.start; end = cut; free = m.free }

    back_splits : Splits (tile_in s0) (tile_in s3) x y back_rest back_tile
    back_splits = split_in s3 back_rest back_tile rest_tile new_tile sets.tiles

    back_joint : IsJoint back_rest back_tile m
    back_joint = record { chunk = refl; meet = refl; in_chunk = refl; start = refl; end = refl }

    key_behind : less ≡ true → (b : Tile) × (tile_in s0 n.after ≡ Some b) × AreNeighbours m b × (before_in s0 n.after ≡ x) × (n.after ≢ x)
    key_behind h =
        let k = key_after size (tile_in s0) kept.tiled x m at_m (before_in s0) (after_in s0) kept.linked (some h) in
        let same : after_in s0 x ≡ n.after = ap after_of at in
        (k.0, ap (tile_in s0) (sym same) ∙ k.1, k.2, ap (before_in s0) (sym same) ∙ k.3, (λ e. k.4 (same ∙ e)))

    back_linked : AreLinked (tile_in s3) (before_in s3) (after_in s3)
    back_linked = split_linked size (tile_in s0) (tile_in s3) x y x y back_rest back_tile back_rest back_tile m kept.tiled at_m back_splits back_joint from to back_splits.rest back_splits.new (inl (refl, refl))
        (before_in s0) (after_in s0) (before_in s3) (after_in s3) kept.linked
        (sets.after x ∙ put_after s1 s2 x q puts_q)
        (before_left s2 s3 less n.after y sets y (λ h same. let w = key_behind h in not_new n.after w.0 w.1 (sym same)) ∙ new_before ∙ o_before)
        (λ j a at_j first.
        let keys = kept.linked j x a m at_j at_m first in
        let ne_x : j ≢ x = λ same. (let e = one_tile (tile_in s0) j x a m at_j at_m same in omega (arith, first.meet, ap (λ (t : Tile). t.end) e, from, to)) in (
          sets.after j ∙ after_2 j ne_x (not_new j a at_j) ∙ keys.0,
          before_left s2 s3 less n.after y sets x (λ h same. (key_behind h).4 (sym same)) ∙ put_before s1 s2 x q puts_q ∙ sym (ap before_of at) ∙ keys.1,
        ))
        (λ k b at_k last.
        let keys = kept.linked x k m b at_m at_k last in
        let is : n.after ≡ k = sym (ap after_of at) ∙ keys.0 in
        let h = yes' (ends_before size (tile_in s0) kept.tiled x m at_m k b at_k last) in
        let ne_x : k ≢ x = λ same. (key_behind h).4 (is ∙ same) in
        let held : ContainsKey s2 n.after = subst (ContainsKey s2) (sym is) (has_tile s2 k b (tile_2 k ne_x (not_new k b at_k) ∙ at_k)) in
        (sets.after y ∙ new_after ∙ o_after ∙ is, ap (before_in s3) (sym is) ∙ sets.written h held))
        (λ j k a b j_x k_x at_j at_k both. (
          sets.after j ∙ after_2 j j_x (not_new j a at_j),
          before_left s2 s3 less n.after y sets k (λ h same. j_x (sym (kept.linked j k a b at_j at_k both).1 ∙ ap (before_in s0) same ∙ (key_behind h).3)) ∙ before_2 k k_x (not_new k b at_k),
        ))

    cut_all : IsTiled size (tile_in s3)
    cut_all = cut_tiled size (tile_in s0) (tile_in s3) x y x y back_rest back_tile back_rest back_tile m kept.tiled at_m back_splits back_joint from to back_splits.rest back_splits.new (inl (refl, refl))

    -- the lists are those of the first slab
    module _ (classes new : Classes) (keyed : y ≢ NONE) (lists_2 : KeepsLists s1 s2) (lists_3 : KeepsLists s2 s3) (filed : AreFreeFiled s0 classes) where
      cut_lists : IsIndexed (filed_in s0) s3 classes
      cut_lists = kept_lists (filed_in s0) s2 s3 classes lists_3 (kept_lists (filed_in s0) s1 s2 classes lists_2 (unfiled_comes (filed_in s0) s0 s1 classes y (Some o) comes (ap class_at fresh) filed keyed))

      -- the last ones of other chunks stay so, where one of the two is filed
      cut_ends : (w : ℕ) (was : Option ℕ) → ((k : ℕ) → k ≢ x → k ≢ y → k ≢ w) → filed_in s0 w ≡ was → KeepsLasts s3 classes s4 w was → KeepsEnds m.chunk s0 s4
      cut_ends w was apart on lasts k a is other none =
          let ne_x : k ≢ x = (λ e. other (ap (λ (t : Tile). t.chunk) (one_tile (tile_in s0) k x a m is at_m e))) in
          let ne_y = not_new k a is in
          lasts (filed_in s0) cut_lists on k (apart k ne_x ne_y) (lists_3.down k ∙ lists_2.down k ∙ ap down_of (comes.others k ne_y) ∙ none)

      back_ends : KeepsLasts s3 classes s4 y None → KeepsEnds m.chunk s0 s4
      back_ends = cut_ends y None (λ k ne_x ne_y. ne_y) (ap class_at fresh)

      end_ends : m.free ≡ true → (was : ℕ) → was ≡ class_of_bytes (m.end - m.start) → KeepsLasts s3 classes s4 x (Some was) → KeepsEnds m.chunk s0 s4
      end_ends free was was_is = cut_ends x (Some was) (λ k ne_x ne_y. ne_x) (free_class (tile_in s0) x m at_m free ∙ ap (λ c. Some c) (sym was_is))

      back_filed : m.free ≡ false → new_free ≡ true → (class : ℕ) → class ≡ class_of_bytes (m.end - cut) → Refiles s3 classes s4 new y None (Some class) → AreFreeFiled s4 new
      back_filed live free class is refiles =
          refiled_free s3 s4 classes new y class None back_tile files back_splits.new free is
          (but_as (filed_in s0) s3 classes y None (ap class_at fresh) (λ k other. elim (cases_eq k x) [
            | inl same ↦ ap (filed_in s3) same ∙ live_class (tile_in s3) x back_rest back_splits.rest live ∙ sym (live_class (tile_in s0) x m at_m live) ∙ ap (filed_in s0) (sym same)
            | inr ne ↦ ap class_at (back_splits.others k ne other)
          ]) cut_lists)
          refiles

      end_filed : m.free ≡ true → new_free ≡ false → (was class : ℕ) → was ≡ class_of_bytes (m.end - m.start) → class ≡ class_of_bytes (cut - m.start) → Refiles s3 classes s4 new x (Some was) (Some class) → AreFreeFiled s4 new
      end_filed free live was class was_is is refiles =
          refiled_free s3 s4 classes new x class (Some was) back_rest files back_splits.rest free is
          (but_as (filed_in s0) s3 classes x (Some was) (free_class (tile_in s0) x m at_m free ∙ ap (λ c. Some c) (sym was_is)) (λ k other. elim (cases_eq k y) [
            | inl same ↦ ap (filed_in s3) same ∙ live_class (tile_in s3) y back_tile back_splits.new live ∙ sym (ap class_at fresh) ∙ ap (filed_in s0) (sym same)
            | inr ne ↦ ap class_at (back_splits.others k other ne)
          ]) cut_lists)
          refiles

    -- The end of a live tile comes free.
    module _ (live : m.free ≡ false) (free : new_free ≡ true) where
      back_kept : IsFreeRight x (tile_in s0) → AreNodesKept size s4
      back_kept right = keeps_kept s3 s4 files size (record {
        tiled = cut_all;
        calm = back_calm size (tile_in s0) (tile_in s3) x y back_rest back_tile m kept.tiled kept.calm at_m live free back_splits from to back_joint right;
        linked = back_linked;
      })

    -- That of a free one is taken.
    module _ (was_free : m.free ≡ true) (live : new_free ≡ false) where
      end_kept : AreNodesKept size s4
      end_kept = keeps_kept s3 s4 files size (record {
        tiled = cut_all;
        calm = calm_end size (tile_in s0) (tile_in s3) x y back_rest back_tile m kept.tiled kept.calm at_m was_free was_free live back_splits from to back_joint;
        linked = back_linked;
      })

      end_right : IsFreeRight y (tile_in s4)
      end_right = with_tiles s3 s4 files (IsFreeRight y) (right_end size (tile_in s0) (tile_in s3) x y back_rest back_tile m kept.tiled kept.calm at_m was_free was_free live back_splits from to back_joint)

    -- All that each of them leaves.
    module _ (classes new : Classes) (keyed : y ≢ NONE) (lists_2 : KeepsLists s1 s2) (lists_3 : KeepsLists s2 s3) (filed : AreFreeFiled s0 classes) where
      pub back_cut : m.free ≡ false → new_free ≡ true → IsFreeRight x (tile_in s0) → (class : ℕ) → class ≡ class_of_bytes (m.end - cut) → Refiles s3 classes s4 new y None (Some class) → KeepsLasts s3 classes s4 y None
          → AreNodesKept size s4 × AreFreeFiled s4 new × KeepsEnds m.chunk s0 s4
      back_cut live free right class is refiles lasts =
          (back_kept live free right, back_filed classes new keyed lists_2 lists_3 filed live free class is refiles, back_ends classes new keyed lists_2 lists_3 filed lasts)

      pub end_cut : m.free ≡ true → new_free ≡ false → (was class : ℕ) → was ≡ class_of_bytes (m.end - m.start) → class ≡ class_of_bytes (cut - m.start) → Refiles s3 classes s4 new x (Some was) (Some class) → KeepsLasts s3 classes s4 x (Some was)
          → AreNodesKept size s4 × IsFreeRight y (tile_in s4) × AreFreeFiled s4 new × KeepsEnds m.chunk s0 s4
      end_cut free live was class was_is is refiles lasts =
          (end_kept free live, end_right free live, end_filed classes new keyed lists_2 lists_3 filed free live was class was_is is refiles, end_ends classes new keyed lists_2 lists_3 filed free was was_is lasts)

-- the chunk of a tile is held
pub row_of_tile : {M : Type 0} (rows : Slab (Row M)) (T : ℕ → Option Tile) (k : ℕ) (a : Tile) → IsTiled (chunk_size_in rows) T → T k ≡ Some a → ContainsKey rows a.chunk
row_of_tile {M} rows T k a tiled at = cases (get rows a.chunk) refl
  where
    cases : (o : Option (Row M)) → get rows a.chunk ≡ o → IsSome (get rows a.chunk)
    cases None e = absurd (let zero = ap row_size e in omega (arith, zero, tiled.nonempty k a at, tiled.inside k a at))
    cases (Some row) e = subst IsSome (sym e) refl

pub row_there : {M : Type 0} (rows : Slab (Row M)) (nodes : Slab Node) (k : ℕ) (a : Tile) → AreNodesKept (chunk_size_in rows) nodes → tile_in nodes k ≡ Some a → ContainsKey rows a.chunk
row_there rows nodes k a kept at = row_of_tile rows (tile_in nodes) k a kept.tiled at
