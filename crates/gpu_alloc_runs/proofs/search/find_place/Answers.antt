use Rattle.std.proofs.Common.{◌≡◌, ◌≢◌, inl, inr, Some, ◌+◌, ◌<◌, ◌≤◌, sym, ◌∙◌, ap, subst, IsSome, refl, arith}
use Rattle.std.proofs.lemmas.Bool.{cases_lt}
use Rattle.slab.specs.Slab.{ContainsKey}
use Rattle.gpu_alloc_runs.specs.Choice.{sure_class}
use Rattle.gpu_alloc_runs.specs.Classes.{IsIn, below_in, class_of_bytes, first_in}
use Rattle.gpu_alloc_runs.specs.Filed.{down_in, down_of}
use Rattle.gpu_alloc_runs.specs.Inside.{IsChosenTile, fit_space_in, chunks_of_rows}
use Rattle.gpu_alloc_runs.specs.Tiles.{HasRoomAt, tile_in}
use Rattle.gpu_alloc_runs.proofs.Chosen.{alone, few_looks, found, found_first, next_below, none_after_all, none_at_end, none_sure, sure_is}
use Rattle.gpu_alloc_runs.specs.declared.tile.TheConstants.{NONE}
use Rattle.gpu_alloc_runs.proofs.Filed.{keyed_there}
use Rattle.gpu_alloc_runs.proofs.Filing.{below_key}
use Rattle.gpu_alloc_runs.proofs.Nodes.{tile_of_node}
use Rattle.gpu_alloc_runs.proofs.Rooms.{first_filed, sure_room}
use Rattle.gpu_alloc_runs.proofs.Runs.{no_place}
use Rattle.gpu_alloc_runs.proofs.Stored.{room_of}
use Rattle.gpu_alloc_runs.proofs.Walks.{IsSearch, begin, in_class, is_next, to_class}
use Rattle.gpu_alloc_runs.proofs.search.find_place.Goals as goal
use Rattle.gpu_alloc_runs.proofs.search.find_place.Goals.{else-key-2, else-passed-eq-LOOKS, then-key-2, then-passed-eq-LOOKS+else-first}

pub loop-passed-init : goal.loop-passed-init
loop-passed-init g c = (
  omega arith,
  begin c.args.nodes.now c.args.classes.now c.requires.filed (class_of_bytes c.args.size) (sure_class c.args.size (c.args.align_mask + 1)) (HasRoomAt (tile_in c.args.nodes.now) c.args.size (c.args.align_mask + 1)) c.filled_from-class.result c.first-key.result (omega (arith, c.filled_from-class.ensures.from, c.class_of.ensures.class))
      (λ class from less. c.filled_from-class.ensures.least class (omega (arith, from, c.class_of.ensures.class)) less) c.first-key.ensures c.filled_from-class.ensures.filled,
  λ more. absurd (omega (arith, more)),
)

-- No tile is left.

pub returns-then-key-clause-place : goal.returns-then-key-clause-place
returns-then-key-clause-place g c = no_place g.M.MemoryObject.object c.args.chunks.now c.args.nodes.now c.requires.kept c.args.size (c.args.align_mask + 1) (omega arith) c.requires.nonempty (none_at_end g.M.MemoryObject.object c.args.chunks.now c.args.nodes.now c.args.classes.now c.requires.kept c.requires.filed c.args.size c.args.align_mask c.requires.nonempty c.requires.whole_last c.loop-passed.class c.loop-passed.key c.loop-passed.passed c.loop-passed.invariant.1 c.if-key.true)

pub returns-then-key-clause-looks : goal.returns-then-key-clause-looks
returns-then-key-clause-looks g c = (c.loop-passed.passed, (c.loop-passed.invariant.0, few_looks g.M.MemoryObject.object c.args.chunks.now c.args.nodes.now c.args.classes.now c.requires.kept c.requires.filed c.args.size c.args.align_mask c.requires.nonempty c.requires.whole_last c.loop-passed.class c.loop-passed.key c.loop-passed.passed c.loop-passed.invariant.1 c.loop-passed.passed (omega arith) c.loop-passed.invariant.2))

pub returns-clause-place : goal.returns-clause-place
returns-clause-place g c = no_place g.M.MemoryObject.object c.args.chunks.now c.args.nodes.now c.requires.kept c.args.size (c.args.align_mask + 1) (omega arith) c.requires.nonempty (none_after_all g.M.MemoryObject.object c.args.chunks.now c.args.nodes.now c.args.classes.now c.requires.kept c.requires.filed c.args.size c.args.align_mask c.requires.nonempty c.requires.whole_last c.loop-passed.class c.loop-passed.key c.loop-passed.passed c.loop-passed.invariant.1 (omega (arith, c.loop-passed-test.false, c.loop-passed.auto.passed-end, c.len-passed-end.ensures)))

pub returns-clause-looks : goal.returns-clause-looks
returns-clause-looks g c = (c.loop-passed.passed, (c.loop-passed.invariant.0, few_looks g.M.MemoryObject.object c.args.chunks.now c.args.nodes.now c.args.classes.now c.requires.kept c.requires.filed c.args.size c.args.align_mask c.requires.nonempty c.requires.whole_last c.loop-passed.class c.loop-passed.key c.loop-passed.passed c.loop-passed.invariant.1 c.loop-passed.passed (omega arith) c.loop-passed.invariant.2))

-- The next tile is of a class that is sure.

pub look-requires : goal.look-requires
look-requires g c =
    let here = is_next c.args.nodes.now c.args.classes.now c.requires.filed (class_of_bytes c.args.size) (sure_class c.args.size (c.args.align_mask + 1)) (HasRoomAt (tile_in c.args.nodes.now) c.args.size (c.args.align_mask + 1)) c.loop-passed.class c.loop-passed.key c.loop-passed.passed c.loop-passed.invariant.1 c.if-key.false in
    c.requires.filed.there c.loop-passed.key c.loop-passed.class here.on

pub returns-then-class-sure-clause-place : goal.returns-then-class-sure-clause-place
returns-then-class-sure-clause-place g c =
    let here = is_next c.args.nodes.now c.args.classes.now c.requires.filed (class_of_bytes c.args.size) (sure_class c.args.size (c.args.align_mask + 1)) (HasRoomAt (tile_in c.args.nodes.now) c.args.size (c.args.align_mask + 1)) c.loop-passed.class c.loop-passed.key c.loop-passed.passed c.loop-passed.invariant.1 c.if-key.false in
    let above : sure_class c.args.size (c.args.align_mask + 1) ≤ c.loop-passed.class = omega (arith, sure_is c.args.size c.args.align_mask c.saturating_add.result c.class_of-sure.result c.class_of-sure.ensures.class c.saturating_add.ensures, c.if-class-sure.true) in
    found g.M.MemoryObject.object c.args.chunks.now c.args.nodes.now c.args.classes.now c.requires.kept c.requires.filed c.args.size c.args.align_mask c.requires.nonempty c.requires.whole_last c.loop-passed.class c.loop-passed.key c.loop-passed.passed c.loop-passed.invariant.1 c.if-key.false (sure_room c.args.nodes.now c.args.classes.now c.requires.filed c.args.size c.args.align_mask c.requires.nonempty c.loop-passed.key c.loop-passed.class above here.on)
    c.look.result.tile (tile_of_node c.args.nodes.now c.loop-passed.key c.look.result c.look.ensures.node)

pub returns-then-class-sure-clause-looks : goal.returns-then-class-sure-clause-looks
returns-then-class-sure-clause-looks g c = (c.loop-passed.passed + 1, (omega (arith, c.look.ensures.counted, c.loop-passed.invariant.0), few_looks g.M.MemoryObject.object c.args.chunks.now c.args.nodes.now c.args.classes.now c.requires.kept c.requires.filed c.args.size c.args.align_mask c.requires.nonempty c.requires.whole_last c.loop-passed.class c.loop-passed.key c.loop-passed.passed c.loop-passed.invariant.1 (c.loop-passed.passed + 1) (omega arith) c.loop-passed.invariant.2))

pub returns-then-class-sure-clause-some : goal.returns-then-class-sure-clause-some
returns-then-class-sure-clause-some g c is = omega (arith, c.look.ensures.counted, c.loop-passed.invariant.0)

-- That many are passed.

pub look-requires-then-first : goal.look-requires-then-first
look-requires-then-first g c =
    let filled : first_in c.args.classes.now c.filled_from.result ≢ NONE = (λ none. c.if-first.true (c.first-first.ensures ∙ none)) in
    subst (ContainsKey c.args.nodes.now) (sym c.first-first.ensures)
    (c.requires.filed.there (first_in c.args.classes.now c.filled_from.result) c.filled_from.result (first_filed c.args.nodes.now c.args.classes.now c.requires.filed c.filled_from.result filled))

pub returns-then-first-clause-place : goal.returns-then-first-clause-place
returns-then-first-clause-place g c =
    let sure = sure_is c.args.size c.args.align_mask c.saturating_add.result c.class_of-sure.result c.class_of-sure.ensures.class c.saturating_add.ensures in
    let at = tile_of_node c.args.nodes.now c.first-first.result c.look-then-first.result c.look-then-first.ensures.node in
    subst (λ k. IsChosenTile (fit_space_in (chunks_of_rows g.M.MemoryObject.object c.args.chunks.now) c.args.nodes.now) (tile_in c.args.nodes.now) c.args.size (c.args.align_mask + 1) (k, c.look-then-first.result.tile)) (sym c.first-first.ensures)
    (found_first g.M.MemoryObject.object c.args.chunks.now c.args.nodes.now c.args.classes.now c.requires.kept c.requires.filed c.args.size c.args.align_mask c.requires.nonempty c.requires.whole_last c.loop-passed.class c.loop-passed.key c.loop-passed.passed c.loop-passed.invariant.1 c.if-passed-eq-LOOKS.true c.filled_from.result (omega (arith, sure, c.filled_from.ensures.from))
    (λ b from less. c.filled_from.ensures.least b (omega (arith, sure, from)) less) (λ none. c.if-first.true (c.first-first.ensures ∙ none))
    c.look-then-first.result.tile (subst (λ k. tile_in c.args.nodes.now k ≡ Some c.look-then-first.result.tile) c.first-first.ensures at))

pub returns-then-first-clause-looks : goal.returns-then-first-clause-looks
returns-then-first-clause-looks g c = (c.loop-passed.passed + 1, (omega (arith, c.look-then-first.ensures.counted, c.loop-passed.invariant.0), few_looks g.M.MemoryObject.object c.args.chunks.now c.args.nodes.now c.args.classes.now c.requires.kept c.requires.filed c.args.size c.args.align_mask c.requires.nonempty c.requires.whole_last c.loop-passed.class c.loop-passed.key c.loop-passed.passed c.loop-passed.invariant.1 (c.loop-passed.passed + 1) (omega arith) c.loop-passed.invariant.2))

pub returns-then-first-clause-some : goal.returns-then-first-clause-some
returns-then-first-clause-some g c is = omega (arith, c.look-then-first.ensures.counted, c.loop-passed.invariant.0)

-- The next tile is looked at.

pub look-node-requires : goal.look-node-requires
look-node-requires g c =
    let here = next_below g.M.MemoryObject.object c.args.chunks.now c.args.nodes.now c.args.classes.now c.requires.kept c.requires.filed c.args.size c.args.align_mask c.requires.nonempty c.requires.whole_last c.loop-passed.class c.loop-passed.key c.loop-passed.passed c.loop-passed.invariant.1 (omega (arith, sure_is c.args.size c.args.align_mask c.saturating_add.result c.class_of-sure.result c.class_of-sure.ensures.class c.saturating_add.ensures, c.if-class-sure.false)) in
    c.requires.filed.there c.loop-passed.key c.loop-passed.class here.on

pub returns-then-has_room-clause-place : goal.returns-then-has_room-clause-place
returns-then-has_room-clause-place g c =
    let node = c.look-node.result in
    let at = tile_of_node c.args.nodes.now c.loop-passed.key node c.look-node.ensures.node in
    found g.M.MemoryObject.object c.args.chunks.now c.args.nodes.now c.args.classes.now c.requires.kept c.requires.filed c.args.size c.args.align_mask c.requires.nonempty c.requires.whole_last c.loop-passed.class c.loop-passed.key c.loop-passed.passed c.loop-passed.invariant.1 (keyed_there c.args.nodes.now c.loop-passed.key c.requires.filed.vacant (subst IsSome (sym c.look-node.ensures.node) refl)) (node.tile, (at, c.has_room.ensures.yes c.if-has_room.true)) node.tile at

pub returns-then-has_room-clause-looks : goal.returns-then-has_room-clause-looks
returns-then-has_room-clause-looks g c = (c.loop-passed.passed + 1, (omega (arith, c.look-node.ensures.counted, c.loop-passed.invariant.0), few_looks g.M.MemoryObject.object c.args.chunks.now c.args.nodes.now c.args.classes.now c.requires.kept c.requires.filed c.args.size c.args.align_mask c.requires.nonempty c.requires.whole_last c.loop-passed.class c.loop-passed.key c.loop-passed.passed c.loop-passed.invariant.1 (c.loop-passed.passed + 1) (omega arith) c.loop-passed.invariant.2))

pub returns-then-has_room-clause-some : goal.returns-then-has_room-clause-some
returns-then-has_room-clause-some g c is = omega (arith, c.look-node.ensures.counted, c.loop-passed.invariant.0)

-- It lacks room.
pub loop-passed-preserved : goal.loop-passed-preserved
loop-passed-preserved g c =
    let node = c.look-node.result in
    let at = tile_of_node c.args.nodes.now c.loop-passed.key node c.look-node.ensures.node in
    let less : c.loop-passed.class < sure_class c.args.size (c.args.align_mask + 1) = omega (arith, sure_is c.args.size c.args.align_mask c.saturating_add.result c.class_of-sure.result c.class_of-sure.ensures.class c.saturating_add.ensures, c.if-class-sure.false) in
    let here = next_below g.M.MemoryObject.object c.args.chunks.now c.args.nodes.now c.args.classes.now c.requires.kept c.requires.filed c.args.size c.args.align_mask c.requires.nonempty c.requires.whole_last c.loop-passed.class c.loop-passed.key c.loop-passed.passed c.loop-passed.invariant.1 less in
    let lacks : HasRoomAt (tile_in c.args.nodes.now) c.args.size (c.args.align_mask + 1) c.loop-passed.key → ⊥ = (λ room. c.has_room.ensures.no c.if-has_room.false (room_of (tile_in c.args.nodes.now) c.args.size (c.args.align_mask + 1) c.loop-passed.key node.tile room at)) in
    let keyed = keyed_there c.args.nodes.now c.loop-passed.key c.requires.filed.vacant (c.requires.filed.there c.loop-passed.key c.loop-passed.class here.on) in
    let next = below_key (first_in c.args.classes.now c.loop-passed.class) (down_in c.args.nodes.now) c.loop-passed.key keyed ∙ ap down_of c.look-node.ensures.node in (
      omega (arith, c.look-node.ensures.counted, c.loop-passed.invariant.0),
      elim c.if-key-2.branch [
        | else-key-2 w ↦
            subst (λ class. IsSearch c.args.nodes.now c.args.classes.now (class_of_bytes c.args.size) (sure_class c.args.size (c.args.align_mask + 1)) (HasRoomAt (tile_in c.args.nodes.now) c.args.size (c.args.align_mask + 1)) class c.if-key-2.key (c.loop-passed.passed + 1)) (sym w.class-is)
            (in_class c.args.nodes.now c.args.classes.now c.requires.filed (class_of_bytes c.args.size) (sure_class c.args.size (c.args.align_mask + 1)) (HasRoomAt (tile_in c.args.nodes.now) c.args.size (c.args.align_mask + 1)) c.loop-passed.class c.loop-passed.key c.loop-passed.passed c.loop-passed.invariant.1 here less lacks c.if-key-2.key (next ∙ sym w.key-is) (λ none. w.if-key-2.false (sym w.key-is ∙ none)))
        | then-key-2 w ↦
            let last = alone (below_in (first_in c.args.classes.now c.loop-passed.class) (down_in c.args.nodes.now)) c.loop-passed.key here.later (next ∙ w.if-key-2.true) here.chain
            (λ none. let l = c.loop-passed.invariant.1.left NONE (subst (λ r. IsIn r NONE) (sym here.rest_is) (inr none)) in c.requires.filed.vacant (c.requires.filed.there NONE c.loop-passed.class l.0)) in
            to_class c.args.nodes.now c.args.classes.now c.requires.filed (class_of_bytes c.args.size) (sure_class c.args.size (c.args.align_mask + 1)) (HasRoomAt (tile_in c.args.nodes.now) c.args.size (c.args.align_mask + 1)) c.loop-passed.class c.loop-passed.key c.loop-passed.passed c.loop-passed.invariant.1 here less lacks last c.if-key-2.class c.if-key-2.key (omega (arith, w.class-is, w.filled_from-class-then-key-2.ensures.from))
            (λ b from upto. w.filled_from-class-then-key-2.ensures.least b from (omega (arith, upto, w.class-is)))
            (w.key-is ∙ w.first-key-then-key-2.ensures ∙ ap (first_in c.args.classes.now) (sym w.class-is))
            (subst (λ q. q < 464 → first_in c.args.classes.now q ≢ NONE) (sym w.class-is) w.filled_from-class-then-key-2.ensures.filled)
      ],
      λ more k class on from. elim c.if-passed-eq-LOOKS.branch [
        | else-passed-eq-LOOKS w ↦ c.loop-passed.invariant.2 (omega (arith, more, w.if-passed-eq-LOOKS.false)) k class on from
        | then-passed-eq-LOOKS+else-first w ↦
            let sure = sure_is c.args.size c.args.align_mask c.saturating_add.result c.class_of-sure.result c.class_of-sure.ensures.class c.saturating_add.ensures in
            let beyond : 464 ≤ w.filled_from.result = (elim (cases_lt w.filled_from.result 464) [
              | inr le ↦ le
              | inl less' ↦ absurd (w.filled_from.ensures.filled less' (sym w.first-first.ensures ∙ w.if-first.false))
            ]) in
            none_sure g.M.MemoryObject.object c.args.chunks.now c.args.nodes.now c.args.classes.now c.requires.kept c.requires.filed c.args.size c.args.align_mask c.requires.nonempty w.filled_from.result beyond (λ b above upto. w.filled_from.ensures.least b (omega (arith, sure, above)) upto) k class on from
      ],
    )
