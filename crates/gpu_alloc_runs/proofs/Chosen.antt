-- Which run a search finds, and how many it looks at.
use Rattle.std.proofs.Common.{◌≡◌, ◌≢◌, inl, inr, ℕ, zero, suc, ◌+◌, ◌-◌, ◌*◌, ◌^◌, ◌<◌, ◌≤◌, true, List, [], ◌∷◌, length, min, Option, Some, None, refl, sym, ◌∙◌, ap, subst, arith}
use Rattle.std.proofs.lemmas.Bool.{cases_lt}
use Rattle.std.specs.Prelude.{slice_index_or}
use Rattle.slab.specs.Slab.{Slab, slab_len}
use Rattle.gpu_alloc_base.specs.FreeRuns.{HasRoom}
use Rattle.gpu_alloc_base.specs.FreeSpace.{IsMultipleOf}
use Rattle.gpu_alloc_base.specs.declared.region.FreeListRegion.{FreeListRegion}
use Rattle.gpu_alloc_base.proofs.FreeRuns.{region_is_run, run_is_region}
use Rattle.gpu_alloc_base.proofs.Multiples.{multiple_below}
use Rattle.gpu_alloc_runs.specs.Choice.{AreFewLooks, BeginsClass, HasDistinctRuns, IsChosenRun, IsRun, IsMiss, IsWholeRun, LacksRoom, class_of_run, sure_class}
use Rattle.gpu_alloc_runs.specs.Classes.{IsIn, IsOnce, below_in, class_of_bytes, first_in, least_grains}
use Rattle.gpu_alloc_runs.specs.Filed.{AreFreeFiled, AreWholeLast, down_in, filed_in}
use Rattle.gpu_alloc_runs.specs.Inside.{IsChosenTile, chunk_size_in, chunks_of_rows, fit_space_in}
use Rattle.gpu_alloc_runs.specs.Links.{AreNodesKept}
use Rattle.gpu_alloc_runs.specs.Space.{FitSpace, IsFreeIn, chunk_bytes}
use Rattle.gpu_alloc_runs.specs.Tiles.{HasRoomAt, tile_in, tile_region}
use Rattle.gpu_alloc_runs.specs.declared.classes.Classes.{Classes}
use Rattle.gpu_alloc_runs.specs.declared.fits.Chunk.{Chunk as Row}
use Rattle.gpu_alloc_runs.specs.declared.tile.Node.{Node}
use Rattle.gpu_alloc_runs.specs.declared.tile.TheConstants.{NONE}
use Rattle.gpu_alloc_runs.specs.declared.tile.Tile.{Tile}
use Rattle.gpu_alloc_runs.proofs.Filed.{free_class}
use Rattle.gpu_alloc_runs.proofs.Filing.{below_key, below_none}
use Rattle.gpu_alloc_runs.proofs.Lengths.{class_begins, class_below, class_capped, class_rises}
use Rattle.gpu_alloc_runs.proofs.Nodes.{has_tile}
use Rattle.gpu_alloc_runs.proofs.Rooms.{first_filed, long_enough, none_filed, sure_room, tile_of_class}
use Rattle.gpu_alloc_runs.proofs.Runs.{bytes_held, canonical}
use Rattle.gpu_alloc_runs.proofs.Tiles.{one_tile}
use Rattle.gpu_alloc_runs.proofs.Walks.{AreBelow, IsNext, IsSearch, all_passed, are_below, is_next, none_lower}

-- Keys by their places in a list.

nth_in : (keys : List ℕ) (i : ℕ) → i < length keys → IsIn keys (slice_index_or keys i 0)
nth_in [] i less = absurd (omega (arith, less))
nth_in (k ∷ rest) zero less = inl refl
nth_in (k ∷ rest) (suc i) less = inr (nth_in rest i (omega (arith, less)))

nth_once : (keys : List ℕ) (i j : ℕ) → IsOnce keys → i < length keys → j < length keys → slice_index_or keys i 0 ≡ slice_index_or keys j 0 → i ≡ j
nth_once [] i j once less_i less_j same = absurd (omega (arith, less_i))
nth_once (k ∷ rest) zero zero once less_i less_j same = refl
nth_once (k ∷ rest) zero (suc j) once less_i less_j same = absurd (once.0 (subst (IsIn rest) (sym same) (nth_in rest j (omega (arith, less_j)))))
nth_once (k ∷ rest) (suc i) zero once less_i less_j same = absurd (once.0 (subst (IsIn rest) same (nth_in rest i (omega (arith, less_i)))))
nth_once (k ∷ rest) (suc i) (suc j) once less_i less_j same = ap suc (nth_once rest i j once.1 (omega (arith, less_i)) (omega (arith, less_j)) same)

in_nth : (keys : List ℕ) (k : ℕ) → IsIn keys k → (i : ℕ) × ((i < length keys) × (slice_index_or keys i 0 ≡ k))
in_nth [] k is = absurd is
in_nth (x ∷ rest) k (inl same) = (0, (omega arith, sym same))
in_nth (x ∷ rest) k (inr later) = let n = in_nth rest k later in (suc n.0, (omega (arith, n.1.0), n.1.1))

some_in : (keys : List ℕ) → 0 < length keys → (k : ℕ) × IsIn keys k
some_in [] some = absurd (omega (arith, some))
some_in (k ∷ rest) some = (k, inl refl)

-- a key without one below it is the last
pub alone : (below : ℕ → ℕ) (key : ℕ) (later : List ℕ) → below key ≡ NONE → AreBelow below key later → (IsIn later NONE → ⊥) → later ≡ []
alone below key [] last chain keyed = refl
alone below key (k ∷ rest) last chain keyed = absurd (keyed (inl (sym last ∙ chain.0)))

-- the run of a tile
abbrev region_of : Option Tile → FreeListRegion
region_of None = record { chunk = 0; start = 0; end = 0 }
region_of (Some a) = tile_region a

-- the first sure class, as it is computed
pub sure_is : (size mask last class : ℕ) → class ≡ class_of_bytes last → last ≡ min (size - 1 + mask) (2 ^ 64 - 1) → class + 1 ≡ sure_class size (mask + 1)
sure_is size mask last class is capped =
    let same = is ∙ class_capped (size - 1 + (mask + 1 - 1)) last (omega (arith, capped)) in
    omega (arith, same)

module _ {M : Type 0} (object : M → ℕ) (rows : Slab (Row M)) (nodes : Slab Node) (classes : Classes) (kept : AreNodesKept (chunk_size_in rows) nodes) (filed : AreFreeFiled nodes classes) where
  abbrev space : FitSpace
  space = fit_space_in (chunks_of_rows object rows) nodes

  abbrev Free : ℕ → ℕ → Type 0
  Free = IsFreeIn space

  abbrev region_at : ℕ → FreeListRegion
  region_at k = region_of (tile_in nodes k)

  -- a free tile, by its class
  record IsTile (k class : ℕ) : Type 0 where
    tile : Tile
    at : tile_in nodes k ≡ Some tile
    free : tile.free ≡ true
    region : region_at k ≡ tile_region tile
    class_is : class_of_run (region_at k) ≡ class
    run : IsRun Free (region_at k)

  tile_at : (k class : ℕ) → filed_in nodes k ≡ Some class → IsTile k class
  tile_at k class on =
      let t = tile_of_class (tile_in nodes) k class on in
      let region : region_at k ≡ tile_region t.tile = ap region_of t.at in
      record {
        tile = t.tile;
        at = t.at;
        free = t.free;
        region = region;
        class_is = ap class_of_run region ∙ t.class_is;
        run = region_is_run Free _ (canonical object rows nodes kept) (region_at k) (k, t.tile, (t.at, (t.free, sym region)));
      }

  region_is : (k : ℕ) (a : Tile) → tile_in nodes k ≡ Some a → region_at k ≡ tile_region a
  region_is k a at = ap region_of at

  is_free : (k class : ℕ) → filed_in nodes k ≡ Some class → (a : Tile) → tile_in nodes k ≡ Some a → a.free ≡ true
  is_free k class on a at = let t = tile_at k class on in ap (λ (b : Tile). b.free) (one_tile (tile_in nodes) k k a t.tile at t.at refl) ∙ t.free

  -- and one by its run
  record IsAt (r : FreeListRegion) : Type 0 where
    key : ℕ
    on : filed_in nodes key ≡ Some (class_of_run r)
    region : region_at key ≡ r

  run_at : (r : FreeListRegion) → IsRun Free r → IsAt r
  run_at r run =
      let h = run_is_region Free _ (canonical object rows nodes kept) r run in
      let a = h.1 in
      record {
        key = h.0;
        on = free_class (tile_in nodes) h.0 a h.2.0 h.2.1.0 ∙ ap Some (ap class_of_run h.2.1.1);
        region = ap region_of h.2.0 ∙ h.2.1.1;
      }

  -- two tiles of the same bytes are one
  one_key : (j k c d : ℕ) → filed_in nodes j ≡ Some c → filed_in nodes k ≡ Some d → region_at j ≡ region_at k → j ≡ k
  one_key j k c d on_j on_k same =
      let a = tile_at j c on_j in
      let b = tile_at k d on_k in
      let e = sym a.region ∙ same ∙ b.region in
      let start = ap (λ (r : FreeListRegion). r.start) e in
      let end = ap (λ (r : FreeListRegion). r.end) e in
      let some = kept.tiled.nonempty j a.tile a.at in
      kept.tiled.apart j k a.tile b.tile a.at b.at (ap (λ (r : FreeListRegion). r.chunk) e) (omega (arith, start, end, some)) (omega (arith, start, end, some))

  -- the runs of that many keys
  abbrev runs_of : (keys : List ℕ) (count : ℕ) → length keys ≡ count → (P : FreeListRegion → Type 0) → IsOnce keys → ((k : ℕ) → IsIn keys k → (c : ℕ) × ((filed_in nodes k ≡ Some c) × P (region_at k))) → HasDistinctRuns Free count P
  runs_of keys count many P once each = record {
    run = λ i. region_at (slice_index_or keys i 0);
    free = λ i less. let e = each (slice_index_or keys i 0) (nth_in keys i (omega (arith, less, many))) in (tile_at (slice_index_or keys i 0) e.0 e.1.0).run;
    holds = λ i less. (each (slice_index_or keys i 0) (nth_in keys i (omega (arith, less, many)))).1.1;
    differ = λ i j less_i less_j same.
        let e = each (slice_index_or keys i 0) (nth_in keys i (omega (arith, less_i, many))) in
        let f = each (slice_index_or keys j 0) (nth_in keys j (omega (arith, less_j, many))) in
        nth_once keys i j once (omega (arith, less_i, many)) (omega (arith, less_j, many)) (one_key (slice_index_or keys i 0) (slice_index_or keys j 0) e.0 f.0 e.1.0 f.1.0 same);
  }

  module _ (size mask : ℕ) (some : 0 < size) where
    abbrev Room : ℕ → Type 0
    Room k = HasRoomAt (tile_in nodes) size (mask + 1) k

    abbrev own : ℕ
    own = class_of_bytes size

    -- room in a tile is room in its run
    room_in : (k class : ℕ) → filed_in nodes k ≡ Some class → HasRoom size (mask + 1) (region_at k).start (region_at k).end → Room k
    room_in k class on room =
        let t = tile_at k class on in
        (t.tile, (t.at, (t.free, subst (λ (r : FreeListRegion). HasRoom size (mask + 1) r.start r.end) t.region room)))

    room_of : (k : ℕ) → Room k → HasRoom size (mask + 1) (region_at k).start (region_at k).end
    room_of k room = subst (λ (r : FreeListRegion). HasRoom size (mask + 1) r.start r.end) (sym (ap region_of room.1.0)) room.1.1.1

    -- a tile with room is of the block's own class or a higher one
    own_or_higher : (k class : ℕ) → filed_in nodes k ≡ Some class → Room k → own ≤ class
    own_or_higher k class on room =
        let a = room.0 in
        let rise = class_rises size (a.end - a.start) (long_enough size mask a room.1.1) in
        let e : Some (class_of_bytes (a.end - a.start)) ≡ Some class = sym (free_class (tile_in nodes) k a room.1.0 room.1.1.0) ∙ on in
        let same : class_of_bytes (a.end - a.start) ≡ class = (cc) in
        omega (arith, rise, same)

    -- where the block is the least of its class, a tile of that class or a higher one has room from a multiple of the alignment on
    begins_room : BeginsClass size → (k class : ℕ) → filed_in nodes k ≡ Some class → own ≤ class → IsMultipleOf (mask + 1) (region_at k).start → Room k
    begins_room begins k class on from aligned =
        let t = tile_at k class on in
        let a = t.tile in
        let is : class_of_bytes (a.end - a.start) ≡ class = sym (ap class_of_run t.region) ∙ t.class_is in
        let long : size ≤ a.end - a.start = (elim (cases_lt (a.end - a.start) size) [
          | inr le ↦ le
          | inl less ↦
              let same : class_of_bytes size ≡ class_of_bytes (a.end - a.start) = omega (arith, class_rises (a.end - a.start) size (omega (arith, less)), is, from) in
              let least = class_begins (a.end - a.start) in
              let begins' : size ≡ least_grains (class_of_bytes (a.end - a.start)) * 256 = begins ∙ ap (λ c. least_grains c * 256) same in
              omega (arith, begins', least)
        ]) in (
          a,
          (
            t.at,
            (
              t.free,
              record {
                enough = omega (arith, long, some);
                from = multiple_below (a.end - size) (mask + 1) a.start (omega arith) (subst (λ (r : FreeListRegion). IsMultipleOf (mask + 1) r.start) t.region aligned) (omega (arith, long, some));
              },
            ),
          ),
        )

    room_at : (r : FreeListRegion) (at : IsAt r) → HasRoom size (mask + 1) r.start r.end → Room at.key
    room_at r at room = room_in at.key (class_of_run r) at.on (subst (λ (q : FreeListRegion). HasRoom size (mask + 1) q.start q.end) (sym at.region) room)

    -- no tile is of a class that is sure where none of these has a first one
    pub none_sure : (c : ℕ) → 464 ≤ c → ((b : ℕ) → sure_class size (mask + 1) ≤ b → b < c → first_in classes b ≡ NONE) → (k class : ℕ) → filed_in nodes k ≡ Some class → sure_class size (mask + 1) ≤ class → ⊥
    none_sure c beyond least k class on from =
        let below : class < 464 = omega (arith, sym (tile_at k class on).class_is, class_below ((region_at k).end - (region_at k).start)) in
        none_filed nodes classes filed class (least class from (omega (arith, below, beyond))) k on

    module _ (whole_last : AreWholeLast (chunk_size_in rows) nodes) (class key passed : ℕ) (s : IsSearch nodes classes own (sure_class size (mask + 1)) Room class key passed) where
      abbrev sure : ℕ
      sure = sure_class size (mask + 1)

      -- below the first sure class there is a next tile
      pub next_below : class < sure → IsNext nodes classes filed own sure Room class key passed s
      next_below less =
          is_next nodes classes filed own sure Room class key passed s (λ none. omega (arith, s.end none, less, class_below (size - 1 + (mask + 1 - 1))))

      -- So few are looked at.
      pub few_looks : (looks : ℕ) → looks ≤ passed + 1 → (4 < passed → (k c : ℕ) → filed_in nodes k ≡ Some c → sure ≤ c → ⊥) → AreFewLooks Free size (mask + 1) looks
      few_looks looks most none = record {
        count = passed;
        misses = runs_of s.seen passed s.many (IsMiss size (mask + 1)) s.once (λ k is.
            let p = s.filed k is in
            let c = (tile_at k p.of p.is).class_is in
            (p.of, (p.is, record { own = omega (arith, p.from, c); below = omega (arith, p.unsure, c); none = λ room. s.not k is (room_in k p.of p.is room) })));
        bound = most;
        one = λ begins aligned. elim (cases_lt 0 passed) [
          | inr none ↦ omega (arith, most, none)
          | inl more ↦ absurd (
              let k = some_in s.seen (omega (arith, more, s.many)) in
              let p = s.filed k.0 k.1 in
              s.not k.0 k.1 (begins_room begins k.0 p.of p.is p.from (aligned (region_at k.0) (tile_at k.0 p.of p.is).run)))
        ];
        sure = λ r run from. elim (cases_lt 4 passed) [
          | inl more ↦ let at = run_at r run in absurd (none more at.key (class_of_run r) at.on from)
          | inr le ↦ omega (arith, most, le)
        ];
      }

      -- No tile has room.

      pub none_at_end : key ≡ NONE → (k : ℕ) → Room k → ⊥
      none_at_end none k room =
          let a = room.0 in
          let on = free_class (tile_in nodes) k a room.1.0 room.1.1.0 in
          let c = class_of_bytes (a.end - a.start) in
          omega (arith, none_lower nodes classes filed own sure Room class key passed s k c (own_or_higher k c on room) on room, s.end none, class_below (a.end - a.start))

      pub none_after_all : passed ≡ slab_len nodes → (k : ℕ) → Room k → ⊥
      none_after_all all k room = all_passed nodes classes filed own sure Room class key passed s all k (has_tile nodes k room.0 room.1.0) room

      -- A run with room is in no class below that of the search.
      not_lower : (r : FreeListRegion) (at : IsAt r) → Room at.key → class ≤ class_of_run r
      not_lower r at room = none_lower nodes classes filed own sure Room class key passed s at.key (class_of_run r) (own_or_higher at.key (class_of_run r) at.on room) at.on room

      surely : (r : FreeListRegion) (at : IsAt r) → sure ≤ class_of_run r → Room at.key
      surely r at above = sure_room nodes classes filed size mask some at.key (class_of_run r) above at.on

      -- where the tile of a run is a whole chunk, none is below it
      none_below : (k c : ℕ) → filed_in nodes k ≡ Some c → IsWholeRun Free (chunk_bytes space) (region_at k) → down_in nodes k ≡ NONE
      none_below k c on whole =
          let t = tile_at k c on in
          whole_last k t.tile t.at t.free (ap (λ (r : FreeListRegion). r.start) (sym t.region) ∙ whole.starts)
          (ap (λ (r : FreeListRegion). r.end) (sym t.region) ∙ whole.ends ∙ ap (λ (r : FreeListRegion). chunk_bytes space r.chunk) t.region ∙ bytes_held object rows t.tile.chunk)

      -- The next tile is found.
      pub found : key ≢ NONE → Room key → (a : Tile) → tile_in nodes key ≡ Some a → IsChosenTile space (tile_in nodes) size (mask + 1) (key, a)
      found keyed room a at_a =
          let here = is_next nodes classes filed own sure Room class key passed s keyed in
          let t = tile_at key class here.on in
          record {
            at = at_a;
            free = is_free key class here.on a at_a;
            chosen = subst (IsChosenRun Free (chunk_bytes space) size (mask + 1)) (region_is key a at_a) (record {
              run = t.run;
              room = room_of key room;
              sure = λ r run above.
                  let at = run_at r run in
                  omega (arith, not_lower r at (surely r at above), t.class_is);
              lower = λ r run has less.
                  let at = run_at r run in
                  absurd (omega (arith, not_lower r at (room_at r at has), less, t.class_is));
              last = λ whole r run has same.
                  let at = run_at r run in
                  let on : filed_in nodes at.key ≡ Some class = at.on ∙ ap Some (same ∙ t.class_is) in
                  let later : here.later ≡ [] = alone (below_in (first_in classes class) (down_in nodes)) key here.later (below_key (first_in classes class) (down_in nodes) key keyed ∙ none_below key class here.on whole) here.chain
                  (λ none. let l = s.left NONE (subst (λ q. IsIn q NONE) (sym here.rest_is) (inr none)) in filed.vacant (filed.there NONE class l.0)) in
                  elim (s.told at.key on) [
                    | inr seen ↦ absurd (s.not at.key seen (room_at r at has))
                    | inl left ↦ elim (subst (λ q. IsIn q at.key) (here.rest_is ∙ ap (λ q. key ∷ q) later) left) [
                      | inl is ↦ sym at.region ∙ ap region_at is
                      | inr none ↦ absurd none
                    ]
                  ];
            });
          }

      -- Those that are passed lack room.
      abbrev passed_runs : passed ≡ 4 → HasDistinctRuns Free 4 (LacksRoom size (mask + 1) class)
      passed_runs all = runs_of s.seen 4 (s.many ∙ all) (LacksRoom size (mask + 1) class) s.once (λ k is.
          let p = s.filed k is in
          let here = (tile_at k p.of p.is).class_is in
          (p.of, (p.is, record { own = omega (arith, p.from, here); up_to = omega (arith, p.up_to, here); none = λ room. s.not k is (room_in k p.of p.is room) })))

      -- That many are passed, and the first tile of the first sure class is taken.
      pub found_first : passed ≡ 4 → (c : ℕ) → sure ≤ c → ((b : ℕ) → sure ≤ b → b < c → first_in classes b ≡ NONE) → first_in classes c ≢ NONE → (a : Tile) → tile_in nodes (first_in classes c) ≡ Some a → IsChosenTile space (tile_in nodes) size (mask + 1) (first_in classes c, a)
      found_first all c above least filled a at_a =
          let first = first_in classes c in
          let on = first_filed nodes classes filed c filled in
          let t = tile_at first c on in
          let up_to : (r : FreeListRegion) (at : IsAt r) → sure ≤ class_of_run r → c ≤ class_of_run r = (λ r at from. elim (cases_lt (class_of_run r) c) [
            | inr le ↦ le
            | inl less ↦ absurd (none_filed nodes classes filed (class_of_run r) (least (class_of_run r) from less) at.key at.on)
          ]) in
          record {
            at = at_a;
            free = is_free first c on a at_a;
            chosen = subst (IsChosenRun Free (chunk_bytes space) size (mask + 1)) (region_is first a at_a) (record {
              run = t.run;
              room = room_of first (sure_room nodes classes filed size mask some first c above on);
              sure = λ r run from. omega (arith, up_to r (run_at r run) from, t.class_is);
              lower = λ r run has less.
                  let at = run_at r run in (
                    omega (arith, above, t.class_is),
                    record {
                      last = class;
                      up_to = not_lower r at (room_at r at has);
                      runs = passed_runs all;
                      first = λ q run_q from below.
                          let at_q = run_at q run_q in
                          let n = in_nth s.seen at_q.key (s.lower (class_of_run q) at_q.key from below at_q.on) in
                          (n.0, (omega (arith, n.1.0, s.many, all), ap region_at n.1.1 ∙ at_q.region));
                    },
                  );
              last = λ whole r run has same.
                  let at = run_at r run in
                  let l = filed.lists c in
                  let is_in = (l.1.exact at.key).1 (at.on ∙ ap Some (same ∙ t.class_is)) in
                  first_alone l.0 (are_below (below_in first (down_in nodes)) _ NONE l.0 l.1.chain) l.1.keyed (none_below first c on whole) filled at.key is_in at.region;
            });
          }
        where
          first_alone : (keys : List ℕ) → AreBelow (below_in (first_in classes c) (down_in nodes)) NONE keys → (IsIn keys NONE → ⊥) → down_in nodes (first_in classes c) ≡ NONE → first_in classes c ≢ NONE → (k : ℕ) → IsIn keys k → {r : FreeListRegion} → region_at k ≡ r → r ≡ region_at (first_in classes c)
          first_alone [] chain keyed last filled k is at = absurd is
          first_alone (x ∷ later) chain keyed last filled k is {r} at =
              let first = first_in classes c in
              let x_is : x ≡ first = sym chain.0 ∙ below_none first (down_in nodes) in
              let none : later ≡ [] = alone (below_in first (down_in nodes)) x later (ap (below_in first (down_in nodes)) x_is ∙ below_key first (down_in nodes) first filled ∙ last) chain.1 (λ is_none. keyed (inr is_none)) in
              elim (subst (λ q. IsIn (x ∷ q) k) none is) [
                | inl same ↦ sym at ∙ ap region_at (same ∙ x_is)
                | inr none_is ↦ absurd none_is
              ]
