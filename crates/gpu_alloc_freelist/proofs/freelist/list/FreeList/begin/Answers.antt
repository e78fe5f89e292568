use Rattle.std.proofs.Common.{◌≡◌, ◌+◌, ◌<◌, ◌≤◌, refl, sym, ◌∙◌, ap, subst, arith}
use Rattle.std.specs.FinMap as map
use Rattle.gpu_alloc_base.specs.Chunks.{Chunk}
use Rattle.gpu_alloc_base.specs.FreeRuns.{AreRunsBeside}
use Rattle.gpu_alloc_base.specs.Slots.{region_of}
use Rattle.gpu_alloc_freelist.specs.FreeList.{first_tail, with_slot, with_numbered_chunk}
use Rattle.gpu_alloc_freelist.specs.FreeListInside.{list_space_in}
use Rattle.gpu_alloc_freelist.specs.FreeListSound.{IsSoundListSpace}
use Rattle.gpu_alloc_freelist.specs.FreeListState.{ListSpace, ListStore, IsFreeIn}
use Rattle.gpu_alloc_freelist.specs.Chunks.{NumberedChunks}
use Rattle.gpu_alloc_freelist.specs.Live.{LiveBlocks}
use Rattle.gpu_alloc_freelist.specs.Wholes.{wholes}
use Rattle.gpu_alloc_freelist.specs.declared.freelist.list.FreeList.TheInside.{Inside}
use Rattle.gpu_alloc_freelist.proofs.FreeListGrants.{IsFirstTail, IsTaken, begun_at_0, begun_behind, begun_taken, listed_with_chunk, some_room, with_chunk_in}
use Rattle.gpu_alloc_freelist.proofs.ListInHand.{first_adds, slot_leaves}
use Rattle.gpu_alloc_freelist.proofs.NewWholes.{wholes_begun, wholes_begun_behind}
use Rattle.gpu_alloc_freelist.proofs.RunsKept.{last_by_chunk}
use Rattle.gpu_alloc_freelist.proofs.freelist.list.FreeList.begin.Given.{Over}
use Rattle.gpu_alloc_freelist.proofs.freelist.list.FreeList.begin.Goals.{then-slot-gt0, else-slot-gt0}
use Rattle.gpu_alloc_freelist.proofs.freelist.list.FreeList.begin.Goals as goal

pub push-requires-then-slot-gt0-clause-last : goal.push-requires-then-slot-gt0-clause-last
push-requires-then-slot-gt0-clause-last g c =
    last_by_chunk (IsFreeIn (list_space_in c.self.inside.chunks.held c.self.inside.live.slots c.self.inside.latest)) c.self.inside.runs.regions (record { chunk = c.self.inside.latest + 1; start = 0; end = c.tail_of-slot.result.offset }) c.self.invariant.runs
    (λ chunk at free. omega (arith, (c.self.invariant.sound.numbers chunk free.held free.is).1))

-- the space before the call, the chunk, and the space with it
abbrev before : (g : Over) → goal.After-new g → ListSpace
before g c = list_space_in c.self.inside.chunks.held c.self.inside.live.slots c.self.inside.latest

abbrev made : (g : Over) → goal.After-new g → Chunk
made g c = record { object = g.M.MemoryObject.object c.args.memory; size = c.args.memory_size }

abbrev more : (g : Over) → goal.After-new g → ListSpace
more g c = with_numbered_chunk (before g c) (g.M.MemoryObject.object c.args.memory) c.args.memory_size

first : (g : Over) (c : goal.After-new g) → IsFirstTail (before g c) (g.M.MemoryObject.object c.args.memory) c.args.memory_size c.args.size (c.args.align_mask + 1) c.tail_of-slot.result
first g c = record {
  is = c.tail_of-slot.ensures ∙ ap (λ o. first_tail (before g c) o c.args.memory_size c.args.size (c.args.align_mask + 1)) c.object.ensures;
  some = c.requires.nonempty;
  inside = c.requires.inside;
}

-- what the fields are once the front is pushed
abbrev IsBegun : (g : Over) → goal.After-new g → Inside g.row.M.Denot g.row.A.Denot → Type 0
IsBegun g c l = record {
  chunks : l.chunks ≡ c.push.new.self;
  latest : l.latest ≡ c.self.inside.latest + 1;
  live : l.live ≡ c.self.inside.live;
  beside : AreRunsBeside l.runs.regions (IsFreeIn (more g c)) (region_of c.tail_of-slot.result);
  room : c.self.inside.runs.room ≤ l.runs.room + 1;
  whole : wholes c.push.new.self.held l.runs.regions ≡ l.whole;
}

begun : (g : Over) (c : goal.After-new g) → IsBegun g c c.if-slot-gt0.self-inside
begun g c = elim c.if-slot-gt0.branch [
  | then-slot-gt0 w ↦ subst (IsBegun g c) (sym w.self-inside-is) (record {
    chunks = refl;
    latest = refl;
    live = refl;
    beside = begun_behind _ _ _ _ _ _ (first g c) c.self.invariant.sound c.self.inside.runs.regions w.push-then-slot-gt0.new.self.regions c.self.invariant.runs w.if-slot-gt0.true w.push-then-slot-gt0.ensures.regions;
    room = omega (arith, w.push-then-slot-gt0.ensures.room);
    whole = ap (λ h. wholes h w.push-then-slot-gt0.new.self.regions) c.push.ensures.held
        ∙ wholes_begun_behind (before g c) (g.M.MemoryObject.object c.args.memory) c.args.memory_size c.args.size (c.args.align_mask + 1) c.tail_of-slot.result (first g c) c.self.invariant.sound c.self.inside.runs.regions w.push-then-slot-gt0.new.self.regions c.self.invariant.runs w.push-then-slot-gt0.ensures.regions
        ∙ c.self.invariant.whole;
  })
  | else-slot-gt0 w ↦ subst (IsBegun g c) (sym w.self-inside-is) (record {
    chunks = refl;
    latest = refl;
    live = refl;
    beside = begun_at_0 _ _ _ _ _ _ (first g c) c.self.invariant.sound c.self.inside.runs.regions c.self.invariant.runs (omega (arith, w.if-slot-gt0.false));
    room = omega arith;
    whole = ap (λ h. wholes h c.self.inside.runs.regions) c.push.ensures.held
        ∙ wholes_begun (before g c) (g.M.MemoryObject.object c.args.memory) c.args.memory_size c.self.invariant.sound c.self.inside.runs.regions c.self.invariant.runs
        ∙ c.self.invariant.whole;
  })
]

took : (g : Over) (c : goal.After-new g) → IsTaken (more g c) c.if-slot-gt0.self-inside.runs.regions c.tail_of-slot.result
took g c = begun_taken _ _ _ _ _ _ (first g c) c.self.invariant.sound c.if-slot-gt0.self-inside.runs.regions c.ranges.memory_size.fits (begun g c).beside

chunks : (g : Over) (c : goal.After-new g) → c.if-slot-gt0.self-inside.chunks.held ≡ map.insert c.self.inside.chunks.held (c.self.inside.latest + 1) (made g c)
chunks g c = rw ((begun g c).chunks) c.push.ensures.held

after_is : (g : Over) (c : goal.After-new g)
    → list_space_in c.if-slot-gt0.self-inside.chunks.held c.keep-key.new.self.slots c.if-slot-gt0.self-inside.latest ≡ with_slot (more g c) c.tail_of-slot.result
after_is g c =
    with_chunk_in c.self.inside.chunks.held c.if-slot-gt0.self-inside.chunks.held c.self.inside.latest c.if-slot-gt0.self-inside.latest (g.M.MemoryObject.object c.args.memory) c.args.memory_size
    c.self.inside.live.slots c.keep-key.new.self.slots c.tail_of-slot.result (chunks g c) (begun g c).latest (rw (← (begun g c).live) c.keep-key.ensures.slots)

pub invariant_of-self : goal.invariant_of-self
invariant_of-self g c =
    let b = begun g c in
    let some = some_room _ _ _ (subst (λ (s : ListStore). 0 < s.room) (sym c.self.view_is) c.requires.room) in
    listed_with_chunk c.self.inside.chunks.held c.if-slot-gt0.self-inside.chunks.held c.self.inside.latest c.if-slot-gt0.self-inside.latest (g.M.MemoryObject.object c.args.memory) c.args.memory_size
    c.self.inside.live.slots c.keep-key.new.self.slots c.tail_of-slot.result (chunks g c) b.latest (rw (← b.live) c.keep-key.ensures.slots)
    c.if-slot-gt0.self-inside.runs.regions _ _ _ (took g c)
    (omega (arith, some.1.1, b.room, c.keep-key.ensures.count, ap (λ (l : LiveBlocks). l.count) b.live))
    (ap (λ (n : NumberedChunks). wholes n.held c.if-slot-gt0.self-inside.runs.regions) b.chunks ∙ b.whole)

pub returns-clause-chunk : goal.returns-clause-chunk
returns-clause-chunk g c =
    rw (c.new.ensures)
    (after_is g c ∙ ap (λ (s : ListStore). with_slot (with_numbered_chunk s.space (g.M.MemoryObject.object c.args.memory) c.args.memory_size) c.tail_of-slot.result) c.self.view_is)

pub returns-clause-sound : goal.returns-clause-sound
returns-clause-sound g c = subst IsSoundListSpace (sym (after_is g c)) (took g c).sound

pub returns-clause-added : goal.returns-clause-added
returns-clause-added g c =
    rw (← c.self.view_is, c.new.ensures)
    (first_adds (before g c) _ (g.M.MemoryObject.object c.args.memory) c.args.memory_size c.args.size (c.args.align_mask + 1) c.tail_of-slot.result c.self.invariant.sound c.requires.nonempty c.requires.inside (first g c).is (after_is g c))

pub returns-clause-leaves : goal.returns-clause-leaves
returns-clause-leaves g c = rw (← c.self.view_is) (slot_leaves (more g c) _ c.tail_of-slot.result (after_is g c))
