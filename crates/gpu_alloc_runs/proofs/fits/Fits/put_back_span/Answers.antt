use Rattle.std.proofs.Common.{◌+◌, ◌∙◌, None, Some, ap, subst, sym}
use Rattle.gpu_alloc_base.specs.declared.free_list_block.Slot.{Slot}
use Rattle.gpu_alloc_runs.specs.Classes.{class_of_bytes}
use Rattle.gpu_alloc_runs.specs.Fits.{FitStore}
use Rattle.gpu_alloc_runs.specs.Inside.{chunk_size_in}
use Rattle.gpu_alloc_runs.specs.Space.{IsLiveFitSpan}
use Rattle.gpu_alloc_runs.proofs.Ends.{spare_last}
use Rattle.gpu_alloc_runs.proofs.Filed.{left_free, refiled_free}
use Rattle.gpu_alloc_runs.proofs.InHand.{block_removes, chunk_removes}
use Rattle.gpu_alloc_runs.proofs.Neighbours.{neighbours_are}
use Rattle.gpu_alloc_runs.proofs.Nodes.{keeps_kept, keeps_then}
use Rattle.gpu_alloc_runs.proofs.Returned.{IsReturned, IsReturnedWith, gone_last, partly_last, returned_first, returned_partly, returned_with}
use Rattle.gpu_alloc_runs.proofs.Stored.{none_at}
use Rattle.gpu_alloc_runs.proofs.fits.Fits.put_back_span.Given.{Over}
use Rattle.gpu_alloc_runs.proofs.fits.Fits.put_back_span.Goals as goal

pub unreachable-requires : goal.unreachable-requires
unreachable-requires g c =
    let slot = c.requires.live.0 in
    none_at g.M.MemoryObject.object c.self.inside.chunks c.self.inside.tiles c.self.invariant.stored.kept c.object-object.result c.args.offset c.args.size c.in_default.ensures slot
    (subst (λ (s : FitStore). IsLiveFitSpan s.space c.object-object.result c.args.offset c.args.size slot) (sym c.self.view_is)
    (subst (λ n. IsLiveFitSpan c.args.self.now.space n c.args.offset c.args.size slot) (sym c.object-object.ensures) c.requires.live.1))

-- Other blocks of its chunk are live.

partly : (g : Over) (c : goal.After-refile g) (slot : Slot) → IsLiveFitSpan c.args.self.now.space (g.M.MemoryObject.object c.args.memory) c.args.offset c.args.size slot
    → IsReturned g.M.MemoryObject.object c.self.inside.chunks c.refile.new.nodes c.self.inside.spare c.args.self.now.space slot
partly g c =
    returned_partly g.M.MemoryObject.object c.self.inside.chunks c.self.inside.tiles c.put_back.new.nodes c.refile.new.nodes c.self.inside.spare c.self.invariant.stored c.args.self.now.space (ap (λ (s : FitStore). s.space) c.self.view_is)
    c.object-object.result (g.M.MemoryObject.object c.args.memory) c.args.offset c.args.size c.object-object.ensures c.in-Some.place c.in-Some.ensures c.put_back.result.1.key c.put_back.result.0
    c.put_back.ensures.back c.put_back.ensures.joint c.put_back.ensures.elsewhere c.put_back.ensures.kept c.refile.ensures.keeps
    (λ h. let yes' = c.is_whole.ensures.1 h in let no' = c.if-not-is_whole.true in cc)

pub invariant_of-self : goal.invariant_of-self
invariant_of-self g c = record {
  stored = (partly g c c.requires.live.0 c.requires.live.1).stored;
  filed = refiled_free c.put_back.new.nodes c.refile.new.nodes c.put_back.new.classes c.refile.new.classes c.put_back.result.1.key c.class_of-class.result c.put_back.result.1.class c.put_back.result.0
      c.refile.ensures.keeps c.put_back.ensures.joint.at c.put_back.ensures.joint.free (c.class_of-class.ensures.class ∙ ap class_of_bytes c.bytes_of.ensures) c.put_back.ensures.filed c.refile.ensures.files;
  whole_last = partly_last g.M.MemoryObject.object c.self.inside.chunks c.self.inside.tiles c.put_back.new.nodes c.refile.new.nodes c.self.inside.spare c.self.invariant.stored c.args.self.now.space (ap (λ (s : FitStore). s.space) c.self.view_is)
      c.object-object.result (g.M.MemoryObject.object c.args.memory) c.args.offset c.args.size c.object-object.ensures c.in-Some.place c.in-Some.ensures c.put_back.result.1.key c.put_back.result.0
      c.put_back.ensures.back c.put_back.ensures.joint c.put_back.ensures.elsewhere c.put_back.ensures.kept c.refile.ensures.keeps
      (λ h. let yes' = c.is_whole.ensures.1 h in let no' = c.if-not-is_whole.true in cc)
      c.put_back.ensures.ends c.put_back.new.classes c.put_back.result.1.class c.put_back.ensures.filed c.refile.ensures.lasts c.self.invariant.whole_last;
}

pub returns-then-not-is_whole-clause-back : goal.returns-then-not-is_whole-clause-back
returns-then-not-is_whole-clause-back g c slot span = ((partly g c slot span).kept, (partly g c slot span).space)

pub returns-then-not-is_whole-clause-removed : goal.returns-then-not-is_whole-clause-removed
returns-then-not-is_whole-clause-removed g c slot span = block_removes c.args.self.now.space _ slot span.live (partly g c slot span).space

pub returns-then-not-is_whole-clause-looks : goal.returns-then-not-is_whole-clause-looks
returns-then-not-is_whole-clause-looks g c slot span =
    c.put_back.ensures.looks
    ∙ ap (λ n. c.args.looks.now + n) (neighbours_are g.M.MemoryObject.object c.self.inside.chunks c.self.inside.tiles c.self.inside.spare c.self.invariant.stored c.args.self.now.space (ap (λ (s : FitStore). s.space) c.self.view_is)
    c.object-object.result (g.M.MemoryObject.object c.args.memory) c.args.offset c.args.size c.object-object.ensures c.in-Some.place c.in-Some.ensures slot span)

-- It is the first wholly free chunk.

first : (g : Over) (c : goal.After-self-1 g) (slot : Slot) → IsLiveFitSpan c.args.self.now.space (g.M.MemoryObject.object c.args.memory) c.args.offset c.args.size slot
    → IsReturned g.M.MemoryObject.object c.self.inside.chunks c.file_last.new.nodes (Some c.put_back.result.1.key) c.args.self.now.space slot
first g c =
    let all = c.is_whole.ensures.0 c.if-not-is_whole.false in
    returned_first g.M.MemoryObject.object c.self.inside.chunks c.self.inside.tiles c.put_back.new.nodes c.file_last.new.nodes c.self.inside.spare c.self.invariant.stored c.args.self.now.space (ap (λ (s : FitStore). s.space) c.self.view_is)
    c.object-object.result (g.M.MemoryObject.object c.args.memory) c.args.offset c.args.size c.object-object.ensures c.in-Some.place c.in-Some.ensures c.put_back.result.1.key c.put_back.result.0
    c.put_back.ensures.back c.put_back.ensures.joint c.put_back.ensures.elsewhere c.put_back.ensures.kept (keeps_then c.put_back.new.nodes c.leave.new.nodes c.file_last.new.nodes c.leave.ensures.keeps c.file_last.ensures.keeps)
    all.0 all.1 c.in-None.is

pub invariant_of-self-in-None : goal.invariant_of-self-in-None
invariant_of-self-in-None g c =
    let stored = (first g c c.requires.live.0 c.requires.live.1).stored in
    record {
      stored = stored;
      filed = refiled_free c.leave.new.nodes c.file_last.new.nodes c.leave.new.classes c.file_last.new.classes c.put_back.result.1.key c.class_of-class.result None c.put_back.result.0
          c.file_last.ensures.keeps (c.leave.ensures.keeps.tiles c.put_back.result.1.key ∙ c.put_back.ensures.joint.at) c.put_back.ensures.joint.free (c.class_of-class.ensures.class ∙ ap class_of_bytes c.bytes_of.ensures)
          (left_free c.put_back.new.nodes c.leave.new.nodes c.put_back.new.classes c.leave.new.classes c.put_back.result.1.key c.put_back.result.1.class c.leave.ensures.keeps c.put_back.ensures.filed c.leave.ensures.files)
          c.file_last.ensures.files;
      whole_last = spare_last g.M.MemoryObject.object c.self.inside.chunks c.file_last.new.nodes c.put_back.result.1.key stored c.file_last.ensures.last;
    }

pub returns-in-None-clause-back : goal.returns-in-None-clause-back
returns-in-None-clause-back g c slot span = ((first g c slot span).kept, (first g c slot span).space)

pub returns-in-None-clause-removed : goal.returns-in-None-clause-removed
returns-in-None-clause-removed g c slot span = block_removes c.args.self.now.space _ slot span.live (first g c slot span).space

pub returns-in-None-clause-looks : goal.returns-in-None-clause-looks
returns-in-None-clause-looks g c slot span =
    c.put_back.ensures.looks
    ∙ ap (λ n. c.args.looks.now + n) (neighbours_are g.M.MemoryObject.object c.self.inside.chunks c.self.inside.tiles c.self.inside.spare c.self.invariant.stored c.args.self.now.space (ap (λ (s : FitStore). s.space) c.self.view_is)
    c.object-object.result (g.M.MemoryObject.object c.args.memory) c.args.offset c.args.size c.object-object.ensures c.in-Some.place c.in-Some.ensures slot span)

-- It is another one, and is removed.

pub let_chunk_go-requires-clause-kept : goal.let_chunk_go-requires-clause-kept
let_chunk_go-requires-clause-kept g c = keeps_kept c.put_back.new.nodes c.leave.new.nodes c.leave.ensures.keeps (chunk_size_in c.self.inside.chunks) c.put_back.ensures.kept

other : (g : Over) (c : goal.After-let_chunk_go g) (slot : Slot) → IsLiveFitSpan c.args.self.now.space (g.M.MemoryObject.object c.args.memory) c.args.offset c.args.size slot
    → IsReturnedWith g.M.MemoryObject.object c.let_chunk_go.new.chunks c.let_chunk_go.new.tiles c.self.inside.spare c.args.self.now.space slot (record { object = g.M.MemoryObject.object c.let_chunk_go.result.0; size = c.let_chunk_go.result.1 })
other g c =
    let all = c.is_whole.ensures.0 c.if-not-is_whole.false in
    returned_with g.M.MemoryObject.object c.self.inside.chunks c.self.inside.tiles c.put_back.new.nodes c.leave.new.nodes c.self.inside.spare c.self.invariant.stored c.args.self.now.space (ap (λ (s : FitStore). s.space) c.self.view_is)
    c.object-object.result (g.M.MemoryObject.object c.args.memory) c.args.offset c.args.size c.object-object.ensures c.in-Some.place c.in-Some.ensures c.put_back.result.1.key c.put_back.result.0
    c.put_back.ensures.back c.put_back.ensures.joint c.put_back.ensures.elsewhere c.put_back.ensures.kept c.leave.ensures.keeps
    all.0 all.1 (record { memory = c.let_chunk_go.result.0; size = c.let_chunk_go.result.1 }) c.let_chunk_go.ensures.row c.in-Some-spare.field-0 c.in-Some-spare.is c.let_chunk_go.new.chunks c.let_chunk_go.new.tiles c.let_chunk_go.ensures.updates c.let_chunk_go.ensures.lives c.let_chunk_go.ensures.elsewhere c.let_chunk_go.ensures.kept

pub invariant_of-self-in-Some-spare : goal.invariant_of-self-in-Some-spare
invariant_of-self-in-Some-spare g c =
    let all = c.is_whole.ensures.0 c.if-not-is_whole.false in
    record {
      stored = (other g c c.requires.live.0 c.requires.live.1).stored;
      filed = c.let_chunk_go.ensures.filed c.leave.new.classes
          (left_free c.put_back.new.nodes c.leave.new.nodes c.put_back.new.classes c.leave.new.classes c.put_back.result.1.key c.put_back.result.1.class c.leave.ensures.keeps c.put_back.ensures.filed c.leave.ensures.files);
      whole_last = gone_last g.M.MemoryObject.object c.self.inside.chunks c.self.inside.tiles c.put_back.new.nodes c.leave.new.nodes c.self.inside.spare c.self.invariant.stored c.args.self.now.space (ap (λ (s : FitStore). s.space) c.self.view_is)
          c.object-object.result (g.M.MemoryObject.object c.args.memory) c.args.offset c.args.size c.object-object.ensures c.in-Some.place c.in-Some.ensures c.put_back.result.1.key c.put_back.result.0
          c.put_back.ensures.back c.put_back.ensures.joint c.put_back.ensures.elsewhere c.put_back.ensures.kept c.leave.ensures.keeps
          all.0 all.1 (record { memory = c.let_chunk_go.result.0; size = c.let_chunk_go.result.1 }) c.let_chunk_go.ensures.row c.in-Some-spare.field-0 c.in-Some-spare.is c.let_chunk_go.new.chunks c.let_chunk_go.new.tiles c.let_chunk_go.ensures.updates c.let_chunk_go.ensures.lives c.let_chunk_go.ensures.elsewhere c.let_chunk_go.ensures.kept
          c.put_back.ensures.ends c.put_back.new.classes c.put_back.result.1.class c.put_back.ensures.filed c.leave.ensures.lasts c.let_chunk_go.ensures.ends c.self.invariant.whole_last;
    }

pub returns-in-Some-spare-clause-back : goal.returns-in-Some-spare-clause-back
returns-in-Some-spare-clause-back g c slot span = ((other g c slot span).goes, ((other g c slot span).held, (other g c slot span).space))

pub returns-in-Some-spare-clause-removed : goal.returns-in-Some-spare-clause-removed
returns-in-Some-spare-clause-removed g c slot span = chunk_removes c.args.self.now.space _ slot slot.chunk span.live (other g c slot span).space

pub returns-in-Some-spare-clause-looks : goal.returns-in-Some-spare-clause-looks
returns-in-Some-spare-clause-looks g c slot span =
    c.put_back.ensures.looks
    ∙ ap (λ n. c.args.looks.now + n) (neighbours_are g.M.MemoryObject.object c.self.inside.chunks c.self.inside.tiles c.self.inside.spare c.self.invariant.stored c.args.self.now.space (ap (λ (s : FitStore). s.space) c.self.view_is)
    c.object-object.result (g.M.MemoryObject.object c.args.memory) c.args.offset c.args.size c.object-object.ensures c.in-Some.place c.in-Some.ensures slot span)
