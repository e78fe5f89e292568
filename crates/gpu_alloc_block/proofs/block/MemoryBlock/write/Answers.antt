use Rattle.std.proofs.Common.{Ok, length, inr, refl, sym, ◌∙◌}
use Rattle.gpu_alloc_types.specs.Device.{Changes}
use Rattle.gpu_alloc_block.proofs.Between.{asked_around, some_asked, some_bytes, either_way, still_mapped, through, writes_none, changes_some}
use Rattle.gpu_alloc_block.proofs.Changes.{changes_told}
use Rattle.gpu_alloc_block.proofs.Moving.{written_within, partly_written_within, written_between, partly_written_between}
use Rattle.gpu_alloc_block.specs.Bytes.{HasOnlyOtherBytes, IsWrittenThrough, IsPartlyWritten, WritesWithin, AsksToWrite, EndsWrite, putting, flush_fails}
use Rattle.gpu_alloc_block.specs.Ranges.{rounded_range}
use Rattle.gpu_alloc_block.proofs.block.MemoryBlock.write.Given.{Over}
use Rattle.gpu_alloc_block.proofs.block.MemoryBlock.write.Goals as goal

-- what a write that succeeds changes, from before the mapping to after it
changed : (g : Over) (c : goal.In-Ok-answer g) → Changes (IsWrittenThrough c.args.self.now c.args.offset c.args.bytes.now) (g.D.MemoryDevice.objects c.args.device.now) c.args.self.now.object (g.D.MemoryDevice.objects c.close.new.device)
changed g c =
    let b = c.args.self.now in
    through (g.D.MemoryDevice.properties c.args.device.now) b c.args.offset (length c.args.bytes.now) (g.D.MemoryDevice.objects c.args.device.now) c.requires.agrees (sym c.refusal.ensures ∙ c.in_default.is) (g.D.MemoryDevice.objects c.open.new.device) (g.D.MemoryDevice.objects c.put-answer.new.device) (g.D.MemoryDevice.objects c.close.new.device)
    (IsWrittenThrough b c.args.offset c.args.bytes.now) (written_between (rounded_range b c.args.offset (length c.args.bytes.now)) b c.args.offset c.args.bytes.now) (rw (c.in-Ok.is) at c.open.ensures.objects) c.close.ensures.objects (rw (c.in-Ok-answer.is) at c.put-answer.ensures.written)

-- and one whose flush is refused
partly : (g : Over) (c : goal.After-from g) → Changes (IsPartlyWritten c.args.self.now c.args.offset c.args.bytes.now) (g.D.MemoryDevice.objects c.args.device.now) c.args.self.now.object (g.D.MemoryDevice.objects c.close.new.device)
partly g c =
    let b = c.args.self.now in
    through (g.D.MemoryDevice.properties c.args.device.now) b c.args.offset (length c.args.bytes.now) (g.D.MemoryDevice.objects c.args.device.now) c.requires.agrees (sym c.refusal.ensures ∙ c.in_default.is) (g.D.MemoryDevice.objects c.open.new.device) (g.D.MemoryDevice.objects c.put-answer.new.device) (g.D.MemoryDevice.objects c.close.new.device)
    (IsPartlyWritten c.args.self.now c.args.offset c.args.bytes.now) (partly_written_between (rounded_range b c.args.offset (length c.args.bytes.now)) b c.args.offset c.args.bytes.now) (rw (c.in-Ok.is) at c.open.ensures.objects) c.close.ensures.objects (rw (c.in-Err-answer.is) at c.put-answer.ensures.refused)

pub returns-in-Some-clause-within : goal.returns-in-Some-clause-within
returns-in-Some-clause-within g c = writes_none (g.D.MemoryDevice.properties c.args.device.now) c.args.self.now c.args.offset (length c.args.bytes.now) (g.D.MemoryDevice.objects c.args.device.now) c.requires.agrees

pub returns-then-is_empty-clause-within : goal.returns-then-is_empty-clause-within
returns-then-is_empty-clause-within g c = writes_none (g.D.MemoryDevice.properties c.args.device.now) c.args.self.now c.args.offset (length c.args.bytes.now) (g.D.MemoryDevice.objects c.args.device.now) c.requires.agrees

pub close-requires : goal.close-requires
close-requires g c = λ own.
    let b = c.args.self.now in
    let bytes = c.args.bytes.now in
    still_mapped (g.D.MemoryDevice.properties c.open.new.device) b (rounded_range b c.args.offset (length bytes)) (g.D.MemoryDevice.objects c.open.new.device) (g.D.MemoryDevice.objects c.put-answer.new.device) (rw (c.in-Ok.is) at c.open.ensures.ready)
    (either_way (IsWrittenThrough b c.args.offset bytes) (IsPartlyWritten b c.args.offset bytes) HasOnlyOtherBytes (g.D.MemoryDevice.objects c.open.new.device) (g.D.MemoryDevice.objects c.put-answer.new.device) b.object c.put-answer.result (λ o new w. w.rest) (λ o new w. w.rest) c.put-answer.ensures.written c.put-answer.ensures.refused)

pub returns-in-Ok-answer-clause-asked : goal.returns-in-Ok-answer-clause-asked
returns-in-Ok-answer-clause-asked g c =
    let b = c.args.self.now in
    let bytes = c.args.bytes.now in
    let some = some_bytes (length bytes) c.is_empty.result c.is_empty.ensures c.if-is_empty.false in
    asked_around g.D.MemoryDevice.step c.args.device.now c.open.new.device c.put-answer.new.device c.close.new.device b (rounded_range b c.args.offset (length bytes)) (AsksToWrite b c.args.offset bytes) (putting b c.args.offset bytes (Ok tt))
    (sym c.refusal.ensures ∙ c.in_default.is, some_asked (length bytes) _ some) (rw (c.in-Ok.is) at c.open.ensures.asked) (rw (c.in-Ok-answer.is) at c.put-answer.ensures.asked) c.close.ensures.asked

pub returns-in-Ok-answer-clause-written : goal.returns-in-Ok-answer-clause-written
returns-in-Ok-answer-clause-written g c =
    let b = c.args.self.now in
    let bytes = c.args.bytes.now in
    changes_some b (length bytes) (IsWrittenThrough b c.args.offset bytes) (g.D.MemoryDevice.objects c.args.device.now) (g.D.MemoryDevice.objects c.close.new.device) (some_bytes (length bytes) c.is_empty.result c.is_empty.ensures c.if-is_empty.false) (changed g c)

pub returns-in-Ok-answer-clause-within : goal.returns-in-Ok-answer-clause-within
returns-in-Ok-answer-clause-within g c =
    let b = c.args.self.now in
    let bytes = c.args.bytes.now in
    changes_told (g.D.MemoryDevice.objects c.args.device.now) b.object (IsWrittenThrough b c.args.offset bytes) (WritesWithin b c.args.offset (length bytes)) (g.D.MemoryDevice.objects c.close.new.device) (written_within b c.args.offset bytes) (changed g c)

pub returns-in-Err-answer-clause-refused : goal.returns-in-Err-answer-clause-refused
returns-in-Err-answer-clause-refused g c =
    let b = c.args.self.now in
    let bytes = c.args.bytes.now in
    let cause = c.in-Err-answer.cause in
    asked_around g.D.MemoryDevice.step c.args.device.now c.open.new.device c.put-answer.new.device c.close.new.device b (rounded_range b c.args.offset (length bytes)) (EndsWrite b c.args.offset bytes c.from.result (g.D.MemoryDevice.objects c.args.device.now) (g.D.MemoryDevice.objects c.close.new.device)) (flush_fails b c.args.offset bytes cause)
    (inr (record { able = sym c.refusal.ensures ∙ c.in_default.is; non_coherent = rw (c.in-Err-answer.is) at c.put-answer.ensures.cause; cause = cause; like = c.from.ensures; asked = refl }, partly g c))
    (rw (c.in-Ok.is) at c.open.ensures.asked) (rw (c.in-Err-answer.is) at c.put-answer.ensures.asked) c.close.ensures.asked

pub returns-in-Err-answer-clause-within : goal.returns-in-Err-answer-clause-within
returns-in-Err-answer-clause-within g c =
    let b = c.args.self.now in
    let bytes = c.args.bytes.now in
    changes_told (g.D.MemoryDevice.objects c.args.device.now) b.object (IsPartlyWritten b c.args.offset bytes) (WritesWithin b c.args.offset (length bytes)) (g.D.MemoryDevice.objects c.close.new.device) (partly_written_within b c.args.offset bytes) (partly g c)

pub returns-in-Err-clause-within : goal.returns-in-Err-clause-within
returns-in-Err-clause-within g c =
    let same = rw (c.in-Err.is) at c.open.ensures.objects in
    rw same (writes_none (g.D.MemoryDevice.properties c.args.device.now) c.args.self.now c.args.offset (length c.args.bytes.now) (g.D.MemoryDevice.objects c.args.device.now) c.requires.agrees)
