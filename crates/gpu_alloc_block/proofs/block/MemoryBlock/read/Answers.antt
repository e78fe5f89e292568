use Rattle.std.proofs.Common.{◌≡◌, ◌<◌, Ok, [], ◌∷◌, length, inr, refl, sym, ◌∙◌, subst}
use Rattle.gpu_alloc_types.specs.Device.{Changes, Asked}
use Rattle.gpu_alloc_types.specs.Device.Event.{Mapped}
use Rattle.gpu_alloc_block.proofs.Between.{asked_around, some_asked, not_none, either_way, still_mapped, through, reads_none, changes_some}
use Rattle.gpu_alloc_block.proofs.Changes.{changes_told}
use Rattle.gpu_alloc_block.proofs.Moving.{read_within, partly_read_within, read_between, partly_read_between}
use Rattle.gpu_alloc_block.specs.Bytes.{HasOnlyOtherBytes, IsReadThrough, IsPartlyRead, ReadsWithin, AsksToRead, EndsRead, getting, invalidate_fails}
use Rattle.gpu_alloc_block.specs.Mapped.{of_own}
use Rattle.gpu_alloc_block.specs.Ranges.{rounded_range}
use Rattle.gpu_alloc_block.proofs.block.MemoryBlock.read.Given.{Over}
use Rattle.gpu_alloc_block.proofs.block.MemoryBlock.read.Goals as goal

-- what a read that succeeds changes, from before the mapping to after it
changed : (g : Over) (c : goal.In-Ok-answer g) → Changes (IsReadThrough c.args.self.now c.args.offset c.get-answer.new.bytes) (g.D.MemoryDevice.objects c.args.device.now) c.args.self.now.object (g.D.MemoryDevice.objects c.close.new.device)
changed g c =
    let b = c.args.self.now in
    through (g.D.MemoryDevice.properties c.args.device.now) b c.args.offset (length c.args.bytes.now) (g.D.MemoryDevice.objects c.args.device.now) c.requires.agrees (sym c.refusal.ensures ∙ c.in_default.is) (g.D.MemoryDevice.objects c.open.new.device) (g.D.MemoryDevice.objects c.get-answer.new.device) (g.D.MemoryDevice.objects c.close.new.device)
    (IsReadThrough b c.args.offset c.get-answer.new.bytes) (read_between (rounded_range b c.args.offset (length c.args.bytes.now)) b c.args.offset c.get-answer.new.bytes) (rw (c.in-Ok.is) at c.open.ensures.objects) c.close.ensures.objects (rw (c.in-Ok-answer.is) at c.get-answer.ensures.read)

-- and one whose invalidate is refused
partly : (g : Over) (c : goal.After-from g) → Changes (IsPartlyRead (rounded_range c.args.self.now c.args.offset (length c.args.bytes.now))) (g.D.MemoryDevice.objects c.args.device.now) c.args.self.now.object (g.D.MemoryDevice.objects c.close.new.device)
partly g c =
    let b = c.args.self.now in
    through (g.D.MemoryDevice.properties c.args.device.now) b c.args.offset (length c.args.bytes.now) (g.D.MemoryDevice.objects c.args.device.now) c.requires.agrees (sym c.refusal.ensures ∙ c.in_default.is) (g.D.MemoryDevice.objects c.open.new.device) (g.D.MemoryDevice.objects c.get-answer.new.device) (g.D.MemoryDevice.objects c.close.new.device)
    (IsPartlyRead (rounded_range c.args.self.now c.args.offset (length c.args.bytes.now))) (partly_read_between (rounded_range b c.args.offset (length c.args.bytes.now)) b c.args.offset c.get-answer.new.bytes) (rw (c.in-Ok.is) at c.open.ensures.objects) c.close.ensures.objects (rw (c.in-Err-answer.is) at c.get-answer.ensures.refused)

pub returns-in-Some-clause-within : goal.returns-in-Some-clause-within
returns-in-Some-clause-within g c = reads_none (g.D.MemoryDevice.properties c.args.device.now) c.args.self.now c.args.offset (length c.args.bytes.now) (g.D.MemoryDevice.objects c.args.device.now) c.requires.agrees

pub returns-then-len-eq0-clause-within : goal.returns-then-len-eq0-clause-within
returns-then-len-eq0-clause-within g c = reads_none (g.D.MemoryDevice.properties c.args.device.now) c.args.self.now c.args.offset (length c.args.bytes.now) (g.D.MemoryDevice.objects c.args.device.now) c.requires.agrees

pub close-requires : goal.close-requires
close-requires g c = λ own.
    let b = c.args.self.now in
    let r = rounded_range b c.args.offset (length c.args.bytes.now) in
    still_mapped (g.D.MemoryDevice.properties c.open.new.device) b r (g.D.MemoryDevice.objects c.open.new.device) (g.D.MemoryDevice.objects c.get-answer.new.device) (rw (c.in-Ok.is) at c.open.ensures.ready)
    (either_way (IsReadThrough b c.args.offset c.get-answer.new.bytes) (IsPartlyRead r) HasOnlyOtherBytes (g.D.MemoryDevice.objects c.open.new.device) (g.D.MemoryDevice.objects c.get-answer.new.device) b.object c.get-answer.result (λ o new w. w.rest) (λ o new w. w.rest) c.get-answer.ensures.read c.get-answer.ensures.refused)

pub returns-in-Ok-answer-clause-asked : goal.returns-in-Ok-answer-clause-asked
returns-in-Ok-answer-clause-asked g c =
    let b = c.args.self.now in
    let bytes = c.get-answer.new.bytes in
    let long : length bytes ≡ length c.args.bytes.now = c.get-answer.auto.bytes in
    let some : 0 < length bytes = rw long (not_none (length c.args.bytes.now) c.if-len-eq0.false) in
    let first = subst (λ n. Asked g.D.MemoryDevice.step c.args.device.now c.open.new.device (λ es. es ≡ of_own b (Mapped (rounded_range b c.args.offset n) (Ok tt) ∷ []))) (sym long) (rw (c.in-Ok.is) at c.open.ensures.asked) in
    asked_around g.D.MemoryDevice.step c.args.device.now c.open.new.device c.get-answer.new.device c.close.new.device b (rounded_range b c.args.offset (length bytes)) (AsksToRead b c.args.offset bytes) (getting b c.args.offset bytes)
    (sym c.refusal.ensures ∙ c.in_default.is, some_asked (length bytes) _ some) first (rw (c.in-Ok-answer.is) at c.get-answer.ensures.asked) c.close.ensures.asked

pub returns-in-Ok-answer-clause-read : goal.returns-in-Ok-answer-clause-read
returns-in-Ok-answer-clause-read g c =
    changes_some c.args.self.now (length c.args.bytes.now) (IsReadThrough c.args.self.now c.args.offset c.get-answer.new.bytes) (g.D.MemoryDevice.objects c.args.device.now) (g.D.MemoryDevice.objects c.close.new.device) (not_none (length c.args.bytes.now) c.if-len-eq0.false) (changed g c)

pub returns-in-Ok-answer-clause-within : goal.returns-in-Ok-answer-clause-within
returns-in-Ok-answer-clause-within g c =
    let b = c.args.self.now in
    subst (λ n. Changes (ReadsWithin b c.args.offset n) (g.D.MemoryDevice.objects c.args.device.now) b.object (g.D.MemoryDevice.objects c.close.new.device)) c.get-answer.auto.bytes
    (changes_told (g.D.MemoryDevice.objects c.args.device.now) b.object (IsReadThrough b c.args.offset c.get-answer.new.bytes) (ReadsWithin b c.args.offset (length c.get-answer.new.bytes)) (g.D.MemoryDevice.objects c.close.new.device) (read_within b c.args.offset c.get-answer.new.bytes) (changed g c))

pub returns-in-Err-answer-clause-refused : goal.returns-in-Err-answer-clause-refused
returns-in-Err-answer-clause-refused g c =
    let b = c.args.self.now in
    let r = rounded_range b c.args.offset (length c.args.bytes.now) in
    let cause = c.in-Err-answer.cause in
    asked_around g.D.MemoryDevice.step c.args.device.now c.open.new.device c.get-answer.new.device c.close.new.device b r (EndsRead b c.args.offset (length c.args.bytes.now) c.from.result (g.D.MemoryDevice.objects c.args.device.now) (g.D.MemoryDevice.objects c.close.new.device)) (invalidate_fails r cause)
    (inr (record { able = sym c.refusal.ensures ∙ c.in_default.is; non_coherent = rw (c.in-Err-answer.is) at c.get-answer.ensures.cause; cause = cause; like = c.from.ensures; asked = refl }, partly g c))
    (rw (c.in-Ok.is) at c.open.ensures.asked) (rw (c.in-Err-answer.is) at c.get-answer.ensures.failed) c.close.ensures.asked

pub returns-in-Err-answer-clause-within : goal.returns-in-Err-answer-clause-within
returns-in-Err-answer-clause-within g c =
    let b = c.args.self.now in
    let len = length c.args.bytes.now in
    changes_told (g.D.MemoryDevice.objects c.args.device.now) b.object (IsPartlyRead (rounded_range b c.args.offset len)) (ReadsWithin b c.args.offset len) (g.D.MemoryDevice.objects c.close.new.device) (partly_read_within b c.args.offset len) (partly g c)

pub returns-in-Err-clause-within : goal.returns-in-Err-clause-within
returns-in-Err-clause-within g c =
    let same = rw (c.in-Err.is) at c.open.ensures.objects in
    rw same (reads_none (g.D.MemoryDevice.properties c.args.device.now) c.args.self.now c.args.offset (length c.args.bytes.now) (g.D.MemoryDevice.objects c.args.device.now) c.requires.agrees)
