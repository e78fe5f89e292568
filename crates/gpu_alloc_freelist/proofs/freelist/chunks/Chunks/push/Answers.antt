use Rattle.std.proofs.Common.{◌<◌}
use Rattle.std.specs.List.{Contains}
use Rattle.gpu_alloc_base.proofs.SlabViews.{IsInserted}
use Rattle.gpu_alloc_freelist.specs.declared.freelist.chunks.NumberedChunk.{NumberedChunk}
use Rattle.gpu_alloc_freelist.specs.declared.freelist.chunks.NumberedKey.{NumberedKey}
use Rattle.gpu_alloc_freelist.proofs.FiledChanges.{filed_pushed, held_pushed}
use Rattle.gpu_alloc_freelist.proofs.FiledRows.{above_listed}
use Rattle.gpu_alloc_freelist.proofs.freelist.chunks.Chunks.push.Given.{Over}
use Rattle.gpu_alloc_freelist.proofs.freelist.chunks.Chunks.push.Goals as goal

abbrev row : (g : Over) → goal.After-push_reserved g → NumberedChunk g.row.M.Denot
row g c = record { number = c.args.number; memory = c.args.memory; size = c.args.size }

inserted : (g : Over) (c : goal.After-push_reserved g) → IsInserted c.self.inside.rows c.insert_reserved-key.new.self c.insert_reserved-key.result (row g c)
inserted g c = record { was_vacant = c.insert_reserved-key.ensures.was_vacant; updates = c.insert_reserved-key.ensures.updates }

above : (g : Over) (c : goal.After-push_reserved g) (n : NumberedKey) → Contains c.self.inside.numbers.items n → n.number < c.args.number
above g c = above_listed g.M.MemoryObject.object c.self.inside.rows c.self.inside.numbers.items c.self.invariant c.args.number (rw (← c.self.view_is) at c.requires.greater)

pub invariant_of-self : goal.invariant_of-self
invariant_of-self g c = rw c.push_reserved.ensures.items (filed_pushed _ _ _ _ (row g c) c.self.invariant (above g c) (inserted g c))

pub returns-clause-held : goal.returns-clause-held
returns-clause-held g c = rw (← c.self.view_is) (held_pushed _ _ _ _ (row g c) c.self.invariant (above g c) (inserted g c) g.M.MemoryObject.object)
