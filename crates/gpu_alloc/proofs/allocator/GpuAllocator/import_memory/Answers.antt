use Rattle.gpu_alloc.proofs.Imports.{answer_adds, answer_agrees, answer_in_hand, answer_leaves, answer_total}
use Rattle.gpu_alloc.proofs.allocator.GpuAllocator.import_memory.Goals as goal

pub returns-clause-agrees : goal.returns-clause-agrees
returns-clause-agrees g c = answer_agrees c.args.self.now _ _ _ _ _ c.requires.unheld _ c.take_over-answer.ensures.imported c.keeps_sound.ensures.sound

pub returns-clause-added : goal.returns-clause-added
returns-clause-added g c = answer_adds c.args.self.now _ _ _ _ _ c.requires.unheld _ c.take_over-answer.ensures.imported c.keeps_sound.ensures.sound c.keeps_sound-2.ensures.sound

pub returns-clause-leaves : goal.returns-clause-leaves
returns-clause-leaves g c = answer_leaves c.args.self.now _ _ _ _ _ c.requires.unheld _ c.take_over-answer.ensures.imported c.take_over-answer.ensures.refused

pub returns-clause-total : goal.returns-clause-total
returns-clause-total g c = answer_total c.args.self.now _ _ _ _ _ c.requires.unheld _ c.take_over-answer.ensures.imported c.take_over-answer.ensures.refused c.requires.remains

pub returns-clause-in_hand : goal.returns-clause-in_hand
returns-clause-in_hand g c = answer_in_hand c.args.self.now _ _ _ _ _ c.requires.unheld _ c.take_over-answer.ensures.imported (returns-clause-agrees g c) (returns-clause-added g c) (returns-clause-leaves g c)
