use Rattle.gpu_alloc_block.proofs.laws.these_bytes_may_be_moved.Goals as goal

pub returns : goal.returns
returns g c = c.bytes_of_a_mapping_may_be_moved.ensures.inside _ _ c.args.mapping c.args.place c.args.len c.requires.agrees c.requires.mapped c.requires.some c.requires.from c.requires.to
