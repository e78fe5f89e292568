-- A walk in pages is one block by block.
use Rattle.wallthyme.specs.Walk.{keys_in, states_in}
use Rattle.wallthyme.proofs.Walks.{pages_walk}
use Rattle.wallthyme.proofs.laws.a_walk_in_pages_tells_each_block_once.Goals as goal

pub returns-clause-once : goal.returns-clause-once
returns-clause-once c pages last walk key live =
    c.a_walk_meets_each_block_once.ensures.once (states_in pages last) (keys_in pages) (pages_walk 0 pages last walk) key live

pub returns-clause-never : goal.returns-clause-never
returns-clause-never c pages last walk key live =
    c.a_walk_meets_each_block_once.ensures.never (states_in pages last) (keys_in pages) (pages_walk 0 pages last walk) key live
