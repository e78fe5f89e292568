use Rattle.std.proofs.Common.{◌∙◌}
use Rattle.gpu_alloc_runs.specs.Inside.{chunk_size_in}
use Rattle.gpu_alloc_runs.proofs.Joins.{freed, freed_elsewhere, freed_filed, freed_others}
use Rattle.gpu_alloc_runs.proofs.join.put_back.Goals as goal

pub join_before-joint-requires-clause-beside : goal.join_before-joint-requires-clause-beside
join_before-joint-requires-clause-beside g c = freed (chunk_size_in c.args.chunks.now) c.args.nodes.now c.set_free.new.nodes c.args.place.key c.args.place.node c.requires.kept c.requires.at c.set_free.ensures.updates

pub returns-clause-back : goal.returns-clause-back
returns-clause-back g c =
    let back = freed_others (chunk_size_in c.args.chunks.now) c.args.nodes.now c.set_free.new.nodes c.args.place.key c.args.place.node c.requires.kept c.requires.at c.set_free.ensures.updates in
    let first = c.join_before-joint.ensures.lives in
    let second = c.join_after-tile.ensures.lives in record {
      stays = λ k a live ne. second.stays k a (first.stays k a (back.stays k a live ne));
      was = λ k a live. back.was k a (first.was k a (second.was k a live));
    }

pub returns-clause-elsewhere : goal.returns-clause-elsewhere
returns-clause-elsewhere g c k b is other =
    let first = freed_elsewhere (chunk_size_in c.args.chunks.now) c.args.nodes.now c.set_free.new.nodes c.args.place.key c.args.place.node c.requires.kept c.requires.at c.set_free.ensures.updates k b is other in
    let second = c.join_before-joint.ensures.elsewhere k b first other in
    let joint = c.join_before-joint.ensures.joint in
    c.join_after-tile.ensures.elsewhere joint.0 joint.1.at k b second (λ e. other (e ∙ joint.1.chunk_is))

pub returns-clause-filed : goal.returns-clause-filed
returns-clause-filed g c =
    let freed = freed_filed (chunk_size_in c.args.chunks.now) c.args.nodes.now c.set_free.new.nodes c.args.place.key c.args.place.node c.requires.kept c.requires.at c.set_free.ensures.updates c.requires.live c.args.classes.now c.set_free.ensures.lists c.requires.filed in
    c.join_after-tile.ensures.filed c.join_before-joint.result.class (c.join_before-joint.ensures.filed c.args.classes.now freed)

pub returns-clause-ends : goal.returns-clause-ends
returns-clause-ends g c k b is other none =
    let freed = freed_filed (chunk_size_in c.args.chunks.now) c.args.nodes.now c.set_free.new.nodes c.args.place.key c.args.place.node c.requires.kept c.requires.at c.set_free.ensures.updates c.requires.live c.args.classes.now c.set_free.ensures.lists c.requires.filed in
    let first = freed_elsewhere (chunk_size_in c.args.chunks.now) c.args.nodes.now c.set_free.new.nodes c.args.place.key c.args.place.node c.requires.kept c.requires.at c.set_free.ensures.updates k b is other in
    let second = c.join_before-joint.ensures.elsewhere k b first other in
    let joint = c.join_before-joint.ensures.joint in
    c.join_after-tile.ensures.ends c.join_before-joint.result.class (c.join_before-joint.ensures.filed c.args.classes.now freed) joint.0 joint.1.at k b second (λ e. other (e ∙ joint.1.chunk_is))
    (c.join_before-joint.ensures.ends k b first other (c.set_free.ensures.lists.down k ∙ none))
