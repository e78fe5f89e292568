use Rattle.std.proofs.Common.{◌∙◌, ◌+◌, ap, refl, sym}
use Rattle.slab.specs.Slab.{slab_len}
use Rattle.gpu_alloc_pairs.proofs.Changes.{pair_is_added}
use Rattle.gpu_alloc_pairs.proofs.Links.{linked_at}
use Rattle.gpu_alloc_pairs.proofs.Seen.{len_seen}
use Rattle.gpu_alloc_pairs.proofs.Uses.{right_is_free}
use Rattle.gpu_alloc_pairs.proofs.length.Length.add.Goals as goal

pub invariant_of-self : goal.invariant_of-self
invariant_of-self g c =
    linked_at c.link-state.new.pairs c.insert_reserved.new.self c.vacant_key-key.result c.insert_reserved.result _
    c.link-state.result _ c.link-state.ensures.linked
    (c.insert_reserved.ensures.key ∙ c.link-state.ensures.keeps.vacant_key ∙ sym c.vacant_key-key.ensures.value)
    c.insert_reserved.ensures.updates refl

pub returns-clause-updates : goal.returns-clause-updates
returns-clause-updates g c =
    pair_is_added c.self.inside.pairs c.link-state.new.pairs c.insert_reserved.new.self c.args.self.now
    c.insert_reserved.result _ _ c.self.view_is c.link-state.ensures.keeps c.insert_reserved.ensures.updates
    (right_is_free c.args.chunk c.args.offset c.args.parent c.args.divided _ c.link-state.result
    c.link-state.ensures.free)

pub returns-clause-len : goal.returns-clause-len
returns-clause-len g c =
    len_seen c.insert_reserved.new.self ∙ c.insert_reserved.ensures.len
    ∙ ap (λ n. n + 1)
    (c.link-state.ensures.keeps.len ∙ sym (len_seen c.self.inside.pairs) ∙ ap slab_len c.self.view_is)
