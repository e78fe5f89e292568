use Rattle.std.proofs.Common.{refl, sym, ◌∙◌, ap}
use Rattle.std.specs.FinMap as map
use Rattle.gpu_clients.proofs.Managed.{gone}
use Rattle.gpu_clients.proofs.resources.ResourceManager.end.Goals as goal

pub loop-block-init : goal.loop-block-init
loop-block-init g c =
    rw (c.into_values-blocks.ensures, ← c.self.view_is) (record { managed = c.self.invariant; outside = λ name. refl; properties = refl })

pub dealloc-requires-clause-owned : goal.dealloc-requires-clause-owned
dealloc-requires-clause-owned g c = c.loop-block.invariant.managed.kept.owned _ _ c.in-Some.ensures.taken.1.taken

pub loop-block-preserved : goal.loop-block-preserved
loop-block-preserved g c =
    let back = c.dealloc.ensures in
    record {
      managed = gone c.loop-block.invariant.managed back.agrees c.in-Some.ensures.taken.1 back.in_hand back.removed;
      outside = λ name. back.in_hand.outside name ∙ c.loop-block.invariant.outside name;
      properties = back.properties ∙ c.loop-block.invariant.properties;
    }

pub close-requires-clause-none : goal.close-requires-clause-none
close-requires-clause-none g c =
    c.loop-block.invariant.managed.count ∙ ap map.len (sym (c.in_default.ensures.stays refl)) ∙ c.in_default.ensures.ended refl

pub returns-clause-beside : goal.returns-clause-beside
returns-clause-beside g c = λ name. c.close.ensures.beside name ∙ c.loop-block.invariant.outside name
