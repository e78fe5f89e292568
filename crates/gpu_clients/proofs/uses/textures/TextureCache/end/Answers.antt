use Rattle.std.proofs.Common.{refl, ◌∙◌}
use Rattle.gpu_alloc.proofs.UnderKeys.{goes, owned}
use Rattle.gpu_clients.proofs.uses.textures.TextureCache.end.Goals as goal

pub loop-block-init : goal.loop-block-init
loop-block-init g c = rw (← c.self.view_is) (record { cached = c.self.invariant; outside = λ name. refl; properties = refl })

pub dealloc-requires-clause-owned : goal.dealloc-requires-clause-owned
dealloc-requires-clause-owned g c = owned c.loop-block.invariant.cached c.in-Some.ensures.taken

pub loop-block-preserved : goal.loop-block-preserved
loop-block-preserved g c =
    let back = c.dealloc.ensures in
    record {
      cached = goes c.loop-block.invariant.cached back.agrees c.in-Some.ensures.taken back.in_hand back.removed;
      outside = λ name. back.in_hand.outside name ∙ c.loop-block.invariant.outside name;
      properties = back.properties ∙ c.loop-block.invariant.properties;
    }

pub returns-clause-beside : goal.returns-clause-beside
returns-clause-beside g c = λ name. c.close.ensures.beside name ∙ c.loop-block.invariant.outside name

-- search finds this and the next too; with a line a wrong body is refused sooner
pub destroy_empty-requires : goal.destroy_empty-requires
destroy_empty-requires g c = c.in_default.ensures.empty

pub close-requires-clause-none : goal.close-requires-clause-none
close-requires-clause-none g c = c.loop-block.invariant.cached.count ∙ c.in_default.ensures.none
