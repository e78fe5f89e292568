use Rattle.gpu_clients.proofs.uses.textures.TextureCache.load.Goals as goal

pub returns-clause-loaded : goal.returns-clause-loaded
returns-clause-loaded g c none = (c.loop-refusal.self.allocator, c.loop-refusal.invariant.0, c.in_default.ensures.granted c.loop-refusal.invariant.1)
