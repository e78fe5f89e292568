use Rattle.gpu_clients.proofs.uses.textures.TextureCache.new.Goals as goal

-- search finds it too; with a line a wrong body is refused sooner
pub agrees_at_first-requires : goal.agrees_at_first-requires
agrees_at_first-requires g c = rw c.requires.same c.in-Ok.ensures.empty
