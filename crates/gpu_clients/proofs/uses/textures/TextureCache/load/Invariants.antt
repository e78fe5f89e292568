use Rattle.std.proofs.Common.{◌≡◌, None, length}
use Rattle.gpu_clients.specs.Textures.{texture_at}
use Rattle.gpu_clients.proofs.uses.textures.TextureCache.load.Given as goal

abbrev pub invariant-loop-refusal : goal.invariant-loop-refusal
invariant-loop-refusal g l = (l.self.allocator.properties ≡ l.fn.self.allocator.properties) × (texture_at l.self l.key ≡ None)

abbrev pub decreases-loop-refusal : goal.decreases-loop-refusal
decreases-loop-refusal g l = length l.self.textures
