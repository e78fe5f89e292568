use Rattle.std.proofs.Common.{◌≡◌, length}
use Rattle.gpu_alloc.specs.Kept.{IsSameOutside}
use Rattle.gpu_alloc.specs.UnderKeys.{AreAllKept}
use Rattle.gpu_clients.proofs.uses.textures.TextureCache.end.Given as goal

-- what the cache keeps, with the textures that are left

abbrev pub invariant-loop-block : goal.invariant-loop-block
invariant-loop-block g l = record {
  cached : AreAllKept l.allocator (g.D.ObjectDevice.properties l.device) (g.D.ObjectDevice.objects l.device) l.textures.entries;
  outside : IsSameOutside l.fn.self.allocator (g.D.ObjectDevice.objects l.fn.self.device) l.allocator (g.D.ObjectDevice.objects l.device);
  properties : g.D.ObjectDevice.properties l.device ≡ g.D.ObjectDevice.properties l.fn.self.device;
}

abbrev pub decreases-loop-block : goal.decreases-loop-block
decreases-loop-block g l = length l.textures.entries
