use Rattle.std.proofs.Common.{◌≡◌}
use Rattle.std.specs.FinMap as map
use Rattle.gpu_alloc.specs.Kept.{IsSameOutside}
use Rattle.gpu_clients.specs.Resources.{IsManaged}
use Rattle.gpu_clients.proofs.resources.ResourceManager.end.Given as goal

abbrev pub invariant-loop-block : goal.invariant-loop-block
invariant-loop-block g l = record {
  managed : IsManaged l.allocator (g.D.ObjectDevice.properties l.device) (g.D.ObjectDevice.objects l.device) l.blocks
      l.fn.self.granularity;
  outside : IsSameOutside l.fn.self.allocator (g.D.ObjectDevice.objects l.fn.self.device) l.allocator (g.D.ObjectDevice.objects l.device);
  properties : g.D.ObjectDevice.properties l.device ≡ g.D.ObjectDevice.properties l.fn.self.device;
}

abbrev pub decreases-loop-block : goal.decreases-loop-block
decreases-loop-block g l = map.len l.blocks
