use Rattle.std.proofs.Common.{arith, refl}
use Rattle.gpu_alloc.proofs.InPages.{pages_large}
use Rattle.gpu_alloc.proofs.request.Request.in_pages.Goals as goal

pub returns-in-None-clause-none : goal.returns-in-None-clause-none
returns-in-None-clause-none c = ((λ none. pages_large c.args.granularity c.requires c.args.self.size (omega (arith, c.in-None.ensures))), λ large. refl)
