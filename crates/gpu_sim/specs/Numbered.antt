-- What values under numbers become when a `&mut` to one of them is returned.
use Rattle.std.specs.Prelude.{ℕ, Option}
use Rattle.std.specs.Borrow.{LendsIf, Fml, RattleType, MutBor}
use Rattle.std.specs.FinMap as map
use Rattle.std.specs.FinMap.{FinMap}
use Rattle.std.specs.Ordering.{nat_cmp}
use Rattle.std.specs.declared.alloc.Allocator.{Ghosts}
use Rattle.gpu_sim.specs.contracts.sim.numbered.Numbered.{the_row}

module _ (V A : RattleType) (alloc : Ghosts A.Denot) (numbered : MutBor (FinMap nat_cmp V.Denot)) where
  -- the number has the last value written through r; at `None` the values are unchanged
  abbrev pub lends_numbered : ℕ → Option (MutBor V.Denot) → Fml
  lends_numbered number r = LendsIf (the_row V A alloc) V numbered r (map.insert numbered.now number) numbered.now
