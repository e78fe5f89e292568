-- What a seal owns: the same as a box of its desk, if it has one, and otherwise nothing.
use base.Fml.{Fml, ftrue}
use base.Stored.{Coded}
use denote.RawPtr.{Ptr}
use Rattle.std.specs.Prelude.{Option, None, Some}
use Rattle.std.specs.Coded.{coded_option}
use Rattle.std.specs.Box.Ownership.{box_owns}
use Rattle.std.specs.Global.{Global}
use Rattle.std_heap.specs.contracts.GlobalAllocator.TheImpl.{ghosts}
use Rattle.wallthyme.specs.contracts.kept.KeptDesk.{the_row}

abbrev pub seal_owns : Global → Ptr → Option the_row.Denot → Fml
seal_owns alloc ptr None = ftrue
seal_owns alloc ptr (Some desk) = box_owns (ghosts.dealloc_token alloc) the_row ptr desk

abbrev pub sealed_code : Coded (Option the_row.Denot)
sealed_code = coded_option the_row.coded
