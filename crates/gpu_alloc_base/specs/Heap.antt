-- A heap with its ledger.
use Rattle.std.specs.Prelude.{ℕ}
use Rattle.gpu_alloc_base.specs.declared.heap.Heap.{Heap}

-- nothing is held of it, and all of it may be asked for
abbrev pub unused : ℕ → Heap
unused size = record { size = size; limit = size; used = 0 }
