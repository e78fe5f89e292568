-- The pairs of a slab as contracts see them.
use Rattle.std.specs.Prelude.{map, option_map}
use Rattle.slab.specs.Slab.{Slab}
use Rattle.gpu_alloc_pairs.specs.Entry.{Entry, entry_of}
use Rattle.gpu_alloc_pairs.specs.declared.pair.Pair.{Pair}

abbrev pub seen : Slab Pair → Slab Entry
seen pairs = record {
  slots = map (option_map entry_of) pairs.slots;
  vacant_key = pairs.vacant_key;
  capacity = pairs.capacity;
}
