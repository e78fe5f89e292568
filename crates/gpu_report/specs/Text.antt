-- The text of a report of a living program, as JSON, with one row per line.
use Rattle.std.specs.Prelude.{ℕ, zero, suc, List, [], ◌∷◌, ◌++◌, codes, decimal, Option, Some, None}
use Rattle.std.specs.List.{flat_map}
use Rattle.gpu_alloc_types.specs.Flags.{property_bits}
use Rattle.gpu_alloc_types.specs.declared.types.MemoryType.{MemoryType}
use Rattle.gpu_report.specs.declared.report.HeapReport.{HeapReport}
use Rattle.gpu_report.specs.declared.report.KindReport.{KindReport}
use Rattle.gpu_report.specs.declared.report.ObjectKind.{ObjectKind}
use Rattle.gpu_report.specs.declared.report.ObjectKind.TheVariants.{Dedicated, Imported, BuddyChunk, FreeListChunk, FitChunk}
use Rattle.gpu_report.specs.declared.report.ObjectReport.{ObjectReport}
use Rattle.gpu_report.specs.declared.report.Place.{Place}
use Rattle.gpu_report.specs.declared.report.Report.{Report}

-- a number after the words that name it
abbrev pub member : List ℕ → ℕ → List ℕ
member words number = words ++ decimal number

abbrev pub heap_text : HeapReport → List ℕ
heap_text h =
    member (codes "{\"size\":") h.size ++ member (codes ",\"limit\":") h.limit ++ member (codes ",\"used\":") h.used
    ++ member (codes ",\"budget\":") h.budget ++ codes "}"

abbrev pub type_text : MemoryType → List ℕ
type_text t =
    member (codes "{\"heap\":") t.heap ++ member (codes ",\"properties\":") (property_bits t.props) ++ codes "}"

abbrev pub kind_words : ObjectKind → List ℕ
kind_words Dedicated = codes "Dedicated"
kind_words Imported = codes "Imported"
kind_words BuddyChunk = codes "BuddyChunk"
kind_words FreeListChunk = codes "FreeListChunk"
kind_words FitChunk = codes "FitChunk"

-- a memory type, and what objects of it are held for
abbrev pub part_text : ℕ → ObjectKind → List ℕ
part_text memory_type kind =
    member (codes "\"memory_type\":") memory_type ++ codes ",\"kind\":\"" ++ kind_words kind ++ codes "\""

abbrev pub kind_text : KindReport → List ℕ
kind_text k =
    codes "{" ++ part_text k.memory_type k.kind ++ member (codes ",\"objects\":") k.objects
    ++ member (codes ",\"live_blocks\":") k.live_blocks ++ member (codes ",\"live_bytes\":") k.live_bytes
    ++ member (codes ",\"asked_bytes\":") k.asked_bytes ++ member (codes ",\"free_bytes\":") k.free_bytes
    ++ member (codes ",\"largest_free\":") k.largest_free ++ member (codes ",\"scattered\":") k.scattered ++ codes "}"

-- a block's key, its caller's own value and how many bytes were asked for; null for free bytes
abbrev pub key_text : (users : ℕ → ℕ) → Option ℕ → (asked : ℕ) → List ℕ
key_text users None asked = codes "{\"key\":null,\"user\":null,\"asked\":null"
key_text users (Some key) asked =
    member (codes "{\"key\":") key ++ member (codes ",\"user\":") (users key) ++ member (codes ",\"asked\":") asked

abbrev pub place_text : (users : ℕ → ℕ) → Place → List ℕ
place_text users p =
    key_text users p.block p.asked ++ member (codes ",\"offset\":") p.offset ++ member (codes ",\"size\":") p.size
    ++ codes "}"

-- what begins a row after n others
abbrev pub lead : ℕ → List ℕ
lead zero = codes "\n"
lead (suc count) = codes ",\n"

-- each on a line of its own, with commas between
abbrev pub rows : {X : Type 0} → (X → List ℕ) → List X → List ℕ
rows f [] = []
rows f (x ∷ xs) = lead 0 ++ f x ++ flat_map (λ y. lead 1 ++ f y) xs

abbrev pub object_text : (users : ℕ → ℕ) → ObjectReport → List ℕ
object_text users o =
    member (codes "{\"object\":") o.object ++ codes "," ++ part_text o.memory_type o.kind
    ++ member (codes ",\"size\":") o.size ++ codes ",\"places\":[" ++ rows (place_text users) o.places.items
    ++ codes "\n]}"

-- The text of a report: the heaps, the memory types, what is held by type and kind, and the objects. `users` are the
-- caller's own values of the blocks, by key.
abbrev pub report_text : (users : ℕ → ℕ) → List MemoryType → Report → List ℕ
report_text users types r =
    codes "{\"heaps\":[" ++ rows heap_text r.heaps.items ++ codes "\n],\"types\":[" ++ rows type_text types
    ++ codes "\n],\"kinds\":[" ++ rows kind_text r.kinds.items
    ++ codes "\n],\"objects\":[" ++ rows (object_text users) r.objects.items ++ codes "\n]}\n"
