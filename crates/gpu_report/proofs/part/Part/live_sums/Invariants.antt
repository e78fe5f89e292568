use Rattle.std.proofs.Common.{◌≡◌, ◌≤◌, ◌*◌, ◌^◌, length, map, take}
use Rattle.std.specs.List.{sum}
use Rattle.gpu_alloc.specs.Spans.{held_entry_of}
use Rattle.gpu_report.specs.Live.{asked_sizes, live_sizes}
use Rattle.gpu_report.proofs.part.Part.live_sums.Given as goal

abbrev pub invariant-loop-block : goal.invariant-loop-block
invariant-loop-block l = record {
  blocks : l.blocks ≡ length (live_sizes (map held_entry_of l.held) l.self (take l.block-index l.live));
  bytes : l.bytes ≡ sum (live_sizes (map held_entry_of l.held) l.self (take l.block-index l.live));
  asked : l.asked ≡ sum (asked_sizes (map held_entry_of l.held) l.self (take l.block-index l.live));
  few : l.blocks ≤ l.block-index;
  most : l.bytes ≤ l.block-index * 2 ^ 64;
  more : l.asked ≤ l.block-index * 2 ^ 64;
}
