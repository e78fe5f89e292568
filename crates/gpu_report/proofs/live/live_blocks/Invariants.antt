use Rattle.std.proofs.Common.{◌≡◌, map, take, Contains, All}
use Rattle.gpu_alloc.specs.Spans.{span_in}
use Rattle.gpu_report.specs.Live.{live_block_span}
use Rattle.gpu_report.proofs.live.live_blocks.Given as goal

-- a block for each span so far
abbrev pub invariant-loop-span : goal.invariant-loop-span
invariant-loop-span g l = record {
  told : map live_block_span l.live.items ≡ map span_in (take l.span-index l.span-items);
  given : All (Contains l.blocks) l.live.items;
}
