-- Where the ranges of a strip lie.
use Rattle.std.specs.Prelude.{ℕ, ◌+◌, ◌*◌, ◌-◌}
use Rattle.gpu_report.specs.OnLine.{on_line}
use Rattle.gpu_report.specs.declared.strips.Strip.{Strip}
use Rattle.gpu_report.specs.declared.strips.TheConstants.{LEAST}

-- each range before it has the least length, and the rest of the strip is to scale
abbrev pub edge_of : Strip → ℕ → ℕ → ℕ
edge_of strip index offset = index * LEAST + on_line offset strip.size (strip.length - LEAST * strip.count)
