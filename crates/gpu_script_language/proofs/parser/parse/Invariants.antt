use Rattle.std.proofs.Common.{length}
use Rattle.gpu_script_language.proofs.parser.parse.Given as goal

abbrev pub decreases-loop-line : goal.decreases-loop-line
decreases-loop-line g l = length l.lines.rest.now
