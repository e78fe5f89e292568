use Rattle.std.proofs.Common.{◌∙◌, ap, sym}
use Rattle.std.proofs.lemmas.Slice.Zip.{either_empty_from_Zip}
use Rattle.gpu_session.specs.Written.{Seen}
use Rattle.gpu_session.proofs.Seen.{along_end}
use Rattle.gpu_session.proofs.written.values_of.Goals as goal

pub returns : goal.returns
returns g c =
    let ended = either_empty_from_Zip c.loop-command.command-iterator c.next.new.self c.next.result c.in-None.is c.next.ensures.steps in
    let all = sym (along_end c.args.name c.args.byte _ _ c.loop-command.known ended) ∙ c.loop-command.invariant in
    ap (λ (s : Seen). s.values) (c.known-2.view_is ∙ all)
