use Rattle.gpu_alloc_fit.specs.FitRule.{fit_ask}
use Rattle.gpu_alloc_fit.specs.Fit.{chunk_size}
use Rattle.gpu_alloc_fit.proofs.FitLooks.{looks_so}
use Rattle.gpu_alloc_fit.proofs.chunks.FitChunks.alloc.Goals as goal

pub returns-clause-looks : goal.returns-clause-looks
returns-clause-looks g c =
    let f = c.args.self.now.state in
    let ask = fit_ask f c.args.size c.args.align_mask in
    looks_so f ask c.args.looks.now c.alloc.new.looks (chunk_size f ask.size) _ _ c.alloc.result c.alloc.ensures.steps
