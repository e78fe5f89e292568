use Rattle.gpu_alloc.specs.Importing.{ImportAgrees}
use Rattle.gpu_alloc.proofs.laws.imports_agree.Goals as goal

pub returns : goal.returns
unfolding ImportAgrees
returns c = record {
  allocator = λ s new b object t offset size p objects is agrees held. (is p objects agrees held).0;
  block = λ s new b object t offset size p objects is agrees held. (is p objects agrees held).1;
}
