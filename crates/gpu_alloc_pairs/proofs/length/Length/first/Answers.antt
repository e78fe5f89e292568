use Rattle.std.proofs.Common.{IfNone, refl, subst, sym, ℕ}
use Rattle.gpu_alloc_pairs.specs.Length.{IsUsedAs}
use Rattle.gpu_alloc_pairs.specs.declared.pair.Side.{Side}
use Rattle.gpu_alloc_pairs.specs.declared.pair.Use.TheVariants.{Free}
use Rattle.gpu_alloc_pairs.proofs.Changes.{first_is_ready, none_is_ready}
use Rattle.gpu_alloc_pairs.proofs.length.Length.first.Goals as goal

pub returns-in_err-key-clause-none : goal.returns-in_err-key-clause-none
returns-in_err-key-clause-none g c =
    subst (λ o. IfNone o ((key : ℕ) (side : Side) → IsUsedAs c.args.self.now key side Free → ⊥))
    (sym c.from_residual.ensures)
    (none_is_ready c.self.inside.pairs c.args.self.now c.self.inside.first c.self.view_is (c.in_err-key.was {u = tt})
    c.self.invariant)

pub returns-clause-some : goal.returns-clause-some
returns-clause-some g c =
    first_is_ready c.self.inside.pairs c.args.self.now _ c.index-pair.result.now c.in-Ready.next c.in-Ready.prev
    c.self.view_is c.index-pair.ensures c.in-Ready.is refl refl
