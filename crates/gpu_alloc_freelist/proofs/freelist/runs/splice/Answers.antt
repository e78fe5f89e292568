-- The joint stands in place of none, of one or of two.
use Rattle.std.proofs.Common.{◌≡◌, ℕ, suc, ◌<◌, List, ◌∷◌, ◌++◌, length, take, drop, set, ◌∙◌, ap, sym, arith}
use Rattle.std.proofs.lemmas.List.{set_split}
use Rattle.gpu_alloc_freelist.proofs.freelist.runs.splice.Goals as goal

-- one is another
one_joined : {X : Type 0} (xs : List X) (from to : ℕ) (y : X) → from < length xs → to ≡ suc from → set xs from y ≡ take from xs ++ y ∷ drop to xs
one_joined xs from to y within is = set_split xs from y within ∙ ap (λ n. take from xs ++ y ∷ drop n xs) (sym is)

pub returns-else-joint-2-clause-items : goal.returns-else-joint-2-clause-items
returns-else-joint-2-clause-items g c =
    one_joined c.args.regions.now.items c.args.joint.from c.args.joint.to c.args.joint.region (omega (arith, c.requires.within, c.args.regions.now.ok.0, c.if-joint.false)) (omega (arith, c.requires.within, c.if-joint.false, c.if-joint-2.false))
