use Rattle.std.proofs.Common.{◌≡◌, Option, None, Some, IsSome, refl, ap, sym, subst, ◌∙◌}
use Rattle.std.proofs.Math.Path.{fun_ext}
use Rattle.std.specs.FinMap as map
use Rattle.std.specs.Option.{option_copied_mut, ghost_name_of}
use Rattle.std.specs.Borrow.{MutBor}
use Rattle.gpu_alloc_base.proofs.Names.{get_entries, put_by_name}
use Rattle.gpu_sim.proofs.sim.numbered.Numbered.get_mut.Goals as goal
use borrow.Follows.Closed.{read_of}

-- two loans end alike if they agree on a value that is lent, and without one
same_end : {D E : Type 0} (r : Option (MutBor E)) (F G : E → D) (v w : D) → (IsSome r → F ≡ G) → v ≡ w → read_of (ghost_name_of r) F v ≡ read_of (ghost_name_of r) G w
same_end None F G v w lent kept = rw kept refl
same_end (Some x) F G v w lent kept = rw (lent refl) refl

copied_is : {E : Type 0} (r : Option (MutBor E)) (found : Option E) → option_copied_mut r ≡ found → IsSome r → IsSome found
copied_is None found is some = absurd (cc)
copied_is (Some x) found is some = subst IsSome is refl

pub returns : goal.returns
returns g c =
    let f = c.get_mut.follows in (
      same_end c.get_mut.result _ _ _ _
          (λ some. fun_ext (λ w. put_by_name _ _ c.args.number w ((f.holds w).3 (copied_is _ _ f.claims.0 some)).0
          ∙ ap (λ m. map.insert m c.args.number w) c.self.view_is))
          (ap (λ m. map.from_entries m.entries) f.holds-at-none ∙ c.self.view_is),
      record {
        writes_back = tt;
        value = f.claims.0
            ∙ sym (ap (λ m. map.get m c.args.number) (sym c.self.view_is) ∙ get_entries _ c.args.number);
      },
    )
