use Rattle.std.proofs.Common.{◌≡◌, List, [], ◌∷◌, ◌++◌, map, append_assoc, subst}
use Rattle.gpu_alloc.specs.Spans.{held_entry_of}
use Rattle.gpu_report.specs.Report.{ArePartsTold}
use Rattle.gpu_report.specs.declared.part.Part.{Part}
use Rattle.gpu_report.proofs.build.add_type.Goals as goal

five_more : (ps : List Part) (a b d e f : Part) → ((((ps ++ a ∷ []) ++ b ∷ []) ++ d ∷ []) ++ e ∷ []) ++ f ∷ [] ≡ ps ++ a ∷ b ∷ d ∷ e ∷ f ∷ []
five_more ps a b d e f = simp append_assoc

pub returns : goal.returns
returns g c ps told =
    let one = c.in_ok-add_kind.ensures ps told in
    let two = c.in_ok-add_kind-2.ensures _ one in
    let three = c.in_ok-add_kind-3.ensures _ two in
    let four = c.in_ok-add_kind-4.ensures _ three in
    let five = c.in_ok-add_kind-5.ensures _ four in
    subst (λ (xs : List Part). ArePartsTold c.args.allocator.now (map held_entry_of c.args.held.now) c.args.live.now xs c.add_kind-5.new.kinds.items c.add_kind-5.new.objects.items) (five_more ps _ _ _ _ _) five
