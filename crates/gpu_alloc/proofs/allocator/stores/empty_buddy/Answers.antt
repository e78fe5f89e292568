use Rattle.std.proofs.Common.{◌≡◌, ◌∙◌, sym, subst, IsTrue}
use Rattle.std.specs.Prelude.{IfOk}
use Rattle.std.specs.Int.{is_power_of_two}
use Rattle.gpu_alloc_types.specs.Properties.{properties_of}
use Rattle.gpu_alloc.proofs.Atoms.{atom_power, one_more}
use Rattle.gpu_alloc.proofs.Opened.{first_buddy_is, offered}
use Rattle.gpu_alloc.proofs.allocator.stores.empty_buddy.Goals as goal

pub new-requires-clause-atom : goal.new-requires-clause-atom
new-requires-clause-atom g c =
    let power = atom_power c.args.props.now.non_coherent_atom_size c.atom_of-atom.result _ c.requires.usable.atom c.atom_of-atom.ensures in
    subst (λ n. IsTrue (is_power_of_two n)) (sym (one_more c.atom_of-atom.result power)) power

pub returns-clause-first : goal.returns-clause-first
returns-clause-first g c =
    let p = properties_of c.args.props.now in
    let power = atom_power c.args.props.now.non_coherent_atom_size c.atom_of-atom.result _ c.requires.usable.atom c.atom_of-atom.ensures in
    let atom = one_more c.atom_of-atom.result power ∙ c.atom_of-atom.ensures in
    let told = rw (c.minimal_size.ensures.is, c.initial_size.ensures.is) at c.new.ensures.opened in
    subst (λ first. IfOk c.new.result (λ buddy. buddy ≡ first)) (first_buddy_is c.args.config p c.args.memory_type _ (offered p c.requires.usable c.args.memory_type _ _ _ c.requires.known atom)) told
