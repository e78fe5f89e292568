use Rattle.std.proofs.Common.{◌≡◌, ◌∙◌, sym, subst, IsTrue, arith}
use Rattle.std.specs.Int.{is_power_of_two}
use Rattle.gpu_alloc_types.specs.Properties.{properties_of}
use Rattle.gpu_alloc.specs.FitSharing.{grain}
use Rattle.gpu_alloc.proofs.Atoms.{atom_power, grain_power, one_more}
use Rattle.gpu_alloc.proofs.Opened.{first_fitting_is, four_times, largest_whole, offered, starting_within}
use Rattle.gpu_alloc.proofs.allocator.stores.empty_fit.Goals as goal
use Rattle.gpu_alloc_base.proofs.ChunkSizes.{cut_whole}

pub new-requires-clause-atom : goal.new-requires-clause-atom
new-requires-clause-atom g c =
    let power = grain_power c.atom_of.result c.max-grain.result (atom_power c.args.props.now.non_coherent_atom_size c.atom_of.result _ c.requires.usable.atom c.atom_of.ensures) c.max-grain.ensures in
    subst (λ n. IsTrue (is_power_of_two n)) (sym (one_more c.max-grain.result power)) power

pub new-requires-clause-starting : goal.new-requires-clause-starting
new-requires-clause-starting g c =
    let power = grain_power c.atom_of.result c.max-grain.result (atom_power c.args.props.now.non_coherent_atom_size c.atom_of.result _ c.requires.usable.atom c.atom_of.ensures) c.max-grain.ensures in
    rw (one_more c.max-grain.result power, c.starting_size-starting.ensures) (cut_whole _ c.max-grain.result c.args.config.starting_free_list_chunk)

pub new-requires-clause-largest : goal.new-requires-clause-largest
new-requires-clause-largest g c =
    let power = grain_power c.atom_of.result c.max-grain.result (atom_power c.args.props.now.non_coherent_atom_size c.atom_of.result _ c.requires.usable.atom c.atom_of.ensures) c.max-grain.ensures in
    let is = four_times c.starting_size-starting.result c.final_size.result c.saturating_mul.result c.min.result c.final_size.type_inv c.saturating_mul.ensures c.min.ensures in
    rw (one_more c.max-grain.result power, is, c.starting_size-starting.ensures, c.final_size.ensures) (largest_whole c.args.config _ c.max-grain.result)

pub new-requires-clause-growing : goal.new-requires-clause-growing
new-requires-clause-growing g c =
    let is = four_times c.starting_size-starting.result c.final_size.result c.saturating_mul.result c.min.result c.final_size.type_inv c.saturating_mul.ensures c.min.ensures in
    rw (is, c.starting_size-starting.ensures, c.final_size.ensures) (starting_within c.args.config _ c.max-grain.result (omega (arith, c.max-grain.ensures)))

pub returns-clause-first : goal.returns-clause-first
returns-clause-first g c =
    let p = properties_of c.args.props.now in
    let power = grain_power c.atom_of.result c.max-grain.result (atom_power c.args.props.now.non_coherent_atom_size c.atom_of.result _ c.requires.usable.atom c.atom_of.ensures) c.max-grain.ensures in
    let grain_is : c.max-grain.result ≡ grain c.atom_of.result = omega (arith, c.max-grain.ensures) in
    let is = four_times c.starting_size-starting.result c.final_size.result c.saturating_mul.result c.min.result c.final_size.type_inv c.saturating_mul.ensures c.min.ensures in
    c.new.ensures.opened
    ∙ (rw (one_more c.max-grain.result power, is, c.starting_size-starting.ensures, c.final_size.ensures) (first_fitting_is c.args.config p c.args.memory_type _ (offered p c.requires.usable c.args.memory_type _ _ _ c.requires.known c.atom_of.ensures) _ grain_is))
