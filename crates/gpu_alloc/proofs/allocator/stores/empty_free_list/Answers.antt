use Rattle.std.proofs.Common.{◌≡◌, ◌^◌, ◌≤◌, ◌∙◌, ℕ, Bool, true, false, cond, sym, subst, IsTrue, arith}
use Rattle.std.specs.Int.{is_power_of_two}
use Rattle.gpu_alloc_types.specs.Properties.{properties_of}
use Rattle.gpu_alloc.proofs.Atoms.{atom_power, one_more}
use Rattle.gpu_alloc.proofs.Fits.Small.{cut_some}
use Rattle.gpu_alloc.proofs.Opened.{first_listing_is, offered}
use Rattle.gpu_alloc.proofs.allocator.stores.empty_free_list.Goals as goal
use Rattle.gpu_alloc_base.proofs.ChunkSizes.{cut_whole, starting_fits}

-- an atom is no larger than the device's
atom_below : (size atom : ℕ) (b : Bool) → size ≤ 2 ^ 62 → atom ≡ cond b size 1 → atom ≤ 2 ^ 62
atom_below size atom true bound is = omega arith
atom_below size atom false bound is = omega arith

pub new-requires-clause-atom : goal.new-requires-clause-atom
new-requires-clause-atom g c =
    let power = atom_power c.args.props.now.non_coherent_atom_size c.atom_of-atom.result _ c.requires.usable.atom c.atom_of-atom.ensures in
    subst (λ n. IsTrue (is_power_of_two n)) (sym (one_more c.atom_of-atom.result power)) power

pub new-requires-clause-starting : goal.new-requires-clause-starting
new-requires-clause-starting g c =
    let power = atom_power c.args.props.now.non_coherent_atom_size c.atom_of-atom.result _ c.requires.usable.atom c.atom_of-atom.ensures in
    rw (one_more c.atom_of-atom.result power, c.starting_size.ensures) (cut_whole _ c.atom_of-atom.result c.args.config.starting_free_list_chunk)

pub new-requires-clause-largest : goal.new-requires-clause-largest
new-requires-clause-largest g c =
    let power = atom_power c.args.props.now.non_coherent_atom_size c.atom_of-atom.result _ c.requires.usable.atom c.atom_of-atom.ensures in
    rw (one_more c.atom_of-atom.result power, c.final_size.ensures) (cut_whole _ c.atom_of-atom.result _)

pub new-requires-clause-growing : goal.new-requires-clause-growing
new-requires-clause-growing g c =
    let power = atom_power c.args.props.now.non_coherent_atom_size c.atom_of-atom.result _ c.requires.usable.atom c.atom_of-atom.ensures in
    rw (c.starting_size.ensures, c.final_size.ensures) (starting_fits c.args.config _ c.atom_of-atom.result (omega (arith, one_more c.atom_of-atom.result power)))

pub starting_size-requires : goal.starting_size-requires
starting_size-requires g c =
    let power = atom_power c.args.props.now.non_coherent_atom_size c.atom_of-atom.result _ c.requires.usable.atom c.atom_of-atom.ensures in
    omega (arith, one_more c.atom_of-atom.result power)

pub final_size-requires : goal.final_size-requires
final_size-requires g c =
    let power = atom_power c.args.props.now.non_coherent_atom_size c.atom_of-atom.result _ c.requires.usable.atom c.atom_of-atom.ensures in
    omega (arith, one_more c.atom_of-atom.result power)

pub new-requires-clause-atom_bound : goal.new-requires-clause-atom_bound
new-requires-clause-atom_bound g c =
    let power = atom_power c.args.props.now.non_coherent_atom_size c.atom_of-atom.result _ c.requires.usable.atom c.atom_of-atom.ensures in
    rw (one_more c.atom_of-atom.result power) (atom_below c.args.props.now.non_coherent_atom_size c.atom_of-atom.result _ c.requires.usable.atom_bound c.atom_of-atom.ensures)

pub new-requires-clause-nonempty : goal.new-requires-clause-nonempty
new-requires-clause-nonempty g c =
    let power = atom_power c.args.props.now.non_coherent_atom_size c.atom_of-atom.result _ c.requires.usable.atom c.atom_of-atom.ensures in
    rw c.starting_size.ensures (cut_some _ c.atom_of-atom.result c.args.config.starting_free_list_chunk (omega (arith, one_more c.atom_of-atom.result power)))

pub returns-clause-sound : goal.returns-clause-sound
returns-clause-sound g c = c.new.ensures.sound

pub returns-clause-first : goal.returns-clause-first
returns-clause-first g c =
    let p = properties_of c.args.props.now in
    let power = atom_power c.args.props.now.non_coherent_atom_size c.atom_of-atom.result _ c.requires.usable.atom c.atom_of-atom.ensures in
    c.new.ensures.opened
    ∙ (rw (one_more c.atom_of-atom.result power, c.starting_size.ensures, c.final_size.ensures) (first_listing_is c.args.config p c.args.memory_type _ (offered p c.requires.usable c.args.memory_type _ _ _ c.requires.known c.atom_of-atom.ensures)))
