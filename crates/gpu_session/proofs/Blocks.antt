-- Live blocks on the device.
use Rattle.std.proofs.Common.{◌≡◌, ℕ, ◌+◌, ◌*◌, ◌%◌, ◌≤◌, true, Option, arith, sym, ◌∙◌, ap}
use Rattle.std.proofs.Math.Nat.{add-mul-mod_self_right}
use Rattle.gpu_alloc_types.specs.Device.{Object, HeldWith}
use Rattle.gpu_alloc_types.specs.Properties.{Properties, atom_of}
use Rattle.gpu_alloc.specs.Agreement.{BlockAgrees}
use Rattle.gpu_alloc.specs.Sound as allocator
use Rattle.gpu_alloc.specs.State.{span_of, Block, State, IsOwned, is_shared}
use Rattle.gpu_alloc_base.proofs.Multiples.{multiple_from_mod}
use Rattle.gpu_session.specs.Sound.{IsBlock}

-- what is left of a multiple is one
rest_whole : (n x y : ℕ) → x % n ≡ 0 → (x + y) % n ≡ 0 → y % n ≡ 0
rest_whole n x y first both =
    let m = multiple_from_mod n x first in
    let is : y + m.0 * n ≡ x + y = omega (arith, m.1) in
    sym (add-mul-mod_self_right y m.0 n) ∙ ap (λ z. z % n) is ∙ both

module _ (b : Block) (p : Properties) (objects : ℕ → Option Object) (agrees : BlockAgrees b p objects) where
  in_its_object : HeldWith objects b.object (λ o. (o.memory_type ≡ b.memory_type) × (b.offset + b.size ≤ o.size))
  unfolding BlockAgrees
  in_its_object = (agrees.there.0, agrees.there.1, (agrees.there.2.of_type, agrees.there.2.inside))

  of_whole_atoms : is_shared b.kind ≡ true → (b.offset % atom_of p b.memory_type ≡ 0) × (b.size % atom_of p b.memory_type ≡ 0)
  unfolding BlockAgrees
  of_whole_atoms shared =
      let atoms = agrees.there.2.atoms shared in
      rw (← agrees.atom) (atoms.0, rest_whole b.atom b.offset b.size atoms.0 atoms.1)

  -- an owned block that agrees with the device is live memory there
  pub live_block : (s : State) → allocator.IsSound s → IsOwned s b → IsBlock p s objects b
  live_block s sound owned = record {
    nonempty = sound.nonempty (span_of b) owned.live;
    owned = owned;
    inside = in_its_object;
    whole_atoms = of_whole_atoms;
    agrees = agrees;
  }
