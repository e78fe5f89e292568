use Rattle.std.proofs.Common.{ℕ, ◌^◌, List, Option, Some, None, IfSome, IfNone, IsTrue, refl}
use Rattle.std.specs.Prelude.{is_some, ◌↔◌}
use Rattle.slab.specs.Slab.{Slab}
use Rattle.gpu_alloc_base.specs.Accounts.{HeldChunks}
use Rattle.gpu_alloc_pairs.specs.Entry.{Entry}
use Rattle.gpu_alloc_pairs.specs.Lengths.{FindsNoneUpTo, IsFound}
use Rattle.gpu_alloc_pairs.specs.Space.{HasPlace}
use Rattle.gpu_alloc_pairs.specs.Store.{buddy_space_in, IsStored}
use Rattle.gpu_alloc_pairs.specs.Tree.{pair_at}
use Rattle.gpu_alloc_pairs.specs.declared.lengths.Found.{Found}
use Rattle.gpu_alloc_pairs.proofs.Stored.{no_place, found_place}
use Rattle.gpu_alloc_pairs.proofs.Takes.{counts_search}
use Rattle.gpu_alloc_pairs.proofs.pairs.Pairs.has_place.Goals as goal

-- a look-up tells whether there is a place
found_or_none : (chunks : HeldChunks) (lengths : List (Slab Entry)) (order : ℕ) (found : Option Found) → IsStored chunks lengths → IfNone found (FindsNoneUpTo (pair_at lengths) order 63) → IfSome found (IsFound (pair_at lengths) order)
    → IsTrue (is_some found) ↔ HasPlace (buddy_space_in chunks lengths) (2 ^ order)
found_or_none chunks lengths order (Some f) i none some = ((λ _. found_place chunks lengths i order f some), (λ _. refl))
found_or_none chunks lengths order None i none some = ((λ t. absurd (cc)), (λ place. absurd (no_place chunks lengths i order none place)))

pub returns-clause-place : goal.returns-clause-place
returns-clause-place g c =
    rw (← c.self.view_is, c.is_some.ensures) (found_or_none _ c.self.inside.lengths.items c.args.order c.find.result c.self.invariant (rw (c.as_slice.ensures.value) at c.find.ensures.none) (rw (c.as_slice.ensures.value) at c.find.ensures.some))

pub returns-clause-steps : goal.returns-clause-steps
returns-clause-steps g c =
    rw (← c.self.view_is) (counts_search _ c.self.inside.lengths.items c.args.order c.find.result c.args.looks.now c.find.new.looks c.self.invariant c.requires
    (rw (c.as_slice.ensures.value) at c.find.ensures.none) (rw (c.as_slice.ensures.value) at c.find.ensures.some) c.find.ensures.looked)
