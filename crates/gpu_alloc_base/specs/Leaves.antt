-- Live blocks of buddy allocators, in order.
use Rattle.std.specs.Prelude.{ℕ, List, [], ◌∷◌}
use Rattle.std.specs.declared.cmp.Ordering.{Ordering}
use Rattle.std.specs.Ordering.{nat_cmp}
use Rattle.std.specs.Cmp.Lexicographic.{slice_cmp}
use Rattle.gpu_alloc_base.specs.declared.buddy_block.Leaf.{Leaf}

abbrev pub leaf_numbers : Leaf → List ℕ
leaf_numbers b = b.object ∷ b.chunk ∷ b.offset ∷ b.size ∷ b.index ∷ []

abbrev pub leaf_cmp : Leaf → Leaf → Ordering
leaf_cmp a b = slice_cmp nat_cmp (leaf_numbers a) (leaf_numbers b)
