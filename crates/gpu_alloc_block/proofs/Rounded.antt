-- Ranges of a block in whole atoms.
use Rattle.std.proofs.Common.{◌≡◌, ◌≢◌, ◌⊎◌, true, Option, ℕ, zero, suc, ◌+◌, ◌-◌, ◌*◌, ◌/◌, ◌%◌, ◌<◌, ◌≤◌, ◌^◌, min, refl, sym, ◌∙◌, ap, subst, arith}
use Rattle.std.proofs.Math.Nat.{div-mul-le_self, lt-div-mul-add, mod-lt, mod-eq_of_lt, mod_self, zero-mod, mul-le-mul_right, mul-mod_left}
use Rattle.std.proofs.lemmas.Nat.{div-add-mod', div-mul-add, le-div}
use Rattle.std.specs.Int.{next_multiple_of}
use Rattle.gpu_alloc_base.specs.Sizes.{down, up}
use Rattle.gpu_alloc_block.specs.Agreement.{BlockAgrees, LiesInBlock}
use Rattle.gpu_alloc_block.specs.Ranges.{rounded_range, atom_end}
use Rattle.gpu_alloc_block.specs.State.{Block, is_shared}
use Rattle.gpu_alloc_block.specs.declared.block.Kind.{Kind}
use Rattle.gpu_alloc_block.specs.declared.block.Kind.TheVariants.{Dedicated, Imported, BuddyChunk, FreeListChunk, FitChunk}
use Rattle.gpu_alloc_types.specs.Device.{Object}
use Rattle.gpu_alloc_types.specs.Properties.{Properties}

-- Multiples of an atom.

down-le : (x a : ℕ) → down x a ≤ x
down-le x a = div-mul-le_self x a

le-up : (x a : ℕ) → 0 < a → x ≤ up x a
le-up x a some =
    let lt : x + (a - 1) < (x + (a - 1)) / a * a + a = lt-div-mul-add some in
    omega (arith, lt, some)

-- a number between a multiple and the next has that multiple below it
whole_part : (q a r x : ℕ) → r < a → x ≡ q * a + r → x / a * a ≡ q * a
whole_part q a r x less is = ap (λ n. n * a) (ap (λ y. y / a) is ∙ div-mul-add q a r less)

-- the next multiple is the number itself or what its rest leaves of the atom further
up-next_multiple_of : (x a : ℕ) → 0 < a → up x a ≡ next_multiple_of x a
up-next_multiple_of x a some = by_rest (x % a) refl
  where
    sum : x / a * a + x % a ≡ x
    sum = div-add-mod' x a

    less : x % a < a
    less = mod-lt x some

    next_row : (q : ℕ) → (q + 1) * a ≡ q * a + a
    next_row q = grind (arith)

    by_rest : (r : ℕ) → x % a ≡ r → up x a ≡ next_multiple_of x a
    by_rest zero is =
        let below : up x a ≡ x / a * a = whole_part (x / a) a (a - 1) (x + (a - 1)) (omega (arith, some)) (omega (arith, sum, is)) in
        let gap : (a - x % a) % a ≡ 0 = ap (λ n. n % a) (omega (arith, is)) ∙ mod_self a in
        omega (arith, below, gap, sum, is)
    by_rest (suc r) is =
        let above : up x a ≡ (x / a + 1) * a = whole_part (x / a + 1) a r (x + (a - 1)) (omega (arith, less, is)) (omega (arith, sum, is, next_row (x / a), some)) in
        let gap : (a - x % a) % a ≡ a - x % a = mod-eq_of_lt (omega (arith, is, some)) in
        omega (arith, above, gap, sum, is, less, next_row (x / a))

pub up_is : (x a last end : ℕ) → 0 < a → last ≡ next_multiple_of x a → min last end ≡ min (up x a) end
up_is x a last end some is = ap (λ n. min n end) (is ∙ sym (up-next_multiple_of x a some))

pub up_past : (x a end : ℕ) → 0 < a → end < 2 ^ 64 → 2 ^ 64 ≤ next_multiple_of x a → end ≡ min (up x a) end
up_past x a end some small past =
    let same : up x a ≡ next_multiple_of x a = up-next_multiple_of x a some in
    omega (arith, same, small, past)

-- The rounded range of some bytes of a block.

module _ (b : Block) (offset len : ℕ) (some : 0 < b.atom) (within : offset + len ≤ b.size) where
  abbrev start : ℕ
  start = b.offset + offset

  -- it holds the bytes
  rounded_from : (rounded_range b offset len).offset ≤ start
  rounded_from = down-le start b.atom

  ends : (from to finish : ℕ) → from ≤ to → from ≤ finish → from + (min to finish - from) ≡ min to finish
  ends from to finish before inside = omega arith

  up_to : start + len ≤ up (start + len) b.atom
  up_to = le-up (start + len) b.atom some

  low : down start b.atom ≤ start
  low = down-le start b.atom

  rounded_end : (rounded_range b offset len).offset + (rounded_range b offset len).size ≡ atom_end b (start + len)
  rounded_end =
      ends (down start b.atom) (up (start + len) b.atom) (b.offset + b.size) (omega (arith, low, up_to))
      (omega (arith, low, within))

  pub rounded_covers : ((rounded_range b offset len).offset ≤ start)
      × (start + len ≤ (rounded_range b offset len).offset + (rounded_range b offset len).size)
  rounded_covers = (rounded_from, omega (arith, rounded_end, up_to, within))

  -- it ends inside the block
  pub rounded_inside : (rounded_range b offset len).offset + (rounded_range b offset len).size ≤ b.offset + b.size
  rounded_inside = omega (arith, rounded_end)

  -- it begins where the bytes do, or less than one atom before
  pub rounded_near : start < (rounded_range b offset len).offset + b.atom
  rounded_near = lt-div-mul-add some

  -- it begins inside the block where that begins on the atom
  pub rounded_from_block : b.offset % b.atom ≡ 0 → b.offset ≤ (rounded_range b offset len).offset
  rounded_from_block whole =
      let sum : b.offset / b.atom * b.atom + b.offset % b.atom ≡ b.offset = div-add-mod' b.offset b.atom in
      let parts : b.offset / b.atom ≤ start / b.atom = le-div (b.offset / b.atom) start b.atom some (omega (arith, sum)) in
      let most = mul-le-mul_right b.atom parts in
      omega (arith, sum, whole, most)

  -- it begins on the atom, and ends there or where the block ends
  pub rounded_start : (rounded_range b offset len).offset % b.atom ≡ 0
  rounded_start = mul-mod_left (start / b.atom) b.atom

  finishes : (to finish atom : ℕ) → to % atom ≡ 0 → (min to finish % atom ≡ 0) ⊎ (min to finish ≡ finish)
  finishes to finish atom multiple = grind (arith)

  pub rounded_finish : (((rounded_range b offset len).offset + (rounded_range b offset len).size) % b.atom ≡ 0)
      ⊎ ((rounded_range b offset len).offset + (rounded_range b offset len).size ≡ b.offset + b.size)
  rounded_finish =
      subst (λ n. (n % b.atom ≡ 0) ⊎ (n ≡ b.offset + b.size)) (sym rounded_end)
      (finishes (up (start + len) b.atom) (b.offset + b.size) b.atom (mul-mod_left ((start + len + (b.atom - 1)) / b.atom) b.atom))

  pub rounded_some : 0 < len → 0 < (rounded_range b offset len).size
  rounded_some nonempty = omega (arith, rounded_covers.0, rounded_covers.1, nonempty)

-- In a block that agrees with a device, which starts on the atom unless it is an import.

starts : (k : Kind) (offset atom : ℕ) → (k ≡ Dedicated → offset ≡ 0) → (is_shared k ≡ true → offset % atom ≡ 0)
    → k ≢ Imported → offset % atom ≡ 0
starts Dedicated offset atom whole atoms other = ap (λ n. n % atom) (whole refl) ∙ zero-mod atom
starts Imported offset atom whole atoms other = absurd (other refl)
starts BuddyChunk offset atom whole atoms other = atoms refl
starts (FreeListChunk number) offset atom whole atoms other = atoms refl
starts FitChunk offset atom whole atoms other = atoms refl

pub lies_in_block : (b : Block) (p : Properties) (objects : ℕ → Option Object) (offset len : ℕ) → 0 < b.atom
    → BlockAgrees b p objects → offset + len ≤ b.size → LiesInBlock b (rounded_range b offset len)
unfolding BlockAgrees
lies_in_block b p objects offset len some agrees within =
    let is = agrees.there.2 in
    let near = rounded_near b offset len some within in record {
      start = λ other. rounded_from_block b offset len some within
          (starts b.kind b.offset b.atom (λ own. (is.whole own).0) (λ shared. (is.atoms shared).0) other);
      near = omega (arith, near);
      finish = rounded_inside b offset len some within;
    }
