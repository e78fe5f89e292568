-- Sizes of fit chunks, of every configuration.
use Rattle.std.proofs.Common.{◌≡◌, inl, inr, ℕ, ◌*◌, ◌+◌, ◌/◌, ◌^◌, ◌<◌, ◌≤◌, sym, ◌∙◌, ap, subst, arith}
use Rattle.std.proofs.Math.Nat.{mod-lt, le-mul_of_pos_right, mul_assoc, mul_comm}
use Rattle.std.proofs.lemmas.Bool.{cases_lt}
use Rattle.std.proofs.lemmas.Nat.{div-add-mod', pow-add, pow_pos}
use Rattle.std.proofs.lemmas.Bool.Decides.{nat_tests}
use Rattle.std.specs.Prelude.{min, max}
use Rattle.gpu_alloc_types.specs.Properties.{Properties, atom_of, heap_size}
use Rattle.gpu_alloc_base.specs.Chunks.{Chunk}
use Rattle.gpu_alloc_base.specs.FreeSpace.{IsMultipleOf}
use Rattle.gpu_alloc_base.specs.Sizes.{at_least_an_atom, cut, doubled_chunk, down, final_size, grown_chunk, starting_size, transient_threshold}
use Rattle.gpu_alloc_base.specs.declared.config.Config.{Config}
use Rattle.gpu_alloc_base.proofs.ChunkSizes.{cut_whole, grown_is_least}
use Rattle.gpu_alloc_base.proofs.Multiples.{down_below, multiple_min, multiple_times}
use Rattle.gpu_alloc_base.proofs.Names.{put-cases}
use Rattle.gpu_alloc_base.specs.declared.free_list_block.Slot.{Slot}
use Rattle.gpu_alloc_fit.specs.Fit.{FitState, chunk_size, fitting_in_new_chunk}
use Rattle.gpu_alloc_fit.specs.FitSound.{IsSoundFit}
use Rattle.gpu_alloc.specs.FitSharing.{AreSmall, FitChunksAreSmall, IsFitChunkSize, IsSmallChunk, first_fit, grain, largest_fit}
use Rattle.gpu_alloc.specs.StoresFor.{HasFitSizes}
use Rattle.gpu_alloc.proofs.Opened.{largest_whole, starting_within}

at_least : (g x : ℕ) → (x ≤ at_least_an_atom g x) × (at_least_an_atom g x ≤ max g x)
at_least g x = (grind (arith, nat_tests), grind (arith, nat_tests))

at_least_some : (g x : ℕ) → 0 < g → 0 < at_least_an_atom g x
at_least_some g x some = grind (arith, nat_tests)

-- a size that is cut is some bytes
pub cut_some : (heap g size : ℕ) → 0 < g → 0 < cut heap g size
cut_some heap g size some = at_least_some g (down (min size (heap / 32)) g) some

-- what is cut is no larger than the part of the heap, or than one grain
cut_part : (heap g size : ℕ) → cut heap g size ≤ max g (heap / 32)
cut_part heap g size = let least = (at_least g (down (min size (heap / 32)) g)).1 in let below = down_below (min size (heap / 32)) g in omega (arith, least, below)

small : (c : Config) (heap g : ℕ) → 0 < g → AreSmall c heap g
small c heap g some = record {
  room = (at_least g (first_fit c heap g)).0;
  grows = starting_within c heap g some;
  four_times = omega arith;
  part =
      let last = max (max c.final_free_list_chunk c.starting_free_list_chunk) (transient_threshold c) in
      let final = cut_part heap g last in
      omega (arith, final);
}

pub fit_chunks_small : FitChunksAreSmall
fit_chunks_small = record { each = small }

-- a first chunk is no larger than a largest one
pub first_in_largest : (c : Config) (heap g : ℕ) → 0 < g → first_fit c heap g ≤ largest_fit c heap g
first_in_largest c heap g some = let is = small c heap g some in omega (arith, is.room, is.grows)

-- a largest one is bounded where a largest free-list chunk is
pub largest_bound : (c : Config) (heap atom : ℕ) → 0 < atom → final_size c heap atom ≤ 2 ^ 62 → largest_fit c heap (grain atom) ≤ 2 ^ 62
largest_bound c heap atom some bound = elim (cases_lt atom 256) [
  | inl less ↦
      let whole : grain atom ≡ 256 = omega (arith, less) in
      let x = min (max (max c.final_free_list_chunk c.starting_free_list_chunk) (transient_threshold c)) (heap / 32) in
      let below = (at_least atom (down x atom)).0 in
      let rest = div-add-mod' x atom in
      let few = mod-lt x some in
      let most = (at_least 256 (down x 256)).1 in
      let cut_bound : final_size c heap 256 ≤ 2 ^ 62 = omega (arith, below, rest, few, most, bound, less) in
      subst (λ g. largest_fit c heap g ≤ 2 ^ 62) (sym whole) (omega (arith, cut_bound))
  | inr more ↦ let same : grain atom ≡ atom = omega (arith, more) in subst (λ g. largest_fit c heap g ≤ 2 ^ 62) (sym same) (omega (arith, bound))
]

-- What a size that a fit chunk can have is.

-- cut at the largest, multiplied and cut again is as much as cut once
cut_between : (a l p : ℕ) → 0 < p → min (min a l * p) l ≡ min (a * p) l
cut_between a l p some = elim (cases_lt l a) [
  | inl less ↦
      let e : min a l ≡ l = omega (arith, less) in
      let all = le-mul_of_pos_right l some in
      let more = le-mul_of_pos_right a some in
      ap (λ x. min (x * p) l) e ∙ omega (arith, all, more, less)
  | inr within ↦ let e : min a l ≡ a = omega (arith, within) in ap (λ x. min (x * p) l) e
]

module _ (c : Config) (heap g : ℕ) where
  abbrev largest : ℕ
  largest = largest_fit c heap g

  abbrev first : ℕ
  first = starting_size c heap g

  size_times : (size : ℕ) → IsFitChunkSize c heap g size → (k : ℕ) → IsFitChunkSize c heap g (min (size * 2 ^ k) largest)
  size_times size (n, is) k = (
    n + k,
    ap (λ x. min (x * 2 ^ k) largest) is ∙ cut_between (first * 2 ^ n) largest (2 ^ k) (pow_pos k)
        ∙ ap (λ x. min x largest) (mul_assoc first (2 ^ n) (2 ^ k) ∙ ap (λ x. first * x) (sym (pow-add 2 n k))),
  )

  -- the size of a chunk that is made where the next one has such a size, and that of the next one then
  pub grown_sized : (next size : ℕ) → IsFitChunkSize c heap g next → 0 < next → next ≤ largest → largest ≤ 2 ^ 62 → size ≤ largest → IsFitChunkSize c heap g (grown_chunk next largest size)
  grown_sized next size sized some le bound fits =
      let least = grown_is_least next largest size some le bound fits in
      subst (IsFitChunkSize c heap g) (sym least.product.1) (size_times next sized least.product.0)

  pub doubled_sized : (size : ℕ) → IsFitChunkSize c heap g size → IsFitChunkSize c heap g (doubled_chunk largest size)
  doubled_sized size sized =
      let e : min (size * 2 ^ 1) largest ≡ doubled_chunk largest size = omega arith in
      subst (IsFitChunkSize c heap g) e (size_times size sized 1)

  pub sized_is_small : 0 < g → (size : ℕ) → IsFitChunkSize c heap g size → IsSmallChunk c heap g size
  sized_is_small some size (n, is) = record {
    whole =
        let first_whole : IsMultipleOf g first = cut_whole heap g c.starting_free_list_chunk in
        let times : IsMultipleOf g (first * 2 ^ n) = subst (IsMultipleOf g) (mul_comm (2 ^ n) first) (multiple_times g first (2 ^ n) first_whole) in
        subst (IsMultipleOf g) (sym is) (multiple_min g (first * 2 ^ n) largest times (largest_whole c heap g));
    least =
        let more = le-mul_of_pos_right first (pow_pos n) in
        let fits = starting_within c heap g some in
        omega (arith, is, more, fits);
    four_times = let most = (small c heap g some).four_times in omega (arith, is, most);
    part = let most = (small c heap g some).part in omega (arith, is, most);
  }

-- The chunks of an allocator of fit chunks keep such sizes, as one more is made.
module _ {c : Config} {p : Properties} {index : ℕ} {f : FitState} (final : f.final_chunk ≡ largest_fit c (heap_size p index) (grain (atom_of p index))) (sized : HasFitSizes c p index f) where
  abbrev Sized : ℕ → Type 0
  Sized = IsFitChunkSize c (heap_size p index) (grain (atom_of p index))

  pub sized_more : IsSoundFit f → (slot : Slot) (size : ℕ) → size ≤ f.final_chunk → HasFitSizes c p index (fitting_in_new_chunk f slot (chunk_size f size))
  sized_more sound slot size fits = record {
    next = subst (λ l. Sized (doubled_chunk l (chunk_size f size))) (sym final) (doubled_sized c (heap_size p index) (grain (atom_of p index)) (chunk_size f size) is);
    chunks = λ key chunk held. elim (put-cases f.space.chunks slot.chunk (record { object = slot.object; size = chunk_size f size }) key chunk held) [
      | inl new ↦ subst Sized (sym (ap (λ (x : Chunk). x.size) new.1)) is
      | inr was ↦ sized.chunks key chunk was.1
    ];
  }
    where
      is : Sized (chunk_size f size)
      is = subst (λ l. Sized (grown_chunk f.next_chunk l size)) (sym final) (grown_sized c (heap_size p index) (grain (atom_of p index)) f.next_chunk size sized.next sound.next_chunk.0.1
          (omega (arith, final, sound.next_chunk.1)) (omega (arith, final, sound.final_chunk.1)) (omega (arith, final, fits)))
