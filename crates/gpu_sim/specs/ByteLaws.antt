-- Copied and written bytes, index by index.
use Rattle.std.specs.Prelude.{◌≡◌, ◌⊎◌, ℕ, ◌+◌, ◌<◌, ◌≤◌, List, length, take, drop}
use Rattle.std.specs.Prelude.{slice_get, Some, refl}
use Rattle.std.proofs.Common.{◌∙◌, ap, sym, arith, inl, inr, get_or}
use Rattle.std.proofs.lemmas.Bool.Decides.{leb_tells}
use Rattle.std.proofs.lemmas.List.{places, length-append, length-take, length-drop, take-append-drop, append_assoc}
use Rattle.std.proofs.lemmas.List.{drop-drop}
use Rattle.std.proofs.lemmas.Option.{slice_get-get_or, slice_get_past}
use Rattle.gpu_alloc_types.specs.Device.{IsOutside, IsCopied, IsPartlyCopied, IsWritten}
use Rattle.gpu_sim.specs.Bytes.{bytes_written, with_range}

-- lists of one length have the same at an index where their bytes are the same
same_get : (xs ys : List ℕ) (k : ℕ) → length xs ≡ length ys → (k < length xs → get_or xs k 0 ≡ get_or ys k 0)
    → slice_get xs k ≡ slice_get ys k
same_get xs ys k len same = by (k_within)
  where
    k_within : (k < length xs) ⊎ (length xs ≤ k)
    k_within = grind (arith, leb_tells)

    by : (k < length xs) ⊎ (length xs ≤ k) → slice_get xs k ≡ slice_get ys k
    by (inl lt) =
        slice_get-get_or xs k 0 lt ∙ ap (λ b. Some b) (same lt) ∙ sym (slice_get-get_or ys k 0 (omega arith))
    by (inr le) = slice_get_past xs k le ∙ sym (slice_get_past ys k (omega arith))

module _ (offset size : ℕ) (from to : List ℕ) (alike : length from ≡ length to) where
  pub length-with_range : length (with_range offset size from to) ≡ length to
  length-with_range = simp (length-append, length-take, length-drop) (omega arith)

  below : (k : ℕ) → k < offset → k < length to → get_or (with_range offset size from to) k 0 ≡ get_or to k 0
  below k lt within = grind (arith, places)

  above : (k : ℕ) → offset + size ≤ k → k < length to → get_or (with_range offset size from to) k 0 ≡ get_or to k 0
  above k le within = grind (arith, places)

  inside : (k : ℕ) → offset ≤ k → k < offset + size → k < length to
      → get_or (with_range offset size from to) k 0 ≡ get_or from k 0
  inside k le lt within = grind (arith, places)

  outside_same : (k : ℕ) → IsOutside offset size k → slice_get (with_range offset size from to) k ≡ slice_get to k
  outside_same k (inl lt) =
      same_get (with_range offset size from to) to k length-with_range
      (λ within. below k lt (omega (arith, length-with_range)))
  outside_same k (inr le) =
      same_get (with_range offset size from to) to k length-with_range
      (λ within. above k le (omega (arith, length-with_range)))

  inside_same : (k : ℕ) → offset ≤ k → k < offset + size
      → slice_get (with_range offset size from to) k ≡ slice_get from k
  inside_same k le lt =
      same_get (with_range offset size from to) from k (length-with_range ∙ sym alike)
      (λ within. inside k le lt (omega (arith, length-with_range)))

  pub is_copied : IsCopied offset size from to (with_range offset size from to)
  is_copied = record { outside = outside_same; inside = inside_same }

  either : (k : ℕ) → IsOutside offset size k ⊎ ((offset ≤ k) × (k < offset + size))
  either k = grind (arith, leb_tells)

  pub is_partly_copied : (most : ℕ) → size ≤ most → IsPartlyCopied offset most from to (with_range offset size from to)
  is_partly_copied most within = record {
    outside = λ k out. outside_same k (wider k out);
    inside = λ k. elim (either k) [ inl out ↦ inl (outside_same k out) | inr at ↦ inr (inside_same k at.0 at.1) ];
  }
    where
      wider : (k : ℕ) → IsOutside offset most k → IsOutside offset size k
      wider k (inl lt) = inl lt
      wider k (inr le) = inr (omega arith)

-- equal lists stay equal where one is copied into the other
pub with_range-same : (offset size : ℕ) (xs : List ℕ) → with_range offset size xs xs ≡ xs
with_range-same offset size xs =
    rw (append_assoc, ← drop-drop, take-append-drop, take-append-drop) refl

module _ (offset : ℕ) (bytes to : List ℕ) (fits : offset + length bytes ≤ length to) where
  pub length-written : length (bytes_written offset bytes to) ≡ length to
  length-written = simp (length-append, length-take, length-drop) (omega arith)

  write_below : (k : ℕ) → k < offset → get_or (bytes_written offset bytes to) k 0 ≡ get_or to k 0
  write_below k lt = grind (arith, places)

  write_above : (k : ℕ) → offset + length bytes ≤ k → get_or (bytes_written offset bytes to) k 0 ≡ get_or to k 0
  write_above k le = grind (arith, places)

  write_inside : (k : ℕ) → k < length bytes → get_or (bytes_written offset bytes to) (offset + k) 0 ≡ get_or bytes k 0
  write_inside k lt = grind (arith, places)

  write_outside : (k : ℕ) → IsOutside offset (length bytes) k → slice_get (bytes_written offset bytes to) k ≡ slice_get to k
  write_outside k (inl lt) = same_get (bytes_written offset bytes to) to k length-written (λ within. write_below k lt)
  write_outside k (inr le) = same_get (bytes_written offset bytes to) to k length-written (λ within. write_above k le)

  write_here : (k : ℕ) → k < length bytes → slice_get (bytes_written offset bytes to) (offset + k) ≡ slice_get bytes k
  write_here k lt =
      slice_get-get_or (bytes_written offset bytes to) (offset + k) 0 (omega (arith, length-written))
      ∙ ap (λ b. Some b) (write_inside k lt) ∙ sym (slice_get-get_or bytes k 0 lt)

  pub is_written : IsWritten offset bytes to (bytes_written offset bytes to)
  is_written = record { outside = write_outside; inside = write_here }

get_read : (offset n : ℕ) (xs : List ℕ) (k : ℕ) → k < n → k < length (take n (drop offset xs))
    → get_or (take n (drop offset xs)) k 0 ≡ get_or xs (offset + k) 0
get_read offset n xs k lt within = grind (arith, places)

-- what was read from an offset on
pub slice_get-read : (offset : ℕ) (bytes xs : List ℕ) → bytes ≡ take (length bytes) (drop offset xs) → (k : ℕ)
    → k < length bytes → slice_get bytes k ≡ slice_get xs (offset + k)
slice_get-read offset bytes xs is k lt =
    let long : length bytes ≡ length (take (length bytes) (drop offset xs)) = ap length is in
    let taken = length-take (length bytes) (drop offset xs) in
    let enough : offset + k < length xs = omega (arith, long, taken, length-drop offset xs) in
    slice_get-get_or bytes k 0 lt
    ∙ ap (λ b. Some b) (ap (λ l. get_or l k 0) is ∙ get_read offset (length bytes) xs k lt (omega arith))
    ∙ sym (slice_get-get_or xs (offset + k) 0 enough)
