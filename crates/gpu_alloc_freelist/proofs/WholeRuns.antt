-- Runs that are whole chunks, as runs and chunks come and go.
use Rattle.std.proofs.Common.{ℕ, ◌≡◌, ◌==◌, ◌&&◌, inl, inr, ◌+◌, ◌-◌, ◌<◌, ◌≤◌, ◌↔◌, Bool, true, false, cond, IsTrue, List, [], ◌∷◌, ◌++◌, length, get_or, Option, Some, None, refl, sym, ◌∙◌, ap, arith}
use Rattle.std.specs.Bool.{Decides}
use Rattle.std.specs.FinMap as map
use Rattle.std.specs.List.{Contains, remove}
use Rattle.std.proofs.lemmas.Bool.{cases_lt}
use Rattle.std.proofs.lemmas.Bool.Decides.{Decides-and, Decides-eqb}
use Rattle.gpu_alloc_base.specs.Accounts.{HeldChunks}
use Rattle.gpu_alloc_base.specs.Chunks.{Chunk}
use Rattle.gpu_alloc_base.specs.declared.region.FreeListRegion.{FreeListRegion}
use Rattle.gpu_alloc_base.proofs.Lists.{contains_head, contains_later}
use Rattle.gpu_alloc_freelist.specs.Chunks.{IsWholeChunk}
use Rattle.gpu_alloc_freelist.specs.FreeListInside.{MayBeTaken}
use Rattle.gpu_alloc_freelist.specs.Runs.{Cuts, PutsBack}
use Rattle.gpu_alloc_freelist.specs.Wholes.{has_size, is_whole, wholes}
use Rattle.gpu_alloc_freelist.proofs.RunLists.{joint_order, joint_within}
use mir.Val.{bool_byte}
use Rattle.gpu_alloc_freelist.proofs.WholeCounts.{one, count_both, count_next, count_spliced, count_set, count_removed, counts, counts_two}

-- The test.

size_test : (chunk : Option Chunk) (size : ℕ) → Decides (has_size chunk size) ((c : Chunk) × (chunk ≡ Some c) × (c.size ≡ size))
size_test None size = ((λ t. absurd (cc)), (λ h. absurd (let e = h.1 in cc)))
size_test (Some c) size = (
  (λ t. (c, refl, (Decides-eqb c.size size).0 t)),
  (λ h. (Decides-eqb c.size size).1 (let e = h.1 in let same : c ≡ h.0 = cc in ap (λ (x : Chunk). x.size) same ∙ h.2)),
)

pub whole_test : (held : HeldChunks) (r : FreeListRegion) → Decides (is_whole held r) (IsWholeChunk held r)
whole_test held r =
    let d = Decides-and _ _ (Decides-eqb r.start 0) (size_test (map.get held r.chunk) r.end) in (
      (λ t. let both = d.0 t in record { start = both.0; chunk = both.1.0; is = both.1.1; end = both.1.2 }),
      (λ w. d.1 (w.start, (w.chunk, w.is, w.end))),
    )

-- a run that is no whole chunk
pub not_whole : (held : HeldChunks) (r : FreeListRegion) → (IsWholeChunk held r → ⊥) → is_whole held r ≡ false
not_whole held r not = split (is_whole held r) refl
  where
    split : (b : Bool) → is_whole held r ≡ b → is_whole held r ≡ false
    split true is = absurd (not ((whole_test held r).0 is))
    split false is = is

-- what a call that reports it adds
pub one_is : (held : HeldChunks) (r : FreeListRegion) (b : Bool) → IsTrue b ↔ IsWholeChunk held r → one (is_whole held) r ≡ bool_byte b
one_is held r true tells = ap (λ b. cond b 1 0) ((whole_test held r).1 (tells.0 refl))
one_is held r false tells = ap (λ b. cond b 1 0) (not_whole held r (λ w. let yes = tells.1 w in absurd (cc)))

-- one that ends before its chunk does
ends_early : (held : HeldChunks) (r : FreeListRegion) (c : Chunk) → map.get held r.chunk ≡ Some c → r.end < c.size → is_whole held r ≡ false
ends_early held r c is early = not_whole held r (λ w. let e = w.is in let same : w.chunk ≡ c = cc in omega (arith, early, w.end, ap (λ (x : Chunk). x.size) same))

-- one that starts after its chunk's start
starts_late : (held : HeldChunks) (r : FreeListRegion) → 0 < r.start → is_whole held r ≡ false
starts_late held r late = not_whole held r (λ w. omega (arith, late, w.start))

-- The count.

-- chunks that say the same of each run count the same
pub wholes_same : (a b : HeldChunks) (regions : List FreeListRegion) → ((r : FreeListRegion) → Contains regions r → map.get a r.chunk ≡ map.get b r.chunk) → wholes a regions ≡ wholes b regions
wholes_same a b [] same = refl
wholes_same a b (r ∷ regions) same =
    let first : one (is_whole a) r ≡ one (is_whole b) r = ap (λ c. cond ((r.start == 0) && has_size c r.end) 1 0) (same r (contains_head r regions)) in
    let rest : wholes a regions ≡ wholes b regions = wholes_same a b regions (λ q has. same q (contains_later r q regions has)) in
    omega (arith, count_next (is_whole a) r regions, count_next (is_whole b) r regions, first, rest)

module _ (held : HeldChunks) where
  -- a run is counted among the others
  pub one_counts : (regions : List FreeListRegion) (i : ℕ) (d : FreeListRegion) → i < length regions → one (is_whole held) (get_or regions i d) ≤ wholes held regions
  one_counts regions i d within = omega (arith, count_removed (is_whole held) regions i d within)

  -- one more at the end, which is none
  pub wholes_pushed : (regions : List FreeListRegion) (r : FreeListRegion) (c : Chunk) → map.get held r.chunk ≡ Some c → r.end < c.size → wholes held (regions ++ r ∷ []) ≡ wholes held regions
  wholes_pushed regions r c is early =
      let none : one (is_whole held) r ≡ 0 = ap (λ b. cond b 1 0) (ends_early held r c is early) in
      omega (arith, count_both (is_whole held) regions (r ∷ []), count_next (is_whole held) r [], none)

  -- a run loses its tail or is removed
  pub wholes_cut : (old new : List FreeListRegion) (i start : ℕ) (d : FreeListRegion) (c : Chunk) → i < length old → map.get held (get_or old i d).chunk ≡ Some c → start < c.size → Cuts old i start new
      → wholes held new + one (is_whole held) (get_or old i d) ≡ wholes held old
  wholes_cut old new i start d c within is early cuts = elim (cuts d) [
    | inl some ↦
        let front : FreeListRegion = record (get_or old i d) { end = start } in
        let none : one (is_whole held) front ≡ 0 = ap (λ b. cond b 1 0) (ends_early held front c is early) in
        omega (arith, ap (wholes held) some.1, count_set (is_whole held) old front i d within, none)
    | inr gone ↦ omega (arith, ap (wholes held) gone.1, count_removed (is_whole held) old i d within)
  ]

  -- a block comes back
  pub wholes_back : (old : List FreeListRegion) (x joint : FreeListRegion) (new : List FreeListRegion) (c : Chunk) → map.get held x.chunk ≡ Some c → x.start < x.end → x.end ≤ c.size → PutsBack old x joint new
      → wholes held new ≡ wholes held old + one (is_whole held) joint
  wholes_back old x joint new c is some inside p =
      ap (wholes held) p.is
      ∙ count_spliced (is_whole held) old joint p.from p.to (joint_order old p.place x x p.from p.to joint (p.joined x) p.at.within) (joint_within old p.place x x p.from p.to joint (p.joined x) p.at.within) touched
    where
      touched : (k : ℕ) (d : FreeListRegion) → p.from ≤ k → k < p.to → is_whole held (get_or old k d) ≡ false
      touched k d from to =
          let j = p.joined d in
          elim (cases_lt k p.place) [
            | inl less ↦ elim (j.before) [
              | inl touches ↦
                  let here : p.place - 1 ≡ k = omega (arith, touches.1.0, from, less) in
                  let chunk : (get_or old k d).chunk ≡ x.chunk = ap (λ n. (get_or old n d).chunk) (sym here) ∙ touches.0.1.0 in
                  let end : (get_or old k d).end ≡ x.start = ap (λ n. (get_or old n d).end) (sym here) ∙ touches.0.1.1 in
                  ends_early held (get_or old k d) c (ap (map.get held) chunk ∙ is) (omega (arith, end, some, inside))
              | inr apart ↦ absurd (omega (arith, apart.1.0, from, less))
            ]
            | inr more ↦ elim (j.after) [
              | inl touches ↦
                  let here : p.place ≡ k = omega (arith, touches.1.0, to, more) in
                  let start : (get_or old k d).start ≡ x.end = ap (λ n. (get_or old n d).start) (sym here) ∙ touches.0.1.1 in
                  starts_late held (get_or old k d) (omega (arith, start, some))
              | inr apart ↦ absurd (omega (arith, apart.1.0, to, more))
            ]
          ]

  -- a run is taken out
  pub wholes_removed : (old : List FreeListRegion) (i : ℕ) (d : FreeListRegion) → i < length old → IsWholeChunk held (get_or old i d) → wholes held (remove old i) + 1 ≡ wholes held old
  wholes_removed old i d within whole =
      let is : one (is_whole held) (get_or old i d) ≡ 1 = ap (λ b. cond b 1 0) ((whole_test held (get_or old i d)).1 whole) in
      omega (arith, count_removed (is_whole held) old i d within, is)

  -- What the count says.

  -- one that may be taken is counted
  pub taken_counts : (regions : List FreeListRegion) (keep_last : Bool) (d : FreeListRegion) (i : ℕ) → MayBeTaken held regions keep_last d i → 0 < wholes held regions
  taken_counts regions keep_last d i taken = counts (is_whole held) regions i d taken.within ((whole_test held (get_or regions i d)).1 taken.whole)

  -- beside a last one that is kept it makes two
  pub two_count : (regions : List FreeListRegion) (keep_last : Bool) (d : FreeListRegion) (i last : ℕ) → keep_last ≡ true → MayBeTaken held regions keep_last d i → last + 1 ≡ length regions
      → IsWholeChunk held (get_or regions last d) → 1 < wholes held regions
  two_count regions keep_last d i last keep taken end whole =
      let more = taken.not_last keep in
      counts_two (is_whole held) regions i last d (omega (arith, more, end)) (omega (arith, end)) ((whole_test held (get_or regions i d)).1 taken.whole) ((whole_test held (get_or regions last d)).1 whole)
