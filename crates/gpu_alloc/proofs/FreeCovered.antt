-- Each free byte lies in one free range, and each byte of a free range is free.
use Rattle.std.proofs.Common.{◌≡◌, ◌⊎◌, inl, inr, ℕ, ◌+◌, ◌<◌, ◌≤◌, Bool, true, false, not, ◌&&◌, ◌==◌, min, max, refl, sym, ◌∙◌, ap, subst, arith}
use Rattle.std.proofs.lemmas.Nat.{pow_pos}
use Rattle.std.proofs.lemmas.Bool.{cases_lt}
use Rattle.std.proofs.lemmas.Bool.Decides.{nat_tests}
use Rattle.std.proofs.lemmas.Cmp.{eq_by_cmp_equiv}
use Rattle.std.proofs.lemmas.Map.Views.{Contains-from_any, list_any-from_Contains}
use Rattle.std.specs.FinSet as set
use Rattle.std.specs.List.{Contains}
use Rattle.std.specs.Prelude.{nat_lt}
use Rattle.gpu_alloc_types.specs.declared.types.FreeRange.{FreeRange}
use Rattle.gpu_alloc_base.specs.FreeRuns.{IsFreeRun}
use Rattle.gpu_alloc_base.specs.FreeSpace.{IsIn, IsFreePiece}
use Rattle.gpu_alloc_base.proofs.ExactPieces.{one_free_piece}
use Rattle.gpu_alloc_base.proofs.Lists.{seek}
use Rattle.gpu_alloc_base.proofs.Maps.{one_value}
use Rattle.gpu_alloc_block.specs.State.{HeldObject, Span, State, IsLive, is_shared}
use Rattle.gpu_alloc_block.specs.declared.block.Kind.{Kind}
use Rattle.gpu_alloc_block.specs.declared.block.Kind.TheVariants.{Dedicated, Imported, BuddyChunk, FreeListChunk, FitChunk}
use Rattle.gpu_alloc_block.proofs.LiveSpans.{span_test, span_total}
use Rattle.gpu_alloc.specs.FreeBytes.{IsFreeByte}
use Rattle.gpu_alloc.specs.FreeRanges.{HasByte, IsFreeOf, IsFreePieceOf, IsFreeRunOf, IsFreeRangeOf, has_runs}
use Rattle.gpu_alloc.proofs.LongestRanges.{piece_around, run_around}

-- A byte can be tested.

pub live_item : (s : State) (span : Span) → IsLive s span → Contains (set.items s.live) span
live_item s span live = Contains-from_any (λ x y h. (span_test x y).0 h) span (set.items s.live) (sym (set.contains-items s.live span) ∙ live)

pub item_live : (s : State) (span : Span) → Contains (set.items s.live) span → IsLive s span
item_live s span has = set.contains-items s.live span ∙ list_any-from_Contains (eq_by_cmp_equiv span_total) span (set.items s.live) has

has_byte : ℕ → ℕ → Span → Bool
has_byte object x span = (span.object == object) && (not (nat_lt x span.offset) && nat_lt x (span.offset + span.size))

covers : (object x : ℕ) (span : Span) → span.object ≡ object → IsIn span.offset span.size x → has_byte object x span ≡ true
unfolding has_byte
covers object x span is inside = let low = inside.from in let high = inside.to in grind (arith, nat_tests)

covered : (object x : ℕ) (span : Span) → has_byte object x span ≡ true → (span.object ≡ object) × IsIn span.offset span.size x
unfolding has_byte
covered object x span e = (grind (arith, nat_tests), record { from = grind (arith, nat_tests); to = grind (arith, nat_tests) })

module _ (s : State) (t : ℕ) (kind : Kind) (object at : ℕ) (free : IsFreeByte s t kind object at) where
  test_byte : (x : ℕ) → IsFreeByte s t kind object x ⊎ (IsFreeByte s t kind object x → ⊥)
  test_byte x = elim (cases_lt x free.chunk.counted) [
    | inr past ↦ inr (λ is. let same = one_value _ is.chunk free.chunk is.held free.held in
        let counted : is.chunk.counted ≡ free.chunk.counted = ap (λ (h : HeldObject). h.counted) same in
        omega (arith, is.inside, counted))
    | inl inside ↦ elim (seek (has_byte object x) (set.items s.live)) [
      | inl found ↦ inr (λ is. let there = covered object x found.0 found.2 in is.unused found.0 (item_live s found.0 found.1) there.0 there.1)
      | inr none ↦ inl (record {
        chunk = free.chunk;
        held = free.held;
        of_type = free.of_type;
        of_kind = free.of_kind;
        inside = inside;
        unused = λ span live is lies. let no = none span (live_item s span live) in let yes = covers object x span is lies in absurd (cc);
      })
    ]
  ]

  ends : (x : ℕ) → IsFreeByte s t kind object x → x < free.chunk.counted
  ends x is = let same = one_value _ is.chunk free.chunk is.held free.held in omega (arith, is.inside, ap (λ (h : HeldObject). h.counted) same)

-- So it lies in a longest range.

pub free_byte_covered : (s : State) (t object at : ℕ) → IsFreeOf s t object at → (r : FreeRange) × IsFreeRangeOf s t r × HasByte r object at
free_byte_covered s t object at is = cases is.kind is.shared is.free
  where
    in_run : (kind : Kind) → has_runs kind ≡ true → IsFreeByte s t kind object at → (r : FreeRange) × IsFreeRangeOf s t r × HasByte r object at
    in_run kind runs free =
        let a = run_around (IsFreeByte s t kind) object (test_byte s t kind object at free) free.chunk.counted (ends s t kind object at free) at free in
        let r : FreeRange = record { object = object; start = a.start; end = a.past } in
        (r, inr (record { kind = kind; in_runs = runs; run = a.run }), record { of = refl; from = a.from; to = a.to })

    cases : (kind : Kind) → is_shared kind ≡ true → IsFreeByte s t kind object at → (r : FreeRange) × IsFreeRangeOf s t r × HasByte r object at
    cases Dedicated shared free = absurd (cc)
    cases Imported shared free = absurd (cc)
    cases BuddyChunk shared free =
        let p = piece_around (IsFreeByte s t BuddyChunk) object (test_byte s t BuddyChunk object at free) free.chunk.counted (ends s t BuddyChunk object at free) at free in
        let r : FreeRange = record { object = object; start = p.start; end = p.start + p.length } in
        (r, inl (record { length = p.length; end = refl; piece = p.piece }), record { of = refl; from = p.inside.from; to = p.inside.to })
    cases (FreeListChunk number) shared free = in_run (FreeListChunk number) refl free
    cases FitChunk shared free = in_run FitChunk refl free

-- Each byte of a range is free, and two ranges share none.

pub range_nonempty : (s : State) (t : ℕ) (r : FreeRange) → IsFreeRangeOf s t r → r.start < r.end
range_nonempty s t r is = elim is [ inl piece ↦ omega (arith, piece.end, some_bytes piece) | inr run ↦ run.run.nonempty ]
  where
    some_bytes : (p : IsFreePieceOf s t r) → 0 < p.length
    some_bytes p = let power = p.piece.place.power in let some = pow_pos power.0 in omega (arith, some, power.1)

-- an object in which runs are free is shared
pub runs_shared : (kind : Kind) → has_runs kind ≡ true → is_shared kind ≡ true
runs_shared Dedicated runs = absurd (cc)
runs_shared Imported runs = absurd (cc)
runs_shared BuddyChunk runs = refl
runs_shared (FreeListChunk number) runs = refl
runs_shared FitChunk runs = refl

pub range_is_free : (s : State) (t : ℕ) (r : FreeRange) → IsFreeRangeOf s t r → (object at : ℕ) → HasByte r object at → IsFreeOf s t object at
range_is_free s t r is object at has = subst (λ o. IsFreeOf s t o at) has.of (elim is [
  | inl piece ↦ record { kind = BuddyChunk; shared = refl; free = piece.piece.place.free at (record { from = has.from; to = omega (arith, has.to, piece.end) }) }
  | inr run ↦ record { kind = run.kind; shared = runs_shared run.kind run.in_runs; free = run.run.free at has.from has.to }
])

-- two runs that share a byte are one
one_free_run : (F : ℕ → ℕ → Type 0) (chunk a e b f at : ℕ) → IsFreeRun F chunk a e → IsFreeRun F chunk b f → a ≤ at → at < e → b ≤ at → at < f → (a ≡ b) × (e ≡ f)
one_free_run F chunk a e b f at p q a_le lt_e b_le lt_f =
    let one = p.longest (min a b) (max e f) both (omega arith) (omega arith) in
    let two = q.longest (min a b) (max e f) both (omega arith) (omega arith) in
    (omega (arith, one.0, two.0), omega (arith, one.1, two.1))
  where
    both : (x : ℕ) → min a b ≤ x → x < max e f → F chunk x
    both x low high = elim (cases_lt x at) [
      | inl below ↦ elim (cases_lt x a) [ inl before ↦ q.free x (omega arith) (omega arith) | inr from ↦ p.free x from (omega arith) ]
      | inr above ↦ elim (cases_lt x e) [ inl to ↦ p.free x (omega arith) to | inr past ↦ q.free x (omega arith) (omega arith) ]
    ]

same_range : (r q : FreeRange) → r.object ≡ q.object → r.start ≡ q.start → r.end ≡ q.end → r ≡ q
same_range r q o a e = λ i. record { object = o i; start = a i; end = e i }

-- what the free bytes of an object are held for
pub one_kind : (s : State) (t object at other : ℕ) (k l : Kind) → IsFreeByte s t k object at → IsFreeByte s t l object other → k ≡ l
one_kind s t object at other k l x y = sym x.of_kind ∙ ap (λ (h : HeldObject). h.kind) (one_value _ x.chunk y.chunk x.held y.held) ∙ y.of_kind

-- no runs are free in a buddy chunk
not_in_runs : (kind : Kind) → has_runs kind ≡ true → BuddyChunk ≡ kind → ⊥
not_in_runs kind runs same = let none : has_runs kind ≡ false = ap has_runs (sym same) in absurd (cc)

pub ranges_apart : (s : State) (t : ℕ) (r q : FreeRange) → IsFreeRangeOf s t r → IsFreeRangeOf s t q → (object at : ℕ) → HasByte r object at → HasByte q object at → r ≡ q
ranges_apart s t r q r_is q_is object at in_r in_q = elim r_is [
  | inl p ↦ elim q_is [
    | inl p' ↦ pieces p p'
    | inr l ↦ absurd (not_in_runs l.kind l.in_runs (one_kind s t object at at BuddyChunk l.kind (piece_byte r p in_r) (run_byte q l in_q)))
  ]
  | inr l ↦ elim q_is [
    | inl p ↦ absurd (not_in_runs l.kind l.in_runs (one_kind s t object at at BuddyChunk l.kind (piece_byte q p in_q) (run_byte r l in_r)))
    | inr l' ↦ runs l l'
  ]
]
  where
    piece_byte : (x : FreeRange) (p : IsFreePieceOf s t x) → HasByte x object at → IsFreeByte s t BuddyChunk object at
    piece_byte x p has = subst (λ o. IsFreeByte s t BuddyChunk o at) has.of (p.piece.place.free at (record { from = has.from; to = omega (arith, has.to, p.end) }))

    run_byte : (x : FreeRange) (l : IsFreeRunOf s t x) → HasByte x object at → IsFreeByte s t l.kind object at
    run_byte x l has = subst (λ o. IsFreeByte s t l.kind o at) has.of (l.run.free at has.from has.to)

    pieces : IsFreePieceOf s t r → IsFreePieceOf s t q → r ≡ q
    pieces p p' =
        let objects = in_r.of ∙ sym in_q.of in
        let here : IsIn r.start p.length at = record { from = in_r.from; to = omega (arith, in_r.to, p.end) } in
        let there : IsIn q.start p'.length at = record { from = in_q.from; to = omega (arith, in_q.to, p'.end) } in
        let other = subst (λ o. IsFreePiece (IsFreeByte s t BuddyChunk) o q.start p'.length) (sym objects) p'.piece in
        let one = one_free_piece (IsFreeByte s t BuddyChunk) r.object r.start p.length q.start p'.length at p.piece other here there in
        same_range r q objects one.0 (omega (arith, p.end, p'.end, one.0, one.1))

    runs : IsFreeRunOf s t r → IsFreeRunOf s t q → r ≡ q
    runs l l' =
        let objects = in_r.of ∙ sym in_q.of in
        let kinds = one_kind s t object at at l'.kind l.kind (run_byte q l' in_q) (run_byte r l in_r) in
        let other = subst (λ k. IsFreeRun (IsFreeByte s t k) q.object q.start q.end) kinds l'.run in
        let one = one_free_run (IsFreeByte s t l.kind) r.object r.start r.end q.start q.end at l.run
        (subst (λ o. IsFreeRun (IsFreeByte s t l.kind) o q.start q.end) (sym objects) other) in_r.from in_r.to in_q.from in_q.to in
        same_range r q objects one.0 one.1
