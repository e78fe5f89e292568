-- The live blocks and free ranges of a shared object cover it, each byte once.
use Rattle.std.proofs.Common.{◌≡◌, ◌≢◌, ◌⊎◌, inl, inr, ℕ, ◌+◌, ◌-◌, ◌<◌, ◌≤◌, Bool, true, false, not, ◌&&◌, ◌==◌, List, map, Some, refl, sym, ◌∙◌, ap, subst, arith}
use Rattle.std.proofs.lemmas.Bool.{cases_lt}
use Rattle.std.proofs.lemmas.Bool.Decides.{nat_tests}
use Rattle.std.proofs.lemmas.List.Elements.{Contains-append_left, Contains-append_right, Contains-append_cases}
use Rattle.std.proofs.lemmas.List.Sorted.{IsPermutation-sym, Contains-permutation}
use Rattle.std.proofs.lemmas.Map.Keys.{IsDistinct-IsPermutation}
use Rattle.std.specs.FinMap as finite
use Rattle.std.specs.List.{Contains, IsDistinct, filter}
use Rattle.std.specs.Prelude.{nat_lt}
use Rattle.gpu_alloc_types.specs.declared.types.FreeRange.{FreeRange}
use Rattle.gpu_alloc_base.specs.FreeSpace.{IsIn}
use Rattle.gpu_alloc_base.proofs.ListViews.{contains_name}
use Rattle.gpu_alloc_base.proofs.Lists.{seek}
use Rattle.gpu_alloc_base.proofs.Maps.{one_value}
use Rattle.gpu_alloc_base.specs.RangeOrder.{same_start}
use Rattle.gpu_alloc_base.proofs.RangeOrder.{order_is_distinct, start_test}
use Rattle.gpu_alloc.proofs.FreeRanges.{distinct_append}
use Rattle.gpu_alloc_block.specs.declared.block.Kind.{Kind}
use Rattle.gpu_alloc_block.specs.declared.block.Kind.TheVariants.{Dedicated, Imported, BuddyChunk, FreeListChunk, FitChunk}
use Rattle.gpu_alloc.specs.FreeRanges.{HasByte, IsFreeOf, IsFreeRangeOf}
use Rattle.gpu_alloc.specs.Sound.{IsSound, LiesIn}
use Rattle.gpu_alloc.specs.State.{HeldObject, Span, State, IsLive, is_shared}
use Rattle.gpu_report.specs.Free.{AreFreeRanges}
use Rattle.gpu_report.specs.Live.{live_block_span, AreLive}
use Rattle.gpu_report.specs.Places.{block_place, free_place, places_in, ArePlaces, Tile}
use Rattle.gpu_report.specs.declared.live.LiveBlock.{LiveBlock}
use Rattle.gpu_report.specs.declared.report.Place.{Place}
use Rattle.gpu_report.proofs.Members.{from_mapped, from_filtered, to_filtered, distinct_kept}
use Rattle.gpu_report.proofs.Spans.{live_listed, listed_live, once_distinct, same_span, span_other}
use Rattle.gpu_report.proofs.Tiling.{same_offset, tile_from, IsAt, LiesBetween}

lies_within : (kind : Kind) (counted : ℕ) (span : Span) → is_shared kind ≡ true → LiesIn kind counted span → span.offset + span.size ≤ counted
lies_within Dedicated counted span shared lies = absurd (cc)
lies_within Imported counted span shared lies = absurd (cc)
lies_within BuddyChunk counted span shared lies = lies
lies_within (FreeListChunk number) counted span shared lies = lies
lies_within FitChunk counted span shared lies = lies

-- What is known of the lists, and of the object.
pub record IsKnownOf (s : State) (object : ℕ) (h : HeldObject) (live : List LiveBlock) (free : List FreeRange) : Type 0 where
  pub sound : IsSound s
  pub are_live : AreLive s live
  pub are_free : AreFreeRanges s h.memory_type free
  pub held : finite.get s.held object ≡ Some h
  pub shared : is_shared h.kind ≡ true

-- What is known of free ranges and free bytes.
pub record AreTheFree (s : State) (t : ℕ) : Type 0 where
  pub covers : (object at : ℕ) → IsFreeOf s t object at → (r : FreeRange) × IsFreeRangeOf s t r × HasByte r object at
  pub free : (r : FreeRange) → IsFreeRangeOf s t r → (object at : ℕ) → HasByte r object at → IsFreeOf s t object at
  pub apart : (r q : FreeRange) → IsFreeRangeOf s t r → IsFreeRangeOf s t q → (object at : ℕ) → HasByte r object at → HasByte q object at → r ≡ q
  pub nonempty : (r : FreeRange) → IsFreeRangeOf s t r → r.start < r.end

module _ (s : State) (object : ℕ) (h : HeldObject) (live : List LiveBlock) (free : List FreeRange) (k : IsKnownOf s object h live free) (law : AreTheFree s h.memory_type) where
  -- A live block of the object.
  record IsBlock (b : LiveBlock) : Type 0 where
    has : Contains live b
    of : b.object ≡ object

  is_live : (b : LiveBlock) → IsBlock b → IsLive s (live_block_span b)
  is_live b is = live_listed s (map live_block_span live) k.are_live.exact (live_block_span b) (contains_name live_block_span live b is.has)

  block_lies : (b : LiveBlock) → IsBlock b → LiesBetween 0 h.counted (block_place b)
  block_lies b is =
      let there = k.sound.inside (live_block_span b) (is_live b is) in
      let same : there.0 ≡ h = one_value _ there.0 h (subst (λ o. finite.get s.held o ≡ Some there.0) is.of there.1) k.held in
      let lies = subst (λ (x : HeldObject). LiesIn x.kind x.counted (live_block_span b)) same there.2 in
      let inside = lies_within h.kind h.counted (live_block_span b) k.shared lies in
      record { from = omega arith; some = k.sound.nonempty (live_block_span b) (is_live b is); to = inside }

  -- A free range of the object.
  record IsRange (r : FreeRange) : Type 0 where
    has : Contains free r
    of : r.object ≡ object

  is_free : (r : FreeRange) → IsRange r → IsFreeRangeOf s h.memory_type r
  is_free r is = (k.are_free.exact r).0 is.has

  free_at : (r : FreeRange) (is : IsRange r) (x : ℕ) → r.start ≤ x → x < r.end → IsFreeOf s h.memory_type object x
  free_at r is x low high = law.free r (is_free r is) object x (record { of = is.of; from = low; to = high })

  counted : (x : ℕ) → IsFreeOf s h.memory_type object x → x < h.counted
  counted x is = let same = one_value _ is.free.chunk h is.free.held k.held in omega (arith, is.free.inside, ap (λ (y : HeldObject). y.counted) same)

  range_lies : (r : FreeRange) → IsRange r → LiesBetween 0 h.counted (free_place r)
  range_lies r is =
      let some = law.nonempty r (is_free r is) in
      let last = counted (r.end - 1) (free_at r is (r.end - 1) (omega arith) (omega arith)) in
      record { from = omega arith; some = omega arith; to = omega arith }

  -- no byte is both
  not_both : (b : LiveBlock) (r : FreeRange) → IsBlock b → IsRange r → (x : ℕ) → b.offset ≤ x → x < b.offset + b.size → r.start ≤ x → x < r.end → ⊥
  not_both b r block range x low high from to = (free_at r range x from to).free.unused (live_block_span b) (is_live b block) block.of (record { from = low; to = high })

  -- A place is a block's or a range's.
  record OfBlock (p : Place) : Type 0 where
    block : LiveBlock
    is : IsBlock block
    place : block_place block ≡ p

  record OfRange (p : Place) : Type 0 where
    range : FreeRange
    is : IsRange range
    place : free_place range ≡ p

  abbrev us : List Place
  us = places_in live free object

  named : (x : ℕ) → (x == object) ≡ true → x ≡ object
  named x e = grind (arith, nat_tests)

  names : (x : ℕ) → x ≡ object → (x == object) ≡ true
  names x e = grind (arith, nat_tests)

  which : (p : Place) → Contains us p → OfBlock p ⊎ OfRange p
  which p has = elim (Contains-append_cases (map block_place (filter (λ b. b.object == object) live)) (map free_place (filter (λ r. r.object == object) free)) p has) [
    | inl block ↦ let m = from_mapped block_place (filter (λ b. b.object == object) live) p block in
        let f = from_filtered (λ (b : LiveBlock). b.object == object) live m.0 m.1 in
        inl (record { block = m.0; is = record { has = f.0; of = named m.0.object f.1 }; place = m.2 })
    | inr range ↦ let m = from_mapped free_place (filter (λ r. r.object == object) free) p range in
        let f = from_filtered (λ (r : FreeRange). r.object == object) free m.0 m.1 in
        inr (record { range = m.0; is = record { has = f.0; of = named m.0.object f.1 }; place = m.2 })
  ]

  block_there : (b : LiveBlock) → IsBlock b → Contains us (block_place b)
  block_there b is = Contains-append_left _ _ (block_place b)
      (contains_name block_place (filter (λ x. x.object == object) live) b (to_filtered (λ (x : LiveBlock). x.object == object) live b is.has (names b.object is.of)))

  range_there : (r : FreeRange) → IsRange r → Contains us (free_place r)
  range_there r is = Contains-append_right _ _ (free_place r)
      (contains_name free_place (filter (λ x. x.object == object) free) r (to_filtered (λ (x : FreeRange). x.object == object) free r is.has (names r.object is.of)))

  between : (p : Place) → Contains us p → LiesBetween 0 h.counted p
  between p has = elim (which p has) [
    | inl b ↦ subst (LiesBetween 0 h.counted) b.place (block_lies b.block b.is)
    | inr r ↦ subst (LiesBetween 0 h.counted) r.place (range_lies r.range r.is)
  ]

  -- none starts inside another
  AreApart : Place → Place → Type 0
  AreApart p q = p.offset < q.offset → p.offset + p.size ≤ q.offset

  blocks_apart : (b c : LiveBlock) → IsBlock b → IsBlock c → AreApart (block_place b) (block_place c)
  unfolding AreApart
  blocks_apart b c in_b in_c lt =
      let other : live_block_span b ≢ live_block_span c = λ same. (let offset : b.offset ≡ c.offset = ap (λ (x : Span). x.offset) same in omega (arith, offset, lt)) in
      let some = k.sound.nonempty (live_block_span c) (is_live c in_c) in
      elim (k.sound.apart (live_block_span b) (live_block_span c) (is_live b in_b) (is_live c in_c) other) [
        | inl objects ↦ absurd (objects (in_b.of ∙ sym in_c.of))
        | inr ends ↦ elim ends [ inl before ↦ before | inr after ↦ absurd (omega (arith, after, some, lt)) ]
      ]

  block_range : (b : LiveBlock) (r : FreeRange) → IsBlock b → IsRange r → AreApart (block_place b) (free_place r)
  unfolding AreApart
  block_range b r block range lt = elim (cases_lt r.start (b.offset + b.size)) [
    | inl inside ↦ absurd (not_both b r block range r.start (omega arith) inside (omega arith) (law.nonempty r (is_free r range)))
    | inr past ↦ past
  ]

  range_block : (r : FreeRange) (b : LiveBlock) → IsRange r → IsBlock b → AreApart (free_place r) (block_place b)
  unfolding AreApart
  range_block r b range block lt =
      let some = k.sound.nonempty (live_block_span b) (is_live b block) in
      let nonempty = law.nonempty r (is_free r range) in
      elim (cases_lt b.offset r.end) [
        | inl inside ↦ absurd (not_both b r block range b.offset (omega arith) (omega (arith, some)) (omega arith) inside)
        | inr past ↦ omega (arith, past, nonempty)
      ]

  ranges_apart : (r q : FreeRange) → IsRange r → IsRange q → AreApart (free_place r) (free_place q)
  unfolding AreApart
  ranges_apart r q in_r in_q lt =
      let some = law.nonempty q (is_free q in_q) in
      let nonempty = law.nonempty r (is_free r in_r) in
      elim (cases_lt q.start r.end) [
        | inl inside ↦
            let one = law.apart r q (is_free r in_r) (is_free q in_q) object q.start (record { of = in_r.of; from = omega arith; to = inside }) (record { of = in_q.of; from = omega arith; to = some }) in
            let starts : r.start ≡ q.start = ap (λ (x : FreeRange). x.start) one in
            absurd (omega (arith, starts, lt))
        | inr past ↦ omega (arith, past, nonempty)
      ]

  apart : (p q : Place) → Contains us p → Contains us q → AreApart p q
  apart p q has_p has_q = elim (which p has_p) [
    | inl b ↦ elim (which q has_q) [
      | inl c ↦ subst (λ z. AreApart z q) b.place (subst (AreApart (block_place b.block)) c.place (blocks_apart b.block c.block b.is c.is))
      | inr r ↦ subst (λ z. AreApart z q) b.place (subst (AreApart (block_place b.block)) r.place (block_range b.block r.range b.is r.is))
    ]
    | inr r ↦ elim (which q has_q) [
      | inl b ↦ subst (λ z. AreApart z q) r.place (subst (AreApart (free_place r.range)) b.place (range_block r.range b.block r.is b.is))
      | inr t ↦ subst (λ z. AreApart z q) r.place (subst (AreApart (free_place r.range)) t.place (ranges_apart r.range t.range r.is t.is))
    ]
  ]

  -- Each byte is at one.
  has_byte : ℕ → LiveBlock → Bool
  has_byte x b = (b.object == object) && (not (nat_lt x b.offset) && nat_lt x (b.offset + b.size))

  covered_by : (x : ℕ) (b : LiveBlock) → has_byte x b ≡ true → (b.object ≡ object) × IsIn b.offset b.size x
  unfolding has_byte
  covered_by x b e = (grind (arith, nat_tests), record { from = grind (arith, nat_tests); to = grind (arith, nat_tests) })

  covers_it : (x : ℕ) (b : LiveBlock) → b.object ≡ object → IsIn b.offset b.size x → has_byte x b ≡ true
  unfolding has_byte
  covers_it x b is inside = let low = inside.from in let high = inside.to in grind (arith, nat_tests)

  free_else : (x : ℕ) → x < h.counted → ((b : LiveBlock) → Contains live b → has_byte x b ≡ false) → IsFreeOf s h.memory_type object x
  free_else x inside none = record {
    kind = h.kind;
    shared = k.shared;
    free = record {
      chunk = h;
      held = k.held;
      of_type = refl;
      of_kind = refl;
      inside = inside;
      unused = λ span is_live is lies.
          let listed = from_mapped live_block_span live span (listed_live s (map live_block_span live) k.are_live.exact span is_live) in
          let no = none listed.0 listed.1 in
          let yes = subst (λ (z : Span). z.object ≡ object → IsIn z.offset z.size x → has_byte x listed.0 ≡ true) listed.2 (covers_it x listed.0) is lies in
          absurd (cc);
    };
  }

  covered : (x : ℕ) → 0 ≤ x → x < h.counted → IsAt us x
  covered x low high = elim (seek (has_byte x) live) [
    | inl found ↦ let there = covered_by x found.0 found.2 in
        record { place = block_place found.0; has = block_there found.0 (record { has = found.1; of = there.0 }); from = there.1.from; to = there.1.to }
    | inr none ↦ let r = law.covers object x (free_else x high none) in
        let from = r.2.from in
        let to = r.2.to in
        record { place = free_place r.0; has = range_there r.0 (record { has = (k.are_free.exact r.0).1 r.1; of = r.2.of }); from = from; to = omega arith }
  ]

  -- No two start at one byte.
  starts_differ : (p q : Place) → p.offset ≢ q.offset → same_offset p q ≡ false
  starts_differ p q ne = grind (arith, nat_tests)

  blocks_start_apart : (b c : LiveBlock) → IsBlock b → IsBlock c → same_span b c ≡ false → same_offset (block_place b) (block_place c) ≡ false
  blocks_start_apart b c in_b in_c other = starts_differ (block_place b) (block_place c) (λ same.
      let some = k.sound.nonempty (live_block_span b) (is_live b in_b) in
      let more = k.sound.nonempty (live_block_span c) (is_live c in_c) in
      elim (k.sound.apart (live_block_span b) (live_block_span c) (is_live b in_b) (is_live c in_c) (span_other b c other)) [
        | inl objects ↦ objects (in_b.of ∙ sym in_c.of)
        | inr ends ↦ elim ends [ inl before ↦ omega (arith, before, some, same) | inr after ↦ omega (arith, after, more, same) ]
      ])

  ranges_start_apart : (r q : FreeRange) → IsRange r → IsRange q → same_start r q ≡ false → same_offset (free_place r) (free_place q) ≡ false
  ranges_start_apart r q in_r in_q other = starts_differ (free_place r) (free_place q) (λ same.
      let one = (start_test r q).1 (in_r.of ∙ sym in_q.of, same) in absurd (cc))

  both_start_apart : (p q : Place) → OfBlock p → OfRange q → same_offset p q ≡ false
  both_start_apart p q b r = starts_differ p q (λ same.
      let at_p : b.block.offset ≡ p.offset = ap (λ (z : Place). z.offset) b.place in
      let at_q : r.range.start ≡ q.offset = ap (λ (z : Place). z.offset) r.place in
      let some = k.sound.nonempty (live_block_span b.block) (is_live b.block b.is) in
      let nonempty = law.nonempty r.range (is_free r.range r.is) in
      not_both b.block r.range b.is r.is b.block.offset (omega arith) (omega (arith, some)) (omega (arith, at_p, at_q, same)) (omega (arith, at_p, at_q, same, nonempty)))

  distinct : IsDistinct same_offset us
  distinct = distinct_append same_offset (map block_place (filter (λ b. b.object == object) live)) (map free_place (filter (λ r. r.object == object) free))
      (distinct_kept block_place (λ b. b.object == object) same_span same_offset live (once_distinct live k.are_live.once)
      (λ b c in_b in_c of_b of_c other. blocks_start_apart b c (record { has = in_b; of = named b.object of_b }) (record { has = in_c; of = named c.object of_c }) other))
      (distinct_kept free_place (λ r. r.object == object) same_start same_offset free (order_is_distinct free k.are_free.order)
      (λ r q in_r in_q of_r of_q other. ranges_start_apart r q (record { has = in_r; of = named r.object of_r }) (record { has = in_q; of = named q.object of_q }) other))
      (λ p q in_blocks in_ranges.
      let b = from_mapped block_place (filter (λ x. x.object == object) live) p in_blocks in
      let kept_b = from_filtered (λ (x : LiveBlock). x.object == object) live b.0 b.1 in
      let r = from_mapped free_place (filter (λ x. x.object == object) free) q in_ranges in
      let kept_r = from_filtered (λ (x : FreeRange). x.object == object) free r.0 r.1 in
      both_start_apart p q (record { block = b.0; is = record { has = kept_b.0; of = named b.0.object kept_b.1 }; place = b.2 })
      (record { range = r.0; is = record { has = kept_r.0; of = named r.0.object kept_r.1 }; place = r.2 }))

  flips : (p q : Place) → same_offset p q ≡ same_offset q p
  flips p q = grind (arith, nat_tests)

  -- So, in order, they tile it.
  pub tiled : (places : List Place) → ArePlaces live free object places → Tile 0 h.counted places
  unfolding AreApart
  tiled places are =
      let back = IsPermutation-sym us places are.each in
      let was = λ (p : Place) (has : Contains places p). Contains-permutation places us p back has in
      tile_from 0 h.counted places (omega arith) are.rising (IsDistinct-IsPermutation same_offset flips us places are.each distinct) (record {
        between = λ p has. between p (was p has);
        apart = λ p q has_p has_q. apart p q (was p has_p) (was q has_q);
        covered = λ x low high. let found = covered x low high in record { place = found.place; has = Contains-permutation us places found.place are.each found.has; from = found.from; to = found.to };
      })
