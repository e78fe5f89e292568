-- What the table, the heaps and the count keep, as objects and spans come and go.
use Rattle.std.proofs.Common.{◌≡◌, ◌≢◌, ◌⊎◌, ℕ, ◌+◌, ◌-◌, ◌^◌, ◌<◌, ◌≤◌, Bool, true, false, cond, ◌==◌, List, length, get_or, map, Option, Some, None, IfSome, IsTrue, refl, sym, ◌∙◌, ap, subst, arith, inl, inr}
use Rattle.std.proofs.Math.ListN.{set}
use Rattle.std.proofs.lemmas.Bool.Decides.{nat_tests}
use Rattle.std.proofs.lemmas.List.{length-map}
use Rattle.std.specs.List.{sum_by}
use Rattle.std.specs.Cmp.{nat_cmp_total}
use Rattle.std.specs.FinMap as finite
use Rattle.std.specs.FinSet as set_of
use Rattle.gpu_alloc_types.specs.Properties.{Properties, heap_at}
use Rattle.gpu_alloc_block.specs.State.{HeldObject, Span, share, is_shared}
use Rattle.gpu_alloc.specs.Spans.{Table}
use Rattle.gpu_alloc.specs.Budget.{asked_share, is_import}
use Rattle.gpu_alloc.specs.Inside.{IsBooked, IsKnown, IsLedger, IsOfObject, IsLiveIn, IsChosen, AreSmall, AreLedgers, offer_of}
use Rattle.gpu_alloc.specs.Sound.{LiesIn, is_chosen}
use Rattle.gpu_alloc_block.specs.declared.block.Kind.{Kind}
use Rattle.gpu_alloc_block.specs.declared.sharing.Sharing.{Sharing}
use Rattle.gpu_alloc_block.specs.declared.block.Kind.TheVariants.{Dedicated, Imported, BuddyChunk, FreeListChunk, FitChunk}
use Rattle.gpu_alloc_base.specs.declared.heap.Heap.{Heap}
use Rattle.gpu_alloc.proofs.Ledgers.{asked-part, ledger-bound, Held, part-none, small-insert, small-remove}
use Rattle.gpu_alloc_base.proofs.Sums.{sum_by-insert, sum_by-remove, len_more, len_less}
use Rattle.gpu_alloc_base.proofs.Maps.{name_test, eq-true, eq-false, one_value, own_inserted}
use Rattle.gpu_alloc_base.proofs.Names.{one_or_two, get_put-other, get_removed, get_removed-other}
use Rattle.gpu_alloc_block.proofs.LiveSpans.{live_new, live_before, live_other}
use Rattle.gpu_alloc.proofs.Tables.LiveSpans.{HasSameSpans, spans_same, spans_more, spans_fewer}
use Rattle.gpu_alloc.proofs.HeapLists.{heap_inside, ledger_at, ledger_is, ledgers_set}

test-same : (a b n : ℕ) → a ≡ b → cond (a == b) n 0 ≡ n
test-same a b n e = grind (arith, nat_tests)

test-other : (a b n : ℕ) → a ≢ b → cond (a == b) n 0 ≡ 0
test-other a b n e = grind (arith, nat_tests)

-- a chunk is one of a buddy allocator, has its number in a free list, or is a fit chunk
pub chunk_kinds : (kind : Kind) → is_shared kind ≡ true → (kind ≡ BuddyChunk) ⊎ (((number : ℕ) × (kind ≡ FreeListChunk number)) ⊎ (kind ≡ FitChunk))
chunk_kinds Dedicated chunk = absurd (cc)
chunk_kinds Imported chunk = absurd (cc)
chunk_kinds BuddyChunk chunk = inl refl
chunk_kinds (FreeListChunk number) chunk = inr (inl (number, refl))
chunk_kinds FitChunk chunk = inr (inr refl)

-- a held object with a span in it, which lies there as the object's kind says where it is no chunk
pub record IsHeldWith (p : Properties) (h : HeldObject) (span : Span) : Type 0 where
  pub nonempty : 0 < span.size
  pub small : h.counted < 2 ^ 64
  pub known : h.memory_type < length p.memory_types
  pub lies : is_shared h.kind ≡ false → LiesIn h.kind h.counted span

-- what is known of an object stays so, where it is no chunk as long as the same spans of it are live
pub known_still : (p : Properties) (t now : Table) (q : ℕ) (h : HeldObject) → (is_shared h.kind ≡ false → HasSameSpans t now q) → IsKnown t p q h → IsKnown now p q h
known_still p t now q h same k = record {
  of_type = k.of_type;
  one_span = λ own.
      let one = k.one_span own in
      record {
        span = one.span;
        live = (same own).still one.span one.of_object one.live;
        of_object = one.of_object;
        lies = one.lies;
        alone = λ other live there. one.alone other ((same own).was other there live) there;
      };
}

-- a span is of its object as long as that is held
pub of_object_still : (t now : Table) (span : Span) → finite.get now.held span.object ≡ finite.get t.held span.object → IsOfObject t span → IsOfObject now span
of_object_still t now span same o = record { nonempty = o.nonempty; object = o.object; held = same ∙ o.held }

module _ (p : Properties) (heaps : List Heap) (t : Table) (remaining : ℕ) (is : IsBooked p heaps t remaining) (offers : p.memory_heaps ≡ map offer_of heaps) where
  pub heap_there : (memory_type : ℕ) → memory_type < length p.memory_types → heap_at p memory_type < length heaps
  heap_there memory_type known = omega (arith, heap_inside p memory_type is.usable known, ap length offers, length-map heaps offer_of)

  -- a held object
  pub known_object : (name : ℕ) (h : HeldObject) → finite.get t.held name ≡ Some h → IsKnown t p name h
  known_object name h found = subst (λ (o : Option HeldObject). IfSome o (IsKnown t p name)) found (is.known name)

  -- its heap's ledger is far below the largest number
  pub ledger-room : (memory_type i size : ℕ) (h : Heap) → memory_type < length p.memory_types → i ≡ heap_at p memory_type → h ≡ get_or heaps i h → size < 2 ^ 64 → h.used + size < 2 ^ 128
  ledger-room memory_type i size h known here at small =
      let inside : i < length heaps = omega (arith, heap_there memory_type known) in
      let few : finite.len t.held < 2 ^ 32 = omega (arith, is.count) in
      omega (arith, ledger_at p heaps i h (finite.entries t.held) is.ledgers inside at, ledger-bound p i t.held size is.small few small)

  -- One object more is held, with a span in it.

  pub record HoldsMore (now : Table) (h : HeldObject) (span : Span) : Type 0 where
    pub with : IsHeldWith p h span
    pub free : finite.get t.held span.object ≡ None
    pub held : now.held ≡ finite.insert t.held span.object h
    pub live : now.live ≡ set_of.insert t.live span

  module _ (now : Table) (h : HeldObject) (span : Span) (m : HoldsMore now h span) where
    get_more : (q : ℕ) → finite.get now.held q ≡ cond (q == span.object) (Some h) (finite.get t.held q)
    get_more q = ap (λ (x : Held). finite.get x q) m.held ∙ finite.get-insert nat_cmp_total t.held span.object h q ∙ ap (λ b. cond b (Some h) (finite.get t.held q)) (name_test q span.object)

    -- a live span is the new one, or was live in another object
    new_or_was : (other : Span) → IsLiveIn now other → (other ≡ span) ⊎ (IsOfObject t other × (other.object ≢ span.object))
    new_or_was other is_now = elim (live_before t.live span other (subst (λ s. IsTrue (set_of.contains s other)) m.live is_now)) [
      | inl new ↦ inl new
      | inr was ↦ let o = is.spans other was in inr (o, λ same. let there = ap (finite.get t.held) (sym same) ∙ o.held in let free = m.free in absurd (cc))
    ]

    known_new : IsKnown now p span.object h
    known_new = record {
      of_type = m.with.known;
      one_span = λ own. record {
        span = span;
        live = subst (λ s. IsTrue (set_of.contains s span)) (sym m.live) (live_new t.live span);
        of_object = refl;
        lies = m.with.lies own;
        alone = λ other live there. elim (new_or_was other live) [ inl new ↦ new | inr was ↦ absurd (was.1 there) ];
      };
    }

    known_more : (q : ℕ) → IfSome (finite.get now.held q) (IsKnown now p q)
    known_more q = subst (λ (o : Option HeldObject). IfSome o (IsKnown now p q)) (sym (get_more q)) (cases _ refl)
      where
        old : q ≢ span.object → (o : Option HeldObject) → IfSome o (IsKnown t p q) → IfSome o (IsKnown now p q)
        old other None k = k
        old other (Some x) k = known_still p t now q x (λ own. spans_more t now q span other m.live) k

        cases : (b : Bool) → (q == span.object) ≡ b → IfSome (cond b (Some h) (finite.get t.held q)) (IsKnown now p q)
        cases true e = let here : span.object ≡ q = grind (arith, nat_tests) in subst (λ n. IsKnown now p n h) here known_new
        cases false e = old (grind (arith, nat_tests)) (finite.get t.held q) (is.known q)

    of_object_more : (other : Span) → IsLiveIn now other → IsOfObject now other
    of_object_more other is_now = elim (new_or_was other is_now) [
      | inl new ↦ subst (IsOfObject now) (sym new) (record {
        nonempty = m.with.nonempty;
        object = h;
        held = get_more span.object ∙ ap (λ b. cond b (Some h) (finite.get t.held span.object)) (eq-true span.object span.object refl);
      })
      | inr was ↦ of_object_still t now other (get_more other.object ∙ ap (λ b. cond b (Some h) (finite.get t.held other.object)) (eq-false other.object span.object was.1)) was.0
    ]

    -- what is held of a heap, and what was asked for of it, as one object more counts
    sums_more : (f : ℕ × HeldObject → ℕ) → sum_by f (finite.entries now.held) ≡ f (span.object, h) + sum_by f (finite.entries t.held)
    sums_more f = ap (λ (x : Held). sum_by f (finite.entries x)) m.held ∙ sum_by-insert f t.held span.object h m.free

    module _ (heap changed : Heap) (i : ℕ) (here : i ≡ heap_at p h.memory_type) (at : heap ≡ get_or heaps i heap) (counts : changed ≡ record heap { used = heap.used + h.counted }) where
      ledger_before : IsLedger p i (finite.entries t.held) heap
      ledger_before = ledger_is p heaps i heap (finite.entries t.held) is.ledgers (omega (arith, heap_there h.memory_type m.with.known)) at

      used_more : changed.used ≡ sum_by (share p i) (finite.entries now.held)
      used_more = omega (arith, ap (λ (x : Heap). x.used) counts, ledger_before.used, sums_more (share p i), test-same (heap_at p h.memory_type) i h.counted (sym here))

      -- an import was not asked for, and anything else fits
      within_more : (import : Bool) → is_import h.kind ≡ import → (import ≡ false → heap.used + h.counted ≤ heap.limit) → sum_by (asked_share p i) (finite.entries now.held) ≤ changed.size
      within_more true imported fits =
          let none : asked_share p i (span.object, h) ≡ 0 = ap (λ b. cond b 0 (share p i (span.object, h))) imported in
          omega (arith, none, sums_more (asked_share p i), ledger_before.within, ap (λ (x : Heap). x.size) counts)
      within_more false asked fits = omega (arith, ledger_before.limited, asked-part p i (finite.entries now.held), used_more, ap (λ (x : Heap). x.used) counts, ap (λ (x : Heap). x.size) counts, fits refl)

      others_more : (q : ℕ) → q ≢ i → (sum_by (share p q) (finite.entries now.held) ≡ sum_by (share p q) (finite.entries t.held)) × (sum_by (asked_share p q) (finite.entries now.held) ≡ sum_by (asked_share p q) (finite.entries t.held))
      others_more q other =
          let none : share p q (span.object, h) ≡ 0 = test-other (heap_at p h.memory_type) q h.counted (λ e. other (sym (here ∙ e))) in
          (omega (arith, sums_more (share p q), none), omega (arith, sums_more (asked_share p q), part-none (is_import h.kind) (share p q (span.object, h)) none))

      ledgers_more : (is_import h.kind ≡ false → heap.used + h.counted ≤ heap.limit) → AreLedgers p (set heaps i changed) (finite.entries now.held)
      ledgers_more fits = ledgers_set p heaps i changed (finite.entries t.held) (finite.entries now.held) is.ledgers (record { used = used_more; within = within_more (is_import h.kind) refl fits; limited = subst (λ (x : Heap). x.limit ≤ x.size) (sym counts) ledger_before.limited }) others_more

    pub booked-held : (heap changed : Heap) (i : ℕ) → 0 < remaining → i ≡ heap_at p h.memory_type → heap ≡ get_or heaps i heap → changed ≡ record heap { used = heap.used + h.counted } → (is_import h.kind ≡ false → heap.used + h.counted ≤ heap.limit)
        → IsBooked p (set heaps i changed) now (remaining - 1)
    booked-held heap changed i some here at more fits = record {
      usable = is.usable;
      count = omega (arith, is.count, ap (λ (x : Held). finite.len x) m.held, len_more t.held span.object h m.free);
      known = known_more;
      spans = of_object_more;
      small = subst (λ (x : Held). AreSmall (finite.entries x)) (sym m.held) (small-insert t.held span.object h m.free m.with.small is.small);
      ledgers = ledgers_more heap changed i here at more fits;
    }

  -- One object fewer is held, of which no span is live any more.

  module _ (name : ℕ) (h : HeldObject) (found : finite.get t.held name ≡ Some h) where
    -- its heap's ledger counts it
    pub covers : (heap : Heap) (i : ℕ) → i ≡ heap_at p h.memory_type → heap ≡ get_or heaps i heap → heap.used ≡ h.counted + sum_by (share p i) (finite.entries (finite.remove t.held name))
    covers heap i here at =
        let inside : i < length heaps = omega (arith, heap_there h.memory_type (known_object name h found).of_type) in
        omega (arith, ledger_at p heaps i heap (finite.entries t.held) is.ledgers inside at, sum_by-remove (share p i) t.held name h found, test-same (heap_at p h.memory_type) i h.counted (sym here))

    -- one more may be held when it has gone
    pub fits_again : remaining + 1 < 2 ^ 32
    fits_again = omega (arith, is.count, len_less t.held name h found)

  record HoldsLess (now : Table) (h : HeldObject) (name : ℕ) : Type 0 where
    found : finite.get t.held name ≡ Some h
    held : now.held ≡ finite.remove t.held name
    unused : (span : Span) → IsLiveIn now span → span.object ≢ name
    others : (q : ℕ) → q ≢ name → HasSameSpans t now q

  module _ (now : Table) (h : HeldObject) (name : ℕ) (l : HoldsLess now h name) where
    get_less : (q : ℕ) → finite.get now.held q ≡ cond (q == name) None (finite.get t.held q)
    get_less q = ap (λ (x : Held). finite.get x q) l.held ∙ finite.get-remove nat_cmp_total t.held name q ∙ ap (λ b. cond b None (finite.get t.held q)) (name_test q name)

    known_fewer : (q : ℕ) → IfSome (finite.get now.held q) (IsKnown now p q)
    known_fewer q = subst (λ (o : Option HeldObject). IfSome o (IsKnown now p q)) (sym (get_less q)) (cases _ refl)
      where
        old : q ≢ name → (o : Option HeldObject) → IfSome o (IsKnown t p q) → IfSome o (IsKnown now p q)
        old other None k = k
        old other (Some x) k = known_still p t now q x (λ own. l.others q other) k

        cases : (b : Bool) → (q == name) ≡ b → IfSome (cond b None (finite.get t.held q)) (IsKnown now p q)
        cases true e = tt
        cases false e = old (grind (arith, nat_tests)) (finite.get t.held q) (is.known q)

    of_object_fewer : (span : Span) → IsLiveIn now span → IsOfObject now span
    of_object_fewer span is_now =
        let other = l.unused span is_now in
        of_object_still t now span (get_less span.object ∙ ap (λ b. cond b None (finite.get t.held span.object)) (eq-false span.object name other)) (is.spans span ((l.others span.object other).was span refl is_now))

    sums_fewer : (f : ℕ × HeldObject → ℕ) → f (name, h) + sum_by f (finite.entries now.held) ≡ sum_by f (finite.entries t.held)
    sums_fewer f = ap (λ (x : Held). f (name, h) + sum_by f (finite.entries x)) l.held ∙ sum_by-remove f t.held name h l.found

    ledgers_fewer : (heap changed : Heap) (i : ℕ) → i ≡ heap_at p h.memory_type → heap ≡ get_or heaps i heap → changed ≡ record heap { used = heap.used - h.counted } → AreLedgers p (set heaps i changed) (finite.entries now.held)
    ledgers_fewer heap changed i here at less =
        let before = ledger_is p heaps i heap (finite.entries t.held) is.ledgers (omega (arith, heap_there h.memory_type (known_object name h l.found).of_type)) at in
        let fewer : changed.used ≡ sum_by (share p i) (finite.entries now.held) = omega (arith, ap (λ (x : Heap). x.used) less, before.used, sums_fewer (share p i), test-same (heap_at p h.memory_type) i h.counted (sym here)) in
        ledgers_set p heaps i changed (finite.entries t.held) (finite.entries now.held) is.ledgers (record { used = fewer; within = omega (arith, before.within, sums_fewer (asked_share p i), ap (λ (x : Heap). x.size) less); limited = subst (λ (x : Heap). x.limit ≤ x.size) (sym less) before.limited })
        (λ q other.
        let none : share p q (name, h) ≡ 0 = test-other (heap_at p h.memory_type) q h.counted (λ e. other (sym (here ∙ e))) in
        (omega (arith, sums_fewer (share p q), none), omega (arith, sums_fewer (asked_share p q), part-none (is_import h.kind) (share p q (name, h)) none)))

    booked-less : (heap changed : Heap) (i : ℕ) → i ≡ heap_at p h.memory_type → heap ≡ get_or heaps i heap → changed ≡ record heap { used = heap.used - h.counted } → IsBooked p (set heaps i changed) now (remaining + 1)
    booked-less heap changed i here at less = record {
      usable = is.usable;
      count = omega (arith, is.count, ap (λ (x : Held). finite.len x) l.held, len_less t.held name h l.found);
      known = known_fewer;
      spans = of_object_fewer;
      small = subst (λ (x : Held). AreSmall (finite.entries x)) (sym l.held) (small-remove t.held name h l.found is.small);
      ledgers = ledgers_fewer heap changed i here at less;
    }

  -- its last span goes with it
  pub record HoldsFewer (now : Table) (h : HeldObject) (span : Span) : Type 0 where
    pub found : finite.get t.held span.object ≡ Some h
    pub last : (other : Span) → IsLiveIn t other → other.object ≡ span.object → other ≡ span
    pub held : now.held ≡ finite.remove t.held span.object
    pub live : now.live ≡ set_of.remove t.live span

  pub booked-gone : (now : Table) (h : HeldObject) (span : Span) → HoldsFewer now h span
      → (heap changed : Heap) (i : ℕ) → i ≡ heap_at p h.memory_type → heap ≡ get_or heaps i heap → changed ≡ record heap { used = heap.used - h.counted } → IsBooked p (set heaps i changed) now (remaining + 1)
  booked-gone now h span l = booked-less now h span.object (record {
    found = l.found;
    held = l.held;
    unused = λ other is_now same.
        let was = live_other t.live span other (subst (λ s. IsTrue (set_of.contains s other)) l.live is_now) in
        was.0 (l.last other was.1 same);
    others = λ q other. spans_fewer t now q span other l.live;
  })

  -- no span of it was live
  pub record HoldsFewerUnused (now : Table) (h : HeldObject) (name : ℕ) : Type 0 where
    pub found : finite.get t.held name ≡ Some h
    pub unused : (span : Span) → IsLiveIn t span → span.object ≢ name
    pub held : now.held ≡ finite.remove t.held name
    pub live : now.live ≡ t.live

  pub booked-release : (now : Table) (h : HeldObject) (name : ℕ) → HoldsFewerUnused now h name
      → (heap changed : Heap) (i : ℕ) → i ≡ heap_at p h.memory_type → heap ≡ get_or heaps i heap → changed ≡ record heap { used = heap.used - h.counted } → IsBooked p (set heaps i changed) now (remaining + 1)
  booked-release now h name l = booked-less now h name (record {
    found = l.found;
    held = l.held;
    unused = λ span is_now. l.unused span (subst (λ s. IsTrue (set_of.contains s span)) l.live is_now);
    others = λ q other. spans_same t now q l.live;
  })

  -- A span is added or removed in a chunk that is held before and after.

  module _ (now : Table) (h : HeldObject) (span : Span) (found : finite.get t.held span.object ≡ Some h) (chunk : is_shared h.kind ≡ true) (held : now.held ≡ t.held) where
    -- an object that is no chunk is another one
    apart : (q : ℕ) (x : HeldObject) → finite.get t.held q ≡ Some x → is_shared x.kind ≡ false → q ≢ span.object
    apart q x there own same =
        let one : x ≡ h = one_value _ x h there (ap (finite.get t.held) same ∙ found) in
        let kinds = ap (λ (y : HeldObject). is_shared y.kind) one in
        absurd (cc)

    same_held : ((q : ℕ) → q ≢ span.object → HasSameSpans t now q) → ((other : Span) → IsLiveIn now other → IsOfObject t other) → IsBooked p heaps now remaining
    same_held same spans = record {
      usable = is.usable;
      count = subst (λ (x : Held). remaining + finite.len x < 2 ^ 32) (sym held) is.count;
      known = λ q. subst (λ (x : Held). IfSome (finite.get x q) (IsKnown now p q)) (sym held) (kept q (finite.get t.held q) refl (is.known q));
      spans = λ other live. of_object_still t now other (ap (λ (x : Held). finite.get x other.object) held) (spans other live);
      small = subst (λ (x : Held). AreSmall (finite.entries x)) (sym held) is.small;
      ledgers = subst (λ (x : Held). AreLedgers p heaps (finite.entries x)) (sym held) is.ledgers;
    }
      where
        kept : (q : ℕ) (o : Option HeldObject) → finite.get t.held q ≡ o → IfSome o (IsKnown t p q) → IfSome o (IsKnown now p q)
        kept q None there k = k
        kept q (Some x) there k = known_still p t now q x (λ own. same q (apart q x there own)) k

    pub booked-span : 0 < span.size → now.live ≡ set_of.insert t.live span → IsBooked p heaps now remaining
    booked-span some live = same_held (λ q other. spans_more t now q span other live)
        (λ other is_now. elim (live_before t.live span other (subst (λ s. IsTrue (set_of.contains s other)) live is_now)) [
          | inl new ↦ subst (IsOfObject t) (sym new) (record { nonempty = some; object = h; held = found })
          | inr was ↦ is.spans other was
        ])

    pub booked-span_gone : now.live ≡ set_of.remove t.live span → IsBooked p heaps now remaining
    booked-span_gone live = same_held (λ q other. spans_fewer t now q span other live)
        (λ other is_now. is.spans other (live_other t.live span other (subst (λ s. IsTrue (set_of.contains s other)) live is_now)).1)

-- What is held is as it was chosen: as before, with one more that is, or with fewer.

pub chosen_same : (sharing : Sharing) (t now : Table) → IsChosen sharing t → now.held ≡ t.held → IsChosen sharing now
chosen_same sharing t now chosen same object h at = chosen object h (sym (ap (λ (m : Held). finite.get m object) same) ∙ at)

pub chosen_more : (sharing : Sharing) (t now : Table) (name : ℕ) (row : HeldObject) → IsChosen sharing t → is_chosen sharing row.kind ≡ true → now.held ≡ finite.insert t.held name row → IsChosen sharing now
chosen_more sharing t now name row chosen is more object h at = elim (one_or_two object name) [
  | inl same ↦
      let own : Some row ≡ Some h = sym (own_inserted t.held name row) ∙ ap (finite.get (finite.insert t.held name row)) (sym same) ∙ sym (ap (λ (m : Held). finite.get m object) more) ∙ at in
      let one : row ≡ h = cc in
      ap (λ (x : HeldObject). is_chosen sharing x.kind) (sym one) ∙ is
  | inr other ↦ chosen object h (sym (get_put-other t.held name row object other) ∙ sym (ap (λ (m : Held). finite.get m object) more) ∙ at)
]

pub chosen_less : (sharing : Sharing) (t now : Table) (name : ℕ) → IsChosen sharing t → now.held ≡ finite.remove t.held name → IsChosen sharing now
chosen_less sharing t now name chosen less object h at = elim (one_or_two object name) [
  | inl same ↦ absurd (
      let none : None ≡ Some h = sym (get_removed t.held name) ∙ ap (finite.get (finite.remove t.held name)) (sym same) ∙ sym (ap (λ (m : Held). finite.get m object) less) ∙ at in
      cc)
  | inr other ↦ chosen object h (sym (get_removed-other t.held name object other) ∙ sym (ap (λ (m : Held). finite.get m object) less) ∙ at)
]
