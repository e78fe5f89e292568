-- Live spans, as one is added or removed.
use Rattle.std.proofs.Common.{◌≡◌, ◌≢◌, ◌⊎◌, inl, inr, Bool, true, false, not, ◌&&◌, ◌||◌, get_or, IsTrue, refl, sym, subst, Equal, ◌∙◌, ap}
use Rattle.std.specs.Bool.{Decides}
use Rattle.std.specs.Cmp.{IsTotalOrder}
use Rattle.std.specs.Cmp.Lexicographic.{on_texts}
use Rattle.std.specs.Ordering.{eq_by_cmp}
use Rattle.std.specs.FinSet.{FinSet, contains, insert, remove, contains-insert, contains-remove, same_set}
use Rattle.gpu_alloc_block.specs.State.{Span, span_cmp, span_numbers}
use Rattle.gpu_alloc_base.proofs.ListSets.{exact_by, key_test}

-- Spans in their order.

pub span_total : IsTotalOrder span_cmp
span_total = on_texts span_numbers

pub span_exact : (a b : Span) → span_cmp a b ≡ Equal → a ≡ b
span_exact = exact_by span_numbers (λ ns. record { object = get_or ns 0 0; offset = get_or ns 1 0; size = get_or ns 2 0 }) (λ span. refl)

pub span_test : (a b : Span) → Decides (eq_by_cmp span_cmp a b) (a ≡ b)
span_test a b = key_test span_cmp span_total span_exact a b

-- Sets of them.

live_more : (live : FinSet span_cmp) (own : Span) (span : Span) → contains (insert live own) span ≡ (eq_by_cmp span_cmp span own || contains live span)
live_more live own span = contains-insert span_total live own span

live_less : (live : FinSet span_cmp) (own : Span) (span : Span) → contains (remove live own) span ≡ (not (eq_by_cmp span_cmp span own) && contains live span)
live_less live own span = contains-remove span_total live own span

-- the new span is live
pub live_new : (live : FinSet span_cmp) (own : Span) → IsTrue (contains (insert live own) own)
live_new live own = subst IsTrue (sym (live_more live own own)) (front _ _ ((span_test own own).1 refl))
  where
    front : (a b : Bool) → a ≡ true → IsTrue (a || b)
    front true b e = refl
    front false b e = absurd (cc)

-- what was live is
pub live_still : (live : FinSet span_cmp) (own : Span) (span : Span) → IsTrue (contains live span) → IsTrue (contains (insert live own) span)
live_still live own span was = subst IsTrue (sym (live_more live own span)) (later _ _ was)
  where
    later : (a b : Bool) → IsTrue b → IsTrue (a || b)
    later true b h = refl
    later false b h = h

-- what is live was, or is new
pub live_before : (live : FinSet span_cmp) (own : Span) (span : Span) → IsTrue (contains (insert live own) span) → (span ≡ own) ⊎ IsTrue (contains live span)
live_before live own span now = split _ refl (subst IsTrue (live_more live own span) now)
  where
    split : (b : Bool) → eq_by_cmp span_cmp span own ≡ b → IsTrue (b || contains live span) → (span ≡ own) ⊎ IsTrue (contains live span)
    split true e h = inl ((span_test span own).0 e)
    split false e h = inr h

-- another span is live as long
pub live_kept : (live : FinSet span_cmp) (own : Span) (span : Span) → span ≢ own → IsTrue (contains live span) → IsTrue (contains (remove live own) span)
live_kept live own span other was = subst IsTrue (sym (live_less live own span)) (split _ refl)
  where
    split : (b : Bool) → eq_by_cmp span_cmp span own ≡ b → IsTrue (not b && contains live span)
    split true e = absurd (other ((span_test span own).0 e))
    split false e = was

-- what is live still was, and is another
pub live_other : (live : FinSet span_cmp) (own : Span) (span : Span) → IsTrue (contains (remove live own) span) → (span ≢ own) × IsTrue (contains live span)
live_other live own span now = split _ refl (subst IsTrue (live_less live own span) now)
  where
    split : (b : Bool) → eq_by_cmp span_cmp span own ≡ b → IsTrue (not b && contains live span) → (span ≢ own) × IsTrue (contains live span)
    split true e h = absurd (cc)
    split false e h = ((λ same. let yes = (span_test span own).1 same in absurd (cc)), h)

-- One that comes and goes again leaves the others.
pub put_taken : (live : FinSet span_cmp) (own : Span) → contains live own ≡ false → remove (insert live own) own ≡ live
put_taken live own free = same_set span_total span_exact _ _ (λ q. live_less (insert live own) own q ∙ ap (λ x. not (eq_by_cmp span_cmp q own) && x) (live_more live own q) ∙ by q (eq_by_cmp span_cmp q own) refl)
  where
    by : (q : Span) (t : Bool) → eq_by_cmp span_cmp q own ≡ t → (not t && (t || contains live q)) ≡ contains live q
    by q true same = let one = (span_test q own).0 same in sym (ap (contains live) one ∙ free)
    by q false other = refl

-- One may go before another comes.
pub taken_before : (live : FinSet span_cmp) (a b : Span) → a ≢ b → remove (insert live b) a ≡ insert (remove live a) b
taken_before live a b two = same_set span_total span_exact _ _ (λ q.
    live_less (insert live b) a q ∙ ap (λ x. not (eq_by_cmp span_cmp q a) && x) (live_more live b q)
    ∙ by q (eq_by_cmp span_cmp q a) (eq_by_cmp span_cmp q b) refl refl
    ∙ sym (live_more (remove live a) b q ∙ ap (λ x. eq_by_cmp span_cmp q b || x) (live_less live a q)))
  where
    by : (q : Span) (t u : Bool) → eq_by_cmp span_cmp q a ≡ t → eq_by_cmp span_cmp q b ≡ u → (not t && (u || contains live q)) ≡ (u || (not t && contains live q))
    by q true true first second = absurd (two (sym ((span_test q a).0 first) ∙ (span_test q b).0 second))
    by q true false first second = refl
    by q false true first second = refl
    by q false false first second = refl

-- A span that is not live.

pub not_live : (live : FinSet span_cmp) (span : Span) → (IsTrue (contains live span) → ⊥) → contains live span ≡ false
not_live live span never = elim (contains live span) as (λ x. contains live span ≡ x → x ≡ false) [
  | true ↦ λ is_live. absurd (never is_live)
  | false ↦ λ free. refl
] refl
