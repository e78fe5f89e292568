-- Live spans of a table, as one is added or removed.
use Rattle.std.proofs.Common.{◌≡◌, ◌≢◌, inl, inr, IsTrue, sym, ◌∙◌, subst, ℕ, ap}
use Rattle.std.specs.FinSet.{contains, insert, remove}
use Rattle.gpu_alloc.specs.Inside.{IsLiveIn}
use Rattle.gpu_alloc.specs.Spans.{Table}
use Rattle.gpu_alloc_block.specs.State.{Span}
use Rattle.gpu_alloc_block.proofs.LiveSpans.{live_before, live_other, live_still, live_kept}

-- Tables in which the same spans of an object are live.

pub record HasSameSpans (old now : Table) (object : ℕ) : Type 0 where
  pub still : (span : Span) → span.object ≡ object → IsLiveIn old span → IsLiveIn now span
  pub was : (span : Span) → span.object ≡ object → IsLiveIn now span → IsLiveIn old span

module _ (old now : Table) (object : ℕ) where
  pub spans_same : now.live ≡ old.live → HasSameSpans old now object
  spans_same live = record {
    still = λ span named was. subst (λ s. IsTrue (contains s span)) (sym live) was;
    was = λ span named is. subst (λ s. IsTrue (contains s span)) live is;
  }

  -- a span of another object comes
  pub spans_more : (own : Span) → object ≢ own.object → now.live ≡ insert old.live own → HasSameSpans old now object
  spans_more own other live = record {
    still = λ span named was. subst (λ s. IsTrue (contains s span)) (sym live) (live_still old.live own span was);
    was = λ span named is. elim (live_before old.live own span (subst (λ s. IsTrue (contains s span)) live is)) [
      | inl new ↦ absurd (other (sym named ∙ ap (λ (s : Span). s.object) new))
      | inr was ↦ was
    ];
  }

  -- and is removed
  pub spans_fewer : (own : Span) → object ≢ own.object → now.live ≡ remove old.live own → HasSameSpans old now object
  spans_fewer own other live = record {
    still = λ span named was. subst (λ s. IsTrue (contains s span)) (sym live) (live_kept old.live own span (λ same. other (sym named ∙ ap (λ (s : Span). s.object) same)) was);
    was = λ span named is. (live_other old.live own span (subst (λ s. IsTrue (contains s span)) live is)).1;
  }
