-- A session's named blocks against its allocator's live spans.
use Rattle.std.proofs.Common.{◌≡◌, ◌↔◌, inl, inr, ℕ, List, [], ◌∷◌, map, Option, refl, sym, subst}
use Rattle.std.specs.List.{Contains}
use Rattle.gpu_alloc_types.specs.Device.{Object}
use Rattle.gpu_alloc_types.specs.Properties.{Properties}
use Rattle.gpu_alloc.specs.State.{span_of}
use Rattle.gpu_alloc_base.proofs.Lists.{contains_cases, contains_none, contains_head, contains_later}
use Rattle.gpu_alloc_base.proofs.ListViews.{contains_name}
use Rattle.gpu_session.specs.Books.{Books, OfBlock}
use Rattle.gpu_session.specs.Listing.{IsNamed}
use Rattle.gpu_session.specs.Sound.{IsSoundSession}
use Rattle.gpu_session.specs.declared.session.listing.NamedSpan.{NamedSpan}
use Rattle.gpu_report.specs.Live.{live_block_span, LacksSpan}
use Rattle.gpu_report.specs.Session.{block_of}
use Rattle.gpu_report.specs.declared.live.LiveBlock.{LiveBlock}

from_row : (rows : List NamedSpan) (b : LiveBlock) → Contains (map block_of rows) b → (row : NamedSpan) × Contains rows row × (block_of row ≡ b)
from_row [] b has = absurd (contains_none b has)
from_row (x ∷ xs) b has = elim (contains_cases (block_of x) b (map block_of xs) has) [
  | inl is ↦ (x, contains_head x xs, sym is)
  | inr h ↦ let found = from_row xs b h in (found.0, contains_later x found.0 xs found.1, found.2)
]

module _ (s : Books) (rows : List NamedSpan) (exact : (row : NamedSpan) → Contains rows row ↔ IsNamed s row) where
  -- each has the name of a block
  pub rows_named : (b : LiveBlock) → Contains (map block_of rows) b → OfBlock s b.name (λ x. span_of x ≡ live_block_span b)
  rows_named b has =
      let found = from_row rows b has in
      subst (λ (y : LiveBlock). OfBlock s y.name (λ x. span_of x ≡ live_block_span y)) found.2 ((exact found.0).0 found.1)

  -- and its size counts as asked for
  pub rows_whole : (b : LiveBlock) → Contains (map block_of rows) b → b.asked ≡ b.size
  rows_whole b has = let found = from_row rows b has in subst (λ (y : LiveBlock). y.asked ≡ y.size) found.2 refl

  -- and each live span is one's
  pub none_lacks : (p : Properties) (objects : ℕ → Option Object) → IsSoundSession p objects s → LacksSpan s.allocator (map block_of rows) → ⊥
  none_lacks p objects sound lacks =
      let found = sound.named lacks.span lacks.live in
      let row : NamedSpan = record { name = found.0; object = lacks.span.object; offset = lacks.span.offset; size = lacks.span.size } in
      let has : Contains rows row = (exact row).1 found.1 in
      lacks.lacks (contains_name live_block_span (map block_of rows) (block_of row) (contains_name block_of rows row has))
