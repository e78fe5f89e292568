-- Live blocks as a list of spans by name.
use Rattle.std.specs.Prelude.{◌≡◌}
use Rattle.gpu_alloc.specs.State.{Span, span_of}
use Rattle.gpu_session.specs.Books.{Books, OfBlock}
use Rattle.gpu_session.specs.declared.session.listing.NamedSpan.{NamedSpan}

-- the span that a row describes
abbrev pub span_told : NamedSpan → Span
span_told row = record { object = row.object; offset = row.offset; size = row.size }

-- a block has the row's name, and lies where the row says
abbrev pub IsNamed : Books → NamedSpan → Type 0
IsNamed s row = OfBlock s row.name (λ b. span_of b ≡ span_told row)
