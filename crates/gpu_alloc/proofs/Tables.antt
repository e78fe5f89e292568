-- The table of held objects and live spans.
pub mod Listed
pub mod LiveSpans
pub mod OwnRows
pub mod Unions
