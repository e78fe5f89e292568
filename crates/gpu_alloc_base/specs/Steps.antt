use Rattle.std.specs.Prelude.{ℕ, ◌≡◌, ◌<◌}
use Rattle.std.specs.declared.sync.ledger.Blank.{Blank}

-- the blank begins the ledger of this name and these parts
abbrev pub Begins : Blank → ℕ → ℕ → Type 0
Begins blank name parts = (blank.name ≡ name) × (blank.parts ≡ parts) × (0 < blank.parts)
