-- How bytes become lengths.
use Rattle.std.specs.Prelude.{ℕ, ◌*◌, ◌/◌, min}

-- how far into a line of a length a point lies that is a part into a whole
abbrev pub on_line : ℕ → ℕ → ℕ → ℕ
on_line part whole length = min part whole * length / whole
