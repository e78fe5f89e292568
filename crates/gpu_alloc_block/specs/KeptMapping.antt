-- A block's mapping, from the two numbers that keep it.
use Rattle.std.specs.Prelude.{ℕ, ◌==◌, cond, Option, None, Some}
use Rattle.std.specs.Coded.{Coded, coded_option}
use Rattle.gpu_alloc_block.specs.Codes.{mapping_code}
use Rattle.gpu_alloc_block.specs.declared.block.Mapping.{Mapping}

-- where it starts and how long it is; length 0 means no mapping
abbrev pub mapping_in : (start len : ℕ) → Option Mapping
mapping_in start len = cond (len == 0) None (Some (record { start = start; len = len }))

abbrev pub kept_code : Coded (Option Mapping)
kept_code = coded_option mapping_code
