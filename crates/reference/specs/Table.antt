-- What a full table shows.
use Rattle.std.specs.Prelude.{ℕ, vec_len}
use Rattle.reference.specs.declared.full_table.FullTable.{FullTable}

-- The number of modes.
abbrev pub modes : FullTable → ℕ
modes t = t.modes

-- How many readings are accepted: each has a row.
abbrev pub accepted : FullTable → ℕ
accepted t = vec_len t.rows
