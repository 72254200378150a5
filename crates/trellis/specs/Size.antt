-- How large rows and logs can be.
use Rattle.std.specs.Prelude.{ℕ}

-- The most modes that a row has room for.
abbrev pub MODES : ℕ
MODES = 32

-- The most readings of a log.
abbrev pub READINGS : ℕ
READINGS = 1000000
