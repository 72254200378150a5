-- What a pair of rows shows: its number of modes, the present row and the other one.
use Rattle.std.specs.Prelude.{if◌then◌else◌, ◌≡◌, ℕ, List, Option}
use Rattle.cost.specs.declared.charge.Total.{Total}
use Rattle.trellis.specs.declared.Rows.{Rows}

-- The number of modes.
abbrev pub modes : Rows → ℕ
modes r = r.modes.count

-- The row of totals after the readings so far.
abbrev pub present : Rows → List (Option Total)
present r = if r.turned then r.odd else r.even

-- The row that the next reading is written into.
abbrev pub other : Rows → List (Option Total)
other r = if r.turned then r.even else r.odd

-- The present row and the number of modes are as they were.
pub record Kept (r s : Rows) : Type 0 where
  pub modes : modes s ≡ modes r
  pub present : present s ≡ present r

-- The other row is now the present one.
pub record Turned (r s : Rows) : Type 0 where
  pub modes : modes s ≡ modes r
  pub present : present s ≡ other r
