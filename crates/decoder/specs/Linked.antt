-- How the rows of totals and the survivor tree hang together.
use Rattle.std.specs.Prelude.{◌≡◌, ℕ, ◌<◌, true, is_some}
use Rattle.trellis.specs.declared.Rows.{Rows}
use Rattle.trellis.specs.Rows.{total_at}
use Rattle.trellis.specs.State.{modes, present}
use Rattle.survivors.specs.declared.Survivors.{Survivors}
use Rattle.survivors.specs.Survivors.{HasTip, taken, decided}

-- While some reading is undecided, every mode that has a total has a tip.
abbrev pub Linked : Rows → Survivors → Type 0
Linked rows tree = (u : ℕ) → u < modes rows → is_some (total_at (present rows) u) ≡ true → decided tree < taken tree → HasTip tree u
