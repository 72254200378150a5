use Rattle.std.proofs.Common.{◌≡◌, length}
use Rattle.trellis.specs.Size.{MODES}
use Rattle.trellis.specs.Rows.{Filled, WrittenBy}
use Rattle.trellis.proofs.row.fill.Given as goal

abbrev pub invariant-loop-t : goal.invariant-loop-t
invariant-loop-t g l = (length l.new ≡ MODES) × (length l.from ≡ MODES) × Filled (WrittenBy (goal.F-post g l.way)) l.t l.initial.new l.new l.initial.from l.from l.any
