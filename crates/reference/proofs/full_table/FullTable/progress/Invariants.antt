use Rattle.std.proofs.Common.{◌≤◌}
use Rattle.reference.proofs.full_table.FullTable.progress.Given as goal

abbrev pub invariant-loop-reading : goal.invariant-loop-reading
invariant-loop-reading l = l.decided ≤ l.reading
