use Rattle.trellis.specs.Rows.{LeastBy, OneBy}
use Rattle.trellis.proofs.row.least_by.Given as goal

abbrev pub invariant-loop-s : goal.invariant-loop-s
invariant-loop-s g l = LeastBy (g.C.CostKind.kind l.kind) l.s (goal.F-post g l.total) l.best × OneBy l.s (goal.F-post g l.total) l.best
