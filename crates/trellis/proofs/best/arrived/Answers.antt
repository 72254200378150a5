use Rattle.std.proofs.Common.{sym, subst}
use Rattle.trellis.specs.Carried.{Arrived}
use Rattle.trellis.proofs.Ways.{arrived}
use Rattle.trellis.proofs.best.arrived.Goals as goal

pub returns-in_err-total-2-clause-carried : goal.returns-in_err-total-2-clause-carried
returns-in_err-total-2-clause-carried g c = subst (Arrived _ c.args.best _) (sym c.from_residual-in_err-total-2.ensures) (arrived _ c.in_ok-total.field-0 _ _ _ c.in_ok-total.was c.in_err-total-2.ensures)

pub returns-clause-carried : goal.returns-clause-carried
returns-clause-carried g c = arrived _ _ _ _ _ c.in_ok-total.was c.in_ok-total-2.ensures
