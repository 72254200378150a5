use Rattle.std.proofs.Common.{is_some, ap}
use Rattle.trellis.proofs.Ways.{through}
use Rattle.trellis.proofs.best.through.Goals as goal

pub returns : goal.returns
returns g c = record { carried = through _ _ _ _ _ c.in_ok-total.was c.charged.ensures; some = λ _. ap is_some c.in_ok-total.was }
