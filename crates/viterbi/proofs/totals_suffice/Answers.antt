use Rattle.viterbi.proofs.Totals.{suffice}
use Rattle.viterbi.proofs.totals_suffice.Goals as goal

pub returns : goal.returns
returns g c = suffice (g.C.CostKind.kind c.args.kind.now)
