use Rattle.viterbi.proofs.Count.{live_cells_lem}
use Rattle.viterbi.proofs.live_cells_are_one_number.Goals as goal

pub returns : goal.returns
returns g c = live_cells_lem (g.C.CostKind.kind c.args.kind.now)
