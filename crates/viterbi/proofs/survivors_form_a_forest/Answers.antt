use Rattle.viterbi.proofs.Forest.{forest}
use Rattle.viterbi.proofs.survivors_form_a_forest.Goals as goal

pub returns : goal.returns
returns g c = forest (g.C.CostKind.kind c.args.kind.now)
