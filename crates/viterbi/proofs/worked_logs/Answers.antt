use Rattle.viterbi.proofs.Worked.{worked_logs_lem}
use Rattle.viterbi.proofs.worked_logs.Goals as goal

pub returns : goal.returns
returns c = worked_logs_lem
