use Rattle.std.proofs.Common.{rules}
use Rattle.trellis.proofs.Filling.{filled_all, written_as, first}
use Rattle.trellis.proofs.row.first_row.Goals as goal

pub returns-clause-first : goal.returns-clause-first
returns-clause-first g c = λ fits. first _ _ c.args.reading _ _ _ _ _ (filled_all _ _ _ _ _ _ _ _ fits (written_as _ _ _ _ _ _ _ _ (λ t b l p. search rules) c.fill.ensures.filled))
