use Rattle.std.proofs.Common.{arith}
use Rattle.decoder.proofs.Stepping.{all_linked}
use Rattle.decoder.proofs.Decoder.new.Goals as goal

pub invariant_of-result : goal.invariant_of-result
invariant_of-result c = record { linked = all_linked c.new-rows.result c.new-tree.result (omega (arith, c.new-tree.ensures.none_taken)) }
