use Rattle.std.proofs.Common.{arith}
use Rattle.decoder.proofs.Stepping.{all_linked}
use Rattle.decoder.proofs.Decoder.reset.Goals as goal

pub invariant_of-self : goal.invariant_of-self
invariant_of-self c = record { linked = all_linked c.reset.new.self c.clear.new.self (omega (arith, c.clear.ensures.none_taken)) }
