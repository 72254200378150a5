use Rattle.std.proofs.Common.{arith}
use Rattle.survivors.proofs.Tips.{blank_none}
use Rattle.survivors.proofs.Empties.{blank_valid}
use Rattle.survivors.proofs.Outcomes.{blank_of}
use Rattle.survivors.proofs.Survivors.clear.Goals as goal

pub clear-requires : goal.clear-requires
clear-requires c = let s = c.args.self.now in record { valid = s.valid; within = s.within; none = s.none }

pub invariant_of-self : goal.invariant_of-self
invariant_of-self c = record { valid = blank_valid _ c.clear.ensures; within = omega arith; none = blank_none 0 32 }

pub returns : goal.returns
returns c = blank_of _ c.clear.ensures.top c.clear.ensures.base
