use Rattle.survivors.proofs.Outcomes.{next_of, grown_of}
use Rattle.survivors.proofs.Survivors.grow.Goals as goal

pub grow-self-requires : goal.grow-self-requires
grow-self-requires c = let s = c.args.self.now in record { next = next_of s c.args.preds.now c.requires; within = s.within; none = s.none }

pub invariant_of-self : goal.invariant_of-self
invariant_of-self c = record { valid = c.grow-self.ensures.layered.valid; within = c.requires.few; none = c.grow-self.ensures.none }

pub returns : goal.returns
returns c = grown_of c.args.self.now c.args.preds.now _ c.grow-self.ensures.layered
