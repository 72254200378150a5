use Rattle.trellis.proofs.Rows.least.Goals as goal

pub returns-then-self-clause-backed : goal.returns-then-self-clause-backed
returns-then-self-clause-backed g c = rw c.if-self.true c.least_in.ensures.backed

pub returns-clause-backed : goal.returns-clause-backed
returns-clause-backed g c = rw c.if-self.false c.least_in-2.ensures.backed
