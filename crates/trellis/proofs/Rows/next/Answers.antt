use Rattle.trellis.proofs.Rows.next.Goals as goal

pub returns-then-self-clause-backed : goal.returns-then-self-clause-backed
returns-then-self-clause-backed g c = rw c.if-self.true c.next_row.ensures.backed

pub returns-clause-backed : goal.returns-clause-backed
returns-clause-backed g c = rw c.if-self.false c.next_row-2.ensures.backed
