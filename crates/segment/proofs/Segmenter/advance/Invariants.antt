use Rattle.segment.proofs.Calls.{Moving}
use Rattle.segment.proofs.Segmenter.advance.Given as goal

abbrev pub invariant-loop-count : goal.invariant-loop-count
invariant-loop-count l = Moving l.initial.self l.initial.modes l.initial.segments l.count l.self l.modes l.segments
