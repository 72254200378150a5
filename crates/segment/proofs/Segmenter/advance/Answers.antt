use Rattle.std.proofs.Common.{drop, subst, inl, inr, arith}
use Rattle.queue.proofs.Moves.{taken_known}
use Rattle.queue.specs.Contents.{contents}
use Rattle.segment.specs.Segmenter.{Advanced}
use Rattle.segment.proofs.Calls.{advanced, moving_none, moving_more}
use Rattle.segment.proofs.Segmenter.advance.Goals as goal

pub loop-count-init : goal.loop-count-init
loop-count-init c = moving_none _ _ _

pub returns-in_default : goal.returns-in_default
returns-in_default c = advanced c.loop-count.invariant (inl c.in_default.ensures)

pub returns-in_default-step : goal.returns-in_default-step
returns-in_default-step c =
    let e = c.in_default-step.ensures in
    rw (e.0, e.1) (advanced c.loop-count.invariant (inr (inr (c.in-Some.mode, drop 1 (contents c.loop-count.modes), c.in-Some.ensures, e.2))))

pub loop-count-preserved : goal.loop-count-preserved
loop-count-preserved c = moving_more c.in-Some.mode c.loop-count.invariant (taken_known c.take.result c.take.ensures c.in-Some.ensures) c.in-Ok.ensures

pub returns : goal.returns
returns c =
    let i = c.loop-count.invariant in
    subst (λ n. Advanced c.args.self.now c.args.modes.now c.args.segments.now n c.loop-count.self c.loop-count.modes c.loop-count.segments) (omega arith) (advanced i (inr (inl (omega (arith, i.counted, i.grown.count)))))
