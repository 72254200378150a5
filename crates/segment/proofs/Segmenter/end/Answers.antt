use Rattle.std.proofs.Common.{rules}
use Rattle.queue.proofs.Moves.{appended_none}
use Rattle.segment.proofs.Calls.{ended}
use Rattle.segment.proofs.Segmenter.end.Goals as goal
use Rattle.segment.proofs.Segmenter.end.Goals.{in-Some+in_ok-put, in_default}

pub returns : goal.returns
returns c =
    let s = c.args.self.now in
    let q = c.args.segments.now in
    elim c.match-self.branch [
      | in-Some+in_ok-put w ↦ ended s _ q _ (rw (w.segments-is, w.in-Some.is) w.in_ok-put.ensures) (search rules)
      | in_default w ↦ ended s _ q _ (rw (w.segments-is, w.in_default.is) (appended_none q)) (search rules)
    ]
