use Rattle.std.proofs.Common.{refl, rules}
use Rattle.segment.proofs.Steps.{grown_first, grown_equal, grown_other}
use Rattle.segment.proofs.Segmenter.step.Goals as goal
use Rattle.segment.proofs.Segmenter.step.Goals.{in-None-default, in-Some-default, in-Some-default-2+in_ok-put-in-Some-default-2}

pub returns : goal.returns
returns c =
    let s = c.args.self.now in
    let q = c.args.segments.now in
    elim c.match-self.branch [
      | in-None-default w ↦ grown_first s _ q _ c.args.mode w.in-None-default.is-0 (search rules) refl w.segments-is
      | in-Some-default w ↦ grown_equal s _ q _ w.in-Some-default.segment c.args.mode w.in-Some-default.is-0 (search rules) (search rules) refl w.segments-is
      | in-Some-default-2+in_ok-put-in-Some-default-2 w ↦ grown_other s _ q _ w.in-Some-default.segment c.args.mode w.in-Some-default.is-0 (search rules) (search rules) refl (search rules)
    ]
