use Rattle.std.proofs.Common.{refl, arith}
use Rattle.segment.proofs.Segments.{unique, segments_none}
use Rattle.segment.proofs.Segmenter.new.Goals as goal

pub returns : goal.returns
returns c = record { segments = unique segments_none; none = λ _. refl; count = refl; few = omega arith }
