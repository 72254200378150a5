use Rattle.std.proofs.Common.{rules}
use Rattle.model.proofs.Ranges.{few_modes, few_values}
use Rattle.model.proofs.banded.Banded.new.Goals as goal

pub returns-in_default : goal.returns-in_default
returns-in_default c =
    let refused = c.in_default.ensures.first in
    record {
      sound = λ ok. absurd (ok refused.0 refused.2.here);
      unsound = λ _. (search rules, search rules);
    }

pub invariant_of-result-2 : goal.invariant_of-result-2
invariant_of-result-2 c = let ok = c.in-Ok.ensures.first in record { few = few_modes _ ok; low = few_values _ ok }
