use Rattle.std.proofs.Common.{slice_index_or, subst}
use Rattle.fault.specs.Checks.{RefusesFirst}
use Rattle.fault.specs.declared.Fault.TheVariants.{Parameter}
use Rattle.model.specs.Banded.{Broken, OutOfRange, limit}
use Rattle.model.proofs.Ranges.{in_range, uncut}
use Rattle.model.proofs.banded.Parameters.check.Goals as goal

-- the limits are those of the parameters
first : (c : goal.After-first_broken) → RefusesFirst (OutOfRange c.args.self.now) Parameter c.first_broken.result
first c = subst (λ ls. RefusesFirst (λ i. Broken (slice_index_or ls i (limit 0 0 0))) Parameter c.first_broken.result) c.limits.ensures c.first_broken.ensures

pub returns-clause-first : goal.returns-clause-first
returns-clause-first c = first c

pub returns-clause-uncut : goal.returns-clause-uncut
returns-clause-uncut c = λ ok. uncut _ (in_range _ _ (first c) ok)
