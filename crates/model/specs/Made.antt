-- The meaning of a model that is made.
use Rattle.model.specs.declared.banded.Banded.{Banded}
use Rattle.model.specs.declared.dense.DenseTable.{DenseTable}
use Rattle.model.specs.Meaning.{Meaning}
use Rattle.model.specs.Banded.{banded}
use Rattle.model.specs.Dense.{dense}

-- That of its parameters.
abbrev pub meaning_of_banded : Banded → Meaning
meaning_of_banded b = banded b.parameters

-- That of its table.
abbrev pub meaning_of_table : DenseTable → Meaning
meaning_of_table d = dense d.modes d.values d.numbers.now
