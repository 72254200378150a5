-- The table of refusals: layer, number and place of each.
use Rattle.std.specs.Prelude.{ℕ}
use Rattle.fault.specs.declared.Fault.{Fault}
use Rattle.fault.specs.declared.Fault.TheVariants.{UnusableModel, NotIdle, LogNumber, TokenDoesNotFit, ReadingOutOfRange, LogFull, TooManyUndrawn, TreeFull, NoReachableMode, ModesNotDrawn, TableShape, TableLength, TableEntry, Parameter, UnknownLead, FileEnds, BadNumber, RecordNotAllowed, OutputTooSmall, LengthOutOfRange, QueueFull}
use Rattle.fault.specs.declared.Layer.{Layer}
use Rattle.fault.specs.declared.Layer.TheVariants.{Session, Model, File, Queue}

-- What is told of a fault.
pub record Row : Type 0 where
  pub number : ℕ
  pub layer : Layer
  pub place : ℕ

-- A line of the table.
abbrev entry : ℕ → Layer → ℕ → Row
entry n l p = record { number = n; layer = l; place = p }

-- The line of each fault.
abbrev pub row : Fault → Row
row UnusableModel = entry 1 Session 0
row NotIdle = entry 2 Session 0
row LogNumber = entry 3 Session 0
row TokenDoesNotFit = entry 4 Session 0
row (ReadingOutOfRange at) = entry 5 Session at
row (LogFull at) = entry 6 Session at
row (TooManyUndrawn at) = entry 7 Session at
row (TreeFull at) = entry 8 Session at
row (NoReachableMode at) = entry 9 Session at
row ModesNotDrawn = entry 10 Session 0
row TableShape = entry 11 Model 0
row TableLength = entry 12 Model 0
row (TableEntry at) = entry 13 Model at
row (Parameter at) = entry 14 Model at
row (UnknownLead at) = entry 15 File at
row (FileEnds at) = entry 16 File at
row (BadNumber at) = entry 17 File at
row (RecordNotAllowed at) = entry 18 File at
row (OutputTooSmall at) = entry 19 File at
row (LengthOutOfRange at) = entry 20 File at
row QueueFull = entry 21 Queue 0
