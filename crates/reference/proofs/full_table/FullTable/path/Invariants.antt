use Rattle.std.proofs.Common.{◌≡◌, ◌+◌, length, vec_len}
use Rattle.reference.proofs.full_table.FullTable.path.Given as goal

abbrev pub invariant-loop-row : goal.invariant-loop-row
invariant-loop-row l = vec_len l.path + length l.row-iterator.iter.rest.now ≡ vec_len l.self.rows
