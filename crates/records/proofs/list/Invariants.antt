use Rattle.logfile.specs.Calls.{unread}
use Rattle.records.proofs.list.Given as goal

abbrev pub decreases-loop-placed : goal.decreases-loop-placed
decreases-loop-placed l = unread l.reader
