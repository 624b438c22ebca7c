use Rattle.std.proofs.Common.{◌≤◌, ◌-◌, length}
use Rattle.std.specs.Io.KnownBytes.{Consumes}
use Rattle.es_value.specs.Limits.{longest_plan}
use Rattle.es_engine.proofs.input.read_all.Given as goal

abbrev pub invariant-loop-count : goal.invariant-loop-count
invariant-loop-count g l = Consumes (g.R.Read.remaining l.fn.reader) (g.R.Read.remaining l.reader) l.bytes.items × (length l.bytes.items ≤ longest_plan)

abbrev pub decreases-loop-count : goal.decreases-loop-count
decreases-loop-count g l = longest_plan - length l.bytes.items
