use Rattle.std.proofs.Common.{length}
use Rattle.es_reading.specs.Reading.{said}
use Rattle.es_script.specs.Drafts.{IsAgentDraft}
use Rattle.es_script.proofs.agent.agent_within.Given as goal

abbrev pub invariant-members : goal.invariant-members
invariant-members l = IsAgentDraft (said l.scope) l.agent l.fn.reader l.reader l.draft

abbrev pub decreases-members : goal.decreases-members
decreases-members l = length l.reader
