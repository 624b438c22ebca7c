use Rattle.std.proofs.Common.{length}
use Rattle.es_script.specs.Drafts.{IsPlanDraft}
use Rattle.es_script.proofs.by_tokens.plan_in.Given as goal

abbrev pub invariant-members : goal.invariant-members
invariant-members l = IsPlanDraft l.overview.version l.fn.reader l.reader l.draft

abbrev pub decreases-members : goal.decreases-members
decreases-members l = length l.reader
