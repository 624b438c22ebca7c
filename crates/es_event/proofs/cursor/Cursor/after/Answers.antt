use Rattle.std.proofs.Common.{inl, inr, ◌∙◌, ◌+◌, ap, length, List}
use Rattle.es_event.specs.declared.plan.Job.{Job}
use Rattle.es_event.specs.After.{at_after}
use Rattle.es_event.specs.Jobs.{receivers}
use Rattle.es_event.proofs.Coming.{comes}
use Rattle.es_event.proofs.Steps.{after_did, after_emptied, after_begun, after_received, after_skipped, after_refused}
use Rattle.es_event.proofs.cursor.Cursor.after.Goals as goal

pub returns-in-JobBegun : goal.returns-in-JobBegun
returns-in-JobBegun c h stands over permits called =
    let plan = c.args.plan.now in
    rw c.in-JobBegun.is (after_begun over (receivers plan.jobs) plan h c.in-JobBegun.job c.args.self.now (comes over plan h _ (rw c.in-JobBegun.is at permits)) stands)

pub returns-in-Received : goal.returns-in-Received
returns-in-Received c h stands over permits called =
    let plan = c.args.plan.now in
    rw c.in-Received.is (after_received over (receivers plan.jobs) plan h _ _ c.args.self.now (comes over plan h _ (rw c.in-Received.is at permits)) stands)

pub returns-in-Did : goal.returns-in-Did
returns-in-Did c h stands over permits called =
    elim c.in-Did.is [
      | inl did ↦ rw did.1 (after_did c.args.plan.now h did.0.0 did.0.1 did.0.2 c.args.self.now _ c.pass_command.ensures stands)
      | inr emptied ↦ rw emptied.1 (after_emptied c.args.plan.now h emptied.0 c.args.self.now _ c.pass_command.ensures stands)
    ]

pub returns-in-Refused : goal.returns-in-Refused
returns-in-Refused c h stands over permits called =
    let plan = c.args.plan.now in
    rw c.in-Refused.is (after_refused over (receivers plan.jobs) plan h c.in-Refused.code c.args.self.now _ c.after_refusal.ensures (comes over plan h _ (rw c.in-Refused.is at permits)) stands)

pub returns-in-Skipped : goal.returns-in-Skipped
returns-in-Skipped c h stands over permits called =
    let plan = c.args.plan.now in
    rw c.in-Skipped.is (after_skipped over (receivers plan.jobs) plan h _ _ _ c.args.self.now (c.next_below.ensures ∙ ap (λ (l : List Job). at_after c.args.self.now.job (length l + 1)) c.as_slice.ensures) (comes over plan h _ (rw c.in-Skipped.is at permits)) stands)
