use Rattle.std.proofs.Common.{◌∙◌, ap, subst, sym}
use Rattle.es_event.specs.Commands.{reads}
use Rattle.es_event.specs.Heard.{silence}
use Rattle.es_event.specs.Jobs.{receivers}
use Rattle.es_event.specs.Legal.{values_of}
use Rattle.es_event.specs.Rules.{completion}
use Rattle.es_rules.specs.Completion.{Completes}
use Rattle.es_rules.proofs.Numbers.{completion_there}
use Rattle.es_rules.proofs.decide.completion.Goals as goal

pub returns-in-Atomic : goal.returns-in-Atomic
returns-in-Atomic c =
    let b = c.args.agent.now in
    subst (λ x. Completes x c.access.result)
    (sym (completion_there b c.in-Atomic.atomic silence)
    ∙ ap (λ k. completion b.over b.history k (values_of (receivers b.plan.jobs) b.history (reads k)) silence) (sym c.in-Atomic.is)
    ∙ ap (λ vs. completion b.over b.history c.args.command.now vs silence) (sym c.requires.said))
    c.access.ensures
