use Rattle.std.proofs.Common.{◌∙◌, ap, sym}
use Rattle.es_script.specs.Grammar.{no_callback_collects}
use Rattle.es_turns.proofs.Whole.{begins_planned}
use Rattle.es_library.proofs.stepping.seat.Goals as goal

-- it has the plan, and the plan's agents before their first events
pub returns-in-Some-clause-held : goal.returns-in-Some-clause-held
returns-in-Some-clause-held c =
    let plan = c.full.ensures.name.1 ∙ c.in-Some.ensures.1 in
    λ _. record {
      filled = c.full.ensures.filled;
      plans_are = begins_planned c.args.plan c.full.result.value (c.full.ensures.value ∙ c.in-Some.ensures.2) ∙ ap (λ p. p.agents) (sym plan);
      quiet = ap no_callback_collects plan ∙ c.requires.quiet;
    }
