use Rattle.std.proofs.Common.{◌≡◌, ap, ◌∙◌}
use Rattle.es_reading.specs.Scope.{number_in}
use Rattle.es_reading.specs.Reading.{numbered, said, scope_by}
use Rattle.es_script.proofs.TakingAgents.{took_agent}
use Rattle.es_script.proofs.agent.agent_in.Goals as goal

pub returns : goal.returns
returns c =
    let agents = numbered c.args.numbers.now in
    let found = c.args.found.now in
    let numbers : numbered c.in-Ok.callbacks ≡ number_in 1 found = c.in-Ok.ensures in
    let scoped : said c.new-scope.result ≡ scope_by c.args.version (number_in 1 found) agents c.args.agent = c.new-scope.ensures ∙ ap (λ f. scope_by c.args.version f agents c.args.agent) numbers in
    took_agent c.args.version agents c.args.agent (said c.new-scope.result) found c.in_ok-plan.plan c.args.reader.now c.agent_within.new.reader c.in_ok-plan.ensures
    (rw c.as_slice.ensures at (c.are_named.ensures c.if-not-are_named.false)) scoped
