use Rattle.std.proofs.Common.{◌≡◌, ◌+◌, [], ◌∷◌, ◌++◌, Some, None, refl, arith, length-append}
use Rattle.json.specs.Json.{after_end_array}
use Rattle.es_reading.specs.Reading.{numbered, agent_read, agents_read}
use Rattle.es_reading.specs.Shape.{is_agent}
use Rattle.es_script.specs.Taking.{IsRead, Took}
use Rattle.es_script.proofs.Taking.{took_more, took_all}
use Rattle.es_script.proofs.agents.agents_after.Goals as goal

pub agents-preserved : goal.agents-preserved
agents-preserved c =
    let l = c.agents in
    let numbers = numbered c.args.numbers.now in
    let agent = c.in_ok-agent.agent in
    let next = c.agent_in.new.reader in
    let reading = agent_read c.args.version numbers l.number in
    let unclosed : after_end_array l.reader ≡ None = grind arith in
    let unmoved : c.take_end_array.new.self ≡ l.reader = grind arith in
    let took : Took 5 (IsRead is_agent reading) l.reader agent next = rw (← unmoved) c.in_ok-agent.ensures in
    let pushed : c.push.new.self ≡ l.agents ++ agent ∷ [] = grind arith in
    record {
      taken = took_more 5 is_agent reading (agents_read c.args.version numbers 0) (agents_read c.args.version numbers l.number) (agents_read c.args.version numbers (l.number + 1)) (λ d ds. refl) c.args.reader.now l.reader next l.agents c.push.new.self agent l.invariant.taken unclosed took pushed;
      counted = rw pushed (omega (arith, length-append l.agents (agent ∷ []), l.invariant.counted));
      few = omega arith;
    }

pub returns-clause-taken : goal.returns-clause-taken
returns-clause-taken c =
    let l = c.agents in
    let numbers = numbered c.args.numbers.now in
    let r = c.take_end_array.new.self in
    let closed : after_end_array l.reader ≡ Some r = grind arith in
    took_all 5 is_agent (agents_read c.args.version numbers 0) (agents_read c.args.version numbers l.number) c.args.reader.now l.reader r l.agents l.invariant.taken refl closed
