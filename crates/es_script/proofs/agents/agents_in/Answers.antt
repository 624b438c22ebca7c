use Rattle.std.proofs.Common.{◌≤◌, length, arith}
use Rattle.es_reading.specs.Reading.{numbered}
use Rattle.es_script.proofs.TakingAgents.{took_agents}
use Rattle.es_script.proofs.agents.agents_in.Goals as goal

pub returns : goal.returns
returns c =
    let agents = c.in_ok-agents.agents in
    let some : 1 ≤ length agents = grind arith in
    took_agents c.args.overview.now.version (numbered c.in-Ok.numbers) c.as_slice-found.result.now agents c.args.reader.now c.open_array.new.reader c.agents_after.new.reader c.in_ok-open_array.ensures c.in_ok-agents.ensures.taken c.in-Ok.ensures
    (rw c.as_slice-3.ensures at (c.are_agents.ensures c.if-not-are_agents.false)) (c.are_new.ensures c.if-not-are_new.false) some c.in_ok-agents.ensures.few
