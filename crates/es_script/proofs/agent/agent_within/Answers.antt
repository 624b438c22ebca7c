use Rattle.std.proofs.Common.{◌≡◌, Some, None, refl, arith}
use Rattle.json.specs.Json.{read_key}
use Rattle.es_reading.specs.Reading.{said}
use Rattle.es_script.proofs.TakingAgents.{agent_none, took_within}
use Rattle.es_script.proofs.agent.agent_within.Goals as goal

pub members-init : goal.members-init
members-init c = agent_none (said c.args.scope.now) c.args.agent c.args.reader.now c.open_object.new.reader _ c.in_ok-open_object.ensures refl refl refl

pub members-preserved : goal.members-preserved
members-preserved c =
    let l = c.members in
    let key : read_key l.reader ≡ Some (Some c.in-Some.key.now, c.next_key.new.self) = grind arith in
    c.in_ok-member_in.ensures.taken c.args.reader.now l.reader key l.invariant

pub returns : goal.returns
returns c =
    let l = c.members in
    let closed : read_key l.reader ≡ Some (None, c.next_key.new.self) = grind arith in
    let plan = c.in_ok-plan in
    took_within (said c.args.scope.now) c.args.agent c.args.reader.now l.reader c.next_key.new.self l.draft plan.plan l.invariant closed plan.ensures.callbacks plan.ensures.jobs plan.ensures.name
