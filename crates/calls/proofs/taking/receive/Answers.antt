use Rattle.std.proofs.Common.{sym, subst, ap, ◌∙◌}
use Rattle.es_value.specs.Values.{identity}
use Rattle.es_cluster.specs.Members.{Holds}
use Rattle.es_cluster.proofs.MovingMembers.{holds_still, received_stays}
use Rattle.calls.specs.Suiting.{Comes}
use Rattle.calls.proofs.taking.receive.Goals as goal

pub receive-requires-clause-message : goal.receive-requires-clause-message
receive-requires-clause-message g c = c.requires.comes.message

pub receive-requires-clause-plain : goal.receive-requires-clause-plain
receive-requires-clause-plain g c = ap identity c.in-Ok.ensures ∙ c.requires.comes.plain

pub returns-in-Ok-receive-clause-ok : goal.returns-in-Ok-receive-clause-ok
returns-in-Ok-receive-clause-ok g c = holds_still c.args.core.now c.receive.new.self c.args.stake.now (received_stays c.args.core.now c.receive.new.self _ c.in-Ok-receive.ensures.ok) c.requires.held

pub returns-in-Err-clause-err : goal.returns-in-Err-clause-err
returns-in-Err-clause-err g c = record {
  asked = subst (λ b. Comes c.args.value b) (sym c.in-Err.ensures.err) c.requires.comes;
  held = subst (λ b. Holds b c.args.stake.now) (sym c.in-Err.ensures.err) c.requires.held;
}
