use Rattle.std.specs.Arc.{arc_value}
use Rattle.es_agent.proofs.Keeping.{begun_kept, begun_copy}
use Rattle.es_agent.proofs.recorder.Recorder.begin.Goals as goal

pub invariant_of-self-2 : goal.invariant_of-self-2
invariant_of-self-2 c =
    begun_kept c.self.inside.record c.record.new.self c.in_ok-event.event c.in_ok-of.field-0 (arc_value c.in_ok-copy.copy) c.in_ok-of.ensures c.in_ok-event.ensures.said c.in_ok-record.ensures.ok c.in_ok-copy.ensures.ok
    (arc_value c.in_ok-own.own) c.new-2.result.events c.in_ok-own.ensures c.new-2.ensures

pub returns-clause-copy : goal.returns-clause-copy
returns-clause-copy c =
    begun_copy c.self.inside.record c.record.new.self c.in_ok-event.event c.in_ok-of.field-0 (arc_value c.in_ok-copy.copy) c.in_ok-of.ensures c.in_ok-event.ensures.said c.in_ok-record.ensures.ok c.in_ok-copy.ensures.ok
