use Rattle.std.proofs.Common.{ap}
use Rattle.std.specs.Arc.{arc_value}
use Rattle.es_event.specs.Later.{derefed_since}
use Rattle.es_agent.specs.Keeping.{kept_of}
use Rattle.es_agent.proofs.Keeping.{given_then, derefed_kept}
use Rattle.es_agent.proofs.recorder.Recorder.derefed.Goals as goal

pub returns-clause-then : goal.returns-clause-then
returns-clause-then c =
    rw (← c.self.view_is)
    (λ p at. given_then p c.as_slice.result.now (derefed_since c.self.inside.record.history)
    (derefed_kept c.self.inside.record (kept_of c.self.inside.kept) (arc_value c.in-Some.kept.copy) c.in-Some.kept.derefed.events c.as_slice.result.now (ap kept_of c.in-Some.is) c.as_slice.ensures c.self.invariant p at))
