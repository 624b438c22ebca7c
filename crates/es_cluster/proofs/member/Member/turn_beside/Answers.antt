use Rattle.std.proofs.Common.{subst}
use Rattle.std.specs.Prelude.{IfOk}
use Rattle.es_cluster.specs.Members.{member_of}
use Rattle.es_cluster.specs.Turned.{ProceedsBeside}
use Rattle.es_cluster.proofs.Standing.{beside_too}
use Rattle.es_cluster.proofs.member.Member.turn_beside.Goals as goal

pub returns-clause-ok : goal.returns-clause-ok
returns-clause-ok g c =
    rw (← c.self.view_is)
    (subst (λ s. IfOk c.ask.result (λ p. ProceedsBeside p (member_of c.self.inside.core s) (member_of c.ask.new.core c.ask.new.stake))) c.look.ensures.same.1
    (beside_too c.ask.result (member_of c.self.inside.core c.look.new.stake) (member_of c.ask.new.core c.ask.new.stake) c.ask.ensures.ok))
