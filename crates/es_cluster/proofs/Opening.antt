-- A member that opens a later collection, or for want of memory does not.
use Rattle.std.proofs.Common.{◌≡◌, sym, subst, Result, Ok, Err}
use Rattle.std.specs.Prelude.{OnOk, OnErr}
use Rattle.es_event.specs.declared.plan.Plan.{Plan}
use Rattle.es_ticket.specs.Stakes.{StakeView}
use Rattle.es_record.specs.AgentView.{AgentView, Records}
use Rattle.es_rules.specs.Needs.{need, asks_copy}
use Rattle.es_agent.specs.Later.{opening}
use Rattle.es_cluster.specs.Members.{Holds, IsPlanned}
use Rattle.es_cluster.specs.Turned.{GrowsByOne}
use Rattle.es_cluster.proofs.MovingMembers.{opened_leaves, holds_still}

pub opened_seat : {A E : Type 0} (r : Result A E) (old new : AgentView) (s : StakeView) (p : Plan) → need old ≡ asks_copy → OnOk r (Records old opening new) → OnErr r (new ≡ old) → Holds old s × IsPlanned p old → Holds new s × IsPlanned p new
opened_seat (Ok a) old new s p is ok err has = (holds_still old new s (opened_leaves old new is ok) has.0, subst (IsPlanned p) (sym ok) has.1)
opened_seat (Err e) old new s p is ok err has = subst (λ b. Holds b s × IsPlanned p b) (sym err) has

pub opened_moves : {A E : Type 0} (r : Result A E) (old new : AgentView) → need old ≡ asks_copy → OnOk r (Records old opening new) → OnOk r (GrowsByOne old new)
opened_moves (Ok a) old new is ok = (opened_leaves old new is ok).moves
opened_moves (Err e) old new is ok = ok
