use Rattle.es_tables.proofs.Outcomes.{if_map}
use Rattle.es_record.proofs.Unmarked.{all_dead}
use Rattle.es_record.proofs.agent_record.AgentRecord.dead.Goals as goal

pub returns-clause-dead : goal.returns-clause-dead
returns-clause-dead c =
    let least = rw (← c.self.view_is) at c.requires in
    let all = rw (← c.self.view_is) at c.identities.ensures.made in
    rw (← c.self.view_is) (if_map c.unmarked.result _ _ (λ ids is. (all_dead _ _ _ _ _ c.self.invariant.0 least _ all is).dead) c.unmarked.ensures)

pub returns-clause-there : goal.returns-clause-there
returns-clause-there c =
    let least = rw (← c.self.view_is) at c.requires in
    let all = rw (← c.self.view_is) at c.identities.ensures.made in
    rw (← c.self.view_is) (if_map c.unmarked.result _ _ (λ ids is. (all_dead _ _ _ _ _ c.self.invariant.0 least _ all is).there) c.unmarked.ensures)

pub returns-clause-rising : goal.returns-clause-rising
returns-clause-rising c =
    let least = rw (← c.self.view_is) at c.requires in
    let all = rw (← c.self.view_is) at c.identities.ensures.made in
    if_map c.unmarked.result _ _ (λ ids is. (all_dead _ _ _ _ _ c.self.invariant.0 least _ all is).rising) c.unmarked.ensures
