use Rattle.es_tables.proofs.Outcomes.{if_map}
use Rattle.es_record.proofs.Late.{all_late, late_there, late_rises}
use Rattle.es_record.proofs.agent_record.AgentRecord.late.Goals as goal

pub returns-clause-late : goal.returns-clause-late
returns-clause-late c =
    let marks = rw (← c.self.view_is) at c.requires.marks in
    let copied = rw (← c.self.view_is) at c.requires.copied in
    rw (← c.self.view_is) (if_map c.unmarked.result _ _ (λ ids same p is. all_late _ _ _ _ _ p c.self.invariant.0 marks is _ (copied p is) same) c.unmarked.ensures)

pub returns-clause-there : goal.returns-clause-there
returns-clause-there c =
    rw (← c.self.view_is) (if_map c.unmarked.result _ _ (λ ids same. late_there _ _ _ _ _ same c.self.invariant.0.says.tags) c.unmarked.ensures)

pub returns-clause-rising : goal.returns-clause-rising
returns-clause-rising c = if_map c.unmarked.result _ _ (λ ids same. late_rises c.self.inside.tables.tags.all c.args.marks.now ids.items c.args.copied same) c.unmarked.ensures
