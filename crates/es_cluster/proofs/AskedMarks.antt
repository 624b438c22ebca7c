-- Whether a later collection is open tells which marks an agent asks for, where it asks for marks.
use Rattle.std.proofs.Common.{◌≡◌, Bool, true, false, List, Option, Some, None, sym, subst, ◌∙◌, refl, inl, inr}
use Rattle.std.specs.Prelude.{is_none, is_some}
use Rattle.std.proofs.lemmas.Bool.{and_parts}
use Rattle.es_event.specs.Commands.{collects}
use Rattle.es_event.specs.History.{History}
use Rattle.es_event.specs.Later.{snapshot}
use Rattle.es_event.specs.Order.{due}
use Rattle.es_record.specs.AgentView.{AgentView}
use Rattle.es_record.specs.Graph.{AreMarksOf, AreLateMarks}
use Rattle.es_rules.specs.Needs.{Need, asks_marks, asks_late_marks, need}
use Rattle.es_rules.proofs.Needs.{collects_due}
use Rattle.es_agent.proofs.Racks.{finish_open}
use Rattle.es_cluster.specs.Turned.{AreAskedFor, AsksMarks}

closed : (o : Option History) → is_none o ≡ true → is_some o ≡ false
closed None e = refl
closed (Some p) e = cc

collect_closed : (b : AgentView) → need b ≡ asks_marks → is_some (snapshot b.history) ≡ false
collect_closed b asked =
    let at = collects_due b (due b.plan b.history) asked in
    closed (snapshot b.history) (and_parts (collects at.0) (is_none (snapshot b.history)) at.2).1

collect_asked : (b : AgentView) → AsksMarks (need b) → is_some (snapshot b.history) ≡ false → need b ≡ asks_marks
collect_asked b (inl is) shut = is
collect_asked b (inr is) shut = (let clash : true ≡ false = sym (finish_open b is) ∙ shut in cc)

finish_asked : (b : AgentView) → AsksMarks (need b) → is_some (snapshot b.history) ≡ true → need b ≡ asks_late_marks
finish_asked b (inl is) there = (let clash : true ≡ false = sym there ∙ collect_closed b is in cc)
finish_asked b (inr is) there = is

marks_asked : (n : Need) (b : AgentView) (m : List Bool) → AreAskedFor n b m → AsksMarks n
marks_asked asks_marks b m are = inl refl
marks_asked asks_late_marks b m are = inr refl
marks_asked _ b m are = absurd are

pub are_marks : (b : AgentView) (m : List Bool) → AreAskedFor (need b) b m → is_some (snapshot b.history) ≡ false → AreMarksOf b m
are_marks b m are shut = subst (λ n. AreAskedFor n b m) (collect_asked b (marks_asked (need b) b m are) shut) are

pub are_late_marks : (b : AgentView) (m : List Bool) → AreAskedFor (need b) b m → is_some (snapshot b.history) ≡ true → AreLateMarks b m
are_late_marks b m are there = subst (λ n. AreAskedFor n b m) (finish_asked b (marks_asked (need b) b m are) there) are

-- marks of the copy are what is asked for
pub asked_late_marks : (b : AgentView) → AsksMarks (need b) → is_some (snapshot b.history) ≡ true → (m : List Bool) → AreLateMarks b m → AreAskedFor (need b) b m
asked_late_marks b asks there m are = subst (λ n. AreAskedFor n b m) (sym (finish_asked b asks there)) are
