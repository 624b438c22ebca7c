-- Where by turns no two accesses of a plan race, what a run answers is the answer by turns.
use Rattle.std.proofs.Common.{◌≡◌, ℕ, Bool, true, false, sym, ◌∙◌, List, Option, Result, Ok, Err}
use Rattle.std.specs.Prelude.{IfOk, OnOk}
use Rattle.es_event.specs.declared.plan.Plan.{Plan}
use Rattle.es_event.specs.Others.{all_name_others}
use Rattle.es_options.specs.declared.options.Options.{Options}
use Rattle.es_theorems.proofs.Arriving.{plan_comes_to_an_end}
use Rattle.es_theorems.proofs.Converse.{outcome_of_run}
use Rattle.es_theorems.specs.Messages.{share_no_word}
use Rattle.es_theorems.specs.Sleepless.{never_sleeps}
use Rattle.es_theorems.specs.WithoutRaces.{HasNoRaceByTurns}
use Rattle.es_theorems.proofs.Reports.{reports_as_by_turns, reports_in_threads}
use Rattle.es_script.specs.Grammar.{no_callback_collects}
use Rattle.es_turns.specs.Answer.{IsAnswer}
use Rattle.es_engine.specs.declared.run_fault.RunFault.{RunFault}
use Rattle.es_engine.specs.Engine.{Answers, GavePlan, RunsAsByTurns}

pub one_answer : (check a b : Bool) (plan : Plan) (s t : List ℕ) → share_no_word plan ≡ true → IsAnswer check a plan s → IsAnswer check b plan t → s ≡ t
one_answer true a b plan s t apart first second = first ∙ sym second
one_answer false a b plan s t apart first second = first.3 ∙ reports_in_threads plan first.0 second.0 apart first.1 second.1 ∙ sym second.3

-- what is answered of a plan that runs in threads is what its run by turns reports
as_reported : (plan : Plan) (text : List ℕ) → never_sleeps plan ≡ true → all_name_others plan ≡ true → no_callback_collects plan ≡ true → HasNoRaceByTurns plan → IsAnswer false false plan text → IsAnswer false true plan text
as_reported plan text calm others quiet free is =
    let e = plan_comes_to_an_end plan others quiet in
    (e.1, outcome_of_run plan e.0 e.1 e.2 e.3, (e.0, e.2, e.3), is.3 ∙ reports_as_by_turns plan e.0 is.0 e.1 calm is.1 e.2 (free e.0 e.2) e.3)

as_by_turns : (check turns : Bool) (plan : Plan) (text : List ℕ) → never_sleeps plan ≡ true → all_name_others plan ≡ true → no_callback_collects plan ≡ true → HasNoRaceByTurns plan → IsAnswer check turns plan text → IsAnswer check true plan text
as_by_turns true turns plan text calm others quiet free is = is
as_by_turns false true plan text calm others quiet free is = is
as_by_turns false false plan text calm others quiet free is = as_reported plan text calm others quiet free is

-- by turns a plan has one answer, and so it has in threads
pub one_without_races : (check a b : Bool) (plan : Plan) (s t : List ℕ) → never_sleeps plan ≡ true → all_name_others plan ≡ true → no_callback_collects plan ≡ true → HasNoRaceByTurns plan → IsAnswer check a plan s → IsAnswer check b plan t → s ≡ t
one_without_races true a b plan s t calm others quiet free first second = first ∙ sym second
one_without_races false a b plan s t calm others quiet free first second =
    let e = plan_comes_to_an_end plan others quiet in
    first.3 ∙ reports_as_by_turns plan e.0 first.0 e.1 calm first.1 e.2 (free e.0 e.2) e.3 ∙ sym (reports_as_by_turns plan e.0 second.0 e.1 calm second.1 e.2 (free e.0 e.2) e.3) ∙ sym second.3

pub runs_as_by_turns : (r : Result ℕ RunFault) (options : Options) (plan : Plan) (before after old new : Option (List ℕ)) → GavePlan before after plan → all_name_others plan ≡ true → no_callback_collects plan ≡ true
    → OnOk r (Answers options plan old new) → IfOk r (λ n. RunsAsByTurns options before after old new)
runs_as_by_turns (Ok n) options plan before after old new gave others quiet answers =
    (plan, gave, λ calm free. (answers.0, as_by_turns options.check options.turns plan answers.0 calm others quiet free answers.1, answers.2))
runs_as_by_turns (Err e) options plan before after old new gave others quiet answers = tt
