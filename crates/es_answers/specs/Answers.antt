-- To believe: that each plan has exactly one answer by turns. Each law is the contract of a function of its name that does nothing.
use Rattle.std.specs.Prelude.{ℕ, ◌≡◌, Bool, true, List}
use Rattle.es_event.specs.declared.plan.Plan.{Plan}
use Rattle.es_event.specs.Others.{all_name_others}
use Rattle.es_cluster.specs.State.{ClusterView, first_state}
use Rattle.es_cluster.specs.Turns.{AllTurned}
use Rattle.es_script.specs.Fault.{IsPlanOf}
use Rattle.es_script.specs.Grammar.{no_callback_collects}
use Rattle.es_turns.specs.Answer.{IsAnswer, IsAnswerTo, IsReportOfRest}

-- By turns no plan has two answers, with messages and shared buffers too.
abbrev pub ByTurnsAPlanHasOneAnswer : Type 0
ByTurnsAPlanHasOneAnswer = (check : Bool) (plan : Plan) (s t : List ℕ) → IsAnswer check true plan s → IsAnswer check true plan t → s ≡ t

-- And each plan has one, whose agents name others alone and whose callbacks collect nothing: the reader refuses all other plans.
abbrev pub ByTurnsAPlanHasAnAnswer : Type 0
ByTurnsAPlanHasAnAnswer = (check : Bool) (plan : Plan) → all_name_others plan ≡ true → no_callback_collects plan ≡ true → (text : List ℕ) × IsAnswer check true plan text

-- So bytes that stand for a plan have exactly one answer by turns.
abbrev pub BytesOfAPlanHaveOneAnswer : Type 0
BytesOfAPlanHaveOneAnswer =
    (check : Bool) (bytes : List ℕ) (plan : Plan) → IsPlanOf bytes plan → (text : List ℕ) × IsAnswerTo check bytes text × ((other : List ℕ) → IsAnswerTo check bytes other → other ≡ text)

-- And what is left of a plan has exactly one report, whichever agents took turns, in whatever order.
abbrev pub WhatIsLeftHasOneReport : Type 0
WhatIsLeftHasOneReport =
    (plan : Plan) (turns : List ℕ) (from : ClusterView) → all_name_others plan ≡ true → no_callback_collects plan ≡ true → AllTurned turns (first_state plan) from
    → (text : List ℕ) × IsReportOfRest plan from text × ((other : List ℕ) → IsReportOfRest plan from other → other ≡ text)
