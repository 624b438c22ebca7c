-- To believe: what is said of answers as a whole; the contract of a function that does nothing.
use Rattle.std.specs.Prelude.{ℕ, ◌≡◌, Bool, true, List}
use Rattle.es_event.specs.declared.plan.Plan.{Plan}
use Rattle.es_event.specs.Others.{all_name_others}
use Rattle.es_theorems.specs.Messages.{share_no_word}
use Rattle.es_theorems.specs.Sleepless.{never_sleeps}
use Rattle.es_theorems.specs.WithoutRaces.{HasNoRaceByTurns}
use Rattle.es_script.specs.Grammar.{no_callback_collects}
use Rattle.es_turns.specs.Answer.{IsAnswer}

-- A plan whose agents read and write no word of a shared block has one answer, by turns or not: what a run writes is the report of the plan.
abbrev pub APlanHasOneAnswer : Type 0
APlanHasOneAnswer =
    (check a b : Bool) (plan : Plan) (s t : List ℕ) → share_no_word plan ≡ true → IsAnswer check a plan s → IsAnswer check b plan t → s ≡ t

-- So has a plan whose agents never sleep and of which by turns no two accesses race, whose agents name others alone and whose callbacks collect
-- nothing: the reader refuses all others.
abbrev pub WithoutRacesAPlanHasOneAnswer : Type 0
WithoutRacesAPlanHasOneAnswer =
    (check a b : Bool) (plan : Plan) (s t : List ℕ) → never_sleeps plan ≡ true → all_name_others plan ≡ true → no_callback_collects plan ≡ true → HasNoRaceByTurns plan → IsAnswer check a plan s → IsAnswer check b plan t → s ≡ t
