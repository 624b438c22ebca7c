-- To believe: what is told of the races of a plan.
use Rattle.std.specs.Prelude.{ℕ, ◌≡◌, ◌≤◌, Bool, List, [], Option, Some, None, codes, reverse, slice_index_or, true, false}
use Rattle.es_event.specs.declared.outcome.Outcome.{Outcome}
use Rattle.es_event.specs.declared.plan.Plan.{Plan}
use Rattle.es_event.specs.History.{History}
use Rattle.es_trace.specs.Commands.{name_at}
use Rattle.es_theorems.specs.Sleepless.{never_sleeps}
use Rattle.es_theorems.specs.WithoutRaces.{HasNoRaceByTurns}
use Rattle.es_races.specs.declared.race.Mark.{Mark}
use Rattle.es_races.specs.declared.race.Race.{Race}
use Rattle.es_races.specs.Verdict.{race_at, said}
use Rattle.es_script.specs.Fault.{IsPlanOf}
use Rattle.es_turns.specs.Answer.{IsByTurns}
use Rattle.es_races.specs.declared.place.Place.{Place}
use Rattle.es_races.specs.declared.text.Spot.{Spot}
use Rattle.es_races.specs.Places.{IsPlace, accesses_in}
use Rattle.es_races.specs.Texts.{race_text}

-- by turns no two accesses of the plan race; or these two do, in this outcome of its run by turns
abbrev pub IsFound : Plan → Outcome → Option Race → Type 0
IsFound p o None = HasNoRaceByTurns p
IsFound p o (Some r) = race_at (reverse o.ledger) (said r.earlier) (said r.later) ≡ true

-- agent a's history
abbrev pub history_at : Outcome → ℕ → History
history_at o a = reverse (slice_index_or o.histories a [])

-- the access before which the agent made n others stands there; it made no more, where it stands nowhere
abbrev pub StandsAt : History → ℕ → Option Place → Type 0
StandsAt h n (Some p) = IsPlace h n p.section p.number p.command.now
StandsAt h n None = accesses_in h ≤ n

-- the name of the mark's agent, and where its access stands
pub record IsSpot (o : Outcome) (m : Mark) (s : Spot) : Type 0 where
  pub name : s.name.now ≡ name_at o.names m.agent
  pub place : StandsAt (history_at o m.agent) m.number s.place

abbrev pub IsTold : Outcome → Option Race → List ℕ → Type 0
IsTold o None text = text ≡ codes "no race\n"
IsTold o (Some r) text = (x y : Spot) × IsSpot o r.earlier x × IsSpot o r.later y × (text ≡ race_text x y)

-- what is told of the races of a plan; nothing of one whose agents sleep, since a notify orders what messages do not
abbrev pub TellsIf : (awake : Bool) → Plan → List ℕ → Type 0
TellsIf true p text = (o : Outcome) × (found : Option Race) × IsByTurns p o × IsFound p o found × IsTold o found text
TellsIf false p text = text ≡ codes "unknown: the plan waits or notifies\n"

abbrev pub TellsRacesOf : Plan → List ℕ → Type 0
TellsRacesOf p text = TellsIf (never_sleeps p) p text

-- the text tells of the races of the plan that the bytes stand for
abbrev pub TellsRaces : List ℕ → List ℕ → Type 0
TellsRaces bytes text = (p : Plan) × IsPlanOf bytes p × TellsRacesOf p text
