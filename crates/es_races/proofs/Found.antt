-- What was found in a plan's run by turns is so of the plan.
use Rattle.std.proofs.Common.{◌≡◌, true, Option, Some, None, reverse}
use Rattle.es_event.specs.declared.outcome.Outcome.{Outcome}
use Rattle.es_event.specs.declared.plan.Plan.{Plan}
use Rattle.es_event.specs.Others.{all_name_others}
use Rattle.es_theorems.specs.Sleepless.{never_sleeps}
use Rattle.es_theorems.proofs.Reports.{free_by_turns}
use Rattle.es_races.specs.declared.race.Race.{Race}
use Rattle.es_races.specs.Verdict.{IsVerdict}
use Rattle.es_turns.specs.Answer.{IsByTurns}
use Rattle.es_races.specs.Races.{IsFound}

pub found : (p : Plan) (o : Outcome) (r : Option Race) → never_sleeps p ≡ true → all_name_others p ≡ true → IsByTurns p o → IsVerdict (reverse o.ledger) r → IsFound p o r
found p o None calm others (c, run, ends) verdict = free_by_turns p o c calm others run ends verdict
found p o (Some r) calm others by verdict = verdict
