-- To believe: what a run does, on bytes: the reader's bytes to its end, and what is written for them.
use Rattle.std.specs.Prelude.{ℕ, ◌≡◌, ◌≤◌, ◌||◌, ⊤, Bool, true, not, List, Option, Some, Result, Ok, Err, length, if◌then◌else◌}
use Rattle.std.specs.Io.KnownBytes.{Appends, Consumes, IsAtEnd}
use Rattle.es_value.specs.Limits.{longest_plan}
use Rattle.es_event.specs.declared.plan.Plan.{Plan}
use Rattle.es_options.specs.declared.options.Options.{Options}
use Rattle.es_engine.specs.declared.run_fault.RunFault.{RunFault}
use Rattle.es_engine.specs.declared.run_fault.RunFault.TheVariants.{Script, NoMemory, Mismatch, Read, Write}
use Rattle.es_theorems.specs.Sleepless.{never_sleeps}
use Rattle.es_theorems.specs.WithoutRaces.{HasNoRaceByTurns}
use Rattle.es_script.specs.Fault.{IsPlanOf, fault_of}
use Rattle.es_turns.specs.Answer.{IsAnswer}

-- the reader gave these bytes and then its end, and they are no more than a plan has at most
pub record GaveAll (old new : Option (List ℕ)) (bytes : List ℕ) : Type 0 where
  pub consumed : Consumes old new bytes
  pub ended : IsAtEnd new
  pub few : length bytes ≤ longest_plan

-- it came while bytes were read
abbrev pub IsInputFault : RunFault → Type 0
IsInputFault (Script f) = ⊥
IsInputFault NoMemory = ⊤
IsInputFault Mismatch = ⊥
IsInputFault Read = ⊤
IsInputFault Write = ⊥

-- it came while a plan was run, in threads or not, and the answer was written
abbrev pub IsAnswerFault : Bool → RunFault → Type 0
IsAnswerFault threads (Script f) = ⊥
IsAnswerFault threads NoMemory = ⊤
IsAnswerFault threads Mismatch = threads ≡ true
IsAnswerFault threads Read = ⊥
IsAnswerFault threads Write = ⊤

-- the answer for the plan is added to what the writer holds
abbrev pub Answers : Options → Plan → Option (List ℕ) → Option (List ℕ) → Type 0
Answers options p old new = (text : List ℕ) × IsAnswer options.check options.turns p text × Appends old new text

-- the plan that the reader's bytes stand for
pub record GavePlan (old new : Option (List ℕ)) (p : Plan) : Type 0 where
  pub bytes : List ℕ
  pub gave : GaveAll old new bytes
  pub plan : IsPlanOf bytes p

-- the reader gave a plan
abbrev pub GaveSomePlan : Option (List ℕ) → Option (List ℕ) → Type 0
GaveSomePlan old new = (p : Plan) × GavePlan old new p

-- the plan that the reader's bytes stand for, or their fault
abbrev pub ReadsPlan : Option (List ℕ) → Option (List ℕ) → Result Plan RunFault → Type 0
ReadsPlan old new (Ok p) = GavePlan old new p
ReadsPlan old new (Err (Script f)) = (bytes : List ℕ) × GaveAll old new bytes × (fault_of bytes ≡ Some f)
ReadsPlan old new (Err e) = IsInputFault e

-- the agents run in threads: the plan is not only checked, and they do not run by turns
abbrev pub runs_threads : Options → Bool
runs_threads o = not (o.check || o.turns)

-- the number of audits that a run answers: the one that was asked for in threads, and else none
abbrev pub audits_of : Options → ℕ
audits_of o = if runs_threads o then o.watch else 0

-- how a run ends: well, with the answer for the plan that the reader gave and that number of audits; with the fault of what the reader
-- gave; for want of memory; by a failure of the reader; once a plan was read, by one of the writer, or in threads by histories that do
-- not match
abbrev pub RunsTo : Options → Option (List ℕ) → Option (List ℕ) → Option (List ℕ) → Option (List ℕ) → Result ℕ RunFault → Type 0
RunsTo options before after old new (Ok audits) = (p : Plan) × GavePlan before after p × Answers options p old new × (audits ≡ audits_of options)
RunsTo options before after old new (Err (Script f)) = (bytes : List ℕ) × GaveAll before after bytes × (fault_of bytes ≡ Some f)
RunsTo options before after old new (Err NoMemory) = ⊤
RunsTo options before after old new (Err Mismatch) = (runs_threads options ≡ true) × GaveSomePlan before after
RunsTo options before after old new (Err Read) = ⊤
RunsTo options before after old new (Err Write) = GaveSomePlan before after

-- the same options by turns
abbrev pub with_turns : Options → Options
with_turns o = record { check = o.check; turns = true; helpers = o.helpers; watch = o.watch }

-- where the agents of the plan that the reader gave never sleep, and by turns no two accesses race, the answer is the one by turns, however
-- they ran
abbrev pub RunsAsByTurns : Options → Option (List ℕ) → Option (List ℕ) → Option (List ℕ) → Option (List ℕ) → Type 0
RunsAsByTurns options before after old new = (p : Plan) × GavePlan before after p × (never_sleeps p ≡ true → HasNoRaceByTurns p → Answers (with_turns options) p old new)
