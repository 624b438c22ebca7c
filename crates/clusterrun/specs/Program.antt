-- To believe: what the program knows of its reader and its writer once it has run, checked or explained a plan, or told of its trace or its races.
use Rattle.std.specs.Prelude.{ℕ, ◌≡◌, ⊤, List, Option, Some, None, Result, Ok, Err}
use Rattle.std.specs.Io.KnownBytes.{Appends}
use Rattle.es_reading.specs.declared.fault.ScriptFault.{ScriptFault}
use Rattle.es_script.specs.Fault.{fault_of}
use Rattle.es_explain.specs.declared.explanation.Explanation.{Explanation}
use Rattle.es_explain.specs.declared.explanation.Explanation.TheVariants.{Plan as IsPlan, Fault}
use Rattle.es_explain.specs.Explaining.{Explains, explanation_text}
use Rattle.es_engine.specs.declared.run_fault.RunFault.{RunFault}
use Rattle.es_engine.specs.declared.run_fault.RunFault.TheVariants.{Script, NoMemory, Mismatch, Read, Write}
use Rattle.es_warnings.specs.Warnings.{warnings}
use Rattle.es_options.specs.declared.options.Options.{Options}
use Rattle.es_engine.specs.declared.checking.Checked.{Checked}
use Rattle.es_engine.specs.Engine.{GaveAll, GavePlan, GaveSomePlan, audits_of}
use Rattle.es_turns.specs.declared.fault.TurnsFault.{TurnsFault}
use Rattle.es_turns.specs.declared.fault.TurnsFault.TheVariants.{Script as TurnsScript, NoMemory as TurnsNoMemory, TooLong}
use Rattle.es_turns.specs.Tracing.{IsTraceOf}
use Rattle.es_races.specs.Races.{TellsRaces}
use Rattle.clusterrun.specs.declared.telling.Telling.{Telling}
use Rattle.clusterrun.specs.declared.telling.Telling.TheVariants.{Trace, Races}

-- it gave a plan, and the number is that of the audits that were asked for; or it gave what has the fault; else nothing is known
abbrev pub ReadsTo : Options → Option (List ℕ) → Option (List ℕ) → Result ℕ RunFault → Type 0
ReadsTo options old new (Ok audits) = GaveSomePlan old new × (audits ≡ audits_of options)
ReadsTo options old new (Err (Script f)) = (bytes : List ℕ) × GaveAll old new bytes × (fault_of bytes ≡ Some f)
ReadsTo options old new (Err NoMemory) = ⊤
ReadsTo options old new (Err Mismatch) = GaveSomePlan old new
ReadsTo options old new (Err Read) = ⊤
ReadsTo options old new (Err Write) = ⊤

-- it gave the plan, and these are all its warnings; or it gave what has the fault; else nothing is known
abbrev pub ChecksRead : (old new : Option (List ℕ)) → Result Checked RunFault → Type 0
ChecksRead old new (Ok c) = GavePlan old new c.plan × (c.warnings.items ≡ warnings c.plan)
ChecksRead old new (Err (Script f)) = (bytes : List ℕ) × GaveAll old new bytes × (fault_of bytes ≡ Some f)
ChecksRead old new (Err NoMemory) = ⊤
ChecksRead old new (Err Mismatch) = ⊥
ChecksRead old new (Err Read) = ⊤
ChecksRead old new (Err Write) = GaveSomePlan old new

-- the fault of an explanation
abbrev pub fault_in : Explanation → Option ScriptFault
fault_in (IsPlan plan ws) = None
fault_in (Fault fault place found) = Some fault

-- the reader gave bytes that this explains, and this is the fault that it tells
abbrev pub ExplainsAll : (old new : Option (List ℕ)) → Option ScriptFault → Explanation → Type 0
ExplainsAll old new f e = (bytes : List ℕ) × GaveAll old new bytes × Explains bytes e × (f ≡ fault_in e)

-- why there is no explanation: there was no memory, or reading or writing failed; a fault of the plan is explained, and no
-- histories are compared
abbrev pub IsExplainFault : RunFault → Type 0
IsExplainFault (Script f) = ⊥
IsExplainFault NoMemory = ⊤
IsExplainFault Mismatch = ⊥
IsExplainFault Read = ⊤
IsExplainFault Write = ⊤

-- the same of some explanation; or there is none
abbrev pub ExplainsRead : (old new : Option (List ℕ)) → Result (Option ScriptFault) RunFault → Type 0
ExplainsRead old new (Ok f) = (e : Explanation) × ExplainsAll old new f e
ExplainsRead old new (Err fault) = IsExplainFault fault

-- of one whose text was added to what the writer holds; or there is none, and writing failed only once bytes were given
abbrev pub ExplainsTo : (old new : Option (List ℕ)) (before after : Option (List ℕ)) → Result (Option ScriptFault) RunFault → Type 0
ExplainsTo old new before after (Ok f) = (e : Explanation) × ExplainsAll old new f e × Appends before after (explanation_text e)
ExplainsTo old new before after (Err (Script f)) = ⊥
ExplainsTo old new before after (Err NoMemory) = ⊤
ExplainsTo old new before after (Err Mismatch) = ⊥
ExplainsTo old new before after (Err Read) = ⊤
ExplainsTo old new before after (Err Write) = (bytes : List ℕ) × GaveAll old new bytes

-- what the text says of the plan that the bytes stand for: its trace, as the view shows it; or its races
abbrev pub tells : Telling → (bytes text : List ℕ) → Type 0
tells (Trace v) bytes text = IsTraceOf v bytes text
tells Races bytes text = TellsRaces bytes text

-- why nothing is told: a longer text than a plan has at most counts as one that could not be read
abbrev pub telling_fault : TurnsFault → RunFault
telling_fault (TurnsScript f) = Script f
telling_fault TurnsNoMemory = NoMemory
telling_fault TooLong = Read

-- these bytes have the fault, or there was no memory
abbrev pub IsTellingFault : List ℕ → RunFault → Type 0
IsTellingFault bytes (Script f) = fault_of bytes ≡ Some f
IsTellingFault bytes NoMemory = ⊤
IsTellingFault bytes Mismatch = ⊥
IsTellingFault bytes Read = ⊤
IsTellingFault bytes Write = ⊥

-- the reader gave bytes of which the text tells
abbrev pub TellsAll : Telling → (old new : Option (List ℕ)) → List ℕ → Type 0
TellsAll t old new text = (bytes : List ℕ) × GaveAll old new bytes × tells t bytes text

-- the same of some text; or it gave what has the fault; or there was no memory, or reading or writing failed. No histories are
-- compared
abbrev pub TellsRead : {A : Type 0} → Telling → (old new : Option (List ℕ)) → Result A RunFault → Type 0
TellsRead t old new (Ok done) = (text : List ℕ) × TellsAll t old new text
TellsRead t old new (Err (Script f)) = (bytes : List ℕ) × GaveAll old new bytes × (fault_of bytes ≡ Some f)
TellsRead t old new (Err NoMemory) = ⊤
TellsRead t old new (Err Mismatch) = ⊥
TellsRead t old new (Err Read) = ⊤
TellsRead t old new (Err Write) = ⊤

-- of one that was added to what the writer holds; or writing failed, once there was a text
abbrev pub TellsTo : {A : Type 0} → Telling → (old new : Option (List ℕ)) (before after : Option (List ℕ)) → Result A RunFault → Type 0
TellsTo t old new before after (Ok done) = (text : List ℕ) × TellsAll t old new text × Appends before after text
TellsTo t old new before after (Err (Script f)) = (bytes : List ℕ) × GaveAll old new bytes × (fault_of bytes ≡ Some f)
TellsTo t old new before after (Err NoMemory) = ⊤
TellsTo t old new before after (Err Mismatch) = ⊥
TellsTo t old new before after (Err Read) = ⊤
TellsTo t old new before after (Err Write) = (text : List ℕ) × TellsAll t old new text
