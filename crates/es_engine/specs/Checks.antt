-- To believe: what a check does, on bytes.
use Rattle.std.specs.Prelude.{ℕ, ◌≡◌, ⊤, List, Option, Some, Result, Ok, Err, codes}
use Rattle.std.specs.Io.KnownBytes.{Appends}
use Rattle.es_script.specs.Fault.{fault_of}
use Rattle.es_warnings.specs.Warnings.{warnings}
use Rattle.es_engine.specs.Engine.{GaveAll, GavePlan, GaveSomePlan}
use Rattle.es_engine.specs.declared.checking.Checked.{Checked}
use Rattle.es_engine.specs.declared.run_fault.RunFault.{RunFault}
use Rattle.es_engine.specs.declared.run_fault.RunFault.TheVariants.{Script, NoMemory, Mismatch, Read, Write}

-- how a check ends: well, with `ok` for the plan that the reader gave and all that it is warned of; with the fault of what the reader gave;
-- for want of memory; by a failure of the reader; or of the writer, once a plan was read
abbrev pub ChecksTo : Option (List ℕ) → Option (List ℕ) → Option (List ℕ) → Option (List ℕ) → Result Checked RunFault → Type 0
ChecksTo before after old new (Ok c) = GavePlan before after c.plan × (c.warnings.items ≡ warnings c.plan) × Appends old new (codes "ok\n")
ChecksTo before after old new (Err (Script f)) = (bytes : List ℕ) × GaveAll before after bytes × (fault_of bytes ≡ Some f)
ChecksTo before after old new (Err NoMemory) = ⊤
ChecksTo before after old new (Err Mismatch) = ⊥
ChecksTo before after old new (Err Read) = ⊤
ChecksTo before after old new (Err Write) = GaveSomePlan before after
