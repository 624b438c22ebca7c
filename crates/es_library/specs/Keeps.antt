-- To believe: what a call leaves that keeps its answer, for the bytes of a plan.
use Rattle.std.specs.Prelude.{ℕ, ◌≡◌, ◌<◌, true, List, Some, length}
use Rattle.es_value.specs.Limits.{longest_plan}
use Rattle.es_reading.specs.declared.fault.ScriptFault.{ScriptFault}
use Rattle.es_script.specs.Fault.{fault_of}
use Rattle.es_script.specs.FaultText.{fault_text}
use Rattle.es_library.specs.declared.asked.Asked.{Asked}
use Rattle.es_library.specs.declared.kept.Kept.{Kept}
use Rattle.es_library.specs.Replies.{IsTextFor}

-- this text is kept, and its length is known
abbrev pub IsKept : List ℕ → Kept → ℕ → Type 0
IsKept text k count = (k.filled ≡ true) × (k.value.bytes.items ≡ text) × (count ≡ length text)

-- nothing is kept
abbrev pub IsNotKept : Kept → Kept → ℕ → Type 0
IsNotKept old new count = (new ≡ old) × (count ≡ 0)

-- 0: what was asked for; 1: the text of the first fault; 3: there was no memory; 4: the bytes are more than a plan has at most
pub record Keeps (asked : Asked) (bytes : List ℕ) (old new : Kept) (count status : ℕ) : Type 0 where
  pub answer : status ≡ 0 → (text : List ℕ) × IsTextFor asked bytes text × IsKept text new count
  pub fault : status ≡ 1 → (f : ScriptFault) × (fault_of bytes ≡ Some f) × IsKept (fault_text f) new count
  pub nothing : 1 < status → IsNotKept old new count
  pub two : status ≡ 2 → ⊥
  pub long : status ≡ 4 → longest_plan < length bytes
  pub last : status < 5
