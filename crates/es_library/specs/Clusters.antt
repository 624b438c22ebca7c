-- To believe: what a call leaves that begins a cluster, moves it, asks it or ends it.
use Rattle.std.specs.Prelude.{ℕ, ◌≡◌, ◌<◌, ◌≤◌, true, List, Some, length, slice_get}
use Rattle.es_value.specs.Limits.{longest_plan}
use Rattle.es_ledger.specs.declared.audit.Audit.{Audit}
use Rattle.es_record.specs.AgentView.{AgentView}
use Rattle.es_cluster.specs.Audits.{Audits}
use Rattle.es_cluster.specs.declared.member.Progress.TheVariants.{Moved, Waiting, Ended}
use Rattle.es_cluster.specs.State.{ClusterView, first_state, plans}
use Rattle.es_cluster.specs.Turns.{Stopped, Turned}
use Rattle.es_reading.specs.declared.fault.ScriptFault.{ScriptFault}
use Rattle.es_script.specs.Fault.{IsPlanOf, fault_of}
use Rattle.es_script.specs.FaultText.{fault_text}
use Rattle.es_script.specs.Grammar.{no_callback_collects}
use Rattle.es_turns.specs.Answer.{IsReportOfRest}
use Rattle.es_turns.specs.Lines.{lines_from}
use Rattle.es_library.specs.declared.asking.Counts.{Counts}
use Rattle.es_library.specs.declared.held.Held.{Held}
use Rattle.es_library.specs.declared.kept.Kept.{Kept}
use Rattle.es_library.specs.Keeps.{IsKept, IsNotKept}
use Rattle.es_library.specs.Replies.{Holds, HoldsNothing}

-- a cluster is kept, of this plan; none of its callbacks collects
pub record IsHeld (k : Held) : Type 0 where
  pub filled : k.filled ≡ true
  pub plans_are : plans k.value.agents ≡ k.plan.agents
  pub quiet : no_callback_collects k.plan ≡ true

-- the plan that the bytes stand for, and its cluster, before the first event of any agent
pub record IsBegun (bytes : List ℕ) (k : Held) : Type 0 where
  pub plan : IsPlanOf bytes k.plan
  pub first : k.value ≡ first_state k.plan
  pub held : IsHeld k

-- 0: it has begun, with so many agents; 1: the text of the first fault; 3: there was no memory; 4: the bytes are more than a plan has
-- at most
pub record Begins (bytes : List ℕ) (before after : Held) (agents : ℕ) (old new : List ℕ) (count status : ℕ) : Type 0 where
  pub begun : status ≡ 0 → IsBegun bytes after × (agents ≡ length after.value.agents) × HoldsNothing old new count
  pub fault : status ≡ 1 → (f : ScriptFault) × (fault_of bytes ≡ Some f) × Holds (fault_text f) old new count
  pub nothing : 1 < status → HoldsNothing old new count
  pub empty : 0 < status → (after ≡ before) × (agents ≡ 0)
  pub two : status ≡ 2 → ⊥
  pub long : status ≡ 4 → longest_plan < length bytes
  pub last : status < 5

-- 0: agent n has one event more; 1: it waits on for a message, or sleeps at a word; 2: it has ended; 3: there was no memory, now or in a turn before;
-- 4: there is no such agent
pub record Steps (n : ℕ) (old new : ClusterView) (status : ℕ) : Type 0 where
  pub moved : status ≡ 0 → Turned Moved n old new
  pub waits : status ≡ 1 → Turned Waiting n old new
  pub over : status ≡ 2 → Turned Ended n old new
  pub stopped : status ≡ 3 → Stopped n old new
  pub nobody : status ≡ 4 → (length old.agents ≤ n) × (new ≡ old)
  pub last : status < 5
  -- once there was no memory, no agent moves
  pub failed : old.failed ≡ true → 2 < status

-- 0: the lines of agent n from the event with this number on, and how many events it has; 3: there was no memory; 4: there is no such
-- agent
pub record Says (n from : ℕ) (c : ClusterView) (old new : List ℕ) (count events status : ℕ) : Type 0 where
  pub lines : status ≡ 0 → (b : AgentView) × (slice_get c.agents n ≡ Some b) × Holds (lines_from from b.history) old new count × (events ≡ length b.history)
  pub nothing : 0 < status → HoldsNothing old new count × (events ≡ 0)
  pub one : status ≡ 1 → ⊥
  pub two : status ≡ 2 → ⊥
  pub nobody : status ≡ 4 → length c.agents ≤ n
  pub last : status < 5

-- 0: all tickets, counted now; 3: there was no memory
pub record CountsAll (c : ClusterView) (old new : Counts) (status : ℕ) : Type 0 where
  pub counted : status ≡ 0 → (a : Audit) × Audits c.agents c.ledger a × (new.blocks ≡ a.blocks) × (new.released ≡ a.released) × (new.in_agents ≡ a.in_agents) × (new.in_ports ≡ a.in_ports)
  pub nothing : status ≡ 3 → new ≡ old
  pub one : status ≡ 1 → ⊥
  pub two : status ≡ 2 → ⊥
  pub last : status < 4

-- 0: the report, of which what was left was run by turns; 3: there was no memory, now or in a turn before
pub record Reports (k : Held) (old new : Kept) (count status : ℕ) : Type 0 where
  pub answer : status ≡ 0 → (text : List ℕ) × IsReportOfRest k.plan k.value text × IsKept text new count
  pub nothing : status ≡ 3 → IsNotKept old new count
  pub one : status ≡ 1 → ⊥
  pub two : status ≡ 2 → ⊥
  pub last : status < 4
