-- To believe: the line of an event of an agent: one JSON object, with the same members for each kind of event.
use Rattle.std.specs.Prelude.{ℕ, List, ◌++◌, Option, Some, None, codes, decimal}
use Rattle.es_value.specs.Printed.{quoted}
use Rattle.es_value.specs.declared.value.Value.{Value}
use Rattle.es_event.specs.declared.command.Command.{Command}
use Rattle.es_event.specs.declared.event.Answer.{Answer}
use Rattle.es_event.specs.declared.event.Answer.TheVariants.{Nothing, Gives, Listed}
use Rattle.es_event.specs.declared.event.Event.{Event}
use Rattle.es_event.specs.declared.event.Event.TheVariants.{JobBegun, CleanupBegun, Received, Did, Refused, Emptied, Taken, JobEnded, Skipped, Closed}
use Rattle.es_event.specs.declared.plan.AgentPlan.{AgentPlan}
use Rattle.es_event.specs.History.{History}
use Rattle.es_event.specs.Report.{refusal_text}
use Rattle.es_trace.specs.Commands.{command_json, name_at}
use Rattle.es_trace.specs.Events.{at_hand, caught}
use Rattle.es_trace_json.specs.Values.{value_json, array_json}

-- what a command answered: nothing, a value, or keys
abbrev pub answer_json : Answer → List ℕ
answer_json Nothing = codes "null"
answer_json (Gives v) = codes "{\"gives\":" ++ (value_json v ++ codes "}")
answer_json (Listed ks) = codes "{\"keys\":" ++ (array_json quoted ks ++ codes "}")

-- the command at hand. A refusal without one is that of a message for which there is no room; an emptying without one is the end of a later collection
abbrev pub command_if : List (List ℕ) → AgentPlan → Option Command → List ℕ
command_if names plan None = codes "null"
command_if names plan (Some c) = command_json names plan c

-- the text that a refusal gave the variable that catches it
abbrev pub error_json : Answer → List ℕ
error_json (Gives v) = value_json v
error_json r = codes "null"

-- a command that was done, or one whose refusal was caught, and the variable that has its text
abbrev pub did_members : List (List ℕ) → AgentPlan → Option (List ℕ × Command) → Command → List Value → Answer → List ℕ
did_members names plan None c vs r = codes "\"event\":\"did\",\"command\":" ++ (command_json names plan c ++ (codes ",\"values\":" ++ (array_json value_json vs ++ (codes ",\"answer\":" ++ answer_json r))))
did_members names plan (Some p) c vs r = codes "\"event\":\"caught\",\"variable\":" ++ (quoted p.0 ++ (codes ",\"command\":" ++ (command_json names plan p.1 ++ (codes ",\"error\":" ++ error_json r))))

-- the members of the line after its agent, where this command was at hand
abbrev pub members : List (List ℕ) → AgentPlan → Option Command → Event → List ℕ
members names plan o (JobBegun j) = codes "\"event\":\"job\",\"job\":" ++ decimal j
members names plan o (CleanupBegun q) = codes "\"event\":\"cleanup job\",\"registry\":" ++ decimal q
members names plan o (Received t v) = codes "\"event\":\"message\",\"sender\":" ++ (quoted (name_at names t) ++ (codes ",\"value\":" ++ value_json v))
members names plan o (Did (c, vs, r)) = did_members names plan (caught o c) c vs r
members names plan o (Refused code) = codes "\"event\":\"refused\",\"command\":" ++ (command_if names plan o ++ (codes ",\"error\":" ++ quoted (refusal_text code)))
members names plan o (Emptied ids) = codes "\"event\":\"emptied\",\"command\":" ++ (command_if names plan o ++ (codes ",\"identities\":" ++ array_json decimal ids))
members names plan o (Taken n held) = codes "\"event\":\"taken\",\"registration\":" ++ (decimal n ++ (codes ",\"held\":" ++ value_json held))
members names plan o JobEnded = codes "\"event\":\"job ends\""
members names plan o (Skipped j t) = codes "\"event\":\"skipped\",\"job\":" ++ (decimal j ++ (codes ",\"sender\":" ++ quoted (name_at names t)))
members names plan o Closed = codes "\"event\":\"agent ends\""

-- a line of the agent of this name, with these members
abbrev pub agent_line : List ℕ → List ℕ → List ℕ
agent_line name text = codes "{\"agent\":" ++ (quoted name ++ (codes "," ++ (text ++ codes "}\n")))

-- that of an event of an agent with this plan, where this command was at hand, among agents of these names
abbrev pub event_line : List (List ℕ) → AgentPlan → Option Command → Event → List ℕ
event_line names plan o e = agent_line plan.name (members names plan o e)

-- the same after this history
abbrev pub line_after : List (List ℕ) → AgentPlan → History → Event → List ℕ
line_after names plan earlier e = event_line names plan (at_hand plan earlier) e
