-- Places of faults in a value, and that each pointer leads to the part that has the fault.
use Rattle.std.proofs.Common.{ℕ, ◌≡◌, refl, Some, codes, List}
use Rattle.std.specs.Fmt.{digits}
use Rattle.std.specs.Str.{chars}
use Rattle.serde_json.specs.Data.{Data, number, unsigned, string, array, object, no_items, item, no_members, member}
use Rattle.serde_json.specs.Find.{pointer as points_to}
use Rattle.serde_json.proofs.OnLiterals.{serde_json_on_literals}
use Rattle.es_reading.specs.declared.fault.FaultCode.TheVariants.{Shape, Version, Name, Unknown, Operands, Limit}
use Rattle.es_reading.specs.declared.fault.Place.TheVariants.{Whole, Agent, Callback, Job}
use Rattle.es_reading.specs.declared.fault.ScriptFault.{ScriptFault}
use Rattle.es_reading.specs.Places.{at}
use Rattle.es_explain.specs.Misshapen.{plan_trouble, agents_trouble, agent_trouble, name_trouble, callbacks_trouble, callback_trouble, jobs_trouble, job_trouble, run_trouble, on_trouble, command_trouble, version_trouble}
use Rattle.es_explain.specs.Explaining.{pointer, found_in}

-- the command `nwe`
abbrev command : Data
command = array (item (string (codes "nwe")) no_items)

-- callbacks, of which the first has a key that is no name
abbrev callbacks : Data
callbacks = object (member (codes "b/~c") (array no_items) (member (codes "d") (array (item command no_items)) no_members))

-- jobs, of which the second waits for an agent that is not there
abbrev jobs : Data
jobs = array (item (object (member (codes "run") (array (item command no_items)) no_members)) (item (object (member (codes "on") (array no_items) (member (codes "run") (array no_items) no_members))) no_items))

abbrev agent : Data
agent = object (member (codes "callbacks") callbacks (member (codes "jobs") jobs (member (codes "name") (string (codes "a")) no_members)))

abbrev plan : Data
plan = object (member (codes "agents") (array (item agent no_items)) (member (codes "version") (number (unsigned 4)) no_members))

-- the fault's place is this pointer, which leads to this part of the plan
abbrev Leads : ScriptFault → List ℕ → Data → Type 0
Leads f place part = (pointer (Some plan) f ≡ place) × (points_to place plan ≡ Some part)

-- the first part that is misshapen: on is no list of two texts
whole : Leads (at Whole 0 Shape) (codes "/agents/0/jobs/1/on") (array no_items)
unfolding digits chars serde_json_on_literals plan_trouble agents_trouble agent_trouble name_trouble callbacks_trouble callback_trouble jobs_trouble job_trouble run_trouble on_trouble command_trouble version_trouble
whole = (refl, refl)

version : Leads (at Whole 0 Version) (codes "/version") (number (unsigned 4))
unfolding digits serde_json_on_literals
version = (refl, refl)

name : Leads (at (Agent 0) 0 Name) (codes "/agents/0/name") (string (codes "a"))
unfolding digits serde_json_on_literals
name = (refl, refl)

agent_limit : Leads (at (Agent 0) 0 Limit) (codes "/agents/0") agent
unfolding digits serde_json_on_literals
agent_limit = (refl, refl)

-- a key in which both letters are escaped: the pointer leads to its callback, and the key was found
key : Leads (at (Callback 0 1) 0 Name) (codes "/agents/0/callbacks/b~1~0c") (array no_items)
unfolding digits chars serde_json_on_literals
key = (refl, refl)

key_found : found_in plan (codes "/agents/0/callbacks/b~1~0c") (at (Callback 0 1) 0 Name) ≡ Some (string (codes "b/~c"))
key_found = refl

in_callback : Leads (at (Callback 0 2) 1 Operands) (codes "/agents/0/callbacks/d/0") command
unfolding digits chars serde_json_on_literals
in_callback = (refl, refl)

callback_limit : Leads (at (Callback 0 2) 0 Limit) (codes "/agents/0/callbacks/d") (array (item command no_items))
unfolding digits chars serde_json_on_literals
callback_limit = (refl, refl)

in_job : Leads (at (Job 0 1) 1 Operands) (codes "/agents/0/jobs/0/run/0") command
unfolding digits serde_json_on_literals
in_job = (refl, refl)

job_limit : Leads (at (Job 0 1) 0 Limit) (codes "/agents/0/jobs/0/run") (array (item command no_items))
unfolding digits serde_json_on_literals
job_limit = (refl, refl)

waits : Leads (at (Job 0 2) 0 Unknown) (codes "/agents/0/jobs/1/on") (array no_items)
unfolding digits serde_json_on_literals
waits = (refl, refl)
