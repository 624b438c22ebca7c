-- What is read of a plan's tokens is what is read of its value.
use Rattle.std.proofs.Common.{◌≡◌, true, List, [], length, Some, Result, Ok, Err, refl, ap, ◌∙◌}
use Rattle.std.specs.Prelude.{codes, nat_le, option_and_then}
use Rattle.std.proofs.lemmas.Bool.{le-leb}
use Rattle.serde_json.specs.Data.{Data, number, unsigned}
use Rattle.serde_json.specs.Find.{get, as_number, as_i64}
use Rattle.serde_json.specs.Events.{items_len}
use Rattle.es_value.specs.Limits.{most_agents}
use Rattle.es_event.specs.declared.plan.AgentPlan.{AgentPlan}
use Rattle.es_reading.specs.declared.fault.ScriptFault.{ScriptFault}
use Rattle.es_reading.specs.Parts.{items_in}
use Rattle.es_reading.specs.Scope.{agent_from}
use Rattle.es_reading.specs.Reading.{then_read, names_read, agent_read, agents_read}
use Rattle.es_reading.specs.declared.version.Version.{Version}
use Rattle.es_reading.specs.declared.version.Version.TheVariants.{One, Two, Three}
use Rattle.es_reading.specs.Versions.{number_of_version, version_of}
use Rattle.es_script.specs.Quick.{IsPlanValue}
use Rattle.es_script.proofs.Counted.{items_count}
use Rattle.es_script.specs.Fault.{version_in}
use Rattle.es_script.specs.PlanRead.{plan_read}

then_all : {A B : Type 0} (r : Result A ScriptFault) (s : Result B ScriptFault) (y : B) → then_read r (λ _. s) ≡ Ok y → s ≡ Ok y
then_all (Ok x) s y e = e
then_all (Err f) s y e = cc

version_read : (v : Version) → version_of (option_and_then as_i64 (option_and_then as_number (Some (number (unsigned (number_of_version v)))))) ≡ Some v
version_read One = refl
version_read Two = refl
version_read Three = refl

pub plan_of_value : (d : Data) (ps : List AgentPlan) → IsPlanValue d ps → plan_read d ≡ Ok (record { agents = ps })
plan_of_value d ps is =
    let v = is.version in
    let ds = items_in (get (codes "agents") d) in
    let count : items_len ds ≡ length ps = items_count (agent_read v (agent_from 0 ds)) (agents_read v (agent_from 0 ds)) (λ k. refl) (λ k e es. refl) 0 ds ps (then_all (names_read 0 [] ds) (agents_read v (agent_from 0 ds) 0 ds) ps is.read) in
    let some_there : nat_le 1 (items_len ds) ≡ true = le-leb 1 (items_len ds) (rw count is.some) in
    let few_there : nat_le (items_len ds) most_agents ≡ true = le-leb (items_len ds) most_agents (rw count is.few) in
    let versioned : version_in d ≡ Some v = ap (λ o. version_of (option_and_then as_i64 (option_and_then as_number o))) is.numbered ∙ version_read v in
    rw (is.shaped, versioned, some_there, few_there, is.read) refl
