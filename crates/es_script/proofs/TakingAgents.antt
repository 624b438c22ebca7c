-- Agents, from their tokens.
use Rattle.std.proofs.Common.{◌≡◌, ℕ, ◌+◌, ◌-◌, ◌≤◌, Bool, true, false, ◌&&◌, not, List, [], ◌∷◌, ◌++◌, length, map, Option, Some, None, Result, Ok, Err, refl, sym, ap, ◌∙◌, subst, arith}
use Rattle.std.specs.Prelude.{codes, nat_le, if◌then◌else◌}
use Rattle.std.specs.Str.{bytes_eq}
use Rattle.std.proofs.lemmas.Bool.{le-leb}
use mathlib.Core.Path.{fun_ext}
use Rattle.json.specs.Token.{Token}
use Rattle.json.specs.Json.{read_key}
use Rattle.es_value.specs.Limits.{most_agents}
use Rattle.serde_json.specs.Data.{put, Data, string, array, Items, no_items, item}
use Rattle.serde_json.specs.Find.{get}
use Rattle.serde_json.specs.Events.{items_len, members_len}
use Rattle.es_value.specs.Limits.{most_callbacks, most_jobs}
use Rattle.es_value.specs.Spelling.{is_name}
use Rattle.es_event.specs.declared.plan.Callback.{Callback}
use Rattle.es_event.specs.declared.plan.Job.{Job}
use Rattle.es_event.specs.declared.plan.AgentPlan.{AgentPlan}
use Rattle.es_reading.specs.declared.fault.ScriptFault.{ScriptFault}
use Rattle.es_reading.specs.declared.fault.Place.TheVariants.{Agent, Job as JobPlace}
use Rattle.es_reading.specs.declared.fault.FaultCode.TheVariants.{Name, Limit}
use Rattle.es_reading.specs.Places.{at}
use Rattle.es_reading.specs.Parts.{text_in, items_in, members_in}
use Rattle.es_reading.specs.Scope.{Numbers, Scope, number_from, number_in, agent_from, is_used, are_new}
use Rattle.es_reading.specs.Shape.{is_agent}
use Rattle.es_reading.specs.declared.version.Version.{Version}
use Rattle.es_reading.specs.Reading.{then_read, unless_fault, scope_by, callbacks_read, job_read, jobs_read, names_read, agent_read, agents_read}
use Rattle.es_script.specs.declared.agent.AgentDraft.{AgentDraft}
use Rattle.es_script.specs.Taking.{IsRead, Took, TookItems, TookMembers}
use Rattle.es_script.specs.Drafts.{IsKept, AreCallbacks, AreJobs, IsNameOf, agent_members, IsAgentDraft, IsAgentWithin, AreAgents}
use Rattle.es_script.proofs.Taking.{takes_string, takes_array}
use Rattle.es_script.proofs.Objects.{took_none, took_put, took_object, kept_some}
use Rattle.es_script.proofs.Counted.{none_left, rest_parts, items_count, callbacks_count}
use Rattle.es_script.proofs.TakingCallbacks.{number_keys, keys_read}

-- The members of an agent

pub took_name : (text n : List ℕ) (ts r : List Token) → ts ≡ Token.string text ∷ r → n ≡ text → is_name text ≡ true → Took 0 IsNameOf ts n r
took_name text n ts r first is spelled =
    record { value = string text; taken = λ depth h. rw first (takes_string depth text r); is = (ap (λ u. string u) (sym is), rw is spelled); shorter = rw first (omega arith) }

put_callbacks : (callbacks jobs name : Option Data) (d : Data) → put (codes "callbacks") d (agent_members callbacks jobs name) ≡ agent_members (Some d) jobs name
put_callbacks None None None d = refl
put_callbacks None None (Some c) d = refl
put_callbacks None (Some b) None d = refl
put_callbacks None (Some b) (Some c) d = refl
put_callbacks (Some a) jobs name d = refl

put_jobs : (callbacks jobs name : Option Data) (d : Data) → put (codes "jobs") d (agent_members callbacks jobs name) ≡ agent_members callbacks (Some d) name
put_jobs None None None d = refl
put_jobs None None (Some c) d = refl
put_jobs None (Some b) name d = refl
put_jobs (Some a) None None d = refl
put_jobs (Some a) None (Some c) d = refl
put_jobs (Some a) (Some b) name d = refl

put_name : (callbacks jobs name : Option Data) (d : Data) → put (codes "name") d (agent_members callbacks jobs name) ≡ agent_members callbacks jobs (Some d)
put_name None None None d = refl
put_name None None (Some c) d = refl
put_name None (Some b) None d = refl
put_name None (Some b) (Some c) d = refl
put_name (Some a) None None d = refl
put_name (Some a) None (Some c) d = refl
put_name (Some a) (Some b) None d = refl
put_name (Some a) (Some b) (Some c) d = refl

module _ (scope : Scope) (a : ℕ) where
  pub agent_none : (old now : List Token) (draft : AgentDraft) → old ≡ Token.begin_object ∷ now → draft.callbacks ≡ None → draft.jobs ≡ None → draft.name ≡ None → IsAgentDraft scope a old now draft
  agent_none old now draft opened no_callbacks no_jobs no_name =
      record {
        callbacks_value = None;
        jobs_value = None;
        name_value = None;
        members = took_none 4 old now opened;
        callbacks_kept = rw no_callbacks tt;
        jobs_kept = rw no_jobs tt;
        name_kept = rw no_name tt;
      }

  module _ (k : List ℕ) (s t : List Token) (draft next : AgentDraft) where
    pub agent_callbacks : k ≡ codes "callbacks" → (cs : List Callback) → Took 3 (AreCallbacks scope a) s cs t → next.callbacks ≡ Some cs → next.jobs ≡ draft.jobs → next.name ≡ draft.name
        → (old now : List Token) → read_key now ≡ Some (Some k, s) → IsAgentDraft scope a old now draft → IsAgentDraft scope a old t next
    agent_callbacks named cs took new jobs name old now key so_far =
        let d = took.value in
        let more = took_put 4 3 (AreCallbacks scope a) (agent_members so_far.callbacks_value so_far.jobs_value so_far.name_value) old now s t (codes "callbacks") cs (omega arith) so_far.members (rw named at key) took in
        record {
          callbacks_value = Some d;
          jobs_value = so_far.jobs_value;
          name_value = so_far.name_value;
          members = subst (λ ms. TookMembers 4 ms old t) (put_callbacks so_far.callbacks_value so_far.jobs_value so_far.name_value d) more;
          callbacks_kept = rw new took.is;
          jobs_kept = rw jobs so_far.jobs_kept;
          name_kept = rw name so_far.name_kept;
        }

    pub agent_jobs : k ≡ codes "jobs" → (js : List Job) → Took 4 (AreJobs scope a) s js t → next.jobs ≡ Some js → next.callbacks ≡ draft.callbacks → next.name ≡ draft.name
        → (old now : List Token) → read_key now ≡ Some (Some k, s) → IsAgentDraft scope a old now draft → IsAgentDraft scope a old t next
    agent_jobs named js took new callbacks name old now key so_far =
        let d = took.value in
        let more = took_put 4 4 (AreJobs scope a) (agent_members so_far.callbacks_value so_far.jobs_value so_far.name_value) old now s t (codes "jobs") js (omega arith) so_far.members (rw named at key) took in
        record {
          callbacks_value = so_far.callbacks_value;
          jobs_value = Some d;
          name_value = so_far.name_value;
          members = subst (λ ms. TookMembers 4 ms old t) (put_jobs so_far.callbacks_value so_far.jobs_value so_far.name_value d) more;
          callbacks_kept = rw callbacks so_far.callbacks_kept;
          jobs_kept = rw new took.is;
          name_kept = rw name so_far.name_kept;
        }

    pub agent_name : k ≡ codes "name" → (n : List ℕ) → Took 0 IsNameOf s n t → next.name ≡ Some n → next.callbacks ≡ draft.callbacks → next.jobs ≡ draft.jobs
        → (old now : List Token) → read_key now ≡ Some (Some k, s) → IsAgentDraft scope a old now draft → IsAgentDraft scope a old t next
    agent_name named n took new callbacks jobs old now key so_far =
        let d = took.value in
        let more = took_put 4 0 IsNameOf (agent_members so_far.callbacks_value so_far.jobs_value so_far.name_value) old now s t (codes "name") n (omega arith) so_far.members (rw named at key) took in
        record {
          callbacks_value = so_far.callbacks_value;
          jobs_value = so_far.jobs_value;
          name_value = Some d;
          members = subst (λ ms. TookMembers 4 ms old t) (put_name so_far.callbacks_value so_far.jobs_value so_far.name_value d) more;
          callbacks_kept = rw callbacks so_far.callbacks_kept;
          jobs_kept = rw jobs so_far.jobs_kept;
          name_kept = rw new took.is;
        }

  -- an agent, all of which was read
  pub took_within : (old now new : List Token) (draft : AgentDraft) (plan : AgentPlan) → IsAgentDraft scope a old now draft → read_key now ≡ Some (None, new) → draft.callbacks ≡ Some plan.callbacks → draft.jobs ≡ Some plan.jobs → draft.name ≡ Some plan.name
      → Took 5 (IsAgentWithin scope a) old plan new
  took_within old now new draft plan all closed is_callbacks is_jobs is_name' =
      let callbacks_kept : IsKept (AreCallbacks scope a) all.callbacks_value (Some plan.callbacks) = rw is_callbacks at all.callbacks_kept in
      let jobs_kept : IsKept (AreJobs scope a) all.jobs_value (Some plan.jobs) = rw is_jobs at all.jobs_kept in
      let name_kept : IsKept IsNameOf all.name_value (Some plan.name) = rw is_name' at all.name_kept in
      let callbacks = kept_some (AreCallbacks scope a) all.callbacks_value plan.callbacks callbacks_kept in
      let jobs = kept_some (AreJobs scope a) all.jobs_value plan.jobs jobs_kept in
      let name = kept_some IsNameOf all.name_value plan.name name_kept in
      let is_text : name.0 ≡ string plan.name = name.2.0 in
      let found = agent_members (Some callbacks.0) (Some jobs.0) (Some (string plan.name)) in
      let members : TookMembers 4 found old now = rw (callbacks.1, jobs.1, name.1, is_text) at all.members in
      took_object 4 (IsAgentWithin scope a) plan found old now new members closed
      (record {
        shaped = rw (callbacks.2.0, jobs.2.0) refl;
        named = refl;
        spelled = name.2.1;
        callbacks = callbacks.2.1;
        few_callbacks = callbacks.2.2;
        jobs = jobs.2.1;
        few_jobs = jobs.2.2;
      })

-- where its callbacks have the names that the scope has
pub agent_is : (v : Version) (agents : Numbers) (a : ℕ) (scope : Scope) (known : List (List ℕ)) (d : Data) (plan : AgentPlan) → IsAgentWithin scope a d plan → map (λ c. c.name) plan.callbacks ≡ known → scope ≡ scope_by v (number_in 1 known) agents a
    → IsRead is_agent (agent_read v agents a) d plan
agent_is v agents a scope known d plan within named is =
    let callbacks = members_in (get (codes "callbacks") d) in
    let jobs = items_in (get (codes "jobs") d) in
    let numbers : number_in 1 known ≡ number_from 1 callbacks = sym (number_keys 1 callbacks ∙ ap (number_in 1) (keys_read scope a 1 callbacks plan.callbacks within.callbacks ∙ named)) in
    let scoped : scope ≡ scope_by v (number_from 1 callbacks) agents a = is ∙ ap (λ f. scope_by v f agents a) numbers in
    let few_callbacks : nat_le (members_len callbacks) most_callbacks ≡ true = le-leb (members_len callbacks) most_callbacks (rw (callbacks_count scope a 1 callbacks plan.callbacks within.callbacks) within.few_callbacks) in
    let count : items_len jobs ≡ length plan.jobs = items_count (λ k. job_read scope (JobPlace a k)) (jobs_read scope a) (λ k. refl) (λ k e ds. refl) 1 jobs plan.jobs within.jobs in
    let few_jobs : nat_le (items_len jobs) most_jobs ≡ true = le-leb (items_len jobs) most_jobs (rw count within.few_jobs) in
    let callbacks_are : callbacks_read (scope_by v (number_from 1 callbacks) agents a) a 1 callbacks ≡ Ok plan.callbacks = subst (λ s. callbacks_read s a 1 callbacks ≡ Ok plan.callbacks) scoped within.callbacks in
    let jobs_are : jobs_read (scope_by v (number_from 1 callbacks) agents a) a 1 jobs ≡ Ok plan.jobs = subst (λ s. jobs_read s a 1 jobs ≡ Ok plan.jobs) scoped within.jobs in
    (within.shaped, rw (within.named, within.spelled, few_callbacks, few_jobs, callbacks_are, jobs_are) refl)

pub took_agent : (v : Version) (agents : Numbers) (a : ℕ) (scope : Scope) (known : List (List ℕ)) (plan : AgentPlan) (ts r : List Token) → Took 5 (IsAgentWithin scope a) ts plan r → map (λ c. c.name) plan.callbacks ≡ known → scope ≡ scope_by v (number_in 1 known) agents a
    → Took 5 (IsRead is_agent (agent_read v agents a)) ts plan r
took_agent v agents a scope known plan ts r took named is =
    record { value = took.value; taken = took.taken; is = agent_is v agents a scope known took.value plan took.is named is; shorter = took.shorter }

-- All agents

abbrev texts : Items → List (List ℕ)
texts no_items = []
texts (item d ds) = text_in (get (codes "name") d) ∷ texts ds

numbers_at : (k : ℕ) (ds : Items) (n : List ℕ) → agent_from k ds n ≡ number_in k (texts ds) n
numbers_at k no_items n = refl
numbers_at k (item d ds) n = ap (λ o. if bytes_eq (text_in (get (codes "name") d)) n then Some k else o) (numbers_at (k + 1) ds n)

abbrev plan_name : Result AgentPlan ScriptFault → List ℕ
plan_name (Ok p) = p.name
plan_name (Err f) = []

agent_so : (b few less : Bool) (f g h : ScriptFault) (t : List ℕ) (callbacks : Result (List Callback) ScriptFault) (jobs : Result (List Job) ScriptFault) (p : AgentPlan)
    → then_read (unless_fault b f (Ok t)) (λ n. unless_fault few g (unless_fault less h (then_read callbacks (λ cs. then_read jobs (λ js. Ok (record { name = n; callbacks = cs; jobs = js })))))) ≡ Ok p
    → (b ≡ true) × (t ≡ p.name)
agent_so true true true f g h t (Ok cs) (Ok js) p e = (refl, ap plan_name e)
agent_so true true true f g h t (Ok cs) (Err x) p e = cc
agent_so true true true f g h t (Err x) jobs p e = cc
agent_so true true false f g h t callbacks jobs p e = cc
agent_so true false less f g h t callbacks jobs p e = cc
agent_so false few less f g h t callbacks jobs p e = cc

agent_named : (v : Version) (numbers : Numbers) (a : ℕ) (d : Data) (p : AgentPlan) → agent_read v numbers a d ≡ Ok p → (is_name (text_in (get (codes "name") d)) ≡ true) × (text_in (get (codes "name") d) ≡ p.name)
agent_named v numbers a d p e =
    let callbacks = members_in (get (codes "callbacks") d) in
    let jobs = items_in (get (codes "jobs") d) in
    let scope = scope_by v (number_from 1 callbacks) numbers a in
    let n = text_in (get (codes "name") d) in
    agent_so (is_name n) (nat_le (members_len callbacks) most_callbacks) (nat_le (items_len jobs) most_jobs) (at (Agent a) 0 Name) (at (Agent a) 0 Limit) (at (Agent a) 0 Limit) n (callbacks_read scope a 1 callbacks) (jobs_read scope a 1 jobs) p e

texts_read : (v : Version) (numbers : Numbers) (a : ℕ) (ds : Items) (ps : List AgentPlan) → agents_read v numbers a ds ≡ Ok ps → texts ds ≡ map (λ p. p.name) ps
texts_read v numbers a no_items ps e = ap (map (λ p. p.name)) (sym (none_left ps e))
texts_read v numbers a (item d ds) ps e =
    let parts = rest_parts (agent_read v numbers a d) (agents_read v numbers (a + 1) ds) ps e in
    ap (λ t. t ∷ texts ds) (agent_named v numbers a d parts.0 parts.2).1 ∙ ap (λ ts. parts.0.name ∷ ts) (texts_read v numbers (a + 1) ds parts.1 parts.3) ∙ ap (map (λ p. p.name)) parts.4

names_so : (a : ℕ) (used : List (List ℕ)) (d : Data) (ds : Items) → is_name (text_in (get (codes "name") d)) ≡ true → (fresh : Bool) → fresh ≡ not (is_used (text_in (get (codes "name") d)) used)
    → (later : Bool) → (later ≡ true → names_read (a + 1) (used ++ text_in (get (codes "name") d) ∷ []) ds ≡ Ok tt) → fresh && later ≡ true → names_read a used (item d ds) ≡ Ok tt
names_so a used d ds named true is later more h = rw (named, ← is) (more h)
names_so a used d ds named false is later more h = cc

names_unused : (v : Version) (numbers : Numbers) (a : ℕ) (used : List (List ℕ)) (ds : Items) (ps : List AgentPlan) → agents_read v numbers a ds ≡ Ok ps → are_new used (texts ds) ≡ true → names_read a used ds ≡ Ok tt
names_unused v numbers a used no_items ps e h = refl
names_unused v numbers a used (item d ds) ps e h =
    let parts = rest_parts (agent_read v numbers a d) (agents_read v numbers (a + 1) ds) ps e in
    let t = text_in (get (codes "name") d) in
    names_so a used d ds (agent_named v numbers a d parts.0 parts.2).0 (not (is_used t used)) refl (are_new (used ++ t ∷ []) (texts ds))
    (λ later. names_unused v numbers (a + 1) (used ++ t ∷ []) ds parts.1 parts.3 later) h

-- an array of agents, whose names are those that the numbers have, each once
pub took_agents : (v : Version) (numbers : Numbers) (known : List (List ℕ)) (ps : List AgentPlan) (ts s r : List Token) → ts ≡ Token.begin_array ∷ s → TookItems 5 is_agent (agents_read v numbers 0) s ps r → numbers ≡ number_in 0 known → map (λ p. p.name) ps ≡ known → are_new [] known ≡ true
    → 1 ≤ length ps → length ps ≤ most_agents → Took 6 (AreAgents v) ts ps r
took_agents v numbers known ps ts s r opened t is named unused some few =
    let ds = t.values in
    let all : texts ds ≡ known = texts_read v numbers 0 ds ps t.read ∙ named in
    let numbered : numbers ≡ agent_from 0 ds = is ∙ sym (fun_ext (numbers_at 0 ds) ∙ ap (number_in 0) all) in
    let names : names_read 0 [] ds ≡ Ok tt = names_unused v numbers 0 [] ds ps t.read (rw all unused) in
    let agents : agents_read v (agent_from 0 ds) 0 ds ≡ Ok ps = subst (λ f. agents_read v f 0 ds ≡ Ok ps) numbered t.read in
    record {
      value = array ds;
      taken = λ depth h. rw opened (takes_array depth s r ds (omega (arith, h)) (t.taken (depth - 1) (omega (arith, h))));
      is = (t.shaped, rw names agents, some, few);
      shorter = rw opened (omega (arith, t.shorter));
    }
