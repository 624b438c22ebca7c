-- Each agent of a plan that is read names other agents alone.
use Rattle.std.proofs.Common.{ℕ, suc, ◌≡◌, ◌+◌, ◌<◌, ◌==◌, not, nat_lt, Bool, true, false, List, [], ◌∷◌, length, Option, Some, None, refl, ap, subst, arith}
use Rattle.std.specs.Prelude.{if◌then◌else◌, codes}
use Rattle.std.specs.List.{list_all}
use Rattle.std.specs.Option.{option_and_then, option_map_or}
use Rattle.std.specs.Str.{bytes_eq}
use Rattle.std.proofs.lemmas.Bool.Decides.{nat_tests}
use Rattle.serde_json.specs.Data.{Data, array, Items, no_items, item}
use Rattle.serde_json.specs.Find.{get}
use Rattle.serde_json.specs.Events.{items_len}
use Rattle.es_event.specs.declared.plan.AgentPlan.{AgentPlan}
use Rattle.es_event.specs.declared.plan.Job.{Job}
use Rattle.es_event.specs.Others.{is_other, posts_where, speaks_where, each_names_others}
use Rattle.es_reading.specs.Parts.{text_in}
use Rattle.es_reading.specs.Scope.{Scope, agent_from, other_than, scope_of}
use Rattle.es_script.specs.Grammar.{WaitsFor, AreJobs, HasJobs, AreAgents, HasAgents}
use Rattle.es_script.proofs.Sound.{both_true, AreAgents-length}
use Rattle.es_script.proofs.Passing.{AllPass, reference_passes, command_posts, body_passes, callbacks_pass_at}
use Rattle.es_reading.specs.declared.version.Version.{Version}

-- Numbers of agents

some_equal : {x y : ℕ} → ◌≡◌ {A = Option ℕ} (Some x) (Some y) → x ≡ y
some_equal e = cc

below_at : (b : Bool) (k more x : ℕ) (later : Option ℕ) → (later ≡ Some x → x < k + 1 + more) → (if b then Some k else later) ≡ Some x → x < k + suc more
below_at true k more x later h e = let same = some_equal e in omega (arith, same)
below_at false k more x later h e = let below = h e in omega (arith, below)

-- a number that a name has is one of those that were given
agent_below : (k : ℕ) (ds : Items) (n : List ℕ) (x : ℕ) → agent_from k ds n ≡ Some x → x < k + items_len ds
agent_below k no_items n x e = cc
agent_below k (item d ds) n x e = below_at (bytes_eq (text_in (get (codes "name") d)) n) k (items_len ds) x (agent_from (k + 1) ds n) (agent_below (k + 1) ds n x) e

other_by : (a n x : ℕ) (b : Bool) → n == a ≡ b → (if b then None else Some n) ≡ Some x → (n ≡ x) × (x == a ≡ false)
other_by a n x true t e = cc
other_by a n x false t e = let same = some_equal e in (same, subst (λ m. m == a ≡ false) same t)

other_found : (a x : ℕ) (o : Option ℕ) → option_and_then (other_than a) o ≡ Some x → (o ≡ Some x) × (x == a ≡ false)
other_found a x (Some n) e = let found = other_by a n x (n == a) refl e in (ap Some found.0, found.1)
other_found a x None e = cc

-- what the commands and the jobs of agent a can name are other agents
names_others : (v : Version) (agents : Items) (a : ℕ) (d : Data) (count : ℕ) → count ≡ items_len agents → AllPass (is_other count a) (scope_of v agents a d).agents
names_others v agents a d count all n x e =
    let found = other_found a x (agent_from 0 agents n) e in
    let below = agent_below 0 agents n x found.0 in
    let within : x < count = omega (arith, below, all) in
    let tested : nat_lt x count ≡ true = grind (arith, nat_tests) in
    both_true _ _ tested (ap not found.1)

-- Jobs

on_passes : (test : ℕ → Bool) (scope : Scope) → AllPass test scope.agents → (o : Option Data) (on : Option (ℕ × List ℕ)) → WaitsFor scope o on → option_map_or (λ on. test on.0) on true ≡ true
on_passes test scope pass None None h = refl
on_passes test scope pass (Some (array (item d (item e no_items)))) (Some on) h = reference_passes test scope.agents pass d on.0 h.0
on_passes test scope pass _ _ h = absurd h

jobs_pass : (test : ℕ → Bool) (scope : Scope) → AllPass test scope.agents → (ds : Items) (js : List Job) → AreJobs scope ds js → list_all (speaks_where test) js ≡ true
jobs_pass test scope pass no_items [] h = refl
jobs_pass test scope pass no_items (j ∷ js) h = absurd h
jobs_pass test scope pass (item d ds) [] h = absurd h
jobs_pass test scope pass (item d ds) (j ∷ js) h =
    let on = on_passes test scope pass (get (codes "on") d) j.on h.0.on in
    let run = body_passes (posts_where test) scope false (command_posts test scope false pass) (get (codes "run") d) j.run j.catches h.0.run in
    both_true _ _ (both_true _ _ on run) (jobs_pass test scope pass ds js h.1)

jobs_pass_at : (test : ℕ → Bool) (scope : Scope) → AllPass test scope.agents → (o : Option Data) (js : List Job) → HasJobs scope o js → list_all (speaks_where test) js ≡ true
jobs_pass_at test scope pass (Some (array ds)) js h = jobs_pass test scope pass ds js h.0
jobs_pass_at test scope pass _ js h = absurd h

-- Agents

agents_others : (v : Version) (agents : Items) (count : ℕ) → count ≡ items_len agents → (a : ℕ) (ds : Items) (ps : List AgentPlan) → AreAgents v agents a ds ps → each_names_others count a ps ≡ true
agents_others v agents count all a no_items [] h = refl
agents_others v agents count all a no_items (p ∷ ps) h = absurd h
agents_others v agents count all a (item d ds) [] h = absurd h
agents_others v agents count all a (item d ds) (p ∷ ps) h =
    let scope = scope_of v agents a d in
    let test = is_other count a in
    let pass = names_others v agents a d count all in
    let jobs = jobs_pass_at test scope pass (get (codes "jobs") d) p.jobs h.0.jobs in
    let callbacks = callbacks_pass_at (λ cs. list_all (posts_where test) cs) scope (body_passes (posts_where test) scope true (command_posts test scope true pass)) (get (codes "callbacks") d) p.callbacks h.0.callbacks in
    both_true _ _ (both_true _ _ jobs callbacks) (agents_others v agents count all (a + 1) ds ps h.1)

pub agents_others_at : (v : Version) (o : Option Data) (ps : List AgentPlan) → HasAgents v o ps → each_names_others (length ps) 0 ps ≡ true
agents_others_at v (Some (array ds)) ps h = agents_others v ds (length ps) (AreAgents-length v ds 0 ds ps h.0) 0 ds ps h.0
agents_others_at v _ ps h = absurd h
