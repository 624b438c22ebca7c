-- A whole plan, from its tokens.
use Rattle.std.proofs.Common.{◌≡◌, ℕ, List, [], ◌∷◌, Option, Some, None, refl, ap, ◌∙◌, subst, arith}
use Rattle.std.specs.Prelude.{codes, option_and_then}
use Rattle.json.specs.Token.{Token}
use Rattle.json.specs.Lex.{tokens}
use Rattle.json.specs.Json.{value, if_last, read_key}
use Rattle.serde_json.specs.Data.{Data, number, put, unsigned}
use Rattle.serde_json.specs.Read.{number_of, of_json, read}
use Rattle.serde_json.proofs.OnLiterals.{serde_json_on_literals}
use Rattle.es_event.specs.declared.plan.AgentPlan.{AgentPlan}
use Rattle.es_reading.specs.declared.version.Version.{Version}
use Rattle.es_reading.specs.declared.version.Version.TheVariants.{One, Two, Three}
use Rattle.es_reading.specs.Versions.{number_of_version}
use Rattle.es_script.specs.declared.by_tokens.PlanDraft.{PlanDraft}
use Rattle.es_script.specs.Taking.{TakesValue, Took, TookMembers}
use Rattle.es_script.specs.Drafts.{IsKept, AreAgents, IsVersion, plan_members, IsPlanDraft}
use Rattle.es_script.specs.Quick.{IsPlanValue}
use Rattle.es_script.proofs.Converted.{what_converted}
use Rattle.es_script.proofs.Taking.{takes_number}
use Rattle.es_script.proofs.Objects.{took_none, took_put, took_object, kept_some}

put_agents : (agents version : Option Data) (d : Data) → put (codes "agents") d (plan_members agents version) ≡ plan_members (Some d) version
put_agents None None d = refl
put_agents None (Some c) d = refl
put_agents (Some b) version d = refl

put_version : (agents version : Option Data) (d : Data) → put (codes "version") d (plan_members agents version) ≡ plan_members agents (Some d)
put_version None None d = refl
put_version None (Some c) d = refl
put_version (Some b) None d = refl
put_version (Some b) (Some c) d = refl

-- Versions

one : number_of (codes "1") ≡ Some (unsigned 1)
unfolding serde_json_on_literals
one = refl

two : number_of (codes "2") ≡ Some (unsigned 2)
unfolding serde_json_on_literals
two = refl

three : number_of (codes "3") ≡ Some (unsigned 3)
unfolding serde_json_on_literals
three = refl

took_version : (v : Version) (text : List ℕ) (s t : List Token) → s ≡ Token.number text ∷ t → number_of text ≡ Some (unsigned (number_of_version v)) → Took 0 IsVersion s v t
took_version v text s t first is =
    record {
      value = number (unsigned (number_of_version v));
      taken = λ depth h. rw first (takes_number depth text (unsigned (number_of_version v)) t is);
      is = refl;
      shorter = rw first (omega arith);
    }

pub took_one : (text : List ℕ) (s t : List Token) → s ≡ Token.number text ∷ t → text ≡ codes "1" → Took 0 IsVersion s One t
took_one text s t first is = took_version One text s t first (ap number_of is ∙ one)

pub took_two : (text : List ℕ) (s t : List Token) → s ≡ Token.number text ∷ t → text ≡ codes "2" → Took 0 IsVersion s Two t
took_two text s t first is = took_version Two text s t first (ap number_of is ∙ two)

pub took_three : (text : List ℕ) (s t : List Token) → s ≡ Token.number text ∷ t → text ≡ codes "3" → Took 0 IsVersion s Three t
took_three text s t first is = took_version Three text s t first (ap number_of is ∙ three)

-- Drafts

pub plan_none : (v : Version) (old now : List Token) (draft : PlanDraft) → old ≡ Token.begin_object ∷ now → draft.agents ≡ None → draft.version ≡ None → IsPlanDraft v old now draft
plan_none v old now draft opened no_agents no_version =
    record { agents_value = None; version_value = None; members = took_none 6 old now opened; agents_kept = rw no_agents tt; version_kept = rw no_version tt }

module _ (v : Version) (k : List ℕ) (s t : List Token) (draft next : PlanDraft) where
  pub plan_agents : k ≡ codes "agents" → (ps : List AgentPlan) → Took 6 (AreAgents v) s ps t → next.agents ≡ Some ps → next.version ≡ draft.version
      → (old now : List Token) → read_key now ≡ Some (Some k, s) → IsPlanDraft v old now draft → IsPlanDraft v old t next
  plan_agents named ps took new version old now key so_far =
      let d = took.value in
      let more = took_put 6 6 (AreAgents v) (plan_members so_far.agents_value so_far.version_value) old now s t (codes "agents") ps (omega arith) so_far.members (rw named at key) took in
      record {
        agents_value = Some d;
        version_value = so_far.version_value;
        members = subst (λ ms. TookMembers 6 ms old t) (put_agents so_far.agents_value so_far.version_value d) more;
        agents_kept = rw new took.is;
        version_kept = rw version so_far.version_kept;
      }

  pub plan_version : k ≡ codes "version" → (found : Version) → Took 0 IsVersion s found t → next.version ≡ Some found → next.agents ≡ draft.agents
      → (old now : List Token) → read_key now ≡ Some (Some k, s) → IsPlanDraft v old now draft → IsPlanDraft v old t next
  plan_version named found took new agents old now key so_far =
      let d = took.value in
      let more = took_put 6 0 IsVersion (plan_members so_far.agents_value so_far.version_value) old now s t (codes "version") found (omega arith) so_far.members (rw named at key) took in
      record {
        agents_value = so_far.agents_value;
        version_value = Some d;
        members = subst (λ ms. TookMembers 6 ms old t) (put_version so_far.agents_value so_far.version_value d) more;
        agents_kept = rw agents so_far.agents_kept;
        version_kept = rw new took.is;
      }

pub took_plan : (v : Version) (old now new : List Token) (draft : PlanDraft) (ps : List AgentPlan) → IsPlanDraft v old now draft → read_key now ≡ Some (None, new) → draft.version ≡ Some v → draft.agents ≡ Some ps → Took 7 IsPlanValue old ps new
took_plan v old now new draft ps all closed version agents =
    let agents_kept : IsKept (AreAgents v) all.agents_value (Some ps) = rw agents at all.agents_kept in
    let version_kept : IsKept IsVersion all.version_value (Some v) = rw version at all.version_kept in
    let read = kept_some (AreAgents v) all.agents_value ps agents_kept in
    let numbered = kept_some IsVersion all.version_value v version_kept in
    let is_number : numbered.0 ≡ number (unsigned (number_of_version v)) = numbered.2 in
    let found = plan_members (Some read.0) (Some (number (unsigned (number_of_version v)))) in
    let members : TookMembers 6 found old now = rw (read.1, numbered.1, is_number) at all.members in
    took_object 6 IsPlanValue ps found old now new members closed
    (record { shaped = rw read.2.0 refl; version = v; numbered = refl; read = read.2.1; some = read.2.2; few = read.2.3 })

whole : (text : List ℕ) (d : Data) → TakesValue 127 (tokens text) d [] → read text ≡ Some d
whole text d e =
    let j = what_converted of_json (value 127 (tokens text)) d [] e in
    ap (λ o. option_and_then of_json (option_and_then (λ p. if_last p.0 p.1) o)) j.1 ∙ j.2

-- where no token is left
pub whole_plan : (text : List ℕ) (ps : List AgentPlan) (ts r : List Token) → ts ≡ tokens text → Took 7 IsPlanValue ts ps r → r ≡ [] → (d : Data) × (read text ≡ Some d) × IsPlanValue d ps
whole_plan text ps ts r is took none = (took.value, whole text took.value (rw (is, none) at (took.taken 127 (omega arith))), took.is)
