-- Jobs, from their tokens.
use Rattle.std.proofs.Common.{◌≡◌, ℕ, ◌-◌, ◌<◌, ◌≤◌, Bool, true, false, ◌&&◌, List, [], ◌∷◌, length, Option, Some, None, Result, Ok, refl, subst, arith}
use Rattle.std.specs.Prelude.{codes}
use Rattle.json.specs.Token.{Token}
use Rattle.serde_json.specs.Data.{Data, string, array, object, Items, no_items, item}
use Rattle.es_event.specs.declared.command.Command.{Command}
use Rattle.es_event.specs.declared.plan.Job.{Job}
use Rattle.es_reading.specs.declared.fault.ScriptFault.{ScriptFault}
use Rattle.es_reading.specs.declared.fault.Place.{Place}
use Rattle.es_reading.specs.declared.fault.Spot.{Spot}
use Rattle.es_reading.specs.Scope.{Scope}
use Rattle.es_reading.specs.Forms.{agent, name, fits, fit}
use Rattle.es_reading.specs.Shape.{is_text_pair, is_job}
use Rattle.es_reading.specs.Reading.{unless_fault, operands_read, job_read}
use Rattle.serde_json.specs.Data.{put}
use Rattle.json.specs.Json.{read_key}
use Rattle.es_value.specs.Limits.{most_jobs}
use Rattle.es_reading.specs.Reading.{jobs_read}
use Rattle.es_script.specs.declared.job.JobDraft.{JobDraft}
use Rattle.es_script.specs.Taking.{TakesItems, IsRead, Took, TookItems, TookMembers}
use Rattle.es_script.specs.Drafts.{IsKept, IsRun, IsAwaited, job_members, IsJobDraft, AreJobs}
use Rattle.es_script.proofs.Taking.{takes_array}
use Rattle.es_script.proofs.Objects.{took_none, took_put, took_object, kept_some}
use Rattle.es_script.proofs.Plain.{plain_commands, plain_catches}

unless_ok : {A : Type 0} (b : Bool) (d : ScriptFault) (r : Result A ScriptFault) (y : A) → unless_fault b d r ≡ Ok y → b ≡ true
unless_ok true d r y e = refl
unless_ok false d r y e = cc

and_true : (a b : Bool) → a && b ≡ true → (a ≡ true) × (b ≡ true)
and_true true b h = (refl, h)
and_true false b h = cc

text_pair : (d e : Data) → fits agent d ≡ true → fits name e ≡ true → is_text_pair (Some (array (item d (item e no_items)))) ≡ true
text_pair (string a) (string x) f g = refl
text_pair (string a) _ f g = cc
text_pair _ e f g = cc

pair_of_fit : (ds : Items) → fit (agent ∷ name ∷ []) ds ≡ true → is_text_pair (Some (array ds)) ≡ true
pair_of_fit no_items h = cc
pair_of_fit (item d no_items) h = let both = and_true (fits agent d) false h in cc
pair_of_fit (item d (item e no_items)) h =
    let first = and_true (fits agent d) (fits name e && true) h in
    let second = and_true (fits name e) true first.1 in
    text_pair d e first.0 second.0
pair_of_fit (item d (item e (item f ds))) h =
    let first = and_true (fits agent d) (fits name e && false) h in
    let second = and_true (fits name e) false first.1 in
    cc

-- whose message a job waits for
pub took_awaited : (scope : Scope) (s : Spot) (on : ℕ × List ℕ) (ds : Items) (ts u r : List Token) → ts ≡ Token.begin_array ∷ u → ((depth : ℕ) → TakesItems depth u ds r) → length r < length u
    → operands_read scope s (agent ∷ name ∷ []) ds ≡ Ok (on.0, (on.1, tt)) → Took 1 (IsAwaited scope s) ts on r
took_awaited scope s on ds ts u r opened taken less e =
    record {
      value = array ds;
      taken = λ depth h. rw opened (takes_array depth u r ds h (taken (depth - 1)));
      is = (pair_of_fit ds (unless_ok (fit (agent ∷ name ∷ []) ds) _ _ _ e), rw e refl);
      shorter = rw opened (omega (arith, less));
    }

-- The members of a job

put_on : (on run : Option Data) (d : Data) → put (codes "on") d (job_members on run) ≡ job_members (Some d) run
put_on None None d = refl
put_on None (Some e) d = refl
put_on (Some c) None d = refl
put_on (Some c) (Some e) d = refl

put_run : (on run : Option Data) (d : Data) → put (codes "run") d (job_members on run) ≡ job_members on (Some d)
put_run None None d = refl
put_run None (Some e) d = refl
put_run (Some c) None d = refl
put_run (Some c) (Some e) d = refl

module _ (scope : Scope) (p : Place) where
  pub job_none : (old now : List Token) (draft : JobDraft) → old ≡ Token.begin_object ∷ now → draft.on ≡ None → draft.run ≡ None → IsJobDraft scope p old now draft
  job_none old now draft opened no_on no_run =
      record { on_value = None; run_value = None; members = took_none 2 old now opened; on_kept = rw no_on tt; run_kept = rw no_run tt }

  module _ (k : List ℕ) (s t : List Token) (draft next : JobDraft) where
    pub job_on : k ≡ codes "on" → (on : ℕ × List ℕ) → Took 1 (IsAwaited scope (record { place = p; command = 0 })) s on t → next.on ≡ Some on → next.run ≡ draft.run
        → (old now : List Token) → read_key now ≡ Some (Some k, s) → IsJobDraft scope p old now draft → IsJobDraft scope p old t next
    job_on named on took new same old now key so_far =
        let d = took.value in
        let more = took_put 2 1 (IsAwaited scope (record { place = p; command = 0 })) (job_members so_far.on_value so_far.run_value) old now s t (codes "on") on (omega arith) so_far.members (rw named at key) took in
        record {
          on_value = Some d;
          run_value = so_far.run_value;
          members = subst (λ ms. TookMembers 2 ms old t) (put_on so_far.on_value so_far.run_value d) more;
          on_kept = rw new took.is;
          run_kept = rw same so_far.run_kept;
        }

    pub job_run : k ≡ codes "run" → (cs : List Command) → Took 2 (IsRun scope p) s cs t → next.run ≡ Some cs → next.on ≡ draft.on
        → (old now : List Token) → read_key now ≡ Some (Some k, s) → IsJobDraft scope p old now draft → IsJobDraft scope p old t next
    job_run named cs took new same old now key so_far =
        let d = took.value in
        let more = took_put 2 2 (IsRun scope p) (job_members so_far.on_value so_far.run_value) old now s t (codes "run") cs (omega arith) so_far.members (rw named at key) took in
        record {
          on_value = so_far.on_value;
          run_value = Some d;
          members = subst (λ ms. TookMembers 2 ms old t) (put_run so_far.on_value so_far.run_value d) more;
          on_kept = rw same so_far.on_kept;
          run_kept = rw new took.is;
        }

  -- a job whose commands were read, with or without a message that it waits for
  whole_job : (on_value : Option Data) (d : Data) (on : Option (ℕ × List ℕ)) (cs : List Command) → IsKept (IsAwaited scope (record { place = p; command = 0 })) on_value on → IsRun scope p d cs
      → IsRead is_job (job_read scope p) (object (job_members on_value (Some d))) (record { on = on; run = cs; catches = [] })
  whole_job None d None cs kept run = (rw run.0 refl, rw (run.1, plain_commands cs, plain_catches cs) refl)
  whole_job None d (Some on) cs kept run = absurd kept
  whole_job (Some c) d None cs kept run = absurd kept
  whole_job (Some c) d (Some on) cs kept run = (rw (run.0, kept.0) refl, rw (kept.1, run.1, plain_commands cs, plain_catches cs) refl)

  pub took_job : (old now new : List Token) (draft : JobDraft) (job : Job) → IsJobDraft scope p old now draft → read_key now ≡ Some (None, new) → draft.on ≡ job.on → draft.run ≡ Some job.run → job.catches ≡ [] → Took 3 (IsRead is_job (job_read scope p)) old job new
  took_job old now new draft job all closed on run none =
      let kept : IsKept (IsRun scope p) all.run_value (Some job.run) = rw run at all.run_kept in
      let ran = kept_some (IsRun scope p) all.run_value job.run kept in
      let members : TookMembers 2 (job_members all.on_value (Some ran.0)) old now = rw ran.1 at all.members in
      let is : record { on = job.on; run = job.run; catches = [] } ≡ job = rw none refl in
      took_object 2 (IsRead is_job (job_read scope p)) job (job_members all.on_value (Some ran.0)) old now new members closed
      (subst (IsRead is_job (job_read scope p) (object (job_members all.on_value (Some ran.0)))) is (whole_job all.on_value ran.0 job.on job.run (rw on at all.on_kept) ran.2))

-- an array of jobs
pub took_jobs : (scope : Scope) (a : ℕ) (js : List Job) (ts s r : List Token) → ts ≡ Token.begin_array ∷ s → TookItems 3 is_job (jobs_read scope a 1) s js r → length js ≤ most_jobs → Took 4 (AreJobs scope a) ts js r
took_jobs scope a js ts s r opened all few =
    record {
      value = array all.values;
      taken = λ depth h. rw opened (takes_array depth s r all.values (omega (arith, h)) (all.taken (depth - 1) (omega (arith, h))));
      is = (all.shaped, all.read, few);
      shorter = rw opened (omega (arith, all.shorter));
    }
