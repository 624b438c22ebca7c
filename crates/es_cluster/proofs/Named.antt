-- Whom an agent asks to post to, or waits for, is one of those that its plan names.
use Rattle.std.proofs.Common.{◌≡◌, ℕ, ◌-◌, ◌<◌, ◌==◌, Bool, true, false, cond, not, nat_lt, sym, ◌∙◌, ap, refl, List, [], ◌∷◌, drop, Option, Some, None, subst, arith}
use Rattle.std.specs.Prelude.{slice_get}
use Rattle.std.specs.List.{list_all}
use Rattle.std.specs.Option.{option_map, option_map_or, option_and_then}
use Rattle.std.proofs.lemmas.Bool.{and_parts, ltb-true}
use Rattle.std.proofs.lemmas.Bool.Decides.{nat_tests}
use Rattle.es_value.specs.declared.value.Value.{Value}
use Rattle.es_value.specs.declared.value.Value.TheVariants.{Object}
use Rattle.es_event.specs.declared.command.Command.{Command}
use Rattle.es_event.specs.declared.command.Command.TheVariants.{Atomic, Post}
use Rattle.es_event.specs.declared.event.Refusal.{Refusal}
use Rattle.es_event.specs.declared.plan.AgentPlan.{AgentPlan}
use Rattle.es_event.specs.declared.plan.Job.{Job}
use Rattle.es_event.specs.Commands.{reads, first}
use Rattle.es_event.specs.Later.{snapshot, collects_now}
use Rattle.es_event.specs.History.{History}
use Rattle.es_event.specs.Identities.{object_of}
use Rattle.es_event.specs.Jobs.{job, cleaning, receivers}
use Rattle.es_event.specs.Others.{is_other, posts_where, speaks_where, names_others}
use Rattle.es_event.specs.Registrations.{first_awaiting}
use Rattle.es_event.specs.Rules.{refusal}
use Rattle.es_event.specs.Legal.{values_of}
use Rattle.es_event.specs.Order.{Phase, between, handed, inside, stopped, ended, phase, Due, begin, receive, run, clean, take_cell, finish, end_job, due_end, close, nothing, left, catching, queue, due_after, due_inside, due_job, due_between, due_at, due}
use Rattle.es_event.proofs.Left.{each_of, is_first, left_holds}
use Rattle.es_record.specs.AgentView.{AgentView}
use Rattle.es_rules.specs.Needs.{Request, posts_to, asked, unless_refused, request, Need, asks_marks, asks_copy, asks_ledger, ledger_or_nobody, opens_now, need_of, need}
use Rattle.es_cluster.specs.Turned.{NamesOthers}

all_dropped : {X : Type 0} (test : X → Bool) (xs : List X) → list_all test xs ≡ true → list_all test (drop 1 xs) ≡ true
all_dropped test [] all = refl
all_dropped test (x ∷ xs) all = (and_parts (test x) (list_all test xs) all).1

module _ (test : ℕ → Bool) (plan : AgentPlan) (jobs : list_all (speaks_where test) plan.jobs ≡ true) (callbacks : list_all (λ c. list_all (posts_where test) c.run) plan.callbacks ≡ true) where
  in_left : (h : History) → list_all (posts_where test) (left plan h) ≡ true
  in_left h =
      left_holds (λ cs. list_all (posts_where test) cs ≡ true) plan (record {
        none = refl;
        rest = all_dropped (posts_where test);
        jobs = λ i j is. (and_parts _ _ (each_of (speaks_where test) plan.jobs i j jobs is)).1;
        callbacks = λ i c is. each_of (λ c. list_all (posts_where test) c.run) plan.callbacks i c callbacks is;
      }) h

  run_posts : (h : History) (x : Option (List ℕ)) (c : Command) → due plan h ≡ run x c → posts_where test c ≡ true
  run_posts h x c is =
      let first = is_first plan h x c is in
      (and_parts (posts_where test c) (list_all (posts_where test) first.others) (ap (list_all (posts_where test)) (sym first.is_left) ∙ in_left h)).0

  heard_of : (n s : ℕ) (o : Option Job) → ((j : Job) → o ≡ Some j → speaks_where test j ≡ true) → (k : ℕ) → due_job k (option_map (λ j. j.on) o) ≡ receive n s → test s ≡ true
  heard_of n s None each k is = cc
  heard_of n s (Some j) each k is = at_on j.on (and_parts _ _ (each j refl)).0 is
    where
      at_on : (on : Option (ℕ × List ℕ)) → option_map_or (λ on. test on.0) on true ≡ true → due_job k (Some on) ≡ receive n s → test s ≡ true
      at_on None hears is = cc
      at_on (Some on) hears is = ap test (let same : s ≡ on.0 = cc in same) ∙ hears

  end_receives : (o : Option History) (n s : ℕ) → due_end o ≡ receive n s → ⊥
  end_receives None n s is = cc
  end_receives (Some p) n s is = cc

  receive_inside : (h : History) (x : Option (List ℕ)) (cs : List Command) (n s : ℕ) → due_inside h x cs ≡ receive n s → ⊥
  receive_inside h x [] n s is = at_cell (option_and_then (first_awaiting h) (cleaning h)) is
    where
      at_cell : (o : Option ℕ) → due_after h o ≡ receive n s → ⊥
      at_cell None is = end_receives (snapshot h) n s is
      at_cell (Some m) is = cc
  receive_inside h x (c ∷ cs) n s is = cc

  receive_between : (h : History) (rs : List ℕ) (n s : ℕ) → due_between plan h rs ≡ receive n s → test s ≡ true
  receive_between h (r ∷ rs) n s is = cc
  receive_between h [] n s is = heard_of n s (slice_get plan.jobs (job h - 1)) (λ j at. each_of (speaks_where test) plan.jobs (job h - 1) j jobs at) (job h) is

  receive_hears : (h : History) (p : Phase) (n s : ℕ) → due_at plan h p ≡ receive n s → test s ≡ true
  receive_hears h between n s is = receive_between h (queue h) n s is
  receive_hears h handed n s is = cc
  receive_hears h inside n s is = absurd (receive_inside h (catching plan h) (left plan h) n s is)
  receive_hears h stopped n s is = absurd (end_receives (snapshot h) n s is)
  receive_hears h ended n s is = cc

is_other_agent : (agents n a : ℕ) → is_other agents n a ≡ true → (a < agents) × (n ≡ a → ⊥)
is_other_agent agents n a is =
    let parts = and_parts (nat_lt a agents) (not (a == n)) is in
    (ltb-true a agents parts.0, λ same. grind (arith, nat_tests, parts, same))

posting : (n agents a : ℕ) (v : Value) → is_other agents n a ≡ true → NamesOthers (asks_ledger (posts_to a v)) n agents
posting n agents a (Object o) is = is_other_agent agents n a is
posting n agents a v is = is_other_agent agents n a is

mapped_names : (n agents : ℕ) (f : ℕ → Request) (q : Option ℕ) → ((o : ℕ) → NamesOthers (asks_ledger (f o)) n agents) → NamesOthers (ledger_or_nobody (option_map f q)) n agents
mapped_names n agents f None each = tt
mapped_names n agents f (Some o) each = each o

asked_names : (n agents : ℕ) (c : Command) (vs : List Value) → posts_where (is_other agents n) c ≡ true → NamesOthers (ledger_or_nobody (asked c vs)) n agents
asked_names n agents (Post a y) vs is = posting n agents a (first vs) is
asked_names n agents (Atomic a) vs is = mapped_names n agents _ (object_of (first vs)) (λ o. tt)
asked_names n agents c vs is = tt

unless_names : (n agents : ℕ) (f : Option Refusal) (q : Option Request) → NamesOthers (ledger_or_nobody q) n agents → NamesOthers (ledger_or_nobody (unless_refused f q)) n agents
unless_names n agents None q is = is
unless_names n agents (Some code) q is = tt

marks_or : (n agents : ℕ) (b o : Bool) (m : Need) → NamesOthers m n agents → NamesOthers (cond b asks_marks (cond o asks_copy m)) n agents
marks_or n agents true o m is = tt
marks_or n agents false true m is = tt
marks_or n agents false false m is = is

pub names : (b : AgentView) (agents n : ℕ) → b.number ≡ n → names_others agents n b.plan ≡ true → NamesOthers (need b) b.number agents
names b agents n number is = subst (λ m. NamesOthers (need b) m agents) (sym number) (at (due b.plan b.history) refl)
  where
    parts : (list_all (speaks_where (is_other agents n)) b.plan.jobs ≡ true) × (list_all (λ c. list_all (posts_where (is_other agents n)) c.run) b.plan.callbacks ≡ true)
    parts = and_parts _ _ is

    at : (d : Due) → due b.plan b.history ≡ d → NamesOthers (need_of b d) n agents
    at (begin m) e = tt
    at (receive m s) e = is_other_agent agents n s (receive_hears (is_other agents n) b.plan parts.0 parts.1 b.history (phase b.history) m s e)
    at (run x c) e =
        marks_or n agents (collects_now b.history c) (opens_now b.history c) (ledger_or_nobody (request b c))
        (unless_names n agents (refusal b.over b.history c (values_of (receivers b.plan.jobs) b.history (reads c))) (asked c (values_of (receivers b.plan.jobs) b.history (reads c)))
        (asked_names n agents c (values_of (receivers b.plan.jobs) b.history (reads c)) (run_posts (is_other agents n) b.plan parts.0 parts.1 b.history x c e)))
    at (clean r) e = tt
    at (take_cell m) e = tt
    at (finish p) e = tt
    at end_job e = tt
    at close e = tt
    at nothing e = tt
