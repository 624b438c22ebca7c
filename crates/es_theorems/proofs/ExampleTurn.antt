-- A turn in which an agent makes a buffer opens its block in that turn, no turn is one of an agent that has no place, and none leaves a ledger that its rules do not allow.
use Rattle.std.proofs.Common.{◌≡◌, ℕ, true, false, [], ◌∷◌, Some, None, reverse, codes, refl, subst, arith, rules}
use Rattle.std.specs.Prelude.{pos}
use Rattle.es_value.specs.declared.value.Value.TheVariants.{Number, Object}
use Rattle.es_event.specs.declared.access.Change.TheVariants.{Keep}
use Rattle.es_event.specs.declared.command.Command.TheVariants.{SharedArrayBuffer}
use Rattle.es_event.specs.declared.event.Answer.TheVariants.{Gives}
use Rattle.es_event.specs.declared.event.Event.TheVariants.{JobBegun, Did}
use Rattle.es_event.specs.declared.ledger_event.Body.TheVariants.{Plain}
use Rattle.es_event.specs.declared.ledger_event.LedgerEvent.TheVariants.{Opened, Posted, Accessed, Acted}
use Rattle.es_event.specs.declared.ledger_event.Act.TheVariants.{Waiting as WaitingEvent, Passed, Ended as EndedEvent}
use Rattle.es_event.specs.declared.plan.AgentPlan.{AgentPlan}
use Rattle.es_event.specs.Ledger.{Ledger}
use Rattle.es_event.specs.LegalLedger.{LegalLedger}
use Rattle.es_event.specs.Rows.{row}
use Rattle.es_match.proofs.Bridge.{ties_mean_goes}
use Rattle.es_match.specs.Deeds.{Opens, part}
use Rattle.es_match.specs.Goes.{goes}
use Rattle.es_match.specs.Meets.{nothing_came}
use Rattle.es_ledger.specs.LedgerView.{LedgerView}
use Rattle.es_cluster.specs.declared.member.Progress.{Progress}
use Rattle.es_cluster.specs.declared.member.Progress.TheVariants.{Moved}
use Rattle.es_cluster.specs.Tied.{IsSettled, IsTied, came_to}
use Rattle.es_cluster.specs.Turned.{IsSeated}
use Rattle.es_record.specs.AgentView.{AgentView}
use Rattle.es_cluster.specs.State.{ClusterView}
use Rattle.es_cluster.specs.Turns.{Turned}

abbrev plan : AgentPlan
plan = record {
  name = codes "a";
  callbacks = [];
  jobs = record { on = None; catches = []; run = SharedArrayBuffer (codes "b") 2 ∷ [] } ∷ [];
}

-- a cluster of one agent
abbrev cluster : AgentView → Ledger → ClusterView
cluster b l = record { agents = b ∷ []; ledger = record { agents = 1; history = l }; failed = false }

-- its job has begun
abbrev begun : AgentView
begun = record { plan = plan; number = 0; agents = 1; over = []; history = JobBegun 1 ∷ [] }

-- it has made a buffer of two words
abbrev made : AgentView
made = record {
  plan = plan;
  number = 0;
  agents = 1;
  over = (1, row 1 1 2) ∷ [];
  history = Did (SharedArrayBuffer (codes "b") 2, [], Gives (Object 1)) ∷ JobBegun 1 ∷ [];
}

abbrev opened : Ledger
opened = Opened 1 2 1 0 ∷ []

tied : IsTied made opened
tied = record {
  ties = ([], Opens 1 2 1 ∷ [], nothing_came, refl, ([], [], nothing_came, refl, (refl, refl), refl), refl);
  awaits = λ s e. cc;
  sleeps = λ s e. cc;
  waits_end = refl;
  drains_end = refl;
}

in_one_turn : Turned Moved 0 (cluster begun []) (cluster made opened)
in_one_turn = record {
  before = begun;
  after = made;
  agent = refl;
  agents = refl;
  turn = (Did (SharedArrayBuffer (codes "b") 2, [], Gives (Object 1)), Some (row 1 1 2), search rules, refl);
  told = (λ s e. cc, λ o i w r e. cc);
  ledger = (opened, refl, ((Opens 1 2 1, refl), tt));
  number = refl;
  legal = (((refl, refl, omega arith), tt), refl);
  tied = record { tied = tied; free = refl; awake = refl };
  seated = search rules;
  whole = (refl, refl);
}

-- what the agent has after a turn of it
after_is : (b c : AgentView) (l m : Ledger) (t : Turned Moved 0 (cluster b l) (cluster c m)) → t.after ≡ c
after_is b c l m t = let same : c ∷ [] ≡ t.after ∷ [] = after_set t in cc
  where
    after_set : (t : Turned Moved 0 (cluster b l) (cluster c m)) → c ∷ [] ≡ t.after ∷ []
    after_set t = t.agents

-- its block is opened a turn later
a_turn_late : Turned Moved 0 (cluster begun []) (cluster made []) → ⊥
a_turn_late t =
    let tied : IsSettled made [] = subst (λ b. IsSettled b []) (after_is begun made [] [] t) t.tied in
    let met : goes true nothing_came (reverse made.history) [] ≡ Some (came_to made) = ties_mean_goes made.history [] (came_to made) tied.tied.ties in
    cc

-- its block was opened a turn before
a_turn_early : Turned Moved 0 (cluster (record begun { history = [] }) []) (cluster begun opened) → ⊥
a_turn_early t =
    let tied : IsSettled begun opened = subst (λ b. IsSettled b opened) (after_is (record begun { history = [] }) begun [] opened t) t.tied in
    let met : goes true nothing_came (reverse begun.history) (part opened 0) ≡ Some (came_to begun) = ties_mean_goes begun.history (part opened 0) (came_to begun) tied.tied.ties in
    cc

-- an agent that says it is the sixth of one
abbrev sixth : AgentView
sixth = record { plan = plan; number = 5; agents = 1; over = []; history = [] }

without_a_place : Turned Moved 0 (cluster sixth []) (cluster (record sixth { history = JobBegun 1 ∷ [] }) []) → ⊥
without_a_place t =
    let seated : IsSeated (record sixth { history = JobBegun 1 ∷ [] }) (record { agents = 1; history = [] }) = subst (λ b. IsSeated b (record { agents = 1; history = [] })) (after_is sixth _ [] [] t) t.seated in
    let known = seated.known in
    omega arith

-- What the ledger's rules do not allow no turn leaves

abbrev two : Ledger → LedgerView
two l = record { agents = 2; history = l }

refused : (p : Progress) (n : ℕ) (old new : ClusterView) (l : Ledger) → Turned p n old new → new.ledger ≡ two l → (LegalLedger 2 l → ⊥) → ⊥
refused p n old new l t is out = out (subst (λ (v : LedgerView). LegalLedger v.agents v.history) is t.legal)

-- the second agent skips its job although the message of the first lies there
a_skip_where_a_message_lies : (p : Progress) (n : ℕ) (old new : ClusterView) → Turned p n old new
    → new.ledger ≡ two (Acted 1 (Passed 0) ∷ Acted 0 EndedEvent ∷ Posted 0 1 (Plain (Number (pos 1))) ∷ Acted 1 (WaitingEvent 0) ∷ []) → ⊥
a_skip_where_a_message_lies p n old new t is = refused p n old new _ t is (λ legal. let skips = legal.0.0.1 in cc)

-- or without a wait
a_skip_without_a_wait : (p : Progress) (n : ℕ) (old new : ClusterView) → Turned p n old new
    → new.ledger ≡ two (Acted 1 (Passed 0) ∷ Acted 0 EndedEvent ∷ Posted 0 1 (Plain (Number (pos 1))) ∷ []) → ⊥
a_skip_without_a_wait p n old new t is = refused p n old new _ t is (λ legal. let waits = legal.0.0.0 in cc)

-- a load gives a word that nobody wrote
a_word_that_nobody_wrote : (p : Progress) (n : ℕ) (old new : ClusterView) → Turned p n old new → new.ledger ≡ two (Accessed 1 0 Keep 5 ∷ opened) → ⊥
a_word_that_nobody_wrote p n old new t is = refused p n old new _ t is (λ legal. let word : ◌≡◌ {A = ℕ} 5 0 = legal.0.0.1.0 in cc)

-- the first block and its ticket have other numbers
another_number : (p : Progress) (n : ℕ) (old new : ClusterView) → Turned p n old new → new.ledger ≡ two (Opened 9 1 77 0 ∷ []) → ⊥
another_number p n old new t is = refused p n old new _ t is (λ legal. let block : ◌≡◌ {A = ℕ} 9 1 = legal.0.0.0 in cc)
