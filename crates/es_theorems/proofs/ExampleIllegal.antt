-- Turns of which all is right but that the ledger's rules do not allow what they leave there: they are turns of no run, and no trace.
use Rattle.std.proofs.Common.{◌≡◌, ℕ, false, List, [], ◌∷◌, Some, None, codes, refl, ◌∙◌, ap, rules}
use Rattle.std.specs.Prelude.{pos}
use Rattle.es_value.specs.declared.value.Value.TheVariants.{Number, Object}
use Rattle.es_event.specs.declared.access.Change.TheVariants.{Keep}
use Rattle.es_event.specs.declared.atomic.Operation.{Operation}
use Rattle.es_event.specs.declared.command.Command.{Command}
use Rattle.es_event.specs.declared.command.Command.TheVariants.{Let, Post, Say, SharedArrayBuffer}
use Rattle.es_event.specs.declared.event.Answer.TheVariants.{Gives}
use Rattle.es_event.specs.declared.event.Event.TheVariants.{JobBegun, Did, Skipped, Closed}
use Rattle.es_event.specs.declared.ledger_event.Body.TheVariants.{Plain}
use Rattle.es_event.specs.declared.ledger_event.LedgerEvent.TheVariants.{Opened, Posted, Accessed, Acted}
use Rattle.es_event.specs.declared.ledger_event.Act.TheVariants.{Passed, Ended as EndedEvent}
use Rattle.es_event.specs.declared.literal.Literal.{Literal}
use Rattle.es_event.specs.declared.operand.Operand.{Operand}
use Rattle.es_event.specs.declared.plan.AgentPlan.{AgentPlan}
use Rattle.es_event.specs.Commands.{atomic}
use Rattle.es_event.specs.Ledger.{Ledger}
use Rattle.es_event.specs.LegalLedger.{LegalLedger}
use Rattle.es_event.specs.Rows.{row}
use Rattle.es_match.specs.Deeds.{Opens, Accesses, Passes}
use Rattle.es_match.specs.Meets.{Came, nothing_came}
use Rattle.es_ledger.specs.Turns.{told}
use Rattle.es_ledger.specs.declared.turn.Turn.TheVariants.{Ready, Stay}
use Rattle.es_record.specs.AgentView.{AgentView}
use Rattle.es_rules.specs.Needs.{asks_message}
use Rattle.es_cluster.specs.Tied.{IsTied}
use Rattle.es_cluster.specs.declared.member.Progress.TheVariants.{Moved}
use Rattle.es_cluster.specs.State.{ClusterView}
use Rattle.es_cluster.specs.Turns.{Turned}

abbrev cluster : ℕ → List AgentView → Ledger → ClusterView
cluster n bs l = record { agents = bs; ledger = record { agents = n; history = l }; failed = false }

-- A block and a ticket with made-up numbers

abbrev opens_one : AgentPlan
opens_one = record { name = codes "a"; callbacks = []; jobs = record { on = None; catches = []; run = SharedArrayBuffer (codes "b") 2 ∷ [] } ∷ [] }

abbrev begun : AgentView
begun = record { plan = opens_one; number = 0; agents = 1; over = []; history = JobBegun 1 ∷ [] }

abbrev made_up : AgentView
made_up = record { plan = opens_one; number = 0; agents = 1; over = (1, row 77 9 2) ∷ []; history = Did (SharedArrayBuffer (codes "b") 2, [], Gives (Object 1)) ∷ JobBegun 1 ∷ [] }

abbrev nine : Ledger
nine = Opened 9 2 77 0 ∷ []

made_up_tied : IsTied made_up nine
made_up_tied = record {
  ties = ([], Opens 9 2 77 ∷ [], nothing_came, refl, ([], [], nothing_came, refl, (refl, refl), refl), refl);
  awaits = λ s e. cc;
  sleeps = λ s e. cc;
  waits_end = refl;
  drains_end = refl;
}

but_for_its_numbers : LegalLedger 1 nine → Turned Moved 0 (cluster 1 (begun ∷ []) []) (cluster 1 (made_up ∷ []) nine)
but_for_its_numbers legal = record {
  before = begun;
  after = made_up;
  agent = refl;
  agents = refl;
  turn = (Did (SharedArrayBuffer (codes "b") 2, [], Gives (Object 1)), Some (row 77 9 2), search rules, refl);
  told = (λ s e. cc, λ o i w r e. cc);
  ledger = (nine, refl, ((Opens 9 2 77, refl), tt));
  number = refl;
  legal = legal;
  tied = record { tied = made_up_tied; free = refl; awake = refl };
  seated = search rules;
  whole = (refl, refl);
}

no_made_up_numbers : Turned Moved 0 (cluster 1 (begun ∷ []) []) (cluster 1 (made_up ∷ []) nine) → ⊥
no_made_up_numbers t = let legal : LegalLedger 1 nine = t.legal in let block : ◌≡◌ {A = ℕ} 9 1 = legal.0.0.0 in cc

-- A word that nobody wrote

abbrev load : Command
load = atomic (codes "b") (Operand.Number (pos 0)) (Operation.Load (codes "x"))

abbrev loads : AgentPlan
loads = record { name = codes "a"; callbacks = []; jobs = record { on = None; catches = []; run = SharedArrayBuffer (codes "b") 1 ∷ load ∷ [] } ∷ [] }

abbrev with_buffer : AgentView
with_buffer = record { plan = loads; number = 0; agents = 1; over = (1, row 1 1 1) ∷ []; history = Did (SharedArrayBuffer (codes "b") 1, [], Gives (Object 1)) ∷ JobBegun 1 ∷ [] }

abbrev loaded : AgentView
loaded = record {
  plan = loads;
  number = 0;
  agents = 1;
  over = (1, row 1 1 1) ∷ [];
  history = Did (load, Object 1 ∷ [], Gives (Number (pos 5))) ∷ Did (SharedArrayBuffer (codes "b") 1, [], Gives (Object 1)) ∷ JobBegun 1 ∷ [];
}

abbrev opened : Ledger
opened = Opened 1 1 1 0 ∷ []

abbrev five : Ledger
five = Accessed 1 0 Keep 5 ∷ opened

abbrev one_came : Came
one_came = record { tickets = (1, row 1 1 1) ∷ []; ever = (1, row 1 1 1) ∷ []; refused = [] }

loaded_tied : IsTied loaded five
loaded_tied = record {
  ties = (Opens 1 1 1 ∷ [], Accesses 1 0 Keep 5 ∷ [], one_came, refl, ([], Opens 1 1 1 ∷ [], nothing_came, refl, ([], [], nothing_came, refl, (refl, refl), refl), refl), refl);
  awaits = λ s e. cc;
  sleeps = λ s e. cc;
  waits_end = refl;
  drains_end = refl;
}

but_for_its_word : LegalLedger 1 five → Turned Moved 0 (cluster 1 (with_buffer ∷ []) opened) (cluster 1 (loaded ∷ []) five)
but_for_its_word legal = record {
  before = with_buffer;
  after = loaded;
  agent = refl;
  agents = refl;
  turn = (Did (load, Object 1 ∷ [], Gives (Number (pos 5))), None, search rules, refl);
  told = (λ s e. cc, λ o i w r e. cc);
  ledger = (Accessed 1 0 Keep 5 ∷ [], refl, ((Accesses 1 0 Keep 5, refl), tt));
  number = refl;
  legal = legal;
  tied = record { tied = loaded_tied; free = refl; awake = refl };
  seated = search rules;
  whole = (refl, refl);
}

no_invented_word : Turned Moved 0 (cluster 1 (with_buffer ∷ []) opened) (cluster 1 (loaded ∷ []) five) → ⊥
no_invented_word t = let legal : LegalLedger 1 five = t.legal in let word : ◌≡◌ {A = ℕ} 5 0 = legal.0.0.1.0 in cc

-- A skip where a message lies

abbrev sends : AgentPlan
sends = record { name = codes "a"; callbacks = []; jobs = record { on = None; catches = []; run = Let (codes "x") (Literal.Number (pos 1)) ∷ Post 1 (codes "x") ∷ [] } ∷ [] }

abbrev hears : AgentPlan
hears = record { name = codes "b"; callbacks = []; jobs = record { on = Some (0, codes "m"); catches = []; run = Say (codes "m") ∷ [] } ∷ [] }

abbrev sender : AgentView
sender = record { plan = sends; number = 0; agents = 2; over = []; history = Closed ∷ [] }

abbrev waiting : AgentView
waiting = record { plan = hears; number = 1; agents = 2; over = []; history = [] }

abbrev skipped : AgentView
skipped = record { plan = hears; number = 1; agents = 2; over = []; history = Skipped 1 0 ∷ [] }

abbrev sent : Ledger
sent = Acted 0 EndedEvent ∷ Posted 0 1 (Plain (Number (pos 1))) ∷ []

abbrev passed : Ledger
passed = Acted 1 (Passed 0) ∷ sent

skipped_tied : IsTied skipped passed
skipped_tied = record { ties = ([], Passes 0 ∷ [], nothing_came, refl, (refl, refl), refl); awaits = λ s e. cc; sleeps = λ s e. cc; waits_end = refl; drains_end = refl }

but_for_its_skip : LegalLedger 2 passed → Turned Moved 1 (cluster 2 (sender ∷ waiting ∷ []) sent) (cluster 2 (sender ∷ skipped ∷ []) passed)
but_for_its_skip legal = record {
  before = waiting;
  after = skipped;
  agent = refl;
  agents = refl;
  turn = (Skipped 1 0, None, search rules, refl);
  told = (
    λ s e stays.
        (let heard : asks_message 0 ≡ asks_message s = e in
        let same : 0 ≡ s = cc in
        let clash : Ready ≡ Stay = ap (λ s. (told sent 2 1 s).0) same ∙ stays in
        cc),
    λ o i w r e. cc,
  );
  ledger = (Acted 1 (Passed 0) ∷ [], refl, ((Passes 0, refl), tt));
  number = refl;
  legal = legal;
  tied = record { tied = skipped_tied; free = refl; awake = refl };
  seated = search rules;
  whole = (refl, refl);
}

no_skip_of_a_message : Turned Moved 1 (cluster 2 (sender ∷ waiting ∷ []) sent) (cluster 2 (sender ∷ skipped ∷ []) passed) → ⊥
no_skip_of_a_message t = let legal : LegalLedger 2 passed = t.legal in let waits = legal.0.0.0 in cc
