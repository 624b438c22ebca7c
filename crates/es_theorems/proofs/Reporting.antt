-- Where the histories of all agents are the same, so is the report: how many blocks were opened and released, and how many messages were
-- posted, taken and drained, the histories say.
use Rattle.std.proofs.Common.{◌≡◌, ℕ, zero, suc, ◌==◌, ◌&&◌, sym, ◌∙◌, ap, refl, arith, List, [], ◌∷◌, ◌++◌, map, reverse}
use Rattle.std.specs.Prelude.{codes, count_by, decimal, nat_le, nat_lt, slice_index_or}
use Rattle.std.specs.List.{range_with_len}
use Rattle.es_event.specs.declared.event.Event.{Event}
use Rattle.es_event.specs.declared.outcome.Outcome.{Outcome}
use Rattle.es_event.specs.History.{History}
use Rattle.es_event.specs.Ledger.{Ledger, count, opened}
use Rattle.es_event.specs.Report.{agents_text, cluster_text, report}
use Rattle.es_event.specs.Totals.{drained, posted, released, taken}
use Rattle.es_match.specs.Deeds.{part}
use Rattle.es_match.specs.Cluster.{account_of}
use Rattle.es_ledger.specs.Laws.{sum_below}
use Rattle.es_ledger.proofs.Sums.{sum_same}
use Rattle.es_record.specs.AgentView.{AgentView}
use Rattle.es_cluster.specs.Ends.{EndsIn}
use Rattle.es_cluster.specs.State.{ClusterView, accounts}
use Rattle.es_theorems.proofs.Draining.{none_letters}
use Rattle.es_theorems.specs.Messages.{SayAlike}
use Rattle.es_theorems.specs.Weights.{history_weight, ledger_weight, weigh}
use Rattle.es_theorems.proofs.Weighing.{agents_weight, deeds_weight, ledger_opened, ledger_posted, ledger_taken}

-- By the histories

account_history : (bs : List AgentView) (a : ℕ) → (account_of (accounts bs) a).history ≡ slice_index_or (map (λ b. b.history) bs) a []
account_history [] a = refl
account_history (b ∷ bs) zero = refl
account_history (b ∷ bs) (suc a) = account_history bs a

abbrev reversed : List (List Event) → List History
reversed hs = map (λ h. reverse h) hs

weight_is : (x y z : ℕ) (c : ClusterView) (o : Outcome) → EndsIn c o → ledger_weight x y z (reverse o.ledger) ≡ sum_below c.ledger.agents (λ a. history_weight x y z (slice_index_or (reversed o.histories) a []))
weight_is x y z c o end =
    sym (agents_weight c.ledger.agents x y z (reverse o.ledger) end.legal.0)
    ∙ sum_same c.ledger.agents (λ a. weigh x y z (part (reverse o.ledger) a)) (λ a. history_weight x y z (slice_index_or (reversed o.histories) a []))
    (λ a. deeds_weight x y z (account_of (accounts c.agents) a).history (part (reverse o.ledger) a) (end.cluster.parts a).0 (end.cluster.parts a).1
    ∙ ap (history_weight x y z) (account_history c.agents a ∙ ap (λ hs. slice_index_or hs a []) (sym end.agents.are)))

same_weight : (x y z : ℕ) (c d : ClusterView) (o q : Outcome) → c.ledger.agents ≡ d.ledger.agents → o.histories ≡ q.histories → EndsIn c o → EndsIn d q → ledger_weight x y z (reverse o.ledger) ≡ ledger_weight x y z (reverse q.ledger)
same_weight x y z c d o q size same a b =
    weight_is x y z c o a
    ∙ ap (λ n. sum_below n (λ a. history_weight x y z (slice_index_or (reversed o.histories) a []))) size
    ∙ ap (λ hs. sum_below d.ledger.agents (λ a. history_weight x y z (slice_index_or (reversed hs) a []))) same
    ∙ sym (weight_is x y z d q b)

-- The report

same_released : (l m : Ledger) → opened l ≡ opened m → ((b : ℕ) → count l b ≡ count m b) → released l ≡ released m
same_released l m size counts = λ i. count_by (λ b. (nat_lt 0 b && nat_le b (size i)) && (counts b i == 0)) (range_with_len 1 (size i))

same_text : (l m : Ledger) → opened l ≡ opened m → released l ≡ released m → posted l ≡ posted m → taken l ≡ taken m → drained l ≡ drained m → cluster_text l ≡ cluster_text m
same_text l m blocks freed sent got left = λ i.
    codes "cluster\nblocks " ++ decimal (blocks i)
    ++ codes " released " ++ decimal (freed i)
    ++ codes "\nmessages posted " ++ decimal (sent i)
    ++ codes " taken " ++ decimal (got i)
    ++ codes " drained " ++ decimal (left i) ++ codes "\n"

pub reports_same : (c d : ClusterView) (o q : Outcome) → c.ledger.agents ≡ d.ledger.agents → SayAlike o q → EndsIn c o → EndsIn d q → report o ≡ report q
reports_same c d o q size same a b = λ i. agents_text (same.names i) (same.histories i) ++ text i
  where
    l : Ledger
    l = reverse o.ledger

    m : Ledger
    m = reverse q.ledger

    blocks : opened l ≡ opened m
    blocks = ledger_opened l ∙ same_weight 1 0 0 c d o q size same.histories a b ∙ sym (ledger_opened m)

    sent : posted l ≡ posted m
    sent = ledger_posted l ∙ same_weight 0 1 0 c d o q size same.histories a b ∙ sym (ledger_posted m)

    got : taken l ≡ taken m
    got = ledger_taken l ∙ same_weight 0 0 1 c d o q size same.histories a b ∙ sym (ledger_taken m)

    left : drained l ≡ drained m
    left =
        let x = none_letters c.ledger.agents l a.legal.0 a.messages in
        let y = none_letters d.ledger.agents m b.legal.0 b.messages in
        omega (arith, x, y, sent, got)

    text : cluster_text l ≡ cluster_text m
    text = same_text l m blocks (same_released l m blocks (λ k. a.tickets k ∙ sym (b.tickets k))) sent got left
