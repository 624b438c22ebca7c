-- What two runs by turns of one plan end in is the same, but for who waited in between.
use Rattle.std.proofs.Common.{◌≡◌, ℕ, zero, suc, sym, ◌∙◌, ap, refl, subst, List, [], ◌∷◌, map, reverse}
use Rattle.std.proofs.lemmas.List.{reverse-reverse}
use Rattle.es_event.specs.declared.event.Event.{Event}
use Rattle.es_event.specs.declared.ledger_event.Body.{Body}
use Rattle.es_event.specs.declared.ledger_event.Body.TheVariants.{Plain, Block}
use Rattle.es_event.specs.declared.ledger_event.LedgerEvent.TheVariants.{Spent, Drained}
use Rattle.es_event.specs.declared.outcome.Outcome.{Outcome}
use Rattle.es_event.specs.declared.plan.Plan.{Plan}
use Rattle.es_event.specs.Ledger.{Ledger, port_of}
use Rattle.es_ledger.specs.Draining.{after_drain, drained_below, drained_each, drained_one, drained_to}
use Rattle.es_cluster.specs.Ends.{EndsIn}
use Rattle.es_cluster.specs.Moves.{RunsToEnd}
use Rattle.es_cluster.specs.State.{ClusterView, first_state, names_of}
use Rattle.es_cluster.specs.Turns.{AllTurned}
use Rattle.es_theorems.specs.Alike.{Alike, SameEnd}
use Rattle.es_theorems.specs.Together.{AnyPlan, Same, StandsBy}
use Rattle.es_theorems.proofs.OneRun.{runs_same}
use Rattle.es_theorems.proofs.Running.{stands_after, stands_anyhow}
use Rattle.es_theorems.proofs.Telling.{after_one}

-- What nobody took is taken out of both alike

one_drained : (l m : Ledger) (s r : ℕ) (b : Body) → Alike l m → Alike (drained_one l s r b) (drained_one m s r b)
one_drained l m s r (Plain v) alike = after_one l m (Drained s r) alike
one_drained l m s r (Block b k) alike = after_one (Drained s r ∷ l) (Drained s r ∷ m) (Spent k) (after_one l m (Drained s r) alike)

each_drained : (l m : Ledger) (s r : ℕ) (bs : List Body) → Alike l m → Alike (drained_each l s r bs) (drained_each m s r bs)
each_drained l m s r [] alike = alike
each_drained l m s r (b ∷ bs) alike = each_drained (drained_one l s r b) (drained_one m s r b) s r bs (one_drained l m s r b alike)

drained_for : (l m : Ledger) (r n : ℕ) → Alike l m → Alike (drained_to l r n) (drained_to m r n)
drained_for l m r zero alike = alike
drained_for l m r (suc n) alike =
    let before = drained_for l m r n alike in
    subst (λ bs. Alike (drained_each (drained_to l r n) n r (port_of (drained_to l r n) n r)) (drained_each (drained_to m r n) n r bs)) (before.ports n r)
    (each_drained (drained_to l r n) (drained_to m r n) n r (port_of (drained_to l r n) n r) before)

drained_under : (l m : Ledger) (n k : ℕ) → Alike l m → Alike (drained_below l n k) (drained_below m n k)
drained_under l m n zero alike = alike
drained_under l m n (suc k) alike = drained_for (drained_below l n k) (drained_below m n k) k n (drained_under l m n k alike)

-- The outcomes

pub reversed_twice : (hs : List (List Event)) → map reverse (map reverse hs) ≡ hs
reversed_twice [] = refl
reversed_twice (h ∷ hs) = ap (λ k. k ∷ map reverse (map reverse hs)) (reverse-reverse h) ∙ ap (λ ks. h ∷ ks) (reversed_twice hs)

ledger_is : (from c : ClusterView) (o : Outcome) (run : RunsToEnd from c) → EndsIn c o
    → reverse o.ledger ≡ after_drain (after_drain run.0.ledger.history run.0.ledger.agents) run.0.ledger.agents
ledger_is from c o run end = end.ledger ∙ ap (λ c. after_drain c.ledger.history c.ledger.agents) run.2

-- from any state in which the agents have their places and their parts in the ledger
pub one_end_from : (from c d : ClusterView) (o q : Outcome) → StandsBy AnyPlan from → RunsToEnd from c → EndsIn c o → RunsToEnd from d → EndsIn d q → SameEnd o q
one_end_from from c d o q stands left a right b = record {
  names = a.names ∙ ap names_of agents ∙ sym b.names;
  histories = sym (reversed_twice o.histories) ∙ ap (map reverse) (a.agents.are ∙ ap (map (λ b. b.history)) agents ∙ sym b.agents.are) ∙ reversed_twice q.histories;
  ledgers = subst (Alike (reverse o.ledger)) (sym (ledger_is from d q right b)) (subst (λ l. Alike l (after_drain (after_drain f.ledger.history f.ledger.agents) f.ledger.agents)) (sym (ledger_is from c o left a)) alike);
}
  where
    e : ClusterView
    e = left.0

    f : ClusterView
    f = right.0

    both : Same e f
    both = runs_same from e f stands left.1 right.1

    agents : c.agents ≡ d.agents
    agents = ap (λ c. c.agents) left.2 ∙ both.agents ∙ sym (ap (λ c. c.agents) right.2)

    alike : Alike (after_drain (after_drain e.ledger.history e.ledger.agents) e.ledger.agents) (after_drain (after_drain f.ledger.history f.ledger.agents) f.ledger.agents)
    alike = subst (λ n. Alike (after_drain (after_drain e.ledger.history e.ledger.agents) e.ledger.agents) (after_drain (after_drain f.ledger.history n) n)) both.number
        (drained_under (after_drain e.ledger.history e.ledger.agents) (after_drain f.ledger.history e.ledger.agents) e.ledger.agents e.ledger.agents (drained_under e.ledger.history f.ledger.history e.ledger.agents e.ledger.agents both.ledgers))

pub one_end : (p : Plan) (c d : ClusterView) (o q : Outcome) → RunsToEnd (first_state p) c → EndsIn c o → RunsToEnd (first_state p) d → EndsIn d q → SameEnd o q
one_end p c d o q left a right b = one_end_from (first_state p) c d o q (stands_anyhow p) left a right b

-- from a state that turns led to

pub stands_later : (ns : List ℕ) (c d : ClusterView) → StandsBy AnyPlan c → AllTurned ns c d → StandsBy AnyPlan d
stands_later [] c d stands turned = subst (StandsBy AnyPlan) (sym turned) stands
stands_later (n ∷ ns) c d stands turned = stands_later ns turned.1 d (stands_after turned.0 n c turned.1 stands turned.2) turned.3

pub rest_has_one_end : (p : Plan) (ns : List ℕ) (from c d : ClusterView) (o q : Outcome) → AllTurned ns (first_state p) from → RunsToEnd from c → EndsIn c o → RunsToEnd from d → EndsIn d q → SameEnd o q
rest_has_one_end p ns from c d o q turned left a right b = one_end_from from c d o q (stands_later ns (first_state p) from (stands_anyhow p) turned) left a right b
