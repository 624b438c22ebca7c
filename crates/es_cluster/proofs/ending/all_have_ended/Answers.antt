use Rattle.std.proofs.Common.{◌≡◌, Bool, true, false, sym, ◌∙◌, refl, subst, ◌<◌}
use Rattle.es_event.specs.LegalLedger.{all_ended}
use Rattle.es_cluster.proofs.Midway.{ended_where_all}
use Rattle.es_cluster.proofs.ending.all_have_ended.Goals as goal

pub returns-then-not-has_ended : goal.returns-then-not-has_ended
returns-then-not-has_ended g c = at (all_ended c.args.ledger.now.history c.args.ledger.now.agents) refl
  where
    at : (b : Bool) → all_ended c.args.ledger.now.history c.args.ledger.now.agents ≡ b → false ≡ all_ended c.args.ledger.now.history c.args.ledger.now.agents
    at false e = sym e
    at true e =
        let over = ended_where_all c.args.ledger.now.history c.args.ledger.now.agents c.loop-agent.agent (subst (λ n. c.loop-agent.agent < n) (sym c.requires) c.loop-agent-test.true) e in
        let clash : false ≡ true = sym c.if-not-has_ended.true ∙ c.has_ended.ensures ∙ over in
        cc
