use Rattle.std.proofs.Common.{◌≡◌, ◌∙◌, ◌∷◌, ◌++◌, sym, ap, subst}
use Rattle.es_record.specs.AgentView.{AgentView}
use Rattle.es_trace.specs.Keeping.{Keeps}
use Rattle.es_turns.specs.Known.{Grows}
use Rattle.es_turns.specs.Told.{IsAfterTold, event_told}
use Rattle.es_turns.proofs.Scribing.{moves_event, moves_plan, newest_is, on_ok, told_newest}
use Rattle.es_turns.proofs.newest.tell_newest.Goals as goal

pub returns-clause-text : goal.returns-clause-text
returns-clause-text g c =
    on_ok c.tell_after.result _ _ (λ told b keeps moves.
    (let names = c.args.names.now in
    let agent = c.args.agent.now in
    let e = c.in-Some.event.now in
    let more = moves_event b agent moves in
    let first = newest_is c.history.result.now b.history moves.0 e (c.history.ensures.events ∙ more) (sym c.in-Some.ensures.value) in
    let grew : agent.history ≡ e ∷ b.history = more ∙ ap (λ e. e ∷ b.history) (sym first) in
    let plan = c.plan.ensures in
    let before = subst (λ p. Keeps names p b.history c.args.scribe.now) (sym (plan ∙ moves_plan b agent moves)) keeps in
    let event = c.in_ok-tell_event.ensures.text b.history before ∙ ap (λ p. c.args.text.now.items ++ event_told c.args.view.form names p b.history e) plan in
    let followed = subst (λ p. Keeps names p (e ∷ b.history) c.tell_event.new.scribe) (plan ∙ sym (ap (λ (b : AgentView). b.plan) c.record.ensures)) (c.in_ok-tell_event.ensures.keeps b.history before) in
    let after = subst (λ (x : AgentView). Grows c.tell_event.new.text.items c.tell_after.new.text.items (IsAfterTold c.args.view names x e)) c.record.ensures (told names (e ∷ b.history) followed) in
    told_newest c.args.view names b agent e c.args.text.now.items c.tell_event.new.text.items c.tell_after.new.text.items grew event after))
    c.tell_after.ensures
