use Rattle.std.proofs.Common.{◌≡◌, ◌+◌, ◌++◌, ◌∷◌, reverse, take, ap, ◌∙◌, subst, sym, arith}
use Rattle.es_event.specs.Ledger.{Ledger}
use Rattle.es_match.specs.Split.{IsSplit}
use Rattle.es_match.specs.LedgerPass.{Says}
use Rattle.es_match.proofs.Splitting.{may_not_come, reverse_on, spoiled, stepped, take_all, within_all}
use Rattle.es_match.proofs.parts.parts_of.Goals as goal

pub returns-in-None : goal.returns-in-None
returns-in-None c =
    let l : Ledger = reverse (take c.loop-place.place c.args.ledger.now) in
    spoiled c.args.agents c.args.ledger.now c.loop-place.place c.index-ledger-place.result (omega arith) c.index-ledger-place.is
    (may_not_come c.in_ok-came.came c.args.agents l c.index-ledger-place.result _ c.step.new.pass c.step.new.parts.items c.in-None.is
    (c.in_ok-came.ensures.step c.args.agents l c.loop-place.invariant.says c.loop-place.invariant.split))

pub loop-place-preserved : goal.loop-place-preserved
loop-place-preserved c =
    let l : Ledger = reverse (take c.loop-place.place c.args.ledger.now) in
    let on = reverse_on c.args.ledger.now c.loop-place.place c.in-Some.count c.index-ledger-place.result (omega arith) c.index-ledger-place.is in
    let both = stepped c.in_ok-came.came c.in-Some.count c.args.agents l c.index-ledger-place.result _ c.step.new.pass c.step.new.parts.items c.in-Some.is
    (c.in_ok-came.ensures.step c.args.agents l c.loop-place.invariant.says c.loop-place.invariant.split) in
    let same : reverse (take (c.loop-place.place + (1 + c.in-Some.count)) c.args.ledger.now) ≡ reverse (take c.in-Some.count c.after-later.result.now) ++ c.index-ledger-place.result ∷ l =
    on ∙ ap (λ xs. reverse (take c.in-Some.count xs) ++ c.index-ledger-place.result ∷ l) (sym c.after-later.ensures) in
    record {
      within = within_all c.args.ledger.now c.after-later.result.now c.loop-place.place c.in-Some.count c.in_ok-came.came c.in-Some.is c.in_ok-came.ensures.within c.after-later.ensures (omega arith);
      says = subst (λ (m : Ledger). Says m c.step.new.pass) (sym same) both.0;
      split = subst (λ (m : Ledger). IsSplit c.args.agents m c.step.new.parts.items) (sym same) both.1;
    }

pub returns : goal.returns
returns c = subst (λ (m : Ledger). IsSplit c.args.agents (reverse m) c.loop-place.parts.items)
    (take_all c.args.ledger.now c.loop-place.place c.loop-place-test.false) c.loop-place.invariant.split
