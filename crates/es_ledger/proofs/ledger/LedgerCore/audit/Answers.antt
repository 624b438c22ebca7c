use Rattle.std.proofs.Common.{◌≡◌, ◌<◌, ◌+◌, ◌==◌, ℕ, cond, arith, ◌∙◌}
use Rattle.es_event.specs.Ledger.{opened}
use Rattle.es_ledger.proofs.Auditing.{audited, counted_few, one_more, one_more_is, one_gone, none_gone}
use Rattle.es_ledger.proofs.ledger.LedgerCore.audit.Goals.{then-count-eq0, else-count-eq0}
use Rattle.es_ledger.proofs.ledger.LedgerCore.audit.Goals as goal

pub overflow_add-tickets : goal.overflow_add-tickets
overflow_add-tickets g c =
    let counted = rw (← c.self.view_is) at c.loop-place.invariant.counted in
    let within : c.loop-place.place < opened c.self.inside.history.events = omega (arith, c.loop-place-test.true, c.made-blocks.ensures.count, c.self.invariant.made) in
    let more = one_more c.loop-place.place c.self.inside.history.events c.loop-place.counts.items c.loop-place.tickets c.loop-place.released c.tickets-count.result within (c.tickets-count.ensures ∙ c.self.invariant.tickets (c.loop-place.place + 1)) counted in
    let few = counted_few _ (c.loop-place.place + 1) c.self.inside.history.events c.self.inside.rows.rows c.self.invariant.legal.0 c.self.invariant.tabled (omega (arith, within)) in
    omega (arith, more.below, few, c.made.ensures.count, c.made.ensures.small)

pub loop-place-preserved : goal.loop-place-preserved
loop-place-preserved g c =
    let counted = rw (← c.self.view_is) at c.loop-place.invariant.counted in
    let within : c.loop-place.place < opened c.self.inside.history.events = omega (arith, c.loop-place-test.true, c.made-blocks.ensures.count, c.self.invariant.made) in
    let gone : c.if-count-eq0.released ≡ c.loop-place.released + cond {A = ℕ} (c.tickets-count.result == 0) 1 0 =
    elim c.if-count-eq0.branch [
      | then-count-eq0 w ↦ one_gone _ _ _ w.if-count-eq0.true w.released-is
      | else-count-eq0 w ↦ none_gone _ _ _ w.if-count-eq0.false w.released-is
    ] in
    record {
      room = omega (arith, c.push_reserved.ensures.capacity, c.loop-place.invariant.room);
      counted =
          rw (← c.self.view_is)
          (one_more_is c.loop-place.place c.self.inside.history.events c.loop-place.counts.items c.push_reserved.new.self.items c.loop-place.tickets c.loop-place.released c.if-count-eq0.released c.tickets-count.result
          within (c.tickets-count.ensures ∙ c.self.invariant.tickets (c.loop-place.place + 1)) c.push_reserved.ensures.items gone counted);
    }

pub overflow_sub-result : goal.overflow_sub-result
overflow_sub-result g c =
    let counted = rw (← c.self.view_is) at c.loop-place.invariant.counted in
    let all : c.loop-place.place ≡ opened c.self.inside.history.events = omega (arith, c.loop-place-test.false, c.loop-place.auto.place-end, c.made-blocks.ensures.count, c.self.invariant.made) in
    (audited _ c.self.inside.history.events c.loop-place.place _ c.from_vec.result _ _ _ c.self.invariant.legal.0 all c.from_vec.ensures counted (rw (← c.self.view_is) at c.requires)).0

pub returns : goal.returns
returns g c =
    let place : c.made-blocks.result ≡ c.loop-place.place = omega (arith, c.loop-place-test.false, c.loop-place.auto.place-end) in
    let counted = rw (← place) at rw (← c.self.view_is) at c.loop-place.invariant.counted in
    rw (← c.self.view_is)
    (audited _ c.self.inside.history.events c.made-blocks.result _ c.from_vec.result _ _ _ c.self.invariant.legal.0 (c.made-blocks.ensures.count ∙ c.self.invariant.made) c.from_vec.ensures counted (rw (← c.self.view_is) at c.requires)).1
