use Rattle.std.proofs.Common.{◌≡◌, ℕ, Bool, ap, sym, ◌∙◌}
use Rattle.es_event.specs.declared.row.Row.{Row}
use Rattle.es_event.specs.Identities.{is_in}
use Rattle.es_ticket.proofs.Parted.{next}
use Rattle.es_ticket.proofs.parting.part.Goals as goal
use Rattle.es_ticket.proofs.parting.part.Goals.{then-has, else-has}

pub loop-preserved : goal.loop-preserved
loop-preserved g c =
    let p : ℕ × Row → Bool = λ t. is_in c.args.ids.now t.0 in
    let was = c.loop.invariant in
    let step = next p c.args.kept.items c.loop.queue.items c.loop.taken.items c.loop.counter c.len-end.result was.parting c.loop-test.true c.in-Some.one c.pop_front.new.self.items c.in-Some.ensures.items in
    let same : p c.in-Some.one ≡ c.has.result = ap p (sym c.one.view_is) ∙ sym c.has.ensures in
    elim c.if-has.branch [
      | then-has w ↦ rw (w.queue-is, w.taken-is, w.push_reserved.ensures.items, w.push_reserved.ensures.capacity)
          (record { parting = step.takes (same ∙ w.if-has.true); room = was.room })
      | else-has w ↦ rw (w.queue-is, w.taken-is, w.push_back_reserved.ensures.items)
          (record { parting = step.keeps (same ∙ w.if-has.false); room = was.room })
    ]
