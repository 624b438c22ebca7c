use Rattle.std.proofs.Common.{inl, inr}
use Rattle.es_trace.proofs.Led.{command_led, emptying_led}
use Rattle.es_trace.proofs.place.Place.after.Goals as goal

pub returns-in-Did : goal.returns-in-Did
returns-in-Did c =
    elim c.in-Did.is [
      | inl did ↦ rw (did.1, c.with_one_done.ensures) (command_led c.args.plan.now did.0.0 did.0.1 did.0.2 c.args.callback c.args.self)
      | inr emptied ↦ rw (emptied.1, c.with_one_done.ensures) (emptying_led c.args.plan.now emptied.0 c.args.callback c.args.self)
    ]
