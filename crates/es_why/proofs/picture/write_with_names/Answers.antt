use Rattle.std.proofs.lemmas.Result.{on_ok_weaker}
use Rattle.es_why.proofs.Drawn.{drawn}
use Rattle.es_why.proofs.picture.write_with_names.Goals as goal

pub returns : goal.returns
returns g c =
    on_ok_weaker c.write_all.result
    (λ last.
    drawn c.args.agent.now c.args.emptied.now c.args.names.now _ _ _ _ _ _ _ _ _ c.requires.all c.requires.once (rw c.plan.ensures at c.in_ok-write_head.ensures) c.in_ok-write_emptied.ensures
    c.in_ok-write_things.ensures c.in_ok-write_variables.ensures c.in_ok-write_kept.ensures c.in_ok-write_around_each.ensures c.in_ok-write_registrations.ensures last)
    c.write_all.ensures.bytes
