use Rattle.std.proofs.Common.{arith}
use Rattle.std.proofs.lemmas.Grind.{common_steps}
use Rattle.std.proofs.lemmas.Bool.Decides.{nat_tests}
use Rattle.es_ephemeron.proofs.Places.{records_of, keeps_room}
use Rattle.es_ephemeron.proofs.keyed.Keyed.remove.Goals as goal

pub returns-clause-after : goal.returns-clause-after
returns-clause-after g c = λ n j. grind (arith, common_steps, nat_tests, records_of, c.remove.ensures.changed n)

pub returns-clause-rooms : goal.returns-clause-rooms
returns-clause-rooms g c =
    rw (← c.self.view_is)
    (keeps_room c.self.inside.slots.items _ (λ p. grind (arith, common_steps)))
