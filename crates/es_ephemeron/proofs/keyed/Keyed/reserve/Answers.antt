use Rattle.std.proofs.Common.{arith}
use Rattle.std.proofs.lemmas.Result.{on_ok_weaker}
use Rattle.std.proofs.lemmas.Grind.{common_steps}
use Rattle.std.proofs.lemmas.Bool.Decides.{nat_tests}
use Rattle.es_ephemeron.proofs.Places.{records_of, room_of, keeps_room}
use Rattle.es_ephemeron.proofs.keyed.Keyed.reserve.Goals as goal

pub returns-clause-same : goal.returns-clause-same
returns-clause-same g c = λ n j. grind (arith, common_steps, nat_tests, records_of, c.extend.ensures.same j, c.extend.ensures.same c.args.key, c.reserve.ensures.same n)

pub returns-clause-rooms : goal.returns-clause-rooms
returns-clause-rooms g c =
    rw (← c.self.view_is)
    (keeps_room c.self.inside.slots.items _ (λ p. grind (arith, common_steps, c.extend.ensures.rooms p)))

pub returns-clause-room : goal.returns-clause-room
returns-clause-room g c =
    on_ok_weaker c.reserve.result
    (λ room. rw (room_of _ c.args.key) (grind (arith, common_steps, nat_tests, room)))
    c.reserve.ensures.room
