use Rattle.std.proofs.Common.{arith}
use Rattle.std.proofs.lemmas.Grind.{common_steps}
use Rattle.std.proofs.lemmas.Bool.Decides.{nat_tests}
use Rattle.es_props.proofs.Places.{object_of, keeps_room}
use Rattle.es_props.proofs.heap.Heap.make.Goals as goal

pub returns-clause-made : goal.returns-clause-made
returns-clause-made c = λ p. grind (arith, common_steps, nat_tests, object_of)

pub returns-clause-rooms : goal.returns-clause-rooms
returns-clause-rooms c =
    rw (← c.self.view_is)
    (keeps_room c.self.inside.slots.items _ (grind (arith, common_steps)) (λ p. grind (arith, common_steps)))
