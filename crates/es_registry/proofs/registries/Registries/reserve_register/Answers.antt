use Rattle.std.proofs.lemmas.Result.{on_ok_weaker}
use Rattle.es_registry.proofs.Rooms.{has_token_room}
use Rattle.es_registry.proofs.registries.Registries.reserve_register.Goals as goal

pub returns-clause-room : goal.returns-clause-room
returns-clause-room c =
    on_ok_weaker c.make_listable.result
    (λ can. record {
      of_slots = c.in_ok-reserve.ensures.slots;
      of_places = c.in_ok-reserve.ensures.places;
      of_token = has_token_room c.make_listable.new.tokens c.args.registry c.args.token can;
    })
    c.make_listable.ensures.ok
