use Rattle.std.proofs.Common.{◌∙◌, refl, ap, sym, length}
use Rattle.es_ledger.proofs.Tying.{reserved_room}
use Rattle.es_ledger.proofs.Waits.{neither_of, none_if, waiting_ties}
use Rattle.es_ledger.proofs.ledger.LedgerCore.ask.Goals as goal

pub invariant_of-self-2 : goal.invariant_of-self-2
invariant_of-self-2 g c =
    let known = rw (← c.self.view_is) at c.requires.known in
    let going = rw (← c.self.view_is) at c.requires.going in
    let empty = rw (← c.self.view_is) at c.requires.empty in
    let neither = neither_of _ _ (sym (rw (← c.self.view_is) at c.rests.ensures) ∙ c.if-rests.false) in
    let nobody = none_if _ neither.0 in
    let room = reserved_room _ _ _ _ _ c.make_room.new.history.room c.append.new.self.room 2 c.self.invariant
    refl (ap (λ xs. length xs) c.as_slice-agents.ensures.value) c.in_ok-make_room.ensures.room c.append.ensures.room in
    rw (c.append.ensures.events, c.in_ok-make_room.ensures.same)
    (waiting_ties _ c.self.inside.history.events _ _ c.args.agent c.args.sender c.self.invariant known.0 known.1 c.requires.other empty nobody going neither.1 room)
