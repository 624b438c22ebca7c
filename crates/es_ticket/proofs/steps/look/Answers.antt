use Rattle.std.proofs.Common.{ap, ◌∙◌}
use Rattle.es_ticket.proofs.Moves.{whole, part, beside, back}
use Rattle.es_ticket.proofs.Plays.{looks}
use Rattle.es_ticket.proofs.steps.look.Goals as goal

pub split_seat-part-requires : goal.split_seat-part-requires
split_seat-part-requires c = (c.requires.table.1, c.requires.table.2, whole _ _)

pub join_seat-requires : goal.join_seat-requires
join_seat-requires c =
    let s = c.split_seat-part.ensures in
    (c.requires.table.0, s.3 ∙ c.requires.table.1, ap (λ m. m.1) s.4, c.requires.table.2, beside _ _ _ _)

pub load-requires : goal.load-requires
load-requires c = (c.join_seat.ensures.0 ∙ c.requires.table.0, c.requires.table.2, looks _ _ _)

pub split_seat-part-requires-2 : goal.split_seat-part-requires-2
split_seat-part-requires-2 c = (c.load.ensures.0 ∙ c.join_seat.ensures.0 ∙ c.requires.table.0, c.requires.table.2, part _ _)

pub join_seat-requires-2 : goal.join_seat-requires-2
join_seat-requires-2 c =
    let s = c.split_seat-part.ensures in
    let t = c.split_seat-part-2.ensures in
    (s.0 ∙ c.requires.table.1, t.3 ∙ c.load.ensures.0 ∙ c.join_seat.ensures.0 ∙ c.requires.table.0, ap (λ m. m.1) t.4, c.requires.table.2, back _ _ _ _)
