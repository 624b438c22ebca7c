use Rattle.std.proofs.Common.{sym}
use Rattle.std.specs.Prelude.{take}
use Rattle.es_match.specs.Meets.{Came, compares, has_ticket, is_number}
use Rattle.es_match.specs.Shown.{said}
use Rattle.es_match.proofs.ByOne.{after_one, asks_one, unchanged}
use Rattle.es_match.proofs.going.go_on.Goals as goal

pub returns-in-OneDeed-clause-met : goal.returns-in-OneDeed-clause-met
returns-in-OneDeed-clause-met c =
    let came : Came = record { tickets = c.came.inside.tickets; ever = c.came.inside.ever.items; refused = c.came.inside.refused.items } in
    let wanted = c.in-OneDeed.wanted in
    rw (← c.came.view_is, c.in-OneDeed.is, asks_one came.tickets wanted, c.meets_next.ensures.met)
    (sym (after_one came wanted (take 1 c.args.rest.now)))

-- no deed is asked
pub returns-in-Length-clause-met : goal.returns-in-Length-clause-met
returns-in-Length-clause-met c =
    let inside = c.came-in-Length.inside in
    let came : Came = record { tickets = inside.tickets; ever = inside.ever.items; refused = inside.refused.items } in
    let arm = c.in-Length in
    rw (← c.came-in-Length.view_is, arm.is, c.is_length.ensures)
    (sym (unchanged came (has_ticket came.tickets (said arm.buffer) (λ r. is_number (said arm.answer) r.words))))

pub returns-in-SameBlock-clause-met : goal.returns-in-SameBlock-clause-met
returns-in-SameBlock-clause-met c =
    let inside = c.came-in-SameBlock.inside in
    let came : Came = record { tickets = inside.tickets; ever = inside.ever.items; refused = inside.refused.items } in
    let arm = c.in-SameBlock in
    rw (← c.came-in-SameBlock.view_is, arm.is, c.compares.ensures)
    (sym (unchanged came (compares came.tickets (said arm.left) (said arm.right) (said arm.answer))))
