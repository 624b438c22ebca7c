use Rattle.es_turns.proofs.stepping.report_of_rest.Goals as goal

pub returns : goal.returns
returns g c = (c.in_ok-counted.counted.outcome, c.in_ok-counted.ensures.outcome, c.in_ok-counted.ensures.turns, c.in_ok-text.ensures)
