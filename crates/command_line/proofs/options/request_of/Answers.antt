use Rattle.command_line.proofs.Line.{taken_fails}
use Rattle.command_line.proofs.options.request_of.Goals as goal

pub returns-in_err-matches-clause-passes : goal.returns-in_err-matches-clause-passes
returns-in_err-matches-clause-passes c =
    taken_fails _ _ _ c.from_residual-in_err-matches.result c.in_err-matches.field-0.0 c.in_ok-command.ensures c.from_residual-in_err-matches.ensures.1 c.in_err-matches.ensures.passes
