use Rattle.std.proofs.Common.{refl, codes}
use Rattle.command_line.specs.CommandLine.{flag_rule}
use Rattle.command_line.proofs.Line.{lone}
use Rattle.command_line.proofs.options.json_arg.Goals as goal

pub returns-clause-rule : goal.returns-clause-rule
returns-clause-rule c = lone c.flag_arg-arg.result c.in_ok-conflicts_with.field-0 (flag_rule (codes "json")) _ c.in_ok-conflicts_with.ensures c.flag_arg-arg.ensures.rule refl
