use Rattle.std.proofs.Common.{ap, sym}
use Rattle.clap.specs.Words.{found_of}
use Rattle.command_line.specs.CommandLine.{check_asked}
use Rattle.command_line.proofs.Line.{asks_check}
use Rattle.command_line.proofs.options.check_of.Goals as goal

pub returns-then-flag_of-clause-asks : goal.returns-then-flag_of-clause-asks
returns-then-flag_of-clause-asks c = asks_check (found_of c.args.matches.now) _ c.flag_of.result c.flag_of.ensures (sym (ap check_asked c.if-flag_of.true))

pub returns-clause-asks : goal.returns-clause-asks
returns-clause-asks c = asks_check (found_of c.args.matches.now) _ c.flag_of.result c.flag_of.ensures (sym (ap check_asked c.if-flag_of.false))
