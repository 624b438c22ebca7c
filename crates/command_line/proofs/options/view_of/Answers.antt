use Rattle.clap.specs.Words.{found_of}
use Rattle.command_line.proofs.Line.{asks_view}
use Rattle.command_line.proofs.options.view_of.Goals as goal

pub returns : goal.returns
returns c = asks_view (found_of c.args.matches.now) _ c.flag_of.result c.flag_of-2.result c.flag_of.ensures c.flag_of-2.ensures c.form_of.ensures c.flag_of-3.ensures
