use Rattle.std.proofs.Common.{sym, ◌∙◌}
use Rattle.clap.specs.Words.{found_of, rows_of}
use Rattle.command_line.proofs.Line.{asks_plainly, asks_rows}
use Rattle.command_line.proofs.options.asked.Goals as goal

pub returns-clause-asks : goal.returns-clause-asks
returns-clause-asks c =
    let found = found_of c.args.matches.now in
    record {
      request = asks_plainly _ _ _ (rows_of found) _ (sym c.if-eq.false ∙ c.eq.ensures) (sym c.if-eq-2.false ∙ c.eq-2.ensures) (sym c.if-eq-3.false ∙ c.eq-3.ensures) (asks_rows found c.given.result c.given.ensures.run);
      file_is = c.in_ok-file.ensures;
    }
