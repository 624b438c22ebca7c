use Rattle.std.proofs.Common.{sym, ◌∙◌}
use Rattle.std.proofs.lemmas.Result.{on_ok_weaker}
use Rattle.es_why.proofs.Drawn.{kept_written}
use Rattle.es_why.proofs.root.write_kept_lines.Goals as goal

pub returns : goal.returns
returns g c =
    on_ok_weaker c.write_kept_ids.result
    (λ rest. kept_written c.args.ids.now _ _ _ (sym c.is_empty.ensures ∙ c.if-is_empty.false) c.in_ok-write_all.ensures.bytes rest) c.write_kept_ids.ensures
