use Rattle.std.proofs.lemmas.Result.{on_ok_weaker}
use Rattle.es_trace.proofs.Written.{kept_written}
use Rattle.es_trace.proofs.scribe.Scribe.write_kept.Goals as goal

pub returns : goal.returns
returns g c = on_ok_weaker c.write_kept_rows.result (λ written names plan h keeps. kept_written names plan h c.args.self.now _ _ _ _ keeps c.as_slice.ensures.value written) c.write_kept_rows.ensures
