use Rattle.es_trace.proofs.Written.{alone}
use Rattle.es_trace.proofs.answer.write_reported.Goals as goal

pub returns : goal.returns
returns g c =
    let told = rw c.from_ref.ensures.value at c.write_lines.ensures in
    rw (alone c.args.event.now) at told
