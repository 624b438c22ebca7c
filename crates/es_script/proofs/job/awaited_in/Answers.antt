use Rattle.std.proofs.Common.{map}
use Rattle.serde_json.specs.View.{items_of}
use Rattle.es_reading.specs.Part.{part_data}
use Rattle.es_reading.specs.Reading.{said}
use Rattle.es_script.proofs.TakingJobs.{took_awaited}
use Rattle.es_script.proofs.job.awaited_in.Goals as goal

pub returns-in-Ok : goal.returns-in-Ok
returns-in-Ok c =
    let ds = items_of (map part_data c.parts_in.new.parts.items) in
    took_awaited (said c.args.scope.now) c.args.spot c.in-Ok.on ds c.args.reader.now c.open_array.new.reader c.parts_in.new.reader c.in_ok-open_array.ensures
    c.in_ok-parts_in.ensures.taken c.in_ok-parts_in.ensures.shorter (rw c.as_slice.ensures.value at c.in-Ok.ensures)
