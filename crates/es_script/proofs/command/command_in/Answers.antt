use Rattle.std.proofs.Common.{◌∷◌, ap, ◌∙◌, map}
use Rattle.json.specs.Token.{Token}
use Rattle.serde_json.specs.View.{items_of}
use Rattle.es_reading.specs.Part.{part_data}
use Rattle.es_reading.specs.Reading.{said}
use Rattle.es_script.proofs.TakingCommands.{took_command}
use Rattle.es_script.proofs.command.command_in.Goals as goal

pub returns-in-Ok : goal.returns-in-Ok
returns-in-Ok c =
    let ds = items_of (map part_data c.parts_in.new.parts.items) in
    let opened = c.in_ok-open_array.ensures ∙ ap (λ ts. Token.begin_array ∷ ts) c.in_ok-word.ensures in
    took_command (said c.args.scope.now) c.args.spot c.in_ok-word.word.now ds c.in-Ok.command c.args.reader.now c.text.new.reader c.parts_in.new.reader opened
    c.in_ok-parts_in.ensures.taken c.in_ok-parts_in.ensures.shorter (rw c.as_slice.ensures.value at c.in-Ok.ensures)
