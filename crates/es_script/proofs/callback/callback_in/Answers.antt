use Rattle.std.proofs.Common.{◌≡◌, true, arith}
use Rattle.es_value.specs.Spelling.{is_name}
use Rattle.es_reading.specs.Reading.{said}
use Rattle.es_script.proofs.TakingCallbacks.{took_callback}
use Rattle.es_script.proofs.callback.callback_in.Goals as goal

pub returns : goal.returns
returns c =
    let is : c.in_ok-name.name ≡ c.args.name.now = grind arith in
    let spelled : is_name c.args.name.now ≡ true = grind arith in
    took_callback (said c.args.scope.now) c.args.agent c.args.name.now _ c.args.reader.now c.run_in.new.reader is c.new-catches.ensures spelled c.in_ok-run.ensures
