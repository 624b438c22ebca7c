use Rattle.std.proofs.Common.{◌≡◌, true, arith}
use Rattle.es_value.specs.Spelling.{is_name}
use Rattle.es_script.proofs.TakingAgents.{took_name}
use Rattle.es_script.proofs.agent.name_in.Goals as goal

pub returns : goal.returns
returns c =
    let is : c.in_ok-name.name ≡ c.in_ok-text.text.now = grind arith in
    let spelled : is_name c.in_ok-text.text.now ≡ true = grind arith in
    took_name c.in_ok-text.text.now c.in_ok-name.name c.args.reader.now c.text.new.reader c.in_ok-text.ensures is spelled
