use Rattle.std.proofs.Common.{◌≡◌, Some, arith, rules}
use Rattle.std.specs.Str.{IsUtf8}
use Rattle.serde_json.specs.Read.{read}
use Rattle.es_script.proofs.by_tokens.quick_agents.Goals as goal

pub returns : goal.returns
returns c =
    let found = c.in_ok-agents.ensures in
    let bytes = c.args.bytes.now in
    let same : c.in-Ok.text.now ≡ bytes = grind arith in
    let utf8 : IsUtf8 bytes = search rules in
    let value : read bytes ≡ Some found.0 = rw same at found.1 in
    (found.0, utf8, value, found.2)
