use Rattle.std.proofs.Common.{sym}
use Rattle.serde_json.proofs.Views.{items_len-items_view}
use Rattle.es_explain.proofs.command.count_of.Goals as goal

pub returns : goal.returns
returns c = sym (items_len-items_view _)
