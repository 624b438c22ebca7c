use Rattle.std.proofs.Common.{◌≡◌}
use Rattle.serde_json.specs.View.{members_view}
use Rattle.es_explain.specs.Misshapen.{callback_trouble, each_member}
use Rattle.es_explain.proofs.shape.each_callback.Given as goal

abbrev pub invariant-loop-key : goal.invariant-loop-key
invariant-loop-key l = each_member callback_trouble (members_view l.members.entries) ≡ each_member callback_trouble (members_view l.key-iterator)
