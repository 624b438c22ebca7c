use Rattle.std.proofs.Common.{◌≡◌}
use Rattle.serde_json.specs.View.{members_view}
use Rattle.es_explain.specs.Misshapen.{first_unknown}
use Rattle.es_explain.proofs.members.first_unknown.Given as goal

abbrev pub invariant-loop-key : goal.invariant-loop-key
invariant-loop-key l = first_unknown l.owner (members_view l.members.entries) ≡ first_unknown l.owner (members_view l.key-iterator)
