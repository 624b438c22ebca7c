use Rattle.std.proofs.Common.{◌≡◌}
use Rattle.serde_json.specs.View.{members_view}
use Rattle.es_explain.specs.Explaining.{key_from}
use Rattle.es_explain.proofs.pointer.key_in.Given as goal

abbrev pub invariant-loop-name : goal.invariant-loop-name
invariant-loop-name l = key_from l.before (members_view l.members.entries) ≡ key_from l.left (members_view l.name-iterator)
