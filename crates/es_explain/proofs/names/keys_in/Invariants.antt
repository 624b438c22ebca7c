use Rattle.std.proofs.Common.{◌≡◌, ◌+◌, ◌++◌, length, string_bytes}
use Rattle.serde_json.specs.View.{members_view}
use Rattle.es_explain.specs.Causes.{keys, listed}
use Rattle.es_explain.proofs.names.keys_in.Given as goal

abbrev pub invariant-loop-name : goal.invariant-loop-name
invariant-loop-name l =
    record {
      told : string_bytes l.text ++ listed l.before (keys (members_view l.name-iterator)) ≡ listed 0 (keys (members_view l.members.entries));
      counted : l.before + length l.name-iterator ≡ length l.members.entries;
    }
