use Rattle.std.proofs.Common.{◌≡◌, ◌≤◌, ◌++◌, drop, string_bytes}
use Rattle.serde_json.specs.View.{items_view}
use Rattle.es_explain.specs.Causes.{listed, other_names}
use Rattle.es_explain.proofs.names.other_agents.Given as goal

abbrev pub invariant-loop-index : goal.invariant-loop-index
invariant-loop-index l =
    record {
      told : string_bytes l.text ++ listed l.before (other_names l.agent l.index (items_view (drop l.index l.agents))) ≡ listed 0 (other_names l.agent 0 (items_view l.agents));
      counted : l.before ≤ l.index;
    }
