-- To believe: the lines of what stays after a collection, each value with what keeps it.
use Rattle.std.specs.Prelude.{ℕ, List, ◌++◌, codes, decimal}
use Rattle.std.specs.List.{flat_map}
use Rattle.es_value.specs.Printed.{quoted}
use Rattle.es_mark.specs.declared.kept.Kept.{Kept}
use Rattle.es_mark.specs.declared.kept.Reason.{Reason}
use Rattle.es_mark.specs.declared.kept.Reason.TheVariants.{Variable, KeptAlive, Registry, Registration, Property, Entry}
use Rattle.es_trace_json.specs.Events.{agent_line}

abbrev pub reason_json : Reason → List ℕ
reason_json (Variable x) = codes "{\"variable\":" ++ (quoted x ++ codes "}")
reason_json KeptAlive = codes "{\"keptalive\":true}"
reason_json Registry = codes "{\"registry\":true}"
reason_json (Registration n) = codes "{\"registration\":" ++ (decimal n ++ codes "}")
reason_json (Property o k) = codes "{\"object\":" ++ (decimal o ++ (codes ",\"property\":" ++ (quoted k ++ codes "}")))
reason_json (Entry m k) = codes "{\"weakmap\":" ++ (decimal m ++ (codes ",\"key\":" ++ (decimal k ++ codes "}")))

-- that of the agent of this name
abbrev pub kept_line : List ℕ → Kept → List ℕ
kept_line name k = agent_line name (codes "\"event\":\"kept\",\"identity\":" ++ (decimal k.value ++ (codes ",\"by\":" ++ reason_json k.reason)))

abbrev pub kept_lines : List ℕ → List Kept → List ℕ
kept_lines name ks = flat_map (kept_line name) ks
