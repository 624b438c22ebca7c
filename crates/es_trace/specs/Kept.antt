-- To believe: the rows of what stays after a collection, each value with what keeps it.
use Rattle.std.specs.Prelude.{ℕ, true, List, ◌++◌, codes, decimal}
use Rattle.std.specs.List.{flat_map}
use Rattle.es_mark.specs.declared.kept.Kept.{Kept}
use Rattle.es_mark.specs.declared.kept.Reason.{Reason}
use Rattle.es_mark.specs.declared.kept.Reason.TheVariants.{Variable, KeptAlive, Registry, Registration, Property, Entry}
use Rattle.es_trace.specs.Columns.{row}

abbrev pub reason_text : Reason → List ℕ
reason_text (Variable x) = codes "kept by variable " ++ x
reason_text KeptAlive = codes "kept by KeptAlive"
reason_text Registry = codes "kept as a FinalizationRegistry"
reason_text (Registration n) = codes "kept by registration " ++ decimal n
reason_text (Property o k) = codes "kept by property " ++ (k ++ (codes " of " ++ decimal o))
reason_text (Entry m k) = codes "kept by the entry of " ++ (decimal m ++ (codes " under " ++ decimal k))

abbrev pub kept_row : List ℕ → Kept → List ℕ
kept_row l k = row l (codes "  " ++ decimal k.value) true ++ (reason_text k.reason ++ codes "\n")

abbrev pub kept_rows : List ℕ → List Kept → List ℕ
kept_rows l ks = flat_map (kept_row l) ks
