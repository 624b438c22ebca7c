-- Internal: the lines of the cluster, from its totals.
use Rattle.std.specs.Prelude.{ℕ, List, ◌++◌, codes, decimal}
use Rattle.es_report.specs.declared.totals.Totals.{Totals}
use Rattle.es_report.specs.Counts.{CountsView}

-- with so many blocks released
abbrev pub totals_text : Totals → ℕ → List ℕ
totals_text t released =
    codes "cluster\nblocks " ++ decimal t.opened
    ++ codes " released " ++ decimal released
    ++ codes "\nmessages posted " ++ decimal t.posted
    ++ codes " taken " ++ decimal t.taken
    ++ codes " drained " ++ decimal t.drained ++ codes "\n"

abbrev pub counts_text : CountsView → List ℕ
counts_text c = totals_text (record { opened = c.opened; posted = c.posted; taken = c.taken; drained = c.drained }) c.released
