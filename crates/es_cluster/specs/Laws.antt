-- To believe: what is proved of every cluster whose agents have all ended.
use Rattle.std.specs.Prelude.{ℕ, ◌≡◌, true, List}
use Rattle.es_event.specs.History.{History}
use Rattle.es_event.specs.Ledger.{Ledger}
use Rattle.es_event.specs.LegalLedger.{LegalLedger, all_ended}
use Rattle.es_ledger.specs.Draining.{after_drain}
use Rattle.es_match.specs.Cluster.{IsCluster}

-- What is drained once all agents have ended is nobody's: the histories are those of one cluster still, and the ledger's is legal.
abbrev pub WhatIsDrainedIsNobodys : Type 0
WhatIsDrainedIsNobodys =
    (n : ℕ) (hs : List History) (l : Ledger) → LegalLedger n l → all_ended l n ≡ true → IsCluster hs l
    → IsCluster hs (after_drain l n) × LegalLedger n (after_drain l n)
