use Rattle.es_library.proofs.clusterrun_cluster_audit.Given as goal

-- the run has the table of the cluster's ledger, and its plan
abbrev pub ghosts-count_named-L-LedgerName : goal.ghosts-count_named-L-LedgerName
ghosts-count_named-L-LedgerName a = record { table = a.named.table }

abbrev pub ghosts-count_named-L-Planned : goal.ghosts-count_named-L-Planned
ghosts-count_named-L-Planned a = record { plan = a.named.plan }
