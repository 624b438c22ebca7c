use Rattle.es_library.proofs.clusterrun_cluster_end.Given as goal

-- the run has the table of the cluster's ledger, and its plan
abbrev pub ghosts-end_named-L-LedgerName : goal.ghosts-end_named-L-LedgerName
ghosts-end_named-L-LedgerName a = record { table = a.named.table }

abbrev pub ghosts-end_named-L-Planned : goal.ghosts-end_named-L-Planned
ghosts-end_named-L-Planned a = record { plan = a.named.plan }
