use Rattle.es_library.proofs.clusterrun_cluster_free.Given as goal

-- the run has the table of the cluster's ledger, and its plan
abbrev pub ghosts-give_up_named-L-LedgerName : goal.ghosts-give_up_named-L-LedgerName
ghosts-give_up_named-L-LedgerName a = record { table = a.named.table }

abbrev pub ghosts-give_up_named-L-Planned : goal.ghosts-give_up_named-L-Planned
ghosts-give_up_named-L-Planned a = record { plan = a.named.plan }
