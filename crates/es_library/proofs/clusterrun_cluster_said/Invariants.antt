use Rattle.es_library.proofs.clusterrun_cluster_said.Given as goal

-- the run has the table of the cluster's ledger, and its plan
abbrev pub ghosts-say_named-L-LedgerName : goal.ghosts-say_named-L-LedgerName
ghosts-say_named-L-LedgerName a = record { table = a.named.table }

abbrev pub ghosts-say_named-L-Planned : goal.ghosts-say_named-L-Planned
ghosts-say_named-L-Planned a = record { plan = a.named.plan }
