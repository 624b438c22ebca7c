use Rattle.es_library.proofs.clusterrun_cluster_step.Given as goal

-- the run has the table of the cluster's ledger, and its plan
abbrev pub ghosts-step_named-L-LedgerName : goal.ghosts-step_named-L-LedgerName
ghosts-step_named-L-LedgerName a = record { table = a.named.table }

abbrev pub ghosts-step_named-L-Planned : goal.ghosts-step_named-L-Planned
ghosts-step_named-L-Planned a = record { plan = a.named.plan }
