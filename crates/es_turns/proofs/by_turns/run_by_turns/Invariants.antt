use Rattle.es_turns.proofs.by_turns.run_by_turns.Given as goal

-- the proof word that was just opened, and the plan
abbrev pub ghosts-run_cluster-L-LedgerName : goal.ghosts-run_cluster-L-LedgerName
ghosts-run_cluster-L-LedgerName a = record { table = a.opened }

abbrev pub ghosts-run_cluster-L-Planned : goal.ghosts-run_cluster-L-Planned
ghosts-run_cluster-L-Planned a = record { plan = a.plan }
