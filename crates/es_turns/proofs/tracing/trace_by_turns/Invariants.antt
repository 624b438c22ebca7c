use Rattle.es_turns.proofs.tracing.trace_by_turns.Given as goal

-- the proof word that was just opened, and the plan
abbrev pub ghosts-trace_cluster-L-LedgerName : goal.ghosts-trace_cluster-L-LedgerName
ghosts-trace_cluster-L-LedgerName a = record { table = a.opened }

abbrev pub ghosts-trace_cluster-L-Planned : goal.ghosts-trace_cluster-L-Planned
ghosts-trace_cluster-L-Planned a = record { plan = a.plan }
