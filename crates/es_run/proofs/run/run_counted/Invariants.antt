use Rattle.es_run.proofs.run.run_counted.Given as goal

-- the proof word that was just opened, and the plan
abbrev pub ghosts-run_in-L-LedgerName : goal.ghosts-run_in-L-LedgerName
ghosts-run_in-L-LedgerName g a = record { table = a.opened }

abbrev pub ghosts-run_in-L-Planned : goal.ghosts-run_in-L-Planned
ghosts-run_in-L-Planned g a = record { plan = a.plan }
