use Rattle.es_library.proofs.stepping.seat.Given as goal

-- the run has the table of the cluster's ledger, and its plan
abbrev pub ghosts-first_named-L-LedgerName : goal.ghosts-first_named-L-LedgerName
ghosts-first_named-L-LedgerName a = record { table = a.opened }

abbrev pub ghosts-first_named-L-Planned : goal.ghosts-first_named-L-Planned
ghosts-first_named-L-Planned a = record { plan = a.plan }
