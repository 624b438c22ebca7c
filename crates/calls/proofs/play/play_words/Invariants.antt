use Rattle.calls.proofs.play.play_words.Given as goal

-- the proof word that was just opened, and the plan that was read
abbrev pub ghosts-play_plan-L-LedgerName : goal.ghosts-play_plan-L-LedgerName
ghosts-play_plan-L-LedgerName g a = record { table = a.opened }

abbrev pub ghosts-play_plan-L-Planned : goal.ghosts-play_plan-L-Planned
ghosts-play_plan-L-Planned g a = record { plan = a.plan }

abbrev pub ghosts-play_cluster-L-LedgerName : goal.ghosts-play_cluster-L-LedgerName
ghosts-play_cluster-L-LedgerName g a = record { table = a.opened }

abbrev pub ghosts-play_cluster-L-Planned : goal.ghosts-play_cluster-L-Planned
ghosts-play_cluster-L-Planned g a = record { plan = a.plan }
