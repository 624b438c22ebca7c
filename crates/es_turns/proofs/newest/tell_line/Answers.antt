use Rattle.es_turns.proofs.Scribing.{on_ok}
use Rattle.es_turns.proofs.newest.tell_line.Goals as goal

pub returns-in-Ok-clause-keeps : goal.returns-in-Ok-clause-keeps
returns-in-Ok-clause-keeps c = on_ok c.follow.result _ _ (λ follows h keeps. follows c.args.names.now h keeps) c.follow.ensures
