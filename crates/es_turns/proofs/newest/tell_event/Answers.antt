use Rattle.es_turns.proofs.Scribing.{on_ok}
use Rattle.es_turns.proofs.newest.tell_event.Goals as goal

pub returns-in-Pictures-clause-keeps : goal.returns-in-Pictures-clause-keeps
returns-in-Pictures-clause-keeps c = on_ok c.follow.result _ _ (λ follows h keeps. follows c.args.names.now h keeps) c.follow.ensures
