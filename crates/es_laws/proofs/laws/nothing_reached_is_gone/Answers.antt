use Rattle.std.proofs.Common.{sym, ◌∙◌}
use Rattle.std.proofs.lemmas.Bool.{false≢true}
use Rattle.es_event.proofs.Alive.{reached_not_gone}
use Rattle.es_laws.proofs.laws.nothing_reached_is_gone.Goals as goal

pub returns : goal.returns
returns c plan h i run reached gone = false≢true (sym (reached_not_gone plan h i run reached) ∙ gone)
