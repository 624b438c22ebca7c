use Rattle.std.proofs.Common.{sym}
use Rattle.std.proofs.lemmas.Result.{on_ok_weaker}
use Rattle.es_record.proofs.Reached.{here_of}
use Rattle.es_why.proofs.Said.{nothing_around, there_around}
use Rattle.es_why.proofs.around.write_around_at.Goals as goal

pub write_around-requires : goal.write_around-requires
write_around-requires g c = here_of c.args.agent.now.history c.args.id (sym c.if-not-is_there.ensures)

pub returns-then-not-is_there : goal.returns-then-not-is_there
returns-then-not-is_there g c = nothing_around c.args.agent.now.history c.args.id _ (sym c.if-not-is_there.ensures)

pub returns : goal.returns
returns g c = on_ok_weaker c.write_around.result (λ w. there_around c.args.agent.now.history c.args.id _ _ (sym c.if-not-is_there.ensures) w) c.write_around.ensures
