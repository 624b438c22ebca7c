use Rattle.es_races.proofs.Through.{eight, nothing_says}
use Rattle.es_races.proofs.pass.Pass.new.Goals as goal

pub returns : goal.returns
returns c = nothing_says _ c.new.ensures.empty c.new-2.ensures.empty c.new-3.ensures.empty (eight 8 c.new-4.result c.new-4.ensures)
