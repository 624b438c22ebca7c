use Rattle.std.proofs.Common.{◌∙◌}
use Rattle.es_agent.proofs.Racks.{no_tickets}
use Rattle.calls.proofs.player.Player.new.Goals as goal

pub end-requires : goal.end-requires
end-requires g c = c.abandon.ensures ∙ no_tickets c.args.core c.requires.bare
