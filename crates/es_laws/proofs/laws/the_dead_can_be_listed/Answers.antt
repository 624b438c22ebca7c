use Rattle.es_event.proofs.Listing.{TheDead, the_dead}
use Rattle.es_laws.proofs.laws.the_dead_can_be_listed.Goals as goal

pub returns : goal.returns
returns c into h = let all : TheDead into h = the_dead into h in (all.list, all.dead, all.rising)
