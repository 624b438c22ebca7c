use Rattle.std.proofs.Common.{refl, subst}
use Rattle.es_cluster.proofs.CountingTickets.{beside_held}
use Rattle.calls.specs.Suiting.{Suits}
use Rattle.calls.proofs.Holding.{spent_holds}
use Rattle.calls.proofs.player.give_back.Goals as goal

pub spend-requires : goal.spend-requires
spend-requires g c = beside_held c.args.core.now c.args.stake.now c.in-Block.ticket (subst (λ v. Suits v c.args.core.now c.args.stake.now) c.in-Block.is c.requires).held

pub returns-in-Block-clause-held : goal.returns-in-Block-clause-held
returns-in-Block-clause-held g c =
    spent_holds c.args.core.now c.args.core.now c.args.stake.now c.spend.new.stake c.in-Block.ticket c.in-Block.ticket refl refl (subst (λ v. Suits v c.args.core.now c.args.stake.now) c.in-Block.is c.requires).held refl c.spend.ensures.stake.0 c.spend.ensures.counts

pub returns-in-Plain-clause-held : goal.returns-in-Plain-clause-held
returns-in-Plain-clause-held g c = (subst (λ v. Suits v c.args.core.now c.args.stake.now) c.in-Plain.is c.requires).held

pub returns-in-Word-clause-held : goal.returns-in-Word-clause-held
returns-in-Word-clause-held g c = (subst (λ v. Suits v c.args.core.now c.args.stake.now) c.in-Word.is c.requires).held

pub returns-in-WaitEnded-clause-held : goal.returns-in-WaitEnded-clause-held
returns-in-WaitEnded-clause-held g c = (subst (λ v. Suits v c.args.core.now c.args.stake.now) c.in-WaitEnded.is c.requires).held

pub returns-in-Done-clause-held : goal.returns-in-Done-clause-held
returns-in-Done-clause-held g c = (subst (λ v. Suits v c.args.core.now c.args.stake.now) c.in-Done.is c.requires).held

pub returns-in-Skip-clause-held : goal.returns-in-Skip-clause-held
returns-in-Skip-clause-held g c = (subst (λ v. Suits v c.args.core.now c.args.stake.now) c.in-Skip.is c.requires).held

pub returns-in-Alone-clause-held : goal.returns-in-Alone-clause-held
returns-in-Alone-clause-held g c = subst (λ v. Suits v c.args.core.now c.args.stake.now) c.in-Alone.is c.requires

pub returns-in-Wait-clause-held : goal.returns-in-Wait-clause-held
returns-in-Wait-clause-held g c = subst (λ v. Suits v c.args.core.now c.args.stake.now) c.in-Wait.is c.requires

pub returns-in-End-clause-held : goal.returns-in-End-clause-held
returns-in-End-clause-held g c = subst (λ v. Suits v c.args.core.now c.args.stake.now) c.in-End.is c.requires
