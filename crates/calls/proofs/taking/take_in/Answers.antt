use Rattle.std.proofs.Common.{subst}
use Rattle.calls.specs.Suiting.{Suits}
use Rattle.calls.proofs.taking.take_in.Goals as goal

pub go_alone-requires : goal.go_alone-requires
go_alone-requires g c = (subst (λ v. Suits v c.args.core.now c.args.stake.now) c.in-Alone.is c.requires)

pub admit-requires-clause-takes : goal.admit-requires-clause-takes
admit-requires-clause-takes g c = (subst (λ v. Suits v c.args.core.now c.args.stake.now) c.in-Block.is c.requires).asked

pub admit-requires-clause-held : goal.admit-requires-clause-held
admit-requires-clause-held g c = (subst (λ v. Suits v c.args.core.now c.args.stake.now) c.in-Block.is c.requires).held

pub receive-requires-clause-comes : goal.receive-requires-clause-comes
receive-requires-clause-comes g c = (subst (λ v. Suits v c.args.core.now c.args.stake.now) c.in-Plain.is c.requires).asked

pub receive-requires-clause-held : goal.receive-requires-clause-held
receive-requires-clause-held g c = (subst (λ v. Suits v c.args.core.now c.args.stake.now) c.in-Plain.is c.requires).held

pub answer_word-requires-clause-takes : goal.answer_word-requires-clause-takes
answer_word-requires-clause-takes g c = (subst (λ v. Suits v c.args.core.now c.args.stake.now) c.in-Word.is c.requires).asked

pub answer_word-requires-clause-held : goal.answer_word-requires-clause-held
answer_word-requires-clause-held g c = (subst (λ v. Suits v c.args.core.now c.args.stake.now) c.in-Word.is c.requires).held

pub answer_wait-requires-clause-takes : goal.answer_wait-requires-clause-takes
answer_wait-requires-clause-takes g c = (subst (λ v. Suits v c.args.core.now c.args.stake.now) c.in-WaitEnded.is c.requires).asked

pub answer_wait-requires-clause-held : goal.answer_wait-requires-clause-held
answer_wait-requires-clause-held g c = (subst (λ v. Suits v c.args.core.now c.args.stake.now) c.in-WaitEnded.is c.requires).held

pub answer_done-requires-clause-takes : goal.answer_done-requires-clause-takes
answer_done-requires-clause-takes g c = (subst (λ v. Suits v c.args.core.now c.args.stake.now) c.in-Done.is c.requires).asked

pub answer_done-requires-clause-held : goal.answer_done-requires-clause-held
answer_done-requires-clause-held g c = (subst (λ v. Suits v c.args.core.now c.args.stake.now) c.in-Done.is c.requires).held

pub skip-requires-clause-message : goal.skip-requires-clause-message
skip-requires-clause-message g c = (subst (λ v. Suits v c.args.core.now c.args.stake.now) c.in-Skip.is c.requires).asked

pub skip-requires-clause-held : goal.skip-requires-clause-held
skip-requires-clause-held g c = (subst (λ v. Suits v c.args.core.now c.args.stake.now) c.in-Skip.is c.requires).held

pub returns-in-Wait-clause-ok : goal.returns-in-Wait-clause-ok
returns-in-Wait-clause-ok g c = (subst (λ v. Suits v c.args.core.now c.args.stake.now) c.in-Wait.is c.requires)

pub returns-in-End-clause-ok : goal.returns-in-End-clause-ok
returns-in-End-clause-ok g c = (subst (λ v. Suits v c.args.core.now c.args.stake.now) c.in-End.is c.requires)
