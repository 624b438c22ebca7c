use Rattle.calls.proofs.asking.hear.Goals as goal

pub returns-in-Skip-clause-ok : goal.returns-in-Skip-clause-ok
returns-in-Skip-clause-ok g c = record { asked = (c.args.sender, c.requires.due); held = c.requires.held }
