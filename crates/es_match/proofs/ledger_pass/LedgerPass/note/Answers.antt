use Rattle.es_match.proofs.Noted.{noted}
use Rattle.es_match.proofs.ledger_pass.LedgerPass.note.Goals as goal

pub returns : goal.returns
returns c = λ l says. noted l _ _ _ _ _ says (c.taken-taken.ensures l says) (c.posted-posted.ensures l says)
    c.in_ok-note.ensures c.in_ok-note_size.ensures c.in_ok-note-2.ensures c.in_ok-note_wait.ensures c.in_ok-note_sleep.ensures c.drained_after-self.ensures
