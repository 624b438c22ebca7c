use Rattle.std.proofs.Common.{◌∙◌, ◌+◌, ◌++◌, ◌∷◌, [], refl, ap, length}
use Rattle.es_ledger.specs.declared.message.Letter.TheVariants.{Plain}
use Rattle.es_ledger.proofs.Tying.{reserved_room}
use Rattle.es_ledger.proofs.Sending.{posted_plain_ties}
use Rattle.es_ledger.proofs.ledger.LedgerCore.post.Goals as goal

pub invariant_of-self-2 : goal.invariant_of-self-2
invariant_of-self-2 g c =
    let known = rw (← c.self.view_is) at c.requires.known in
    let kept = c.in_ok-reserve.ensures in
    let room = reserved_room _ _ _ _ _ c.make_room.new.history.room c.append.new.self.room 2 c.self.invariant
    refl (ap (λ xs. length xs) c.as_slice-agents.ensures.value) (rw kept.messages at c.in_ok-make_room.ensures.room) c.append.ensures.room in
    rw (c.append.ensures.events, c.in_ok-copy.ensures, c.in_ok-make_room.ensures.same)
    (posted_plain_ties _ c.self.inside.history.events _ _ _ _ c.args.sender c.args.receiver c.args.value c.self.invariant known.0 known.1 c.requires.other
    (c.push.ensures.size ∙ kept.size)
    (c.push.ensures.here ∙ ap (λ q. q ++ Plain c.args.value ∷ []) (kept.same c.args.sender c.args.receiver))
    (λ s r column apart. c.push.ensures.others s r column apart ∙ kept.same s r)
    (c.push.ensures.messages ∙ ap (λ m. m + 1) kept.messages) room c.requires.plain)
