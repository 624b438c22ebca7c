use Rattle.std.proofs.Common.{◌<◌, ◌≤◌, ◌∙◌, sym, ap, subst, arith, length, reverse, ◌++◌}
use Rattle.std.proofs.lemmas.List.{length-reverse}
use Rattle.es_turns.specs.Known.{Says, so_far}
use Rattle.es_turns.proofs.Growing.{countable, rest_all, rest_on}
use Rattle.es_turns.proofs.Scribing.{always_ok}
use Rattle.es_turns.proofs.chronicle.Chronicle.write_added.Goals as goal

pub note-requires : goal.note-requires
note-requires g c =
    let events = c.ledger-events.result.now in
    let l = c.args.cluster.now.ledger.history in
    let n = c.args.self.now.written in
    let is = c.ledger-events.ensures.events in
    let all = sym (length-reverse events) ∙ ap length is in
    let written = c.requires.written in
    let number = c.count_of-count.ensures in
    let within : n ≤ length events = omega (arith, all, written) in
    let room : length events < 18446744073709551616 = omega (arith, number.value, number.small) in
    rw (rest_all n events) (countable l n 18446744073709551616 events c.args.self.now.blocks is within room c.requires.blocks)

pub released-requires : goal.released-requires
released-requires g c =
    let events = c.ledger-events.result.now in
    let l = c.args.cluster.now.ledger.history in
    let n = c.args.self.now.written in
    subst (λ l. Says l c.note.new.self) (ap (λ es. reverse es ++ so_far n l) (rest_all n events) ∙ rest_on n l events c.ledger-events.ensures.events) (c.in_ok-note.ensures (so_far n l) c.requires.blocks)

pub returns-clause-blocks : goal.returns-clause-blocks
returns-clause-blocks g c =
    let events = c.ledger-events.result.now in
    let l = c.args.cluster.now.ledger.history in
    let n = c.args.self.now.written in
    always_ok c.tell_events.result _ (subst (λ l. Says l c.note.new.self) (ap (λ es. reverse es ++ so_far n l) (rest_all n events) ∙ rest_on n l events c.ledger-events.ensures.events) (c.in_ok-note.ensures (so_far n l) c.requires.blocks))
