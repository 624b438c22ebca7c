use Rattle.std.proofs.Common.{◌∷◌, ◌++◌, [], ◌∙◌, ap, sym}
use Rattle.es_mark.proofs.EntryQueues.{waits_set}
use Rattle.es_mark.proofs.waiting_entries.WaitingEntries.start.Goals as goal

pub returns : goal.returns
returns c =
    let none = rw (← c.self.view_is) at c.requires in
    rw (← c.self.view_is)
    (waits_set _ _ _ (c.args.key, c.args.value) c.put.new.list (c.in_ok-put.ensures ∙ ap (λ l. l ++ (c.args.key, c.args.value) ∷ []) (c.new-list.ensures.items ∙ sym none)) c.in_ok-insert.ensures.updates.0)
