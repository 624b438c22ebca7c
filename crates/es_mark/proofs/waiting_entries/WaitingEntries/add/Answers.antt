use Rattle.std.proofs.Common.{◌∷◌, ◌++◌, [], ◌∙◌, ap, sym, is_some}
use Rattle.std.proofs.lemmas.Result.{on_ok_weaker}
use Rattle.es_mark.proofs.EntryQueues.{waits_set, found_none, found_some}
use Rattle.es_mark.proofs.waiting_entries.WaitingEntries.add.Goals as goal

pub start-requires : goal.start-requires
start-requires c = rw c.get_mut.follows.holds-at-none (sym (found_none c.self.inside.lists.entries c.args.map c.in_default.ensures.value))

pub returns : goal.returns
returns c =
    let had = c.in-Some.ensures.value in
    let written = (c.get_mut.follows.holds c.put.new.list).3 (ap is_some (sym had)) in
    rw (← c.self.view_is)
    (on_ok_weaker c.put.result (λ pushed. waits_set _ _ _ (c.args.key, c.args.value) c.put.new.list (pushed ∙ ap (λ l. l ++ (c.args.key, c.args.value) ∷ []) (found_some c.self.inside.lists.entries c.args.map _ had)) written.0) c.put.ensures)
