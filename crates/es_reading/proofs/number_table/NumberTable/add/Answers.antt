use Rattle.std.proofs.Common.{Some, cond, bytes_eq, string_bytes, sym, ap, ◌∙◌}
use Rattle.std.specs.HashMap.{get_by_text}
use Rattle.std.proofs.lemmas.Map.Text.{hash_map_updates_text}
use Rattle.es_reading.specs.Reading.{numbered}
use Rattle.es_reading.proofs.Numbered.{kept, added}
use Rattle.es_reading.proofs.number_table.NumberTable.add.Goals as goal

pub returns-then-contains_key : goal.returns-then-contains_key
unfolding numbered
returns-then-contains_key c n =
    kept (numbered c.args.self.now) c.args.name.now n c.args.number (sym c.contains_key.ensures ∙ c.if-contains_key.true)

pub returns : goal.returns
unfolding numbered
returns c n =
    let old = c.args.self.now.by_name in
    hash_map_updates_text (string_bytes c.in_ok-key.key) old c.insert.new.self (Some c.args.number) c.in_ok-insert.ensures.updates n
    ∙ ap (λ bs. cond (bytes_eq bs n) (Some c.args.number) (get_by_text old n)) c.in_ok-key.ensures.ok
    ∙ added (numbered c.args.self.now) c.args.name.now n c.args.number (sym c.contains_key.ensures ∙ c.if-contains_key.false)
