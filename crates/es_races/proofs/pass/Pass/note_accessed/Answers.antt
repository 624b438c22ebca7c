use Rattle.std.proofs.Common.{sym, ◌∙◌, ap}
use Rattle.std.specs.Option.{option_and_then}
use Rattle.std.proofs.lemmas.Result.{IfOk-weaker}
use Rattle.es_event.specs.Rows.{line_of}
use Rattle.es_event.specs.Ledger.{table}
use Rattle.es_races.specs.Pass.{held_with}
use Rattle.es_races.proofs.Holding.{held_as, held_none}
use Rattle.es_races.proofs.Noting.{unheld_says}
use Rattle.es_races.proofs.pass.Pass.note_accessed.Goals as goal

pub returns : goal.returns
returns c = IfOk-weaker c.access.result _ _ (λ found accesses old l stands.
    let held = held_as (line_of c.args.serial (table l)) c.in-Some.agent c.in-Some.block (ap (option_and_then held_with) (sym (stands.says.tickets c.args.serial)) ∙ sym c.holder.ensures ∙ c.in-Some.is) in
    accesses l c.args.serial old c.args.change.now held.0 stands held.1.0 held.1.1 (c.is_write.ensures old)) c.access.ensures

pub returns-in_default : goal.returns-in_default
returns-in_default c = λ old l stands.
    unheld_says l c.args.serial c.args.index old c.args.change.now c.args.self.now stands
    (held_none (line_of c.args.serial (table l)) (ap (option_and_then held_with) (sym (stands.says.tickets c.args.serial)) ∙ sym c.holder.ensures ∙ c.in_default.is))
