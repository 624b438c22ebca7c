use Rattle.std.proofs.Common.{◌≡◌, true, sym, ◌∙◌, subst}
use Rattle.std.specs.Prelude.{is_some}
use Rattle.std.proofs.lemmas.Result.{IfOk-weaker}
use Rattle.es_event.specs.Later.{snapshot}
use Rattle.es_record.specs.Graph.{AreLateMarks}
use Rattle.es_cluster.proofs.AskedMarks.{asked_late_marks}
use Rattle.es_run.proofs.helpers.Helpers.marks.Goals as goal

pub returns-then-is_open : goal.returns-then-is_open
returns-then-is_open g c =
    let view = c.args.member.now.core in
    let there = subst (λ b. is_some (snapshot b.history) ≡ true) (c.record.ensures ∙ c.core.ensures) (sym c.is_open.ensures ∙ c.if-is_open.true) in
    IfOk-weaker c.finished.result _ _ (λ m late. asked_late_marks view c.requires there m (subst (λ b. AreLateMarks b m) c.core-then-is_open.ensures late)) c.finished.ensures
