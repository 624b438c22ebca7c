use Rattle.std.proofs.Common.{◌≡◌, true, false, sym, ◌∙◌, subst}
use Rattle.std.specs.Prelude.{is_some}
use Rattle.es_event.specs.Later.{snapshot}
use Rattle.es_cluster.proofs.AskedMarks.{are_marks, are_late_marks}
use Rattle.es_cluster.proofs.beside.take_out.Goals as goal

pub finish_later-requires-clause-marks : goal.finish_later-requires-clause-marks
finish_later-requires-clause-marks g c =
    are_late_marks c.args.core.now c.args.marks.now c.requires (subst (λ b. is_some (snapshot b.history) ≡ true) c.record.ensures (sym c.is_open.ensures ∙ c.if-is_open.true))

pub collect-requires-clause-marks : goal.collect-requires-clause-marks
collect-requires-clause-marks g c =
    are_marks c.args.core.now c.args.marks.now c.requires (subst (λ b. is_some (snapshot b.history) ≡ false) c.record.ensures (sym c.is_open.ensures ∙ c.if-is_open.false))
