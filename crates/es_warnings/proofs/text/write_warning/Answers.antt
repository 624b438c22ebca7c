use Rattle.std.proofs.Common.{codes, ◌++◌}
use Rattle.std.proofs.KnownBytes.{Appends-trans}
use Rattle.std.proofs.lemmas.Result.{on_ok_weaker}
use Rattle.es_warnings.specs.Texts.{pointer_text, sentence_text}
use Rattle.es_warnings.proofs.text.write_warning.Goals as goal

pub returns : goal.returns
returns g c =
    let w = c.args.warning.now in
    let place = Appends-trans _ _ _ (codes "warning \"") (pointer_text c.args.plan.now w.agent w.place) c.in_ok-write_all.ensures.bytes c.in_ok-write_pointer.ensures in
    let quoted = Appends-trans _ _ _ (codes "warning \"" ++ pointer_text c.args.plan.now w.agent w.place) (codes "\" ") place c.in_ok-write_all-2.ensures.bytes in
    let said = Appends-trans _ _ _ (codes "warning \"" ++ pointer_text c.args.plan.now w.agent w.place ++ codes "\" ") (sentence_text w.cause w.name) quoted c.in_ok-write_sentence.ensures in
    on_ok_weaker c.write_all-3.result (Appends-trans _ _ _ (codes "warning \"" ++ pointer_text c.args.plan.now w.agent w.place ++ codes "\" " ++ sentence_text w.cause w.name) (codes "\n") said) c.write_all-3.ensures.bytes
