use Rattle.std.proofs.Common.{OnOk, subst, sym}
use Rattle.std.specs.Io.KnownBytes.{Appends}
use Rattle.es_warnings.specs.Texts.{sentence_text}
use Rattle.es_warnings.proofs.text.write_sentence.Goals as goal

pub returns-in-Unread : goal.returns-in-Unread
returns-in-Unread g c =
    subst (λ k. OnOk c.write-in-Unread.result (Appends (g.W.Write.contents c.args.writer.now) (g.W.Write.contents c.write-in-Unread.new.self) (sentence_text k c.args.name.now))) (sym c.in-Unread.is)
    (rw c.as_str-name.ensures.same at c.write-in-Unread.ensures.bytes)

pub returns-in-HeldTarget : goal.returns-in-HeldTarget
returns-in-HeldTarget g c =
    subst (λ k. OnOk c.write-in-HeldTarget.result (Appends (g.W.Write.contents c.args.writer.now) (g.W.Write.contents c.write-in-HeldTarget.new.self) (sentence_text k c.args.name.now))) (sym c.in-HeldTarget.is)
    (rw c.as_str-name.ensures.same at c.write-in-HeldTarget.ensures.bytes)
