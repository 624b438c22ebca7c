use Rattle.std.proofs.Common.{OnOk, subst, sym}
use Rattle.std.proofs.lemmas.Result.{on_ok_weaker}
use Rattle.es_event.specs.Reading.{names_of}
use Rattle.es_warnings.specs.Known.{Notes}
use Rattle.es_warnings.specs.Mentions.{read_all}
use Rattle.es_warnings.proofs.variables.Variables.note_reads.Goals as goal

pub returns-in_ok-note-in-Two : goal.returns-in_ok-note-in-Two
returns-in_ok-note-in-Two c =
    subst (λ n. OnOk c.note-in-Two-2.result (Notes c.args.self.now c.note-in-Two-2.new.self (read_all c.args.place (names_of n)))) (sym c.in-Two.is)
    (on_ok_weaker c.note-in-Two-2.result (λ second past knows. second _ (c.in_ok-note-in-Two.ensures past knows)) c.note-in-Two-2.ensures)

pub returns-in_ok-note-in-Three-2 : goal.returns-in_ok-note-in-Three-2
returns-in_ok-note-in-Three-2 c =
    subst (λ n. OnOk c.note-in-Three-3.result (Notes c.args.self.now c.note-in-Three-3.new.self (read_all c.args.place (names_of n)))) (sym c.in-Three.is)
    (on_ok_weaker c.note-in-Three-3.result (λ third past knows. third _ (c.in_ok-note-in-Three-2.ensures _ (c.in_ok-note-in-Three.ensures past knows))) c.note-in-Three-3.ensures)

pub returns-in_ok-note-in-Four-3 : goal.returns-in_ok-note-in-Four-3
returns-in_ok-note-in-Four-3 c =
    subst (λ n. OnOk c.note-in-Four-4.result (Notes c.args.self.now c.note-in-Four-4.new.self (read_all c.args.place (names_of n)))) (sym c.in-Four.is)
    (on_ok_weaker c.note-in-Four-4.result (λ fourth past knows. fourth _ (c.in_ok-note-in-Four-3.ensures _ (c.in_ok-note-in-Four-2.ensures _ (c.in_ok-note-in-Four.ensures past knows)))) c.note-in-Four-4.ensures)
