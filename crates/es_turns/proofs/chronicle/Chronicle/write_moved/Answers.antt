use Rattle.std.proofs.Common.{sym, refl, subst, Some}
use Rattle.es_cluster.specs.Turns.{Takes}
use Rattle.es_cluster.specs.Turned.{GrowsByOne}
use Rattle.es_trace.specs.Keeping.{Keeps}
use Rattle.es_turns.specs.Known.{Grows, HaveScribes}
use Rattle.es_turns.specs.Told.{IsMoveTold, IsNewestTold}
use Rattle.es_turns.proofs.Scribing.{grows_by_none, have_index, have_set, on_ok, still_have}
use Rattle.es_turns.proofs.chronicle.Chronicle.write_moved.Goals as goal

pub returns-in-Moved-clause-scribes : goal.returns-in-Moved-clause-scribes
returns-in-Moved-clause-scribes g c =
    let names = c.args.self.now.names.items in
    on_ok c.tell_newest.result _ _ (λ keeps bs b is have takes.
    (let here = subst (λ s. Keeps names b.plan b.history s) (sym c.index_mut.ensures.value) (have_index names bs c.args.self.now.scribes.items c.args.number b _ have is) in
    let step : GrowsByOne b c.args.agent.now = subst (λ p. Takes p b c.args.agent.now) c.in-Moved.is takes in
    have_set names bs c.args.self.now.scribes.items c.args.number c.args.agent.now c.tell_newest.new.scribe have (keeps b here step)))
    (rw c.as_slice.ensures.value at c.tell_newest.ensures.keeps)

pub returns-in-Moved-clause-text : goal.returns-in-Moved-clause-text
returns-in-Moved-clause-text g c =
    let names = c.args.self.now.names.items in
    let said = c.as_slice.result.now in
    on_ok c.tell_newest.result _ _ (λ told bs b is have takes.
    (let all = subst (λ ns. HaveScribes ns bs c.args.self.now.scribes.items) (sym c.as_slice.ensures.value) have in
    let here = subst (λ s. Keeps said b.plan b.history s) (sym c.index_mut.ensures.value) (have_index said bs c.args.self.now.scribes.items c.args.number b _ all is) in
    let step : GrowsByOne b c.args.agent.now = subst (λ p. Takes p b c.args.agent.now) c.in-Moved.is takes in
    let grew = subst (λ ns. Grows c.args.self.now.text.items c.tell_newest.new.text.items (IsNewestTold c.args.self.now.view ns c.args.agent.now c.args.agent.now.history)) c.as_slice.ensures.value (told b here step) in
    subst (λ p. Grows c.args.self.now.text.items c.tell_newest.new.text.items (IsMoveTold c.args.self.now.view names p (Some c.args.agent.now))) (sym c.in-Moved.is) grew))
    c.tell_newest.ensures.text

pub returns-in-Waiting : goal.returns-in-Waiting
returns-in-Waiting g c =
    let names = c.args.self.now.names.items in
    record {
      same = (refl, refl, refl, refl);
      scribes = λ bs b is have takes. still_have names c.args.progress c.args.number bs b c.args.agent.now c.args.self.now.scribes.items c.in-Waiting.is is have takes;
      text = λ bs b is have takes. grows_by_none c.args.self.now.view names c.args.progress c.args.agent.now c.args.self.now.text.items c.in-Waiting.is;
    }
