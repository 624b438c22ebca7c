use Rattle.std.proofs.Common.{◌∙◌, sym, ap}
use Rattle.std.specs.Option.{option_and_then}
use Rattle.std.proofs.lemmas.Result.{on_ok_weaker}
use Rattle.es_event.specs.Registrations.{callback}
use Rattle.es_trace.proofs.scribe.Scribe.follow.Goals as goal

pub returns : goal.returns
returns c = on_ok_weaker c.note.result (λ tells names h keeps. record {
  name = keeps.name;
  place = c.after-self.ensures h keeps.place (c.of-callback.ensures h keeps.told ∙ ap (option_and_then (callback h)) (c.registry.ensures ∙ sym keeps.place.cleaning));
  told = tells h keeps.told;
}) c.note.ensures
