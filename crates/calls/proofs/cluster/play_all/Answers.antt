use Rattle.std.proofs.Common.{◌∙◌, ap}
use Rattle.std.specs.List.{list_all}
use Rattle.es_event.specs.Jobs.{callbacks_collect_nothing}
use Rattle.calls.proofs.cluster.play_all.Goals as goal

pub run_turns-requires : goal.run_turns-requires
run_turns-requires g c = ap (list_all callbacks_collect_nothing) c.loop-digit.invariant.plans ∙ c.requires
