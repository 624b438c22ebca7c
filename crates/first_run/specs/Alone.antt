-- To believe: what a run without threads is asked for.
use Rattle.std.specs.Prelude.{false, true}
use Rattle.es_options.specs.declared.options.Options.{Options}

abbrev pub by_turns : Options
by_turns = record { check = false; turns = true; helpers = 1; watch = 0 }
