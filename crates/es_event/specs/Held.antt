-- Internal: the values that a command read, as the code keeps them where they do not lie in their event.
use Rattle.std.specs.Prelude.{List, take}
use Rattle.es_value.specs.declared.value.Value.{Value}
use Rattle.es_event.specs.declared.held.Held.{Held}
use Rattle.es_event.specs.declared.held.Held.TheVariants.{Few, More}

abbrev pub values_of : Held → List Value
values_of (Few n vs) = take n vs
values_of (More vs) = vs
