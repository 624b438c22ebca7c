-- To believe: the fault of bytes that were not read as a plan.
use Rattle.es_reading.specs.declared.fault.ReadFault.{ReadFault}
use Rattle.es_reading.specs.declared.fault.ReadFault.TheVariants.{Script as ReadScript, NoMemory as ReadNoMemory}
use Rattle.es_turns.specs.declared.fault.TurnsFault.{TurnsFault}
use Rattle.es_turns.specs.declared.fault.TurnsFault.TheVariants.{Script, NoMemory}

abbrev pub turns_fault : ReadFault → TurnsFault
turns_fault (ReadScript f) = Script f
turns_fault ReadNoMemory = NoMemory
