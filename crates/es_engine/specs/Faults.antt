-- To believe: the fault of a run whose plan was not read, or whose threads did not end well.
use Rattle.es_reading.specs.declared.fault.ReadFault.{ReadFault}
use Rattle.es_reading.specs.declared.fault.ReadFault.TheVariants.{Script as ReadScript, NoMemory as ReadNoMemory}
use Rattle.es_outcome.specs.declared.stop.RunStop.{RunStop}
use Rattle.es_outcome.specs.declared.stop.RunStop.TheVariants.{NoMemory as StopNoMemory, Mismatch as StopMismatch}
use Rattle.es_engine.specs.declared.run_fault.RunFault.{RunFault}
use Rattle.es_engine.specs.declared.run_fault.RunFault.TheVariants.{Script, NoMemory, Mismatch}

abbrev pub run_fault : ReadFault → RunFault
run_fault (ReadScript f) = Script f
run_fault ReadNoMemory = NoMemory

abbrev pub stop_fault : RunStop → RunFault
stop_fault StopNoMemory = NoMemory
stop_fault StopMismatch = Mismatch
