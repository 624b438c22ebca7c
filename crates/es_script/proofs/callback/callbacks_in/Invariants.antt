use Rattle.std.proofs.Common.{length}
use Rattle.es_reading.specs.Reading.{said}
use Rattle.es_script.proofs.TakingCallbacks.{AreSoFar}
use Rattle.es_script.proofs.callback.callbacks_in.Given as goal

-- the callbacks so far, by their keys' bytes
abbrev pub invariant-callbacks : goal.invariant-callbacks
invariant-callbacks l = AreSoFar (λ k. k.now) (said l.scope) l.agent l.fn.reader l.reader l.callbacks.entries

abbrev pub decreases-callbacks : goal.decreases-callbacks
decreases-callbacks l = length l.reader
