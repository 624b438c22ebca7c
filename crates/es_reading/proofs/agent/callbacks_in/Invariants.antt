use Rattle.std.proofs.Common.{◌≡◌, ◌+◌, vec_len}
use Rattle.serde_json.specs.View.{members_view}
use Rattle.es_reading.specs.Reading.{said, callbacks_read, after}
use Rattle.es_reading.proofs.agent.callbacks_in.Given as goal

abbrev pub invariant-loop-name : goal.invariant-loop-name
invariant-loop-name l =
    callbacks_read (said l.scope) l.agent 1 (members_view l.members.entries) ≡ after l.callbacks.items (callbacks_read (said l.scope) l.agent (vec_len l.callbacks + 1) (members_view l.name-iterator))
