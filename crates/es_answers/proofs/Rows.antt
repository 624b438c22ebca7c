-- Where an event has a line in the report, the answer in its row is that line.
use Rattle.std.proofs.Common.{◌≡◌, refl, []}
use Rattle.es_event.specs.declared.command.Command.TheVariants.{Say, Keys}
use Rattle.es_event.specs.declared.event.Answer.TheVariants.{Nothing, Gives, Listed}
use Rattle.es_event.specs.declared.event.Event.{Event}
use Rattle.es_event.specs.declared.event.Event.TheVariants.{JobBegun, CleanupBegun, Received, Did, Refused, Emptied, Taken, JobEnded, Skipped, Closed}
use Rattle.es_event.specs.Report.{line}
use Rattle.es_trace.specs.Events.{answer_text}

pub answer_is_line : (e : Event) → (line e ≡ [] → ⊥) → answer_text e ≡ line e
answer_is_line (JobBegun j) has = absurd (has refl)
answer_is_line (CleanupBegun q) has = absurd (has refl)
answer_is_line (Received t v) has = absurd (has refl)
answer_is_line (Did (Say y, vs, r)) has = refl
answer_is_line (Did (Keys o, vs, Listed ks)) has = refl
answer_is_line (Did (Keys o, vs, Nothing)) has = absurd (has refl)
answer_is_line (Did (Keys o, vs, Gives v)) has = absurd (has refl)
answer_is_line (Did (_, vs, r)) has = absurd (has refl)
answer_is_line (Refused code) has = refl
answer_is_line (Emptied ids) has = refl
answer_is_line (Taken n held) has = refl
answer_is_line JobEnded has = absurd (has refl)
answer_is_line (Skipped j t) has = refl
answer_is_line Closed has = absurd (has refl)
