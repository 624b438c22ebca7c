-- The rows of an event, of what stays and of the ledger that are written.
use Rattle.std.proofs.Common.{◌≡◌, ℕ, ◌∙◌, subst, List, [], ◌∷◌, ◌++◌, Option, append-nil}
use Rattle.std.specs.Prelude.{slice_get}
use Rattle.std.specs.List.{flat_map}
use Rattle.std.specs.Io.KnownBytes.{Appends}
use Rattle.std.proofs.KnownBytes.{Appends-trans}
use Rattle.es_event.specs.declared.command.Command.{Command}
use Rattle.es_event.specs.declared.event.Event.{Event}
use Rattle.es_event.specs.declared.ledger_event.LedgerEvent.{LedgerEvent}
use Rattle.es_event.specs.declared.plan.AgentPlan.{AgentPlan}
use Rattle.es_event.specs.History.{History}
use Rattle.es_event.specs.Report.{line}
use Rattle.es_mark.specs.declared.kept.Kept.{Kept}
use Rattle.es_trace.specs.declared.scribe.Scribe.{Scribe}
use Rattle.es_trace.specs.Columns.{label, widest}
use Rattle.es_trace.specs.Events.{event_rows, rows_after}
use Rattle.es_trace.specs.Keeping.{Keeps}
use Rattle.es_trace.specs.Kept.{kept_rows}
use Rattle.es_trace.specs.Ledger.{ledger_label, ledger_row, ledger_rows, released_row}
use Rattle.es_trace.specs.Places.{commands_in}
use Rattle.es_trace.proofs.Led.{next_command}

-- the report's line of one event
pub alone : (e : Event) → flat_map line (e ∷ []) ≡ line e
alone e = append-nil (line e)

-- what is kept of the agent is what its rows have of it
pub rows_written : (names : List (List ℕ)) (plan : AgentPlan) (h : History) (s : Scribe) (e : Event) (l : List ℕ) (o : Option Command) (a b : Option (List ℕ))
    → Keeps names plan h s → l ≡ s.label.items → o ≡ slice_get (commands_in plan s.place.running) s.place.done
    → Appends a b (event_rows names plan l o e) → Appends a b (rows_after names plan h e)
rows_written names plan h s e l o a b keeps named due written =
    let there = due ∙ next_command plan h s.place keeps.place in
    subst (λ o. Appends a b (event_rows names plan (label (widest 1 names) plan.name) o e)) there (subst (λ l. Appends a b (event_rows names plan l o e)) (named ∙ keeps.name) written)

-- what stays
pub kept_written : (names : List (List ℕ)) (plan : AgentPlan) (h : History) (s : Scribe) (ks : List Kept) (l : List ℕ) (a b : Option (List ℕ))
    → Keeps names plan h s → l ≡ s.label.items → Appends a b (kept_rows l ks) → Appends a b (kept_rows (label (widest 1 names) plan.name) ks)
kept_written names plan h s ks l a b keeps named written = subst (λ l. Appends a b (kept_rows l ks)) (named ∙ keeps.name) written

-- the ledger's events, and then the blocks
pub ledger_written : (names : List (List ℕ)) (l : List ℕ) (es : List LedgerEvent) (bs : List ℕ) (a b c : Option (List ℕ)) → l ≡ ledger_label names
    → Appends a b (flat_map (ledger_row names l) es) → Appends b c (flat_map (released_row l) bs) → Appends a c (ledger_rows names es bs)
ledger_written names l es bs a b c named first last =
    let written = Appends-trans a b c (flat_map (ledger_row names l) es) (flat_map (released_row l) bs) first last in
    subst (λ l. Appends a c (flat_map (ledger_row names l) es ++ flat_map (released_row l) bs)) named written
