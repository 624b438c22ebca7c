-- One more event keeps what holds of an agent.
use Rattle.std.proofs.Common.{◌≡◌, ℕ, ◌+◌, ◌≤◌, true, false, refl, sym, ◌∙◌, ap, subst, arith, List, [], ◌∷◌, length, Option, Some, None}
use Rattle.std.specs.Prelude.{is_some}
use Rattle.std.specs.Option.{option_map_or, option_and_then}
use Rattle.es_value.specs.Limits.{most_identities}
use Rattle.es_value.specs.declared.value.Value.{Value}
use Rattle.es_event.specs.declared.event.Event.{Event}
use Rattle.es_event.specs.declared.event.Event.TheVariants.{Received, Emptied}
use Rattle.es_event.specs.declared.row.Row.{Row}
use Rattle.es_event.specs.declared.plan.AgentPlan.{AgentPlan}
use Rattle.es_event.specs.History.{History}
use Rattle.es_event.specs.Jobs.{Receivers, receivers, on_of, job}
use Rattle.es_event.specs.Identities.{gone, has_identity_in, made}
use Rattle.es_event.specs.Sharing.{Buffers}
use Rattle.es_event.specs.Order.{Phase, phase}
use Rattle.es_event.proofs.Alive.{Alive, stays_along, there_after, honest_along}
use Rattle.es_event.proofs.Coming.{Comes, receives, comes}
use Rattle.es_event.proofs.Extending.{agrees_longer, still_legal, still_follows}
use Rattle.es_event.proofs.Small.{made_small}
use Rattle.es_event.specs.declared.cursor.Cursor.{Cursor}
use Rattle.es_record.specs.AgentView.{AgentView, IsNext, with_row}
use Rattle.es_event.specs.Cursor.{IsCursorOf}
use Rattle.es_tables.specs.Effects.{AssignsTo, Advances}
use Rattle.es_tables.specs.Changes.{table_change}
use Rattle.es_tables.specs.Ready.{CanApply}
use Rattle.es_tables.specs.Tables.{TablesView, SameState, Emptying, bound}
use Rattle.es_record.specs.Newest.{newest}
use Rattle.es_record.specs.Ties.{RecordTies}
use Rattle.es_tables.proofs.CallerLemmas.{IsQuiet, says_advanced, says_emptied, says_same, can_apply}
use Rattle.es_tables.specs.Registries.{again_at}

pub ties_after : (b : AgentView) (s t : TablesView) (c d : Cursor) (e : Event)
    → RecordTies b.over b.plan b.history s c → IsQuiet e → IsNext b e → (to : List ℕ) → AssignsTo to (receivers b.plan.jobs b.history) e → Advances to (again_at b.history) e s t
    → IsCursorOf b.plan (e ∷ b.history) d → RecordTies b.over b.plan (e ∷ b.history) t d
ties_after b s t c d e ties quiet next to assigns steps stands = record {
  legal = (next.lawful, ties.legal);
  follows = (next.permitted, ties.follows);
  there = there_after b.over b.plan (e ∷ b.history) (next.lawful, ties.legal) (next.permitted, ties.follows);
  honest = honest_along b.over b.plan (e ∷ b.history) (next.lawful, ties.legal) (next.permitted, ties.follows);
  says = says_advanced b.over (receivers b.plan.jobs) b.history s t e ties.legal next.lawful (stays_along b.over b.plan b.history ties.legal ties.follows) quiet ties.says to assigns steps;
  stands = stands;
}

-- where there was no memory
pub ties_same : (over : Buffers) (plan : AgentPlan) (h : History) (s t : TablesView) (c : Cursor) → RecordTies over plan h s c → SameState s t → RecordTies over plan h t c
ties_same over plan h s t c ties same = record {
  legal = ties.legal;
  follows = ties.follows;
  there = ties.there;
  honest = ties.honest;
  says = says_same (receivers plan.jobs) h s t same ties.says;
  stands = ties.stands;
}

pub few : (over : Buffers) (plan : AgentPlan) (h : History) (s : TablesView) (c : Cursor) → RecordTies over plan h s c → length s.tags.all ≤ most_identities
few over plan h s c ties = omega (arith, ties.says.made, made_small over plan h ties.legal ties.follows)

pub can_record : (b : AgentView) (s : TablesView) (c : Cursor) (e : Event) → RecordTies b.over b.plan b.history s c → IsNext b e → CanApply s (table_change (again_at b.history) e)
can_record b s c e ties next =
    can_apply b.over (receivers b.plan.jobs) b.history s e ties.legal next.lawful (stays_along b.over b.plan b.history ties.legal ties.follows) ties.says

pub ties_emptied : (b : AgentView) (s t : TablesView) (c d : Cursor) (ids : List ℕ) → RecordTies b.over b.plan b.history s c → IsNext b (Emptied ids) → Emptying s ids t → IsCursorOf b.plan (Emptied ids ∷ b.history) d
    → RecordTies b.over b.plan (Emptied ids ∷ b.history) t d
ties_emptied b s t c d ids ties next new stands = record {
  legal = (next.lawful, ties.legal);
  follows = (next.permitted, ties.follows);
  there = there_after b.over b.plan (Emptied ids ∷ b.history) (next.lawful, ties.legal) (next.permitted, ties.follows);
  honest = honest_along b.over b.plan (Emptied ids ∷ b.history) (next.lawful, ties.legal) (next.permitted, ties.follows);
  says = says_emptied b.over (receivers b.plan.jobs) b.history s t ids ties.legal ties.says new;
  stands = stands;
}

-- what a variable holds is there
pub held_there : (over : Buffers) (plan : AgentPlan) (h : History) (s : TablesView) (c : Cursor) (x : List ℕ) (v : Value) → RecordTies over plan h s c → v ≡ bound s.variables x → has_identity_in (gone h) v ≡ false
held_there over plan h s c x v ties is = subst (Alive h) (sym (is ∙ ties.says.variables x)) ((stays_along over plan h ties.legal ties.follows).held.variables x)

-- One more buffer object

-- what holds of an agent holds over a table with one more
pub ties_with : (row : Option Row) (b : AgentView) (s : TablesView) (c : Cursor) → RecordTies b.over b.plan b.history s c → RecordTies (with_row row b).over b.plan b.history s c
ties_with None b s c ties = ties
ties_with (Some r) b s c ties = record {
  legal = still_legal b.over ((made b.history + 1, r) ∷ b.over) (receivers b.plan.jobs) b.history (agrees_longer b.history b.over r) ties.legal;
  follows = still_follows b.over ((made b.history + 1, r) ∷ b.over) b.plan b.history (agrees_longer b.history b.over r) ties.legal ties.follows;
  there = ties.there;
  honest = ties.honest;
  says = ties.says;
  stands = ties.stands;
}

-- the newest buffer object was made
pub newest_made : (row : Option Row) (b : AgentView) (e : Event) → newest b.over ≤ made b.history → ((r : Row) → row ≡ Some r → made (e ∷ b.history) ≡ made b.history + 1) → newest (with_row row b).over ≤ made (e ∷ b.history)
newest_made None b e below comes = omega (arith, below)
newest_made (Some r) b e below comes = let one = comes r refl in omega (arith, one)

-- Where the value of a message goes

of_some : (on : Option (ℕ × List ℕ)) (d : List ℕ) → is_some on ≡ true → option_map_or (λ on. on.1) on [] ≡ option_map_or (λ on. on.1) on d
of_some None d e = cc
of_some (Some on) d e = refl

received_to : (over : Buffers) (into : Receivers) (plan : AgentPlan) (h : History) (at : Phase) (t : ℕ) (v : Value) (d : List ℕ) → Comes over into plan h at (Received t v) → receivers plan.jobs h ≡ option_map_or (λ on. on.1) (on_of plan.jobs (job h)) d
received_to over into plan h at t v d (receives j s w b none is on room) = of_some (on_of plan.jobs (job h)) d (ap (λ j. is_some (option_and_then (λ j. j.on) j)) is ∙ on)

pub assigns_to : (b : AgentView) (e : Event) (to d : List ℕ) → IsNext b e → to ≡ option_map_or (λ on. on.1) (on_of b.plan.jobs (job b.history)) d → AssignsTo to (receivers b.plan.jobs b.history) e
assigns_to b (Received t v) to d next is = received_to b.over (receivers b.plan.jobs) b.plan b.history (phase b.history) t v d (comes b.over b.plan b.history (Received t v) next.permitted) ∙ sym is
assigns_to b _ to d next is = tt
