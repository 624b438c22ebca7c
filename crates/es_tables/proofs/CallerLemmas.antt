-- What a caller cites: that the tables say what a history says, at first, after growths, and after each event.
use Rattle.std.proofs.Common.{ℕ, ap, ◌∙◌, length, reverse, List, ◌∷◌}
use Rattle.std.specs.Prelude.{is_some}
use Rattle.es_event.specs.declared.event.Event.{Event}
use Rattle.es_event.specs.Sharing.{Buffers}
use Rattle.es_event.specs.Legal.{Lawful, LegalBy}
use Rattle.es_event.specs.History.{History}
use Rattle.es_event.specs.Jobs.{Receivers}
use Rattle.es_event.proofs.Alive.{Stays}
use Rattle.es_tables.specs.Effects.{Advances, AssignsTo}
use Rattle.es_tables.specs.Registries.{again_at}
use Rattle.es_tables.specs.Tables.{TablesView, SameState, Says}
use Rattle.es_tables.specs.Tags.{tag_at}
pub use Rattle.es_tables.proofs.Applying.{can_apply}
pub use Rattle.es_tables.proofs.Emptied.{says_emptied}
pub use Rattle.es_tables.proofs.Recorded.{says_after}
pub use Rattle.es_tables.proofs.Registering.{IsQuiet}

-- tables that say the same say what a history says
pub says_same : (into : Receivers) (h : History) (s t : TablesView) → SameState s t → Says into h s → Says into h t
says_same into h s t same says = record {
  variables = λ x. same.variables x ∙ says.variables x;
  objects = λ o. same.heap.objects o ∙ says.objects o;
  properties = λ o k here. same.heap.properties o k ∙ says.properties o k here;
  keys = λ o here. same.heap.keys o ∙ says.keys o here;
  targets = λ w here. same.targets w ∙ says.targets w here;
  kept = ap (λ k. reverse k) same.kept ∙ says.kept;
  entries = λ m k. same.entries m k ∙ says.entries m k;
  members = λ m k. ap is_some (same.members m k) ∙ says.members m k;
  callbacks = λ r. same.callbacks r ∙ says.callbacks r;
  cells = same.cells ∙ says.cells;
  queue = same.queue ∙ says.queue;
  tags = λ i positive. ap (λ ts. tag_at ts i) same.tags ∙ says.tags i positive;
  made = ap (λ ts. length ts) same.tags ∙ says.made;
}

-- tables that took in an event say what the history says after it
pub says_advanced : (over : Buffers) (into : Receivers) (h : History) (s t : TablesView) (e : Event)
    → LegalBy over into h → Lawful over into h e → Stays into h → IsQuiet e → Says into h s → (received : List ℕ) → AssignsTo received (into h) e → Advances received (again_at h) e s t → Says into (e ∷ h) t
says_advanced over into h s t e legal lawful stays silent says received to steps =
    says_after over into h steps.before t e legal lawful stays silent (says_same into h s steps.before steps.same says) received to steps.assigned steps.changed
