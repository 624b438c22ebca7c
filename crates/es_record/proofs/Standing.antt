-- What is due where an agent stands between two jobs, and at its closing.
use Rattle.std.proofs.Common.{◌≡◌, ℕ, ◌+◌, ◌&&◌, not, nat_lt, nat_le, sym, ◌∙◌, ap, refl, subst, arith, ◌∷◌, Some, None, if◌then◌else◌}
use Rattle.es_event.specs.declared.event.Event.TheVariants.{Closed}
use Rattle.es_event.specs.declared.plan.AgentPlan.{AgentPlan}
use Rattle.es_event.specs.History.{History}
use Rattle.es_event.specs.Identities.{made, is_gone, kind}
use Rattle.es_event.specs.Jobs.{Receivers, receivers}
use Rattle.es_event.specs.Order.{close, due, queue}
use Rattle.es_event.specs.Sharing.{Buffers}
use Rattle.es_event.specs.Follows.{Permits}
use Rattle.es_event.proofs.Alive.{there_after}
use Rattle.es_event.proofs.Coming.{comes}
use Rattle.es_tables.proofs.Slots.{slots_same}
use Rattle.es_event.proofs.Steps.{after_closed}
use Rattle.es_event.specs.declared.cursor.Cursor.{Cursor}
use Rattle.es_event.specs.declared.cursor.Position.TheVariants.{Ended as EndPosition}
use Rattle.es_tables.specs.Tags.{tag_of, tag_said}
use Rattle.es_tables.specs.Tables.{TablesView, Says}
use Rattle.es_record.specs.Ties.{RecordTies}

-- the closing leaves the tables as they are

under_closed : (h : History) (i : ℕ) → tag_said h i ≡ tag_said (Closed ∷ h) i
under_closed h i =
    let count : made h ≡ 0 + made h = omega arith in
    ap (λ m. if (nat_lt 0 i && nat_le i m) && not (is_gone h i) then Some (tag_of (kind h i)) else None) count

pub says_closed : (into : Receivers) (h : History) (s : TablesView) → Says into h s → Says into (Closed ∷ h) s
says_closed into h s says = record {
  variables = says.variables;
  properties = says.properties;
  keys = says.keys;
  objects = says.objects;
  targets = says.targets;
  kept = says.kept;
  entries = says.entries;
  members = says.members;
  callbacks = says.callbacks;
  cells = says.cells ∙ slots_same Closed h refl refl (λ n. refl);
  queue = says.queue;
  tags = λ i positive. says.tags i positive ∙ under_closed h i;
  made = omega (arith, says.made);
}

pub ties_closed : (over : Buffers) (plan : AgentPlan) (h : History) (s : TablesView) (c : Cursor) → RecordTies over plan h s c → due plan h ≡ close → RecordTies over plan (Closed ∷ h) s (record { job = c.job; position = EndPosition })
ties_closed over plan h s c ties is = record {
  legal = (tt, ties.legal);
  follows = (subst (λ d. Permits over (receivers plan.jobs) h d Closed) (sym is) tt, ties.follows);
  there = there_after over plan (Closed ∷ h) (tt, ties.legal) (subst (λ d. Permits over (receivers plan.jobs) h d Closed) (sym is) tt, ties.follows);
  honest = ties.honest;
  says = says_closed (receivers plan.jobs) h s ties.says;
  stands = after_closed over (receivers plan.jobs) plan h c (comes over plan h Closed (subst (λ d. Permits over (receivers plan.jobs) h d Closed) (sym is) tt)) ties.stands;
}
