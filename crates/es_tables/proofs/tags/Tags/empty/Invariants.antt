use Rattle.std.proofs.Common.{◌≡◌, ◌<◌, ℕ, None, if◌then◌else◌, length, take}
use Rattle.es_event.specs.Identities.{is_in}
use Rattle.es_tables.specs.Tags.{tag_at}
use Rattle.es_tables.proofs.tags.Tags.empty.Given as goal

abbrev pub invariant-loop-id : goal.invariant-loop-id
invariant-loop-id l = record {
  emptied : (i : ℕ) → 0 < i → tag_at l.self-inside.all.items i ≡ (if is_in (take l.id-index l.ids) i then None else tag_at l.initial.self-inside.all.items i);
  made : length l.self-inside.all.items ≡ length l.initial.self-inside.all.items;
}
