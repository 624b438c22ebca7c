use Rattle.es_props.proofs.CallerLemmas.{property-set, keys-set, property-delete, keys-delete}
use Rattle.es_tables.proofs.changes.write.Goals as goal

pub returns-in-Some-clause-properties : goal.returns-in-Some-clause-properties
returns-in-Some-clause-properties c = rw c.in-Some.is (property-set _ _ _ _ _ c.requires.there c.set.ensures.set)

pub returns-in-Some-clause-keys : goal.returns-in-Some-clause-keys
returns-in-Some-clause-keys c = rw c.in-Some.is (keys-set _ _ _ _ _ c.requires.there c.set.ensures.set)

pub returns-in-None-clause-properties : goal.returns-in-None-clause-properties
returns-in-None-clause-properties c = rw c.in-None.is (property-delete _ _ _ _ c.delete.ensures.after)

pub returns-in-None-clause-keys : goal.returns-in-None-clause-keys
returns-in-None-clause-keys c = rw c.in-None.is (keys-delete _ _ _ _ c.delete.ensures.after)
