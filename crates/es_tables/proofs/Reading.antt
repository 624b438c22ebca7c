-- What each table has of the change that an event makes is what the definitions read off the event.
use Rattle.std.proofs.Common.{ℕ, ◌≡◌, refl, List, Option, Some, None}
use Rattle.std.specs.Option.{option_map, option_and_then, option_to_list}
use Rattle.es_value.specs.declared.value.Value.{Value}
use Rattle.es_value.specs.declared.value.Value.TheVariants.{Object}
use Rattle.es_event.specs.declared.event.Answer.{Answer}
use Rattle.es_event.specs.declared.event.Answer.TheVariants.{Nothing, Gives, Listed}
use Rattle.es_event.specs.declared.event.Event.{Event}
use Rattle.es_event.specs.declared.event.Event.TheVariants.{Received, Did}
use Rattle.es_event.specs.declared.command.Command.{Command}
use Rattle.es_event.specs.Commands.{first, Kind, shared_buffer}
use Rattle.es_event.specs.Identities.{identity, object_of, object_given}
use Rattle.es_event.specs.Properties.{put, put_by}
use Rattle.es_event.specs.WeakRefs.{ends_job, keeps, keeps_by, identity_given}
use Rattle.es_event.specs.Ephemerons.{entered, entered_by, joined, joined_by}
use Rattle.es_tables.specs.declared.table_change.TableChange.{TableChange}
use Rattle.es_tables.specs.Changes.{table_change, table_change_by, identity_kept, put_of, born_of, pointing, with_option, points_of, entered_of, joined_of, registry_of, kept_of, clears, makes_of}
use Rattle.es_tables.specs.Effects.{object_born, points, points_by}
use Rattle.es_tables.specs.Registries.{change, change_by}
use Rattle.es_tables.specs.Tags.{tag_made, tag_made_at}

put_did : (c : Command) (vs : List Value) (r : Answer) → put_of (table_change_by c vs r) ≡ put_by c vs
put_did (Command.Set o k y) vs r = refl
put_did c vs r = refl

put_read : (again : Option ℕ) (e : Event) → put_of (table_change again e) ≡ put e
put_read again (Did (c, vs, r)) = put_did c vs r
put_read again e = refl

-- the object that is made, of some kind

abbrev kinded : Option Kind → ℕ → Option (ℕ × Option Kind)
kinded k i = option_map (λ k. (i, Some k)) k

of_a_kind : (k : Kind) (o : Option ℕ) → o ≡ option_map (λ b. b.0) (option_and_then (kinded (Some k)) o)
of_a_kind k None = refl
of_a_kind k (Some i) = refl

of_none : (o : Option ℕ) → None ≡ option_map (λ b. b.0) (option_and_then (kinded None) o)
of_none None = refl
of_none (Some i) = refl

abbrev buffer : ℕ → ℕ × Option Kind
buffer i = (i, Some shared_buffer)

received_object : (o : Option ℕ) → o ≡ option_map (λ b. b.0) (option_map buffer o)
received_object None = refl
received_object (Some i) = refl

born_did : (c : Command) (vs : List Value) (r : Answer) → born_of (table_change_by c vs r) ≡ object_born (Did (c, vs, r))
born_did (Command.New to) vs r = of_a_kind _ (object_given r)
born_did (Command.WeakRef to y) vs r = of_a_kind _ (object_given r)
born_did (Command.WeakMap to) vs r = of_a_kind _ (object_given r)
born_did (Command.WeakSet to) vs r = of_a_kind _ (object_given r)
born_did (Command.FinalizationRegistry to n) vs r = of_a_kind _ (object_given r)
born_did (Command.SharedArrayBuffer to n) vs r = of_a_kind _ (object_given r)
born_did c vs r = of_none (object_given r)

born_read : (again : Option ℕ) (e : Event) → born_of (table_change again e) ≡ object_born e
born_read again (Received t v) = received_object (object_of v)
born_read again (Did (c, vs, r)) = born_did c vs r
born_read again e = refl

-- a new WeakRef and its target

paired : (w : ℕ) (t : Option ℕ) → with_option (pointing (Some w) t) ≡ option_map (λ t. (w, Some t)) t
paired w None = refl
paired w (Some t) = refl

aimed : (to y : List ℕ) (vs : List Value) (r : Answer) → with_option (pointing (object_given r) (identity (first vs))) ≡ points_by (Command.WeakRef to y) vs r
aimed to y vs (Gives (Object w)) = paired w (identity (first vs))
aimed to y vs r = refl

points_did : (c : Command) (vs : List Value) (r : Answer) → points_of (table_change_by c vs r) ≡ points_by c vs r
points_did (Command.WeakRef to y) vs r = aimed to y vs r
points_did c vs r = refl

points_read : (again : Option ℕ) (e : Event) → points_of (table_change again e) ≡ points e
points_read again (Did (c, vs, r)) = points_did c vs r
points_read again e = refl

entered_did : (c : Command) (vs : List Value) (r : Answer) → entered_of (table_change_by c vs r) ≡ entered_by c vs
entered_did (Command.WeakMapSet m k y) vs r = refl
entered_did c vs r = refl

entered_read : (again : Option ℕ) (e : Event) → entered_of (table_change again e) ≡ entered e
entered_read again (Did (c, vs, r)) = entered_did c vs r
entered_read again e = refl

joined_did : (c : Command) (vs : List Value) (r : Answer) → joined_of (table_change_by c vs r) ≡ joined_by c vs
joined_did (Command.WeakSetAdd s y) vs r = refl
joined_did c vs r = refl

joined_read : (again : Option ℕ) (e : Event) → joined_of (table_change again e) ≡ joined e
joined_read again (Did (c, vs, r)) = joined_did c vs r
joined_read again e = refl

registry_did : (c : Command) (vs : List Value) (r : Answer) → registry_of (table_change_by c vs r) ≡ change_by c vs r
registry_did (Command.FinalizationRegistry to n) vs r = refl
registry_did c vs r = refl

registry_read : (again : Option ℕ) (e : Event) → registry_of (table_change again e) ≡ change again e
registry_read again (Did (c, vs, r)) = registry_did c vs r
registry_read again e = refl

given_kept : (r : Answer) → option_to_list (identity_kept r) ≡ identity_given r
given_kept Nothing = refl
given_kept (Gives v) = refl
given_kept (Listed ks) = refl

kept_did : (c : Command) (vs : List Value) (r : Answer) → kept_of (table_change_by c vs r) ≡ keeps_by c vs r
kept_did (Command.Deref to w) vs r = given_kept r
kept_did c vs r = refl

kept_read : (again : Option ℕ) (e : Event) → kept_of (table_change again e) ≡ keeps e
kept_read again (Did (c, vs, r)) = kept_did c vs r
kept_read again e = refl

clears_did : (c : Command) (vs : List Value) (r : Answer) → clears (table_change_by c vs r) ≡ ends_job (Did (c, vs, r))
clears_did (Command.New to) vs r = refl
clears_did c vs r = refl

clears_read : (again : Option ℕ) (e : Event) → clears (table_change again e) ≡ ends_job e
clears_read again (Did (c, vs, r)) = clears_did c vs r
clears_read again e = refl

makes_did : (c : Command) (vs : List Value) (r : Answer) → makes_of (table_change_by c vs r) ≡ tag_made c
makes_did (Command.New to) vs r = refl
makes_did c vs r = refl

makes_read : (again : Option ℕ) (e : Event) → makes_of (table_change again e) ≡ tag_made_at e
makes_read again (Did (c, vs, r)) = makes_did c vs r
makes_read again e = refl

-- the change is what the definitions read off the event
pub record IsRead (again : Option ℕ) (e : Event) (c : TableChange) : Type 0 where
  pub put : put_of c ≡ put e
  pub born : born_of c ≡ object_born e
  pub points : points_of c ≡ points e
  pub entered : entered_of c ≡ entered e
  pub joined : joined_of c ≡ joined e
  pub registry : registry_of c ≡ change again e
  pub kept : kept_of c ≡ keeps e
  pub clears : clears c ≡ ends_job e
  pub makes : makes_of c ≡ tag_made_at e

pub is_read : (again : Option ℕ) (e : Event) → IsRead again e (table_change again e)
is_read again e = record {
  put = put_read again e;
  born = born_read again e;
  points = points_read again e;
  entered = entered_read again e;
  joined = joined_read again e;
  registry = registry_read again e;
  kept = kept_read again e;
  clears = clears_read again e;
  makes = makes_read again e;
}
