-- To believe: in which version the commands and the jobs of an agent are written, and which callbacks and which agents they can
-- name.
use Rattle.std.specs.Prelude.{ℕ, ◌+◌, ◌==◌, ◌&&◌, ◌++◌, not, Bool, true, List, [], ◌∷◌, Option, Some, None, codes, if◌then◌else◌}
use Rattle.std.specs.List.{list_any}
use Rattle.std.specs.Str.{bytes_eq}
use Rattle.std.specs.Option.{option_and_then}
use Rattle.serde_json.specs.Data.{Data, Items, no_items, item, Members, no_members, member}
use Rattle.serde_json.specs.Find.{get}
use Rattle.es_reading.specs.declared.version.Version.{Version}
use Rattle.es_reading.specs.Parts.{members_in, text_in}

-- the number of each by its name, and none for any other text
abbrev pub Numbers : Type 0
Numbers = List ℕ → Option ℕ

-- callbacks are counted from 1, agents from 0
pub record Scope : Type 0 where
  pub version : Version
  pub callbacks : Numbers
  pub agents : Numbers

-- members stand by rising byte order of their names, and have their places as numbers; the first has the number k
abbrev pub number_from : ℕ → Members → Numbers
number_from k no_members n = None
number_from k (member m d ms) n = if bytes_eq m n then Some k else number_from (k + 1) ms n

-- agents in order, of which the first has the number k
abbrev pub agent_from : ℕ → Items → Numbers
agent_from k no_items n = None
agent_from k (item d ds) n = if bytes_eq (text_in (get (codes "name") d)) n then Some k else agent_from (k + 1) ds n

-- names in order, of which the first has the number k
abbrev pub number_in : ℕ → List (List ℕ) → Numbers
number_in k [] n = None
number_in k (m ∷ ms) n = if bytes_eq m n then Some k else number_in (k + 1) ms n

-- unless it is this one
abbrev pub other_than : ℕ → ℕ → Option ℕ
other_than a n = if n == a then None else Some n

-- in a plan of the version, of agent a among these: all its callbacks, whatever is wrong in them, and all agents but itself
abbrev pub scope_of : Version → Items → ℕ → Data → Scope
scope_of v agents a d = record {
  version = v;
  callbacks = number_from 1 (members_in (get (codes "callbacks") d));
  agents = λ n. option_and_then (other_than a) (agent_from 0 agents n);
}

-- whether a name is one of the names
abbrev pub is_used : List ℕ → List (List ℕ) → Bool
is_used n ns = list_any (λ m. bytes_eq m n) ns

-- no name is one of those before it
abbrev pub are_new : List (List ℕ) → List (List ℕ) → Bool
are_new before [] = true
are_new before (n ∷ ns) = not (is_used n before) && are_new (before ++ n ∷ []) ns
