-- To believe: the picture of an agent's heap after a collection.
use Rattle.std.specs.Prelude.{ℕ, ◌≡◌, true, false, List, [], ◌∷◌, ◌++◌, Option, codes, nat_eq, reverse, Some, if◌then◌else◌}
use Rattle.std.specs.List.{flat_map, range_with_len, AllByRecursion, IsDistinct}
use Rattle.std.specs.Option.{option_and_then, option_map_or}
use Rattle.std.specs.Str.{bytes_eq}
use Rattle.es_value.specs.declared.value.Value.{Value}
use Rattle.es_ephemeron.specs.Ephemerons.{held_by, holders}
use Rattle.es_event.specs.History.{History}
use Rattle.es_event.specs.Identities.{identity, is_in, is_there, is_gone, made, kind}
use Rattle.es_event.specs.Jobs.{receivers}
use Rattle.es_event.specs.Variables.{var}
use Rattle.es_event.specs.Properties.{prop, keys}
use Rattle.es_event.specs.WeakRefs.{kept, target}
use Rattle.es_event.specs.Ephemerons.{entry, is_member}
use Rattle.es_event.specs.Registrations.{Cell, Fate, live, cell, fate, same_fate, is_present, registered}
use Rattle.es_record.specs.AgentView.{AgentView}
use Rattle.es_why.specs.Leads.{AreAllNames}
use Rattle.es_why.specs.Lines.{head, thing_line, emptied_line, variable_lines, kept_lines, property_line, entry_lines, weak_line, target_line, held_line}

-- with the identity, if there is one
abbrev pub if_some : (ℕ → List ℕ) → Option ℕ → List ℕ
if_some text o = option_map_or text o []

-- what is there, by rising number
abbrev pub thing_at : History → ℕ → List ℕ
thing_at h i = if is_there h i then thing_line i (kind h i) else []

abbrev pub things : History → List ℕ
things h = flat_map (thing_at h) (range_with_len 1 (made h))

-- what variables of these names hold
abbrev pub variable_at : AgentView → List ℕ → List ℕ
variable_at b x = if_some (variable_lines x) (identity (var (receivers b.plan.jobs) b.history x))

-- what the property of o under this key holds
abbrev pub property_at : History → ℕ → List ℕ → List ℕ
property_at h o k = if_some (property_line o k) (option_and_then identity (prop h o k))

-- the entry of a WeakMap under the key k, with its value
abbrev pub entry_at : ℕ → ℕ × Value → List ℕ
entry_at k e = entry_lines e.0 k (identity e.1)

-- the WeakSet has the member i
abbrev pub set_at : ℕ → ℕ → List ℕ
set_at i s = weak_line s i

-- around i: its properties, the entries under it, the WeakSets that have it, and its target where it is a WeakRef
abbrev pub around : History → ℕ → List (ℕ × Value) → List ℕ → List ℕ
around h i es ss = flat_map (property_at h i) (keys h i) ++ (flat_map (entry_at i) es ++ (flat_map (set_at i) ss ++ if_some (weak_line i) (option_and_then identity (target h i))))

-- the WeakMaps that have an entry under k, each once, with the entry's value
pub record AreEntries (h : History) (k : ℕ) (es : List (ℕ × Value)) : Type 0 where
  pub only : AllByRecursion (λ e. (is_gone h e.0 ≡ false) × (entry h e.0 k ≡ Some e.1)) es
  pub every : (m : ℕ) (v : Value) → is_gone h m ≡ false → entry h m k ≡ Some v → held_by es m ≡ Some v
  pub once : IsDistinct nat_eq (holders es)

-- the WeakSets that have i as a member, each once
pub record AreSets (h : History) (i : ℕ) (ss : List ℕ) : Type 0 where
  pub only : AllByRecursion (λ s. (is_gone h s ≡ false) × (is_member h s i ≡ true)) ss
  pub every : (s : ℕ) → is_gone h s ≡ false → is_member h s i ≡ true → is_in ss s ≡ true
  pub once : IsDistinct nat_eq ss

-- what is around i, which is there; the entries and the WeakSets come in any order
pub record IsAround (h : History) (i : ℕ) (text : List ℕ) : Type 0 where
  pub entries : List (ℕ × Value)
  pub sets : List ℕ
  pub entries_are : AreEntries h i entries
  pub sets_are : AreSets h i sets
  pub is : text ≡ around h i entries sets

-- nothing is around what is not there
pub record IsAroundAt (h : History) (i : ℕ) (text : List ℕ) : Type 0 where
  pub there : is_there h i ≡ true → IsAround h i text
  pub not_there : is_there h i ≡ false → text ≡ []

-- around each of these, in order
abbrev pub IsAroundEach : History → List ℕ → List ℕ → Type 0
IsAroundEach h [] text = text ≡ []
IsAroundEach h (i ∷ is) text = (one : List ℕ) × (rest : List ℕ) × IsAroundAt h i one × IsAroundEach h is rest × (text ≡ one ++ rest)

-- the cell of registration n: its target, and its held value while the cell is in its registry
abbrev pub cell_lines : Fate → ℕ → Cell → List ℕ
cell_lines f n c = (if same_fate f live then target_line c.registry n c.target else []) ++ (if is_present f then if_some (held_line c.registry n) (identity c.held) else [])

abbrev pub registration_at : History → ℕ → List ℕ
registration_at h n = option_map_or (cell_lines (fate h n) n) (cell h n) []

abbrev pub registrations : History → List ℕ
registrations h = flat_map (registration_at h) (range_with_len 1 (registered h))

-- the picture of what an agent has after it emptied these
pub record IsPicture (b : AgentView) (ids : List ℕ) (text : List ℕ) : Type 0 where
  -- the variables, in any order, each once
  pub names : List (List ℕ)
  pub edges : List ℕ
  pub names_all : AreAllNames b names
  pub names_once : IsDistinct bytes_eq names
  pub edges_are : IsAroundEach b.history (range_with_len 1 (made b.history)) edges
  pub is : text ≡ head b.plan.name ++ (flat_map emptied_line ids ++ (things b.history ++ (flat_map (variable_at b) names ++ (kept_lines (reverse (kept b.history)) ++ (edges ++ (registrations b.history ++ codes "}\n"))))))
