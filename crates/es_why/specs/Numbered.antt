-- Internal: ways that are found by number.
use Rattle.std.specs.Prelude.{ℕ, List, [], ◌∷◌, ◌++◌, Option, Some, None, is_some, if◌then◌else◌}
use Rattle.es_value.specs.declared.value.Value.{Value}
use Rattle.es_value.specs.Values.{identity}
use Rattle.es_event.specs.History.{History}
use Rattle.es_event.specs.Registrations.{callback}
use Rattle.es_mark.specs.declared.step.Step.{Step}
use Rattle.es_mark.specs.declared.way.Way.{Way}
use Rattle.es_mark.specs.Search.{way_to}

-- a way to the identity, if there is one
abbrev pub way_if : Step → Option ℕ → List Way
way_if s None = []
way_if s (Some i) = way_to i s ∷ []

-- for each number the way to what stands there
abbrev pub numbered : (ℕ → Option ℕ) → (ℕ → Step) → List ℕ → List Way
numbered at_number step [] = []
numbered at_number step (n ∷ ns) = way_if (step n) (at_number n) ++ numbered at_number step ns

-- the identity, if it is a registry
abbrev pub registry_if : History → ℕ → Option ℕ
registry_if h r = if is_some (callback h r) then Some r else None

-- the pair with the identity, if there is one
abbrev pub pair_if : ℕ → Option ℕ → List (ℕ × ℕ)
pair_if m None = []
pair_if m (Some i) = (m, i) ∷ []

-- WeakMap and identity of each entry whose value has one
abbrev pub pairs_of : List (ℕ × Value) → List (ℕ × ℕ)
pairs_of [] = []
pairs_of (e ∷ es) = pair_if e.0 (identity e.1) ++ pairs_of es
