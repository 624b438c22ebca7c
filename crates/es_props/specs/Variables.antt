-- Internal: the variables of an agent, and which identities they hold.
use denote.Ref.{Bor}
use Rattle.std.specs.Prelude.{ℕ, ◌≡◌, Bool, true, false, List, ◌++◌, Option, Some, unwrap_or, slice_get}
use Rattle.std.specs.Map.{lookup}
use Rattle.std.specs.Option.{option_map, option_map_or}
use Rattle.std.specs.Str.{bytes_eq}
use Rattle.es_value.specs.declared.value.Value.{Value}
use Rattle.es_value.specs.declared.value.Value.TheVariants.{Undefined}
use Rattle.es_value.specs.Values.{identity}
use Rattle.es_mark.specs.Graph.{HasAll}

-- the variables that were assigned
pub record VariablesView : Type 0 where
  pub entries : List (List ℕ × Value)

-- the value of x
abbrev pub bound : VariablesView → List ℕ → Value
bound b x = unwrap_or (lookup (bytes_eq x) b.entries) Undefined

-- at place i there is the variable x
abbrev pub is_at : List (List ℕ × Value) → ℕ → List ℕ → Bool
is_at es i x = option_map_or (λ e. bytes_eq e.0 x) (slice_get es i) false

-- what is assigned, as the code has it
abbrev pub said : Option (Bor (List ℕ) × Bor Value) → Option (List ℕ × Value)
said o = option_map (λ p. (p.0.now, p.1.now)) o

-- these identities are added, and a set has them all exactly where it has what is asked for
pub record Adds (asked : (ℕ → Bool) → Type 0) (old new : List ℕ) : Type 0 where
  pub ids : List ℕ
  pub added : new ≡ old ++ ids
  pub only : (t : ℕ → Bool) → asked t → HasAll ids t
  pub all : (t : ℕ → Bool) → HasAll ids t → asked t

-- the set has what variables hold
abbrev pub HasBound : VariablesView → (ℕ → Bool) → Type 0
HasBound b t = (x : List ℕ) (i : ℕ) → identity (bound b x) ≡ Some i → t i ≡ true
