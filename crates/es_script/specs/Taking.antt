-- Internal: what is taken from the front of a reader's tokens.
use Rattle.std.specs.Prelude.{ℕ, ◌≡◌, ◌≤◌, ◌<◌, ◌+◌, Bool, true, List, length, map, Result, Ok, Some, None}
use Rattle.json.specs.Token.{Token}
use Rattle.json.specs.Json.{value, items, members}
use Rattle.serde_json.specs.Data.{Data, object, Items, Members}
use Rattle.serde_json.specs.Read.{of_json, of_items, of_members, converted}
use Rattle.es_event.specs.declared.command.Command.{Command}
use Rattle.es_reading.specs.Lines.{Line}
use Rattle.es_reading.specs.Shape.{each}
use Rattle.es_reading.specs.declared.fault.ScriptFault.{ScriptFault}

-- commands that stand behind no `try`
abbrev pub plain : List Command → List Line
plain cs = map (λ c. (None, c)) cs

-- the value comes first, in which arrays and objects nest no deeper than the number, and then the rest
abbrev pub TakesValue : ℕ → List Token → Data → List Token → Type 0
TakesValue depth ts d rest = converted of_json (value depth ts) ≡ Some (d, rest)

-- items, and the bracket that closes their array; the grammar's bound on its turns plays no part
abbrev pub TakesItems : ℕ → List Token → Items → List Token → Type 0
TakesItems depth ts ds rest = (n : ℕ) → length ts ≤ n → converted of_items (items (value depth) n ts) ≡ Some (ds, rest)

-- members, beside those that were found before, and the brace that closes their object
abbrev pub TakesMembers : ℕ → Members → List Token → Members → List Token → Type 0
TakesMembers depth found ts ms rest = (n : ℕ) → length ts ≤ n → converted (λ js. of_members js found) (members (value depth) n ts) ≡ Some (ms, rest)

-- a value that passes the test, and what is read of it
abbrev pub IsRead : {A : Type 0} → (Data → Bool) → (Data → Result A ScriptFault) → Data → A → Type 0
IsRead test reading d x = (test d ≡ true) × (reading d ≡ Ok x)

-- x is had of the value that came first, in which at most so many levels nest
pub record Took {A : Type 0} (levels : ℕ) (Of : Data → A → Type 0) (old : List Token) (x : A) (new : List Token) : Type 0 where
  pub value : Data
  pub taken : (depth : ℕ) → levels ≤ depth → TakesValue depth old value new
  pub is : Of value x
  pub shorter : length new < length old

-- x is what is read of the items up to the bracket, each of which passes the test
pub record TookItems {A : Type 0} (levels : ℕ) (test : Data → Bool) (reading : Items → Result A ScriptFault) (old : List Token) (x : A) (new : List Token) : Type 0 where
  pub values : Items
  pub taken : (depth : ℕ) → levels ≤ depth → TakesItems depth old values new
  pub shaped : each test values ≡ true
  pub read : reading values ≡ Ok x
  pub shorter : length new < length old

-- the members that came so far in an object, in whatever order: with any others behind them the object is read
pub record TookMembers (levels : ℕ) (found : Members) (old now : List Token) : Type 0 where
  pub taken : (ms : Members) (rest : List Token) → ((depth : ℕ) → levels ≤ depth → TakesMembers depth found now ms rest)
      → (depth : ℕ) → levels + 1 ≤ depth → TakesValue depth old (object ms) rest
  pub shorter : length now < length old
