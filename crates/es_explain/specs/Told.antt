-- Internal: what is told of a text of which the first fault is known, and of a part of its value.
use Rattle.std.specs.Prelude.{ℕ, ◌≡◌, List, Option, string_bytes}
use Rattle.serde_json.specs.Data.{Data}
use Rattle.es_reading.specs.declared.fault.ScriptFault.{ScriptFault}
use Rattle.es_explain.specs.declared.found.Said.{Said}
use Rattle.es_explain.specs.declared.explanation.Explanation.{Explanation}
use Rattle.es_explain.specs.declared.explanation.Explanation.TheVariants.{Plan, Fault}
use Rattle.es_explain.specs.Explaining.{Locates, Shows, sentence}

-- this fault, its place in the value of the text, and what is said of it
abbrev pub Tells : List ℕ → Option Data → ScriptFault → Explanation → Type 0
Tells bytes o f (Plan plan ws) = ⊥
Tells bytes o f (Fault fault place said) = (fault ≡ f) × Locates bytes o f (string_bytes place) said

-- what is wrong with this part, and how it is shown
pub record SaysOf (d : Data) (part : Option Data) (f : ScriptFault) (said : Said) : Type 0 where
  pub sentence : string_bytes said.sentence ≡ sentence f d part
  pub found : Shows part (string_bytes said.found)
