-- To believe: what a caught refusal leaves as it was. It is the contract of a function of its name that does nothing, so it is proved, and
-- adds nothing to what the definitions mean.
use Rattle.std.specs.Prelude.{ℕ, ◌≡◌, ◌∷◌, [], false, List}
use Rattle.std.specs.Str.{bytes_eq}
use Rattle.es_value.specs.declared.value.Value.{Value}
use Rattle.es_event.specs.declared.command.Command.{Command}
use Rattle.es_event.specs.declared.event.Answer.{Answer}
use Rattle.es_event.specs.declared.event.Event.{Event}
use Rattle.es_event.specs.declared.event.Refusal.{Refusal}
use Rattle.es_event.specs.declared.literal.Literal.{Literal}
use Rattle.es_event.specs.History.{History}
use Rattle.es_event.specs.Jobs.{Receivers, cleaning}
use Rattle.es_event.specs.LookBacks.{SameButVariables}
use Rattle.es_event.specs.Variables.{var}
use Rattle.es_event.specs.Later.{snapshot}
use Rattle.es_event.specs.Order.{queue}
use Rattle.es_event.specs.Report.{line, refusal_text}

-- x catches the refusal (TryStatement)
abbrev pub caught_by : List ℕ → Refusal → Event
caught_by x code = Event.Did (Command.Let x (Literal.Text (refusal_text code)), [], Answer.Gives (Value.Text (refusal_text code)))

-- the look-backs of two histories are the same, but for x, for what is reached from there, and for how far the agent is in its plan
pub record LookAlikeBut (x : List ℕ) (into : Receivers) (g h : History) : Type 0 where
  pub variables : (y : List ℕ) → bytes_eq x y ≡ false → var into g y ≡ var into h y
  pub besides : SameButVariables g h
  pub cleaning : cleaning g ≡ cleaning h
  pub queue : queue g ≡ queue h
  pub later : snapshot g ≡ snapshot h

-- A refusal that is caught assigns its text, says nothing, and changes nothing else.
abbrev pub ACaughtRefusalAssignsItsTextAlone : Type 0
ACaughtRefusalAssignsItsTextAlone =
    (into : Receivers) (h : History) (x : List ℕ) (code : Refusal)
    → (var into (caught_by x code ∷ h) x ≡ Value.Text (refusal_text code))
    × LookAlikeBut x into (caught_by x code ∷ h) h
    × (line (caught_by x code) ≡ [])
