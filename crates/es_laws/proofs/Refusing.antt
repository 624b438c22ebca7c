-- A refused command changes nothing, and where its refusal is caught, one variable.
use Rattle.std.proofs.Common.{◌≡◌, ℕ, Bool, true, false, cond, sym, ◌∙◌, ap, refl, arith, List, ◌∷◌, Option, Some, None}
use Rattle.std.specs.Prelude.{unwrap_or}
use Rattle.std.specs.Str.{bytes_eq}
use Rattle.std.proofs.lemmas.Slice.Eq.{bytes_eq-Decides}
use Rattle.es_value.specs.declared.value.Value.{Value}
use Rattle.es_event.specs.declared.event.Event.TheVariants.{Refused}
use Rattle.es_event.specs.declared.event.Refusal.{Refusal}
use Rattle.es_event.specs.History.{History}
use Rattle.es_event.specs.Jobs.{Receivers}
use Rattle.es_event.specs.LookBacks.{LookAlike, SameButVariables}
use Rattle.es_event.specs.Registrations.{fate, is_present}
use Rattle.es_event.specs.Report.{refusal_text}
use Rattle.es_event.specs.Variables.{var}
use Rattle.es_event.specs.Reach.{IsClosed}
use Rattle.es_event.proofs.Cells.{fate_same}
use Rattle.es_laws.specs.Caught.{ACaughtRefusalAssignsItsTextAlone, caught_by}

refused_fate : (h : History) (code : Refusal) (n : ℕ) → fate (Refused code ∷ h) n ≡ fate h n
refused_fate h code n = fate_same (Refused code) h n refl refl refl

closed_before : (into : Receivers) (h : History) (code : Refusal) (m : ℕ → Type 0) → IsClosed into (Refused code ∷ h) m → IsClosed into h m
closed_before into h code m c = record {
  variables = c.variables;
  kept = c.kept;
  registries = c.registries;
  cells = λ n k i e present. c.cells n k i e (ap is_present (refused_fate h code n) ∙ present);
  properties = c.properties;
  entries = c.entries;
}

closed_after : (into : Receivers) (h : History) (code : Refusal) (m : ℕ → Type 0) → IsClosed into h m → IsClosed into (Refused code ∷ h) m
closed_after into h code m c = record {
  variables = c.variables;
  kept = c.kept;
  registries = c.registries;
  cells = λ n k i e present. c.cells n k i e (ap is_present (sym (refused_fate h code n)) ∙ present);
  properties = c.properties;
  entries = c.entries;
}

besides_refused : (h : History) (code : Refusal) → SameButVariables (Refused code ∷ h) h
besides_refused h code = record {
  properties = λ o k. refl;
  keys = λ o. refl;
  kept = refl;
  gone = refl;
  targets = λ w. refl;
  entries = λ w k. refl;
  members = λ s v. refl;
  registered = omega arith;
  cells = λ n. refl;
  fates = refused_fate h code;
  kinds = λ o. refl;
  made = omega arith;
  job = omega arith;
  blocks = omega arith;
  messages = omega arith;
}

pub alike_refused : (into : Receivers) (h : History) (code : Refusal) → LookAlike into (Refused code ∷ h) h
alike_refused into h code = record {
  variables = λ x. refl;
  besides = besides_refused h code;
  reached = λ i. (λ r m c. r m (closed_after into h code (λ j. m j ≡ true) c), λ r m c. r m (closed_before into h code (λ j. m j ≡ true) c));
}

-- Where it is caught

abbrev some_text : Refusal → Option Value
some_text code = Some (Value.Text (refusal_text code))

caught_at : (into : Receivers) (h : History) (x y : List ℕ) (code : Refusal) (b : Bool) → bytes_eq x y ≡ b
    → var into (caught_by x code ∷ h) y ≡ cond b (Value.Text (refusal_text code)) (var into h y)
caught_at into h x y code true is = ap (λ b. unwrap_or (cond b (some_text code) None) (var into h y)) is
caught_at into h x y code false is = ap (λ b. unwrap_or (cond b (some_text code) None) (var into h y)) is

besides_caught : (h : History) (x : List ℕ) (code : Refusal) → SameButVariables (caught_by x code ∷ h) h
besides_caught h x code = record {
  properties = λ o k. refl;
  keys = λ o. refl;
  kept = refl;
  gone = refl;
  targets = λ w. refl;
  entries = λ w k. refl;
  members = λ s v. refl;
  registered = omega arith;
  cells = λ n. refl;
  fates = λ n. fate_same (caught_by x code) h n refl refl refl;
  kinds = λ o. refl;
  made = omega arith;
  job = omega arith;
  blocks = omega arith;
  messages = omega arith;
}

pub caught_alone : ACaughtRefusalAssignsItsTextAlone
caught_alone into h x code = (
  caught_at into h x x code true ((bytes_eq-Decides x x).1 refl),
  record {
    variables = λ y other. caught_at into h x y code false other;
    besides = besides_caught h x code;
    cleaning = refl;
    queue = refl;
    later = refl;
  },
  refl,
)
