-- A history that was worked by hand: it is a whole run of its plan, and this is its report; and what is dead in it.
use Rattle.std.proofs.Common.{◌≡◌, ℕ, true, refl, List, [], ◌∷◌, Option, Some, None, reverse}
use Rattle.es_event.specs.declared.plan.AgentPlan.{AgentPlan}
use Rattle.es_event.specs.History.{History}
use Rattle.es_event.specs.Sharing.{Buffers}
use Rattle.es_event.specs.Identities.{identity}
use Rattle.es_event.specs.Jobs.{Receivers, receivers}
use Rattle.es_event.specs.Variables.{var}
use Rattle.es_event.specs.Reach.{AreDead}
use Rattle.es_event.specs.Runs.{IsWholeRunOver}
use Rattle.es_event.specs.Report.{agent_text}
use Rattle.es_event.proofs.Deciding.{AllReached, by_variable, dead_by, divides}

pub record IsWorked (over : Buffers) (plan : AgentPlan) (h : History) (text : List ℕ) : Type 0 where
  pub whole : IsWholeRunOver over plan h
  pub report : agent_text plan.name (reverse h) ≡ text

abbrev and_some : Option ℕ → List ℕ → List ℕ
and_some None ids = ids
and_some (Some i) ids = i ∷ ids

-- these, and what the variables hold
abbrev with_held : Receivers → History → List (List ℕ) → List ℕ → List ℕ
with_held into h [] ids = ids
with_held into h (x ∷ xs) ids = and_some (identity (var into h x)) (with_held into h xs ids)

all_reached : (into : Receivers) (h : History) (xs : List (List ℕ)) (ids : List ℕ) → AllReached into h ids → AllReached into h (with_held into h xs ids)
all_reached into h [] ids reached = reached
all_reached into h (x ∷ xs) ids reached = one (identity (var into h x)) refl (all_reached into h xs ids reached)
  where
    one : (o : Option ℕ) → identity (var into h x) ≡ o → AllReached into h (with_held into h xs ids) → AllReached into h (and_some o (with_held into h xs ids))
    one None is rest = rest
    one (Some i) is rest = (by_variable into h x i is, rest)

-- s is all that is dead, where these variables and ids lead to the rest
pub dead_beside : (plan : AgentPlan) (h : History) (xs : List (List ℕ)) (ids s : List ℕ) → divides (receivers plan.jobs) h (with_held (receivers plan.jobs) h xs ids) s ≡ true → AllReached (receivers plan.jobs) h ids → AreDead (receivers plan.jobs) h s
dead_beside plan h xs ids s test reached = dead_by (receivers plan.jobs) h (with_held (receivers plan.jobs) h xs ids) s test (all_reached (receivers plan.jobs) h xs ids reached)

-- s is all that is dead, where these variables lead to the rest
pub dead_but : (plan : AgentPlan) (h : History) (xs : List (List ℕ)) (s : List ℕ) → divides (receivers plan.jobs) h (with_held (receivers plan.jobs) h xs []) s ≡ true → AreDead (receivers plan.jobs) h s
dead_but plan h xs s test = dead_beside plan h xs [] s test tt
