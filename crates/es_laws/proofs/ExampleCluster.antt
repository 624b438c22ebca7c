-- Two agents, with the whole report, and wrong outcomes beside it.
use Rattle.std.proofs.Common.{◌≡◌, ℕ, Bool, false, refl, ap, List, [], ◌∷◌, codes, rules}
use Rattle.std.specs.Prelude.{pos, reverse}
use Rattle.std.specs.Fmt.{digits}
use Rattle.std.specs.Str.{bytes_eq}
use Rattle.std.proofs.lemmas.Bool.{false≢true}
use Rattle.es_value.specs.declared.value.Value.TheVariants.{Number}
use Rattle.es_event.specs.declared.literal.Literal.TheVariants.{Number as NumberLiteral}
use Rattle.es_event.specs.declared.command.Command.TheVariants.{Let, Say}
use Rattle.es_event.specs.declared.event.Answer.TheVariants.{Nothing, Gives}
use Rattle.es_event.specs.declared.event.Event.{Event}
use Rattle.es_event.specs.declared.ledger_event.LedgerEvent.TheVariants.{Acted}
use Rattle.es_event.specs.declared.ledger_event.Act.TheVariants.{Ended}
use Rattle.es_event.specs.declared.event.Event.TheVariants.{JobBegun, Did, JobEnded, Closed}
use Rattle.es_event.specs.declared.outcome.Outcome.{Outcome}
use Rattle.es_event.specs.declared.plan.AgentPlan.{AgentPlan}
use Rattle.es_event.specs.declared.plan.Plan.{Plan}
use Rattle.es_event.specs.History.{History}
use Rattle.es_event.specs.Runs.{IsWholeRun, IsOutcome}
use Rattle.es_event.specs.Report.{report}
use Rattle.es_event.proofs.Examples.{agent_of}
use Rattle.es_laws.proofs.Letters.{a, b, x}

abbrev pub idle : AgentPlan
idle = agent_of a []

abbrev pub busy : AgentPlan
busy = agent_of b ((Let x (NumberLiteral (pos 1)) ∷ Say x ∷ []) ∷ [])

abbrev pub plan : Plan
plan = record { agents = idle ∷ busy ∷ [] }

abbrev pub idled : History
idled = Closed ∷ []

abbrev pub worked : History
worked = Closed ∷ JobEnded ∷ Did (Say x, Number (pos 1) ∷ [], Nothing) ∷ Did (Let x (NumberLiteral (pos 1)), [], Gives (Number (pos 1))) ∷ JobBegun 1 ∷ []

-- both have ended
abbrev pub outcome_of : List (List ℕ) → List (List Event) → Outcome
outcome_of ns hs = record { names = ns; histories = hs; ledger = Acted 0 Ended ∷ Acted 1 Ended ∷ [] }

abbrev pub completion : Outcome
completion = outcome_of (codes "a" ∷ codes "b" ∷ []) (reverse idled ∷ reverse worked ∷ [])

idle_whole : IsWholeRun idle idled
idle_whole = ([], search rules, search rules)

busy_whole : IsWholeRun busy worked
busy_whole = ([], search rules, search rules)

pub is_outcome : IsOutcome plan completion
is_outcome = record { names = refl; runs = (idle_whole, (busy_whole, tt)) }

pub reported : report completion ≡ codes "agent a\nend live 0 awaiting 0 unregistered 0 taken 0\nagent b\nsay 1\nend live 0 awaiting 0 unregistered 0 taken 0\ncluster\nblocks 0 released 0\nmessages posted 0 taken 0 drained 0\n"
unfolding digits
reported = refl

-- Wrong outcomes

-- whether the first name is this
abbrev begins_with : List ℕ → List (List ℕ) → Bool
begins_with name [] = false
begins_with name (n ∷ ns) = bytes_eq n name

-- the names in another order
names_swapped : IsOutcome plan (outcome_of (codes "b" ∷ codes "a" ∷ []) (reverse idled ∷ reverse worked ∷ [])) → ⊥
names_swapped o = false≢true (ap (begins_with a) o.names)

-- the histories in another order
histories_swapped : IsOutcome plan (outcome_of (codes "a" ∷ codes "b" ∷ []) (reverse worked ∷ reverse idled ∷ [])) → ⊥
histories_swapped o = o.runs.1.0.2.0.0

-- a history with its newest event first
history_reversed : IsOutcome plan (outcome_of (codes "a" ∷ codes "b" ∷ []) (reverse idled ∷ worked ∷ [])) → ⊥
history_reversed o = o.runs.1.0.2.0.0

-- a history missing
history_missing : IsOutcome plan (outcome_of (codes "a" ∷ codes "b" ∷ []) (reverse idled ∷ [])) → ⊥
history_missing o = o.runs.1

-- a history too many
history_too_many : IsOutcome plan (outcome_of (codes "a" ∷ codes "b" ∷ []) (reverse idled ∷ reverse worked ∷ reverse idled ∷ [])) → ⊥
history_too_many o = o.runs.1.1
