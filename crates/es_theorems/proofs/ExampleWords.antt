-- Which plans share no word, and which outcomes say the same, worked by hand.
use Rattle.std.proofs.Common.{◌≡◌, true, false, refl, List, [], ◌∷◌, codes}
use Rattle.std.specs.Prelude.{pos}
use Rattle.es_event.specs.declared.command.Command.{Command}
use Rattle.es_event.specs.declared.command.Command.TheVariants.{Collect, Length, Post, SameBlock, Say, SharedArrayBuffer}
use Rattle.es_event.specs.declared.event.Event.{Event}
use Rattle.es_event.specs.declared.event.Event.TheVariants.{JobBegun, JobEnded, Closed}
use Rattle.es_event.specs.declared.outcome.Outcome.{Outcome}
use Rattle.es_event.specs.declared.plan.AgentPlan.{AgentPlan}
use Rattle.es_event.specs.declared.plan.Plan.{Plan}
use Rattle.es_event.specs.Report.{report}
use Rattle.es_event.proofs.Examples.{add, job_of, job_on, load, plan_with, store}
use Rattle.es_outcome.specs.Outcomes.{IsClusterOutcome}
use Rattle.es_theorems.proofs.Converse.{some_outcome}
use Rattle.es_theorems.specs.Messages.{SayAlike, is_on_word, share_no_word, shares_no_word}
use Rattle.es_theorems.proofs.Reports.{reports_in_threads}

-- Commands

load_is_on_a_word : is_on_word (load (codes "x") (codes "b") (pos 0)) ≡ true
load_is_on_a_word = refl

store_is_on_a_word : is_on_word (store (codes "b") (pos 0) (pos 7)) ≡ true
store_is_on_a_word = refl

add_is_on_a_word : is_on_word (add (codes "x") (codes "b") (pos 0) (pos 1)) ≡ true
add_is_on_a_word = refl

-- what is on the buffer is on no word
length_is_on_none : is_on_word (Length (codes "x") (codes "b")) ≡ false
length_is_on_none = refl

comparison_is_on_none : is_on_word (SameBlock (codes "x") (codes "b") (codes "c")) ≡ false
comparison_is_on_none = refl

post_is_on_none : is_on_word (Post 1 (codes "b")) ≡ false
post_is_on_none = refl

-- Agents

-- it opens a block and posts it
abbrev posting : AgentPlan
posting = record { name = codes "a"; callbacks = []; jobs = job_of (SharedArrayBuffer (codes "b") 1 ∷ Post 1 (codes "b") ∷ []) ∷ [] }

-- it says how long the block is that comes
abbrev measuring : AgentPlan
measuring = record { name = codes "c"; callbacks = []; jobs = job_on 0 (codes "m") (Length (codes "x") (codes "m") ∷ Say (codes "x") ∷ []) ∷ [] }

-- it loads a word of it, in its second job
abbrev loading : AgentPlan
loading = record { name = codes "d"; callbacks = []; jobs = job_on 0 (codes "m") (Say (codes "m") ∷ []) ∷ job_of (Say (codes "m") ∷ load (codes "x") (codes "m") (pos 0) ∷ []) ∷ [] }

-- what these commands do, a callback does
abbrev calling : List Command → AgentPlan
calling run = plan_with run ((SharedArrayBuffer (codes "b") 1 ∷ Collect ∷ []) ∷ [])

who_posts_shares_none : shares_no_word posting ≡ true
who_posts_shares_none = refl

who_measures_shares_none : shares_no_word measuring ≡ true
who_measures_shares_none = refl

who_loads_shares_one : shares_no_word loading ≡ false
who_loads_shares_one = refl

callback_shares_none : shares_no_word (calling (Say (codes "held") ∷ [])) ≡ true
callback_shares_none = refl

callback_shares_one : shares_no_word (calling (Say (codes "held") ∷ store (codes "b") (pos 0) (pos 7) ∷ [])) ≡ false
callback_shares_one = refl

-- Plans

abbrev these : List AgentPlan → Plan
these agents = record { agents = agents }

abbrev alone : Plan
alone = these (posting ∷ measuring ∷ [])

messages_alone : share_no_word alone ≡ true
messages_alone = refl

-- it has outcomes, and one report
its_outcome : (o : Outcome) × IsClusterOutcome alone o
its_outcome = some_outcome alone refl refl

its_report : (o : Outcome) → IsClusterOutcome alone o → report o ≡ report its_outcome.0
its_report o is = reports_in_threads alone o its_outcome.0 messages_alone is its_outcome.1

-- one agent that is on a word is enough
one_loads : share_no_word (these (posting ∷ measuring ∷ loading ∷ [])) ≡ false
one_loads = refl

nobody_shares_none : share_no_word (these []) ≡ true
nobody_shares_none = refl

-- Outcomes

abbrev with_histories : List (List Event) → Outcome
with_histories hs = record { names = codes "a" ∷ []; histories = hs; ledger = [] }

abbrev ran : List Event
ran = JobBegun 1 ∷ JobEnded ∷ Closed ∷ []

say_the_same : SayAlike (with_histories (ran ∷ [])) (with_histories (ran ∷ []))
say_the_same = record { names = refl; histories = refl }

-- names tell them apart, and so do histories
other_name : SayAlike (with_histories (ran ∷ [])) (record { names = []; histories = ran ∷ []; ledger = [] }) → ⊥
other_name alike = let same = alike.names in cc

other_history : SayAlike (with_histories (ran ∷ [])) (with_histories ((Closed ∷ []) ∷ [])) → ⊥
other_history alike = let same = alike.histories in cc
