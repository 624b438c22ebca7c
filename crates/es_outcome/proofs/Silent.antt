-- An agent that never had a buffer, posted nothing and waits for nobody asks the ledger for nothing before its end.
use Rattle.std.proofs.lemmas.Bool.{and_parts, eqb-true}
use Rattle.std.proofs.lemmas.List.{reverse-reverse}
use Rattle.std.proofs.Common.{◌≡◌, ℕ, zero, suc, length, ◌==◌, ◌-◌, Bool, true, false, true≢false, List, [], ◌∷◌, Option, Some, None, refl, sym, ◌∙◌, ap, subst, arith}
use Rattle.std.specs.Prelude.{slice_get, is_some, map, reverse}
use Rattle.std.specs.List.{AllByRecursion}
use Rattle.std.specs.Option.{option_and_then}
use Rattle.es_value.specs.declared.value.Value.{Value}
use Rattle.es_event.specs.declared.command.Command.{Command}
use Rattle.es_event.specs.declared.command.Command.TheVariants.{SharedArrayBuffer, Length, SameBlock, Atomic, Post}
use Rattle.es_event.specs.declared.event.Answer.{Answer}
use Rattle.es_event.specs.declared.event.Event.{Event}
use Rattle.es_event.specs.declared.event.Event.TheVariants.{JobBegun, CleanupBegun, Received, Did, Refused, Emptied, Taken, JobEnded, Skipped, Closed}
use Rattle.es_event.specs.declared.plan.AgentPlan.{AgentPlan}
use Rattle.es_event.specs.declared.plan.Job.{Job}
use Rattle.es_event.specs.Commands.{first}
use Rattle.es_event.specs.Follows.{Follows}
use Rattle.es_event.specs.History.{History}
use Rattle.es_event.specs.Identities.{kind, object_of}
use Rattle.es_event.specs.Jobs.{Receivers, receivers, job, waits_for_nobody}
use Rattle.es_event.specs.Legal.{Lawful, LegalBy}
use Rattle.es_event.specs.Order.{Phase, between, inside, phase}
use Rattle.es_event.specs.Rules.{is_buffer, kind_of}
use Rattle.es_event.specs.Runs.{IsRunOver, IsWholeRunOver}
use Rattle.es_event.specs.Sharing.{Buffers, messages_posted, posts_at}
use Rattle.es_event.proofs.Coming.{Comes, begins_job, begins_handed, receives, skips, refuses_message, begins_cleanup, does, refuses, empties_dead, takes, ends, stops, finishes, finishes_stopped, closes, comes}
use Rattle.es_agent.specs.Tickets.{is_ended}
use Rattle.es_match.specs.Asks.{asks, asks_did, between_jobs}
use Rattle.es_match.specs.Calm.{AreCalm, IsCalm, IsCalmBefore, is_calm}
use Rattle.es_match.proofs.Calming.{is_calm_before}
use Rattle.es_cluster.proofs.Aims.{buffer_there}
use Rattle.es_record.specs.AgentView.{AgentView}
use Rattle.es_cluster.specs.Ends.{IsWhole}
use Rattle.es_cluster.specs.State.{accounts}
use Rattle.es_outcome.specs.Said.{is_calm as is_calm_agent}
use Rattle.es_outcome.proofs.Waiting.{none_on}

-- Where a refusal comes

-- a job is skipped between jobs, so the phase after it is not inside one
skips_between : (over : Buffers) (plan : AgentPlan) (h : History) (at : Phase) (n s : ℕ) → Comes over (receivers plan.jobs) plan h at (Skipped n s) → at ≡ between
skips_between over plan h at _ _ (skips k j s b none is on same) = b

-- inside a job, so that a refusal there is none of a receipt
pub inside_job : (over : Buffers) (plan : AgentPlan) (h : History) → Follows over plan h → phase h ≡ inside → between_jobs h ≡ false
inside_job over plan [] follows e = cc
inside_job over plan (JobEnded ∷ h) follows e = cc
inside_job over plan (Skipped n s ∷ h) follows e = let b = sym (skips_between over plan h (phase h) n s (comes over plan h (Skipped n s) follows.0)) ∙ e in cc
inside_job over plan (_ ∷ h) follows e = refl

-- Commands

no_kind : (b : Bool) → (b ≡ true → ⊥) → b ≡ false
no_kind true never = absurd (never refl)
no_kind false never = refl

no_buffer : (into : Receivers) (h : History) (v : Value) → LegalBy [] into h → is_buffer (kind_of h v) ≡ false
no_buffer into h v legal = by_object (object_of v)
  where
    by_object : (o : Option ℕ) → is_buffer (option_and_then (kind h) o) ≡ false
    by_object None = refl
    by_object (Some o) = no_kind (is_buffer (kind h o)) (λ is. let there = buffer_there [] into h legal o is in cc)

calm_did : (into : Receivers) (h : History) (c : Command) (vs : List Value) (r : Answer) → LegalBy [] into h → Lawful [] into h (Did (c, vs, r)) → posts_at (Did (c, vs, r)) ≡ 0
    → is_calm (asks_did c vs r) ≡ true
calm_did into h (SharedArrayBuffer to n) vs r legal lawful none = let words = lawful.3 in cc
calm_did into h (Length to b) vs r legal lawful none = let refused = rw (no_buffer into h (first vs) legal) at lawful.1 in cc
calm_did into h (SameBlock to b c) vs r legal lawful none = let refused = rw (no_buffer into h (first vs) legal) at lawful.1 in cc
calm_did into h (Atomic a) vs r legal lawful none = let refused = rw (no_buffer into h (first vs) legal) at lawful.1 in cc
calm_did into h (Post a y) vs r legal lawful none = cc
calm_did into h _ vs r legal lawful none = refl

-- Events

no_receipt : (plan : AgentPlan) (h : History) (j : Job) → waits_for_nobody plan ≡ true → slice_get plan.jobs (job h - 1) ≡ Some j → is_some j.on ≡ true → ⊥
no_receipt plan h j nobody is on =
    let none : j.on ≡ None = sym (ap (λ o. option_and_then (λ (k : Job). k.on) o) is) ∙ none_on plan.jobs nobody (job h - 1) in
    true≢false (sym on ∙ ap is_some none)

calm_asks : (plan : AgentPlan) (h : History) (at : Phase) (e : Event) → waits_for_nobody plan ≡ true → LegalBy [] (receivers plan.jobs) h → Lawful [] (receivers plan.jobs) h e
    → Follows [] plan h → phase h ≡ at → posts_at e ≡ 0 → (e ≡ Closed → ⊥) → Comes [] (receivers plan.jobs) plan h at e → is_calm (asks (between_jobs h) e) ≡ true
calm_asks plan h at _ nobody legal lawful follows here none going (begins_job k j b q is same) = refl
calm_asks plan h at _ nobody legal lawful follows here none going (begins_handed k i same) = refl
calm_asks plan h at _ nobody legal lawful follows here none going (receives j s v b q is on room) = absurd (no_receipt plan h j nobody is on)
calm_asks plan h at _ nobody legal lawful follows here none going (skips k j s b q is on same) = absurd (no_receipt plan h j nobody is on)
calm_asks plan h at _ nobody legal lawful follows here none going (refuses_message j code b q is on same) = absurd (no_receipt plan h j nobody is on)
calm_asks plan h at _ nobody legal lawful follows here none going (begins_cleanup r rs b is) = refl
calm_asks plan h at _ nobody legal lawful follows here none going (does b c cs vs r i is by) = calm_did (receivers plan.jobs) h c vs r legal lawful none
calm_asks plan h at _ nobody legal lawful follows here none going (refuses c cs code i is) = ap (λ b. is_calm (asks b (Refused code))) (inside_job [] plan h follows (here ∙ i))
calm_asks plan h at _ nobody legal lawful follows here none going (empties_dead c cs ids i is co dead) = refl
calm_asks plan h at _ nobody legal lawful follows here none going (takes n v i is next) = refl
calm_asks plan h at _ nobody legal lawful follows here none going (ends i is q shut) = refl
calm_asks plan h at _ nobody legal lawful follows here none going (stops s shut) = refl
calm_asks plan h at _ nobody legal lawful follows here none going (finishes ids i is q finish) = refl
calm_asks plan h at _ nobody legal lawful follows here none going (finishes_stopped ids s finish) = refl
calm_asks plan h at _ nobody legal lawful follows here none going (closes b q) = absurd (going refl)

-- nothing comes after the end
not_ended : (over : Buffers) (into : Receivers) (plan : AgentPlan) (h : History) (at : Phase) (e : Event) → Comes over into plan h at e → is_ended at ≡ false
not_ended over into plan h at _ (begins_job k j b q is same) = ap is_ended b
not_ended over into plan h at _ (begins_handed k i same) = ap is_ended i
not_ended over into plan h at _ (receives j s v b q is on room) = ap is_ended b
not_ended over into plan h at _ (skips k j s b q is on same) = ap is_ended b
not_ended over into plan h at _ (refuses_message j code b q is on same) = ap is_ended b
not_ended over into plan h at _ (begins_cleanup r rs b is) = ap is_ended b
not_ended over into plan h at _ (does b c cs vs r i is by) = ap is_ended i
not_ended over into plan h at _ (refuses c cs code i is) = ap is_ended i
not_ended over into plan h at _ (empties_dead c cs ids i is co dead) = ap is_ended i
not_ended over into plan h at _ (takes n v i is next) = ap is_ended i
not_ended over into plan h at _ (ends i is q shut) = ap is_ended i
not_ended over into plan h at _ (stops s shut) = ap is_ended s
not_ended over into plan h at _ (finishes ids i is q finish) = ap is_ended i
not_ended over into plan h at _ (finishes_stopped ids s finish) = ap is_ended s
not_ended over into plan h at _ (closes b q) = ap is_ended b

all_calm : (plan : AgentPlan) (h : History) → waits_for_nobody plan ≡ true → IsRunOver [] plan h → messages_posted h ≡ 0 → is_ended (phase h) ≡ false → IsCalm h
all_calm plan [] nobody run none going = tt
all_calm plan (e ∷ h) nobody run none going =
    let here : posts_at e ≡ 0 = omega arith in
    let earlier : messages_posted h ≡ 0 = omega arith in
    let next = comes [] plan h e run.1.0 in (
      calm_asks plan h (phase h) e nobody run.0.1 run.0.0 run.1.1 refl here (λ is. true≢false (sym (ap (λ e. is_ended (phase (e ∷ h))) is) ∙ going)) next,
      all_calm plan h nobody (run.0.1, run.1.1) earlier (not_ended [] (receivers plan.jobs) plan h (phase h) e next),
    )

closed : (h : History) (e : Event) → is_ended (phase h) ≡ false → is_ended (phase (e ∷ h)) ≡ true → e ≡ Closed
closed h (JobBegun k) going over = cc
closed h (CleanupBegun r) going over = cc
closed h (Received s v) going over = cc
closed h (Did (c, vs, r)) going over = absurd (true≢false (sym over ∙ going))
closed h (Refused code) going over = cc
closed h (Emptied ids) going over = absurd (true≢false (sym over ∙ going))
closed h (Taken n v) going over = absurd (true≢false (sym over ∙ going))
closed h JobEnded going over = cc
closed h (Skipped n s) going over = absurd (true≢false (sym over ∙ going))
closed h Closed going over = refl

pub calm_before_its_end : (plan : AgentPlan) (h : History) → waits_for_nobody plan ≡ true → IsRunOver [] plan h → messages_posted h ≡ 0 → is_ended (phase h) ≡ true
    → IsCalmBefore true (reverse h)
calm_before_its_end plan [] nobody run none over = tt
calm_before_its_end plan (e ∷ h) nobody run none over =
    let earlier : messages_posted h ≡ 0 = omega arith in
    let next = comes [] plan h e run.1.0 in
    let going = not_ended [] (receivers plan.jobs) plan h (phase h) e next in
    let is = closed h e going over in
    is_calm_before h e (λ b. ap (asks b) is ∙ sym (ap (asks true) is)) (all_calm plan h nobody (run.0.1, run.1.1) earlier going)

-- All agents

buffers_none : (over : Buffers) → (length over == 0) ≡ true → over ≡ []
buffers_none [] e = refl
buffers_none (x ∷ over) e = let none = eqb-true (length (x ∷ over)) 0 e in absurd (omega arith)

calm_agent : (b : AgentView) → is_calm_agent b ≡ true → IsWholeRunOver b.over b.plan b.history → IsCalmBefore true (reverse b.history)
calm_agent b is whole =
    let parts = and_parts _ _ is in
    let more = and_parts _ _ parts.1 in
    let none : b.over ≡ [] = buffers_none b.over parts.0 in
    calm_before_its_end b.plan b.history more.1 (subst (λ over. IsRunOver over b.plan b.history) none (whole.0, whole.1.0)) (eqb-true (messages_posted b.history) 0 more.0)
    (ap is_ended whole.1.1)

pub calm_histories : (bs : List AgentView) (hs : List (List Event)) → map (λ h. reverse h) hs ≡ map (λ b. b.history) bs → AllByRecursion IsWhole (accounts bs) → AreCalm (map is_calm_agent bs) hs
calm_histories [] hs same whole a is = absurd (cc)
calm_histories (b ∷ bs) [] same whole a is = absurd (cc)
calm_histories (b ∷ bs) (h ∷ hs) same whole zero is =
    let first : reverse h ≡ b.history = cc in
    subst (IsCalmBefore true) (ap reverse (sym first) ∙ reverse-reverse h) (calm_agent b is whole.0)
calm_histories (b ∷ bs) (h ∷ hs) same whole (suc a) is =
    let rest : map (λ h. reverse h) hs ≡ map (λ b. b.history) bs = cc in
    calm_histories bs hs rest whole.1 a is
