-- A step that asks nobody takes nothing from outside, and posts nothing.
use Rattle.std.proofs.Common.{◌≡◌, ℕ, refl, sym, subst, List, [], ◌++◌, Option, Some, None}
use Rattle.std.proofs.lemmas.List.{append-nil}
use Rattle.es_value.specs.declared.value.Value.{Value}
use Rattle.es_event.specs.declared.command.Command.{Command}
use Rattle.es_event.specs.declared.event.Answer.{Answer}
use Rattle.es_event.specs.declared.event.Event.{Event}
use Rattle.es_event.specs.declared.event.Event.TheVariants.{Received, Did, Skipped}
use Rattle.es_event.specs.declared.event.Refusal.{Refusal}
use Rattle.es_event.specs.Commands.{reads}
use Rattle.es_event.specs.History.{History}
use Rattle.es_event.specs.Jobs.{Receivers, receivers}
use Rattle.es_event.specs.Legal.{Lawful, values_of}
use Rattle.es_event.specs.Order.{Due, due, receive, run}
use Rattle.es_event.specs.Follows.{Permits, done_for, refused_now}
use Rattle.es_event.specs.Rules.{refusal}
use Rattle.es_event.proofs.Accepted.{accepted}
use Rattle.es_record.specs.AgentView.{AgentView, IsNext}
use Rattle.es_rules.specs.Needs.{Request, unless_refused, asks_nobody, need, need_of}
use Rattle.es_rules.proofs.Needs.{local_command}
use Rattle.embed.specs.declared.drive.Outside.{Outside}
use Rattle.embed.specs.Outside.{Meets}

-- no caught refusal posts anything
posts_itself : (o : Option Refusal) (x : Option (List ℕ)) (c : Command) (a : ℕ) (y : List ℕ) → Command.Post a y ≡ done_for o x c → c ≡ Command.Post a y
posts_itself (Some code) (Some x) c a y is = cc
posts_itself (Some code) None c a y is = sym is
posts_itself None x c a y is = sym is

some_asked : (f : Option Refusal) (q : Request) → f ≡ None → unless_refused f (Some q) ≡ None → ⊥
some_asked None q e none = cc
some_asked (Some code) q e none = cc

-- a post that is not refused asks the ledger
asks_the_ledger : (b : AgentView) (x : Option (List ℕ)) (a : ℕ) (y : List ℕ) (vs : List Value) (r : Answer) → need_of b (run x (Command.Post a y)) ≡ asks_nobody
    → Lawful b.over (receivers b.plan.jobs) b.history (Did (Command.Post a y, vs, r)) → ⊥
asks_the_ledger b x a y vs r e lawful =
    let passed = accepted (refusal b.over b.history (Command.Post a y) vs) _ r lawful.1 in
    some_asked (refusal b.over b.history (Command.Post a y) (values_of (receivers b.plan.jobs) b.history (reads (Command.Post a y)))) _
    (subst (λ vs. refusal b.over b.history (Command.Post a y) vs ≡ None) lawful.0 passed.0)
    (local_command b x (Command.Post a y) e).1

posts_at : (b : AgentView) (d : Due) (a : ℕ) (y : List ℕ) (vs : List Value) (r : Answer) → need_of b d ≡ asks_nobody → Permits b.over (receivers b.plan.jobs) b.history d (Did (Command.Post a y, vs, r))
    → Lawful b.over (receivers b.plan.jobs) b.history (Did (Command.Post a y, vs, r)) → ⊥
posts_at b (run x c) a y vs r e p lawful =
    let itself = posts_itself (refused_now b.over (receivers b.plan.jobs) b.history c) x c a y p in
    asks_the_ledger b x a y vs r (subst (λ c. need_of b (run x c) ≡ asks_nobody) itself e) lawful
posts_at b _ a y vs r e p lawful = absurd p

hears_at : (b : AgentView) (d : Due) (t : ℕ) (v : Value) → need_of b d ≡ asks_nobody → Permits b.over (receivers b.plan.jobs) b.history d (Received t v) → ⊥
hears_at b (receive n s) t v e p = cc
hears_at b (run x c) t v e p = absurd p
hears_at b _ t v e p = absurd p

skips_at : (b : AgentView) (d : Due) (j t : ℕ) → need_of b d ≡ asks_nobody → Permits b.over (receivers b.plan.jobs) b.history d (Skipped j t) → ⊥
skips_at b (receive n s) j t e p = cc
skips_at b (run x c) j t e p = absurd p
skips_at b _ j t e p = absurd p

pub local_meets : (b : AgentView) (e : Event) (o : Outside) → need b ≡ asks_nobody → IsNext b e → Meets e o o
local_meets b (Received t v) o asks next = absurd (hears_at b (due b.plan b.history) t v asks next.permitted)
local_meets b (Skipped j t) o asks next = absurd (skips_at b (due b.plan b.history) j t asks next.permitted)
local_meets b (Did (Command.Post a y, vs, r)) o asks next = absurd (posts_at b (due b.plan b.history) a y vs r asks next.permitted next.lawful)
local_meets b (Did (c, vs, r)) o asks next = (refl, sym (append-nil o.outbox.items))
local_meets b _ o asks next = refl
