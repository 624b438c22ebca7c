-- What is due where an agent asks for something.
use Rattle.std.proofs.Common.{◌≡◌, ℕ, Bool, true, false, ◌&&◌, sym, ap, refl, subst, List, Option, Some, None, cond}
use Rattle.std.specs.Prelude.{is_none}
use Rattle.es_value.specs.declared.value.Value.{Value}
use Rattle.es_event.specs.declared.command.Command.{Command}
use Rattle.es_event.specs.declared.command.Command.TheVariants.{Collect, CollectLater}
use Rattle.es_event.specs.declared.event.Event.{Event}
use Rattle.es_event.specs.declared.event.Event.TheVariants.{Emptied}
use Rattle.es_event.specs.declared.event.Refusal.{Refusal}
use Rattle.es_event.specs.Commands.{reads, collects}
use Rattle.es_event.specs.History.{History}
use Rattle.es_event.specs.Jobs.{Receivers, receivers}
use Rattle.es_event.specs.Later.{is_later, snapshot, collects_now}
use Rattle.es_event.specs.Legal.{values_of}
use Rattle.es_event.specs.Rules.{refusal}
use Rattle.es_event.specs.Sharing.{Buffers}
use Rattle.es_event.specs.Order.{Due, begin, receive, run, clean, take_cell, finish, end_job, close, nothing, due, RunsNow}
use Rattle.es_event.specs.Follows.{Permits}
use Rattle.es_tables.specs.Effects.{IsQuiet}
use Rattle.es_record.specs.AgentView.{AgentView, IsNext}
use Rattle.es_rules.specs.Needs.{Request, asked, unless_refused, request, Need, asks_nobody, asks_marks, asks_copy, asks_late_marks, asks_ledger, asks_message, asks_closing, ledger_or_nobody, opens_now, need_of, need}

-- what a command that is due asks for
data Asks (b o : Bool) (q : Option Request) (n : Need) : Type 0 where
  for_marks : b ≡ true → n ≡ asks_marks → Asks b o q n
  for_copy : b ≡ false → o ≡ true → n ≡ asks_copy → Asks b o q n
  the_ledger : (r : Request) → b ≡ false → o ≡ false → q ≡ Some r → n ≡ asks_ledger r → Asks b o q n
  nobody : b ≡ false → o ≡ false → q ≡ None → n ≡ asks_nobody → Asks b o q n

asks : (b o : Bool) (q : Option Request) (n : Need) → cond b asks_marks (cond o asks_copy (ledger_or_nobody q)) ≡ n → Asks b o q n
asks true o q n e = for_marks refl (sym e)
asks false true q n e = for_copy refl refl (sym e)
asks false false None n e = nobody refl refl refl (sym e)
asks false false (Some r) n e = the_ledger r refl refl refl (sym e)

of_command : (b : AgentView) (x : Option (List ℕ)) (c : Command) (n : Need) → need_of b (run x c) ≡ n → Asks (collects_now b.history c) (opens_now b.history c) (request b c) n
of_command b x c n e = asks (collects_now b.history c) (opens_now b.history c) (request b c) n e

no_closing : {b o : Bool} {q : Option Request} → Asks b o q asks_closing → ⊥
no_closing (for_marks is f) = cc
no_closing (for_copy is opens f) = cc
no_closing (the_ledger r is opens some f) = cc
no_closing (nobody is opens none f) = cc

-- an agent asks for its closing only where it is due
pub closes : (b : AgentView) (d : Due) → need_of b d ≡ asks_closing → d ≡ close
closes b close e = refl
closes b (begin n) e = cc
closes b (receive n s) e = cc
closes b (run x c) e = absurd (no_closing (of_command b x c asks_closing e))
closes b (finish p) e = cc
closes b end_job e = cc
closes b (clean r) e = cc
closes b (take_cell n) e = cc
closes b nothing e = cc

-- it asks for marks only where a collection is due
pub collects_due : (b : AgentView) (d : Due) → need_of b d ≡ asks_marks → (c : Command) × RunsNow d c × (collects_now b.history c ≡ true)
collects_due b (run x c) e = (c, (x, refl), of_marks (of_command b x c asks_marks e))
  where
    of_marks : {b o : Bool} {q : Option Request} → Asks b o q asks_marks → b ≡ true
    of_marks (for_marks is f) = is
    of_marks (for_copy is opens f) = cc
    of_marks (the_ledger r is opens some f) = cc
    of_marks (nobody is opens none f) = cc
collects_due b (begin n) e = cc
collects_due b (receive n s) e = cc
collects_due b (finish p) e = cc
collects_due b end_job e = cc
collects_due b (clean r) e = cc
collects_due b (take_cell n) e = cc
collects_due b close e = cc
collects_due b nothing e = cc

-- it asks for a copy only where a later collection is to be opened, and none is open
opens_by : (c : Command) (o : Option History) → (is_later c && is_none o) ≡ true → (c ≡ CollectLater) × (o ≡ None)
opens_by CollectLater None e = (refl, refl)
opens_by CollectLater (Some p) e = cc
opens_by _ o e = cc

pub copy_due : (b : AgentView) (d : Due) → need_of b d ≡ asks_copy → RunsNow d CollectLater × (snapshot b.history ≡ None)
copy_due b (run x c) e = let is = opens_by c (snapshot b.history) (of_copy (of_command b x c asks_copy e)) in ((x, ap (run x) is.0), is.1)
  where
    of_copy : {b o : Bool} {q : Option Request} → Asks b o q asks_copy → o ≡ true
    of_copy (for_marks is f) = cc
    of_copy (for_copy is opens f) = opens
    of_copy (the_ledger r is opens some f) = cc
    of_copy (nobody is opens none f) = cc
copy_due b (begin n) e = cc
copy_due b (receive n s) e = cc
copy_due b (finish p) e = cc
copy_due b end_job e = cc
copy_due b (clean r) e = cc
copy_due b (take_cell n) e = cc
copy_due b close e = cc
copy_due b nothing e = cc

-- it asks for the marks of the copy only where the open collection is to be finished
pub finish_due : (b : AgentView) (d : Due) → need_of b d ≡ asks_late_marks → (p : History) × (d ≡ finish p)
finish_due b (finish p) e = (p, refl)
finish_due b (run x c) e = absurd (no_finish (of_command b x c asks_late_marks e))
  where
    no_finish : {b o : Bool} {q : Option Request} → Asks b o q asks_late_marks → ⊥
    no_finish (for_marks is f) = cc
    no_finish (for_copy is opens f) = cc
    no_finish (the_ledger r is opens some f) = cc
    no_finish (nobody is opens none f) = cc
finish_due b (begin n) e = cc
finish_due b (receive n s) e = cc
finish_due b end_job e = cc
finish_due b (clean r) e = cc
finish_due b (take_cell n) e = cc
finish_due b close e = cc
finish_due b nothing e = cc

-- it asks nobody where its command empties nothing, opens nothing and asks the ledger for nothing
pub local_command : (b : AgentView) (x : Option (List ℕ)) (c : Command) → need_of b (run x c) ≡ asks_nobody → (collects_now b.history c ≡ false) × (request b c ≡ None)
local_command b x c e = of_nobody (of_command b x c asks_nobody e)
  where
    of_nobody : {b o : Bool} {q : Option Request} → Asks b o q asks_nobody → (b ≡ false) × (q ≡ None)
    of_nobody (for_marks is f) = cc
    of_nobody (for_copy is opens f) = cc
    of_nobody (the_ledger r is opens some f) = cc
    of_nobody (nobody is opens none f) = (is, none)

-- what asks the ledger is no collection
asks_collects : (c : Command) (vs : List Value) (r : Request) → asked c vs ≡ Some r → collects c ≡ false
asks_collects Collect vs r e = cc
asks_collects _ vs r e = refl

request_collects : (f : Option Refusal) (c : Command) (vs : List Value) (r : Request) → unless_refused f (asked c vs) ≡ Some r → collects c ≡ false
request_collects None c vs r e = asks_collects c vs r e
request_collects (Some code) c vs r e = cc

-- it asks the ledger only where a command is due that asks for this
pub ledger_command : (b : AgentView) (x : Option (List ℕ)) (c : Command) (r : Request) → need_of b (run x c) ≡ asks_ledger r → (collects c ≡ false) × (request b c ≡ Some r)
ledger_command b x c r e =
    let some = of_ledger (of_command b x c (asks_ledger r) e) in
    let vs = values_of (receivers b.plan.jobs) b.history (reads c) in
    (request_collects (refusal b.over b.history c vs) c vs r some, some)
  where
    of_ledger : {b o : Bool} {q : Option Request} {r : Request} → Asks b o q (asks_ledger r) → q ≡ Some r
    of_ledger (for_marks is f) = cc
    of_ledger (for_copy is opens f) = cc
    of_ledger (the_ledger s is opens some f) = cc
    of_ledger (nobody is opens none f) = cc

pub ledger_due : (b : AgentView) (d : Due) (r : Request) → need_of b d ≡ asks_ledger r → (c : Command) × RunsNow d c × (collects c ≡ false) × (request b c ≡ Some r)
ledger_due b (run x c) r e = let asked = ledger_command b x c r e in (c, (x, refl), asked.0, asked.1)
ledger_due b (begin n) r e = cc
ledger_due b (receive n s) r e = cc
ledger_due b (finish p) r e = cc
ledger_due b end_job r e = cc
ledger_due b (clean q) r e = cc
ledger_due b (take_cell n) r e = cc
ledger_due b close r e = cc
ledger_due b nothing r e = cc

-- it asks for a message only where a job waits for one
pub message_due : (b : AgentView) (d : Due) (s : ℕ) → need_of b d ≡ asks_message s → (n : ℕ) × (d ≡ receive n s)
message_due b (receive n t) s e = let same : t ≡ s = cc in (n, subst (λ s. receive n t ≡ receive n s) same refl)
message_due b (run x c) s e = absurd (no_message (of_command b x c (asks_message s) e))
  where
    no_message : {b o : Bool} {q : Option Request} {s : ℕ} → Asks b o q (asks_message s) → ⊥
    no_message (for_marks is f) = cc
    no_message (for_copy is opens f) = cc
    no_message (the_ledger r is opens some f) = cc
    no_message (nobody is opens none f) = cc
message_due b (begin n) s e = cc
message_due b (finish p) s e = cc
message_due b end_job s e = cc
message_due b (clean q) s e = cc
message_due b (take_cell n) s e = cc
message_due b close s e = cc
message_due b nothing s e = cc

-- what is asked for was not refused
pub not_refused : (f : Option Refusal) (q : Option Request) (r : Request) → unless_refused f q ≡ Some r → (f ≡ None) × (q ≡ Some r)
not_refused None q r e = (refl, e)
not_refused (Some code) q r e = cc

-- a step that asks nobody empties nothing
local_at : (b : AgentView) (over : Buffers) (into : Receivers) (d : Due) (ids : List ℕ) → need_of b d ≡ asks_nobody → Permits over into b.history d (Emptied ids) → ⊥
local_at b over into (run x c) ids e p = let none : collects_now b.history c ≡ false = (local_command b x c e).0 in cc
local_at b over into (finish q) ids e p = cc
local_at b over into _ ids e p = absurd p

pub local_is_quiet : (b : AgentView) (e : Event) → need b ≡ asks_nobody → IsNext b e → IsQuiet e
local_is_quiet b (Emptied ids) asked next = local_at b b.over (receivers b.plan.jobs) (due b.plan b.history) ids asked next.permitted
local_is_quiet b _ asked next = tt
