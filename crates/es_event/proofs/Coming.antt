-- What an event that comes next is, by where the agent is in its plan.
use Rattle.std.proofs.Common.{◌≡◌, ℕ, ◌-◌, true, refl, ◌∙◌, ap, sym, subst, List, [], ◌∷◌, Option, Some, None}
use Rattle.std.specs.Prelude.{slice_get, is_some}
use Rattle.std.specs.Option.{option_map, option_and_then}
use Rattle.es_value.specs.declared.value.Value.{Value}
use Rattle.es_event.specs.declared.event.Answer.{Answer}
use Rattle.es_event.specs.declared.event.Event.{Event}
use Rattle.es_event.specs.declared.event.Event.TheVariants.{JobBegun, CleanupBegun, Received, Did, Refused, Emptied, Taken, JobEnded, Skipped, Closed}
use Rattle.es_event.specs.declared.event.Refusal.{Refusal}
use Rattle.es_event.specs.declared.event.Refusal.TheVariants.{TooManyValues}
use Rattle.es_event.specs.declared.command.Command.{Command}
use Rattle.es_event.specs.declared.literal.Literal.{Literal}
use Rattle.es_event.specs.declared.plan.AgentPlan.{AgentPlan}
use Rattle.es_event.specs.declared.plan.Job.{Job}
use Rattle.es_event.specs.Later.{snapshot, collects_now}
use Rattle.es_event.specs.Order.{due_end}
use Rattle.es_event.proofs.Finishing.{IsFinish}
use Rattle.es_event.specs.History.{History}
use Rattle.es_event.specs.Identities.{object_of}
use Rattle.es_event.specs.Jobs.{Receivers, receivers, job, cleaning}
use Rattle.es_event.specs.Registrations.{first_awaiting}
use Rattle.es_event.specs.Sharing.{Buffers}
use Rattle.es_event.specs.Reach.{AreDead}
use Rattle.es_event.specs.Order.{Phase, between, handed, inside, stopped, ended, phase, left, catching, queue, receive, run, due_after, due_inside, due_job, due_between, due_at, due}
use Rattle.es_event.specs.Report.{refusal_text}
use Rattle.es_event.specs.Follows.{HasRoom, Permits, done_for, refused_now}

-- the cell that the running cleanup job takes next
abbrev pub next_cell : History → Option ℕ
next_cell h = option_and_then (first_awaiting h) (cleaning h)

-- the command itself is done, or where it is refused and that is caught, an assignment of a text
pub data IsDoneFor (c : Command) : Command → Type 0 where
  itself : IsDoneFor c c
  caught : (x t : List ℕ) → IsDoneFor c (Command.Let x (Literal.Text t))

pub done_so : (o : Option Refusal) (x : Option (List ℕ)) (c d : Command) → d ≡ done_for o x c → IsDoneFor c d
done_so (Some code) (Some x) c d is = subst (IsDoneFor c) (sym is) (caught x (refusal_text code))
done_so (Some code) None c d is = subst (IsDoneFor c) (sym is) itself
done_so None x c d is = subst (IsDoneFor c) (sym is) itself

-- what holds of the command and of each such assignment holds of what is done
pub of_done : (P : Command → Type 0) (c d : Command) → IsDoneFor c d → P c → ((x t : List ℕ) → P (Command.Let x (Literal.Text t))) → P d
of_done P c _ itself own lets = own
of_done P c _ (caught x t) own lets = lets x t

pub data Comes (over : Buffers) (into : Receivers) (plan : AgentPlan) (h : History) (at : Phase) : Event → Type 0 where
  begins_job : (k : ℕ) (j : Job) → at ≡ between → queue h ≡ [] → slice_get plan.jobs (job h - 1) ≡ Some j → k ≡ job h → Comes over into plan h at (JobBegun k)
  begins_handed : (k : ℕ) → at ≡ handed → k ≡ job h → Comes over into plan h at (JobBegun k)
  receives : (j : Job) (s : ℕ) (v : Value) → at ≡ between → queue h ≡ [] → slice_get plan.jobs (job h - 1) ≡ Some j → is_some j.on ≡ true → HasRoom h (object_of v) → Comes over into plan h at (Received s v)
  skips : (k : ℕ) (j : Job) (s : ℕ) → at ≡ between → queue h ≡ [] → slice_get plan.jobs (job h - 1) ≡ Some j → is_some j.on ≡ true → k ≡ job h → Comes over into plan h at (Skipped k s)
  refuses_message : (j : Job) (code : Refusal) → at ≡ between → queue h ≡ [] → slice_get plan.jobs (job h - 1) ≡ Some j → is_some j.on ≡ true → code ≡ TooManyValues → Comes over into plan h at (Refused code)
  begins_cleanup : (r : ℕ) (rs : List ℕ) → at ≡ between → queue h ≡ r ∷ rs → Comes over into plan h at (CleanupBegun r)
  does : (c d : Command) (cs : List Command) (vs : List Value) (r : Answer) → at ≡ inside → left plan h ≡ c ∷ cs → IsDoneFor c d → Comes over into plan h at (Did (d, vs, r))
  refuses : (c : Command) (cs : List Command) (code : Refusal) → at ≡ inside → left plan h ≡ c ∷ cs → Comes over into plan h at (Refused code)
  empties_dead : (c : Command) (cs : List Command) (ids : List ℕ) → at ≡ inside → left plan h ≡ c ∷ cs → collects_now h c ≡ true → AreDead into h ids → Comes over into plan h at (Emptied ids)
  takes : (n : ℕ) (v : Value) → at ≡ inside → left plan h ≡ [] → next_cell h ≡ Some n → Comes over into plan h at (Taken n v)
  ends : at ≡ inside → left plan h ≡ [] → next_cell h ≡ None → snapshot h ≡ None → Comes over into plan h at JobEnded
  stops : at ≡ stopped → snapshot h ≡ None → Comes over into plan h at JobEnded
  finishes : (ids : List ℕ) → at ≡ inside → left plan h ≡ [] → next_cell h ≡ None → IsFinish into h ids → Comes over into plan h at (Emptied ids)
  finishes_stopped : (ids : List ℕ) → at ≡ stopped → IsFinish into h ids → Comes over into plan h at (Emptied ids)
  closes : at ≡ between → queue h ≡ [] → Comes over into plan h at Closed

comes_command : (over : Buffers) (into : Receivers) (plan : AgentPlan) (h : History) (x : Option (List ℕ)) (c : Command) (cs : List Command) (e : Event) → left plan h ≡ c ∷ cs
    → Permits over into h (run x c) e → Comes over into plan h inside e
comes_command over into plan h x c cs (Did (d, vs, r)) is p = does c d cs vs r refl is (done_so (refused_now over into h c) x c d p)
comes_command over into plan h x c cs (Refused code) is p = refuses c cs code refl is
comes_command over into plan h x c cs (Emptied ids) is p = empties_dead c cs ids refl is p.0 p.1
comes_command over into plan h x c cs _ is p = absurd p

comes_end : (over : Buffers) (into : Receivers) (plan : AgentPlan) (h : History) (o : Option History) (e : Event) → left plan h ≡ [] → next_cell h ≡ None → snapshot h ≡ o
    → Permits over into h (due_end o) e → Comes over into plan h inside e
comes_end over into plan h None JobEnded is next at p = ends refl is next at
comes_end over into plan h None _ is next at p = absurd p
comes_end over into plan h (Some q) (Emptied ids) is next at p = finishes ids refl is next (record { copy = q; open_at = at; late = p })
comes_end over into plan h (Some q) _ is next at p = absurd p

comes_after : (over : Buffers) (into : Receivers) (plan : AgentPlan) (h : History) (o : Option ℕ) (e : Event) → left plan h ≡ [] → next_cell h ≡ o
    → Permits over into h (due_after h o) e → Comes over into plan h inside e
comes_after over into plan h None e is next p = comes_end over into plan h (snapshot h) e is next refl p
comes_after over into plan h (Some n) (Taken m v) is next p = takes m v refl is (subst (λ m. next_cell h ≡ Some m) (sym p) next)
comes_after over into plan h (Some n) _ is next p = absurd p

comes_inside : (over : Buffers) (into : Receivers) (plan : AgentPlan) (h : History) (x : Option (List ℕ)) (cs : List Command) (e : Event) → left plan h ≡ cs
    → Permits over into h (due_inside h x cs) e → Comes over into plan h inside e
comes_inside over into plan h x [] e is p = comes_after over into plan h (next_cell h) e is refl p
comes_inside over into plan h x (c ∷ cs) e is p = comes_command over into plan h x c cs e is p

comes_message : (over : Buffers) (into : Receivers) (plan : AgentPlan) (h : History) (j : Job) (n s : ℕ) (e : Event) → queue h ≡ [] → slice_get plan.jobs (job h - 1) ≡ Some j → is_some j.on ≡ true
    → n ≡ job h → Permits over into h (receive n s) e → Comes over into plan h between e
comes_message over into plan h j n s (Received t v) none is on same p = receives j t v refl none is on p.1
comes_message over into plan h j n s (Skipped k t) none is on same p = skips k j t refl none is on (p.0 ∙ same)
comes_message over into plan h j n s (Refused code) none is on same p = refuses_message j code refl none is on p.0
comes_message over into plan h j n s _ none is on same p = absurd p

comes_begin : (over : Buffers) (into : Receivers) (plan : AgentPlan) (h : History) (j : Job) (on : Option (ℕ × List ℕ)) (e : Event) → queue h ≡ [] → slice_get plan.jobs (job h - 1) ≡ Some j → j.on ≡ on
    → Permits over into h (due_job (job h) (Some on)) e → Comes over into plan h between e
comes_begin over into plan h j None (JobBegun k) none is at p = begins_job k j refl none is p
comes_begin over into plan h j None _ none is at p = absurd p
comes_begin over into plan h j (Some on) e none is at p = comes_message over into plan h j (job h) on.0 e none is (ap is_some at) refl p

comes_job : (over : Buffers) (into : Receivers) (plan : AgentPlan) (h : History) (o : Option Job) (e : Event) → queue h ≡ [] → slice_get plan.jobs (job h - 1) ≡ o
    → Permits over into h (due_job (job h) (option_map (λ j. j.on) o)) e → Comes over into plan h between e
comes_job over into plan h None Closed none is p = closes refl none
comes_job over into plan h None _ none is p = absurd p
comes_job over into plan h (Some j) e none is p = comes_begin over into plan h j j.on e none is refl p

comes_between : (over : Buffers) (into : Receivers) (plan : AgentPlan) (h : History) (rs : List ℕ) (e : Event) → queue h ≡ rs
    → Permits over into h (due_between plan h rs) e → Comes over into plan h between e
comes_between over into plan h [] e is p = comes_job over into plan h (slice_get plan.jobs (job h - 1)) e is refl p
comes_between over into plan h (r ∷ rs) (CleanupBegun q) is p = begins_cleanup q rs refl (subst (λ q. queue h ≡ q ∷ rs) (sym p) is)
comes_between over into plan h (r ∷ rs) _ is p = absurd p

comes_stopped_end : (over : Buffers) (into : Receivers) (plan : AgentPlan) (h : History) (o : Option History) (e : Event) → snapshot h ≡ o → Permits over into h (due_end o) e → Comes over into plan h stopped e
comes_stopped_end over into plan h None JobEnded at p = stops refl at
comes_stopped_end over into plan h None _ at p = absurd p
comes_stopped_end over into plan h (Some q) (Emptied ids) at p = finishes_stopped ids refl (record { copy = q; open_at = at; late = p })
comes_stopped_end over into plan h (Some q) _ at p = absurd p

comes_stopped : (over : Buffers) (into : Receivers) (plan : AgentPlan) (h : History) (e : Event) → Permits over into h (due_at plan h stopped) e → Comes over into plan h stopped e
comes_stopped over into plan h e p = comes_stopped_end over into plan h (snapshot h) e refl p

comes_at : (over : Buffers) (into : Receivers) (plan : AgentPlan) (h : History) (at : Phase) (e : Event) → Permits over into h (due_at plan h at) e → Comes over into plan h at e
comes_at over into plan h between e p = comes_between over into plan h (queue h) e refl p
comes_at over into plan h handed (JobBegun k) p = begins_handed k refl p
comes_at over into plan h handed _ p = absurd p
comes_at over into plan h inside e p = comes_inside over into plan h (catching plan h) (left plan h) e refl p
comes_at over into plan h stopped e p = comes_stopped over into plan h e p
comes_at over into plan h ended e p = absurd p

pub comes : (over : Buffers) (plan : AgentPlan) (h : History) (e : Event) → Permits over (receivers plan.jobs) h (due plan h) e → Comes over (receivers plan.jobs) plan h (phase h) e
comes over plan h e p = comes_at over (receivers plan.jobs) plan h (phase h) e p
