-- What an event asks of the ledger is what the agent asked for, and the deeds that were done meet it.
use Rattle.std.proofs.Common.{◌≡◌, ℕ, ◌==◌, ◌&&◌, ◌||◌, Bool, true, false, cond, if◌then◌else◌, not, sym, ◌∙◌, ap, refl, subst, List, [], ◌∷◌, ◌++◌, Option, Some, None, eq-eqb}
use Rattle.std.specs.Prelude.{ℤ, pos, negsuc, ◌-◌, unsigned_abs, is_some, unwrap_or, slice_get, map}
use Rattle.std.specs.Option.{option_map, option_map_or, option_and_then}
use Rattle.std.specs.Ordering.{int_eq}
use Rattle.std.proofs.lemmas.Bool.{false≢true}
use Rattle.std.proofs.lemmas.Bool.Decides.{Decides-int_eq}
use Rattle.std.proofs.lemmas.Slice.Eq.{bytes_eq-Decides}
use Rattle.es_value.specs.Values.{identity, is_same}
use Rattle.es_value.specs.declared.value.Value.{Value}
use Rattle.es_value.specs.declared.value.Value.TheVariants.{Undefined, Boolean, Number, Text, Registered, Object, Symbol}
use Rattle.es_event.specs.declared.access.Access.{Access}
use Rattle.es_event.specs.declared.access.Change.{Change}
use Rattle.es_event.specs.declared.access.Task.{Task}
use Rattle.es_event.specs.declared.access.WaitResult.{WaitResult}
use Rattle.es_event.specs.declared.atomic.AtomicParts.{AtomicParts}
use Rattle.es_event.specs.declared.command.Command.{Command}
use Rattle.es_event.specs.declared.command.Command.TheVariants.{SharedArrayBuffer, Atomic, Post}
use Rattle.es_event.specs.declared.event.Answer.{Answer}
use Rattle.es_event.specs.declared.event.Answer.TheVariants.{Nothing, Gives}
use Rattle.es_event.specs.declared.event.Event.{Event}
use Rattle.es_event.specs.declared.event.Event.TheVariants.{JobBegun, CleanupBegun, Received, Refused, JobEnded, Skipped, Closed}
use Rattle.es_event.specs.declared.plan.AgentPlan.{AgentPlan}
use Rattle.es_event.specs.declared.plan.Job.{Job}
use Rattle.es_event.specs.declared.ledger_event.Body.TheVariants.{Plain, Block}
use Rattle.es_event.specs.declared.row.Row.{Row}
use Rattle.es_event.specs.Access.{change_by, is_same_change, wait_text}
use Rattle.es_event.specs.Numbers.{task_of, index_of, index_read, words_read}
use Rattle.es_event.specs.Commands.{reads, first}
use Rattle.es_event.specs.History.{History}
use Rattle.es_event.specs.Identities.{object_of}
use Rattle.es_event.specs.Variables.{var}
use Rattle.es_event.specs.Jobs.{Receivers, receivers, job, cleaning}
use Rattle.es_event.specs.Registrations.{first_awaiting}
use Rattle.es_event.specs.Follows.{Permits, Follows}
use Rattle.es_event.specs.Sharing.{Buffers, row_at, is_index, words_of}
use Rattle.es_event.specs.Rules.{Test, of_buffer, of_number, of_index, refusal, first_refusal}
use Rattle.es_event.specs.Legal.{values_of}
use Rattle.es_event.specs.Later.{snapshot}
use Rattle.es_event.specs.Order.{Phase, between, handed, inside, stopped, ended, phase, phase_after, receive, run, clean, left, catching, queue, due_end, due_after, due_inside, due_job, due_between, due_at, due}
use Rattle.es_event.proofs.Accepted.{word_holds}
use Rattle.es_event.proofs.Accesses.{same_as_itself}
use Rattle.es_event.proofs.Left.{is_first}
use Rattle.es_match.specs.Asks.{to_open, to_access, to_miss, to_notify, to_post, to_receive, to_pass, asks_did, asks_wait, asks_word, between_jobs, given}
use Rattle.es_match.specs.Cluster.{awaited}
use Rattle.es_match.specs.declared.deed.Sleep.{Sleep}
use Rattle.es_match.specs.Deeds.{Opens, Posts, Takes, Accesses, Notifies, Passes}
use Rattle.es_match.specs.Meets.{Tickets, after, answers, has_ticket, is_number, is_sleep_at, is_ticket, some_if}
use Rattle.es_ticket.specs.Stakes.{at}
use Rattle.es_record.specs.AgentView.{AgentView}
use Rattle.es_rules.specs.Needs.{Request, for_block, for_post, for_buffer_post, for_word, at_word, posts_to, asked, asks_ledger, need, need_of}
use Rattle.es_cluster.specs.Midway.{answer_to}
use Rattle.es_rules.proofs.Needs.{ledger_command, not_refused}

-- Values are the same as themselves

pub same_itself : (v : Value) → is_same v v ≡ true
same_itself Undefined = refl
same_itself (Boolean true) = refl
same_itself (Boolean false) = refl
same_itself (Number n) = (Decides-int_eq n n).1 refl
same_itself (Text t) = (bytes_eq-Decides t t).1 refl
same_itself (Registered t) = (bytes_eq-Decides t t).1 refl
same_itself (Object i) = eq-eqb i i refl
same_itself (Symbol i) = eq-eqb i i refl

-- Tickets

pub at_row : (ts : Tickets) (o : ℕ) → row_at ts o ≡ at o ts
at_row [] o = refl
at_row (t ∷ ts) o = ap (cond (t.0 == o) (Some t.1)) (at_row ts o)

pub has_this : (ts : Tickets) (o : ℕ) (r : Row) (test : Row → Bool) → Some r ≡ at o ts → test r ≡ true → has_ticket ts (Object o) test ≡ true
has_this ts o r test here is = ap (λ q. option_map_or test q false) (at_row ts o ∙ sym here) ∙ is

pub this_ticket : (ts : Tickets) (o : ℕ) (r : Row) → Some r ≡ at o ts → is_ticket ts (Object o) r.serial ≡ true
this_ticket ts o r here = has_this ts o r (λ q. q.serial == r.serial) here (eq-eqb r.serial r.serial refl)

-- a ticket that is there has its row
pub ticket_row : (ts : Tickets) (o k : ℕ) → is_ticket ts (Object o) k ≡ true → (r : Row) × (Some r ≡ at o ts)
ticket_row ts o k is = by (row_at ts o) refl is
  where
    by : (q : Option Row) → row_at ts o ≡ q → option_map_or (λ r. r.serial == k) q false ≡ true → (r : Row) × (Some r ≡ at o ts)
    by None q is = cc
    by (Some r) q is = (r, sym q ∙ at_row ts o)

-- The due command

pub record DueCommand (b : AgentView) (c : Command) (r : Request) : Type 0 where
  pub accepted : refusal b.over b.history c (values_of (receivers b.plan.jobs) b.history (reads c)) ≡ None
  pub asks : asked c (values_of (receivers b.plan.jobs) b.history (reads c)) ≡ Some r

pub due_command : (b : AgentView) (x : Option (List ℕ)) (c : Command) (r : Request) → due b.plan b.history ≡ run x c → need b ≡ asks_ledger r → DueCommand b c r
due_command b x c r is asked' =
    let command = ledger_command b x c r (ap (need_of b) (sym is) ∙ asked') in
    let parts = not_refused _ _ r command.1 in
    record { accepted = parts.0; asks = parts.1 }

pub object_at : (v : Value) (o : ℕ) → object_of v ≡ Some o → v ≡ Object o
object_at (Object i) o e = let same : i ≡ o = cc in ap Object same
object_at _ o e = cc

abbrev is_on_word : Request → Bool
is_on_word (for_block n) = false
is_on_word (for_post a v) = false
is_on_word (for_buffer_post a o) = false
is_on_word (for_word o i t) = true

-- a command on a word asks for what it does there, and for nothing else
pub word_asked : (v : Value) (j : ℤ) (c : Task) (r : Request) → at_word v j c ≡ Some r → is_on_word r ≡ true
word_asked (Object p) j c r e = let same : for_word p (unsigned_abs j) c ≡ r = cc in ap is_on_word (sym same)
word_asked _ j c r e = cc

word_only : (b : AgentView) (c : AtomicParts) (r : Request) → is_on_word r ≡ false → DueCommand b (Atomic c) r → ⊥
word_only b c r other d =
    let vs = values_of (receivers b.plan.jobs) b.history (reads (Atomic c)) in
    false≢true (sym other ∙ word_asked (first vs) (index_of c vs) (task_of c vs) r d.asks)

positive : (j : ℤ) (words : ℕ) → is_index j words ≡ true → j ≡ pos (unsigned_abs j)
positive (pos i) words e = refl
positive (negsuc i) words e = cc

-- the index of a word is not negative
index_positive : (over : Buffers) (h : History) (v : Value) (n : Test) (j : ℤ) (ts : List Test) (i : ℕ) → first_refusal (of_buffer h v ∷ n ∷ of_index over v j ∷ ts) ≡ None → unsigned_abs j ≡ i → j ≡ pos i
index_positive over h v n j ts i none is = positive j (words_of over v) (word_holds over h v n j ts none).1 ∙ ap pos is

-- What is done at a word

task_asked : (v : Value) (j : ℤ) (c : Task) (o i : ℕ) (t : Task) → at_word v j c ≡ Some (for_word o i t) → (object_of v ≡ Some o) × (unsigned_abs j ≡ i) × (c ≡ t)
task_asked (Object p) j c o i t e = (cc, cc, cc)
task_asked _ j c o i t e = cc

-- what a command asks for at a word is what it does, at a buffer object, and its index is not negative
record AtWord (v : Value) (j : ℤ) (c : Task) (o i : ℕ) (t : Task) : Type 0 where
  pub object : v ≡ Object o
  pub index : j ≡ pos i
  pub task : c ≡ t

placed : (over : Buffers) (h : History) (v : Value) (n : Test) (j : ℤ) (ts : List Test) (c : Task) (o i : ℕ) (t : Task) → first_refusal (of_buffer h v ∷ n ∷ of_index over v j ∷ ts) ≡ None → at_word v j c ≡ Some (for_word o i t) → AtWord v j c o i t
placed over h v n j ts c o i t none asks =
    let is = task_asked v j c o i t asks in
    record { object = object_at v o is.0; index = index_positive over h v n j ts i none is.1; task = is.2 }

post_no_word : (r : ℕ) (u : Value) (o i : ℕ) (t : Task) → Some (posts_to r u) ≡ Some (for_word o i t) → ⊥
post_no_word r (Object p) o i t e = cc
post_no_word r u o i t e = cc

word_so : (v : Value) (j : ℤ) (c : Task) (o i : ℕ) (t : Task) (u : Value) → AtWord v j c o i t → asks_word v j c u ≡ asks_word (Object o) (pos i) t u
word_so v j c o i t u is = ap (λ v. asks_word v j c u) is.object ∙ ap (λ j. asks_word (Object o) j c u) is.index ∙ ap (λ c. asks_word (Object o) (pos i) c u) is.task

pub word_asks : (b : AgentView) (c : Command) (o i : ℕ) (t : Task) (r : Answer) → DueCommand b c (for_word o i t)
    → asks_did c (values_of (receivers b.plan.jobs) b.history (reads c)) r ≡ asks_word (Object o) (pos i) t (given r)
word_asks b (Atomic c) o i t r d =
    let vs = values_of (receivers b.plan.jobs) b.history (reads (Atomic c)) in
    word_so _ (index_of c vs) (task_of c vs) o i t (given r) (placed b.over b.history _ (of_number (index_read c vs)) (index_of c vs) (map of_number (words_read c vs)) (task_of c vs) o i t d.accepted d.asks)
word_asks b (Post a y) o i t r d = absurd (post_no_word a _ o i t d.asks)
word_asks b c o i t r d = let e = d.asks in cc

-- An access

answered : (a : Access) (w : ℕ) → answers a (given (answer_to a w)) w ≡ true
answered a w = by_gift a.gives_word
  where
    by_gift : (b : Bool) → (not b || is_number (given (if b then Gives (Number (pos w)) else Nothing)) w) ≡ true
    by_gift true = (Decides-int_eq (pos w) (pos w)).1 refl
    by_gift false = refl

pub access_met : (ts : Tickets) (o i w : ℕ) (a : Access) (r : Row) → Some r ≡ at o ts → after ts (to_access (Object o) (pos i) a (given (answer_to a w))) (Accesses r.serial i (change_by a.edit w) w ∷ []) ≡ Some ts
access_met ts o i w a r here =
    ap (λ b. some_if (b && (int_eq (pos i) (pos i) && (is_same_change (change_by a.edit w) (change_by a.edit w) && answers a (given (answer_to a w)) w))) ts) (this_ticket ts o r here)
    ∙ ap (λ b. some_if (b && (is_same_change (change_by a.edit w) (change_by a.edit w) && answers a (given (answer_to a w)) w)) ts) ((Decides-int_eq (pos i) (pos i)).1 refl)
    ∙ ap (λ b. some_if (b && answers a (given (answer_to a w)) w) ts) (same_as_itself (change_by a.edit w))
    ∙ ap (λ b. some_if b ts) (answered a w)

-- A wait

-- what the variable of a wait holds says how it ended
pub ended_so : (b : Value) (j : ℤ) (w : ℕ) (e : WaitResult) → asks_word b j (Task.Sleep w) (given (Gives (Text (wait_text e)))) ≡ asks_wait b j w e
ended_so b j w WaitResult.Woken = refl
ended_so b j w WaitResult.NotEqual = refl
ended_so b j w WaitResult.TimedOut = refl

-- another word was there
pub miss_met : (ts : Tickets) (o i w v : ℕ) (r : Row) → Some r ≡ at o ts → (v == w) ≡ false → after ts (to_miss (Object o) (pos i) w) (Accesses r.serial i Change.Keep v ∷ []) ≡ Some ts
miss_met ts o i w v r here other =
    ap (λ b. some_if (b && (int_eq (pos i) (pos i) && (is_same_change Change.Keep Change.Keep && not (v == w)))) ts) (this_ticket ts o r here)
    ∙ ap (λ b. some_if (b && (is_same_change Change.Keep Change.Keep && not (v == w))) ts) ((Decides-int_eq (pos i) (pos i)).1 refl)
    ∙ ap (λ b. some_if (b && not (v == w)) ts) (same_as_itself Change.Keep)
    ∙ ap (λ b. some_if (not b) ts) other

pub sleep_met : (ts : Tickets) (o w : ℕ) (s : Sleep) → is_ticket ts (Object o) s.serial ≡ true → s.word ≡ w → is_sleep_at ts (Object o) (pos s.index) w (Some s) ≡ true
sleep_met ts o w s here same =
    ap (λ b. b && (int_eq (pos s.index) (pos s.index) && (s.word == w))) here
    ∙ ap (λ b. b && (s.word == w)) ((Decides-int_eq (pos s.index) (pos s.index)).1 refl)
    ∙ eq-eqb s.word w same

-- A notify

pub notify_met : (ts : Tickets) (o i n k : ℕ) (r : Row) → Some r ≡ at o ts → after ts (to_notify (Object o) (pos i) n (Number (pos k))) (Notifies r.serial i n k ∷ []) ≡ Some ts
notify_met ts o i n k r here =
    ap (λ b. some_if (b && (int_eq (pos i) (pos i) && ((n == n) && int_eq (pos k) (pos k)))) ts) (this_ticket ts o r here)
    ∙ ap (λ b. some_if (b && ((n == n) && int_eq (pos k) (pos k))) ts) ((Decides-int_eq (pos i) (pos i)).1 refl)
    ∙ ap (λ b. some_if (b && int_eq (pos k) (pos k)) ts) (eq-eqb n n refl)
    ∙ ap (λ b. some_if b ts) ((Decides-int_eq (pos k) (pos k)).1 refl)

-- A new block

pub open_asks : (b : AgentView) (c : Command) (n : ℕ) (v : Value) → DueCommand b c (for_block n) → (vs : List Value) → asks_did c vs (Gives v) ≡ to_open n v
open_asks b (SharedArrayBuffer to m) n v d vs = let same : m ≡ n = (let e = d.asks in cc) in ap (λ m. to_open m v) same
open_asks b (Atomic c) n v d vs = absurd (word_only b c (for_block n) refl d)
open_asks b (Post a y) n v d vs = absurd (no_post a _ d.asks)
  where
    no_post : (a : ℕ) (u : Value) → Some (posts_to a u) ≡ Some (for_block n) → ⊥
    no_post a (Object p) e = cc
    no_post a u e = cc
open_asks b c n v d vs = let e = d.asks in cc

pub open_met : (ts : Tickets) (n o b s : ℕ) → after ts (to_open n (Object o)) (Opens b n s ∷ []) ≡ Some (ts ++ (o, record { serial = s; block = b; words = n }) ∷ [])
open_met ts n o b s = ap (λ t. cond t (Some (ts ++ (o, record { serial = s; block = b; words = n }) ∷ [])) None) (eq-eqb n n refl)

-- What is posted

posted : (a r : ℕ) (u v : Value) → Some (posts_to a u) ≡ Some (for_post r v) → (a ≡ r) × (u ≡ v)
posted a r (Object o) v e = cc
posted a r Undefined v e = (cc, cc)
posted a r (Boolean b) v e = (cc, cc)
posted a r (Number n) v e = (cc, cc)
posted a r (Text t) v e = (cc, cc)
posted a r (Registered t) v e = (cc, cc)
posted a r (Symbol i) v e = (cc, cc)

posted_buffer : (a r o : ℕ) (u : Value) → Some (posts_to a u) ≡ Some (for_buffer_post r o) → (a ≡ r) × (u ≡ Object o)
posted_buffer a r o (Object p) e = (cc, let same : p ≡ o = cc in ap Object same)
posted_buffer a r o Undefined e = cc
posted_buffer a r o (Boolean b) e = cc
posted_buffer a r o (Number n) e = cc
posted_buffer a r o (Text t) e = cc
posted_buffer a r o (Registered t) e = cc
posted_buffer a r o (Symbol i) e = cc

pub post_asks : (b : AgentView) (c : Command) (r : ℕ) (v : Value) (a : Answer) → DueCommand b c (for_post r v) → asks_did c (values_of (receivers b.plan.jobs) b.history (reads c)) a ≡ to_post r v
post_asks b (Post t y) r v a d = let u = var (receivers b.plan.jobs) b.history y in let p = posted t r u v d.asks in ap (λ t. to_post t u) p.0 ∙ ap (to_post r) p.1
post_asks b (Atomic c) r v a d = absurd (word_only b c (for_post r v) refl d)
post_asks b c r v a d = let e = d.asks in cc

pub buffer_asks : (b : AgentView) (c : Command) (r o : ℕ) (a : Answer) → DueCommand b c (for_buffer_post r o) → asks_did c (values_of (receivers b.plan.jobs) b.history (reads c)) a ≡ to_post r (Object o)
buffer_asks b (Post t y) r o a d = let u = var (receivers b.plan.jobs) b.history y in let p = posted_buffer t r o u d.asks in ap (λ t. to_post t u) p.0 ∙ ap (to_post r) p.1
buffer_asks b (Atomic c) r o a d = absurd (word_only b c (for_buffer_post r o) refl d)
buffer_asks b c r o a d = let e = d.asks in cc

no_object : (v : Value) → identity v ≡ None → is_some (object_of v) ≡ false
no_object (Object i) e = cc
no_object Undefined e = refl
no_object (Boolean b) e = refl
no_object (Number n) e = refl
no_object (Text t) e = refl
no_object (Registered t) e = refl
no_object (Symbol i) e = refl

pub post_met : (ts : Tickets) (r : ℕ) (v : Value) → identity v ≡ None → after ts (to_post r v) (Posts r (Plain v) ∷ []) ≡ Some ts
post_met ts r v plain =
    ap (λ b. some_if (b && (not (is_some (object_of v)) && is_same v v)) ts) (eq-eqb r r refl)
    ∙ ap (λ b. some_if (not b && is_same v v) ts) (no_object v plain)
    ∙ ap (λ b. some_if b ts) (same_itself v)

pub buffer_met : (ts : Tickets) (a o s : ℕ) (r : Row) → Some r ≡ at o ts → after ts (to_post a (Object o)) (Posts a (Block r.block s) ∷ []) ≡ Some ts
buffer_met ts a o s r here =
    ap (λ b. some_if (b && has_ticket ts (Object o) (λ q. q.block == r.block)) ts) (eq-eqb a a refl)
    ∙ ap (λ b. some_if b ts) (has_this ts o r (λ q. q.block == r.block) here (eq-eqb r.block r.block refl))

-- Messages

pub receive_met : (ts : Tickets) (s : ℕ) (v : Value) (w : ℕ) → identity v ≡ None → after ts (to_receive s v) (Takes s (Some (Plain v)) w ∷ []) ≡ Some ts
receive_met ts s v w plain =
    ap (λ b. cond b (some_if (not (is_some (object_of v)) && is_same v v) ts) None) (eq-eqb s s refl)
    ∙ ap (λ b. some_if (not b && is_same v v) ts) (no_object v plain)
    ∙ ap (λ b. some_if b ts) (same_itself v)

pub admit_met : (ts : Tickets) (s o b k w : ℕ) → after ts (to_receive s (Object o)) (Takes s (Some (Block b k)) w ∷ []) ≡ Some (ts ++ (o, record { serial = k; block = b; words = w }) ∷ [])
admit_met ts s o b k w = ap (λ t. cond t (Some (ts ++ (o, record { serial = k; block = b; words = w }) ∷ [])) None) (eq-eqb s s refl)

pub skip_met : (ts : Tickets) (s : ℕ) → after ts (to_pass s) (Passes s ∷ []) ≡ Some ts
skip_met ts s = ap (λ b. some_if b ts) (eq-eqb s s refl)

-- Whether a job is under way

nothing_left : (plan : AgentPlan) (h : History) → between_jobs h ≡ true → left plan h ≡ []
nothing_left plan [] is = refl
nothing_left plan (JobEnded ∷ h) is = refl
nothing_left plan (Skipped j t ∷ h) is = refl
nothing_left plan (e ∷ h) is = cc

end_message : (o : Option History) (n s : ℕ) → due_end o ≡ receive n s → ⊥
end_message None n s is = cc
end_message (Some p) n s is = cc

-- where a command is due, a job is under way
pub at_command : (plan : AgentPlan) (h : History) (x : Option (List ℕ)) (c : Command) → due plan h ≡ run x c → between_jobs h ≡ false
at_command plan h x c is = by_test (between_jobs h) refl
  where
    by_test : (b : Bool) → between_jobs h ≡ b → between_jobs h ≡ false
    by_test false b = b
    by_test true b = let none = sym (is_first plan h x c is).is_left ∙ nothing_left plan h b in cc

-- what comes between two jobs is no event that leaves the phase as it is, but a skip
no_event : (over : Buffers) (into : Receivers) (plan : AgentPlan) (h : History) (e : Event) (rs : List ℕ) → phase_after e ≡ None → between_jobs (e ∷ h) ≡ false → Permits over into h (due_between plan h rs) e → ⊥
no_event over into plan h e (r ∷ rs) same other p = at_clean e same other p
  where
    at_clean : (e : Event) → phase_after e ≡ None → between_jobs (e ∷ h) ≡ false → Permits over into h (clean r) e → ⊥
    at_clean (CleanupBegun q) same other p = cc
    at_clean _ same other p = absurd p
no_event over into plan h e [] same other p = at_job (job h) _ e same other p
  where
    at_job : (n : ℕ) (j : Option (Option (ℕ × List ℕ))) (e : Event) → phase_after e ≡ None → between_jobs (e ∷ h) ≡ false → Permits over into h (due_job n j) e → ⊥
    at_job n None Closed same other p = cc
    at_job n None _ same other p = absurd p
    at_job n (Some None) (JobBegun j) same other p = cc
    at_job n (Some None) _ same other p = absurd p
    at_job n (Some (Some on)) (Received t v) same other p = cc
    at_job n (Some (Some on)) (Refused code) same other p = cc
    at_job n (Some (Some on)) (Skipped j t) same other p = cc
    at_job n (Some (Some on)) _ same other p = absurd p

pub between_where_phase : (over : Buffers) (plan : AgentPlan) (h : History) → Follows over plan h → phase h ≡ between → between_jobs h ≡ true
between_where_phase over plan [] follows is = refl
between_where_phase over plan (e ∷ h) follows is = by_phase (phase_after e) (between_jobs (e ∷ h)) refl refl is
  where
    by_phase : (p : Option Phase) (b : Bool) → phase_after e ≡ p → between_jobs (e ∷ h) ≡ b → unwrap_or p (phase h) ≡ between → between_jobs (e ∷ h) ≡ true
    by_phase p true same b is = b
    by_phase None false same b is = absurd (no_event over (receivers plan.jobs) plan h e (queue h) same b (subst (λ d. Permits over (receivers plan.jobs) h (due_at plan h d) e) is follows.0))
    by_phase (Some between) false same b is = ends_at e same
      where
        ends_at : (e : Event) → phase_after e ≡ Some between → between_jobs (e ∷ h) ≡ true
        ends_at JobEnded same = refl
        ends_at _ same = cc
    by_phase (Some handed) false same b is = cc
    by_phase (Some inside) false same b is = cc
    by_phase (Some stopped) false same b is = cc
    by_phase (Some ended) false same b is = cc

-- where a message is due, none is
pub at_message : (over : Buffers) (plan : AgentPlan) (h : History) (n s : ℕ) → Follows over plan h → due plan h ≡ receive n s → between_jobs h ≡ true
at_message over plan h n s follows is = by_phase (phase h) refl is
  where
    at_cell : (o : Option ℕ) → due_after h o ≡ receive n s → ⊥
    at_cell None is = end_message (snapshot h) n s is
    at_cell (Some n) is = cc

    at_left : (x : Option (List ℕ)) (cs : List Command) → due_inside h x cs ≡ receive n s → ⊥
    at_left x [] is = at_cell (option_and_then (first_awaiting h) (cleaning h)) is
    at_left x (c ∷ cs) is = cc

    by_phase : (p : Phase) → phase h ≡ p → due_at plan h p ≡ receive n s → between_jobs h ≡ true
    by_phase between p is = between_where_phase over plan h follows p
    by_phase handed p is = cc
    by_phase inside p is = absurd (at_left (catching plan h) (left plan h) is)
    by_phase stopped p is = absurd (end_message (snapshot h) n s is)
    by_phase ended p is = cc

-- where a message is due, the plan's job waits for its sender
pub awaited_at : (plan : AgentPlan) (h : History) (n s : ℕ) → due plan h ≡ receive n s → awaited plan (job h) ≡ s ∷ []
awaited_at plan h n s is = by_phase (phase h) is
  where
    at_on : (k : ℕ) (on : Option (ℕ × List ℕ)) → due_job k (Some on) ≡ receive n s → option_map_or (λ on. on.0 ∷ []) on [] ≡ s ∷ []
    at_on k None is = cc
    at_on k (Some on) is = let same : on.0 ≡ s = cc in ap (λ s. s ∷ []) same

    at_job : (k : ℕ) (o : Option Job) → due_job k (option_map (λ j. j.on) o) ≡ receive n s → option_map_or (λ on. on.0 ∷ []) (option_and_then (λ j. j.on) o) [] ≡ s ∷ []
    at_job k None is = cc
    at_job k (Some j) is = at_on k j.on is

    at_cell : (o : Option ℕ) → due_after h o ≡ receive n s → ⊥
    at_cell None is = end_message (snapshot h) n s is
    at_cell (Some n) is = cc

    at_left : (x : Option (List ℕ)) (cs : List Command) → due_inside h x cs ≡ receive n s → ⊥
    at_left x [] is = at_cell (option_and_then (first_awaiting h) (cleaning h)) is
    at_left x (c ∷ cs) is = cc

    at_queue : (rs : List ℕ) → due_between plan h rs ≡ receive n s → awaited plan (job h) ≡ s ∷ []
    at_queue [] is = at_job (job h) (slice_get plan.jobs (job h - 1)) is
    at_queue (r ∷ rs) is = cc

    by_phase : (p : Phase) → due_at plan h p ≡ receive n s → awaited plan (job h) ≡ s ∷ []
    by_phase between is = at_queue (queue h) is
    by_phase handed is = cc
    by_phase inside is = absurd (at_left (catching plan h) (left plan h) is)
    by_phase stopped is = absurd (end_message (snapshot h) n s is)
    by_phase ended is = cc
