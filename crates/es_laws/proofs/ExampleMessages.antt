-- Messages: what is received, what is skipped, how long a received buffer stays, and what is posted.
use Rattle.std.proofs.Common.{◌≡◌, ℕ, true, refl, sym, subst, List, [], ◌∷◌, None, inr, reverse, codes, rules}
use Rattle.std.specs.Prelude.{pos, length, nat_le, if◌then◌else◌}
use Rattle.std.specs.Fmt.{digits}
use Rattle.es_value.specs.declared.value.Value.{Value}
use Rattle.es_value.specs.declared.value.Value.TheVariants.{Undefined, Boolean, Number, Text, Registered, Object, Symbol as SymbolValue}
use Rattle.es_event.specs.declared.literal.Literal.TheVariants.{Undefined as NoLiteral, Boolean as BooleanLiteral, Number as NumberLiteral, Text as TextLiteral}
use Rattle.es_event.specs.declared.command.Command.TheVariants.{Let, New, Symbol, SymbolFor, Say, WeakRef, Deref, FinalizationRegistry, Register, SharedArrayBuffer, Length, Post, Collect}
use Rattle.es_event.specs.declared.event.Answer.TheVariants.{Nothing, Gives}
use Rattle.es_event.specs.declared.event.Event.{Event}
use Rattle.es_event.specs.declared.event.Event.TheVariants.{JobBegun, CleanupBegun, Received, Did, Refused, Emptied, Taken, JobEnded, Skipped, Closed}
use Rattle.es_event.specs.declared.event.Refusal.TheVariants.{NotPostable, TooManyValues, TooManyPosts}
use Rattle.es_event.specs.declared.plan.AgentPlan.{AgentPlan}
use Rattle.es_event.specs.Rows.{row}
use Rattle.es_event.specs.History.{History}
use Rattle.es_event.specs.Identities.{made}
use Rattle.es_event.specs.Jobs.{Receivers, receivers}
use Rattle.es_event.specs.Variables.{var}
use Rattle.es_event.specs.Sharing.{Buffers}
use Rattle.es_event.specs.Rules.{refusal}
use Rattle.es_event.specs.Reach.{AreDead}
use Rattle.es_event.specs.Live.{Oblivious, Live}
use Rattle.es_event.specs.Order.{begin, receive, end_job, due}
use Rattle.es_event.specs.Follows.{Permits}
use Rattle.es_event.specs.Runs.{IsWholeRun}
use Rattle.es_event.specs.Report.{agent_text}
use Rattle.es_event.proofs.Examples.{job_of, job_on, plan_of, plan_waiting, callback_of}
use Rattle.es_event.proofs.Deciding.{other_set}
use Rattle.es_event.proofs.Dead.{not_live}
use Rattle.es_laws.proofs.ExampleBuffers.{one_word, said, made_buffer, made_new}
use Rattle.es_laws.proofs.Letters.{b, e, f, h, k, m, n, o, r, s, t, u, w, x}
use Rattle.es_laws.proofs.Worked.{IsWorked, dead_but}

abbrev pub posted : List ℕ → Value → Event
posted from v = Did (Post 1 from, v ∷ [], Nothing)

-- A number is received, and the job of its variable begins

abbrev pub plan_number : AgentPlan
plan_number = plan_waiting (job_on 1 m (Say m ∷ []) ∷ [])

abbrev pub received : History
received = Received 1 (Number (pos 1)) ∷ []

abbrev pub begun : History
begun = JobBegun 1 ∷ received

abbrev pub closed : History
closed = Closed ∷ JobEnded ∷ said m (Number (pos 1)) ∷ begun

pub worked : IsWorked [] plan_number closed (codes "agent a\nsay 1\nend live 0 awaiting 0 unregistered 0 taken 0\n")
unfolding digits
worked = record { whole = (search rules, search rules); report = refl }

-- The same plan where no message comes

abbrev pub skipped : History
skipped = Skipped 1 1 ∷ []

abbrev pub closed_skipped : History
closed_skipped = Closed ∷ skipped

pub worked_skipped : IsWorked [] plan_number closed_skipped (codes "agent a\nskipped 1\nend live 0 awaiting 0 unregistered 0 taken 0\n")
unfolding digits
worked_skipped = record { whole = (search rules, search rules); report = refl }

-- the variable stays undefined
stays_undefined : var (receivers plan_number.jobs) closed_skipped m ≡ Undefined
stays_undefined = refl

-- Two jobs wait, each for another sender: the first is skipped, and the message of the second goes to the variable of the second

abbrev pub plan_two : AgentPlan
plan_two = plan_waiting (job_on 1 m (Say m ∷ []) ∷ job_on 2 n (Say n ∷ Say m ∷ []) ∷ job_of (Say n ∷ []) ∷ [])

abbrev pub received_two : History
received_two = Received 2 (Text k) ∷ Skipped 1 1 ∷ []

abbrev pub closed_two : History
closed_two =
    Closed ∷ JobEnded ∷ said n (Text k) ∷ JobBegun 3
    ∷ JobEnded ∷ said m Undefined ∷ said n (Text k)
    ∷ JobBegun 2 ∷ received_two

pub worked_two : IsWorked [] plan_two closed_two (codes "agent a\nskipped 1\nsay \"k\"\nsay undefined\nsay \"k\"\nend live 0 awaiting 0 unregistered 0 taken 0\n")
unfolding digits
worked_two = record { whole = (search rules, search rules); report = refl }

-- Two messages of one sender, one job each: the second replaces the first

abbrev pub plan_twice : AgentPlan
plan_twice = plan_waiting (job_on 1 m (Say m ∷ []) ∷ job_on 1 m (Say m ∷ []) ∷ [])

abbrev pub closed_twice : History
closed_twice =
    Closed ∷ JobEnded ∷ said m (Registered k) ∷ JobBegun 2 ∷ Received 1 (Registered k)
    ∷ JobEnded ∷ said m (Boolean true) ∷ JobBegun 1 ∷ Received 1 (Boolean true) ∷ []

pub worked_twice : IsWorked [] plan_twice closed_twice (codes "agent a\nsay true\nsay symbolfor \"k\"\nend live 0 awaiting 0 unregistered 0 taken 0\n")
unfolding digits
worked_twice = record { whole = (search rules, search rules); report = refl }

-- A buffer is received: it stays as long as its variable holds it

abbrev pub four_words : Buffers
four_words = (1, row 3 2 4) ∷ []

abbrev pub plan_buffer : AgentPlan
plan_buffer = plan_waiting (job_on 1 m (Length n m ∷ Say n ∷ []) ∷ job_of (Collect ∷ Say m ∷ Let m NoLiteral ∷ Collect ∷ []) ∷ [])

abbrev pub received_buffer : History
received_buffer = Received 1 (Object 1) ∷ []

abbrev pub begun_buffer : History
begun_buffer = JobBegun 1 ∷ received_buffer

abbrev pub ended_buffer : History
ended_buffer = JobEnded ∷ said n (Number (pos 4)) ∷ Did (Length n m, Object 1 ∷ [], Gives (Number (pos 4))) ∷ begun_buffer

abbrev pub begun_collecting : History
begun_collecting = JobBegun 2 ∷ ended_buffer

abbrev pub forgot : History
forgot = Did (Let m NoLiteral, [], Gives Undefined) ∷ said m (Object 1) ∷ Emptied [] ∷ begun_collecting

abbrev pub closed_buffer : History
closed_buffer = Closed ∷ JobEnded ∷ Emptied (1 ∷ []) ∷ forgot

pub none_dead : AreDead (receivers plan_buffer.jobs) begun_collecting []
none_dead = dead_but plan_buffer begun_collecting (m ∷ []) [] refl

pub dead_once_forgotten : AreDead (receivers plan_buffer.jobs) forgot (1 ∷ [])
dead_once_forgotten = dead_but plan_buffer forgot [] (1 ∷ []) refl

-- a collection before that empties another set than it
not_dead_before : AreDead (receivers plan_buffer.jobs) begun_collecting (1 ∷ []) → ⊥
not_dead_before d = other_set (receivers plan_buffer.jobs) begun_collecting (1 ∷ []) [] 1 d none_dead refl refl

-- and one after it does not leave it
not_left_afterwards : AreDead (receivers plan_buffer.jobs) forgot [] → ⊥
not_left_afterwards d = other_set (receivers plan_buffer.jobs) forgot (1 ∷ []) [] 1 dead_once_forgotten d refl refl

pub worked_buffer : IsWorked four_words plan_buffer closed_buffer (codes "agent a\nsay 4\nemptied 0\nsay object 1\nemptied 1\nend live 0 awaiting 0 unregistered 0 taken 0\n")
unfolding digits
worked_buffer = record { whole = (search rules, search (rules, none_dead, dead_once_forgotten)); report = refl }

-- Liveness: a buffer that a variable holds is live, as any object is

pub buffer_is_live : Live (receivers plan_buffer.jobs) ended_buffer (1 ∷ [])
buffer_is_live = inr (record { over = four_words; other = receivers plan_buffer.jobs; agree = search rules; before = []; event = said m (Object 1); oblivious = search rules; observed = refl })

-- also where another message comes first, since after the history a receipt may assign any variable
abbrev pub into_x_later : Receivers
into_x_later earlier = if nat_le 5 (length earlier) then x else (receivers plan_buffer.jobs) earlier

live_past_a_receipt : Live (receivers plan_buffer.jobs) ended_buffer (1 ∷ [])
live_past_a_receipt = inr (record { over = four_words; other = into_x_later; agree = search rules; before = Received 1 Undefined ∷ []; event = said m (Object 1); oblivious = search rules; observed = refl })

-- a receipt makes a new buffer, so a set of older ones has no member of it: this one is dead once it is forgotten
buffer_is_not_live : Live (receivers plan_buffer.jobs) forgot (1 ∷ []) → ⊥
buffer_is_not_live = not_live (receivers plan_buffer.jobs) forgot (1 ∷ []) dead_once_forgotten

-- receipts that all assign m
abbrev pub into_m : Receivers
into_m earlier = m

-- and stays so where another is received over the same block
abbrev pub two_rows : Buffers
two_rows = (2, row 4 2 4) ∷ four_words

received_beside : Oblivious (1 ∷ []) two_rows into_m forgot (said m (Object 2) ∷ Received 1 (Object 2) ∷ [])
received_beside = search rules

-- what is not made yet is no member of a set that is emptied; by itself it would be live, since it may be received
unmade_is_live : Live (receivers plan_buffer.jobs) [] (1 ∷ [])
unmade_is_live = inr (record { over = four_words; other = into_m; agree = search rules; before = Received 1 (Object 1) ∷ []; event = said m (Object 1); oblivious = search rules; observed = refl })

-- A receipt replaces what its variable held, which is dead then

abbrev pub plan_replaced : AgentPlan
plan_replaced = plan_waiting (job_of (New m ∷ []) ∷ job_on 1 m (Collect ∷ Say m ∷ []) ∷ [])

abbrev pub ended_replaced : History
ended_replaced = JobEnded ∷ made_new m 1 ∷ JobBegun 1 ∷ []

abbrev pub begun_replaced : History
begun_replaced = JobBegun 2 ∷ Received 1 (Number (pos 1)) ∷ ended_replaced

abbrev pub closed_replaced : History
closed_replaced = Closed ∷ JobEnded ∷ said m (Number (pos 1)) ∷ Emptied (1 ∷ []) ∷ begun_replaced

pub dead_replaced : AreDead (receivers plan_replaced.jobs) begun_replaced (1 ∷ [])
dead_replaced = dead_but plan_replaced begun_replaced [] (1 ∷ []) refl

pub worked_replaced : IsWorked [] plan_replaced closed_replaced (codes "agent a\nemptied 1\nsay 1\nend live 0 awaiting 0 unregistered 0 taken 0\n")
unfolding digits
worked_replaced = record { whole = (search rules, search (rules, dead_replaced)); report = refl }

-- A skip replaces nothing

abbrev pub closed_not_replaced : History
closed_not_replaced = Closed ∷ Skipped 2 1 ∷ ended_replaced

pub whole_not_replaced : IsWholeRun plan_replaced closed_not_replaced
whole_not_replaced = ([], search rules, search rules)

not_replaced : var (receivers plan_replaced.jobs) closed_not_replaced m ≡ Object 1
not_replaced = refl

held_past_a_skip : AreDead (receivers plan_replaced.jobs) closed_not_replaced []
held_past_a_skip = dead_but plan_replaced closed_not_replaced (m ∷ []) [] refl

-- A buffer that was posted does not stay for that: here it is emptied, and a WeakRef gives undefined

abbrev pub plan_posted : AgentPlan
plan_posted = plan_of ((SharedArrayBuffer s 1 ∷ WeakRef w s ∷ Post 1 s ∷ Let s NoLiteral ∷ []) ∷ (Collect ∷ Deref x w ∷ Say x ∷ []) ∷ [])

abbrev pub begun_posted : History
begun_posted = JobBegun 2 ∷ JobEnded ∷ Did (Let s NoLiteral, [], Gives Undefined) ∷ posted s (Object 1) ∷ Did (WeakRef w s, Object 1 ∷ [], Gives (Object 2)) ∷ made_buffer s 1 1 ∷ JobBegun 1 ∷ []

abbrev pub closed_posted : History
closed_posted = Closed ∷ JobEnded ∷ said x Undefined ∷ Did (Deref x w, Object 2 ∷ [], Gives Undefined) ∷ Emptied (1 ∷ []) ∷ begun_posted

pub dead_posted : AreDead (receivers plan_posted.jobs) begun_posted (1 ∷ [])
dead_posted = dead_but plan_posted begun_posted (w ∷ []) (1 ∷ []) refl

pub worked_posted : IsWorked one_word plan_posted closed_posted (codes "agent a\nemptied 1\nsay undefined\nend live 0 awaiting 0 unregistered 0 taken 0\n")
unfolding digits
worked_posted = record { whole = (search rules, search (rules, dead_posted)); report = refl }

-- A cleanup job comes before a message

abbrev pub plan_cleanup : AgentPlan
plan_cleanup = record { name = codes "a"; callbacks = callback_of [] ∷ []; jobs = job_of (FinalizationRegistry r 1 ∷ New x ∷ Register r x u None ∷ Let x NoLiteral ∷ Collect ∷ []) ∷ job_on 1 m (Say m ∷ []) ∷ [] }

abbrev pub forgot_x : History
forgot_x = Did (Let x NoLiteral, [], Gives Undefined) ∷ Did (Register r x u None, Object 1 ∷ Object 2 ∷ Undefined ∷ [], Nothing) ∷ made_new x 2 ∷ Did (FinalizationRegistry r 1, [], Gives (Object 1)) ∷ JobBegun 1 ∷ []

abbrev pub ended_cleanup : History
ended_cleanup = JobEnded ∷ Emptied (2 ∷ []) ∷ forgot_x

abbrev pub taken_cleanup : History
taken_cleanup = Taken 1 Undefined ∷ CleanupBegun 1 ∷ ended_cleanup

abbrev pub cleaned : History
cleaned = JobEnded ∷ taken_cleanup

abbrev pub closed_cleanup : History
closed_cleanup = Closed ∷ JobEnded ∷ said m (Boolean true) ∷ JobBegun 2 ∷ Received 1 (Boolean true) ∷ cleaned

abbrev pub closed_cleanup_skipped : History
closed_cleanup_skipped = Closed ∷ Skipped 2 1 ∷ cleaned

pub dead_cleanup : AreDead (receivers plan_cleanup.jobs) forgot_x (2 ∷ [])
dead_cleanup = dead_but plan_cleanup forgot_x (r ∷ []) (2 ∷ []) refl

pub worked_cleanup : IsWorked [] plan_cleanup closed_cleanup (codes "agent a\nemptied 1\ncleanup 1 held undefined\nsay true\nend live 0 awaiting 0 unregistered 0 taken 1\n")
unfolding digits
worked_cleanup = record { whole = (search rules, search (rules, dead_cleanup)); report = refl }

pub worked_cleanup_skipped : IsWorked [] plan_cleanup closed_cleanup_skipped (codes "agent a\nemptied 1\ncleanup 1 held undefined\nskipped 2\nend live 0 awaiting 0 unregistered 0 taken 1\n")
unfolding digits
worked_cleanup_skipped = record { whole = (search rules, search (rules, dead_cleanup)); report = refl }

-- the line of a skip has the number of the job, not the sender's
-- What is posted, and what is not

abbrev pub plan_posts : AgentPlan
plan_posts =
    plan_of
    ((Post 1 u ∷ Let b (BooleanLiteral true) ∷ Post 1 b ∷ Let n (NumberLiteral (pos 1)) ∷ Post 1 n ∷ Let t (TextLiteral k) ∷ Post 1 t ∷ SymbolFor f k ∷ Post 1 f ∷ SharedArrayBuffer s 1 ∷ Post 1 s ∷ Post 1 s ∷ [])
    ∷ (New o ∷ Post 1 o ∷ [])
    ∷ (WeakRef w o ∷ Post 1 w ∷ [])
    ∷ (Symbol s ∷ Post 1 s ∷ [])
    ∷ [])

-- a buffer that was posted can be posted again
abbrev pub ended_posts : History
ended_posts =
    JobEnded ∷ posted s (Object 1)
    ∷ posted s (Object 1) ∷ made_buffer s 1 1
    ∷ posted f (Registered k) ∷ Did (SymbolFor f k, [], Gives (Registered k))
    ∷ posted t (Text k) ∷ Did (Let t (TextLiteral k), [], Gives (Text k))
    ∷ posted n (Number (pos 1)) ∷ Did (Let n (NumberLiteral (pos 1)), [], Gives (Number (pos 1)))
    ∷ posted b (Boolean true) ∷ Did (Let b (BooleanLiteral true), [], Gives (Boolean true))
    ∷ posted u Undefined ∷ JobBegun 1 ∷ []

abbrev pub refused_object : History
refused_object =
    JobEnded ∷ Refused NotPostable
    ∷ made_new o 2 ∷ JobBegun 2 ∷ ended_posts

abbrev pub closed_posts : History
closed_posts =
    Closed ∷ JobEnded ∷ Refused NotPostable
    ∷ Did (Symbol s, [], Gives (SymbolValue 4)) ∷ JobBegun 4
    ∷ JobEnded ∷ Refused NotPostable
    ∷ Did (WeakRef w o, Object 2 ∷ [], Gives (Object 3)) ∷ JobBegun 3 ∷ refused_object

pub whole_posts : IsWholeRun plan_posts closed_posts
whole_posts = (one_word, search rules, search rules)

pub reported_posts : agent_text plan_posts.name (reverse refused_object) ≡ codes "agent a\nerror DataCloneError: value cannot be posted\nend live 0 awaiting 0 unregistered 0 taken 0\n"
unfolding digits
reported_posts = refl

-- a buffer that was received can be posted on
received_is_postable : refusal four_words begun_buffer (Post 2 m) (Object 1 ∷ []) ≡ None
received_is_postable = refl

-- A buffer for which there is no room: its receipt is refused, and the job ends

-- what may come where job 1 waits for the message of agent 1
abbrev pub MayCome : Buffers → AgentPlan → History → Event → Type 0
MayCome over plan h e = due plan h ≡ receive 1 1 → Permits over (receivers plan.jobs) h (due plan h) e

refused_receipt : (over : Buffers) (plan : AgentPlan) (h : History) → made h ≡ 1000000 → MayCome over plan h (Refused TooManyValues)
refused_receipt over plan h full at = subst (λ d. Permits over (receivers plan.jobs) h d (Refused TooManyValues)) (sym at) (refl, rw full refl)

-- for no other reason
refused_otherwise : (over : Buffers) (plan : AgentPlan) (h : History) → due plan h ≡ receive 1 1 → Permits over (receivers plan.jobs) h (due plan h) (Refused TooManyPosts) → ⊥
refused_otherwise over plan h at p = let code = (subst (λ d. Permits over (receivers plan.jobs) h d (Refused TooManyPosts)) at p).0 in cc

-- and not where there is room
refused_with_room : (over : Buffers) (plan : AgentPlan) (h : History) → made h ≡ 999999 → due plan h ≡ receive 1 1 → Permits over (receivers plan.jobs) h (due plan h) (Refused TooManyValues) → ⊥
refused_with_room over plan h made at p = let test = rw made at (subst (λ d. Permits over (receivers plan.jobs) h d (Refused TooManyValues)) at p).1 in cc

-- no buffer is received there
no_room_for_a_received : (over : Buffers) (plan : AgentPlan) (h : History) → made h ≡ 1000000 → due plan h ≡ receive 1 1 → Permits over (receivers plan.jobs) h (due plan h) (Received 1 (Object 1000001)) → ⊥
no_room_for_a_received over plan h full at p = let test = rw full at (subst (λ d. Permits over (receivers plan.jobs) h d (Received 1 (Object 1000001))) at p).1 in cc

-- the last one is
room_for_one_more : (over : Buffers) (plan : AgentPlan) (h : History) → made h ≡ 999999 → MayCome over plan h (Received 1 (Object 1000000))
room_for_one_more over plan h last at = subst (λ d. Permits over (receivers plan.jobs) h d (Received 1 (Object 1000000))) (sym at) (refl, rw last refl)

-- and what has no identity needs no room
number_needs_none : (over : Buffers) (plan : AgentPlan) (h : History) → made h ≡ 1000000 → MayCome over plan h (Received 1 (Number (pos 1)))
number_needs_none over plan h full at = subst (λ d. Permits over (receivers plan.jobs) h d (Received 1 (Number (pos 1)))) (sym at) (refl, tt)

-- a refused receipt assigns nothing
refused_assigns_nothing : (h : History) → var (receivers plan_buffer.jobs) (Refused TooManyValues ∷ h) m ≡ var (receivers plan_buffer.jobs) h m
refused_assigns_nothing h = refl

-- A refused receipt stops the job before it begins, and the next job is due

-- as if there had been no room
abbrev pub after_refusal : History
after_refusal = JobEnded ∷ Refused TooManyValues ∷ []

ends_next : due plan_buffer (Refused TooManyValues ∷ []) ≡ end_job
ends_next = refl

next_job : due plan_buffer after_refusal ≡ begin 2
next_job = refl
