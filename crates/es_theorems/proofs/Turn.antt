-- An agent that is asked takes a turn: its next event, or it waits on, or it has ended.
use Rattle.std.proofs.Common.{◌≡◌, ◌≢◌, ℕ, zero, suc, ◌+◌, ◌^◌, ◌<◌, ◌≤◌, ◌==◌, ◌&&◌, ◌||◌, Bool, true, false, cond, if◌then◌else◌, not, sym, ◌∙◌, ap, refl, subst, arith, eq-eqb, nat_lt, List, [], ◌∷◌, map, Option, Some, None, Result, Ok, Err, inl, inr}
use Rattle.std.specs.Prelude.{ℤ, pos, negsuc, is_some, slice_index_or}
use Rattle.std.specs.List.{Contains, list_all}
use Rattle.std.proofs.lemmas.Bool.{ltb-true}
use Rattle.std.proofs.lemmas.List.{length-take}
use Rattle.std.proofs.lemmas.Nat.{and_le_l, or_lt, xor_lt}
use Rattle.es_value.specs.Limits.{most_agents, most_identities}
use Rattle.es_value.specs.Values.{is_same}
use Rattle.es_value.specs.declared.value.Value.{Value}
use Rattle.es_value.specs.declared.value.Value.TheVariants.{Number, Object, Text, Undefined}
use Rattle.es_event.specs.declared.access.Access.{Access}
use Rattle.es_event.specs.declared.access.Change.{Change}
use Rattle.es_event.specs.declared.access.Edit.{Edit}
use Rattle.es_event.specs.declared.access.Modification.{Modification}
use Rattle.es_event.specs.declared.access.Task.{Task}
use Rattle.es_event.specs.declared.access.WaitResult.{WaitResult}
use Rattle.es_event.specs.declared.atomic.Operation.{Operation}
use Rattle.es_event.specs.declared.command.Command.{Command}
use Rattle.es_event.specs.declared.command.Command.TheVariants.{Atomic, Let, Post}
use Rattle.es_event.specs.declared.event.Answer.{Answer}
use Rattle.es_event.specs.declared.event.Answer.TheVariants.{Nothing, Gives}
use Rattle.es_event.specs.declared.event.Event.{Event}
use Rattle.es_event.specs.declared.event.Event.TheVariants.{JobBegun, CleanupBegun, Received, Did, Refused, Emptied, Taken as TakenCell, JobEnded, Skipped, Closed}
use Rattle.es_event.specs.declared.event.Refusal.{Refusal}
use Rattle.es_event.specs.declared.event.Refusal.TheVariants.{TooManyValues}
use Rattle.es_event.specs.declared.ledger_event.Body.{Body}
use Rattle.es_event.specs.declared.ledger_event.Body.TheVariants.{Plain, Block}
use Rattle.es_event.specs.declared.ledger_event.LedgerEvent.{LedgerEvent}
use Rattle.es_event.specs.declared.ledger_event.LedgerEvent.TheVariants.{Opened, Posted, Taken, Spent, Accessed, Acted}
use Rattle.es_event.specs.declared.ledger_event.Act.TheVariants.{Waiting as WaitingEvent, Passed, Ended as EndedEvent, Slept, Notified, Woke, TimedOut}
use Rattle.es_event.specs.declared.literal.Literal.{Literal}
use Rattle.es_event.specs.declared.operand.Operand.{Operand}
use Rattle.es_event.specs.declared.row.Row.{Row}
use Rattle.es_event.specs.Access.{to_uint32, IsStorable, change_by, edit_of, wait_text}
use Rattle.es_event.specs.Commands.{reads, first}
use Rattle.es_event.specs.Heard.{silence}
use Rattle.es_event.specs.History.{History}
use Rattle.es_event.specs.Identities.{is_in, is_there, made}
use Rattle.es_event.specs.Jobs.{receivers}
use Rattle.es_event.specs.Ledger.{Ledger, opened, serials, size, front, holder_of, word, waits, ended}
use Rattle.es_event.specs.LegalLedger.{LegalLedger, MayCome, Reaches, ReachesAs, has_message, is_chosen, owed, skips}
use Rattle.es_event.specs.Numbers.{access_of, count_of, cut, index_of, most_taken, number_of, number_or_0, task_by, task_of, word_at, words_read}
use Rattle.es_event.specs.Late.{AreLate}
use Rattle.es_event.specs.Later.{derefed_since}
use Rattle.es_event.specs.Legal.{is_rising, values_of, Lawful}
use Rattle.es_event.specs.Order.{Due, begin, receive, run, clean, take_cell, finish, end_job, close, nothing, due}
use Rattle.es_event.specs.Follows.{Permits}
use Rattle.es_event.specs.Report.{refusal_text}
use Rattle.es_event.specs.Rows.{row}
use Rattle.es_event.specs.Rules.{completion, refusal}
use Rattle.es_event.specs.Waiters.{asleep, is_listed, list_at, taken_there}
use Rattle.es_event.proofs.Entries.{inner}
use Rattle.es_event.proofs.Finishing.{is_open}
use Rattle.es_event.proofs.Listing.{TheDead, the_dead, dead_there}
use Rattle.es_event.proofs.Next.{SomeAt, some_next, takes_next}
use Rattle.es_match.specs.Meets.{Tickets}
use Rattle.es_match.specs.Deeds.{Accesses, Ends, Notifies, Passes, Waits}
use Rattle.es_ticket.specs.Stakes.{StakeView, among, at}
use Rattle.es_ledger.specs.LedgerView.{LedgerView}
use Rattle.es_ledger.specs.Sleeps.{rested, roused}
use Rattle.es_ledger.specs.Turns.{asked, judged, told, waits_for}
use Rattle.es_ledger.specs.declared.turn.Turn.{Turn as Told}
use Rattle.es_ledger.specs.declared.turn.Turn.TheVariants.{Ready, Stay, Skip}
use Rattle.es_ledger.proofs.Tying.{next_legal}
use Rattle.es_record.specs.AgentView.{AgentView, IsNext, with_buffer}
use Rattle.es_rules.specs.Giving.{MayGive}
use Rattle.es_rules.specs.Needs.{Need, Request, for_block, for_post, for_buffer_post, for_word, asked as asked_of, asks_nobody, asks_marks, asks_copy, asks_late_marks, asks_ledger, asks_message, asks_closing, asks_nothing, need, need_of, Brings, TakesDone, TakesTicket, TakesWaitResult, TakesWord}
use Rattle.es_rules.proofs.Answering.{block_next, buffer_received, done_next, job_skipped, caught_next, local_done, may_give_nothing, may_give_wait_result, may_give_word, message_refused, refused_next, refuses_due, value_received}
use Rattle.es_rules.proofs.Needs.{finish_due, ledger_due, local_command, message_due, not_refused}
use Rattle.es_agent.specs.Later.{opening}
use Rattle.es_agent.specs.Tickets.{Admits, AreLateNow, Collects, DoesWith, Finishes, Receives, RefusesMessage, Skips, tickets, Empties}
use Rattle.es_agent.proofs.Racks.{dead_next, late_next, ticket_named}
use Rattle.es_cluster.specs.Members.{rows_of}
use Rattle.es_cluster.specs.Midway.{IsReady, answer_to, asks_to_sleep, wait_result}
use Rattle.es_cluster.specs.Tied.{GrowsBy, IsSettled, AreDeedsOf}
use Rattle.es_cluster.specs.Turned.{GrowsByOne, IsSeated, NamesOthers, WaitsRightly, spent}
use Rattle.es_cluster.specs.declared.member.Progress.{Progress}
use Rattle.es_cluster.specs.declared.member.Progress.TheVariants.{Moved, Waiting, Ended}
use Rattle.es_cluster.proofs.Aims.{aims_at_ticket, aims_inside, open_for, posts_plain}
use Rattle.es_cluster.proofs.CountingTickets.{spent_over, ticket_held}
use Rattle.es_cluster.proofs.Growing.{grows_none, grows_on, grows_one}
use Rattle.es_cluster.proofs.Hearing.{goes_on, goes_on_ready, skipped_ties, stay_ties}
use Rattle.es_cluster.proofs.Local.{AreNamed}
use Rattle.es_cluster.proofs.Midway.{awake as awake_of, free}
use Rattle.es_cluster.proofs.MovingMembers.{Step, admitted_moves, admitted_step, closed_moves, collected_moves, collected_step, done_stays, keeps, local_leaves, no_step, opened_leaves, received_stays, refused_stays, skipped_stays}
use Rattle.es_cluster.proofs.Sleeping.{Rested, begun_at, by_rest, goes_on_at, rested_grows, rested_ties, resting_so, sleeps_now, sleeps_on_so}
use Rattle.es_cluster.proofs.Tying.{access_ties, admitted_ties, buffer_ties, closed_ties, collected_ties, finished_ties, local_ties, notify_ties, opened_ties, opening_grows, opens, owned, post_grows, post_ties, receive_ties, refused_ties, spending_grows, takes, taking_grows}
use Rattle.es_cluster.proofs.Mover.{asked_awaits, asked_ends, by_asked}
use Rattle.es_theorems.proofs.Calm.{post_no_word, word_asked}
use Rattle.es_theorems.specs.Going.{AllHeld, Going, Standing, Turn}
use Rattle.es_theorems.proofs.Holding.{held_taken, holds_it, front_plain, word_small}
use Rattle.es_theorems.proofs.Rack.{apart_picked, held_picked, spend_all}

-- An agent with its stake

abbrev stake : AgentView → StakeView
stake b = record { agent = b.number; rows = rows_of b }

-- the ledger with this history
abbrev pub with_history : LedgerView → Ledger → LedgerView
with_history l m = record { agents = l.agents; history = m }

held_contains : (n : ℕ) (l : Ledger) (ts : Tickets) (r : Row) → AllHeld n l ts → Contains (map (λ t. t.1) ts) r → holder_of l r.serial ≡ Some (n, r)
held_contains n l [] r held c = let less = c.1 in absurd (omega (arith, less))
held_contains n l (t ∷ ts) r held (zero, less, same) = subst (λ r. holder_of l r.serial ≡ Some (n, r)) same held.0
held_contains n l (t ∷ ts) r held (suc k, less, same) = held_contains n l ts r held.1 (k, omega (arith, less), same)

pub held_at : (n o : ℕ) (l : Ledger) (ts : Tickets) (r : Row) → AllHeld n l ts → Some r ≡ at o ts → holder_of l r.serial ≡ Some (n, r)
held_at n o l [] r held is = cc
held_at n o l (t ∷ ts) r held is = step (t.0 == o) is (held_at n o l ts r held.1)
  where
    step : (b : Bool) → Some r ≡ cond b (Some t.1) (at o ts) → (Some r ≡ at o ts → holder_of l r.serial ≡ Some (n, r)) → holder_of l r.serial ≡ Some (n, r)
    step true is ih = subst (λ r. holder_of l r.serial ≡ Some (n, r)) (inner (sym is)) held.0
    step false is ih = ih is

ready : (b : AgentView) (l : LedgerView) → Standing b l → IsReady b (stake b) l
ready b l x = record {
  held = (refl, λ p. refl);
  seated = x.seated;
  tied = x.tied;
  legal = x.legal;
  holder = λ r c. held_contains b.number l.history (tickets b) r x.going.rack.held c;
}

named : (b : AgentView) (l : Ledger) → Going b l → AreNamed b
named b l g o r is = ticket_named b o r g.rising is

-- What a turn leaves

seat : (b new : AgentView) (l : LedgerView) (m : Ledger) → IsSeated b l → Step b new → ended m b.number ≡ ended l.history b.number → GrowsBy b.number l.history m → IsSeated new (with_history l m)
seat b new l m seated step over grows = (keeps b new l (with_history l m) (stake new) step (refl, λ p. refl) refl over grows).seated seated

-- its next event is recorded, and its deeds are done
moves_to : (b new : AgentView) (l : LedgerView) (m : Ledger) → Standing b l → Step b new → GrowsByOne b new → WaitsRightly Moved b l (with_history l m) → GrowsBy b.number l.history m → IsSettled new m → ended m b.number ≡ ended l.history b.number
    → LegalLedger l.agents m → Turn Moved b l
moves_to b new l m x step takes told grows tied over legal = record {
  after = new;
  ledger = with_history l m;
  takes = takes;
  told = told;
  grows = grows;
  number = refl;
  tied = tied;
  seated = seat b new l m x.seated step over grows;
  legal = legal;
}

-- it asks for no message, and not to sleep, so it was not told to stay
unasked : (b : AgentView) (l m : LedgerView) (d : Need) → need b ≡ d → asks_to_sleep d ≡ false → ((s : ℕ) → d ≡ asks_message s → ⊥) → WaitsRightly Moved b l m
unasked b l m d is quick other =
    (λ s asks. absurd (other s (sym is ∙ asks)), λ o i w r asks here. (let clash : true ≡ false = sym (ap asks_to_sleep asks) ∙ ap asks_to_sleep is ∙ quick in cc))

-- A step that it takes alone

permitted_at : (b : AgentView) (d : Due) (e : Event) → due b.plan b.history ≡ d → Lawful b.over (receivers b.plan.jobs) b.history e → Permits b.over (receivers b.plan.jobs) b.history d e → IsNext b e
permitted_at b d e is lawful permits = record { lawful = lawful; permitted = subst (λ d. Permits b.over (receivers b.plan.jobs) b.history d e) (sym is) permits }

local_command_next : (b : AgentView) (x : Option (List ℕ)) (c : Command) (o : Result Answer Refusal) → due b.plan b.history ≡ run x c → need_of b (run x c) ≡ asks_nobody → completion b.over b.history c (values_of (receivers b.plan.jobs) b.history (reads c)) silence ≡ o → (e : Event) × IsNext b e
local_command_next b x c (Ok r) is asks gives =
    let alone = local_command b x c asks in
    let vs = values_of (receivers b.plan.jobs) b.history (reads c) in
    (Did (c, vs, r), local_done b c vs r (x, is) alone.0 alone.1 refl gives)
local_command_next b None c (Err code) is asks gives = (Refused code, refused_next b c code is (refuses_due b c (values_of (receivers b.plan.jobs) b.history (reads c)) code refl gives))
local_command_next b (Some x) c (Err code) is asks gives =
    (Did (Let x (Literal.Text (refusal_text code)), [], Answer.Gives (Value.Text (refusal_text code))), caught_next b x c code is (refuses_due b c (values_of (receivers b.plan.jobs) b.history (reads c)) code refl gives))

local_at : (b : AgentView) (d : Due) → due b.plan b.history ≡ d → need_of b d ≡ asks_nobody → (e : Event) × IsNext b e
local_at b (begin n) is asks = (JobBegun n, permitted_at b (begin n) (JobBegun n) is tt refl)
local_at b (receive n s) is asks = cc
local_at b (run x c) is asks = local_command_next b x c (completion b.over b.history c (values_of (receivers b.plan.jobs) b.history (reads c)) silence) is asks refl
local_at b (clean r) is asks = (CleanupBegun r, permitted_at b (clean r) (CleanupBegun r) is tt refl)
local_at b (take_cell n) is asks =
    let some : SomeAt b.over (receivers b.plan.jobs) b.history (take_cell n) = subst (SomeAt b.over (receivers b.plan.jobs) b.history) is (some_next b.over b.plan b.history (λ none. let clash : nothing ≡ take_cell n = sym none ∙ is in cc)) in
    let cell = takes_next some.more (receivers b.plan.jobs) b.history n some.event some.lawful some.permitted in
    (TakenCell n cell.held, permitted_at b (take_cell n) (TakenCell n cell.held) is (cell.held_is, cell.awaited) refl)
local_at b (finish p) is asks = cc
local_at b end_job is asks = (JobEnded, permitted_at b end_job JobEnded is tt tt)
local_at b close is asks = cc
local_at b nothing is asks = cc

alone : (b : AgentView) (l : LedgerView) → Standing b l → need b ≡ asks_nobody → Turn Moved b l
alone b l x is =
    let next = local_at b (due b.plan b.history) refl is in
    let new = record b { history = next.0 ∷ b.history } in
    let stays = local_leaves b new is (next.0, next.1, refl) in
    moves_to b new l l.history x stays.step stays.moves (unasked b l l asks_nobody is refl (λ s e. cc)) (grows_none b.number l.history)
    (local_ties b new (stake b) l (ready b l x) is x.going.run (named b l.history x.going) (next.0, next.1, refl)) refl x.legal

copied : (b : AgentView) (l : LedgerView) → Standing b l → need b ≡ asks_copy → Turn Moved b l
copied b l x is =
    let new = record b { history = opening ∷ b.history } in
    let stays = opened_leaves b new is refl in
    moves_to b new l l.history x stays.step stays.moves (unasked b l l asks_copy is refl (λ s e. cc)) (grows_none b.number l.history) (opened_ties b new (stake b) l (ready b l x) is refl) refl x.legal

-- An emptying

-- these are emptied, and their tickets spent
emptied : {chosen : List ℕ → Type 0} (b new : AgentView) (l : LedgerView) (d : Need) (ids : List ℕ) (x : Standing b l) → need b ≡ d → asks_to_sleep d ≡ false → ((s : ℕ) → d ≡ asks_message s → ⊥) → Empties chosen b (among ids (tickets b)) new
    → (AreDeedsOf b.number (map (λ t. Spent t.1.serial) (among ids (tickets b))) l.history → IsSettled new (spent (among ids (tickets b)) l.history)) → Turn Moved b l
emptied b new l d ids x is quick other empties ties =
    let m = spent (among ids (tickets b)) l.history in
    let all =
    spend_all l.agents b.number l.history (among ids (tickets b)) x.legal.0 x.legal.1 (held_picked (λ t. is_in ids t.0) b.number l.history (tickets b) x.going.rack.held) (apart_picked (λ t. is_in ids t.0) (tickets b) x.going.rack.apart) in
    moves_to b new l m x (collected_step b new (among ids (tickets b)) empties) (collected_moves b new (among ids (tickets b)) empties) (unasked b l (with_history l m) d is quick other)
    (map (λ t. Spent t.1.serial) (among ids (tickets b)), refl, all.deeds) (ties all.deeds) (spent_over (among ids (tickets b)) l.history b.number) (all.legal, all.owes)

collected : (b : AgentView) (l : LedgerView) → Standing b l → need b ≡ asks_marks → Turn Moved b l
collected b l x is =
    let dead : TheDead (receivers b.plan.jobs) b.history = the_dead (receivers b.plan.jobs) b.history in
    let next = dead_next b dead.list is dead.dead (dead_there (receivers b.plan.jobs) b.history dead.list dead.dead) dead.rising in
    let new = record b { history = Emptied dead.list ∷ b.history } in
    let out = among dead.list (tickets b) in
    let collects : Collects b out new = (dead.list, dead.dead, next, refl, refl) in
    emptied b new l asks_marks dead.list x is refl (λ s e. cc) collects (λ deeds. collected_ties b new (stake b) l (spent out l.history) out (ready b l x) is collects deeds refl)

-- all that is late is emptied
record LateNow (b : AgentView) : Type 0 where
  ids : List ℕ
  late : AreLateNow b ids
  there : list_all (is_there b.history) ids ≡ true
  rising : is_rising ids ≡ true

late_now : (b : AgentView) → need b ≡ asks_late_marks → LateNow b
late_now b is = at finished.0 finished.1 some.event some.lawful some.permitted
  where
    finished : (p : History) × (due b.plan b.history ≡ finish p)
    finished = finish_due b (due b.plan b.history) is

    some : SomeAt b.over (receivers b.plan.jobs) b.history (finish finished.0)
    some = subst (SomeAt b.over (receivers b.plan.jobs) b.history) finished.1 (some_next b.over b.plan b.history (λ none. let clash : nothing ≡ finish finished.0 = sym none ∙ finished.1 in cc))

    at : (p : History) → due b.plan b.history ≡ finish p → (e : Event) → Lawful some.more (receivers b.plan.jobs) b.history e → Permits some.more (receivers b.plan.jobs) b.history (finish p) e → LateNow b
    at p here (Emptied ids) lawful late = record {
      ids = ids;
      late = λ q shot.
          (let same : p ≡ q = inner (sym (is_open b.plan b.history p here) ∙ shot) in
          subst (λ q. AreLate (receivers b.plan.jobs) q (derefed_since b.history) ids) same late);
      there = lawful.0;
      rising = lawful.1;
    }
    at p here _ lawful late = absurd late

finished : (b : AgentView) (l : LedgerView) → Standing b l → need b ≡ asks_late_marks → Turn Moved b l
finished b l x is =
    let late : LateNow b = late_now b is in
    let next = late_next b late.ids is late.late late.there late.rising in
    let new = record b { history = Emptied late.ids ∷ b.history } in
    let out = among late.ids (tickets b) in
    let finishes : Finishes b out new = (late.ids, late.late, next, refl, refl) in
    emptied b new l asks_late_marks late.ids x is refl (λ s e. cc) finishes (λ deeds. finished_ties b new (stake b) l (spent out l.history) out (ready b l x) is finishes deeds refl)

-- What it asks the ledger for

opened_block : (b : AgentView) (l : LedgerView) (n : ℕ) → Standing b l → need b ≡ asks_ledger (for_block n) → Turn Moved b l
opened_block b l n x is =
    let r = row (serials l.history + 1) (opened l.history + 1) n in
    let at = ledger_due b (due b.plan b.history) (for_block n) is in
    let fits : TakesTicket (need b) r = subst (λ d. TakesTicket d r) (sym is) refl in
    let e = Did (at.0, [], Gives (Object (made b.history + 1))) in
    let new = record (with_buffer r b) { history = e ∷ b.history } in
    let m = Opened (opened l.history + 1) n (serials l.history + 1) b.number ∷ l.history in
    let admits : Admits b r new = (e, subst (λ d. Brings d (made b.history + 1) e) (sym at.1.1) refl, block_next b at.0 r fits at.1, refl) in
    let grows = opening_grows b l.history m b.number (opened l.history + 1) n (serials l.history + 1) refl refl in
    let fetched = opens b (stake b) l m n r (ready b l x) is refl refl in
    moves_to b new l m x (admitted_step b new r admits) (admitted_moves b new r admits) (unasked b l (with_history l m) (asks_ledger (for_block n)) is refl (λ s e. cc)) grows
    (admitted_ties b new m r x.going.run fetched admits) refl
    (next_legal l.agents l.history (Opened (opened l.history + 1) n (serials l.history + 1) b.number) x.legal (refl, refl, x.seated.known) refl)

-- the due command is done with this answer
done : (b : AgentView) (a : Answer) → (may : MayGive b a) → (new : AgentView) × DoesWith b a new
done b a may =
    let e = Did (may.command, values_of (receivers b.plan.jobs) b.history (reads may.command), a) in
    (record b { history = e ∷ b.history }, (e, (may.command, may.is_due, refl), done_next b a may.command may may.is_due, refl))

-- a command that is done in the ledger
done_there : (b : AgentView) (l : LedgerView) (r : Request) (a : Answer) (e : LedgerEvent) → Standing b l → need b ≡ asks_ledger r → asks_to_sleep (asks_ledger r) ≡ false → (may : MayGive b a) → ended (e ∷ l.history) b.number ≡ ended l.history b.number
    → GrowsBy b.number l.history (e ∷ l.history) → MayCome l.agents l.history e → owed (e ∷ l.history) ≡ None → ((new : AgentView) → DoesWith b a new → IsSettled new (e ∷ l.history)) → Turn Moved b l
done_there b l r a e x is quick may over grows comes owes ties =
    let does = done b a may in
    let stays = done_stays b does.0 a does.1 in
    moves_to b does.0 l (e ∷ l.history) x stays.step stays.moves (unasked b l (with_history l (e ∷ l.history)) (asks_ledger r) is quick (λ s f. cc)) grows (ties does.0 does.1) over (next_legal l.agents l.history e x.legal comes owes)

posted : (b : AgentView) (l : LedgerView) (a : ℕ) (v : Value) → Standing b l → need b ≡ asks_ledger (for_post a v) → Turn Moved b l
posted b l a v x is =
    let e = Posted b.number a (Plain v) in
    let plain = posts_plain b a v is in
    let others : (a < l.agents) × (b.number ≢ a) = subst (λ d. NamesOthers d b.number l.agents) is x.others in
    done_there b l (for_post a v) Nothing e x is refl (may_give_nothing b (subst TakesDone (sym is) tt)) refl (post_grows b l.history (e ∷ l.history) b.number a (Plain v) refl refl)
    (x.seated.known, others.0, others.1, plain) refl
    (λ new does. post_ties b new (stake b) l (e ∷ l.history) b.number a v (ready b l x) is plain refl refl does)

-- the ticket of the buffer object that is asked for
ticket_of : (b : AgentView) (l : Ledger) (o : ℕ) → Going b l → is_some (at o (tickets b)) ≡ true → (r : Row) × (Some r ≡ at o (tickets b)) × (holder_of l r.serial ≡ Some (b.number, r))
ticket_of b l o g there = step (at o (tickets b)) refl there
  where
    step : (q : Option Row) → at o (tickets b) ≡ q → is_some q ≡ true → (r : Row) × (Some r ≡ at o (tickets b)) × (holder_of l r.serial ≡ Some (b.number, r))
    step None here some = cc
    step (Some r) here some = (r, sym here, held_at b.number o l (tickets b) r g.rack.held (sym here))

posted_buffer : (b : AgentView) (l : LedgerView) (a o : ℕ) → Standing b l → need b ≡ asks_ledger (for_buffer_post a o) → Turn Moved b l
posted_buffer b l a o x is =
    let t = ticket_of b l.history o x.going (aims_at_ticket b (for_buffer_post a o) o x.going.run is refl) in
    let r = t.0 in
    let k = serials l.history + 1 in
    let e = Posted b.number a (Block r.block k) in
    let others : (a < l.agents) × (b.number ≢ a) = subst (λ d. NamesOthers d b.number l.agents) is x.others in
    done_there b l (for_buffer_post a o) Nothing e x is refl (may_give_nothing b (subst TakesDone (sym is) tt)) refl (post_grows b l.history (e ∷ l.history) b.number a (Block r.block k) refl refl)
    (x.seated.known, others.0, others.1, (refl, holds_it l.history r.serial b.number r t.2)) refl
    (λ new does. buffer_ties b new (stake b) l (e ∷ l.history) a o k r (ready b l x) is t.1 refl does)

-- a word that is stored has 32 bits
small_word : (n : ℤ) → to_uint32 n < 2 ^ 32
small_word (pos a) = omega arith
small_word (negsuc a) = omega arith

small_at : (k : ℕ) (ns : List (Result ℤ Refusal)) → word_at k ns < 2 ^ 32
small_at k ns = small_word (number_or_0 (slice_index_or ns k (Ok (pos 0))))

storable_modified : (how : Modification) (n old : ℕ) → n < 2 ^ 32 → old < 2 ^ 32 → IsStorable (change_by (Edit.Modify how n) old)
storable_modified Modification.Add n old few small = tt
storable_modified Modification.Sub n old few small = omega arith
storable_modified Modification.And n old few small = (let less = and_le_l old n in omega (arith, less, small))
storable_modified Modification.Or n old few small = or_lt 32 old n small few
storable_modified Modification.Xor n old few small = xor_lt 32 old n small few
storable_modified Modification.Exchange n old few small = few

storable_of : (o : Operation) (v w old : ℕ) → v < 2 ^ 32 → w < 2 ^ 32 → old < 2 ^ 32 → IsStorable (change_by (edit_of o v w) old)
storable_of (Operation.Load to) v w old few next small = tt
storable_of (Operation.Store n) v w old few next small = few
storable_of (Operation.Modify to how n) v w old few next small = storable_modified how v old few small
storable_of (Operation.Wait to n) v w old few next small = tt
storable_of (Operation.Notify to c) v w old few next small = tt
storable_of (Operation.CompareExchange to e r) v w old few next small = if_written (old == v)
  where
    if_written : (b : Bool) → IsStorable (cond b (Change.Write w) Change.Keep)
    if_written true = next
    if_written false = tt

-- what a command does at a word, where it asks for an access
access_is : (o : Operation) (m a : Access) (w : ℕ) (ns : List Value) → task_by o m w ns ≡ Task.Access a → m ≡ a
access_is (Operation.Wait to n) m a w ns is = cc
access_is _ m a w ns is = cc

storable_asked : (c : Command) (vs : List Value) (o i old : ℕ) (a : Access) → asked_of c vs ≡ Some (for_word o i (Task.Access a)) → old < 2 ^ 32 → IsStorable (change_by a.edit old)
storable_asked (Atomic c) vs o i old a is small =
    subst (λ (a : Access). IsStorable (change_by a.edit old)) (access_is c.operation (access_of c vs) a _ _ (word_asked (first vs) (index_of c vs) (task_of c vs) (Task.Access a) o i is))
    (storable_of c.operation (word_at 0 (words_read c vs)) (word_at 1 (words_read c vs)) old (small_at 0 (words_read c vs)) (small_at 1 (words_read c vs)) small)
storable_asked (Post t y) vs o i old a is small = absurd (post_no_word t (first vs) o i (Task.Access a) is)
storable_asked _ vs o i old a is small = cc

-- and what it counts, where it notifies
cut_small : (n : ℤ) → cut n ≤ most_agents
cut_small (pos n) = by (nat_lt n most_agents) refl
  where
    by : (b : Bool) → nat_lt n most_agents ≡ b → cond b n most_agents ≤ most_agents
    by true less = let small = ltb-true n most_agents less in omega (arith, small)
    by false less = omega arith
cut_small (negsuc n) = omega arith

count_small : (v : Value) → count_of v ≤ most_agents
count_small v = by (is_same v Undefined) (number_or_0 (number_of v))
  where
    by : (b : Bool) (n : ℤ) → cond b most_agents (cut n) ≤ most_agents
    by true n = omega arith
    by false n = cut_small n

few_taken : (c : Option Operand) (vs : List Value) → most_taken c vs ≤ most_agents
few_taken None vs = omega arith
few_taken (Some (Operand.Number n)) vs = cut_small n
few_taken (Some (Operand.Variable x)) vs = count_small (first vs)

few_counted : (o : Operation) (m : Access) (w n : ℕ) (vs : List Value) → task_by o m w vs ≡ Task.Notify n → n ≤ most_agents
few_counted (Operation.Notify to c) m w n vs is = let same : most_taken c vs ≡ n = cc in subst (λ n. n ≤ most_agents) same (few_taken c vs)
few_counted (Operation.Wait to c) m w n vs is = cc
few_counted _ m w n vs is = cc

few_asked : (c : Command) (vs : List Value) (o i n : ℕ) → asked_of c vs ≡ Some (for_word o i (Task.Notify n)) → n ≤ most_agents
few_asked (Atomic c) vs o i n is = few_counted c.operation (access_of c vs) _ n _ (word_asked (first vs) (index_of c vs) (task_of c vs) (Task.Notify n) o i is)
few_asked (Post t y) vs o i n is = absurd (post_no_word t (first vs) o i (Task.Notify n) is)
few_asked _ vs o i n is = cc

-- the due command asks for this
by_command : {P : Type 0} (b : AgentView) (o i : ℕ) (t : Task) → need b ≡ asks_ledger (for_word o i t) → ((c : Command) (vs : List Value) → asked_of c vs ≡ Some (for_word o i t) → P) → P
by_command b o i t is each =
    let at = ledger_due b (due b.plan b.history) (for_word o i t) is in
    let vs = values_of (receivers b.plan.jobs) b.history (reads at.0) in
    each at.0 vs (not_refused (refusal b.over b.history at.0 vs) (asked_of at.0 vs) (for_word o i t) at.3).1

may_answer : (b : AgentView) (o i w : ℕ) (a : Access) → need b ≡ asks_ledger (for_word o i (Task.Access a)) → w < 2 ^ 32 → MayGive b (answer_to a w)
may_answer b o i w a is small = by_gift a.gives_word refl
  where
    by_gift : (g : Bool) → a.gives_word ≡ g → MayGive b (if g then Gives (Number (pos w)) else Nothing)
    by_gift true g = may_give_word b w (subst TakesWord (sym is) g) small
    by_gift false g = may_give_nothing b (subst TakesDone (sym is) (ap not g))

-- the ticket through which it does something at a word, and that the word is one of its block
record AtWord (b : AgentView) (l : Ledger) (o i : ℕ) : Type 0 where
  row : Row
  here : Some row ≡ at o (tickets b)
  held : holder_of l row.serial ≡ Some (b.number, row)
  mine : Contains (rows_of b) row
  inside : i < row.words

its_word : (b : AgentView) (l : LedgerView) (o i : ℕ) (t : Task) → Standing b l → need b ≡ asks_ledger (for_word o i t) → AtWord b l.history o i
its_word b l o i t x is =
    let q = ticket_of b l.history o x.going (aims_at_ticket b (for_word o i t) o x.going.run is refl) in
    record { row = q.0; here = q.1; held = q.2; mine = ticket_held b (stake b) o q.0 (refl, λ p. refl) q.1; inside = aims_inside b (for_word o i t) o i is refl refl q.0 (ticket_named b o q.0 x.going.rising q.1) }

accessed : (b : AgentView) (l : LedgerView) (o i : ℕ) (a : Access) → Standing b l → need b ≡ asks_ledger (for_word o i (Task.Access a)) → Turn Moved b l
accessed b l o i a x is =
    let t = its_word b l o i (Task.Access a) x is in
    let r = t.row in
    let w = word l.history r.block i in
    let small = word_small l.agents l.history x.legal.0 r.block i in
    let change = change_by a.edit w in
    let e = Accessed r.serial i change w in
    done_there b l (for_word o i (Task.Access a)) (answer_to a w) e x is refl (may_answer b o i w a is small) refl
    (grows_one b.number l.history (e ∷ l.history) e (Accesses r.serial i change w) refl (owned b (stake b) l r (Accesses r.serial i change w) refl (ready b l x).holder t.mine))
    (subst (λ h. Reaches h i (λ q. (w ≡ word l.history q.block i) × IsStorable change)) (sym t.held) (t.inside, (refl, by_command b o i (Task.Access a) is (λ c vs asks. storable_asked c vs o i w a asks small)))) refl
    (λ new does. access_ties b new (stake b) l (e ∷ l.history) o i w a r (ready b l x) is t.mine t.here refl does)

-- it wakes those that sleep there
notified : (b : AgentView) (l : LedgerView) (o i n : ℕ) → Standing b l → need b ≡ asks_ledger (for_word o i (Task.Notify n)) → Turn Moved b l
notified b l o i n x is =
    let t = its_word b l o i (Task.Notify n) x is in
    let r = t.row in
    let k = taken_there l.history r.block i n in
    let e = Acted b.number (Notified r.serial i n k) in
    let few = by_command b o i (Task.Notify n) is (λ c vs asks. few_asked c vs o i n asks) in
    let less = length-take n (list_at l.history r.block i) in
    done_there b l (for_word o i (Task.Notify n)) (Gives (Number (pos k))) e x is refl (may_give_word b k (subst TakesWord (sym is) refl) (omega (arith, few, less))) refl
    (grows_one b.number l.history (e ∷ l.history) e (Notifies r.serial i n k) refl refl)
    (subst (λ h. ReachesAs b.number h i (λ q. k ≡ taken_there l.history q.block i n)) (sym t.held) (refl, t.inside, refl)) refl
    (λ new does. notify_ties b new (stake b) l (e ∷ l.history) o i n k r (ready b l x) is t.here refl does)

-- It sleeps

-- what becomes of a sleep the rules allow
roused_legal : (n : ℕ) (l : Ledger) (a : ℕ) → LegalLedger n l → asleep l a ≡ true → LegalLedger n (roused l n a).1
roused_legal n l a legal sleeps = by (is_listed l a) (is_chosen l n a) refl refl
  where
    by : (x y : Bool) → is_listed l a ≡ x → is_chosen l n a ≡ y → LegalLedger n (cond {A = Told × Ledger} x (cond y (Skip, Acted a TimedOut ∷ l) (Stay, l)) (Ready, Acted a Woke ∷ l)).1
    by true true listed chosen = next_legal n l (Acted a TimedOut) legal (listed, chosen) refl
    by true false listed chosen = legal
    by false y listed chosen = next_legal n l (Acted a Woke) legal (sleeps, listed) refl

rested_legal : (b : AgentView) (l : LedgerView) (o i w : ℕ) → (x : Standing b l) → need b ≡ asks_ledger (for_word o i (Task.Sleep w)) → (t : AtWord b l.history o i) → LegalLedger l.agents (rested l.history l.agents b.number t.row i w).1
rested_legal b l o i w x is t =
    let r = t.row in
    let k = rested l.history l.agents b.number r i w in
    let open' = x.seated.over ∙ open_for b (asks_ledger (for_word o i (Task.Sleep w))) (λ f. cc) is in
    by_rest k.0 k.1 l.history l.agents b.number i w r refl
    (λ sleeps told more. subst (LegalLedger l.agents) (sym more) (roused_legal l.agents l.history b.number x.legal sleeps))
    (λ waiting told more. subst (LegalLedger l.agents) (sym more) x.legal)
    (λ awake same told more.
    let begun =
    next_legal l.agents l.history (Acted b.number (Slept r.serial i w)) x.legal
    (subst (λ h. ReachesAs b.number h i (λ q. w ≡ word l.history q.block i)) (sym t.held) (refl, t.inside, sym same), free b l.history x.tied (λ s other. (let clash : asks_ledger (for_word o i (Task.Sleep w)) ≡ asks_message s = sym is ∙ other in cc)), open', awake) refl in
    subst (LegalLedger l.agents) (sym more) (roused_legal l.agents (begun_at l.history b.number r i w) b.number begun (sleeps_now b.number (asleep l.history b.number))))
    (λ awake other told more. subst (LegalLedger l.agents) (sym more)
    (next_legal l.agents l.history (Accessed r.serial i Change.Keep (word l.history r.block i)) x.legal (subst (λ h. Reaches h i (λ q. (word l.history r.block i ≡ word l.history q.block i) × Unit {0})) (sym t.held) (t.inside, (refl, tt))) refl))

-- it asks to sleep at a word
sleeps : (b : AgentView) (l : LedgerView) (o i w : ℕ) → Standing b l → need b ≡ asks_ledger (for_word o i (Task.Sleep w)) → (p : Progress) × Turn p b l
sleeps b l o i w x is = by (wait_result k.0) refl
  where
    t : AtWord b l.history o i
    t = its_word b l o i (Task.Sleep w) x is

    k : Option Told × Ledger
    k = rested l.history l.agents b.number t.row i w

    did : Rested b.number l.history k.1
    did = rested_grows l.history k.1 l.agents b.number i w t.row k.0 t.held refl

    legal : LegalLedger l.agents k.1
    legal = rested_legal b l o i w x is t

    by : (e : Option WaitResult) → wait_result k.0 ≡ e → (p : Progress) × Turn p b l
    by (Some e) so = (
      Moved,
      (let does = done b (Gives (Text (wait_text e))) (may_give_wait_result b e (subst TakesWaitResult (sym is) refl)) in
          let stays = done_stays b does.0 (Gives (Text (wait_text e))) does.1 in
          moves_to b does.0 l k.1 x stays.step stays.moves (goes_on_at b l (with_history l k.1) o i w t.row k.0 e k.1 is t.here refl so) did.grows
          (rested_ties b does.0 (stake b) l k.1 o i w t.row k.0 e (ready b l x) is t.mine t.here refl so does.1) did.ends legal),
    )
    by None so = (
      Waiting,
      record {
        after = b;
        ledger = with_history l k.1;
        takes = (inr (o, i, w, is), refl);
        told = inr (sleeps_on_so b (stake b) l (with_history l k.1) o i w t.row k.0 refl is t.here refl so);
        grows = did.grows;
        number = refl;
        tied = resting_so b (stake b) l k.1 o i w t.row k.0 (ready b l x) is t.here refl so;
        seated = seat b b l k.1 x.seated (no_step b) did.ends did.grows;
        legal = legal;
      },
    )

-- A message

received : (b : AgentView) (l : LedgerView) (s : ℕ) (v : Value) → Standing b l → need b ≡ asks_message s → has_message l.history s b.number ≡ true → front l.history s b.number ≡ Some (Plain v) → Turn Moved b l
received b l s v x is there is_front =
    let at = message_due b (due b.plan b.history) s is in
    let plain = front_plain l.agents l.history s b.number v x.legal.0 is_front in
    let new = record b { history = Received s v ∷ b.history } in
    let m = Taken s b.number ∷ l.history in
    let receives : Receives b v new = (s, is, value_received b at.0 s v at.1 plain, refl) in
    let stays = received_stays b new v receives in
    moves_to b new l m x stays.step stays.moves (goes_on_ready b l (with_history l m) s is there) (taking_grows b l.history m b.number s refl refl)
    (receive_ties b new (stake b) l m s v (ready b l x) is refl is_front plain receives) refl (next_legal l.agents l.history (Taken s b.number) x.legal there refl)

received_buffer : (b : AgentView) (l : LedgerView) (s c k : ℕ) → Standing b l → need b ≡ asks_message s → has_message l.history s b.number ≡ true → front l.history s b.number ≡ Some (Block c k) → nat_lt (made b.history) most_identities ≡ true → Turn Moved b l
received_buffer b l s c k x is there is_front room =
    let at = message_due b (due b.plan b.history) s is in
    let r = row k c (size l.history c) in
    let e = Received s (Object (made b.history + 1)) in
    let new = record (with_buffer r b) { history = e ∷ b.history } in
    let m = Taken s b.number ∷ l.history in
    let admits : Admits b r new = (e, subst (λ d. Brings d (made b.history + 1) e) (sym at.1) refl, buffer_received b at.0 s r at.1 room, refl) in
    let fetched = takes b (stake b) l m s r (ready b l x) is refl is_front refl in
    moves_to b new l m x (admitted_step b new r admits) (admitted_moves b new r admits) (goes_on_ready b l (with_history l m) s is there) (taking_grows b l.history m b.number s refl refl)
    (admitted_ties b new m r x.going.run fetched admits) refl (next_legal l.agents l.history (Taken s b.number) x.legal there refl)

refused : (b : AgentView) (l : LedgerView) (s c k : ℕ) → Standing b l → need b ≡ asks_message s → has_message l.history s b.number ≡ true → front l.history s b.number ≡ Some (Block c k) → nat_lt (made b.history) most_identities ≡ false → Turn Moved b l
refused b l s c k x is there is_front full =
    let at = message_due b (due b.plan b.history) s is in
    let r = row k c (size l.history c) in
    let new = record b { history = Refused TooManyValues ∷ b.history } in
    let mid = Taken s b.number ∷ l.history in
    let m = Spent k ∷ mid in
    let refuses : RefusesMessage b new = (s, is, message_refused b at.0 s at.1 full, refl) in
    let stays = refused_stays b new refuses in
    let mine : holder_of mid k ≡ Some (b.number, r) = held_taken l.agents l.history s b.number c k x.legal.0 is_front in
    let legal_mid : LegalLedger l.agents mid = next_legal l.agents l.history (Taken s b.number) x.legal there refl in
    let grows = grows_on b.number l.history mid m (taking_grows b l.history mid b.number s refl refl) (spending_grows b mid m b.number r refl mine refl) in
    let fetched = takes b (stake b) l mid s r (ready b l x) is refl is_front refl in
    moves_to b new l m x stays.step stays.moves (goes_on_ready b l (with_history l m) s is there) grows
    (refused_ties b new mid m r x.going.run fetched b.number refl mine refl refuses) refl (next_legal l.agents mid (Spent k) legal_mid (ap is_some mine) refl)

-- the wait is recorded, where it is not yet

asked_legal : (b : AgentView) (l : LedgerView) (s : ℕ) → Standing b l → need b ≡ asks_message s → has_message l.history s b.number ≡ false → LegalLedger l.agents (asked l.history b.number s)
asked_legal b l s x is none = subst (λ z. LegalLedger l.agents (cond (is_some (waits l.history b.number) || z) l.history (Acted b.number (WaitingEvent s) ∷ l.history))) (sym awake) (at (waits l.history b.number) refl)
  where
    awake : asleep l.history b.number ≡ false
    awake = awake_of b l.history x.tied (ap asks_to_sleep is)

    others : (s < l.agents) × (b.number ≢ s)
    others = subst (λ d. NamesOthers d b.number l.agents) is x.others

    at : (w : Option ℕ) → waits l.history b.number ≡ w → LegalLedger l.agents (cond (is_some w || false) l.history (Acted b.number (WaitingEvent s) ∷ l.history))
    at None w = next_legal l.agents l.history (Acted b.number (WaitingEvent s)) x.legal (x.seated.known, others.0, others.1, none, w, x.seated.over ∙ open_for b (asks_message s) (λ f. cc) is, awake) refl
    at (Some t) w = x.legal

asked_grows : (l : Ledger) (n s : ℕ) → GrowsBy n l (asked l n s)
asked_grows l n s = by_asked (λ k. GrowsBy n l k) l n s (grows_none n l) (grows_one n l (Acted n (WaitingEvent s) ∷ l) (Acted n (WaitingEvent s)) (Waits s) refl refl)

stays : (b : AgentView) (l : LedgerView) (s : ℕ) → Standing b l → need b ≡ asks_message s → has_message l.history s b.number ≡ false → ◌≡◌ {A = Told × Ledger} (Stay, asked l.history b.number s) (told l.history l.agents b.number s) → Turn Waiting b l
stays b l s x is none heard =
    let m = asked l.history b.number s in
    record {
      after = b;
      ledger = with_history l m;
      takes = (inl (s, is), refl);
      told = inl (s, is, heard);
      grows = asked_grows l.history b.number s;
      number = refl;
      tied = stay_ties b (stake b) l m b.number s (ready b l x) is refl refl;
      seated = seat b b l m x.seated (no_step b) (asked_ends l.history b.number s b.number) (asked_grows l.history b.number s);
      legal = asked_legal b l s x is none;
    }

skipped : (b : AgentView) (l : LedgerView) (s : ℕ) → Standing b l → need b ≡ asks_message s → has_message l.history s b.number ≡ false → skips (asked l.history b.number s) l.agents b.number s ≡ true
    → ◌≡◌ {A = Told × Ledger} (Skip, Acted b.number (Passed s) ∷ asked l.history b.number s) (told l.history l.agents b.number s) → Turn Moved b l
skipped b l s x is none may heard =
    let at = message_due b (due b.plan b.history) s is in
    let k = asked l.history b.number s in
    let m = Acted b.number (Passed s) ∷ k in
    let new = record b { history = Skipped at.0 s ∷ b.history } in
    let skip : Skips b new = (at.0, s, at.1, job_skipped b at.0 s at.1, refl) in
    let stays = skipped_stays b new skip in
    let legal = asked_legal b l s x is none in
    let grows = grows_on b.number l.history k m (asked_grows l.history b.number s) (grows_one b.number k m (Acted b.number (Passed s)) (Passes s) refl refl) in
    moves_to b new l m x stays.step stays.moves (goes_on b l (with_history l m) s Skip m is heard (λ f. cc)) grows
    (skipped_ties b new (stake b) l m b.number s (ready b l x) is refl refl skip) (asked_ends l.history b.number s b.number)
    (next_legal l.agents k (Acted b.number (Passed s)) legal (asked_awaits b l.history s (awake_of b l.history x.tied (ap asks_to_sleep is)) x.tied.awaits is, may) refl)

-- it asks for a message
hears : (b : AgentView) (l : LedgerView) (s : ℕ) → Standing b l → need b ≡ asks_message s → (p : Progress) × Turn p b l
hears b l s x is = by_message (has_message l.history s b.number) refl
  where
    k : Ledger
    k = asked l.history b.number s

    by_room : (c i : ℕ) (room : Bool) → has_message l.history s b.number ≡ true → front l.history s b.number ≡ Some (Block c i) → nat_lt (made b.history) most_identities ≡ room → Turn Moved b l
    by_room c i true there at room = received_buffer b l s c i x is there at room
    by_room c i false there at room = refused b l s c i x is there at room

    by_front : (m : Option Body) → front l.history s b.number ≡ m → is_some m ≡ true → Turn Moved b l
    by_front None at there = cc
    by_front (Some (Plain v)) at there = received b l s v x is (ap is_some at) at
    by_front (Some (Block c i)) at there = by_room c i (nat_lt (made b.history) most_identities) (ap is_some at) at refl

    by_choice : (u : Bool) → has_message l.history s b.number ≡ false → (waits_for k b.number s && skips k l.agents b.number s) ≡ u → (p : Progress) × Turn p b l
    by_choice false none u = (Waiting, stays b l s x is none (sym (ap (λ t. cond t (Ready, l.history) (judged k l.agents b.number s)) none ∙ ap (λ u. cond u (Skip, Acted b.number (Passed s) ∷ k) (Stay, k)) u)))
    by_choice true none u = (
      Moved,
      skipped b l s x is none (second (waits_for k b.number s) (skips k l.agents b.number s) u)
          (sym (ap (λ t. cond t (Ready, l.history) (judged k l.agents b.number s)) none ∙ ap (λ u. cond u (Skip, Acted b.number (Passed s) ∷ k) (Stay, k)) u)),
    )
      where
        second : (p q : Bool) → (p && q) ≡ true → q ≡ true
        second true q e = e
        second false q e = cc

    by_message : (m : Bool) → has_message l.history s b.number ≡ m → (p : Progress) × Turn p b l
    by_message true m = (Moved, by_front (front l.history s b.number) refl m)
    by_message false m = by_choice (waits_for k b.number s && skips k l.agents b.number s) m refl

-- It closes

closed : (b : AgentView) (l : LedgerView) → Standing b l → need b ≡ asks_closing → Turn Moved b l
closed b l x is =
    let out = tickets b in
    let new = record b { history = Closed ∷ b.history } in
    let all = spend_all l.agents b.number l.history out x.legal.0 x.legal.1 x.going.rack.held x.going.rack.apart in
    let m = Acted b.number EndedEvent ∷ spent out l.history in
    let moves = closed_moves b new is refl in
    let grows : GrowsBy b.number l.history m = (Acted b.number EndedEvent ∷ map (λ t. Spent t.1.serial) out, refl, ((Ends, refl), all.deeds)) in
    record {
      after = new;
      ledger = with_history l m;
      takes = moves;
      told = unasked b l (with_history l m) asks_closing is refl (λ s f. cc);
      grows = grows;
      number = refl;
      tied = closed_ties b new (stake b) l m out (ready b l x) is refl refl all.deeds refl;
      seated = record {
        known = x.seated.known;
        agents = x.seated.agents;
        over = ap (λ c. c || ended (spent out l.history) b.number) (eq-eqb b.number b.number refl);
      };
      legal = next_legal l.agents (spent out l.history) (Acted b.number EndedEvent) (all.legal, all.owes) (x.seated.known, spent_over out l.history b.number ∙ x.seated.over ∙ open_for b asks_closing (λ f. cc) is) refl;
    }

-- Whatever it asks for

rests : (b : AgentView) (l : LedgerView) → Standing b l → need b ≡ asks_nothing → Turn Ended b l
rests b l x is = record {
  after = b;
  ledger = l;
  takes = (is, refl);
  told = refl;
  grows = grows_none b.number l.history;
  number = refl;
  tied = x.tied;
  seated = x.seated;
  legal = x.legal;
}

asks_so : (b : AgentView) (l : LedgerView) → Standing b l → (d : Need) → need b ≡ d → (p : Progress) × Turn p b l
asks_so b l x asks_nobody is = (Moved, alone b l x is)
asks_so b l x asks_marks is = (Moved, collected b l x is)
asks_so b l x asks_copy is = (Moved, copied b l x is)
asks_so b l x asks_late_marks is = (Moved, finished b l x is)
asks_so b l x (asks_ledger (for_block n)) is = (Moved, opened_block b l n x is)
asks_so b l x (asks_ledger (for_post a v)) is = (Moved, posted b l a v x is)
asks_so b l x (asks_ledger (for_buffer_post a o)) is = (Moved, posted_buffer b l a o x is)
asks_so b l x (asks_ledger (for_word o i (Task.Access a))) is = (Moved, accessed b l o i a x is)
asks_so b l x (asks_ledger (for_word o i (Task.Sleep w))) is = sleeps b l o i w x is
asks_so b l x (asks_ledger (for_word o i (Task.Notify n))) is = (Moved, notified b l o i n x is)
asks_so b l x (asks_message s) is = hears b l s x is
asks_so b l x asks_closing is = (Moved, closed b l x is)
asks_so b l x asks_nothing is = (Ended, rests b l x is)

pub takes_turn : (b : AgentView) (l : LedgerView) → Standing b l → (p : Progress) × Turn p b l
takes_turn b l x = asks_so b l x (need b) refl
