-- What an agent did in the ledger, told by its event: history, tickets and part go together again.
use Rattle.std.proofs.Common.{◌≡◌, ℕ, ◌+◌, true, false, cond, eq-eqb, sym, ◌∙◌, ap, refl, subst, List, [], ◌∷◌, ◌++◌, append-nil, map, reverse, Option, Some, None}
use Rattle.std.proofs.lemmas.List.{reverse-append}
use Rattle.std.specs.List.{Contains}
use Rattle.es_value.specs.Values.{identity}
use Rattle.es_value.specs.declared.value.Value.{Value}
use Rattle.es_value.specs.declared.value.Value.TheVariants.{Number, Object, Text}
use Rattle.std.specs.Prelude.{pos, ◌==◌}
use Rattle.es_event.specs.declared.access.Access.{Access}
use Rattle.es_event.specs.declared.access.Change.{Change}
use Rattle.es_event.specs.declared.access.Task.{Task}
use Rattle.es_event.specs.declared.access.WaitResult.{WaitResult}
use Rattle.es_event.specs.declared.event.Answer.{Answer}
use Rattle.es_event.specs.declared.event.Answer.TheVariants.{Nothing, Gives}
use Rattle.es_event.specs.declared.event.Event.{Event}
use Rattle.es_event.specs.declared.event.Event.TheVariants.{Received, Refused, Emptied, Skipped, Closed}
use Rattle.es_event.specs.declared.event.Refusal.TheVariants.{TooManyValues}
use Rattle.es_event.specs.declared.ledger_event.Body.{Body}
use Rattle.es_event.specs.declared.ledger_event.Body.TheVariants.{Plain, Block}
use Rattle.es_event.specs.declared.ledger_event.LedgerEvent.{LedgerEvent}
use Rattle.es_event.specs.declared.ledger_event.LedgerEvent.TheVariants.{Opened, Posted, Taken, Spent, Accessed, Acted}
use Rattle.es_event.specs.declared.ledger_event.Act.TheVariants.{Notified, Passed, Ended}
use Rattle.es_event.specs.declared.row.Row.{Row}
use Rattle.es_event.specs.Access.{change_by, wait_text}
use Rattle.es_event.specs.Commands.{reads}
use Rattle.es_event.specs.Jobs.{receivers}
use Rattle.es_event.specs.Identities.{made}
use Rattle.es_event.specs.Ledger.{Ledger, size, front as front_of, holder_of, waits}
use Rattle.es_event.specs.Waiters.{asleep}
use Rattle.es_event.specs.Rows.{row}
use Rattle.es_event.specs.Sharing.{Buffers}
use Rattle.es_event.specs.Legal.{values_of}
use Rattle.es_event.specs.Order.{Due, receive, run, due}
use Rattle.es_event.specs.Runs.{IsRunOver}
use Rattle.es_ledger.specs.LedgerView.{LedgerView}
use Rattle.es_match.specs.Asks.{Asking, to_open, to_receive, to_refuse, to_pass, to_empty, to_close, between_jobs, asks, asks_did}
use Rattle.es_match.specs.Patience.{may_do, has_drained}
use Rattle.es_match.specs.Cluster.{is_refusal_asked}
use Rattle.es_match.specs.Deeds.{Deed, Opens, Posts, Takes, Spends, Accesses, Notifies, Passes, Ends, by_holder, taking, deed, is_sleep, is_wait}
use Rattle.es_match.specs.Meets.{Tickets, after, refused_in, some_if, ticket_in}
use Rattle.es_ticket.specs.Stakes.{StakeView, at}
use Rattle.es_record.specs.AgentView.{AgentView, Records}
use Rattle.es_rules.specs.Needs.{Request, for_block, for_post, for_buffer_post, for_word, Need, asks_nobody, asks_marks, asks_copy, asks_late_marks, asks_ledger, asks_message, asks_closing, asks_nothing, need, need_of, Brings}
use Rattle.es_rules.proofs.Needs.{message_due}
use Rattle.es_agent.specs.Tickets.{tickets, RecordsNext, Empties, Collects, Finishes, Admits, RefusesMessage, Receives, DoesWith, Skips}
use Rattle.es_agent.specs.Later.{opening}
use Rattle.es_agent.proofs.Racks.{emptied_tickets}
use Rattle.es_cluster.specs.Midway.{IsReady, Midway, HasFetched, Fetches, answer_to, asks_to_sleep}
use Rattle.es_cluster.specs.Tied.{AreDeedsOf, GrowsBy, IsSettled, IsTied}
use Rattle.es_cluster.specs.Turned.{spent}
use Rattle.es_cluster.proofs.Aims.{open_for}
use Rattle.es_cluster.proofs.Asking.{due_command, ended_so, miss_met, notify_met, word_asks, access_met, open_asks, open_met, post_asks, post_met, buffer_asks, buffer_met, receive_met, admit_met, skip_met, at_message, awaited_at}
use Rattle.es_cluster.proofs.Growing.{by_ticket, grows_one}
use Rattle.es_cluster.proofs.Local.{AreNamed, local_met}
use Rattle.es_cluster.proofs.Midway.{awake, brings_ticket, begun, did_not_refuse, does, no_ticket, no_ticket_alone, refused_alone, tells, unnamed, free, undrained}
use Rattle.es_cluster.proofs.MovingMembers.{local_leaves, opened_leaves, done_stays, received_stays, skipped_stays, refused_stays, admitted_tickets}
use Rattle.es_cluster.proofs.SpentAll.{all_spent, spends_all, empty_met, close_met}

-- no ticket came
unbrought : (over : Buffers) (t : Tickets) → t ≡ [] → reverse over ≡ reverse over ++ t
unbrought over t none = sym (append-nil (reverse over)) ∙ ap (λ t. reverse over ++ t) (sym none)

-- Alone

pub local_ties : (old new : AgentView) (s : StakeView) (l : LedgerView) → IsReady old s l → need old ≡ asks_nobody → IsRunOver old.over old.plan old.history → AreNamed old → RecordsNext old new → IsSettled new l.history
local_ties old new s l ready is history named r =
    let stays = local_leaves old new is r in
    let met = local_met old r.0 is r.1 history named in
    let q = asks (between_jobs old.history) r.0 in
    tells old new None l.history [] r.0 (begun old l.history ready.tied (awake old l.history ready.tied (ap asks_to_sleep is))) r.2
    (met ∙ ap Some (sym stays.same))
    (unbrought old.over (ticket_in q []) (no_ticket_alone q))
    (unnamed old q [] (refused_alone (tickets old) (tickets old) q met))
    (free old l.history ready.tied (λ s other. let clash : asks_nobody ≡ asks_message s = sym is ∙ other in cc))

-- a later collection that is opened asks nothing of the ledger
pub opened_ties : (old new : AgentView) (s : StakeView) (l : LedgerView) → IsReady old s l → need old ≡ asks_copy → Records old opening new → IsSettled new l.history
opened_ties old new s l ready is r =
    let stays = opened_leaves old new is r in
    let met : after (tickets old) (asks (between_jobs old.history) opening) [] ≡ Some (tickets old) = refl in
    let q = asks (between_jobs old.history) opening in
    tells old new None l.history [] opening (begun old l.history ready.tied (awake old l.history ready.tied (ap asks_to_sleep is))) r
    (met ∙ ap Some (sym stays.same))
    (unbrought old.over (ticket_in q []) (no_ticket_alone q))
    (unnamed old q [] (refused_alone (tickets old) (tickets old) q met))
    (free old l.history ready.tied (λ s other. let clash : asks_copy ≡ asks_message s = sym is ∙ other in cc))

-- One deed

told_one : (old new : AgentView) (m : Ledger) (d : Deed) (told : Event) → Midway old m (d ∷ []) → Records old told new → brings_ticket d ≡ false → is_refusal_asked (asks (between_jobs old.history) told) ≡ false
    → after (tickets old) (asks (between_jobs old.history) told) (d ∷ []) ≡ Some (tickets new) → waits m old.number ≡ None → IsSettled new m
told_one old new m d told mid records none_comes calm met free =
    let q = asks (between_jobs old.history) told in
    tells old new None m (d ∷ []) told mid records met (unbrought old.over (ticket_in q (d ∷ [])) (no_ticket q d none_comes)) (unnamed old q (d ∷ []) calm) free

-- one that answers the due command
pub told_done : (old new : AgentView) (m : Ledger) (d : Deed) (a : Answer) → Midway old m (d ∷ []) → (done : DoesWith old a new) → brings_ticket d ≡ false
    → after (tickets old) (asks_did done.1.0 (values_of (receivers old.plan.jobs) old.history (reads done.1.0)) a) (d ∷ []) ≡ Some (tickets old) → waits m old.number ≡ None → IsSettled new m
told_done old new m d a mid done none_comes met free =
    let stays = done_stays old new a done in
    told_one old new m d done.0 mid done.3 none_comes
    (ap (λ e. is_refusal_asked (asks (between_jobs old.history) e)) done.1.2 ∙ did_not_refuse done.1.0 _ a)
    (ap (λ e. after (tickets old) (asks (between_jobs old.history) e) (d ∷ [])) done.1.2 ∙ met ∙ ap Some (sym stays.same))
    free

done_ties : (old new : AgentView) (s : StakeView) (l : LedgerView) (m : Ledger) (e : LedgerEvent) (d : Deed) (r : Request) (a : Answer) → IsReady old s l → need old ≡ asks_ledger r → asleep l.history old.number ≡ false
    → m ≡ e ∷ l.history → deed l.history e ≡ Some (old.number, d) → is_wait d ≡ false → is_sleep d ≡ false → waits (e ∷ l.history) old.number ≡ waits l.history old.number
    → (done : DoesWith old a new) → brings_ticket d ≡ false → after (tickets old) (asks_did done.1.0 (values_of (receivers old.plan.jobs) old.history (reads done.1.0)) a) (d ∷ []) ≡ Some (tickets old) → IsSettled new m
done_ties old new s l m e d r a ready is up more did wait quick same done none_comes met =
    let none = free old l.history ready.tied (λ s other. let clash : asks_ledger r ≡ asks_message s = sym is ∙ other in cc) in
    let going = open_for old (asks_ledger r) (λ f. cc) is in
    told_done old new m d a
    (does old l.history m [] e d (begun old l.history ready.tied up) more did wait quick (ap (λ w. may_do w d) none) (undrained old l ready.legal ready.seated going))
    done none_comes met (ap (λ m. waits m old.number) more ∙ same ∙ none)

pub owned : (old : AgentView) (s : StakeView) (l : LedgerView) (r : Row) (d : Deed) → s.agent ≡ old.number → ((r : Row) → Contains s.rows r → holder_of l.history r.serial ≡ Some (s.agent, r)) → Contains s.rows r → by_holder l.history r.serial d ≡ Some (old.number, d)
owned old s l r d same holder here = by_ticket l.history r.serial s.agent r d (holder r here) ∙ ap (λ n. Some (n, d)) same

pub access_ties : (old new : AgentView) (s : StakeView) (l : LedgerView) (m : Ledger) (o i w : ℕ) (a : Access) (r : Row) → IsReady old s l → need old ≡ asks_ledger (for_word o i (Task.Access a)) → Contains s.rows r → Some r ≡ at o (tickets old)
    → m ≡ Accessed r.serial i (change_by a.edit w) w ∷ l.history → DoesWith old (answer_to a w) new → IsSettled new m
access_ties old new s l m o i w a r ready is mine here more done =
    let e = Accessed r.serial i (change_by a.edit w) w in
    let d = Accesses r.serial i (change_by a.edit w) w in
    done_ties old new s l m e d (for_word o i (Task.Access a)) (answer_to a w) ready is (awake old l.history ready.tied (ap asks_to_sleep is)) more (owned old s l r d ready.held.0 ready.holder mine) refl refl refl done refl
    (ap (λ q. after (tickets old) q (d ∷ [])) (word_asks old done.1.0 o i (Task.Access a) (answer_to a w) (due_command old done.1.1.0 done.1.0 (for_word o i (Task.Access a)) done.1.1.1 is)) ∙ access_met (tickets old) o i w a r here)

-- agents were taken out of a WaiterList
pub notify_ties : (old new : AgentView) (s : StakeView) (l : LedgerView) (m : Ledger) (o i n k : ℕ) (r : Row) → IsReady old s l → need old ≡ asks_ledger (for_word o i (Task.Notify n)) → Some r ≡ at o (tickets old)
    → m ≡ Acted s.agent (Notified r.serial i n k) ∷ l.history → DoesWith old (Gives (Number (pos k))) new → IsSettled new m
notify_ties old new s l m o i n k r ready is here more done =
    let d = Notifies r.serial i n k in
    done_ties old new s l m (Acted s.agent (Notified r.serial i n k)) d (for_word o i (Task.Notify n)) (Gives (Number (pos k))) ready is (awake old l.history ready.tied (ap asks_to_sleep is)) more (ap (λ a. Some (a, d)) ready.held.0) refl refl refl done refl
    (ap (λ q. after (tickets old) q (d ∷ [])) (word_asks old done.1.0 o i (Task.Notify n) (Gives (Number (pos k))) (due_command old done.1.1.0 done.1.0 (for_word o i (Task.Notify n)) done.1.1.1 is)) ∙ notify_met (tickets old) o i n k r here)

-- another word was there than the one to sleep at
pub miss_ties : (old new : AgentView) (s : StakeView) (l : LedgerView) (m : Ledger) (o i w v : ℕ) (r : Row) → IsReady old s l → need old ≡ asks_ledger (for_word o i (Task.Sleep w)) → asleep l.history old.number ≡ false → Contains s.rows r → Some r ≡ at o (tickets old)
    → (v == w) ≡ false → m ≡ Accessed r.serial i Change.Keep v ∷ l.history → DoesWith old (Gives (Text (wait_text WaitResult.NotEqual))) new → IsSettled new m
miss_ties old new s l m o i w v r ready is up mine here other more done =
    let d = Accesses r.serial i Change.Keep v in
    let a = Gives (Text (wait_text WaitResult.NotEqual)) in
    done_ties old new s l m (Accessed r.serial i Change.Keep v) d (for_word o i (Task.Sleep w)) a ready is up more (owned old s l r d ready.held.0 ready.holder mine) refl refl refl done refl
    (ap (λ q. after (tickets old) q (d ∷ [])) (word_asks old done.1.0 o i (Task.Sleep w) a (due_command old done.1.1.0 done.1.0 (for_word o i (Task.Sleep w)) done.1.1.1 is) ∙ ended_so (Object o) (pos i) w WaitResult.NotEqual)
    ∙ miss_met (tickets old) o i w v r here other)

pub post_grows : (old : AgentView) (l m : Ledger) (n a : ℕ) (b : Body) → n ≡ old.number → m ≡ Posted n a b ∷ l → GrowsBy old.number l m
post_grows old l m n a b same more = grows_one old.number l m (Posted n a b) (Posts a b) more (ap (λ n. Some (n, Posts a b)) same)

pub post_ties : (old new : AgentView) (s : StakeView) (l : LedgerView) (m : Ledger) (n a : ℕ) (v : Value) → IsReady old s l → need old ≡ asks_ledger (for_post a v) → identity v ≡ None → n ≡ old.number
    → m ≡ Posted n a (Plain v) ∷ l.history → DoesWith old Nothing new → IsSettled new m
post_ties old new s l m n a v ready is plain same more done =
    done_ties old new s l m (Posted n a (Plain v)) (Posts a (Plain v)) (for_post a v) Nothing ready is (awake old l.history ready.tied (ap asks_to_sleep is)) more (ap (λ n. Some (n, Posts a (Plain v))) same) refl refl refl done refl
    (ap (λ q. after (tickets old) q (Posts a (Plain v) ∷ [])) (post_asks old done.1.0 a v Nothing (due_command old done.1.1.0 done.1.0 (for_post a v) done.1.1.1 is)) ∙ post_met (tickets old) a v plain)

pub buffer_ties : (old new : AgentView) (s : StakeView) (l : LedgerView) (m : Ledger) (a o k : ℕ) (r : Row) → IsReady old s l → need old ≡ asks_ledger (for_buffer_post a o) → Some r ≡ at o (tickets old)
    → m ≡ Posted s.agent a (Block r.block k) ∷ l.history → DoesWith old Nothing new → IsSettled new m
buffer_ties old new s l m a o k r ready is here more done =
    done_ties old new s l m (Posted s.agent a (Block r.block k)) (Posts a (Block r.block k)) (for_buffer_post a o) Nothing ready is (awake old l.history ready.tied (ap asks_to_sleep is)) more (ap (λ n. Some (n, Posts a (Block r.block k))) ready.held.0) refl refl refl done refl
    (ap (λ q. after (tickets old) q (Posts a (Block r.block k) ∷ [])) (buffer_asks old done.1.0 a o Nothing (due_command old done.1.1.0 done.1.0 (for_buffer_post a o) done.1.1.1 is)) ∙ buffer_met (tickets old) a o k r here)

-- A message, a skip

-- the deed ends the wait for this sender
heard : (old : AgentView) (l m : Ledger) (e : LedgerEvent) (d : Deed) (t : ℕ) → IsTied old l → has_drained l ≡ false → need old ≡ asks_message t → m ≡ e ∷ l → deed l e ≡ Some (old.number, d)
    → is_wait d ≡ false → is_sleep d ≡ false → ((w : ℕ) → t ≡ w → may_do (Some w) d ≡ true) → Midway old m (d ∷ [])
heard old l m e d t tied still is more did wait up ends =
    does old l m [] e d (begun old l tied (awake old l tied (ap asks_to_sleep is))) more did wait up (by_wait (waits l old.number) refl) still
  where
    by_wait : (w : Option ℕ) → waits l old.number ≡ w → may_do w d ≡ true
    by_wait None w = refl
    by_wait (Some u) w = let same : asks_message t ≡ asks_message u = sym is ∙ tied.awaits u w in ends u (let n : t ≡ u = cc in n)

pub still_undrained : (old : AgentView) (s : StakeView) (l : LedgerView) (t : ℕ) → IsReady old s l → need old ≡ asks_message t → has_drained l.history ≡ false
still_undrained old s l t ready is = undrained old l ready.legal ready.seated (open_for old (asks_message t) (λ f. cc) is)

pub skip_ties : (old new : AgentView) (l m : Ledger) (t : ℕ) → IsTied old l → has_drained l ≡ false → need old ≡ asks_message t → m ≡ Acted old.number (Passed t) ∷ l → Skips old new → IsSettled new m
skip_ties old new l m t tied still is more skips =
    let stays = skipped_stays old new skips in
    let due' = message_due old (due old.plan old.history) t is in
    let sender : skips.1 ≡ t = (let both : receive skips.0 skips.1 ≡ receive due'.0 t = sym skips.2 ∙ due'.1 in cc) in
    tells old new None m (Passes t ∷ []) (Skipped skips.0 skips.1)
    (heard old l m (Acted old.number (Passed t)) (Passes t) t tied still is more refl refl refl (λ w same. eq-eqb t w same))
    skips.4
    (ap (λ q. after (tickets old) (to_pass q) (Passes t ∷ [])) sender ∙ skip_met (tickets old) t ∙ ap Some (sym stays.same))
    (unbrought old.over [] refl)
    (unnamed old (to_pass skips.1) (Passes t ∷ []) refl)
    (ap (λ m. waits m old.number) more ∙ ap (λ b. cond b None (waits l old.number)) (eq-eqb old.number old.number refl))

-- a message was taken
taken : (old : AgentView) (s : StakeView) (l : LedgerView) (m : Ledger) (t : ℕ) (b : Option Body) (words : ℕ) → IsReady old s l → need old ≡ asks_message t → m ≡ Taken t s.agent ∷ l.history → deed l.history (Taken t s.agent) ≡ Some (s.agent, Takes t b words)
    → Midway old m (Takes t b words ∷ []) × (waits m old.number ≡ None)
taken old s l m t b words ready is more did = (
  heard old l.history m (Taken t s.agent) (Takes t b words) t ready.tied (still_undrained old s l t ready is) is more (did ∙ ap (λ n. Some (n, Takes t b words)) ready.held.0) refl refl (λ w same. eq-eqb t w same),
  ap (λ m. waits m old.number) more ∙ ap (λ b. cond b None (waits l.history old.number)) (eq-eqb s.agent old.number ready.held.0),
)

pub receive_ties : (old new : AgentView) (s : StakeView) (l : LedgerView) (m : Ledger) (t : ℕ) (v : Value) → IsReady old s l → need old ≡ asks_message t → m ≡ Taken t s.agent ∷ l.history → front_of l.history t s.agent ≡ Some (Plain v)
    → identity v ≡ None → Receives old v new → IsSettled new m
receive_ties old new s l m t v ready is more front plain r =
    let stays = received_stays old new v r in
    let did : deed l.history (Taken t s.agent) ≡ Some (s.agent, Takes t (Some (Plain v)) 0) = ap (λ b. Some (s.agent, taking l.history t b)) front in
    let mid = taken old s l m t (Some (Plain v)) 0 ready is more did in
    let sender : r.0 ≡ t = (let both : asks_message r.0 ≡ asks_message t = sym r.1 ∙ is in cc) in
    tells old new None m (Takes t (Some (Plain v)) 0 ∷ []) (Received r.0 v) mid.0 r.3
    (ap (λ q. after (tickets old) (to_receive q v) (Takes t (Some (Plain v)) 0 ∷ [])) sender ∙ receive_met (tickets old) t v 0 plain ∙ ap Some (sym stays.same))
    (unbrought old.over [] refl)
    (unnamed old (to_receive r.0 v) (Takes t (Some (Plain v)) 0 ∷ []) refl)
    mid.1

-- A ticket that comes

pub opens : (old : AgentView) (s : StakeView) (l : LedgerView) (m : Ledger) (n : ℕ) (r : Row) → IsReady old s l → need old ≡ asks_ledger (for_block n) → r.words ≡ n → m ≡ Opened r.block n r.serial s.agent ∷ l.history → HasFetched old r m
opens old s l m n r ready is words more =
    let going = open_for old (asks_ledger (for_block n)) (λ f. cc) is in
    let none = free old l.history ready.tied (λ s other. let clash : asks_ledger (for_block n) ≡ asks_message s = sym is ∙ other in cc) in
    let still = undrained old l ready.legal ready.seated going in
    record {
      deed = Opens r.block n r.serial;
      midway = does old l.history m [] (Opened r.block n r.serial s.agent) (Opens r.block n r.serial) (begun old l.history ready.tied (awake old l.history ready.tied (ap asks_to_sleep is))) more (ap (λ a. Some (a, Opens r.block n r.serial)) ready.held.0) refl refl (ap (λ w. may_do w (Opens r.block n r.serial)) none) still;
      fetches = subst (λ q. Fetches q r (Opens r.block n r.serial)) (sym is) (words, ap (λ n. Opens r.block n r.serial) (sym words));
      free = ap (λ m. waits m old.number) more ∙ none;
      undrained = ap has_drained more ∙ still;
    }

pub takes : (old : AgentView) (s : StakeView) (l : LedgerView) (m : Ledger) (t : ℕ) (r : Row) → IsReady old s l → need old ≡ asks_message t → m ≡ Taken t s.agent ∷ l.history → front_of l.history t s.agent ≡ Some (Block r.block r.serial)
    → r ≡ row r.serial r.block (size l.history r.block) → HasFetched old r m
takes old s l m t r ready is more front named =
    let did : deed l.history (Taken t s.agent) ≡ Some (s.agent, Takes t (Some (Block r.block r.serial)) (size l.history r.block)) = ap (λ b. Some (s.agent, taking l.history t b)) front in
    let words = size l.history r.block in
    let mid = taken old s l m t (Some (Block r.block r.serial)) words ready is more did in
    record {
      deed = Takes t (Some (Block r.block r.serial)) words;
      midway = mid.0;
      fetches = subst (λ q. Fetches q r (Takes t (Some (Block r.block r.serial)) words)) (sym is) (ap (λ (w : ℕ). Takes t (Some (Block r.block r.serial)) w) (sym (ap (λ r. r.words) named)));
      free = mid.1;
      undrained = ap has_drained more ∙ still_undrained old s l t ready is;
    }

pub opening_grows : (old : AgentView) (l m : Ledger) (n : ℕ) (b w k : ℕ) → n ≡ old.number → m ≡ Opened b w k n ∷ l → GrowsBy old.number l m
opening_grows old l m n b w k same more = grows_one old.number l m (Opened b w k n) (Opens b w k) more (ap (λ n. Some (n, Opens b w k)) same)

pub taking_grows : (old : AgentView) (l m : Ledger) (n t : ℕ) → n ≡ old.number → m ≡ Taken t n ∷ l → GrowsBy old.number l m
taking_grows old l m n t same more = grows_one old.number l m (Taken t n) (taking l t (front_of l t n)) more (ap (λ r. Some (r, taking l t (front_of l t n))) same)

pub spending_grows : (old : AgentView) (l m : Ledger) (n : ℕ) (r : Row) → n ≡ old.number → holder_of l r.serial ≡ Some (n, r) → m ≡ Spent r.serial ∷ l → GrowsBy old.number l m
spending_grows old l m n r same mine more = grows_one old.number l m (Spent r.serial) (Spends r.serial) more (by_ticket l r.serial n r (Spends r.serial) mine ∙ ap (λ n. Some (n, Spends r.serial)) same)

-- it is taken in

record Comes (old : AgentView) (r : Row) (q : Asking) (d : Deed) : Type 0 where
  met : after (tickets old) q (d ∷ []) ≡ Some (tickets old ++ (made old.history + 1, r) ∷ [])
  ticket : ticket_in q (d ∷ []) ≡ (made old.history + 1, r) ∷ []
  calm : is_refusal_asked q ≡ false

comes_in_message : (old : AgentView) (r : Row) (s : ℕ) → Comes old r (to_receive s (Object (made old.history + 1))) (Takes s (Some (Block r.block r.serial)) r.words)
comes_in_message old r s = record { met = admit_met (tickets old) s (made old.history + 1) r.block r.serial r.words; ticket = refl; calm = refl }

comes_anew : (old : AgentView) (r : Row) (n : ℕ) → r.words ≡ n → Comes old r (to_open n (Object (made old.history + 1))) (Opens r.block r.words r.serial)
comes_anew old r n words = subst (λ n. Comes old r (to_open n (Object (made old.history + 1))) (Opens r.block r.words r.serial)) words
    (record { met = open_met (tickets old) r.words (made old.history + 1) r.block r.serial; ticket = refl; calm = refl })

admitted_comes : (old : AgentView) (r : Row) (d : Deed) (e : Event) (due' : Due) → Fetches (need_of old due') r d → due old.plan old.history ≡ due' → Brings due' (made old.history + 1) e
    → Comes old r (asks (between_jobs old.history) e) d
admitted_comes old r d e (receive n s) fetches is brings =
    subst (λ e. Comes old r (asks (between_jobs old.history) e) d) (sym brings)
    (subst (Comes old r (to_receive s (Object (made old.history + 1)))) (sym fetches) (comes_in_message old r s))
admitted_comes old r d e (run x c) fetches is brings = command (need_of old (run x c)) refl fetches
  where
    command : (q : Need) → need_of old (run x c) ≡ q → Fetches q r d → Comes old r (asks (between_jobs old.history) e) d
    command (asks_ledger (for_block n)) asked fetches =
        subst (λ e. Comes old r (asks (between_jobs old.history) e) d) (sym brings)
        (subst (λ q. Comes old r q d) (sym (open_asks old c n (Object (made old.history + 1)) (due_command old x c (for_block n) is (ap (need_of old) is ∙ asked)) []))
        (subst (Comes old r (to_open n (Object (made old.history + 1)))) (sym fetches.1) (comes_anew old r n fetches.0)))
    command (asks_message s) asked fetches = let f = message_due old (run x c) s asked in let g : run x c ≡ receive f.0 s = f.1 in cc
    command n asked fetches = absurd fetches
admitted_comes old r d e _ fetches is brings = absurd brings

pub admitted_ties : (old new : AgentView) (m : Ledger) (r : Row) → IsRunOver old.over old.plan old.history → HasFetched old r m → Admits old r new → IsSettled new m
admitted_ties old new m r history f a =
    let comes = admitted_comes old r f.deed a.0 (due old.plan old.history) f.fetches refl a.1 in
    let q = asks (between_jobs old.history) a.0 in
    tells old new (Some r) m (f.deed ∷ []) a.0 f.midway a.3
    (comes.met ∙ ap Some (sym (admitted_tickets old new r history a)))
    (reverse-append ((made old.history + 1, r) ∷ []) old.over ∙ ap (λ t. reverse old.over ++ t) (sym comes.ticket))
    (unnamed old q (f.deed ∷ []) comes.calm)
    f.free

-- it is refused, and spent
pub refused_ties : (old new : AgentView) (m k : Ledger) (r : Row) → IsRunOver old.over old.plan old.history → HasFetched old r m → (n : ℕ) → n ≡ old.number → holder_of m r.serial ≡ Some (n, r) → k ≡ Spent r.serial ∷ m
    → RefusesMessage old new → IsSettled new k
refused_ties old new m k r history f n same held more refused =
    let mine = by_ticket m r.serial n r (Spends r.serial) held ∙ ap (λ n. Some (n, Spends r.serial)) same in
    let stays = refused_stays old new refused in
    let due' = message_due old (due old.plan old.history) refused.0 refused.1 in
    let job = at_message old.over old.plan old.history due'.0 refused.0 history.1 due'.1 in
    let sender = awaited_at old.plan old.history due'.0 refused.0 due'.1 in
    let asked : asks (between_jobs old.history) (Refused TooManyValues) ≡ to_refuse = ap (λ b. asks b (Refused TooManyValues)) job in
    let deeds = f.deed ∷ Spends r.serial ∷ [] in
    let fetched : f.deed ≡ Takes refused.0 (Some (Block r.block r.serial)) r.words = subst (λ q. Fetches q r f.deed) refused.1 f.fetches in
    tells old new None k deeds (Refused TooManyValues)
    (does old m k (f.deed ∷ []) (Spent r.serial) (Spends r.serial) f.midway more mine refl refl (ap (λ w. may_do w (Spends r.serial)) f.free) f.undrained)
    refused.3
    (ap (λ q. after (tickets old) q deeds) asked
    ∙ ap (λ d. after (tickets old) to_refuse (d ∷ Spends r.serial ∷ [])) fetched
    ∙ ap (λ b. some_if b (tickets old)) (eq-eqb r.serial r.serial refl)
    ∙ ap Some (sym stays.same))
    (unbrought old.over (ticket_in (asks (between_jobs old.history) (Refused TooManyValues)) deeds) (ap (λ q. ticket_in q deeds) asked))
    (λ refuses. sender ∙ sym (ap (λ q. refused_in q deeds) asked ∙ ap (λ d. refused_in to_refuse (d ∷ Spends r.serial ∷ [])) fetched))
    (ap (λ m. waits m old.number) more ∙ f.free)

-- Many tickets

-- an emptying
emptied_ties : {chosen : List ℕ → Type 0} (old new : AgentView) (s : StakeView) (l : LedgerView) (m : Ledger) (out : List (ℕ × Row)) (n : Need) → IsReady old s l → need old ≡ n → asks_to_sleep n ≡ false → ((s : ℕ) → n ≡ asks_message s → ⊥) → (asks_nothing ≡ n → ⊥)
    → Empties chosen old out new → AreDeedsOf old.number (map (λ t. Spent t.1.serial) out) l.history → m ≡ spent out l.history → IsSettled new m
emptied_ties old new s l m out n ready is quick no_message some c deeds more =
    let none = free old l.history ready.tied (λ s other. no_message s (sym is ∙ other)) in
    let still = undrained old l ready.legal ready.seated (open_for old n some is) in
    let all = spends_all old l.history [] out (begun old l.history ready.tied (awake old l.history ready.tied (ap asks_to_sleep is ∙ quick))) deeds none still in
    tells old new None m (all_spent out) (Emptied c.0) (subst (λ m. Midway old m (all_spent out)) (sym more) all.0) c.3
    (ap (λ out. after (tickets old) (to_empty c.0) (all_spent out)) c.4 ∙ empty_met (tickets old) c.0 ∙ ap Some (sym (ap tickets c.3 ∙ emptied_tickets old c.0 c.2)))
    (unbrought old.over [] refl)
    (unnamed old (to_empty c.0) (all_spent out) refl)
    (ap (λ m. waits m old.number) more ∙ all.1)

-- a collection
pub collected_ties : (old new : AgentView) (s : StakeView) (l : LedgerView) (m : Ledger) (out : List (ℕ × Row)) → IsReady old s l → need old ≡ asks_marks → Collects old out new → AreDeedsOf old.number (map (λ t. Spent t.1.serial) out) l.history → m ≡ spent out l.history
    → IsSettled new m
collected_ties old new s l m out ready is c deeds more = emptied_ties old new s l m out asks_marks ready is refl (λ s f. cc) (λ f. cc) c deeds more

-- a later collection that is finished
pub finished_ties : (old new : AgentView) (s : StakeView) (l : LedgerView) (m : Ledger) (out : List (ℕ × Row)) → IsReady old s l → need old ≡ asks_late_marks → Finishes old out new → AreDeedsOf old.number (map (λ t. Spent t.1.serial) out) l.history → m ≡ spent out l.history
    → IsSettled new m
finished_ties old new s l m out ready is c deeds more = emptied_ties old new s l m out asks_late_marks ready is refl (λ s f. cc) (λ f. cc) c deeds more

-- a closing
pub closed_ties : (old new : AgentView) (s : StakeView) (l : LedgerView) (m : Ledger) (out : List (ℕ × Row)) → IsReady old s l → need old ≡ asks_closing → Records old Closed new → out ≡ tickets old → AreDeedsOf old.number (map (λ t. Spent t.1.serial) out) l.history
    → m ≡ Acted old.number Ended ∷ spent out l.history → IsSettled new m
closed_ties old new s l m out ready is records same deeds more =
    let none = free old l.history ready.tied (λ s other. let clash : asks_closing ≡ asks_message s = sym is ∙ other in cc) in
    let still = undrained old l ready.legal ready.seated (open_for old asks_closing (λ f. cc) is) in
    let all = spends_all old l.history [] out (begun old l.history ready.tied (awake old l.history ready.tied (ap asks_to_sleep is))) deeds none still in
    tells old new None m (all_spent out ++ Ends ∷ []) Closed
    (does old (spent out l.history) m (all_spent out) (Acted old.number Ended) Ends all.0 more refl refl refl (ap (λ w. may_do w Ends) all.1) all.2)
    records
    (ap (λ out. after (tickets old) to_close (all_spent out ++ Ends ∷ [])) same ∙ close_met (tickets old) ∙ ap Some (sym (ap tickets records)))
    (unbrought old.over [] refl)
    (unnamed old to_close (all_spent out ++ Ends ∷ []) refl)
    (ap (λ m. waits m old.number) more ∙ all.1)
