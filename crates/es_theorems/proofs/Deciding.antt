-- What an agent does next is settled by its view, and by what the ledger says.
use Rattle.std.proofs.Common.{◌≡◌, ℕ, ◌+◌, ◌&&◌, true, false, cond, sym, ◌∙◌, ap, refl, subst, List, [], ◌∷◌, Option, Some, None, Ok, Err, Bool, drop}
use Rattle.std.proofs.lemmas.Bool.{false≢true, and_parts}
use Rattle.std.specs.Prelude.{nat_lt, is_none, unsigned_abs}
use Rattle.es_value.specs.Limits.{most_identities}
use Rattle.es_value.specs.declared.value.Value.{Value}
use Rattle.es_value.specs.declared.value.Value.TheVariants.{Object}
use Rattle.es_event.specs.declared.command.Command.{Command}
use Rattle.es_event.specs.declared.event.Answer.{Answer}
use Rattle.es_event.specs.declared.event.Event.{Event}
use Rattle.es_event.specs.declared.event.Event.TheVariants.{JobBegun, CleanupBegun, Received, Did, Refused, Emptied, Taken, JobEnded, Skipped, Closed}
use Rattle.es_event.specs.declared.event.Refusal.{Refusal}
use Rattle.es_event.specs.declared.event.Refusal.TheVariants.{TooManyValues}
use Rattle.es_event.specs.declared.ledger_event.Body.{Body}
use Rattle.es_event.specs.declared.ledger_event.Body.TheVariants.{Plain, Block}
use Rattle.es_event.specs.declared.row.Row.{Row}
use Rattle.es_event.specs.Access.{is_of_sleep}
use Rattle.es_event.specs.Commands.{collects, reads, first}
use Rattle.es_event.specs.Follows.{AtCommand, HasRoom, Permits, done_for, refused_now}
use Rattle.es_event.specs.Identities.{made, object_of}
use Rattle.es_event.specs.Jobs.{job, receivers}
use Rattle.es_event.specs.Heard.{Heard, a_message, heard_by, a_wait, a_word, heard_at, wait_given, wait_in, word_in}
use Rattle.es_event.specs.Legal.{values_of}
use Rattle.es_event.specs.Later.{snapshot}
use Rattle.es_event.specs.Ledger.{Ledger}
use Rattle.es_event.specs.Order.{Due, begin, receive, run, clean, take_cell, finish, end_job, close, due}
use Rattle.es_event.specs.Rules.{completion, refusal, refuse_or, result}
use Rattle.es_event.specs.Runs.{ComesNext, IsRunOver, heard}
use Rattle.es_event.specs.Sharing.{AgreeSoFar, Buffers}
use Rattle.es_event.proofs.Extending.{agrees_longer, agrees_with_itself, all_refusals, same_completion}
use Rattle.es_event.proofs.Next.{done_beside, empties_beside, one_next}
use Rattle.es_match.specs.Asks.{asks_did, between_jobs, nothing as asks_nothing, to_refuse, wants_room, asks_wait, asks_word, given, to_notify}
use Rattle.es_match.specs.Cluster.{awaited, is_refusal_asked}
use Rattle.es_match.specs.Deeds.{Deed, Spends}
use Rattle.es_match.specs.Meets.{after, refused_in, serials_of, spends, ticket_in, within}
use Rattle.es_record.specs.AgentView.{AgentView, IsNext, with_row}
use Rattle.es_agent.specs.Tickets.{tickets}
use Rattle.es_cluster.proofs.Asking.{at_command, at_message, awaited_at}
use Rattle.es_event.specs.declared.atomic.AtomicParts.{AtomicParts}
use Rattle.es_event.specs.declared.atomic.Operation.{Operation}
use Rattle.es_event.specs.declared.operand.Operand.{Operand}
use Rattle.es_event.specs.declared.command.Command.TheVariants.{Atomic}
use Rattle.es_event.specs.Numbers.{access_of, after_operand, index_of, most_taken, task_by, word_at, words_read}
use Rattle.es_theorems.proofs.Waiting.{SettlesNotify, SettlesWait, as_move, is_ending, no_ending, settles_notify, settles_wait}
use Rattle.es_theorems.proofs.Calm.{did_calm}
use Rattle.es_theorems.specs.Settled.{serial_at}
use Rattle.es_theorems.specs.Alike.{Alike}
use Rattle.es_theorems.specs.Doing.{did}
use Rattle.es_theorems.specs.Move.{Move, asked_by}
use Rattle.es_theorems.specs.Rousing.{Way, shown}
use Rattle.es_theorems.specs.Sleepless.{is_for_sleep}
use Rattle.es_theorems.proofs.Commands.{Settles, no_row, none_more, settles, some_if_true}
use Rattle.es_theorems.proofs.Messages.{Receives, Refuses, Says, Skips, next_words, taking_next, receives, refuses, skips}
use Rattle.es_theorems.proofs.Spending.{in_any_order}
use Rattle.es_theorems.proofs.Telling.{same}

-- two ways to go on are one
pub record Agree (n : ℕ) (l : Ledger) (e f : Event) (r q : Option Row) (ds es : List Deed) : Type 0 where
  pub event : e ≡ f
  pub row : r ≡ q
  pub alike : Alike (did n ds l) (did n es l)

by_deeds : (n : ℕ) (l : Ledger) (ds es : List Deed) → ds ≡ es → Alike (did n ds l) (did n es l)
by_deeds n l ds es is = subst (λ es. Alike (did n ds l) (did n es l)) is (same (did n ds l))

-- where the same ticket comes, and the same is heard, the event is the same
one_event : (b : AgentView) (e f : Event) (r q : Option Row) → IsNext (with_row r b) e → IsNext (with_row q b) f → r ≡ q → heard e ≡ heard f → e ≡ f
one_event b e f r q x y rows hears =
    one_next (with_row q b).over b.plan b.history e f (subst (λ r. ComesNext (with_row r b).over b.plan b.history e) rows (x.lawful, x.permitted)) (y.lawful, y.permitted) hears

agree : (n : ℕ) (l : Ledger) (b : AgentView) (e f : Event) (r q : Option Row) (ds es : List Deed) → IsNext (with_row r b) e → IsNext (with_row q b) f → r ≡ q → heard e ≡ heard f → Alike (did n ds l) (did n es l) → Agree n l e f r q ds es
agree n l b e f r q ds es x y rows hears alike = record { event = one_event b e f r q x y rows hears; row = rows; alike = alike }

-- Events that ask nothing

record Quiet (r : Option Row) (ds : List Deed) : Type 0 where
  row : r ≡ None
  deeds : ds ≡ []

is_quiet : (n : ℕ) (l : Ledger) (b : AgentView) (e : Event) (r : Option Row) (ds : List Deed) → asked_by b e ≡ asks_nothing → Move n l b e r ds → Quiet r ds
is_quiet n l b e r ds asks x = record {
  row = no_row (made b.history) r (sym (ap (λ q. ticket_in q ds) asks) ∙ x.came);
  deeds = none_more ds (some_if_true _ (tickets b) x.left (ap (λ q. after (tickets b) q ds) (sym asks) ∙ x.met));
}

both_quiet : (n : ℕ) (l : Ledger) (b : AgentView) (e f : Event) (r q : Option Row) (ds es : List Deed) → asked_by b e ≡ asks_nothing → asked_by b f ≡ asks_nothing → heard e ≡ heard f → Move n l b e r ds → Move n l b f q es → Agree n l e f r q ds es
both_quiet n l b e f r q ds es left right hears x y =
    let a = is_quiet n l b e r ds left x in
    let c = is_quiet n l b f q es right y in
    agree n l b e f r q ds es x.next y.next (a.row ∙ sym c.row) hears (by_deeds n l ds es (a.deeds ∙ sym c.deeds))

-- A command

pub agrees_row : (b : AgentView) (r : Option Row) → AgreeSoFar b.history b.over (with_row r b).over
agrees_row b None = agrees_with_itself b.history b.over
agrees_row b (Some r) = agrees_longer b.history b.over r

-- whatever ticket comes
same_done : (b : AgentView) → IsRunOver b.over b.plan b.history → (r q : Option Row) (c : Command) (vs : List Value) (w : Heard)
    → completion (with_row r b).over b.history c vs w ≡ completion (with_row q b).over b.history c vs w
same_done b history r q c vs w =
    same_completion b.over (with_row r b).over (receivers b.plan.jobs) b.history history.0 (agrees_row b r) c vs w
    ∙ sym (same_completion b.over (with_row q b).over (receivers b.plan.jobs) b.history history.0 (agrees_row b q) c vs w)

-- a command is not both done and refused
not_refused : (b : AgentView) → IsRunOver b.over b.plan b.history → (r q : Option Row) (c d : Command) (vs : List Value) (a : Answer) (code : Refusal) → d ≡ c → vs ≡ values_of (receivers b.plan.jobs) b.history (reads d)
    → completion (with_row r b).over b.history d vs (heard_by d a) ≡ Ok a → refusal (with_row q b).over b.history c (values_of (receivers b.plan.jobs) b.history (reads c)) ≡ Some code → ⊥
not_refused b history r q c d vs a code same read done refused =
    let into = receivers b.plan.jobs in
    let now : refusal (with_row q b).over b.history d vs ≡ Some code =
    ap (λ vs. refusal (with_row q b).over b.history d vs) read ∙ ap (λ d. refusal (with_row q b).over b.history d (values_of into b.history (reads d))) same ∙ refused in
    let fails : completion (with_row q b).over b.history d vs (heard_by d a) ≡ Err code = ap (λ f. refuse_or f (result (with_row q b).over b.history d vs (heard_by d a))) now in
    let clash = sym done ∙ same_done b history r q d vs (heard_by d a) ∙ fails in cc

-- a refusal is the same, whatever ticket comes
same_refusal : (b : AgentView) → IsRunOver b.over b.plan b.history → (r q : Option Row) (c : Command)
    → refused_now (with_row r b).over (receivers b.plan.jobs) b.history c ≡ refused_now (with_row q b).over (receivers b.plan.jobs) b.history c
same_refusal b history r q c =
    let vs = values_of (receivers b.plan.jobs) b.history (reads c) in
    sym (all_refusals b.over (with_row r b).over (receivers b.plan.jobs) b.history history.0 (agrees_row b r) c vs)
    ∙ all_refusals b.over (with_row q b).over (receivers b.plan.jobs) b.history history.0 (agrees_row b q) c vs

refused_quiet : (b : AgentView) (x : Option (List ℕ)) (c : Command) (code : Refusal) → due b.plan b.history ≡ run x c → asked_by b (Refused code) ≡ asks_nothing
refused_quiet b x c code at = ap (λ t. cond (t && wants_room code) to_refuse asks_nothing) (at_command b.plan b.history x c at)

both_done : (n : ℕ) (l : Ledger) (b : AgentView) (c d k : Command) (vs us : List Value) (a z : Answer) (r q : Option Row) (ds es : List Deed) → d ≡ c → k ≡ c → is_for_sleep c ≡ false → Move n l b (Did (d, vs, a)) r ds → Move n l b (Did (k, us, z)) q es
    → Agree n l (Did (d, vs, a)) (Did (k, us, z)) r q ds es
both_done n l b c d k vs us a z r q ds es p o calm x y =
    let u = settled d vs a r ds p x in
    let v = settled k us z q es o y in
    agree n l b (Did (d, vs, a)) (Did (k, us, z)) r q ds es x.next y.next (u.row ∙ sym v.row) (ap (λ d. heard_by d a) p ∙ u.hears ∙ sym v.hears ∙ sym (ap (λ k. heard_by k z) o)) (by_deeds n l ds es (u.deeds ∙ sym v.deeds))
  where
    values : List Value
    values = values_of (receivers b.plan.jobs) b.history (reads c)

    settled : (d : Command) (vs : List Value) (a : Answer) (r : Option Row) (ds : List Deed) → d ≡ c → Move n l b (Did (d, vs, a)) r ds → Settles l (tickets b) (made b.history) c values a r ds
    settled d vs a r ds p x =
        let read : vs ≡ values = x.next.lawful.0 ∙ ap (λ d. values_of (receivers b.plan.jobs) b.history (reads d)) p in
        let asks : asks_did d vs a ≡ asks_did c values a = ap (λ d. asks_did d vs a) p ∙ ap (λ vs. asks_did c vs a) read in
        settles n l (tickets b) x.left (made b.history) c values a r ds calm (ap (λ q. after (tickets b) q ds) (sym asks) ∙ x.met) (ap (λ q. ticket_in q ds) (sym asks) ∙ x.came) x.fit

-- A command that waits at a word, or notifies

-- what it did is the same ledger
by_ledgers : (n : ℕ) (l : Ledger) (ds es : List Deed) → did n ds l ≡ did n es l → Alike (did n ds l) (did n es l)
by_ledgers n l ds es is = subst (Alike (did n ds l)) is (same (did n ds l))

-- the values that it reads
abbrev pub values_read : AgentView → Command → List Value
values_read b c = values_of (receivers b.plan.jobs) b.history (reads c)

-- what it asks
pub asks_so : (b : AgentView) (c d : Command) (vs : List Value) (a : Answer) (r : Option Row) (ds : List Deed) (n : ℕ) (l : Ledger) → d ≡ c → Way n l b (Did (d, vs, a)) r ds → asks_did d vs a ≡ asks_did c (values_read b c) a
asks_so b c d vs a r ds n l p x =
    let read : vs ≡ values_of (receivers b.plan.jobs) b.history (reads c) = x.next.lawful.0 ∙ ap (λ d. values_of (receivers b.plan.jobs) b.history (reads d)) p in
    ap (λ d. asks_did d vs a) p ∙ ap (λ vs. asks_did c vs a) read

waited : (n : ℕ) (l : Ledger) (b : AgentView) (k : AtomicParts) (to : List ℕ) (number : Operand) (d : Command) (vs : List Value) (a : Answer) (r : Option Row) (ds : List Deed) → k.operation ≡ Operation.Wait to number → d ≡ Atomic k → Way n l b (Did (d, vs, a)) r ds
    → SettlesWait n l (serial_at (tickets b) (first (values_read b (Atomic k)))) (unsigned_abs (index_of k (values_read b (Atomic k)))) (word_at 0 (words_read k (values_read b (Atomic k)))) a r ds
waited n l b k to number d vs a r ds operation p x =
    let us = values_read b (Atomic k) in
    let asks : asks_did d vs a ≡ asks_wait (first us) (index_of k us) (word_at 0 (words_read k us)) (wait_given (given a)) =
    asks_so b (Atomic k) d vs a r ds n l p x ∙ ap (λ o. asks_word (first us) (index_of k us) (task_by o (access_of k us) (word_at 0 (words_read k us)) (after_operand k.index (drop 1 us))) (given a)) operation in
    settles_wait n l (tickets b) x.left (made b.history) (first us) (index_of k us) (word_at 0 (words_read k us)) a r ds (ap (λ q. after (tickets b) q (shown ds)) (sym asks) ∙ x.met) (ap (λ q. ticket_in q (shown ds)) (sym asks) ∙ x.came) x.fit x.led

both_waited : (n : ℕ) (l : Ledger) (b : AgentView) (k : AtomicParts) (to : List ℕ) (number : Operand) (d g : Command) (vs us : List Value) (a z : Answer) (r q : Option Row) (ds es : List Deed) → k.operation ≡ Operation.Wait to number → d ≡ Atomic k → g ≡ Atomic k
    → Way n l b (Did (d, vs, a)) r ds → Way n l b (Did (g, us, z)) q es → Agree n l (Did (d, vs, a)) (Did (g, us, z)) r q ds es
both_waited n l b k to number d g vs us a z r q ds es operation p o x y =
    let u = waited n l b k to number d vs a r ds operation p x in
    let v = waited n l b k to number g us z q es operation o y in
    let hears : (a : Answer) → heard_by (Atomic k) a ≡ a_wait (wait_in a) = λ a. ap (λ o. heard_at o a) operation in
    agree n l b (Did (d, vs, a)) (Did (g, us, z)) r q ds es x.next y.next (u.row ∙ sym v.row)
    (ap (λ d. heard_by d a) p ∙ hears a ∙ ap a_wait (u.ended ∙ sym v.ended) ∙ sym (hears z) ∙ sym (ap (λ g. heard_by g z) o))
    (by_ledgers n l ds es (u.leaves ∙ sym v.leaves))

notified : (n : ℕ) (l : Ledger) (b : AgentView) (k : AtomicParts) (to : List ℕ) (count : Option Operand) (d : Command) (vs : List Value) (a : Answer) (r : Option Row) (ds : List Deed) → k.operation ≡ Operation.Notify to count → d ≡ Atomic k → Way n l b (Did (d, vs, a)) r ds
    → SettlesNotify l (serial_at (tickets b) (first (values_read b (Atomic k)))) (unsigned_abs (index_of k (values_read b (Atomic k)))) (most_taken count (after_operand k.index (drop 1 (values_read b (Atomic k))))) a r ds
notified n l b k to count d vs a r ds operation p x =
    let us = values_read b (Atomic k) in
    let many = most_taken count (after_operand k.index (drop 1 us)) in
    let asks : asks_did d vs a ≡ to_notify (first us) (index_of k us) many (given a) =
    asks_so b (Atomic k) d vs a r ds n l p x ∙ ap (λ o. asks_word (first us) (index_of k us) (task_by o (access_of k us) (word_at 0 (words_read k us)) (after_operand k.index (drop 1 us))) (given a)) operation in
    let m = as_move n l b (Did (d, vs, a)) r ds (ap is_ending asks) x in
    settles_notify n l (tickets b) m.left (made b.history) (first us) (index_of k us) many a r ds (ap (λ q. after (tickets b) q ds) (sym asks) ∙ m.met) (ap (λ q. ticket_in q ds) (sym asks) ∙ m.came) m.fit

both_notified : (n : ℕ) (l : Ledger) (b : AgentView) (k : AtomicParts) (to : List ℕ) (count : Option Operand) (d g : Command) (vs us : List Value) (a z : Answer) (r q : Option Row) (ds es : List Deed) → k.operation ≡ Operation.Notify to count → d ≡ Atomic k → g ≡ Atomic k
    → Way n l b (Did (d, vs, a)) r ds → Way n l b (Did (g, us, z)) q es → Agree n l (Did (d, vs, a)) (Did (g, us, z)) r q ds es
both_notified n l b k to count d g vs us a z r q ds es operation p o x y =
    let u = notified n l b k to count d vs a r ds operation p x in
    let v = notified n l b k to count g us z q es operation o y in
    let hears : (a : Answer) → heard_by (Atomic k) a ≡ a_word (word_in a) = λ a. ap (λ o. heard_at o a) operation in
    agree n l b (Did (d, vs, a)) (Did (g, us, z)) r q ds es x.next y.next (u.row ∙ sym v.row)
    (ap (λ d. heard_by d a) p ∙ hears a ∙ ap a_word (u.took ∙ sym v.took) ∙ sym (hears z) ∙ sym (ap (λ g. heard_by g z) o))
    (by_deeds n l ds es (u.deeds ∙ sym v.deeds))

both_of_sleep : (n : ℕ) (l : Ledger) (b : AgentView) (c d k : Command) (vs us : List Value) (a z : Answer) (r q : Option Row) (ds es : List Deed) → d ≡ c → k ≡ c → is_for_sleep c ≡ true → Way n l b (Did (d, vs, a)) r ds → Way n l b (Did (k, us, z)) q es
    → Agree n l (Did (d, vs, a)) (Did (k, us, z)) r q ds es
both_of_sleep n l b (Atomic c) d k vs us a z r q ds es p o sleeps x y = by c.operation refl sleeps
  where
    by : (how : Operation) → c.operation ≡ how → is_of_sleep how ≡ true → Agree n l (Did (d, vs, a)) (Did (k, us, z)) r q ds es
    by (Operation.Wait to number) is e = both_waited n l b c to number d k vs us a z r q ds es is p o x y
    by (Operation.Notify to count) is e = both_notified n l b c to count d k vs us a z r q ds es is p o x y
    by _ is e = cc
both_of_sleep n l b _ d k vs us a z r q ds es p o sleeps x y = cc

-- a command that does neither ends no sleep
did_plain : (b : AgentView) (c d : Command) (vs : List Value) (a : Answer) → d ≡ c → is_for_sleep c ≡ false → is_ending (asked_by b (Did (d, vs, a))) ≡ false
did_plain b c d vs a p calm = ap (λ d. is_ending (asks_did d vs a)) p ∙ no_ending (asks_did c vs a) (did_calm c vs a calm)

both_did : (n : ℕ) (l : Ledger) (b : AgentView) (c d k : Command) (vs us : List Value) (a z : Answer) (r q : Option Row) (ds es : List Deed) → d ≡ c → k ≡ c → Way n l b (Did (d, vs, a)) r ds → Way n l b (Did (k, us, z)) q es → Agree n l (Did (d, vs, a)) (Did (k, us, z)) r q ds es
both_did n l b c d k vs us a z r q ds es p o x y = by (is_for_sleep c) refl
  where
    by : (t : Bool) → is_for_sleep c ≡ t → Agree n l (Did (d, vs, a)) (Did (k, us, z)) r q ds es
    by true sleeps = both_of_sleep n l b c d k vs us a z r q ds es p o sleeps x y
    by false calm = both_done n l b c d k vs us a z r q ds es p o calm (as_move n l b (Did (d, vs, a)) r ds (did_plain b c d vs a p calm) x) (as_move n l b (Did (k, us, z)) q es (did_plain b c k us z o calm) y)

no_ticket_emptied : (n : ℕ) (l : Ledger) (b : AgentView) (ids : List ℕ) (r : Option Row) (ds : List Deed) → Move n l b (Emptied ids) r ds → r ≡ None
no_ticket_emptied n l b ids r ds x = no_row (made b.history) r x.came

both_emptied : (n : ℕ) (l : Ledger) (b : AgentView) (ids jds : List ℕ) (r q : Option Row) (ds es : List Deed) → Move n l b (Emptied ids) r ds → Move n l b (Emptied jds) q es → Agree n l (Emptied ids) (Emptied jds) r q ds es
both_emptied n l b ids jds r q ds es x y =
    let rows : r ≡ q = no_ticket_emptied n l b ids r ds x ∙ sym (no_ticket_emptied n l b jds q es y) in
    let event : ◌≡◌ {A = Event} (Emptied ids) (Emptied jds) = one_event b (Emptied ids) (Emptied jds) r q x.next y.next rows refl in
    let all : ids ≡ jds = cc in
    let mine : spends false (serials_of (within ids (tickets b))) ds ≡ true = some_if_true _ _ x.left x.met in
    let other : spends false (serials_of (within jds (tickets b))) es ≡ true = some_if_true _ _ y.left y.met in
    record {
      event = event;
      row = rows;
      alike = in_any_order false n l (serials_of (within ids (tickets b))) ds es mine (subst (λ ids. spends false (serials_of (within ids (tickets b))) es ≡ true) (sym all) other);
    }

-- what is refused is not emptied
not_emptied : (n : ℕ) (l : Ledger) (b : AgentView) (x : Option (List ℕ)) (c : Command) (code : Refusal) (ids : List ℕ) (r q : Option Row) (ds es : List Deed) → due b.plan b.history ≡ run x c → Move n l b (Refused code) r ds → Move n l b (Emptied ids) q es → ⊥
not_emptied n l b k c code ids r q ds es at x y =
    let rows : r ≡ q = (is_quiet n l b (Refused code) r ds (refused_quiet b k c code at) x).row ∙ sym (no_ticket_emptied n l b ids q es y) in
    let event : ◌≡◌ {A = Event} (Refused code) (Emptied ids) = one_event b (Refused code) (Emptied ids) r q x.next y.next rows refl in cc

refused_plain : (b : AgentView) (code : Refusal) → is_ending (asked_by b (Refused code)) ≡ false
refused_plain b code = by (between_jobs b.history && wants_room code)
  where
    by : (t : Bool) → is_ending (cond t to_refuse asks_nothing) ≡ false
    by true = refl
    by false = refl

refused_move : (n : ℕ) (l : Ledger) (b : AgentView) (code : Refusal) (r : Option Row) (ds : List Deed) → Way n l b (Refused code) r ds → Move n l b (Refused code) r ds
refused_move n l b code r ds x = as_move n l b (Refused code) r ds (refused_plain b code) x

emptied_move : (n : ℕ) (l : Ledger) (b : AgentView) (ids : List ℕ) (r : Option Row) (ds : List Deed) → Way n l b (Emptied ids) r ds → Move n l b (Emptied ids) r ds
emptied_move n l b ids r ds x = as_move n l b (Emptied ids) r ds refl x

commanded : (n : ℕ) (l : Ledger) (b : AgentView) → IsRunOver b.over b.plan b.history → (w : Option (List ℕ)) (c : Command) → due b.plan b.history ≡ run w c → (e f : Event) (r q : Option Row) (ds es : List Deed)
    → AtCommand (with_row r b).over (receivers b.plan.jobs) b.history w c e → AtCommand (with_row q b).over (receivers b.plan.jobs) b.history w c f → Way n l b e r ds → Way n l b f q es → Agree n l e f r q ds es
commanded n l b history w c at (Did (d, vs, a)) (Did (k, us, z)) r q ds es p o x y =
    both_did n l b (done_for (refused_now (with_row q b).over (receivers b.plan.jobs) b.history c) w c) d k vs us a z r q ds es (p ∙ ap (λ o. done_for o w c) (same_refusal b history r q c)) o x y
commanded n l b history w c at (Did (d, vs, a)) (Refused code) r q ds es p o x y =
    absurd (not_refused b history r q c d vs a code (done_beside (with_row r b).over (receivers b.plan.jobs) b.history w c d o.0 p) x.next.lawful.0 x.next.lawful.1 o.1)
commanded n l b history w c at (Did (d, vs, a)) (Emptied ids) r q ds es p o x y =
    absurd (false≢true (sym x.next.lawful.2 ∙ ap collects (empties_beside (with_row r b).over (receivers b.plan.jobs) b.history w c d o.0 p) ∙ (and_parts (collects c) (is_none (snapshot b.history)) o.0).0))
commanded n l b history w c at (Refused code) (Did (k, us, z)) r q ds es p o x y =
    absurd (not_refused b history q r c k us z code (done_beside (with_row q b).over (receivers b.plan.jobs) b.history w c k p.0 o) y.next.lawful.0 y.next.lawful.1 p.1)
commanded n l b history w c at (Refused code) (Refused other) r q ds es p o x y =
    both_quiet n l b (Refused code) (Refused other) r q ds es (refused_quiet b w c code at) (refused_quiet b w c other at) refl (refused_move n l b code r ds x) (refused_move n l b other q es y)
commanded n l b history w c at (Refused code) (Emptied ids) r q ds es p o x y = absurd (not_emptied n l b w c code ids r q ds es at (refused_move n l b code r ds x) (emptied_move n l b ids q es y))
commanded n l b history w c at (Emptied ids) (Did (k, us, z)) r q ds es p o x y = absurd (false≢true (sym y.next.lawful.2 ∙ ap collects (empties_beside (with_row q b).over (receivers b.plan.jobs) b.history w c k p.0 o) ∙ (and_parts (collects c) (is_none (snapshot b.history)) p.0).0))
commanded n l b history w c at (Emptied ids) (Refused code) r q ds es p o x y = absurd (not_emptied n l b w c code ids q r es ds at (refused_move n l b code q es y) (emptied_move n l b ids r ds x))
commanded n l b history w c at (Emptied ids) (Emptied jds) r q ds es p o x y = both_emptied n l b ids jds r q ds es (emptied_move n l b ids r ds x) (emptied_move n l b jds q es y)
commanded n l b history w c at (Did (d, vs, a)) _ r q ds es p o x y = absurd o
commanded n l b history w c at (Refused code) _ r q ds es p o x y = absurd o
commanded n l b history w c at (Emptied ids) _ r q ds es p o x y = absurd o
commanded n l b history w c at _ f r q ds es p o x y = absurd p

-- A message

same_says : (m : Body) (w i : ℕ) (v z : Value) (r q : Option Row) → Says m w i v r → Says m w i z q → (v ≡ z) × (r ≡ q)
same_says (Plain u) w i v z r q a c = (a.0 ∙ sym c.0, a.1 ∙ sym c.1)
same_says (Block b k) w i v z r q a c = (a.0 ∙ sym c.0, a.1 ∙ sym c.1)

received : (n : ℕ) (l : Ledger) (b : AgentView) (s t : ℕ) (v : Value) (r : Option Row) (ds : List Deed) → t ≡ s → Move n l b (Received t v) r ds → Receives l n s (made b.history) v r ds
received n l b s t v r ds same x =
    subst (λ s. Receives l n s (made b.history) v r ds) same (receives (with_row r b).over b.history n l (tickets b) x.left t v r ds x.next.lawful x.met x.came x.fit)

skipped : (n : ℕ) (l : Ledger) (b : AgentView) (s j t : ℕ) (r : Option Row) (ds : List Deed) → t ≡ s → Move n l b (Skipped j t) r ds → Skips l n s ds
skipped n l b s j t r ds same x = subst (λ s. Skips l n s ds) same (skips n l t ds (some_if_true _ _ x.left x.met) x.fit)

no_ticket_skipped : (n : ℕ) (l : Ledger) (b : AgentView) (j t : ℕ) (r : Option Row) (ds : List Deed) → Move n l b (Skipped j t) r ds → r ≡ None
no_ticket_skipped n l b j t r ds x = no_row (made b.history) r x.came

-- the refusal of a message
record Declined (n : ℕ) (l : Ledger) (s : ℕ) (r : Option Row) (ds : List Deed) : Type 0 where
  refuses : Refuses l n s ds
  row : r ≡ None

declined : (n : ℕ) (l : Ledger) (b : AgentView) → IsRunOver b.over b.plan b.history → (j s : ℕ) → due b.plan b.history ≡ receive j s → (code : Refusal) (r : Option Row) (ds : List Deed) → code ≡ TooManyValues → Move n l b (Refused code) r ds
    → Declined n l s r ds
declined n l b history j s at code r ds same x =
    let between : between_jobs b.history ≡ true = at_message b.over b.plan b.history j s history.1 at in
    let asks : asked_by b (Refused code) ≡ to_refuse = ap (λ t. cond (t && wants_room code) to_refuse asks_nothing) between ∙ ap (λ code. cond (wants_room code) to_refuse asks_nothing) same in
    let sender : refused_in to_refuse ds ≡ s ∷ [] =
    ap (λ q. refused_in q ds) (sym asks) ∙ x.sender ∙ ap (λ q. cond (is_refusal_asked q) (awaited b.plan (job b.history)) []) asks ∙ awaited_at b.plan b.history j s at in
    record {
      refuses = refuses n l s ds (some_if_true _ _ x.left (ap (λ q. after (tickets b) q ds) (sym asks) ∙ x.met)) sender x.fit;
      row = no_row (made b.history) r (sym (ap (λ q. ticket_in q ds) asks) ∙ x.came);
    }

-- a message that finds no room is not received: its block would be a new object
not_received : (n : ℕ) (l : Ledger) (b : AgentView) (s : ℕ) (v : Value) (r : Option Row) (ds es : List Deed) → HasRoom b.history (object_of v) → nat_lt (made b.history) most_identities ≡ false → Receives l n s (made b.history) v r ds → Refuses l n s es → ⊥
not_received n l b s v r ds es room full x y =
    let body : x.body ≡ Block y.block y.serial = (let found = sym x.front_is ∙ y.front_is in cc) in
    let value : v ≡ Object (made b.history + 1) = (subst (λ m. Says m (next_words l s n) (made b.history) v r) body x.says).0 in
    let has : nat_lt (made b.history) most_identities ≡ true = subst (λ v. HasRoom b.history (object_of v)) value room in
    false≢true (sym full ∙ has)

messaged : (n : ℕ) (l : Ledger) (b : AgentView) → IsRunOver b.over b.plan b.history → (j s : ℕ) → due b.plan b.history ≡ receive j s → (e f : Event) (r q : Option Row) (ds es : List Deed)
    → Permits (with_row r b).over (receivers b.plan.jobs) b.history (receive j s) e → Permits (with_row q b).over (receivers b.plan.jobs) b.history (receive j s) f → Move n l b e r ds → Move n l b f q es → Agree n l e f r q ds es
messaged n l b history j s at (Received t v) (Received u z) r q ds es p o x y =
    let a = received n l b s t v r ds p.0 x in
    let c = received n l b s u z q es o.0 y in
    let body : c.body ≡ a.body = (let found = sym c.front_is ∙ a.front_is in cc) in
    let both = same_says a.body (next_words l s n) (made b.history) v z r q a.says (subst (λ m. Says m (next_words l s n) (made b.history) z q) body c.says) in
    agree n l b (Received t v) (Received u z) r q ds es x.next y.next both.1 (ap a_message both.0) (by_deeds n l ds es (a.deeds ∙ sym c.deeds))
messaged n l b history j s at (Received t v) (Skipped i u) r q ds es p o x y = absurd (false≢true (sym (skipped n l b s i u q es o.1 y).none ∙ (received n l b s t v r ds p.0 x).there))
messaged n l b history j s at (Received t v) (Refused code) r q ds es p o x y = absurd (not_received n l b s v r ds es p.1 o.1 (received n l b s t v r ds p.0 x) (declined n l b history j s at code q es o.0 y).refuses)
messaged n l b history j s at (Skipped i t) (Received u z) r q ds es p o x y = absurd (false≢true (sym (skipped n l b s i t r ds p.1 x).none ∙ (received n l b s u z q es o.0 y).there))
messaged n l b history j s at (Skipped i t) (Skipped k u) r q ds es p o x y =
    agree n l b (Skipped i t) (Skipped k u) r q ds es x.next y.next (no_ticket_skipped n l b i t r ds x ∙ sym (no_ticket_skipped n l b k u q es y)) refl
    (by_deeds n l ds es ((skipped n l b s i t r ds p.1 x).deeds ∙ sym (skipped n l b s k u q es o.1 y).deeds))
messaged n l b history j s at (Skipped i t) (Refused code) r q ds es p o x y = absurd (false≢true (sym (skipped n l b s i t r ds p.1 x).none ∙ (declined n l b history j s at code q es o.0 y).refuses.there))
messaged n l b history j s at (Refused code) (Received u z) r q ds es p o x y = absurd (not_received n l b s z q es ds o.1 p.1 (received n l b s u z q es o.0 y) (declined n l b history j s at code r ds p.0 x).refuses)
messaged n l b history j s at (Refused code) (Skipped k u) r q ds es p o x y = absurd (false≢true (sym (skipped n l b s k u q es o.1 y).none ∙ (declined n l b history j s at code r ds p.0 x).refuses.there))
messaged n l b history j s at (Refused code) (Refused other) r q ds es p o x y =
    let a = declined n l b history j s at code r ds p.0 x in
    let c = declined n l b history j s at other q es o.0 y in
    let serial : c.refuses.serial ≡ a.refuses.serial = (let found = sym c.refuses.front_is ∙ a.refuses.front_is in cc) in
    agree n l b (Refused code) (Refused other) r q ds es x.next y.next (a.row ∙ sym c.row) refl
    (by_deeds n l ds es (a.refuses.deeds ∙ ap (λ k. taking_next l s n ∷ Spends k ∷ []) (sym serial) ∙ sym c.refuses.deeds))
messaged n l b history j s at (Received t v) _ r q ds es p o x y = absurd o
messaged n l b history j s at (Skipped i t) _ r q ds es p o x y = absurd o
messaged n l b history j s at (Refused code) _ r q ds es p o x y = absurd o
messaged n l b history j s at _ f r q ds es p o x y = absurd p

-- Whatever is due

both_closed : (n : ℕ) (l : Ledger) (b : AgentView) (r q : Option Row) (ds es : List Deed) → Move n l b Closed r ds → Move n l b Closed q es → Agree n l Closed Closed r q ds es
both_closed n l b r q ds es x y = record {
  event = refl;
  row = no_row (made b.history) r x.came ∙ sym (no_row (made b.history) q y.came);
  alike = in_any_order true n l (serials_of (tickets b)) ds es (some_if_true _ _ x.left x.met) (some_if_true _ _ y.left y.met);
}

-- what is heard while a job waits for a message ends no sleep
heard_plain : (b : AgentView) (over : Buffers) (j s : ℕ) (e : Event) → Permits over (receivers b.plan.jobs) b.history (receive j s) e → is_ending (asked_by b e) ≡ false
heard_plain b over j s (Received t v) may = refl
heard_plain b over j s (Skipped i t) may = refl
heard_plain b over j s (Refused code) may = refused_plain b code
heard_plain b over j s _ may = absurd may

by_due : (n : ℕ) (l : Ledger) (b : AgentView) → IsRunOver b.over b.plan b.history → (d : Due) → due b.plan b.history ≡ d → (e f : Event) (r q : Option Row) (ds es : List Deed)
    → Permits (with_row r b).over (receivers b.plan.jobs) b.history d e → Permits (with_row q b).over (receivers b.plan.jobs) b.history d f → Way n l b e r ds → Way n l b f q es → Agree n l e f r q ds es
by_due n l b history (run w c) at e f r q ds es p o x y = commanded n l b history w c at e f r q ds es p o x y
by_due n l b history (receive j s) at e f r q ds es p o x y =
    messaged n l b history j s at e f r q ds es p o (as_move n l b e r ds (heard_plain b (with_row r b).over j s e p) x) (as_move n l b f q es (heard_plain b (with_row q b).over j s f o) y)
by_due n l b history (begin k) at (JobBegun i) (JobBegun j) r q ds es p o x y = both_quiet n l b (JobBegun i) (JobBegun j) r q ds es refl refl refl (as_move n l b (JobBegun i) r ds refl x) (as_move n l b (JobBegun j) q es refl y)
by_due n l b history (clean k) at (CleanupBegun i) (CleanupBegun j) r q ds es p o x y = both_quiet n l b (CleanupBegun i) (CleanupBegun j) r q ds es refl refl refl (as_move n l b (CleanupBegun i) r ds refl x) (as_move n l b (CleanupBegun j) q es refl y)
by_due n l b history (take_cell k) at (Taken i v) (Taken j z) r q ds es p o x y = both_quiet n l b (Taken i v) (Taken j z) r q ds es refl refl refl (as_move n l b (Taken i v) r ds refl x) (as_move n l b (Taken j z) q es refl y)
by_due n l b history (finish k) at (Emptied ids) (Emptied jds) r q ds es p o x y = both_emptied n l b ids jds r q ds es (emptied_move n l b ids r ds x) (emptied_move n l b jds q es y)
by_due n l b history end_job at JobEnded JobEnded r q ds es p o x y = both_quiet n l b JobEnded JobEnded r q ds es refl refl refl (as_move n l b JobEnded r ds refl x) (as_move n l b JobEnded q es refl y)
by_due n l b history close at Closed Closed r q ds es p o x y = both_closed n l b r q ds es (as_move n l b Closed r ds refl x) (as_move n l b Closed q es refl y)
by_due n l b history (begin k) at (JobBegun i) _ r q ds es p o x y = absurd o
by_due n l b history (clean k) at (CleanupBegun i) _ r q ds es p o x y = absurd o
by_due n l b history (take_cell k) at (Taken i v) _ r q ds es p o x y = absurd o
by_due n l b history (finish k) at (Emptied ids) _ r q ds es p o x y = absurd o
by_due n l b history end_job at JobEnded _ r q ds es p o x y = absurd o
by_due n l b history close at Closed _ r q ds es p o x y = absurd o
by_due n l b history _ at _ f r q ds es p o x y = absurd p

pub one_way : (n : ℕ) (l : Ledger) (b : AgentView) (e f : Event) (r q : Option Row) (ds es : List Deed) → IsRunOver b.over b.plan b.history → Way n l b e r ds → Way n l b f q es → Agree n l e f r q ds es
one_way n l b e f r q ds es history x y = by_due n l b history (due b.plan b.history) refl e f r q ds es x.next.permitted y.next.permitted x y
