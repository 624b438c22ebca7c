-- The next event of an agent whose whole history is known: it comes next, and its deeds bring what the agent has.
use Rattle.std.proofs.Common.{◌≡◌, ℕ, ◌+◌, ◌≤◌, ◌&&◌, Bool, true, false, cond, sym, ◌∙◌, ap, refl, subst, arith, List, [], ◌∷◌, ◌++◌, append-nil, append_assoc, take, drop, reverse, Option, Some, None, ne_eqb}
use Rattle.std.specs.Prelude.{slice_get}
use Rattle.std.specs.Option.{option_map_or}
use Rattle.std.proofs.lemmas.Bool.{and_parts, false≢true}
use Rattle.std.proofs.lemmas.List.{reverse-append, reverse-reverse, append_cancel_left}
use Rattle.es_event.specs.declared.event.Event.{Event}
use Rattle.es_event.specs.declared.event.Event.TheVariants.{Did, Refused, Emptied, Closed}
use Rattle.es_event.specs.declared.event.Refusal.{Refusal}
use Rattle.es_event.specs.declared.plan.AgentPlan.{AgentPlan}
use Rattle.es_event.specs.declared.row.Row.{Row}
use Rattle.es_event.specs.Follows.{Follows, Permits}
use Rattle.es_event.specs.History.{History}
use Rattle.es_event.specs.Identities.{made}
use Rattle.es_event.specs.Jobs.{Receivers, job, receivers}
use Rattle.es_event.specs.Legal.{Lawful, LegalBy}
use Rattle.es_event.specs.Order.{Due, receive, run, due}
use Rattle.es_event.specs.Runs.{IsRunOver}
use Rattle.es_event.specs.Sharing.{AgreeSoFar, Buffers, row_at}
use Rattle.es_event.proofs.Extending.{agrees_before, still_lawful, still_permitted}
use Rattle.es_match.specs.Asks.{Asking, nothing, to_refuse, asks, asks_did, between_jobs, ends_job, wants_room}
use Rattle.es_match.specs.Cluster.{awaited, is_refusal_asked, refused_senders}
use Rattle.es_match.specs.Goes.{asked, goes}
use Rattle.es_match.specs.Meets.{Came, Tickets, after, came_after, is_refusal, no_more, pair, refused_in, sender_of, some_if, ticket_in}
use Rattle.es_match.proofs.Bridge.{chained, mapped, reverse_cons}
use Rattle.es_match.specs.Deeds.{Deed, Takes}
use Rattle.es_record.specs.AgentView.{AgentView, IsNext, with_row}
use Rattle.es_agent.specs.Tickets.{tickets}
use Rattle.es_agent.proofs.Racks.{emptied_tickets}
use Rattle.es_cluster.specs.Tied.{came_to}
use Rattle.es_cluster.proofs.Asking.{at_command, awaited_at}
use Rattle.es_cluster.proofs.Midway.{did_not_refuse}
use Rattle.es_theorems.specs.Settled.{came_row}
use Rattle.es_theorems.specs.Grown.{AllAbove, Later, Unfolded, asked_by, deeds_asked, grown}
use Rattle.es_theorems.proofs.Coming.{quiet_brings, quiet_tickets, some_if_is}
use Rattle.es_theorems.proofs.Messages.{two_of}

-- What comes with any event

came_ticket : (over : Buffers) (into : Receivers) (h : History) (e : Event) (between : Bool) (t left : Tickets) (now : List Deed) → Lawful over into h e → after t (asks between e) now ≡ Some left
    → (r : Option Row) × (ticket_in (asks between e) now ≡ came_row (made h) r)
came_ticket over into h (Emptied ids) between t left now law met = (None, refl)
came_ticket over into h Closed between t left now law met = (None, refl)
came_ticket over into h e between t left now law met = let b = quiet_brings over into h e between t left now law tt (λ f. cc) met in (b.row, b.comes)

-- Beginnings of what is legal

pub legal_part : (over : Buffers) (into : Receivers) (xs h : History) → LegalBy over into (xs ++ h) → LegalBy over into h
legal_part over into [] h legal = legal
legal_part over into (x ∷ xs) h legal = legal_part over into xs h legal.1

pub follows_part : (over : Buffers) (plan : AgentPlan) (xs h : History) → Follows over plan (xs ++ h) → Follows over plan h
follows_part over plan [] h follows = follows
follows_part over plan (x ∷ xs) h follows = follows_part over plan xs h follows.1

senders_part : (plan : AgentPlan) (xs h : History) → (z : List ℕ) × (refused_senders plan (xs ++ h) ≡ refused_senders plan h ++ z)
senders_part plan [] h = ([], sym (append-nil (refused_senders plan h)))
senders_part plan (x ∷ xs) h =
    let rest = senders_part plan xs h in
    let more = cond (is_refusal_asked (asks (between_jobs (xs ++ h)) x)) (awaited plan (job (xs ++ h))) [] in
    (rest.0 ++ more, ap (λ ns. ns ++ more) rest.1 ∙ append_assoc (refused_senders plan h) rest.0 more)

-- What comes later

above_less : (m n : ℕ) (ts : Tickets) → m ≤ n → AllAbove n ts → AllAbove m ts
above_less m n [] less above = tt
above_less m n (t ∷ ts) less above = (let a = above.0 in omega (arith, less, a), above_less m n ts less above.1)

above_row : (m : ℕ) (r : Option Row) (ts : Tickets) → AllAbove m ts → AllAbove m (came_row m r ++ ts)
above_row m None ts above = above
above_row m (Some r) ts above = (omega arith, above)

pub later : (over : Buffers) (plan : AgentPlan) (rest : List Event) (h : History) (c final : Came) (ds : List Deed) → LegalBy over (receivers plan.jobs) (reverse rest ++ h) → goes (between_jobs h) c rest ds ≡ Some final → Later (made h) c final
later over plan [] h c final ds legal go =
    let same : final ≡ c = some_if_is (no_more ds) c final go in
    record { more = []; ever = ap (λ c. c.ever) same ∙ sym (append-nil c.ever); above = tt; senders = []; refused = ap (λ c. c.refused) same ∙ sym (append-nil c.refused) }
later over plan (e ∷ rest) h c final ds legal go =
    let w = asks (between_jobs h) e in
    let k = asked c.tickets w in
    let now = take k ds in
    let s = chained (λ d. goes (ends_job e) d rest (drop k ds)) (came_after c w now) final go in
    let m = mapped _ (after c.tickets w now) s.0 s.1 in
    let more : LegalBy over (receivers plan.jobs) (reverse rest ++ e ∷ h) = subst (LegalBy over (receivers plan.jobs)) (reverse_cons e rest h) legal in
    let law = (legal_part over (receivers plan.jobs) (reverse rest) (e ∷ h) more).0 in
    let ticket = came_ticket over (receivers plan.jobs) h e (between_jobs h) c.tickets m.0 now law m.1 in
    let on = later over plan rest (e ∷ h) s.0 final (drop k ds) more s.2 in
    let grows : made h ≤ made (e ∷ h) = omega arith in
    record {
      more = came_row (made h) ticket.0 ++ on.more;
      ever = on.ever ∙ ap (λ c. c.ever ++ on.more) (sym m.2) ∙ append_assoc c.ever (ticket_in w now) on.more ∙ ap (λ t. c.ever ++ (t ++ on.more)) ticket.1;
      above = above_row (made h) ticket.0 on.more (above_less (made h) (made (e ∷ h)) on.more grows on.above);
      senders = refused_in w now ++ on.senders;
      refused = on.refused ∙ ap (λ c. c.refused ++ on.senders) (sym m.2) ∙ append_assoc c.refused (refused_in w now) on.senders;
    }

-- Tables that say the same so far

past : (x ov : Tickets) (o m : ℕ) → AllAbove m x → o ≤ m → row_at (reverse x ++ ov) o ≡ row_at ov o
past [] ov o m above within = refl
past (t ∷ x) ov o m above within =
    ap (λ ts. row_at ts o) (reverse_cons t x ov)
    ∙ past x (t ∷ ov) o m above.1 within
    ∙ ap (λ b. cond b (Some t.1) (row_at ov o)) (ne_eqb t.0 o (λ same. let a = above.0 in omega (arith, a, same, within)))

-- The sender of a message that finds no room

its_sender : (c d : Deed) → is_refusal c d ≡ true → (u : ℕ) × (sender_of c ≡ u ∷ [])
its_sender (Takes u m w) d is = (u, refl)
its_sender _ d is = cc

refused_one : (t left : Tickets) (now : List Deed) → after t to_refuse now ≡ Some left → (u : ℕ) × (refused_in to_refuse now ≡ u ∷ [])
refused_one t left now met = at (option_map_or (λ p. is_refusal p.0 p.1) (pair now) false) refl met
  where
    at : (b : Bool) → option_map_or (λ p. is_refusal p.0 p.1) (pair now) false ≡ b → some_if b t ≡ Some left → (u : ℕ) × (refused_in to_refuse now ≡ u ∷ [])
    at false is got = cc
    at true is got =
        let two = two_of (λ p. is_refusal p.0 p.1) now is in
        let sender = its_sender two.0 two.1 two.3 in
        (sender.0, ap (refused_in to_refuse) two.2 ∙ sender.1)

-- what is refused between two jobs is a message
pub refused_between : (over : Buffers) (into : Receivers) (plan : AgentPlan) (h : History) (code : Refusal) (d : Due) → due plan h ≡ d → Permits over into h d (Refused code) → between_jobs h ≡ true → (n s : ℕ) × (due plan h ≡ receive n s)
refused_between over into plan h code (run x c) is may between = absurd (false≢true (sym (at_command plan h x c is) ∙ between))
refused_between over into plan h code (receive n s) is may between = (n, s, is)
refused_between over into plan h code _ is may between = absurd may

same_first : (u s : ℕ) (y z : List ℕ) → u ∷ [] ++ y ≡ s ∷ [] ++ z → u ≡ s
same_first u s y z is = ap (λ ns. option_map_or (λ n. n) (slice_get ns 0) u) is

named : (over : Buffers) (into : Receivers) (plan : AgentPlan) (h : History) (e : Event) (t left : Tickets) (now : List Deed) (y z : List ℕ) → Permits over into h (due plan h) e → after t (asks (between_jobs h) e) now ≡ Some left
    → refused_in (asks (between_jobs h) e) now ++ y ≡ cond (is_refusal_asked (asks (between_jobs h) e)) (awaited plan (job h)) [] ++ z
    → refused_in (asks (between_jobs h) e) now ≡ cond (is_refusal_asked (asks (between_jobs h) e)) (awaited plan (job h)) []
named over into plan h (Refused code) t left now y z may met same = at (between_jobs h && wants_room code) refl met same
  where
    at : (b : Bool) → (between_jobs h && wants_room code) ≡ b → after t (cond b to_refuse nothing) now ≡ Some left
        → refused_in (cond b to_refuse nothing) now ++ y ≡ cond (is_refusal_asked (cond b to_refuse nothing)) (awaited plan (job h)) [] ++ z
        → refused_in (cond b to_refuse nothing) now ≡ cond (is_refusal_asked (cond b to_refuse nothing)) (awaited plan (job h)) []
    at false is met same = refl
    at true is met same =
        let due' = refused_between over into plan h code (due plan h) refl may (and_parts (between_jobs h) (wants_room code) is).0 in
        let one = refused_one t left now met in
        let waits = awaited_at plan h due'.0 due'.1 due'.2 in
        one.1 ∙ ap (λ n. n ∷ []) (same_first one.0 due'.1 y z (sym (ap (λ ns. ns ++ y) one.1) ∙ same ∙ ap (λ ns. ns ++ z) waits)) ∙ sym waits
named over into plan h (Did (c, vs, a)) t left now y z may met same =
    calm (asks_did c vs a) (did_not_refuse c vs a)
  where
    calm : (w : Asking) → is_refusal_asked w ≡ false → refused_in w now ≡ cond (is_refusal_asked w) (awaited plan (job h)) []
    calm to_refuse is = cc
    calm _ is = refl
named over into plan h _ t left now y z may met same = refl

-- The tickets that are left

record Leaves (b : AgentView) (e : Event) (now : List Deed) (left : Tickets) : Type 0 where
  row : Option Row
  comes : ticket_in (asked_by b e) now ≡ came_row (made b.history) row
  stay : IsNext (with_row row b) e → left ≡ tickets (grown b row e)

leaves : (over : Buffers) (b : AgentView) (e : Event) (now : List Deed) (left : Tickets) → IsRunOver b.over b.plan b.history → Lawful over (receivers b.plan.jobs) b.history e → after (tickets b) (asked_by b e) now ≡ Some left → Leaves b e now left
leaves over b (Emptied ids) now left history law met = record { row = None; comes = refl; stay = λ next. some_if_is _ _ left met ∙ sym (emptied_tickets b ids next) }
leaves over b Closed now left history law met = record { row = None; comes = refl; stay = λ next. some_if_is _ _ left met }
leaves over b e now left history law met =
    let brought = quiet_brings over (receivers b.plan.jobs) b.history e (between_jobs b.history) (tickets b) left now law tt (λ f. cc) met in
    record { row = brought.row; comes = brought.comes; stay = λ next. brought.stays ∙ sym (quiet_tickets b brought.row e history next tt (λ f. cc)) }

-- The next event

ever_more : (b : AgentView) (r : Option Row) → reverse b.over ++ came_row (made b.history) r ≡ reverse (with_row r b).over
ever_more b None = append-nil (reverse b.over)
ever_more b (Some r) = sym (reverse-append ((made b.history + 1, r) ∷ []) b.over)

pub unfolds : (over : Buffers) (b : AgentView) (e : Event) (rest : List Event) (ds : List Deed) (final : Came) → IsRunOver b.over b.plan b.history
    → LegalBy over (receivers b.plan.jobs) (reverse (e ∷ rest) ++ b.history) → Follows over b.plan (reverse (e ∷ rest) ++ b.history) → goes (between_jobs b.history) (came_to b) (e ∷ rest) ds ≡ Some final
    → final.ever ≡ reverse over → final.refused ≡ refused_senders b.plan (reverse (e ∷ rest) ++ b.history) → Unfolded b e rest ds final
unfolds over b e rest ds final history legal follows go buffers senders =
    record {
      row = one.row;
      next = next;
      met = s.1 ∙ ap Some brought;
      named = refused;
      goes_on = subst (λ d. goes (ends_job e) d rest (drop k ds) ≡ Some final) brought s.2;
    }
  where
    h : History
    h = b.history

    w : Asking
    w = asked_by b e

    k : ℕ
    k = deeds_asked b e

    now : List Deed
    now = take k ds

    s : (d : Came) × (came_after (came_to b) w now ≡ Some d) × (goes (ends_job e) d rest (drop k ds) ≡ Some final)
    s = chained (λ d. goes (ends_job e) d rest (drop k ds)) (came_after (came_to b) w now) final go

    m : (left : Tickets) × (after (tickets b) w now ≡ Some left) × (record { tickets = left; ever = reverse b.over ++ ticket_in w now; refused = refused_senders b.plan h ++ refused_in w now } ≡ s.0)
    m = mapped (λ t. record { tickets = t; ever = reverse b.over ++ ticket_in w now; refused = refused_senders b.plan h ++ refused_in w now }) (after (tickets b) w now) s.0 s.1

    legal_on : LegalBy over (receivers b.plan.jobs) (reverse rest ++ e ∷ h)
    legal_on = subst (LegalBy over (receivers b.plan.jobs)) (reverse_cons e rest h) legal

    legal_now : LegalBy over (receivers b.plan.jobs) (e ∷ h)
    legal_now = legal_part over (receivers b.plan.jobs) (reverse rest) (e ∷ h) legal_on

    follows_now : Follows over b.plan (e ∷ h)
    follows_now = follows_part over b.plan (reverse rest) (e ∷ h) (subst (Follows over b.plan) (reverse_cons e rest h) follows)

    one : Leaves b e now m.0
    one = leaves over b e now m.0 history legal_now.0 m.1

    on : Later (made (e ∷ h)) s.0 final
    on = later over b.plan rest (e ∷ h) s.0 final (drop k ds) legal_on s.2

    ever : s.0.ever ≡ reverse (with_row one.row b).over
    ever = ap (λ c. c.ever) (sym m.2) ∙ ap (λ t. reverse b.over ++ t) one.comes ∙ ever_more b one.row

    table : over ≡ reverse on.more ++ (with_row one.row b).over
    table =
        sym (reverse-reverse over) ∙ ap reverse (sym buffers ∙ on.ever ∙ ap (λ t. t ++ on.more) ever)
        ∙ reverse-append (reverse (with_row one.row b).over) on.more ∙ ap (λ t. reverse on.more ++ t) (reverse-reverse (with_row one.row b).over)

    agrees : AgreeSoFar (e ∷ h) over (with_row one.row b).over
    agrees o within = sym (ap (λ t. row_at t o) table ∙ past on.more (with_row one.row b).over o (made (e ∷ h)) on.above within)

    next : IsNext (with_row one.row b) e
    next = record {
      lawful = still_lawful over (with_row one.row b).over (receivers b.plan.jobs) h e legal_now.1 agrees legal_now.0;
      permitted = still_permitted over (with_row one.row b).over (receivers b.plan.jobs) h (due b.plan h) e legal_now.1 (agrees_before e h over (with_row one.row b).over agrees) follows_now.0;
    }

    all_senders : (z : List ℕ) × (refused_senders b.plan (reverse rest ++ e ∷ h) ≡ refused_senders b.plan (e ∷ h) ++ z)
    all_senders = senders_part b.plan (reverse rest) (e ∷ h)

    mine : List ℕ
    mine = cond (is_refusal_asked w) (awaited b.plan (job h)) []

    refused : refused_in w now ≡ mine
    refused =
        named over (receivers b.plan.jobs) b.plan h e (tickets b) m.0 now on.senders all_senders.0 follows_now.0 m.1
        (append_cancel_left (refused_senders b.plan h) (refused_in w now ++ on.senders) (mine ++ all_senders.0)
        (sym (append_assoc (refused_senders b.plan h) (refused_in w now) on.senders)
        ∙ ap (λ c. c.refused ++ on.senders) m.2
        ∙ sym on.refused
        ∙ senders
        ∙ ap (refused_senders b.plan) (reverse_cons e rest h)
        ∙ all_senders.1
        ∙ append_assoc (refused_senders b.plan h) mine all_senders.0))

    brought : s.0 ≡ came_to (grown b one.row e)
    brought = sym m.2 ∙ (λ i. record {
      tickets = one.stay next i;
      ever = (ap (λ t. reverse b.over ++ t) one.comes ∙ ever_more b one.row) i;
      refused = ap (λ ns. refused_senders b.plan h ++ ns) refused i;
    })
