-- Which ticket comes with an event, and what is left of the others.
use Rattle.std.proofs.Common.{◌≡◌, ℕ, ◌+◌, ◌==◌, ◌&&◌, not, Bool, true, false, cond, sym, ◌∙◌, ap, refl, subst, List, [], ◌∷◌, ◌++◌, append-nil, reverse, Option, Some, None, Ok}
use Rattle.std.specs.Option.{option_and_then, option_map, option_map_or}
use Rattle.std.specs.List.{filter}
use Rattle.std.specs.Prelude.{ℤ}
use Rattle.std.proofs.lemmas.List.{reverse-append}
use Rattle.std.proofs.lemmas.List.Elements.{filter-append}
use Rattle.es_value.specs.declared.value.Value.{Value}
use Rattle.es_value.specs.declared.value.Value.TheVariants.{Object}
use Rattle.es_event.specs.declared.command.Command.{Command}
use Rattle.es_event.specs.declared.command.Command.TheVariants.{SharedArrayBuffer, Atomic}
use Rattle.es_event.specs.declared.event.Answer.{Answer}
use Rattle.es_event.specs.declared.event.Answer.TheVariants.{Gives}
use Rattle.es_event.specs.declared.event.Event.{Event}
use Rattle.es_event.specs.declared.event.Event.TheVariants.{Received, Did, Refused, Emptied, Skipped, Closed}
use Rattle.es_event.specs.declared.event.Refusal.{Refusal}
use Rattle.es_event.specs.declared.ledger_event.Body.{Body}
use Rattle.es_event.specs.declared.ledger_event.Body.TheVariants.{Plain, Block}
use Rattle.es_event.specs.declared.row.Row.{Row}
use Rattle.es_event.specs.declared.access.Task.{Task}
use Rattle.es_event.specs.declared.access.WaitResult.{WaitResult}
use Rattle.es_event.specs.History.{History}
use Rattle.es_event.specs.Identities.{made, object_of}
use Rattle.es_event.specs.Jobs.{Receivers, receivers}
use Rattle.es_event.specs.Rows.{row}
use Rattle.es_event.specs.Rules.{refusal, refuse_or}
use Rattle.es_event.specs.Legal.{Lawful}
use Rattle.es_event.specs.Runs.{IsRunOver}
use Rattle.es_event.specs.Sharing.{Buffers}
use Rattle.es_event.specs.Heard.{wait_given}
use Rattle.es_event.specs.Numbers.{index_of, task_of}
use Rattle.es_event.specs.Commands.{first}
use Rattle.es_event.proofs.Alive.{next_alive}
use Rattle.es_match.specs.Asks.{Asking, nothing, to_open, to_measure, to_compare, to_access, to_post, to_receive, to_refuse, to_pass, to_empty, to_close, asks, asks_did, given, wants_room, to_miss, to_sleep, to_notify, asks_wait, asks_word}
use Rattle.es_match.specs.Meets.{Tickets, add_ticket, after, gives, opening, receiving, some_if, ticket_in, ticket_under}
use Rattle.es_match.specs.Deeds.{Deed, Opens, Takes}
use Rattle.es_tables.specs.Effects.{IsQuiet}
use Rattle.es_record.specs.AgentView.{AgentView, IsNext, with_row}
use Rattle.es_agent.specs.Tickets.{tickets}
use Rattle.es_agent.proofs.Racks.{kept_tickets, open_before, opened, still}
use Rattle.es_theorems.specs.Settled.{came_row}
use Rattle.es_theorems.specs.Grown.{grown}
use Rattle.es_theorems.proofs.Commands.{sole_of}

-- a ticket came under the next identity, or none did, and the others stay
pub record Brought (m : ℕ) (t left ticket : Tickets) : Type 0 where
  pub row : Option Row
  pub comes : ticket ≡ came_row m row
  pub stays : left ≡ t ++ came_row m row

pub brought_none : (m : ℕ) (t left ticket : Tickets) → left ≡ t → ticket ≡ [] → Brought m t left ticket
brought_none m t left ticket same none = record { row = None; comes = none; stays = same ∙ sym (append-nil t) }

pub some_if_is : {A : Type 0} (b : Bool) (x y : A) → some_if b x ≡ Some y → y ≡ x
some_if_is true x y e = cc
some_if_is false x y e = cc

-- What brings nothing

abbrev IsPlain : Asking → Type 0
IsPlain nothing = Unit {0}
IsPlain (to_open n v) = ⊥
IsPlain (to_measure b v) = Unit {0}
IsPlain (to_compare b c v) = Unit {0}
IsPlain (to_access b i m v) = Unit {0}
IsPlain (to_miss b i w) = Unit {0}
IsPlain (to_sleep b i w r) = Unit {0}
IsPlain (to_notify b i n v) = Unit {0}
IsPlain (to_post a v) = Unit {0}
IsPlain (to_receive s v) = ⊥
IsPlain to_refuse = Unit {0}
IsPlain (to_pass s) = Unit {0}
IsPlain (to_empty ids) = ⊥
IsPlain to_close = ⊥

plain_brings : (m : ℕ) (t left : Tickets) (w : Asking) (now : List Deed) → IsPlain w → after t w now ≡ Some left → Brought m t left (ticket_in w now)
plain_brings m t left nothing now is met = brought_none m t left [] (some_if_is _ t left met) refl
plain_brings m t left (to_measure b v) now is met = brought_none m t left [] (some_if_is _ t left met) refl
plain_brings m t left (to_compare b c v) now is met = brought_none m t left [] (some_if_is _ t left met) refl
plain_brings m t left (to_access b i c v) now is met = brought_none m t left [] (some_if_is _ t left met) refl
plain_brings m t left (to_miss b i w) now is met = brought_none m t left [] (some_if_is _ t left met) refl
plain_brings m t left (to_sleep b i w r) now is met = brought_none m t left [] (some_if_is _ t left met) refl
plain_brings m t left (to_notify b i n v) now is met = brought_none m t left [] (some_if_is _ t left met) refl
plain_brings m t left (to_post a v) now is met = brought_none m t left [] (some_if_is _ t left met) refl
plain_brings m t left to_refuse now is met = brought_none m t left [] (some_if_is _ t left met) refl
plain_brings m t left (to_pass s) now is met = brought_none m t left [] (some_if_is _ t left met) refl
plain_brings m t left _ now is met = absurd is

-- What brings a ticket

added : (m : ℕ) (t left : Tickets) (v : Value) (r : Row) → ((o : ℕ) → object_of v ≡ Some o → o ≡ m + 1) → add_ticket t v r ≡ Some left → Brought m t left (ticket_under v r)
added m t left v r new is = at (object_of v) refl is
  where
    at : (o : Option ℕ) → object_of v ≡ o → option_map (λ o. t ++ (o, r) ∷ []) o ≡ Some left → Brought m t left (option_map_or (λ o. (o, r) ∷ []) o [])
    at None here is = cc
    at (Some o) here is =
        let first : o ≡ m + 1 = new o here in
        let whole : left ≡ t ++ (o, r) ∷ [] = cc in
        record { row = Some r; comes = ap (λ o. (o, r) ∷ []) first; stays = whole ∙ ap (λ o. t ++ (o, r) ∷ []) first }

opened_brings : (m : ℕ) (t left : Tickets) (n : ℕ) (v : Value) (now : List Deed) → ((o : ℕ) → object_of v ≡ Some o → o ≡ m + 1) → after t (to_open n v) now ≡ Some left → Brought m t left (ticket_in (to_open n v) now)
opened_brings m t left n v now new met =
    let one = sole_of (opening t n v) now left met in
    subst (λ now. Brought m t left (ticket_in (to_open n v) now)) (sym one.1) (at one.0 one.2)
  where
    at : (d : Deed) → opening t n v d ≡ Some left → Brought m t left (ticket_in (to_open n v) (d ∷ []))
    at (Opens b w s) is = by_size (w == n) is
      where
        by_size : (x : Bool) → cond x (add_ticket t v (row s b w)) None ≡ Some left → Brought m t left (ticket_under v (row s b w))
        by_size true is = added m t left v (row s b w) new is
        by_size false is = cc
    at _ is = cc

received_brings : (m : ℕ) (t left : Tickets) (s : ℕ) (v : Value) (now : List Deed) → ((o : ℕ) → object_of v ≡ Some o → o ≡ m + 1) → after t (to_receive s v) now ≡ Some left → Brought m t left (ticket_in (to_receive s v) now)
received_brings m t left s v now new met =
    let one = sole_of (receiving t s v) now left met in
    subst (λ now. Brought m t left (ticket_in (to_receive s v) now)) (sym one.1) (at one.0 one.2)
  where
    at : (d : Deed) → receiving t s v d ≡ Some left → Brought m t left (ticket_in (to_receive s v) (d ∷ []))
    at (Takes u o w) is = by_sender (u == s) is
      where
        by_body : (o : Option Body) → option_and_then (λ b. gives t v b w) o ≡ Some left → Brought m t left (ticket_in (to_receive s v) (Takes u o w ∷ []))
        by_body None is = cc
        by_body (Some (Plain x)) is = brought_none m t left [] (some_if_is _ t left is) refl
        by_body (Some (Block b k)) is = added m t left v (row k b w) new is

        by_sender : (x : Bool) → cond x (option_and_then (λ b. gives t v b w) o) None ≡ Some left → Brought m t left (ticket_in (to_receive s v) (Takes u o w ∷ []))
        by_sender true is = by_body o is
        by_sender false is = cc
    at _ is = cc

-- Events that leave all tickets

word_plain : (b : Value) (i : ℤ) (k : Task) (v : Value) → IsPlain (asks_word b i k v)
word_plain b i (Task.Access m) v = tt
word_plain b i (Task.Sleep w) v = ended (wait_given v)
  where
    ended : (r : WaitResult) → IsPlain (asks_wait b i w r)
    ended WaitResult.Woken = tt
    ended _ = tt
word_plain b i (Task.Notify n) v = tt

did_plain : (c : Command) (vs : List Value) (a : Answer) → ((to : List ℕ) (n : ℕ) → c ≡ SharedArrayBuffer to n → ⊥) → IsPlain (asks_did c vs a)
did_plain (SharedArrayBuffer to n) vs a other = absurd (other to n refl)
did_plain (Atomic c) vs a other = word_plain (first vs) (index_of c vs) (task_of c vs) (given a)
did_plain _ vs a other = tt

refused_plain : (b : Bool) → IsPlain (cond b to_refuse nothing)
refused_plain true = tt
refused_plain false = tt

refuses_ok : (f : Option Refusal) (x y : Answer) → refuse_or f x ≡ Ok y → y ≡ x
refuses_ok None x y e = cc
refuses_ok (Some code) x y e = cc

object_inside : (o p : ℕ) → Some o ≡ Some p → p ≡ o
object_inside o p is = cc

pub quiet_brings : (over : Buffers) (into : Receivers) (h : History) (e : Event) (between : Bool) (t left : Tickets) (now : List Deed) → Lawful over into h e → IsQuiet e → (e ≡ Closed → ⊥) → after t (asks between e) now ≡ Some left
    → Brought (made h) t left (ticket_in (asks between e) now)
quiet_brings over into h (Received s v) between t left now law quiet other met = received_brings (made h) t left s v now (fresh v law) met
  where
    fresh : (v : Value) → Lawful over into h (Received s v) → (o : ℕ) → object_of v ≡ Some o → o ≡ made h + 1
    fresh (Object i) law o is = sym (object_inside o i (sym is)) ∙ law.0
    fresh _ law o is = cc
quiet_brings over into h (Did (SharedArrayBuffer to n, vs, a)) between t left now law quiet other met =
    opened_brings (made h) t left n (given a) now
    (λ o is. let ok = refuses_ok (refusal over h (SharedArrayBuffer to n) vs) (Gives (Object (made h + 1))) a law.1 in sym (object_inside o (made h + 1) (sym is ∙ ap (λ a. object_of (given a)) ok)))
    met
quiet_brings over into h (Did (c, vs, a)) between t left now law quiet other met = plain_brings (made h) t left (asks_did c vs a) now (did_plain c vs a (λ to n is. cc)) met
quiet_brings over into h (Refused code) between t left now law quiet other met = plain_brings (made h) t left (asks between (Refused code)) now (refused_plain (between && wants_room code)) met
quiet_brings over into h (Skipped j s) between t left now law quiet other met = plain_brings (made h) t left (to_pass s) now tt met
quiet_brings over into h (Emptied ids) between t left now law quiet other met = absurd quiet
quiet_brings over into h Closed between t left now law quiet other met = absurd (other refl)
quiet_brings over into h _ between t left now law quiet other met = plain_brings (made h) t left nothing now tt met

-- The agent's tickets after it

pub quiet_tickets : (b : AgentView) (r : Option Row) (e : Event) → IsRunOver b.over b.plan b.history → IsNext (with_row r b) e → IsQuiet e → (e ≡ Closed → ⊥) → tickets (grown b r e) ≡ tickets b ++ came_row (made b.history) r
quiet_tickets b None e run next quiet other = kept_tickets b e next quiet other ∙ sym (append-nil (tickets b))
quiet_tickets b (Some r) e run next quiet other =
    let i = made b.history + 1 in
    let before = open_before (with_row (Some r) b) e next in
    let kept = filter (still b.history) (reverse b.over) in
    let fresh = next_alive b.over (receivers b.plan.jobs) b.history run.0 i refl in
    kept_tickets (with_row (Some r) b) e next quiet other
    ∙ opened b.history ((i, r) ∷ b.over) before
    ∙ ap (filter (still b.history)) (reverse-append ((i, r) ∷ []) b.over)
    ∙ filter-append (still b.history) (reverse b.over) ((i, r) ∷ [])
    ∙ ap (λ g. kept ++ cond (not g) ((i, r) ∷ []) []) fresh
    ∙ ap (λ ts. ts ++ (i, r) ∷ []) (sym (opened b.history b.over before))
