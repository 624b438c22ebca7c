-- What an agent does that is ready leaves of the ledger for another agent.
use Rattle.std.proofs.Common.{◌≡◌, ℕ, zero, suc, ◌+◌, ◌<◌, ◌==◌, ◌&&◌, ◌||◌, not, Bool, true, false, sym, ◌∙◌, ap, refl, subst, arith, filter, length, take, List, [], ◌∷◌, ◌++◌, if◌then◌else◌, Option, Some, None, ne_eqb, eq-eqb, eqb-true}
use Rattle.std.specs.Prelude.{is_some, nat_lt, slice_get}
use Rattle.std.specs.List.{list_any}
use Rattle.std.specs.Option.{option_map, option_map_or}
use Rattle.std.proofs.lemmas.Bool.{false≢true, or_right}
use Rattle.es_event.specs.declared.ledger_event.Body.{Body}
use Rattle.es_event.specs.declared.ledger_event.Body.TheVariants.{Plain, Block}
use Rattle.es_event.specs.declared.ledger_event.LedgerEvent.{LedgerEvent}
use Rattle.es_event.specs.declared.ledger_event.LedgerEvent.TheVariants.{Opened, Posted, Taken, Spent, Accessed, Drained, Acted}
use Rattle.es_event.specs.declared.ledger_event.Act.{Act}
use Rattle.es_event.specs.declared.ledger_event.Act.TheVariants.{Waiting, Passed, Ended, Slept, Notified, Woke, TimedOut}
use Rattle.es_event.specs.declared.waiter.Waiter.{Waiter}
use Rattle.es_event.specs.declared.row.Row.{Row}
use Rattle.es_event.specs.declared.row.Holder.TheVariants.{Agent, Nobody}
use Rattle.es_event.specs.Access.{IsStorable}
use Rattle.es_event.specs.Rows.{count_of, held, is_agent}
use Rattle.es_event.specs.Ledger.{Ledger, ended, front, holder_of, opened, port_of, serials, size, table, waits, word}
use Rattle.es_event.specs.Waiters.{asleep, asleep_after, block_by, is_at, is_listed, taken_there, waiter, waiters, waiters_after, without_first}
use Rattle.es_event.specs.LegalLedger.{ComesNext, IsPostable, LegalSoFar, MayAct, MayCome, Reaches, ReachesAs, all_ended, all_stuck, has_message, is_chosen, is_stuck, owed, skips}
use Rattle.es_ledger.proofs.Lines.{rows_moved}
use Rattle.es_match.specs.Deeds.{Deed, Accesses, Ends, Passes, Spends, Takes, deed, taking, words_in, acting, sleep_of, sleeps_after}
use Rattle.es_match.specs.Patience.{has_drained, may_do, may_stir}
use Rattle.es_match.specs.declared.deed.Sleep.{Sleep}
use Rattle.es_match.proofs.Sleeping.{has_a_sleep}
use Rattle.es_theorems.specs.Ahead.{Acts, May}
use Rattle.es_theorems.specs.Ready.{Goes, Ready}
use Rattle.es_theorems.proofs.Choosing.{Chosen, Skips, Stuck, chosen_is, chosen_one, skips_is, stuck_here, stuck_is}
use Rattle.es_cluster.proofs.Growing.{doer, ended_other, waits_other}
use Rattle.es_ledger.proofs.Waking.{awake_unlisted}
use Rattle.es_ledger.proofs.Taken.{held_as}
use Rattle.es_theorems.proofs.Framing.{holder_agent, holder_other, spender}
use Rattle.es_theorems.proofs.Doing.{reaches_as, reaches_so}
use Rattle.es_ledger.proofs.Numbered.{numbered, only_by}

pub record Beside (k : ℕ) (l : Ledger) (f : LedgerEvent) (b : ℕ) : Type 0 where
  pub opened : opened (f ∷ l) ≡ opened l
  pub serials : serials (f ∷ l) ≡ serials l
  pub sizes : (c : ℕ) → size (f ∷ l) c ≡ size l c
  pub ports : (s r : ℕ) → port_of (f ∷ l) s r ≡ port_of l s r
  pub words : (c i : ℕ) → word (f ∷ l) c i ≡ word l c i
  pub ends : ended (f ∷ l) b ≡ ended l b
  pub waits : waits (f ∷ l) b ≡ waits l b
  pub holders : (q : ℕ) (r : Row) → holder_of l q ≡ Some (b, r) → holder_of (f ∷ l) q ≡ Some (b, r)
  pub held : held b (table (f ∷ l)) ≡ held b (table l)
  pub lists : waiters (f ∷ l) ≡ waiters l
  pub asleep : (c : ℕ) → asleep (f ∷ l) c ≡ asleep l c
  pub sleeps : (c : ℕ) → sleep_of (f ∷ l) c ≡ sleep_of l c
  pub chosen : is_chosen l k b ≡ true → is_chosen (f ∷ l) k b ≡ true
  pub skips : (t : ℕ) → skips l k b t ≡ true → skips (f ∷ l) k b t ≡ true
  pub owes : owed (f ∷ l) ≡ None

none_more : (n : ℕ) → 0 + n ≡ n
none_more n = omega arith

-- A ticket that is spent

spent_stuck : (l : Ledger) (s n : ℕ) → all_stuck (Spent s ∷ l) n ≡ all_stuck l n
spent_stuck l s zero = refl
spent_stuck l s (suc n) = ap (λ r. (ended l n || is_stuck l n) && r) (spent_stuck l s n)

spent_ended : (l : Ledger) (s n : ℕ) → all_ended (Spent s ∷ l) n ≡ all_ended l n
spent_ended l s zero = refl
spent_ended l s (suc n) = ap (λ r. ended l n && r) (spent_ended l s n)

spent_chosen : (l : Ledger) (s n b : ℕ) → is_chosen (Spent s ∷ l) n b ≡ is_chosen l n b
spent_chosen l s n b =
    ap (λ c. c && (all_ended (Spent s ∷ l) b && not (ended l b))) (spent_stuck l s n)
    ∙ ap (λ c. all_stuck l n && (c && not (ended l b))) (spent_ended l s b)

spent_skips : (l : Ledger) (s n b t : ℕ) → skips (Spent s ∷ l) n b t ≡ skips l n b t
spent_skips l s n b t = ap (λ c. not (has_message l t b) && (ended l t || c)) (spent_chosen l s n b)

pub beside_spent : (k : ℕ) (l : Ledger) (s a b : ℕ) (r : Row) → LegalSoFar k l → holder_of l s ≡ Some (a, r) → (b ≡ a → ⊥) → Beside k l (Spent s) b
beside_spent k l s a b r legal is other = record {
  opened = none_more (opened l);
  serials = none_more (serials l);
  sizes = λ c. refl;
  ports = λ t u. refl;
  words = λ c i. refl;
  ends = refl;
  waits = refl;
  holders = λ q p held. holder_other k l (Spent s) a b (Spends s) q p legal (ap (option_map (λ p. (p.0, Spends s))) is) other held;
  held = rows_moved (is_agent b) s (Agent a) Nobody (table l) (ne_eqb b a other) refl (only_by l s (Agent a) (numbered k l legal) (holder_agent l s a r is));
  lists = refl;
  asleep = λ c. refl;
  sleeps = λ c. refl;
  chosen = λ is. spent_chosen l s k b ∙ is;
  skips = λ t skip. spent_skips l s k b t ∙ skip;
  owes = refl;
}

-- Where one is chosen, an agent that goes on waits in vain

stuck_beside : (k : ℕ) (l : Ledger) (a b : ℕ) → LegalSoFar k l → Goes k l a → Chosen l k b → Stuck l a
stuck_beside k l a b legal goes chosen = stuck_is l a (awake_unlisted k l a legal goes.awake) (stuck_here l k a chosen.stuck goes.lives.known goes.lives.going)

-- An end

-- who is in no list leaves none
none_leaves : (ws : List Waiter) (a : ℕ) → list_any (λ (w : Waiter). w.agent == a) ws ≡ false → filter (λ (w : Waiter). not (w.agent == a)) ws ≡ ws
none_leaves [] a none = refl
none_leaves (w ∷ ws) a none = by (w.agent == a) none (none_leaves ws a)
  where
    by : (t : Bool) → (t || list_any (λ (w : Waiter). w.agent == a) ws) ≡ false → (list_any (λ (w : Waiter). w.agent == a) ws ≡ false → filter (λ (w : Waiter). not (w.agent == a)) ws ≡ ws) → (if not t then w ∷ filter (λ (w : Waiter). not (w.agent == a)) ws else filter (λ (w : Waiter). not (w.agent == a)) ws) ≡ w ∷ ws
    by true none rest = cc
    by false none rest = ap (λ ws. w ∷ ws) (rest none)

end_lists : (k : ℕ) (l : Ledger) (a : ℕ) → LegalSoFar k l → asleep l a ≡ false → waiters (Acted a Ended ∷ l) ≡ waiters l
end_lists k l a legal awake = none_leaves (waiters l) a (awake_unlisted k l a legal awake)

-- who is awake sleeps no less by its end
end_asleep : (l : Ledger) (a c : ℕ) → asleep l a ≡ false → asleep (Acted a Ended ∷ l) c ≡ asleep l c
end_asleep l a c awake = by (a == c) refl
  where
    by : (t : Bool) → (a == c) ≡ t → (if t then false else asleep l c) ≡ asleep l c
    by true e = sym (ap (asleep l) (sym (eqb-true a c e)) ∙ awake)
    by false e = refl

end_sleeps : (l : Ledger) (a c : ℕ) → asleep l a ≡ false → sleep_of (Acted a Ended ∷ l) c ≡ sleep_of l c
end_sleeps l a c awake = by (a == c) refl
  where
    none : (o : Option Sleep) → is_some o ≡ false → None ≡ o
    none None is = refl
    none (Some s) is = cc

    by : (t : Bool) → (a == c) ≡ t → (if t then None else sleep_of l c) ≡ sleep_of l c
    by true e = none (sleep_of l a) (has_a_sleep l a ∙ awake) ∙ ap (sleep_of l) (eqb-true a c e)
    by false e = refl

still_skips : (m : Bool) (e : Bool) (c : Bool) → m ≡ false → e ≡ true → (not m && (e || c)) ≡ true
still_skips m e c none is = rw (none, is) refl

pub beside_ended : (k : ℕ) (l : Ledger) (a b : ℕ) → LegalSoFar k l → Goes k l a → waits l a ≡ None → (b ≡ a → ⊥) → Beside k l (Acted a Ended) b
beside_ended k l a b legal goes free other = record {
  opened = none_more (opened l);
  serials = none_more (serials l);
  sizes = λ c. refl;
  ports = λ t u. refl;
  words = λ c i. refl;
  ends = ended_other l (Acted a Ended) a b Ends refl other;
  waits = refl;
  holders = λ q p held. held;
  held = refl;
  lists = end_lists k l a legal goes.awake;
  asleep = λ c. end_asleep l a c goes.awake;
  sleeps = λ c. end_sleeps l a c goes.awake;
  chosen = λ is. absurd (busy (chosen_is l k b is));
  skips = λ t skip. (let is = skips_is l k b t skip in by_over t is.0 is.1);
  owes = refl;
}
  where
    busy : Chosen l k b → ⊥
    busy chosen =
        let stuck = stuck_beside k l a b legal goes chosen in
        let clash : Some stuck.sender ≡ None = sym stuck.waiting ∙ free in cc

    by_over : (t : ℕ) (over : Bool) → Skips l k b t over → skips (Acted a Ended ∷ l) k b t ≡ true
    by_over t true is = still_skips (has_message l t b) ((a == t) || ended l t) _ is.none (ap (λ e. (a == t) || e) is.ends ∙ or_right (a == t) true refl)
    by_over t false is = absurd (busy (is.chosen refl))

-- A skip

pub beside_passed : (k : ℕ) (l : Ledger) (a b s : ℕ) → LegalSoFar k l → Goes k l a → waits l a ≡ Some s → skips l k a s ≡ true → (b ≡ a → ⊥) → Beside k l (Acted a (Passed s)) b
beside_passed k l a b s legal goes waiting skip other = record {
  opened = none_more (opened l);
  serials = none_more (serials l);
  sizes = λ c. refl;
  ports = λ t u. refl;
  words = λ c i. refl;
  ends = refl;
  waits = waits_other l (Acted a (Passed s)) a b (Passes s) refl other;
  holders = λ q p held. held;
  held = refl;
  lists = refl;
  asleep = λ c. refl;
  sleeps = λ c. refl;
  chosen = λ is. absurd (by_mine (skips_is l k a s skip).0 (skips_is l k a s skip).1 (chosen_is l k b is));
  skips = λ t skip. (let is = skips_is l k b t skip in by_over t is.0 is.1);
  owes = refl;
}
  where
    by_mine : (over : Bool) → Skips l k a s over → Chosen l k b → ⊥
    by_mine false mine chosen = other (chosen_one l k b a chosen (mine.chosen refl))
    by_mine true mine chosen =
        let stuck = stuck_beside k l a b legal goes chosen in
        let same : Some stuck.sender ≡ Some s = sym stuck.waiting ∙ waiting in
        let it : stuck.sender ≡ s = ap (λ o. option_map_or (λ n. n) o s) same in
        false≢true (sym stuck.going ∙ ap (ended l) it ∙ mine.ends)

    by_over : (t : ℕ) (over : Bool) → Skips l k b t over → skips (Acted a (Passed s) ∷ l) k b t ≡ true
    by_over t true is = still_skips (has_message l t b) (ended l t) _ is.none is.ends
    by_over t false is = let mine = skips_is l k a s skip in absurd (by_mine mine.0 mine.1 (is.chosen refl))

-- Each of them

-- what holds after each way to be ready holds
pub by_ready : (k : ℕ) (l : Ledger) (a : ℕ) (holds : LedgerEvent → Type 0)
    → ((s : ℕ) (r : Row) → holder_of l s ≡ Some (a, r) → waits l a ≡ None → holds (Spent s))
    → ((s : ℕ) → waits l a ≡ Some s → skips l k a s ≡ true → holds (Acted a (Passed s)))
    → (waits l a ≡ None → holds (Acted a Ended))
    → (f : LedgerEvent) → Ready k l a f → holds f
by_ready k l a holds spends passes ends (Spent s) ready = spends s ready.0.0 ready.0.1 ready.1
by_ready k l a holds spends passes ends (Acted b (Passed s)) ready = subst (λ b. holds (Acted b (Passed s))) (sym ready.0) (passes s ready.1 ready.2)
by_ready k l a holds spends passes ends (Acted b Ended) ready = subst (λ b. holds (Acted b Ended)) (sym ready.0) (ends ready.1)
by_ready k l a holds spends passes ends _ ready = absurd ready

pub beside : (k : ℕ) (l : Ledger) (f : LedgerEvent) (a b : ℕ) → LegalSoFar k l → Goes k l a → Ready k l a f → (b ≡ a → ⊥) → Beside k l f b
beside k l f a b legal goes ready other =
    by_ready k l a (λ f. Beside k l f b)
    (λ s r is free. beside_spent k l s a b r legal is other)
    (λ s waiting skip. beside_passed k l a b s legal goes waiting skip other)
    (λ free. beside_ended k l a b legal goes free other)
    f ready

-- What is ready leaves the WaiterLists alone

pub ready_lists : (k : ℕ) (l : Ledger) (a : ℕ) (f : LedgerEvent) → LegalSoFar k l → asleep l a ≡ false → Ready k l a f → waiters (f ∷ l) ≡ waiters l
ready_lists k l a f legal awake ready = by_ready k l a (λ f. waiters (f ∷ l) ≡ waiters l) (λ s r is free. refl) (λ s waiting skip. refl) (λ free. end_lists k l a legal awake) f ready

pub ready_asleep : (k : ℕ) (l : Ledger) (a c : ℕ) (f : LedgerEvent) → asleep l a ≡ false → Ready k l a f → asleep (f ∷ l) c ≡ asleep l c
ready_asleep k l a c f awake ready = by_ready k l a (λ f. asleep (f ∷ l) c ≡ asleep l c) (λ s r is free. refl) (λ s waiting skip. refl) (λ free. end_asleep l a c awake) f ready

pub ready_sleeps : (k : ℕ) (l : Ledger) (a c : ℕ) (f : LedgerEvent) → asleep l a ≡ false → Ready k l a f → sleep_of (f ∷ l) c ≡ sleep_of l c
ready_sleeps k l a c f awake ready = by_ready k l a (λ f. sleep_of (f ∷ l) c ≡ sleep_of l c) (λ s r is free. refl) (λ s waiting skip. refl) (λ free. end_sleeps l a c awake) f ready

-- It may be done

pub ready_deed : (k : ℕ) (l : Ledger) (a : ℕ) (f : LedgerEvent) → Ready k l a f → (d : Deed) × (deed l f ≡ Some (a, d)) × (may_do (waits l a) d ≡ true)
ready_deed k l a f ready =
    by_ready k l a (λ f. (d : Deed) × (deed l f ≡ Some (a, d)) × (may_do (waits l a) d ≡ true))
    (λ s r is free. (Spends s, ap (option_map (λ p. (p.0, Spends s))) is, ap (λ w. may_do w (Spends s)) free))
    (λ s waiting skip. (Passes s, refl, ap (λ w. may_do w (Passes s)) waiting ∙ eq-eqb s s refl))
    (λ free. (Ends, refl, ap (λ w. may_do w Ends) free))
    f ready

ready_comes : (k : ℕ) (l : Ledger) (a : ℕ) (f : LedgerEvent) → Goes k l a → Ready k l a f → MayCome k l f
ready_comes k l a f goes ready =
    by_ready k l a (λ f. MayCome k l f) (λ s r is free. ap is_some is) (λ s waiting skip. (waiting, skip)) (λ free. (goes.lives.known, goes.lives.going)) f ready

pub ready_may : (k : ℕ) (l : Ledger) (a : ℕ) (f : LedgerEvent) → Goes k l a → Ready k l a f → May k l f
ready_may k l a f goes ready =
    let does = ready_deed k l a f ready in
    record {
      legal = subst (ComesNext k l f) (sym goes.lives.paid) (ready_comes k l a f goes ready);
      acts = subst (Acts k l) (sym does.1) (goes.lives.known, goes.lives.going, goes.lives.undrained, does.2, ap (λ b. may_stir b does.0) goes.awake);
    }

-- Another's event still may come

same_words : (l m : Ledger) (b : Option Body) → ((c : ℕ) → size m c ≡ size l c) → option_map_or (words_in m) b 0 ≡ option_map_or (words_in l) b 0
same_words l m None a = refl
same_words l m (Some (Plain v)) a = refl
same_words l m (Some (Block b s)) a = a b

front_beside : (k : ℕ) (l : Ledger) (f : LedgerEvent) (b s r : ℕ) → Beside k l f b → front (f ∷ l) s r ≡ front l s r
front_beside k l f b s r is = ap (λ q. slice_get q 0) (is.ports s r)

message_beside : (k : ℕ) (l : Ledger) (f : LedgerEvent) (b s r : ℕ) → Beside k l f b → has_message (f ∷ l) s r ≡ has_message l s r
message_beside k l f b s r is = ap is_some (front_beside k l f b s r is)

pub deed_beside : (k : ℕ) (l : Ledger) (f x : LedgerEvent) (b : ℕ) (d : Deed) → Beside k l f b → deed l x ≡ Some (b, d) → deed (f ∷ l) x ≡ deed l x
deed_beside k l f (Taken t u) b d is mine =
    ap (λ m. Some (u, taking (f ∷ l) t m)) (front_beside k l f b t u is)
    ∙ ap (λ w. Some (u, Takes t (front l t u) w)) (same_words l (f ∷ l) (front l t u) is.sizes)
deed_beside k l f (Spent q) b d is mine = let by = spender l q b d _ mine in ap (option_map (λ p. (p.0, Spends q))) (is.holders q by.0 by.1 ∙ sym by.1)
deed_beside k l f (Accessed q i m old) b d is mine = let by = spender l q b d _ mine in ap (option_map (λ p. (p.0, Accesses q i m old))) (is.holders q by.0 by.1 ∙ sym by.1)
deed_beside k l f (Acted u act) b d is mine = ap (λ o. Some (u, acting o act)) (is.sleeps u)
deed_beside k l f _ b d is mine = refl

postable_beside : (k : ℕ) (l : Ledger) (f : LedgerEvent) (b : ℕ) (m : Body) → Beside k l f b → IsPostable l b m → IsPostable (f ∷ l) b m
postable_beside k l f b (Plain v) is may = may
postable_beside k l f b (Block c q) is may = (may.0 ∙ ap (λ n. n + 1) (sym is.serials), ap (λ rs. nat_lt 0 (count_of rs c)) is.held ∙ may.1)

pub holder_beside : (k : ℕ) (l : Ledger) (f : LedgerEvent) (b s i : ℕ) (asked : Row → Type 0) → Beside k l f b → ReachesAs b (holder_of l s) i asked → holder_of (f ∷ l) s ≡ holder_of l s
holder_beside k l f b s i asked is may = let held = held_as (holder_of l s) b i asked may in is.holders s held.0 held.1 ∙ sym held.1

reach_beside : (k : ℕ) (l : Ledger) (f : LedgerEvent) (b s i : ℕ) (asked now : Row → Type 0) → Beside k l f b → ((r : Row) → asked r → now r) → ReachesAs b (holder_of l s) i asked → ReachesAs b (holder_of (f ∷ l) s) i now
reach_beside k l f b s i asked now is so may = subst (λ o. ReachesAs b o i now) (sym (holder_beside k l f b s i asked is may)) (reaches_as (holder_of l s) b i asked now so may)

listed_beside : (k : ℕ) (l : Ledger) (f : LedgerEvent) (b u : ℕ) → Beside k l f b → is_listed (f ∷ l) u ≡ is_listed l u
listed_beside k l f b u is = ap (λ ws. list_any (λ (w : Waiter). w.agent == u) ws) is.lists

-- what agent b does itself may come
act_beside : (k : ℕ) (l : Ledger) (f : LedgerEvent) (b : ℕ) (act : Act) → Beside k l f b → MayAct k l b act → MayAct k (f ∷ l) b act
act_beside k l f b (Waiting t) is may = (may.0, may.1, may.2, message_beside k l f b t b is ∙ may.3, is.waits ∙ may.4, is.ends ∙ may.5, is.asleep b ∙ may.6)
act_beside k l f b (Passed t) is may = (is.waits ∙ may.0, is.skips t may.1)
act_beside k l f b Ended is may = (may.0, is.ends ∙ may.1)
act_beside k l f b (Slept s i w) is may = (
  reach_beside k l f b s i (λ r. w ≡ word l r.block i) (λ r. w ≡ word (f ∷ l) r.block i) is (λ r e. e ∙ sym (is.words r.block i)) may.0,
  is.waits ∙ may.1,
  is.ends ∙ may.2,
  is.asleep b ∙ may.3,
)
act_beside k l f b (Notified s i m c) is may =
    reach_beside k l f b s i (λ r. c ≡ taken_there l r.block i m) (λ r. c ≡ taken_there (f ∷ l) r.block i m) is (λ r e. e ∙ ap (λ ws. length (take m (filter (is_at r.block i) ws))) (sym is.lists)) may
act_beside k l f b Woke is may = (is.asleep b ∙ may.0, listed_beside k l f b b is ∙ may.1)
act_beside k l f b TimedOut is may = (listed_beside k l f b b is ∙ may.0, is.chosen may.1)

comes_beside : (k : ℕ) (l : Ledger) (f x : LedgerEvent) (b : ℕ) (d : Deed) → Beside k l f b → deed l x ≡ Some (b, d) → MayCome k l x → MayCome k (f ∷ l) x
comes_beside k l f (Opened c w q u) b d is mine may = (may.0 ∙ ap (λ n. n + 1) (sym is.opened), may.1 ∙ ap (λ n. n + 1) (sym is.serials), may.2)
comes_beside k l f (Posted u r m) b d is mine may =
    let same : u ≡ b = doer (deed l (Posted u r m)) b u d mine in
    (may.0, may.1, may.2, subst (λ u. IsPostable (f ∷ l) u m) (sym same) (postable_beside k l f b m is (subst (λ u. IsPostable l u m) same may.3)))
comes_beside k l f (Taken t u) b d is mine may = message_beside k l f b t u is ∙ may
comes_beside k l f (Spent q) b d is mine may = let by = spender l q b d _ mine in ap is_some (is.holders q by.0 by.1)
comes_beside k l f (Accessed q i m old) b d is mine may =
    let by = spender l q b d _ mine in
    subst (λ o. Reaches o i (λ r. (old ≡ word (f ∷ l) r.block i) × IsStorable m)) (by.1 ∙ sym (is.holders q by.0 by.1))
    (reaches_so (holder_of l q) i (λ r. (old ≡ word l r.block i) × IsStorable m) (λ r. (old ≡ word (f ∷ l) r.block i) × IsStorable m) (λ r e. (e.0 ∙ sym (is.words r.block i), e.1)) may)
comes_beside k l f (Acted u act) b d is mine may =
    let same : u ≡ b = doer (deed l (Acted u act)) b u d mine in
    subst (λ u. MayAct k (f ∷ l) u act) (sym same) (act_beside k l f b act is (subst (λ u. MayAct k l u act) same may))
comes_beside k l f (Drained t u) b d is mine may = cc

-- and after another's event it leaves the same
pub lists_beside : (k : ℕ) (l : Ledger) (f x : LedgerEvent) (b : ℕ) (d : Deed) → Beside k l f b → deed l x ≡ Some (b, d) → MayCome k l x → waiters (x ∷ f ∷ l) ≡ waiters (x ∷ l)
lists_beside k l f (Acted u act) b d is mine may = by act (subst (λ u. MayAct k l u act) same may) ∙ ap (waiters_after l u act) is.lists
  where
    same : u ≡ b
    same = doer (deed l (Acted u act)) b u d mine

    block : (s i : ℕ) (asked : Row → Type 0) → ReachesAs b (holder_of l s) i asked → block_by (f ∷ l) s ≡ block_by l s
    block s i asked reach = ap (λ o. option_map_or (λ p. p.1.block) o 0) (holder_beside k l f b s i asked is reach)

    by : (act : Act) → MayAct k l b act → waiters_after (f ∷ l) u act (waiters (f ∷ l)) ≡ waiters_after l u act (waiters (f ∷ l))
    by (Slept s i w) may = ap (λ c. waiters (f ∷ l) ++ waiter u c i ∷ []) (block s i (λ r. w ≡ word l r.block i) may.0)
    by (Notified s i m c) may = ap (λ b. without_first b i m (waiters (f ∷ l))) (block s i (λ r. c ≡ taken_there l r.block i m) may)
    by _ may = refl
lists_beside k l f _ b d is mine may = is.lists

pub asleep_beside : (k : ℕ) (l : Ledger) (f x : LedgerEvent) (b c : ℕ) → Beside k l f b → asleep (x ∷ f ∷ l) c ≡ asleep (x ∷ l) c
asleep_beside k l f (Acted u act) b c is = ap (asleep_after u act c) (is.asleep c)
asleep_beside k l f _ b c is = is.asleep c

pub sleeps_beside : (k : ℕ) (l : Ledger) (f x : LedgerEvent) (b c : ℕ) → Beside k l f b → sleep_of (x ∷ f ∷ l) c ≡ sleep_of (x ∷ l) c
sleeps_beside k l f (Acted u act) b c is = ap (sleeps_after u act c) (is.sleeps c)
sleeps_beside k l f _ b c is = is.sleeps c

pub may_beside : (k : ℕ) (l : Ledger) (f x : LedgerEvent) (b : ℕ) (d : Deed) → Beside k l f b → has_drained (f ∷ l) ≡ false → owed l ≡ None → deed l x ≡ Some (b, d) → May k l x → May k (f ∷ l) x
may_beside k l f x b d is undrained paid mine may =
    let acts : Acts k l (Some (b, d)) = subst (Acts k l) mine may.acts in
    record {
      legal = subst (ComesNext k (f ∷ l) x) (sym is.owes) (comes_beside k l f x b d is mine (subst (ComesNext k l x) paid may.legal));
      acts = subst (Acts k (f ∷ l)) (sym (deed_beside k l f x b d is mine ∙ mine)) (acts.0, is.ends ∙ acts.1, undrained, ap (λ w. may_do w d) is.waits ∙ acts.3, ap (λ t. may_stir t d) (is.asleep b) ∙ acts.4);
    }
