-- An agent ends: one fewer is left.
use Rattle.std.proofs.Common.{◌≡◌, ◌≢◌, ℕ, zero, suc, ◌+◌, ◌<◌, ◌≤◌, ◌==◌, ◌||◌, ◌∷◌, Bool, true, false, cond, refl, sym, ap, ◌∙◌, subst, arith, filter, length-set, zero-add, eq-eqb, ne_eqb}
use Rattle.std.proofs.lemmas.Bool.{eqb-true, false≢true}
use Rattle.std.proofs.lemmas.List.{get_or-set_same, get_or-set_other}
use Rattle.std.specs.Prelude.{slice_set, slice_index_or, not}
use Rattle.es_event.specs.declared.ledger_event.LedgerEvent.TheVariants.{Acted}
use Rattle.es_event.specs.declared.ledger_event.Act.TheVariants.{Ended}
use Rattle.es_event.specs.Ledger.{Ledger, opened, ended}
use Rattle.es_event.specs.declared.waiter.Waiter.{Waiter}
use Rattle.es_ledger.specs.Ties.{left, Columns, LedgerTies}
use Rattle.es_ledger.proofs.Tying.{next_legal}
use Rattle.es_ledger.proofs.Mail.{mail_same, sleeping_one}
use Rattle.es_ledger.proofs.Slept.{sleepers_set}

-- those below an agent are as they were
left_below : (l : Ledger) (a n : ℕ) → n ≤ a → left (Acted a Ended ∷ l) n ≡ left l n
left_below l a zero below = refl
left_below l a (suc n) below =
    ap (λ b. cond (b || ended l n) 0 1 + left (Acted a Ended ∷ l) n) (ne_eqb a n (λ same. absurd (omega (arith, same, below))))
    ∙ ap (λ m. cond (ended l n) 0 1 + m) (left_below l a n (omega (arith, below)))

-- and it was one of those that are left
pub left_ended : (l : Ledger) (a n : ℕ) → a < n → ended l a ≡ false → left l n ≡ suc (left (Acted a Ended ∷ l) n)
left_ended l a zero below before = absurd (omega (arith, below))
left_ended l a (suc n) below before = by_test (a == n) refl (λ smaller. left_ended l a n smaller before)
  where
    by_test : (s : Bool) → (a == n) ≡ s → (a < n → left l n ≡ suc (left (Acted a Ended ∷ l) n)) → cond (ended l n) 0 1 + left l n ≡ suc (cond (s || ended l n) 0 1 + left (Acted a Ended ∷ l) n)
    by_test true is earlier =
        let same = eqb-true a n is in
        let one : ◌≡◌ {A = ℕ} (cond (ended l n) 0 1) 1 = ap (λ b. cond b 0 1) (subst (λ c. ended l c ≡ false) same before) in
        let rest = left_below l a n (omega (arith, same)) in
        omega (arith, one, rest)
    by_test false is earlier =
        let apart : a ≢ n = λ same. absurd (false≢true (sym is ∙ eq-eqb a n same)) in
        let rest = earlier (omega (arith, apart, below)) in
        omega (arith, rest)

pub ended_ties : {L : Type 0} (n : ℕ) (l : Ledger) (k : Columns L) (more a : ℕ)
    → LedgerTies n l k → a < n → ended l a ≡ false → k.places ≤ more + 1
    → LedgerTies n (Acted a Ended ∷ l) (record k { ends = slice_set k.ends a true; listed = filter (λ (w : Waiter). not (w.agent == a)) k.listed; sleeping = slice_set k.sleeping a false; places = more })
ended_ties n l k more a ties below before room = record {
  few = ties.few;
  legal = next_legal n l (Acted a Ended) ties.legal (below, before) refl;
  tabled = ties.tabled;
  made = ties.made ∙ sym (zero-add (opened l));
  tickets = ties.tickets;
  sizes = ties.sizes;
  words = ties.words;
  agents = length-set k.ends a true ∙ ties.agents;
  over = λ c within. by_test c within (a == c) refl;
  mail = mail_same n l k.waits k.queues (Acted a Ended) ties.mail (λ s r. refl) (λ c. refl);
  sleepers = sleepers_set n l (Acted a Ended) k.listed _ k.sleeping a false ties.sleepers below (ap (filter (λ (w : Waiter). not (w.agent == a))) ties.sleepers.lists) (λ c. refl);
  room = let fewer = left_ended l a n below before in let waits = sleeping_one l (Acted a Ended) n a false below (λ c. refl) (λ c. refl) in let all = ties.room in omega (arith, room, fewer, waits, all);
}
  where
    by_test : (c : ℕ) → c < n → (s : Bool) → (a == c) ≡ s → slice_index_or (slice_set k.ends a true) c false ≡ (s || ended l c)
    by_test c within true is =
        subst (λ d. slice_index_or (slice_set k.ends a true) d false ≡ true) (eqb-true a c is)
        (get_or-set_same k.ends a true false (let long = ties.agents in omega (arith, long, below)))
    by_test c within false is = get_or-set_other k.ends a c true false (λ e. absurd (false≢true (sym is ∙ eq-eqb a c (sym e)))) ∙ ties.over c within

-- there is room for the end of an agent that has not ended
pub ended_room : {L : Type 0} (n : ℕ) (l : Ledger) (k : Columns L) (a : ℕ)
    → LedgerTies n l k → a < n → ended l a ≡ false → 0 < k.places
ended_room n l k a ties below before = let fewer = left_ended l a n below before in let room = ties.room in omega (arith, fewer, room)
