-- What is ready may be done before another agent's event, and both orders tell the same.
use Rattle.std.proofs.Common.{◌≡◌, ℕ, ◌+◌, ◌==◌, ◌&&◌, ◌||◌, not, Bool, true, false, cond, sym, ◌∙◌, ap, refl, subst, arith, List, [], ◌∷◌, ◌++◌, drop, Option, Some, None, inl, inr, ne_eqb, eqb-true}
use Rattle.std.specs.Prelude.{count_by, is_some, slice_get}
use Rattle.std.specs.Option.{option_and_then, option_map, option_map_or}
use Rattle.std.proofs.lemmas.Bool.{and_right, cases_Bool, eqb-false, false≢true, or_right}
use Rattle.std.proofs.lemmas.List.Sums.{sum_by-cons}
use Rattle.es_event.specs.declared.ledger_event.Body.{Body}
use Rattle.es_event.specs.declared.ledger_event.Body.TheVariants.{Plain, Block}
use Rattle.es_event.specs.declared.ledger_event.LedgerEvent.{LedgerEvent}
use Rattle.es_event.specs.declared.ledger_event.LedgerEvent.TheVariants.{Opened, Posted, Taken, Spent, Accessed, Drained, Acted}
use Rattle.es_event.specs.declared.row.Row.{Row}
use Rattle.es_event.specs.declared.row.Entry.{Entry}
use Rattle.es_event.specs.declared.row.Holder.TheVariants.{Agent, Port, Nobody}
use Rattle.es_event.specs.Access.{written}
use Rattle.es_event.specs.Rows.{held_by, moved, row}
use Rattle.es_event.specs.Ledger.{Ledger, awaited, ended, front, holder_of, is_end_of, issues, moved_if, newest_size, newest_word, opened, opens, port_of, queued, serial_in, serials, size, table, table_after, waits, word, writes, written_by}
use Rattle.es_event.specs.LegalLedger.{ComesNext, LegalSoFar, MayCome, has_message, owed, skips}
use Rattle.es_event.specs.Totals.{is_drained, is_posted, is_taken}
use Rattle.es_event.specs.Waiters.{asleep}
use Rattle.es_ledger.proofs.Lines.{holder_at}
use Rattle.es_ledger.proofs.Lying.{lying_all}
use Rattle.es_match.specs.Deeds.{Deed, Spends, deed}
use Rattle.es_match.specs.Patience.{has_drained, may_do}
use Rattle.es_match.proofs.Sleeping.{has_a_sleep}
use Rattle.es_theorems.specs.Ahead.{Acts, Like, May}
use Rattle.es_theorems.specs.Ready.{Goes, Lives, Ready}
use Rattle.es_theorems.proofs.Beside.{Beside, beside, by_ready, deed_beside, lists_beside, may_beside, ready_deed, ready_lists, ready_may, ready_asleep, ready_sleeps, asleep_beside, sleeps_beside}
use Rattle.es_theorems.proofs.Choosing.{Skips, alone_goes, skips_is}
use Rattle.es_cluster.proofs.Growing.{doer, ended_other, sleep_other, waits_other}
use Rattle.es_theorems.proofs.Turning.{owes_nothing}
use Rattle.es_theorems.proofs.Framing.{drains_nothing, holder_agent, holder_other, moved_append, moved_twice, not_in_port, spender}
use Rattle.es_theorems.proofs.Spending.{or_swapped}
use Rattle.es_ledger.proofs.Numbered.{none_next, numbered}

-- It stays ready

pub lives_after : (k : ℕ) (l : Ledger) (a b : ℕ) (x : LedgerEvent) (d : Deed) → deed l x ≡ Some (b, d) → (a ≡ b → ⊥) → Lives k l a → Lives k (x ∷ l) a
lives_after k l a b x d is other lives = record {
  known = lives.known;
  going = ended_other l x b a d is other ∙ lives.going;
  paid = owes_nothing l x b d is;
  undrained = ap (λ e. e || has_drained l) (drains_nothing l x b d is) ∙ lives.undrained;
}

asleep_other : (l : Ledger) (x : LedgerEvent) (b a : ℕ) (d : Deed) → deed l x ≡ Some (b, d) → (a ≡ b → ⊥) → asleep (x ∷ l) a ≡ asleep l a
asleep_other l x b a d is other = sym (has_a_sleep (x ∷ l) a) ∙ ap is_some (sleep_other l x b a d is other) ∙ has_a_sleep l a

pub goes_after : (k : ℕ) (l : Ledger) (a b : ℕ) (x : LedgerEvent) (d : Deed) → deed l x ≡ Some (b, d) → (a ≡ b → ⊥) → Goes k l a → Goes k (x ∷ l) a
goes_after k l a b x d is other goes = record { lives = lives_after k l a b x d is other goes.lives; awake = asleep_other l x b a d is other ∙ goes.awake }

-- a port to which another agent than its sender did something, and not its receiver
port_other : (l : Ledger) (x : LedgerEvent) (b s a : ℕ) (d : Deed) → deed l x ≡ Some (b, d) → (a ≡ b → ⊥) → (s ≡ b → ⊥) → port_of (x ∷ l) s a ≡ port_of l s a
port_other l (Posted u r m) b s a d is not_a not_s =
    let same : u ≡ b = doer (deed l (Posted u r m)) b u d is in
    let none : (s == u) ≡ false = ne_eqb s u (λ it. not_s (it ∙ same)) in
    ap (λ t. cond (t && (a == r)) (port_of l s a ++ m ∷ []) (port_of l s a)) none
port_other l (Taken t u) b s a d is not_a not_s =
    let same : u ≡ b = doer (deed l (Taken t u)) b u d is in
    let none : (a == u) ≡ false = ne_eqb a u (λ it. not_a (it ∙ same)) in
    ap (λ v. cond ((s == t) && v) (drop 1 (port_of l s a)) (port_of l s a)) none ∙ ap (λ v. cond v (drop 1 (port_of l s a)) (port_of l s a)) (and_right (s == t) false refl)
port_other l (Drained t u) b s a d is not_a not_s = cc
port_other l _ b s a d is not_a not_s = refl

skips_still : (k : ℕ) (l : Ledger) (a b s : ℕ) (x : LedgerEvent) (d : Deed) → LegalSoFar k l → deed l x ≡ Some (b, d) → (a ≡ b → ⊥) → owed l ≡ None → May k l x → skips l k a s ≡ true → skips (x ∷ l) k a s ≡ true
skips_still k l a b s x d legal is other paid may skip = let how = skips_is l k a s skip in at how.0 how.1
  where
    acts : Acts k l (Some (b, d))
    acts = subst (Acts k l) is may.acts

    still : (m e c : Bool) → m ≡ false → e ≡ true → (not m && (e || c)) ≡ true
    still m e c none is = rw (none, is) refl

    at : (over : Bool) → Skips l k a s over → skips (x ∷ l) k a s ≡ true
    at true how =
        let not_s : s ≡ b → ⊥ = λ same. false≢true (sym acts.1 ∙ ap (ended l) (sym same) ∙ how.ends) in
        still (has_message (x ∷ l) s a) (ended (x ∷ l) s) _
        (ap (λ q. is_some (slice_get q 0)) (port_other l x b s a d is other not_s) ∙ how.none)
        (ap (λ e. is_end_of x s || e) how.ends ∙ or_right (is_end_of x s) true refl)
    at false how = absurd (other (sym (alone_goes k l a b x d legal (how.chosen refl) (subst (ComesNext k l x) paid may.legal) is acts.0 acts.1 acts.3 acts.4)))

pub ready_after : (k : ℕ) (l : Ledger) (a b : ℕ) (f x : LedgerEvent) (d : Deed) → LegalSoFar k l → deed l x ≡ Some (b, d) → (a ≡ b → ⊥) → owed l ≡ None → May k l x → Ready k l a f → Ready k (x ∷ l) a f
ready_after k l a b f x d legal is other paid may ready =
    let free = waits_other l x b a d is other in
    by_ready k l a (λ f. Ready k (x ∷ l) a f)
    (λ s r held idle. ((r, holder_other k l x b a d s r legal is other held), free ∙ idle))
    (λ s waiting skip. (refl, free ∙ waiting, skips_still k l a b s x d legal is other paid may skip))
    (λ idle. (refl, free ∙ idle))
    f ready

-- Both orders tell the same

counted_twice : (p : LedgerEvent → Bool) (f x : LedgerEvent) (l : Ledger) → count_by p (f ∷ x ∷ l) ≡ count_by p (x ∷ f ∷ l)
counted_twice p f x l =
    let c : LedgerEvent → ℕ = λ e. cond {A = ℕ} (p e) 1 0 in
    let a = sum_by-cons (λ e. cond {A = ℕ} (p e) 1 0) f (x ∷ l) in
    let b = sum_by-cons (λ e. cond {A = ℕ} (p e) 1 0) x l in
    let d = sum_by-cons (λ e. cond {A = ℕ} (p e) 1 0) x (f ∷ l) in
    let e = sum_by-cons (λ e. cond {A = ℕ} (p e) 1 0) f l in
    omega (arith, a, b, d, e)

-- the table, where a ticket is spent
not_next : (k : ℕ) (l : Ledger) (s q a : ℕ) (r : Row) → LegalSoFar k l → holder_of l s ≡ Some (a, r) → q ≡ serials l + 1 → q ≡ s → ⊥
not_next k l s q a r legal held next same =
    let none = none_next l q (numbered k l legal) next in
    let here = holder_agent l s a r held in
    let clash : Some (Agent a) ≡ None = sym here ∙ ap (λ s. holder_at s (table l)) (sym same) ∙ none in cc

one_more : (s q : ℕ) (e : Entry) (t : List Entry) → e.row.serial ≡ q → (q ≡ s → ⊥) → moved s Nobody (t ++ e ∷ []) ≡ moved s Nobody t ++ e ∷ []
one_more s q e t is other =
    moved_append s Nobody t (e ∷ [])
    ∙ ap (λ b. moved s Nobody t ++ cond b (held_by Nobody e.row) e ∷ []) (ne_eqb e.row.serial s (λ same. other (sym is ∙ same)))

tables_spent : (k : ℕ) (l : Ledger) (s a b : ℕ) (x : LedgerEvent) (d : Deed) (r : Row) → LegalSoFar k l → holder_of l s ≡ Some (a, r) → deed l x ≡ Some (b, d) → (a ≡ b → ⊥) → MayCome k l x
    → moved s Nobody (table_after l x (table l)) ≡ table_after (Spent s ∷ l) x (moved s Nobody (table l))
tables_spent k l s a b (Opened c w q u) d r legal held is other may = one_more s q (held_by (Agent u) (row q c w)) (table l) refl (not_next k l s q a r legal held may.1)
tables_spent k l s a b (Posted t u (Plain v)) d r legal held is other may = moved_append s Nobody (table l) []
tables_spent k l s a b (Posted t u (Block c q)) d r legal held is other may = one_more s q (held_by (Port t u) (row q c (size l c))) (table l) refl (not_next k l s q a r legal held may.3.0)
tables_spent k l s a b (Taken t u) d r legal held is other may = at (option_and_then serial_in (front l t u)) refl
  where
    at : (o : Option ℕ) → option_and_then serial_in (front l t u) ≡ o → moved s Nobody (moved_if o (Agent u) (table l)) ≡ moved_if o (Agent u) (moved s Nobody (table l))
    at None is = refl
    at (Some q) is = moved_twice s q Nobody (Agent u) (table l) (not_in_port l t u s q a r (lying_all k l legal) is held)
tables_spent k l s a b (Spent q) d r legal held is other may =
    let by = spender l q b d _ is in
    moved_twice s q Nobody Nobody (table l) (λ same. other (let clash : Some (a, r) ≡ Some (b, by.0) = sym held ∙ ap (holder_of l) same ∙ by.1 in ap (λ o. option_map_or (λ p. p.0) o a) clash))
tables_spent k l s a b _ d r legal held is other may = refl

tables_quiet : (l : Ledger) (f x : LedgerEvent) → ((s r : ℕ) → front (f ∷ l) s r ≡ front l s r) → ((c : ℕ) → size (f ∷ l) c ≡ size l c) → table_after l x (table l) ≡ table_after (f ∷ l) x (table l)
tables_quiet l f (Posted t u (Block c q)) fronts sizes = ap (λ n. table l ++ held_by (Port t u) (row q c n) ∷ []) (sym (sizes c))
tables_quiet l f (Taken t u) fronts sizes = ap (λ o. moved_if (option_and_then serial_in o) (Agent u) (table l)) (sym (fronts t u))
tables_quiet l f _ fronts sizes = refl

tables_swap : (k : ℕ) (l : Ledger) (f x : LedgerEvent) (a b : ℕ) (d : Deed) → LegalSoFar k l → Ready k l a f → deed l x ≡ Some (b, d) → (a ≡ b → ⊥) → MayCome k l x → table (f ∷ x ∷ l) ≡ table (x ∷ f ∷ l)
tables_swap k l (Spent s) x a b d legal ready is other may = tables_spent k l s a b x d ready.0.0 legal ready.0.1 is other may
tables_swap k l (Acted c act) x a b d legal ready is other may = tables_quiet l (Acted c act) x (λ s r. refl) (λ c. refl)
tables_swap k l _ x a b d legal ready is other may = absurd ready

-- what the other writes is the same
writes_beside : (k : ℕ) (l : Ledger) (f x : LedgerEvent) (b : ℕ) (d : Deed) → Beside k l f b → deed l x ≡ Some (b, d) → writes (f ∷ l) x ≡ writes l x
writes_beside k l f (Accessed q i m old) b d is mine = at (written m old)
  where
    by : (r : Row) × (holder_of l q ≡ Some (b, r))
    by = spender l q b d _ mine

    at : (o : Option ℕ) → option_and_then (written_by (f ∷ l) q i) o ≡ option_and_then (written_by l q i) o
    at None = refl
    at (Some w) = ap (option_map (λ p. (p.1.block, i, w))) (is.holders q by.0 by.1 ∙ sym by.1)
writes_beside k l f _ b d is mine = refl

-- the events that are ready leave words, blocks, serials and ports alone
record Plainly (f : LedgerEvent) : Type 0 where
  opens : opens f ≡ None
  issues : issues f ≡ 0
  queues : (s r : ℕ) (q : List Body) → queued f s r q ≡ q
  writes : (l : Ledger) → writes l f ≡ None
  drains : is_drained f ≡ false

plainly : (k : ℕ) (l : Ledger) (a : ℕ) (f : LedgerEvent) → Ready k l a f → Plainly f
plainly k l a (Spent s) ready = record { opens = refl; issues = refl; queues = λ s r q. refl; writes = λ l. refl; drains = refl }
plainly k l a (Acted c act) ready = record { opens = refl; issues = refl; queues = λ s r q. refl; writes = λ l. refl; drains = refl }
plainly k l a _ ready = absurd ready

-- whom agents wait for
awaited_other : (f : LedgerEvent) (l : Ledger) (k a c : ℕ) (v : Option ℕ) → Ready k l a f → (c ≡ a → ⊥) → awaited f c v ≡ v
awaited_other f l k a c v ready other =
    by_ready k l a (λ f. awaited f c v ≡ v) (λ s r held free. refl) (λ s waiting skip. ap (λ t. cond t None v) (ne_eqb a c (λ same. other (sym same)))) (λ free. refl) f ready

waits_swap : (k : ℕ) (l : Ledger) (f x : LedgerEvent) (a b c : ℕ) (d : Deed) → LegalSoFar k l → Ready k l a f → Beside k l f b → deed l x ≡ Some (b, d) → (a ≡ b → ⊥) → waits (f ∷ x ∷ l) c ≡ waits (x ∷ f ∷ l) c
waits_swap k l f x a b c d legal ready is mine other = elim (cases_Bool (c == a)) [
  | inl e ↦ let same = eqb-true c a e in
      subst (λ c. waits (f ∷ x ∷ l) c ≡ waits (x ∷ f ∷ l) c) (sym same)
      (ap (awaited f a) (waits_other l x b a d mine other) ∙ sym (waits_other (f ∷ l) x b a d (deed_beside k l f x b d is mine ∙ mine) other))
  | inr e ↦ awaited_other f l k a c (waits (x ∷ l) c) ready (eqb-false c a e) ∙ sym (ap (awaited x c) (awaited_other f l k a c (waits l c) ready (eqb-false c a e)))
]

added : (a b c : ℕ) → a + (b + c) ≡ b + (a + c)
added a b c = omega arith

deed_ready : (k : ℕ) (l m : Ledger) (a : ℕ) (f : LedgerEvent) → Ready k l a f → Ready k m a f → deed m f ≡ deed l f
deed_ready k l m a f left right =
    by_ready k l a (λ f. Ready k m a f → deed m f ≡ deed l f)
    (λ s r held free right. ap (option_map (λ p. (p.0, Spends s))) right.0.1 ∙ sym (ap (option_map (λ p. (p.0, Spends s))) held))
    (λ s waiting skip right. refl)
    (λ free right. refl)
    f left right

-- Both orders

pub record Swap (k : ℕ) (l : Ledger) (f x : LedgerEvent) : Type 0 where
  pub first : May k l f
  pub second : May k (f ∷ l) x
  pub same : Like (f ∷ x ∷ l) (x ∷ f ∷ l)
  pub mine : deed (x ∷ l) f ≡ deed l f
  pub other : deed (f ∷ l) x ≡ deed l x

pub swap : (k : ℕ) (l : Ledger) (f x : LedgerEvent) (a b : ℕ) (d : Deed) → LegalSoFar k l → Goes k l a → Ready k l a f → May k l x → deed l x ≡ Some (b, d) → (a ≡ b → ⊥) → Swap k l f x
swap k l f x a b d legal goes ready may is other = record {
  first = ready_may k l a f goes ready;
  second = may_beside k l f x b d next undrained goes.lives.paid is may;
  same = record {
    alike = record {
      opened = added (option_map_or {U = ℕ} (λ p. 1) (opens f) 0) (option_map_or {U = ℕ} (λ p. 1) (opens x) 0) (opened l);
      serials = added (issues f) (issues x) (serials l);
      sizes = λ c. ap (λ o. newest_size o c (newest_size (opens x) c (size l c))) plain.opens ∙ sym (ap (λ o. newest_size (opens x) c (newest_size o c (size l c))) plain.opens);
      ports = λ s r. plain.queues s r (port_of (x ∷ l) s r) ∙ sym (ap (queued x s r) (plain.queues s r (port_of l s r)));
      tables = tables_swap k l f x a b d legal ready is other comes;
      words = λ c i.
          ap (λ o. newest_word o c i (word (x ∷ l) c i)) (plain.writes (x ∷ l))
          ∙ sym (ap (λ o. newest_word o c i (word (f ∷ l) c i)) (writes_beside k l f x b d next is)
          ∙ ap (λ o. newest_word (writes l x) c i (newest_word o c i (word l c i))) (plain.writes l));
      waiters = ready_lists k (x ∷ l) a f (may.legal, legal) up still ∙ sym (lists_beside k l f x b d next is comes);
      asleep = λ c. ready_asleep k (x ∷ l) a c f up still ∙ sym (asleep_beside k l f x b c next);
      ends = λ c. or_swapped (is_end_of f c) (is_end_of x c) (ended l c);
      posted = counted_twice is_posted f x l;
      taken = counted_twice is_taken f x l;
      drained = counted_twice is_drained f x l;
    };
    waits = λ c. waits_swap k l f x a b c d legal ready next is other;
    sleeps = λ c. ready_sleeps k (x ∷ l) a c f up still ∙ sym (sleeps_beside k l f x b c next);
    owes = owes_nothing (x ∷ l) f a later.0 later.1 ∙ sym (owes_nothing (f ∷ l) x b d (deed_beside k l f x b d next is ∙ is));
    drained = or_swapped (is_drained f) (is_drained x) (has_drained l);
  };
  mine = deed_ready k l (x ∷ l) a f ready still;
  other = deed_beside k l f x b d next is;
}
  where
    comes : MayCome k l x
    comes = subst (ComesNext k l x) goes.lives.paid may.legal

    up : asleep (x ∷ l) a ≡ false
    up = (goes_after k l a b x d is other goes).awake

    plain : Plainly f
    plain = plainly k l a f ready

    next : Beside k l f b
    next = beside k l f a b legal goes ready (λ same. other (sym same))

    still : Ready k (x ∷ l) a f
    still = ready_after k l a b f x d legal is other goes.lives.paid may ready

    later : (g : Deed) × (deed (x ∷ l) f ≡ Some (a, g)) × (may_do (waits (x ∷ l) a) g ≡ true)
    later = ready_deed k (x ∷ l) a f still

    undrained : has_drained (f ∷ l) ≡ false
    undrained = ap (λ e. e || has_drained l) plain.drains ∙ goes.lives.undrained
