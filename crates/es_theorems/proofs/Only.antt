-- An agent holds nothing but its tickets; so one that has none holds nothing.
use Rattle.std.proofs.Common.{◌≡◌, ◌⊎◌, inl, inr, ℕ, ◌==◌, Bool, true, false, cond, sym, ◌∙◌, ap, refl, subst, arith, eq-eqb, List, [], ◌∷◌, ◌++◌, Option, Some, None}
use Rattle.std.specs.Option.{option_and_then}
use Rattle.std.proofs.lemmas.Bool.{cases_Bool, eqb-true, eqb-false}
use Rattle.std.proofs.lemmas.List.{append-nil}
use Rattle.es_event.specs.declared.ledger_event.Body.{Body}
use Rattle.es_event.specs.declared.ledger_event.Body.TheVariants.{Plain, Block}
use Rattle.es_event.specs.declared.ledger_event.LedgerEvent.{LedgerEvent}
use Rattle.es_event.specs.declared.ledger_event.LedgerEvent.TheVariants.{Opened, Posted, Taken, Spent, Accessed, Drained, Acted}
use Rattle.es_event.specs.declared.row.Row.{Row}
use Rattle.es_event.specs.declared.row.Entry.{Entry}
use Rattle.es_event.specs.declared.row.Holder.{Holder}
use Rattle.es_event.specs.declared.row.Holder.TheVariants.{Agent, Port, Nobody}
use Rattle.es_event.specs.Rows.{row, held, held_by, is_agent, line_of, moved}
use Rattle.es_event.specs.Ledger.{Ledger, by_agent, front, holder_of, moved_if, posted_line, serial_in, size, table}
use Rattle.es_event.specs.LegalLedger.{ComesNext, LegalSoFar, owed}
use Rattle.es_event.proofs.Entries.{inner}
use Rattle.es_match.specs.Deeds.{Deed, deed}
use Rattle.es_match.specs.Meets.{Tickets}
use Rattle.es_cluster.specs.Tied.{AreDeedsOf, GrowsBy}
use Rattle.es_theorems.specs.Going.{Only, OtherThan}
use Rattle.es_theorems.proofs.Holding.{fresh, line_first, line_last, line_moved, line_other, none_moved, one_line}

-- Who held it before

-- the event gives agent a the ticket of this serial
abbrev pub Gives : Ledger → LedgerEvent → ℕ → ℕ → Type 0
Gives l (Opened b w s c) k a = (s ≡ k) × (c ≡ a)
Gives l (Taken s u) k a = (option_and_then serial_in (front l s u) ≡ Some k) × (u ≡ a)
Gives l (Posted c u m) k a = ⊥
Gives l (Spent s) k a = ⊥
Gives l (Accessed s i m old) k a = ⊥
Gives l (Acted c d) k a = ⊥
Gives l (Drained s r) k a = ⊥

pub first_is : (c a : ℕ) (q r : Row) → ◌≡◌ {A = Option (ℕ × Row)} (Some (c, q)) (Some (a, r)) → c ≡ a
first_is c a q r is = let both : ◌≡◌ {A = ℕ × Row} (c, q) (a, r) = inner is in ap (λ p. p.0) both

grown_back : (k a : ℕ) (r : Row) (t us : List Entry) → option_and_then by_agent (line_of k (t ++ us)) ≡ Some (a, r) → (option_and_then by_agent (line_of k t) ≡ Some (a, r)) ⊎ (option_and_then by_agent (line_of k us) ≡ Some (a, r))
grown_back k a r t us is = at (line_of k t) refl
  where
    at : (o : Option Entry) → line_of k t ≡ o → (option_and_then by_agent (line_of k t) ≡ Some (a, r)) ⊎ (option_and_then by_agent (line_of k us) ≡ Some (a, r))
    at None here = inr (sym (ap (option_and_then by_agent) (line_last k t us here)) ∙ is)
    at (Some e) here = inl (ap (option_and_then by_agent) (here ∙ sym (line_first k t us e here)) ∙ is)

one_back : (k a c : ℕ) (q r : Row) → option_and_then by_agent (line_of k (held_by (Agent c) q ∷ [])) ≡ Some (a, r) → (q.serial ≡ k) × (c ≡ a)
one_back k a c q r is = at (q.serial == k) refl is
  where
    at : (b : Bool) → (q.serial == k) ≡ b → option_and_then by_agent (cond b (Some (held_by (Agent c) q)) None) ≡ Some (a, r) → (q.serial ≡ k) × (c ≡ a)
    at true same is = (eqb-true q.serial k same, first_is c a q r is)
    at false same is = cc

no_agent_posted : (l : Ledger) (c u : ℕ) (m : Body) (k a : ℕ) (r : Row) → option_and_then by_agent (line_of k (posted_line l c u m)) ≡ Some (a, r) → ⊥
no_agent_posted l c u (Plain v) k a r is = cc
no_agent_posted l c u (Block b j) k a r is = at (j == k) is
  where
    at : (t : Bool) → option_and_then by_agent (cond t (Some (held_by (Port c u) (row j b (size l b)))) None) ≡ Some (a, r) → ⊥
    at true is = cc
    at false is = cc

moved_back : (j k a : ℕ) (r : Row) (who : Holder) (t : List Entry) → option_and_then by_agent (line_of k (moved j who t)) ≡ Some (a, r)
    → (option_and_then by_agent (line_of k t) ≡ Some (a, r)) ⊎ ((j ≡ k) × ((q : Row) → by_agent (held_by who q) ≡ Some (a, r) → ⊥) → ⊥)
moved_back j k a r who t is = elim (cases_Bool (j == k)) [
  | inl e ↦ inr (λ out. at_same (eqb-true j k e) out.1 (line_of j t) refl)
  | inr e ↦ inl (sym (ap (option_and_then by_agent) (line_other k j who t (λ same. eqb-false j k e (sym same)))) ∙ is)
]
  where
    at_same : j ≡ k → ((q : Row) → by_agent (held_by who q) ≡ Some (a, r) → ⊥) → (o : Option Entry) → line_of j t ≡ o → ⊥
    at_same same out None here = let none : ◌≡◌ {A = Option (ℕ × Row)} None (Some (a, r)) = sym (ap (option_and_then by_agent) (ap (λ i. line_of i (moved j who t)) (sym same) ∙ none_moved j j who t here)) ∙ is in cc
    at_same same out (Some e) here = out e.row (sym (ap (option_and_then by_agent) (ap (λ i. line_of i (moved j who t)) (sym same) ∙ line_moved j who t e here)) ∙ is)

pub back : (l : Ledger) (e : LedgerEvent) (k a : ℕ) (r : Row) → holder_of (e ∷ l) k ≡ Some (a, r) → (holder_of l k ≡ Some (a, r)) ⊎ Gives l e k a
back l (Opened b w s c) k a r is = elim (grown_back k a r (table l) (held_by (Agent c) (row s b w) ∷ []) is) [ inl e ↦ inl e | inr e ↦ inr (one_back k a c (row s b w) r e) ]
back l (Posted c u m) k a r is = elim (grown_back k a r (table l) (posted_line l c u m) is) [ inl e ↦ inl e | inr e ↦ absurd (no_agent_posted l c u m k a r e) ]
back l (Taken s u) k a r is = at (option_and_then serial_in (front l s u)) refl is
  where
    given : (j : ℕ) → option_and_then serial_in (front l s u) ≡ Some j → option_and_then by_agent (line_of k (moved j (Agent u) (table l))) ≡ Some (a, r) → (b : Bool) → (j == k) ≡ b → (holder_of l k ≡ Some (a, r)) ⊎ Gives l (Taken s u) k a
    given j here is false e = inl (sym (ap (option_and_then by_agent) (line_other k j (Agent u) (table l) (λ same. eqb-false j k e (sym same)))) ∙ is)
    given j here is true e = inr (here ∙ ap Some (eqb-true j k e), by_line (line_of j (table l)) refl)
      where
        same : j ≡ k
        same = eqb-true j k e

        now : option_and_then by_agent (line_of j (moved j (Agent u) (table l))) ≡ Some (a, r)
        now = ap (λ i. option_and_then by_agent (line_of i (moved j (Agent u) (table l)))) same ∙ is

        by_line : (o : Option Entry) → line_of j (table l) ≡ o → u ≡ a
        by_line None at = let none : ◌≡◌ {A = Option (ℕ × Row)} None (Some (a, r)) = sym (ap (option_and_then by_agent) (none_moved j j (Agent u) (table l) at)) ∙ now in cc
        by_line (Some x) at = first_is u a x.row r (sym (ap (option_and_then by_agent) (line_moved j (Agent u) (table l) x at)) ∙ now)

    at : (o : Option ℕ) → option_and_then serial_in (front l s u) ≡ o → option_and_then by_agent (line_of k (moved_if o (Agent u) (table l))) ≡ Some (a, r) → (holder_of l k ≡ Some (a, r)) ⊎ Gives l (Taken s u) k a
    at None here is = inl is
    at (Some j) here is = given j here is (j == k) refl
back l (Spent j) k a r is = elim (moved_back j k a r Nobody (table l) is) [
  | inl e ↦ inl e
  | inr e ↦ elim (cases_Bool (j == k)) [
    | inl s ↦ absurd (e (eqb-true j k s, λ q f. cc))
    | inr s ↦ inl (sym (ap (option_and_then by_agent) (line_other k j Nobody (table l) (λ same. eqb-false j k s (sym same)))) ∙ is)
  ]
]
back l _ k a r is = inl is

-- what is spent nobody holds
pub spent_off : (l : Ledger) (k a : ℕ) (r : Row) → holder_of (Spent k ∷ l) k ≡ Some (a, r) → ⊥
spent_off l k a r is = at (line_of k (table l)) refl
  where
    at : (o : Option Entry) → line_of k (table l) ≡ o → ⊥
    at None here = let none : ◌≡◌ {A = Option (ℕ × Row)} None (Some (a, r)) = sym (ap (option_and_then by_agent) (none_moved k k Nobody (table l) here)) ∙ is in cc
    at (Some e) here = let none : ◌≡◌ {A = Option (ℕ × Row)} None (Some (a, r)) = sym (ap (option_and_then by_agent) (line_moved k Nobody (table l) e here)) ∙ is in cc

-- Nothing but its tickets

-- after an event that gives it nothing
pub only_after : (a : ℕ) (l : Ledger) (e : LedgerEvent) (ts : Tickets) → ((k : ℕ) → Gives l e k a → ⊥) → Only a l ts → Only a (e ∷ l) ts
only_after a l e ts none only k r is other = elim (back l e k a r is) [ inl was ↦ only k r was other | inr gives ↦ none k gives ]

pub dropped : (k : ℕ) (ts : Tickets) (t : ℕ × Row) → OtherThan k (ts ++ t ∷ []) → OtherThan k ts × (t.1.serial ≡ k → ⊥)
dropped k [] t other = (tt, other.0)
dropped k (x ∷ ts) t other = let rest = dropped k ts t other.1 in ((other.0, rest.0), rest.1)

-- after one that gives it a ticket
pub only_more : (a s : ℕ) (l : Ledger) (e : LedgerEvent) (ts : Tickets) (t : ℕ × Row) → t.1.serial ≡ s → ((k : ℕ) → Gives l e k a → s ≡ k) → Only a l ts → Only a (e ∷ l) (ts ++ t ∷ [])
only_more a s l e ts t same one only k r is other =
    let parts = dropped k ts t other in
    elim (back l e k a r is) [ inl was ↦ only k r was parts.0 | inr gives ↦ parts.1 (same ∙ one k gives) ]

-- what another agent does gives it nothing
gives_doer : (n a : ℕ) (l : Ledger) (e : LedgerEvent) (d : Deed) (k : ℕ) → deed l e ≡ Some (n, d) → Gives l e k a → a ≡ n
gives_doer n a l (Opened b w s c) d k did gives = sym gives.1 ∙ (let both = inner did in ap (λ p. p.0) both)
gives_doer n a l (Taken s u) d k did gives = sym gives.1 ∙ (let both = inner did in ap (λ p. p.0) both)
gives_doer n a l _ d k did gives = absurd gives

pub only_beside : (n : ℕ) (l m : Ledger) (a : ℕ) (ts : Tickets) → GrowsBy n l m → (a ≡ n → ⊥) → Only a l ts → Only a m ts
only_beside n l m a ts grows other only = subst (λ m. Only a m ts) (sym grows.1) (each grows.0 grows.2)
  where
    each : (es : List LedgerEvent) → AreDeedsOf n es l → Only a (es ++ l) ts
    each [] are = only
    each (e ∷ es) are = only_after a (es ++ l) e ts (λ k gives. other (gives_doer n a (es ++ l) e are.0.0 k are.0.1 gives)) (each es are.1)

-- Nothing is held

-- each serial has one line
abbrev Distinct : List Entry → Type 0
Distinct [] = Unit {0}
Distinct (e ∷ es) = (line_of e.row.serial es ≡ None) × Distinct es

distinct_more : (t : List Entry) (x : Entry) → Distinct t → line_of x.row.serial t ≡ None → Distinct (t ++ x ∷ [])
distinct_more [] x distinct none = (refl, tt)
distinct_more (e ∷ es) x distinct none = at (e.row.serial == x.row.serial) refl none (distinct_more es x distinct.1)
  where
    at : (b : Bool) → (e.row.serial == x.row.serial) ≡ b → cond b (Some e) (line_of x.row.serial es) ≡ None → (line_of x.row.serial es ≡ None → Distinct (es ++ x ∷ [])) → Distinct (e ∷ es ++ x ∷ [])
    at true same none ih = cc
    at false same none ih = (line_last e.row.serial es (x ∷ []) distinct.0 ∙ one_line e.row.serial x (λ s. eqb-false e.row.serial x.row.serial same (sym s)), ih none)

distinct_moved : (k : ℕ) (who : Holder) (t : List Entry) → Distinct t → Distinct (moved k who t)
distinct_moved k who [] distinct = tt
distinct_moved k who (e ∷ es) distinct = at (e.row.serial == k) (distinct_moved k who es distinct.1)
  where
    at : (b : Bool) → Distinct (moved k who es) → Distinct (cond b (held_by who e.row) e ∷ moved k who es)
    at true ih = (none_moved e.row.serial k who es distinct.0, ih)
    at false ih = (none_moved e.row.serial k who es distinct.0, ih)

distinct_moved_if : (o : Option ℕ) (who : Holder) (t : List Entry) → Distinct t → Distinct (moved_if o who t)
distinct_moved_if None who t distinct = distinct
distinct_moved_if (Some k) who t distinct = distinct_moved k who t distinct

distinct_next : (n : ℕ) (l : Ledger) (e : LedgerEvent) (o : Option ℕ) → ComesNext n l e o → LegalSoFar n l → Distinct (table l) → Distinct (table (e ∷ l))
distinct_next n l e (Some j) c legal distinct = subst (λ e. Distinct (table (e ∷ l))) (sym c) (distinct_moved j Nobody (table l) distinct)
distinct_next n l (Opened b w s a) None c legal distinct = distinct_more (table l) _ distinct (fresh n l legal s (let next = c.1 in omega (arith, next)))
distinct_next n l (Posted a r (Plain v)) None c legal distinct = subst Distinct (sym (append-nil (table l))) distinct
distinct_next n l (Posted a r (Block b s)) None c legal distinct = distinct_more (table l) _ distinct (fresh n l legal s (let next = c.3.0 in omega (arith, next)))
distinct_next n l (Taken s r) None c legal distinct = distinct_moved_if (option_and_then serial_in (front l s r)) (Agent r) (table l) distinct
distinct_next n l (Spent j) None c legal distinct = distinct_moved j Nobody (table l) distinct
distinct_next n l _ None c legal distinct = distinct

all_distinct : (n : ℕ) (l : Ledger) → LegalSoFar n l → Distinct (table l)
all_distinct n [] legal = tt
all_distinct n (e ∷ l) legal = distinct_next n l e (owed l) legal.0 legal.1 (all_distinct n l legal.1)

none_in : (a : ℕ) (t : List Entry) → Distinct t → ((k : ℕ) (r : Row) → line_of k t ≡ Some (held_by (Agent a) r) → ⊥) → held a t ≡ []
none_in a [] distinct none = refl
none_in a (e ∷ es) distinct none = at (is_agent a e.holder) refl (none_in a es distinct.1 later)
  where
    later : (k : ℕ) (r : Row) → line_of k es ≡ Some (held_by (Agent a) r) → ⊥
    later k r is = by_first (e.row.serial == k) refl
      where
        by_first : (b : Bool) → (e.row.serial == k) ≡ b → ⊥
        by_first false other = none k r (ap (λ b. cond b (Some e) (line_of k es)) other ∙ is)
        by_first true same = let clash : ◌≡◌ {A = Option Entry} None (Some (held_by (Agent a) r)) = sym (ap (λ i. line_of i es) (sym (eqb-true e.row.serial k same)) ∙ distinct.0) ∙ is in cc

    mine : (h : Holder) → is_agent a h ≡ true → h ≡ Agent a
    mine (Agent c) is = ap Agent (sym (eqb-true a c is))
    mine (Port s r) is = cc
    mine Nobody is = cc

    at : (b : Bool) → is_agent a e.holder ≡ b → held a es ≡ [] → cond b (e.row ∷ held a es) (held a es) ≡ []
    at false off rest = rest
    at true on rest =
        absurd (none e.row.serial e.row (ap (λ b. cond b (Some e) (line_of e.row.serial es)) (eq-eqb e.row.serial e.row.serial refl) ∙ ap (λ h. Some (held_by h e.row)) (mine e.holder on)))

-- an agent without tickets has no row of the ledger
pub none_held : (n a : ℕ) (l : Ledger) → LegalSoFar n l → Only a l [] → held a (table l) ≡ []
none_held n a l legal only = none_in a (table l) (all_distinct n l legal) (λ k r is. only k r (ap (option_and_then by_agent) is) tt)
