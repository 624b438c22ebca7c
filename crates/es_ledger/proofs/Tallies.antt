-- How many tickets of a block some holders have; a block is released where none of them has one.
use Rattle.std.proofs.Common.{◌≡◌, ℕ, ◌+◌, ◌≤◌, ◌==◌, List, [], ◌∷◌, Bool, true, false, cond, refl, ap, ◌∙◌, arith, eq-eqb}
use Rattle.std.specs.Prelude.{◌↔◌, count_by}
use Rattle.es_event.specs.declared.row.Row.{Row}
use Rattle.std.proofs.lemmas.Bool.{eqb-true, and_parts, and_from}
use Rattle.std.proofs.lemmas.List.Sums.{sum_by-cons}
use Rattle.es_event.specs.declared.row.Entry.{Entry}
use Rattle.es_event.specs.declared.row.Holder.{Holder}
use Rattle.es_event.specs.declared.row.Holder.TheVariants.{Agent, Port, Nobody}
use Rattle.es_event.specs.Rows.{rows_by, is_agent, is_port, is_somebody, count_of, held, in_port}
use Rattle.es_event.specs.Ledger.{Ledger, table, count, is_opened, is_released}

-- how many tickets that are such those holders have who pass the test
abbrev pub tally_such : (Row → Bool) → (Holder → Bool) → List Entry → ℕ
tally_such such test t = count_by such (rows_by test t)

abbrev pub weight_such : (Row → Bool) → Entry → ℕ
weight_such such e = cond (such e.row) 1 0

abbrev pub if_passed : Bool → ℕ → ℕ
if_passed p w = cond p w 0

pub tally_such_more : (such : Row → Bool) (test : Holder → Bool) (e : Entry) (t : List Entry) → tally_such such test (e ∷ t) ≡ if_passed (test e.holder) (weight_such such e) + tally_such such test t
tally_such_more such test e t = step (test e.holder)
  where
    step : (p : Bool) → count_by such (cond p (e.row ∷ rows_by test t) (rows_by test t)) ≡ if_passed p (weight_such such e) + tally_such such test t
    step true = sum_by-cons (λ r. cond (such r) 1 0) e.row (rows_by test t)
    step false = omega arith

-- those of block b

abbrev pub of_block : ℕ → Row → Bool
of_block b r = r.block == b

abbrev pub tally : (Holder → Bool) → ℕ → List Entry → ℕ
tally test b t = tally_such (of_block b) test t

abbrev pub weight : ℕ → Entry → ℕ
weight b e = weight_such (of_block b) e

pub tally_more : (test : Holder → Bool) (b : ℕ) (e : Entry) (t : List Entry) → tally test b (e ∷ t) ≡ if_passed (test e.holder) (weight b e) + tally test b t
tally_more test b e t = tally_such_more (of_block b) test e t

-- who are among others have no more than these
fewer : (test other : Holder → Bool) (b : ℕ) (t : List Entry) → ((h : Holder) → test h ≡ true → other h ≡ true) → tally test b t ≤ tally other b t
fewer test other b [] among = omega arith
fewer test other b (e ∷ t) among =
    let rest = fewer test other b t among in
    let first = step (weight b e) (test e.holder) (other e.holder) (among e.holder) in
    omega (arith, rest, first, tally_more test b e t, tally_more other b e t)
  where
    step : (w : ℕ) (p q : Bool) → (p ≡ true → q ≡ true) → if_passed p w ≤ if_passed q w
    step w true true is = omega arith
    step w true false is = let no : false ≡ true = is refl in cc
    step w false q is = omega arith

agent_among : (a : ℕ) (h : Holder) → is_agent a h ≡ true → is_somebody h ≡ true
agent_among a (Agent b) e = refl
agent_among a (Port s r) e = refl
agent_among a Nobody e = cc

port_among : (s r : ℕ) (h : Holder) → is_port s r h ≡ true → is_somebody h ≡ true
port_among s r (Agent b) e = refl
port_among s r (Port t u) e = refl
port_among s r Nobody e = cc

-- no agent and no port has one
abbrev NobodyHolds : ℕ → List Entry → Type 0
NobodyHolds b t = ((a : ℕ) → tally (is_agent a) b t ≡ 0) × ((s r : ℕ) → tally (is_port s r) b t ≡ 0)

to_each : (b : ℕ) (t : List Entry) → tally is_somebody b t ≡ 0 → NobodyHolds b t
to_each b t none = (
  (λ a. omega (arith, none, fewer (is_agent a) is_somebody b t (agent_among a))),
  (λ s r. omega (arith, none, fewer (is_port s r) is_somebody b t (port_among s r))),
)

-- the ticket of one line is that of its holder
of_its_holder : (b : ℕ) (e : Entry) (t : List Entry) (h : Holder) → e.holder ≡ h → NobodyHolds b (e ∷ t) → if_passed (is_somebody h) (weight b e) ≡ 0
of_its_holder b e t (Agent a) is none =
    let here : if_passed (is_agent a e.holder) (weight b e) ≡ weight b e = ap (λ p. if_passed p (weight b e)) (ap (is_agent a) is ∙ eq-eqb a a refl) in
    omega (arith, here, none.0 a, tally_more (is_agent a) b e t)
of_its_holder b e t (Port s r) is none =
    let at : is_port s r e.holder ≡ true = ap (is_port s r) is ∙ and_from (s == s) (r == r) (eq-eqb s s refl) (eq-eqb r r refl) in
    let here : if_passed (is_port s r e.holder) (weight b e) ≡ weight b e = ap (λ p. if_passed p (weight b e)) at in
    omega (arith, here, none.1 s r, tally_more (is_port s r) b e t)
of_its_holder b e t Nobody is none = refl

from_each : (b : ℕ) (t : List Entry) → NobodyHolds b t → tally is_somebody b t ≡ 0
from_each b [] none = refl
from_each b (e ∷ t) none =
    let rest : NobodyHolds b t = ((λ a. omega (arith, none.0 a, tally_more (is_agent a) b e t)), (λ s r. omega (arith, none.1 s r, tally_more (is_port s r) b e t))) in
    omega (arith, from_each b t rest, of_its_holder b e t e.holder refl none, tally_more is_somebody b e t)

pub released_where : (l : Ledger) (b : ℕ) → is_opened l b ≡ true
    → (is_released l b ≡ true) ↔ (((a : ℕ) → count_of (held a (table l)) b ≡ 0) × ((s r : ℕ) → count_of (in_port s r (table l)) b ≡ 0))
released_where l b made = (
  (λ e. to_each b (table l) (eqb-true (count l b) 0 (and_parts (is_opened l b) (count l b == 0) e).1)),
  (λ none. and_from (is_opened l b) (count l b == 0) made (eq-eqb (count l b) 0 (from_each b (table l) none))),
)
