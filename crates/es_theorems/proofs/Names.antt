-- A block's own name: who opened it, and as which of its own. It tells blocks apart, and never changes.
use Rattle.std.proofs.Common.{◌≡◌, ℕ, zero, suc, ◌+◌, ◌<◌, ◌≤◌, ◌==◌, Bool, true, false, cond, sym, ◌∙◌, ap, refl, subst, arith, List, [], ◌∷◌, ◌++◌, Option, Some, None, inl, inr, eq-eqb}
use Rattle.std.specs.Option.{option_map_or, option_and_then}
use Rattle.std.proofs.lemmas.Bool.{cases_Bool, eqb-false, eqb-true}
use Rattle.es_value.specs.declared.value.Value.{Value}
use Rattle.es_event.specs.declared.ledger_event.LedgerEvent.{LedgerEvent}
use Rattle.es_event.specs.declared.ledger_event.LedgerEvent.TheVariants.{Opened, Posted, Taken, Spent, Accessed, Drained, Acted}
use Rattle.es_event.specs.Identities.{object_of}
use Rattle.es_event.specs.Ledger.{Ledger, opened}
use Rattle.es_event.specs.LegalLedger.{ComesNext, LegalSoFar, owed}
use Rattle.es_event.specs.Sharing.{Buffers, block_of, row_at}
use Rattle.es_match.specs.Deeds.{Opens, deed, part, part_of}
use Rattle.es_cluster.proofs.Growing.{part_own}
use Rattle.es_theorems.specs.Alone.{by_number, named}
use Rattle.es_theorems.specs.Renamed.{AreOpened, Named, TellsApart, name, opens_in}
use Rattle.es_theorems.proofs.Weighing.{weigh_more}

-- Two names

same_name : (n a c k j : ℕ) → a < n → c < n → a + by_number k n ≡ c + by_number j n → (a ≡ c) × (k ≡ j)
same_name n a c zero zero x y e = (omega (arith, e), refl)
same_name n a c zero (suc j) x y e = absurd (omega (arith, x, e))
same_name n a c (suc k) zero x y e = absurd (omega (arith, y, e))
same_name n a c (suc k) (suc j) x y e = let rest = same_name n a c k j x y (omega (arith, e)) in (rest.0, ap suc rest.1)

name_parts : (n a c k j : ℕ) → a < n → c < n → named n a k ≡ named n c j → (a ≡ c) × (k ≡ j)
name_parts n a c k j x y e = same_name n a c k j x y (omega (arith, e))

-- What is opened

pub may_open : (n : ℕ) (l : Ledger) (b w s a : ℕ) (o : Option ℕ) → ComesNext n l (Opened b w s a) o → (b ≡ opened l + 1) × (a < n)
may_open n l b w s a None may = (may.0, may.2)
may_open n l b w s a (Some k) may = cc

later : (n : ℕ) (l : Ledger) (e : LedgerEvent) (b : ℕ) → Named n l b → name n (e ∷ l) b ≡ name n l b → Named n (e ∷ l) b
later n l e b x same = record {
  agent = x.agent;
  before = x.before;
  known = x.known;
  earlier = (let more = weigh_more 1 0 0 (part l x.agent) (part_of x.agent (deed l e)) in let less = x.earlier in omega (arith, more, less));
  is = same ∙ x.is;
}

new_name : (n : ℕ) (l : Ledger) (b w s a : ℕ) → a < n → Named n (Opened b w s a ∷ l) b
new_name n l b w s a known = record {
  agent = a;
  before = opens_in (part l a);
  known = known;
  earlier = (let more = ap opens_in (part_own l (Opened b w s a) a (Opens b w s) refl refl) ∙ weigh_more 1 0 0 (part l a) (Opens b w s ∷ []) in omega (arith, more));
  is = ap (λ t. cond t (named n a (opens_in (part l a))) (name n l b)) (eq-eqb b b refl);
}

pub named_is : (n : ℕ) (l : Ledger) → LegalSoFar n l → (b : ℕ) → 0 < b → b ≤ opened l → Named n l b
named_is n [] legal b some less = absurd (omega (arith, some, less))
named_is n (Opened c w s a ∷ l) legal b some less = elim (cases_Bool (c == b)) [
  | inl e ↦ subst (Named n (Opened c w s a ∷ l)) (eqb-true c b e) (new_name n l c w s a (may_open n l c w s a (owed l) legal.0).1)
  | inr e ↦ (let may = (may_open n l c w s a (owed l) legal.0).0 in let other = eqb-false c b e in later n l (Opened c w s a) b (named_is n l legal.1 b some (omega (arith, less, may, other))) (ap (λ t. cond t (named n a (opens_in (part l a))) (name n l b)) e))
]
named_is n (Posted t u m ∷ l) legal b some less = later n l (Posted t u m) b (named_is n l legal.1 b some (omega (arith, less))) refl
named_is n (Taken t u ∷ l) legal b some less = later n l (Taken t u) b (named_is n l legal.1 b some (omega (arith, less))) refl
named_is n (Spent k ∷ l) legal b some less = later n l (Spent k) b (named_is n l legal.1 b some (omega (arith, less))) refl
named_is n (Accessed k i m old ∷ l) legal b some less = later n l (Accessed k i m old) b (named_is n l legal.1 b some (omega (arith, less))) refl
named_is n (Acted a d ∷ l) legal b some less = later n l (Acted a d) b (named_is n l legal.1 b some (omega (arith, less))) refl
named_is n (Drained t u ∷ l) legal b some less = later n l (Drained t u) b (named_is n l legal.1 b some (omega (arith, less))) refl

-- Two blocks have two names

-- the newest block's name is none of an earlier one
newest_apart : (n : ℕ) (l : Ledger) (a c : ℕ) → a < n → Named n l c → name n l c ≡ named n a (opens_in (part l a)) → ⊥
newest_apart n l a c known x same =
    let parts = name_parts n x.agent a x.before (opens_in (part l a)) x.known known (sym x.is ∙ same) in
    let less = x.earlier in
    let last : opens_in (part l x.agent) ≡ opens_in (part l a) = ap (λ a. opens_in (part l a)) parts.0 in
    let before = parts.1 in
    omega (arith, less, last, before)

opened_apart : (n : ℕ) (l : Ledger) (d w s a b c : ℕ) → LegalSoFar n (Opened d w s a ∷ l) → (name n l b ≡ name n l c → b ≤ opened l → c ≤ opened l → b ≡ c) → 0 < b → b ≤ opened (Opened d w s a ∷ l) → 0 < c → c ≤ opened (Opened d w s a ∷ l)
    → name n (Opened d w s a ∷ l) b ≡ name n (Opened d w s a ∷ l) c → b ≡ c
opened_apart n l d w s a b c legal rest some less any more same = at (d == b) (d == c) refl refl
  where
    new : ℕ
    new = named n a (opens_in (part l a))

    may : (d ≡ opened l + 1) × (a < n)
    may = may_open n l d w s a (owed l) legal.0

    at : (x y : Bool) → (d == b) ≡ x → (d == c) ≡ y → b ≡ c
    at true true left right = sym (eqb-true d b left) ∙ eqb-true d c right
    at true false left right =
        let number = may.0 in
        let other = eqb-false d c right in
        absurd (newest_apart n l a c may.1 (named_is n l legal.1 c any (omega (arith, more, number, other))) (sym (ap (λ t. cond t new (name n l c)) right) ∙ sym same ∙ ap (λ t. cond t new (name n l b)) left))
    at false true left right =
        let number = may.0 in
        let other = eqb-false d b left in
        absurd (newest_apart n l a b may.1 (named_is n l legal.1 b some (omega (arith, less, number, other))) (sym (ap (λ t. cond t new (name n l b)) left) ∙ same ∙ ap (λ t. cond t new (name n l c)) right))
    at false false left right =
        let number = may.0 in
        let one = eqb-false d b left in
        let two = eqb-false d c right in
        rest (sym (ap (λ t. cond t new (name n l b)) left) ∙ same ∙ ap (λ t. cond t new (name n l c)) right) (omega (arith, less, number, one)) (omega (arith, more, number, two))

pub apart : (n : ℕ) (l : Ledger) → LegalSoFar n l → (b c : ℕ) → 0 < b → b ≤ opened l → 0 < c → c ≤ opened l → name n l b ≡ name n l c → b ≡ c
apart n [] legal b c some less any more same = absurd (omega (arith, some, less))
apart n (Opened d w s a ∷ l) legal b c some less any more same = opened_apart n l d w s a b c legal (λ e x y. apart n l legal.1 b c some x any y e) some less any more same
apart n (_ ∷ l) legal b c some less any more same = apart n l legal.1 b c some (omega (arith, less)) any (omega (arith, more)) same

pub no_name : (n : ℕ) (l : Ledger) → LegalSoFar n l → name n l 0 ≡ 0
no_name n [] legal = refl
no_name n (Opened d w s a ∷ l) legal = elim (cases_Bool (d == 0)) [
  | inl e ↦ (let zero = eqb-true d 0 e in let may = (may_open n l d w s a (owed l) legal.0).0 in absurd (omega (arith, zero, may)))
  | inr e ↦ ap (λ t. cond t (named n a (opens_in (part l a))) (name n l 0)) e ∙ no_name n l legal.1
]
no_name n (_ ∷ l) legal = no_name n l legal.1

-- A block's name stays

pub grown : (es : List LedgerEvent) (l : Ledger) → opened l ≤ opened (es ++ l)
grown [] l = omega arith
grown (e ∷ es) l = let rest = grown es l in omega (arith, rest)

pub name_stays : (n : ℕ) (es : List LedgerEvent) (l : Ledger) → LegalSoFar n (es ++ l) → (b : ℕ) → b ≤ opened l → name n (es ++ l) b ≡ name n l b
name_stays n [] l legal b less = refl
name_stays n (Opened d w s a ∷ es) l legal b less = elim (cases_Bool (d == b)) [
  | inl e ↦ (let here = eqb-true d b e in let may = (may_open n (es ++ l) d w s a (owed (es ++ l)) legal.0).0 in let more = grown es l in absurd (omega (arith, here, may, more, less)))
  | inr e ↦ ap (λ t. cond t (named n a (opens_in (part (es ++ l) a))) (name n (es ++ l) b)) e ∙ name_stays n es l legal.1 b less
]
name_stays n (_ ∷ es) l legal b less = name_stays n es l legal.1 b less

-- So names tell buffers apart

block_within : (l : Ledger) (over : Buffers) (o : ℕ) → AreOpened l over → option_map_or (λ r. r.block) (row_at over o) 0 ≤ opened l
block_within l [] o all = omega arith
block_within l (p ∷ over) o all = at (p.0 == o) all.0 (block_within l over o all.1)
  where
    at : (t : Bool) → p.1.block ≤ opened l → option_map_or (λ r. r.block) (row_at over o) 0 ≤ opened l → option_map_or (λ r. r.block) (cond t (Some p.1) (row_at over o)) 0 ≤ opened l
    at true here rest = here
    at false here rest = rest

value_within : (l : Ledger) (over : Buffers) (v : Value) → AreOpened l over → block_of over v ≤ opened l
value_within l over v all = at (object_of v)
  where
    at : (o : Option ℕ) → option_map_or (λ r. r.block) (option_and_then (row_at over) o) 0 ≤ opened l
    at None = omega arith
    at (Some o) = block_within l over o all

names_differ : (n : ℕ) (l : Ledger) → LegalSoFar n l → (b c : ℕ) → b ≤ opened l → c ≤ opened l → name n l b ≡ name n l c → b ≡ c
names_differ n l legal zero zero x y same = refl
names_differ n l legal zero (suc c) x y same =
    let it = named_is n l legal (suc c) (omega arith) y in
    let off : 0 ≡ named n it.agent it.before = sym (no_name n l legal) ∙ same ∙ it.is in absurd (omega (arith, off))
names_differ n l legal (suc b) zero x y same =
    let it = named_is n l legal (suc b) (omega arith) x in
    let off : 0 ≡ named n it.agent it.before = sym (no_name n l legal) ∙ sym same ∙ it.is in absurd (omega (arith, off))
names_differ n l legal (suc b) (suc c) x y same = apart n l legal (suc b) (suc c) (omega arith) x (omega arith) y same

pub name_test : (n : ℕ) (l : Ledger) → LegalSoFar n l → (b c : ℕ) → b ≤ opened l → c ≤ opened l → (name n l b == name n l c) ≡ (b == c)
name_test n l legal b c x y = elim (cases_Bool (b == c)) [
  | inl e ↦ eq-eqb (name n l b) (name n l c) (ap (name n l) (eqb-true b c e)) ∙ sym e
  | inr e ↦ off (name n l b == name n l c) refl e
]
  where
    off : (t : Bool) → (name n l b == name n l c) ≡ t → (b == c) ≡ false → (name n l b == name n l c) ≡ (b == c)
    off true is e = absurd (eqb-false b c e (names_differ n l legal b c x y (eqb-true (name n l b) (name n l c) is)))
    off false is e = is ∙ sym e

pub names_apart : (n : ℕ) (l : Ledger) (over : Buffers) → LegalSoFar n l → AreOpened l over → TellsApart (name n l) over
names_apart n l over legal all = record {
  none = no_name n l legal;
  apart = λ v u. name_test n l legal (block_of over v) (block_of over u) (value_within l over v all) (value_within l over u all);
}
