-- Words that are read and written with the ticket of the event before.
use Rattle.std.proofs.lemmas.Bool.{and_parts, eqb-true}
use Rattle.std.proofs.lemmas.List.{reverse-append}
use Rattle.std.proofs.Common.{◌≡◌, ℕ, Bool, true, false, true≢false, not, ◌==◌, ◌&&◌, ◌||◌, List, [], ◌∷◌, ◌++◌, Option, Some, None, if◌then◌else◌, refl, sym, subst, ◌∙◌, ap, append_assoc, append-nil}
use Rattle.std.specs.Prelude.{nat_lt, reverse}
use Rattle.std.specs.Option.{option_map, option_map_or}
use Rattle.es_event.specs.declared.access.Change.{Change}
use Rattle.es_event.specs.declared.ledger_event.LedgerEvent.{LedgerEvent}
use Rattle.es_event.specs.declared.ledger_event.LedgerEvent.TheVariants.{Accessed}
use Rattle.es_event.specs.declared.row.Row.{Row}
use Rattle.es_event.specs.Ledger.{Ledger, holder_of, waits}
use Rattle.es_event.specs.Waiters.{asleep}
use Rattle.es_match.specs.declared.ledger_pass.LedgerPass.{LedgerPass}
use Rattle.es_match.specs.Deeds.{Deed, Accesses, deed, is_wait, part, part_of}
use Rattle.es_match.specs.Patience.{has_drained, ends_sleep, ends_wait, may_do, may_stir}
use Rattle.es_match.specs.Orderly.{may_come, orderly}
use Rattle.es_match.specs.LedgerPass.{Says, HoldsStill}
use Rattle.es_match.specs.Words.{AreWordsBy, words_said}

-- The agent holds the ticket still

held : (a : ℕ) (d : Deed) (o : Option (ℕ × Row)) → option_map (λ q. q.0) o ≡ Some a → option_map {U = ℕ × Deed} (λ q. (q.0, d)) o ≡ Some (a, d)
held a d None e = cc
held a d (Some q) e = cc

or_true : (b c : Bool) → c ≡ true → (b || c) ≡ true
or_true true c e = refl
or_true false c e = e

-- what a word is to the holder of its ticket, and that nothing else changes by it
record IsRun (n : ℕ) (l : Ledger) (s a : ℕ) (e : LedgerEvent) (d : Deed) : Type 0 where
  is : deed l e ≡ Some (a, d)
  comes : may_come n l (deed l e) ≡ true
  no_wait : is_wait d ≡ false
  still : HoldsStill (e ∷ l) (s, a)

runs : (n : ℕ) (l : Ledger) (s a t i : ℕ) (m : Change) (old : ℕ) → HoldsStill l (s, a) → nat_lt a n ≡ true → (s == t) ≡ true
    → IsRun n l s a (Accessed t i m old) (Accesses t i m old)
runs n l s a t i m old h within same =
    let is : deed l (Accessed t i m old) ≡ Some (a, Accesses t i m old) =
    held a (Accesses t i m old) (holder_of l t) (subst (λ k. option_map (λ q. q.0) (holder_of l k) ≡ Some a) (eqb-true s t same) h.holder) in
    record {
      is = is;
      comes = rw (is, h.waits, h.awake, h.drains) (or_true false (nat_lt a n) within);
      no_wait = refl;
      still = record { holder = h.holder; waits = h.waits; awake = h.awake; drains = h.drains };
    }

says_more : (l : Ledger) (t i : ℕ) (m : Change) (old : ℕ) (ts : LedgerPass) → Says l ts → Says (Accessed t i m old ∷ l) ts
says_more l t i m old ts says = record { lines = says.lines; sizes = says.sizes; mail = says.mail; waiting = says.waiting; sleeping = says.sleeping; drains = says.drains }

-- with the words that follow

-- what the words add to the part of agent b
abbrev pub more : ℕ → ℕ → List Deed → List Deed
more a b ds = if a == b then ds else []

more_one : (a b : ℕ) (d : Deed) (ds : List Deed) (before : List Deed) → is_wait d ≡ false
    → (before ++ (if (a == b) && not (is_wait d) then d ∷ [] else [])) ++ more a b ds ≡ before ++ more a b (d ∷ ds)
more_one a b d ds before e = rw e (by_test (a == b) d ds before)
  where
    by_test : (x : Bool) (d : Deed) (ds before : List Deed) → (before ++ (if x && true then d ∷ [] else [])) ++ (if x then ds else []) ≡ before ++ (if x then d ∷ ds else [])
    by_test true d ds before = append_assoc before (d ∷ []) ds
    by_test false d ds before = append_assoc before [] []

-- the pass, the order and the parts after the words
pub record AreAfter (n : ℕ) (l : Ledger) (a : ℕ) (es : List LedgerEvent) : Type 0 where
  pub order : orderly n (reverse es ++ l) ≡ orderly n l
  pub parts : (b : ℕ) → part (reverse es ++ l) b ≡ part l b ++ more a b (words_said es)
  pub says : (ts : LedgerPass) → Says l ts → Says (reverse es ++ l) ts

onto : (e : LedgerEvent) (es : List LedgerEvent) (l : Ledger) → reverse (e ∷ es) ++ l ≡ reverse es ++ e ∷ l
onto e es l = ap (λ xs. xs ++ l) (reverse-append (e ∷ []) es) ∙ append_assoc (reverse es) (e ∷ []) l

none_more : (x : Bool) (ds : List Deed) → ds ≡ ds ++ (if x then [] else [])
none_more true ds = sym (append-nil ds)
none_more false ds = sym (append-nil ds)

one_after : (n : ℕ) (l : Ledger) (s a : ℕ) (e : LedgerEvent) (d : Deed) (es : List LedgerEvent) → IsRun n l s a e d
    → words_said (e ∷ es) ≡ d ∷ words_said es → ((ts : LedgerPass) → Says l ts → Says (e ∷ l) ts)
    → AreAfter n (e ∷ l) a es → AreAfter n l a (e ∷ es)
one_after n l s a e d es run said says later = record {
  order = ap (orderly n) (onto e es l) ∙ later.order ∙ ap (λ b. b && orderly n l) run.comes;
  parts = λ b. ap (λ k. part k b) (onto e es l) ∙ later.parts b
      ∙ ap (λ o. (part l b ++ part_of b o) ++ more a b (words_said es)) run.is
      ∙ more_one a b d (words_said es) (part l b) run.no_wait
      ∙ ap (λ ds. part l b ++ more a b ds) (sym said);
  says = λ ts now. subst (λ (k : Ledger). Says k ts) (sym (onto e es l)) (later.says ts (says ts now));
}

pub all_after : (n s a : ℕ) (es : List LedgerEvent) (l : Ledger) → HoldsStill l (s, a) → nat_lt a n ≡ true → AreWordsBy s es → AreAfter n l a es
all_after n s a [] l h within are = record { order = refl; parts = λ b. none_more (a == b) (part l b); says = λ ts now. now }
all_after n s a (Accessed t i m old ∷ es) l h within are =
    let run = runs n l s a t i m old h within are.0 in
    one_after n l s a (Accessed t i m old) (Accesses t i m old) es run refl (says_more l t i m old)
    (all_after n s a es (Accessed t i m old ∷ l) run.still within are.1)
all_after n s a (_ ∷ es) l h within are = absurd (true≢false (sym are.0))

-- The first word of them, whose ticket was looked up

holder_back : (a : ℕ) (x d : Deed) (o : Option (ℕ × Row)) → option_map {U = ℕ × Deed} (λ q. (q.0, x)) o ≡ Some (a, d) → option_map (λ q. q.0) o ≡ Some a
holder_back a x d None e = absurd (cc)
holder_back a x d (Some q) e = ap (λ (o : Option (ℕ × Deed)). Some (option_map_or (λ r. r.0) o a)) e

deed_back : (a : ℕ) (x d : Deed) (o : Option (ℕ × Row)) → option_map {U = ℕ × Deed} (λ q. (q.0, x)) o ≡ Some (a, d) → d ≡ x
deed_back a x d None e = absurd (cc)
deed_back a x d (Some q) e = sym (ap (λ (o : Option (ℕ × Deed)). option_map_or (λ r. r.1) o d) e)

no_wait : (w : Option ℕ) (x d : Deed) → d ≡ x → ((s : ℕ) → ends_wait s x ≡ false) → may_do w d ≡ true → w ≡ None
no_wait None x d is never may = refl
no_wait (Some s) x d is never may = absurd (true≢false (sym may ∙ ap (ends_wait s) is ∙ never s))

no_sleep : (b : Bool) (x d : Deed) → d ≡ x → ends_sleep x ≡ false → may_stir b d ≡ true → b ≡ false
no_sleep false x d is never may = refl
no_sleep true x d is never may = absurd (true≢false (sym may ∙ ap ends_sleep is ∙ never))

not_true : (b : Bool) → not b ≡ true → b ≡ false
not_true true e = absurd (true≢false (sym e))
not_true false e = refl

known : (w b : Bool) → w ≡ false → (w || b) ≡ true → b ≡ true
known true b isnt e = absurd (true≢false isnt)
known false b isnt e = e

-- the agent holds it after the word as before, and is one of the n
pub first_holds : (n : ℕ) (l : Ledger) (a : ℕ) (d : Deed) (s i : ℕ) (m : Change) (old : ℕ) → Some (a, d) ≡ deed l (Accessed s i m old) → may_come n l (Some (a, d)) ≡ true
    → HoldsStill (Accessed s i m old ∷ l) (s, a) × (nat_lt a n ≡ true) × (is_wait d ≡ false)
first_holds n l a d s i m old is comes =
    let first = and_parts _ _ comes in
    let patient = and_parts _ _ first.0 in
    let later = and_parts _ _ first.1 in
    let same : d ≡ Accesses s i m old = deed_back a (Accesses s i m old) d (holder_of l s) (sym is) in
    let does : is_wait d ≡ false = ap is_wait same in (
      record {
        holder = holder_back a (Accesses s i m old) d (holder_of l s) (sym is);
        waits = no_wait (waits l a) (Accesses s i m old) d same (λ t. refl) patient.0;
        awake = no_sleep (asleep l a) (Accesses s i m old) d same refl patient.1;
        drains = not_true (has_drained l) later.0;
      },
      known (is_wait d) (nat_lt a n) does later.1,
      does,
    )
