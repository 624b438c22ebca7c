-- The words of blocks after a turn, by their own names.
use Rattle.std.proofs.Common.{◌≡◌, ℕ, ◌<◌, ◌≤◌, ◌==◌, ◌&&◌, Bool, true, false, cond, sym, ◌∙◌, ap, refl, subst, arith, List, [], ◌∷◌, ◌++◌, Option, Some, None, inl, inr}
use Rattle.std.specs.Option.{option_and_then, option_map}
use Rattle.std.proofs.lemmas.Bool.{and_parts, cases_lt, eqb-true, ne_eqb}
use Rattle.es_event.specs.declared.access.Change.{Change}
use Rattle.es_event.specs.declared.event.Event.{Event}
use Rattle.es_event.specs.declared.ledger_event.LedgerEvent.TheVariants.{Taken}
use Rattle.es_event.specs.declared.row.Row.{Row}
use Rattle.es_event.specs.Access.{written, change_by}
use Rattle.es_event.specs.Ledger.{Ledger, newest_word, opened, word}
use Rattle.es_event.specs.LegalLedger.{LegalSoFar}
use Rattle.es_match.specs.Deeds.{Deed, Opens, Spends, Accesses, Waits, Passes, Ends, Sleeps, Notifies, Wakes, TimesOut}
use Rattle.es_ledger.proofs.Made.{IsMade}
use Rattle.es_ledger.proofs.Opening.{unwritten}
use Rattle.es_record.specs.AgentView.{AgentView}
use Rattle.es_cluster.specs.State.{ClusterView}
use Rattle.es_theorems.specs.Doing.{did, event_of}
use Rattle.es_theorems.specs.Alone.{Touch, Words, is_over, left_over, touch_by, words_after, change_at}
use Rattle.es_theorems.specs.Renamed.{HasWords, name, renamed}
use Rattle.es_theorems.specs.Steps.{AreSilent, AtTurn, Does, IsTouch, is_quiet, is_silent, posts, takes, touches}
use Rattle.es_theorems.proofs.Learning.{held_opened, word_found}
use Rattle.es_theorems.proofs.Names.{apart, grown, name_stays, name_test}

-- Deeds that access no word

silent_words : (i : ℕ) (ds : List Deed) (l : Ledger) → AreSilent ds → (b x : ℕ) → word (did i ds l) b x ≡ word l b x
silent_words i [] l are b x = refl
silent_words i (d ∷ ds) l are b x = silent_words i ds (event_of i d ∷ l) are.1 b x ∙ one d are.0
  where
    one : (d : Deed) → is_silent d ≡ true → word (event_of i d ∷ l) b x ≡ word l b x
    one (Opens b w s) is = refl
    one (Spends s) is = refl
    one (Waits s) is = refl
    one (Passes s) is = refl
    one Ends is = refl
    one (Sleeps s j w) is = refl
    one (Notifies s j m k) is = refl
    one (Wakes o) is = refl
    one (TimesOut o) is = refl
    one _ is = cc

-- what becomes of a word by a change
changed : (T : Bool) (c : Change) (old before : ℕ) (b x d j : ℕ) → ((d == b) && (j == x)) ≡ T → (T ≡ true → old ≡ before) → cond ((d == b) && (j == x)) (left_over c old) before ≡ newest_word (option_and_then (λ w. Some (d, j, w)) (written c old)) b x before
changed true Change.Keep old before b x d j is same = ap (λ t. cond t old before) is ∙ same refl
changed false Change.Keep old before b x d j is same = ap (λ t. cond t old before) is
changed T (Change.Write w) old before b x d j is same = refl
changed T (Change.Add k) old before b x d j is same = refl

pub words_turn : (n : ℕ) (c : ClusterView) (words : Words) (i : ℕ) (m : Ledger) (b : AgentView) (e : Event) (r : Option Row) (ds : List Deed) → AtTurn n c i m b e r ds → Does n c.ledger.history i (renamed (name n c.ledger.history) b.over) e ds
    → HasWords n c.ledger.history words → HasWords n m (words_after words (touch_by (renamed (name n c.ledger.history) b.over) e))
words_turn n c words i m b e r ds x does holds = by_does does
  where
    l : Ledger
    l = c.ledger.history

    touch : Option Touch
    touch = touch_by (renamed (name n l) b.over) e

    legal : LegalSoFar n (x.grows.0 ++ l)
    legal = subst (LegalSoFar n) x.grows.1 x.legal

    names : (d : ℕ) → d ≤ opened l → name n m d ≡ name n l d
    names d less = ap (λ m. name n m d) x.grows.1 ∙ name_stays n x.grows.0 l legal d less

    more : opened l ≤ opened m
    more = subst (λ m. opened l ≤ opened m) (sym x.grows.1) (grown x.grows.0 l)

    none_new : (d y : ℕ) → 0 < d → opened l < d → d ≤ opened m → words (name n m d) y ≡ 0
    none_new d y some new less = holds.others (name n m d) y (λ k any known same. (let one = apart n m x.legal k d any (omega (arith, known, more)) some less (names k known ∙ same) in omega (arith, one, known, new)))

    still : touch ≡ None → ((d y : ℕ) → word m d y ≡ word l d y) → HasWords n m (words_after words touch)
    still none same = subst (λ t. HasWords n m (words_after words t)) (sym none) (record {
      named_so = λ d y some less. elim (cases_lt (opened l) d) [
        | inl new ↦ none_new d y some new less ∙ sym (unwritten n l x.along.legal d y new) ∙ sym (same d y)
        | inr old ↦ ap (λ k. words k y) (names d old) ∙ holds.named_so d y some old ∙ sym (same d y)
      ];
      others = λ k y none. holds.others k y (λ d some less same. none d some (omega (arith, less, more)) (names d less ∙ same));
    })

    touched : (s j : ℕ) (h : Change) (old : ℕ) (t : Touch) → ds ≡ Accesses s j h old ∷ [] → touch ≡ Some t → IsTouch n l i t s j h old → HasWords n m (words_after words touch)
    touched s j h old t is at its = subst (λ t. HasWords n m (words_after words t)) (sym at) (record { named_so = opened_so; others = others_so })
      where
        made : IsMade l its.row
        made = held_opened n l s i its.row x.along.legal its.holder

        size : opened m ≡ opened l
        size = (let now = x.alike.opened ∙ ap (λ ds. opened (did i ds l)) is in omega (arith, now))

        was : words t.block t.index ≡ old
        was = word_found n l words i s j h old t x.along.legal holds its

        opened_so : (d y : ℕ) → 0 < d → d ≤ opened m → words_after words (Some t) (name n m d) y ≡ word m d y
        opened_so d y some less =
            let known : d ≤ opened l = omega (arith, less, size) in
            ap (λ k. words_after words (Some t) k y) (names d known)
            ∙ ap (λ k. cond (is_over (name n l d) y t) (left_over (change_by t.access.edit k) k) (words (name n l d) y)) was
            ∙ ap (λ h. cond (is_over (name n l d) y t) (left_over h old) (words (name n l d) y)) (sym its.change)
            ∙ ap (λ k. cond (is_over (name n l d) y t) (left_over h old) k) (holds.named_so d y some known)
            ∙ ap (λ k. cond ((k == name n l d) && (t.index == y)) (left_over h old) (word l d y)) (sym its.block)
            ∙ ap (λ q. cond (q && (t.index == y)) (left_over h old) (word l d y)) (name_test n l x.along.legal its.row.block d made.1 known)
            ∙ ap (λ k. cond ((its.row.block == d) && (k == y)) (left_over h old) (word l d y)) (sym its.index)
            ∙ changed ((its.row.block == d) && (j == y)) h old (word l d y) d y its.row.block j refl (λ here. (let both = and_parts (its.row.block == d) (j == y) here in its.old_is ∙ ap (λ k. word l k j) (eqb-true its.row.block d both.0) ∙ ap (word l d) (eqb-true j y both.1)))
            ∙ sym (ap (λ o. newest_word (option_and_then (λ w. option_map (λ p. (p.1.block, j, w)) o) (written h old)) d y (word l d y)) its.holder)
            ∙ sym (x.alike.words d y ∙ ap (λ ds. word (did i ds l) d y) is)

        others_so : (k y : ℕ) → ((d : ℕ) → 0 < d → d ≤ opened m → name n m d ≡ k → ⊥) → words_after words (Some t) k y ≡ 0
        others_so k y none =
            let away : (t.block == k) ≡ false = ne_eqb t.block k (λ same. none its.row.block made.0 (omega (arith, made.1, more)) (names its.row.block made.1 ∙ its.block ∙ same)) in
            ap (λ q. cond (q && (t.index == y)) (left_over (change_at words t) (words t.block t.index)) (words k y)) away
            ∙ holds.others k y (λ d some less same. none d some (omega (arith, less, more)) (names d less ∙ same))

    by_does : Does n l i (renamed (name n l) b.over) e ds → HasWords n m (words_after words touch)
    by_does (is_quiet are none post) = still none (λ d y. x.alike.words d y ∙ silent_words i ds l are d y)
    by_does (posts t q y is none post) = still none (λ d y. x.alike.words d y ∙ ap (λ ds. word (did i ds l) d y) is)
    by_does (takes s q w rest is are none post) = still none (λ d y. x.alike.words d y ∙ ap (λ ds. word (did i ds l) d y) is ∙ silent_words i rest (Taken s i ∷ l) are d y)
    by_does (touches s j h old t is at post its) = touched s j h old t is at its
