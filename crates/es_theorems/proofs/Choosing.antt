-- Where all agents wait in vain, one alone may skip its job, and nobody else does anything before it.
use Rattle.std.proofs.Common.{◌≡◌, ℕ, zero, suc, ◌<◌, ◌==◌, ◌&&◌, ◌||◌, not, Bool, true, false, sym, ◌∙◌, ap, refl, subst, arith, Option, Some, None, inl, inr, eqb-true}
use Rattle.std.specs.Option.{option_map_or}
use Rattle.std.proofs.lemmas.Bool.{and_parts, cases_Bool, false≢true, eqb-false, not-true}
use Rattle.es_event.specs.declared.ledger_event.LedgerEvent.{LedgerEvent}
use Rattle.es_event.specs.Ledger.{Ledger, ended, waits}
use Rattle.es_event.specs.LegalLedger.{LegalSoFar, MayCome, all_ended, all_stuck, has_message, is_chosen, is_stuck, skips}
use Rattle.es_event.specs.Waiters.{asleep, is_listed}
use Rattle.es_match.specs.Deeds.{Deed, Passes, Takes, TimesOut, Wakes, deed}
use Rattle.es_match.specs.Patience.{ends_sleep, ends_wait, may_do, may_stir}
use Rattle.es_cluster.proofs.Mover.{settled_at}
use Rattle.es_ledger.proofs.Waking.{listed_asleep}
use Rattle.es_theorems.specs.Doing.{event_of}
use Rattle.es_theorems.proofs.Doing.{meant}

pub ended_below : (l : Ledger) (n i : ℕ) → all_ended l n ≡ true → i < n → ended l i ≡ true
ended_below l zero i all less = absurd (omega (arith, less))
ended_below l (suc n) i all less = elim (cases_Bool (i == n)) [
  | inl e ↦ ap (ended l) (eqb-true i n e) ∙ (and_parts (ended l n) (all_ended l n) all).0
  | inr e ↦ let other = eqb-false i n e in ended_below l n i (and_parts (ended l n) (all_ended l n) all).1 (below i n less other)
]
  where
    below : (i n : ℕ) → i < suc n → (i ≡ n → ⊥) → i < n
    below i n less other = omega (arith, less, other)

-- an agent that has not ended, where all that have not wait in vain
pub stuck_here : (l : Ledger) (n i : ℕ) → all_stuck l n ≡ true → i < n → ended l i ≡ false → is_stuck l i ≡ true
stuck_here l n i all less going = ap (λ e. e || is_stuck l i) (sym going) ∙ settled_at l n i all less

-- one that waits for a message
pub record Stuck (l : Ledger) (i : ℕ) : Type 0 where
  pub sender : ℕ
  pub waiting : waits l i ≡ Some sender
  pub none : has_message l sender i ≡ false
  pub going : ended l sender ≡ false

pub stuck_is : (l : Ledger) (i : ℕ) → is_listed l i ≡ false → is_stuck l i ≡ true → Stuck l i
stuck_is l i unlisted is = at (waits l i) refl (sym (ap (λ t. t || option_map_or (λ s. not (has_message l s i) && not (ended l s)) (waits l i) false) unlisted) ∙ is)
  where
    at : (w : Option ℕ) → waits l i ≡ w → option_map_or (λ s. not (has_message l s i) && not (ended l s)) w false ≡ true → Stuck l i
    at None w is = cc
    at (Some s) w is = let parts = and_parts (not (has_message l s i)) (not (ended l s)) is in record { sender = s; waiting = w; none = not-true _ parts.0; going = not-true _ parts.1 }

pub record Chosen (l : Ledger) (n i : ℕ) : Type 0 where
  pub stuck : all_stuck l n ≡ true
  pub lower : all_ended l i ≡ true
  pub going : ended l i ≡ false

pub chosen_is : (l : Ledger) (n i : ℕ) → is_chosen l n i ≡ true → Chosen l n i
chosen_is l n i is =
    let parts = and_parts (all_stuck l n) (all_ended l i && not (ended l i)) is in
    let rest = and_parts (all_ended l i) (not (ended l i)) parts.1 in
    record { stuck = parts.0; lower = rest.0; going = not-true _ rest.1 }

not_less : (l : Ledger) (n i j : ℕ) → Chosen l n i → Chosen l n j → i < j → ⊥
not_less l n i j a b less = false≢true (sym a.going ∙ ended_below l j i b.lower less)

pub chosen_one : (l : Ledger) (n i j : ℕ) → Chosen l n i → Chosen l n j → i ≡ j
chosen_one l n i j a b =
    let one = not_less l n i j a b in
    let two = not_less l n j i b a in
    omega (arith, one, two)

-- A skip

pub record Skips (l : Ledger) (n a s : ℕ) (over : Bool) : Type 0 where
  pub none : has_message l s a ≡ false
  pub ends : ended l s ≡ over
  pub chosen : over ≡ false → Chosen l n a

pub skips_is : (l : Ledger) (n a s : ℕ) → skips l n a s ≡ true → (over : Bool) × Skips l n a s over
skips_is l n a s is =
    let parts = and_parts (not (has_message l s a)) (ended l s || is_chosen l n a) is in
    at (ended l s) refl (not-true _ parts.0) parts.1
  where
    at : (b : Bool) → ended l s ≡ b → has_message l s a ≡ false → (b || is_chosen l n a) ≡ true → (over : Bool) × Skips l n a s over
    at true e none is = (true, record { none = none; ends = e; chosen = λ f. cc })
    at false e none is = (false, record { none = none; ends = e; chosen = λ f. chosen_is l n a is })

-- Where all wait in vain, the agent that does anything is the one that skips

none_taken : (l : Ledger) (b t s : ℕ) → has_message l s b ≡ false → (t == s) ≡ true → has_message l t b ≡ true → ⊥
none_taken l b t s none same may = false≢true (sym none ∙ ap (λ t. has_message l t b) (sym (eqb-true t s same)) ∙ may)

pub alone_goes : (n : ℕ) (l : Ledger) (a b : ℕ) (x : LedgerEvent) (d : Deed) → LegalSoFar n l → Chosen l n a → MayCome n l x → deed l x ≡ Some (b, d) → b < n → ended l b ≡ false → may_do (waits l b) d ≡ true → may_stir (asleep l b) d ≡ true → b ≡ a
alone_goes n l a b x d legal chosen may is known going patient stirs = at (is_listed l b) refl
  where
    here : MayCome n l (event_of b d)
    here = subst (MayCome n l) (meant n l x b d may is).event may

    -- it sleeps, and its time-out passes
    by_sleep : (d : Deed) → is_listed l b ≡ true → ends_sleep d ≡ true → MayCome n l (event_of b d) → b ≡ a
    by_sleep (Wakes o) listed ends may = absurd (false≢true (sym may.1 ∙ listed))
    by_sleep (TimesOut o) listed ends may = chosen_one l n b a (chosen_is l n b may.1) chosen
    by_sleep _ listed ends may = cc

    -- it waits for a message, and skips its job
    by_wait : (stuck : Stuck l b) (d : Deed) → ends_wait stuck.sender d ≡ true → MayCome n l (event_of b d) → b ≡ a
    by_wait stuck (Takes t m w) ends may = absurd (none_taken l b t stuck.sender stuck.none ends may)
    by_wait stuck (Passes t) ends may =
        let target : t ≡ stuck.sender = eqb-true t stuck.sender ends in
        let skip = skips_is l n b t may.1 in
        let over = sym skip.1.ends ∙ ap (ended l) target ∙ stuck.going in
        chosen_one l n b a (skip.1.chosen over) chosen
    by_wait stuck _ ends may = cc

    at : (t : Bool) → is_listed l b ≡ t → b ≡ a
    at true listed = by_sleep d listed (sym (ap (λ t. may_stir t d) (listed_asleep n l b legal listed)) ∙ stirs) here
    at false unlisted =
        let stuck = stuck_is l b unlisted (stuck_here l n b chosen.stuck known going) in
        by_wait stuck d (sym (ap (λ w. may_do w d) stuck.waiting) ∙ patient) here
