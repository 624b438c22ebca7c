-- What an agent shows of its deeds, and what it does besides: a sleep that begins is ended by its next deed.
use Rattle.std.proofs.Common.{◌≡◌, ◌⊎◌, inl, inr, ℕ, Bool, true, false, cond, sym, ◌∙◌, ap, refl, subst, List, [], ◌∷◌, ◌++◌, Option, Some}
use Rattle.std.specs.List.{list_any}
use Rattle.std.proofs.lemmas.Bool.{false≢true, or_parts}
use Rattle.es_match.specs.declared.deed.Sleep.{Sleep}
use Rattle.es_match.specs.Deeds.{Deed, Opens, Posts, Takes, Spends, Accesses, Waits, Passes, Ends, Sleeps, Notifies, Wakes, TimesOut, is_sleep}
use Rattle.es_match.specs.Patience.{ends_sleep}
use Rattle.es_theorems.specs.Calm.{has_sleep, of_sleep}
use Rattle.es_theorems.specs.Rousing.{Leads, Led, State, awake, shown, sleeping}

abbrev pub sleep_by : ℕ → ℕ → ℕ → Option Sleep
sleep_by s i w = Some (record { serial = s; index = i; word = w })

-- One deed more

pub shown_more : (ds : List Deed) (d : Deed) → shown (ds ++ d ∷ []) ≡ shown ds ++ shown (d ∷ [])
shown_more [] d = refl
shown_more (c ∷ ds) d = by (is_sleep c) (shown_more ds d)
  where
    by : (t : Bool) → shown (ds ++ d ∷ []) ≡ shown ds ++ shown (d ∷ []) → cond t (shown (ds ++ d ∷ [])) (c ∷ shown (ds ++ d ∷ [])) ≡ cond t (shown ds) (c ∷ shown ds) ++ shown (d ∷ [])
    by true rest = rest
    by false rest = ap (λ ds. c ∷ ds) rest

pub led_more : (u v w : State) (ds : List Deed) (d : Deed) → Led u ds v → Leads v d w → Led u (ds ++ d ∷ []) w
led_more u v w [] d led leads = (w, subst (λ u. Leads u d w) led leads, refl)
led_more u v w (c ∷ ds) d led leads = (led.0, led.1, led_more led.0 v w ds d led.2 leads)

-- Where no sleep ends, none began

abbrev pub has_end : List Deed → Bool
has_end ds = list_any ends_sleep ds

ends_none : (d : Deed) → of_sleep d ≡ false → ends_sleep d ≡ false
ends_none (Wakes p) is = cc
ends_none (TimesOut p) is = cc
ends_none _ is = refl

-- so where nothing of sleep is done
pub rest_calm : (ds es : List Deed) → has_sleep (ds ++ es) ≡ false → has_end es ≡ false
rest_calm (d ∷ ds) es none = rest_calm ds es (or_parts (of_sleep d) (has_sleep (ds ++ es)) none).1
rest_calm [] [] none = refl
rest_calm [] (d ∷ es) none = let parts = or_parts (of_sleep d) (has_sleep es) none in rw (ends_none d parts.0, rest_calm [] es parts.1) refl

-- it is as it was, and all is shown
abbrev AllShown : State → List Deed → Type 0
AllShown u ds = (u ≡ awake) × (shown ds ≡ ds)

one_more : (u mid : State) (d : Deed) (ds : List Deed) → (u ≡ awake) × (mid ≡ awake) → AllShown mid ds → (u ≡ awake) × (d ∷ shown ds ≡ d ∷ ds)
one_more u mid d ds leads rest = (leads.0, ap (λ ds. d ∷ ds) rest.1)

pub all_shown : (u : State) (ds : List Deed) → has_end (shown ds) ≡ false → Led u ds awake → AllShown u ds
all_shown u [] none led = (sym led, refl)
all_shown u (Sleeps s i w ∷ ds) none led = let rest = all_shown led.0 ds none led.2 in let clash : sleeping (sleep_by s i w) ≡ awake = sym led.1.1 ∙ rest.0 in cc
all_shown u (Wakes p ∷ ds) none led = absurd (false≢true (sym none))
all_shown u (TimesOut p ∷ ds) none led = absurd (false≢true (sym none))
all_shown u (Opens b w s ∷ ds) none led = one_more u led.0 (Opens b w s) ds led.1 (all_shown led.0 ds none led.2)
all_shown u (Posts r m ∷ ds) none led = one_more u led.0 (Posts r m) ds led.1 (all_shown led.0 ds none led.2)
all_shown u (Takes s m w ∷ ds) none led = one_more u led.0 (Takes s m w) ds led.1 (all_shown led.0 ds none led.2)
all_shown u (Spends s ∷ ds) none led = one_more u led.0 (Spends s) ds led.1 (all_shown led.0 ds none led.2)
all_shown u (Accesses s i m old ∷ ds) none led = one_more u led.0 (Accesses s i m old) ds led.1 (all_shown led.0 ds none led.2)
all_shown u (Waits s ∷ ds) none led = one_more u led.0 (Waits s) ds led.1 (all_shown led.0 ds none led.2)
all_shown u (Passes s ∷ ds) none led = one_more u led.0 (Passes s) ds led.1 (all_shown led.0 ds none led.2)
all_shown u (Ends ∷ ds) none led = one_more u led.0 Ends ds led.1 (all_shown led.0 ds none led.2)
all_shown u (Notifies s i n k ∷ ds) none led = one_more u led.0 (Notifies s i n k) ds led.1 (all_shown led.0 ds none led.2)

-- Where one deed is shown

-- it is the only one, or ends the sleep that began just before
abbrev pub One : State → List Deed → Deed → Type 0
One u ds d =
    ((ds ≡ d ∷ []) × Leads u d awake)
    ⊎ ((s : ℕ) × (i : ℕ) × (w : ℕ) × (u ≡ awake) × (ds ≡ Sleeps s i w ∷ d ∷ []) × Leads (sleeping (sleep_by s i w)) d awake)

none_left : (u : State) (ds : List Deed) → shown ds ≡ [] → Led u ds awake → (ds ≡ []) × (u ≡ awake)
none_left u [] none led = (refl, sym led)
none_left u (Sleeps s i w ∷ ds) none led = let rest = none_left led.0 ds none led.2 in let clash : sleeping (sleep_by s i w) ≡ awake = sym led.1.1 ∙ rest.1 in cc
none_left u (_ ∷ ds) none led = cc

head_of : List Deed → Deed → Deed
head_of [] d = d
head_of (c ∷ ds) d = c

rest_of : List Deed → List Deed
rest_of [] = []
rest_of (c ∷ ds) = ds

last_one : (u mid : State) (c d : Deed) (ds : List Deed) → c ∷ shown ds ≡ d ∷ [] → Leads u c mid → Led mid ds awake → One u (c ∷ ds) d
unfolding head_of rest_of
last_one u mid c d ds is leads led =
    let same : c ≡ d = ap (λ ds. head_of ds d) is in
    let rest = none_left mid ds (ap rest_of is) led in
    inl (ap (λ ds. c ∷ ds) rest.0 ∙ ap (λ c. c ∷ []) same, subst (λ d. Leads u d awake) same (subst (Leads u c) rest.1 leads))

pub one_shown : (u : State) (ds : List Deed) (d : Deed) → shown ds ≡ d ∷ [] → Led u ds awake → One u ds d
one_shown u [] d is led = cc
one_shown u (Sleeps s i w ∷ ds) d is led = elim (one_shown led.0 ds d is led.2) [
  | inl x ↦ inr (s, i, w, led.1.0, ap (λ ds. Sleeps s i w ∷ ds) x.0, subst (λ u. Leads u d awake) led.1.1 x.1)
  | inr x ↦ let clash : sleeping (sleep_by s i w) ≡ awake = sym led.1.1 ∙ x.3 in cc
]
one_shown u (Wakes p ∷ ds) d is led = last_one u led.0 (Wakes p) d ds is led.1 led.2
one_shown u (TimesOut p ∷ ds) d is led = last_one u led.0 (TimesOut p) d ds is led.1 led.2
one_shown u (Opens b w s ∷ ds) d is led = last_one u led.0 (Opens b w s) d ds is led.1 led.2
one_shown u (Posts r m ∷ ds) d is led = last_one u led.0 (Posts r m) d ds is led.1 led.2
one_shown u (Takes s m w ∷ ds) d is led = last_one u led.0 (Takes s m w) d ds is led.1 led.2
one_shown u (Spends s ∷ ds) d is led = last_one u led.0 (Spends s) d ds is led.1 led.2
one_shown u (Accesses s i m old ∷ ds) d is led = last_one u led.0 (Accesses s i m old) d ds is led.1 led.2
one_shown u (Waits s ∷ ds) d is led = last_one u led.0 (Waits s) d ds is led.1 led.2
one_shown u (Passes s ∷ ds) d is led = last_one u led.0 (Passes s) d ds is led.1 led.2
one_shown u (Ends ∷ ds) d is led = last_one u led.0 Ends d ds is led.1 led.2
one_shown u (Notifies s i n k ∷ ds) d is led = last_one u led.0 (Notifies s i n k) d ds is led.1 led.2
