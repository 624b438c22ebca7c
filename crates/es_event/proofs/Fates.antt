-- What became of each registration: one fate each, which only moves forward; and which await their cleanup.
use Rattle.std.proofs.Common.{◌≡◌, ℕ, ◌+◌, ◌<◌, ◌≤◌, Bool, true, false, cond, sym, ◌∙◌, refl, ap, subst, arith, List, [], ◌∷◌, ◌++◌, length, Option, Some, None, inl, inr}
use Rattle.std.specs.Prelude.{unwrap_or, nat_lt, nat_le}
use Rattle.std.specs.List.{count_by, range_with_len}
use Rattle.std.specs.Option.{option_map_or}
use Rattle.std.proofs.lemmas.Bool.{false≢true, or_cases, or_right, ltb-true, leb-true, and_parts}
use Rattle.std.proofs.lemmas.List.FromFn.{length-range_with_len}
use Rattle.std.proofs.lemmas.List.Sums.{sum_by-cons}
use Rattle.es_value.specs.declared.value.Value.{Value}
use Rattle.es_event.specs.declared.event.Event.{Event}
use Rattle.es_event.specs.declared.event.Event.TheVariants.{Taken}
use Rattle.es_event.specs.History.{History}
use Rattle.es_event.specs.Identities.{is_in, gone, is_gone, empties}
use Rattle.es_event.specs.Jobs.{Receivers}
use Rattle.es_event.specs.Registrations.{Cell, registers, registered, is_registered, cell, Fate, live, awaiting, unregistered, taken, same_fate, present_fate, fate, is_present, registrations, tally}
use Rattle.es_event.specs.Sharing.{Buffers}
use Rattle.es_event.specs.Legal.{LegalBy}
use Rattle.es_event.specs.Laws.{may_become}
use Rattle.es_event.proofs.Cells.{cell_either, cell_before, cell_within, has_cell, registered_more, registered_same, unremoved, still_present, awaiting_present, live_target, awaiting_target, fate_absent, fate_taken}
use Rattle.es_event.proofs.Counting.{count_least, count_fewer, count_none}
use Rattle.es_event.proofs.Lists.{in_both}

-- One fate each

one_fate : (f : Fate) → cond (same_fate f live) 1 0 + cond (same_fate f awaiting) 1 0 + cond (same_fate f unregistered) 1 0 + cond (same_fate f taken) 1 0 ≡ 1
one_fate live = refl
one_fate awaiting = refl
one_fate unregistered = refl
one_fate taken = refl

abbrev count_of : (ℕ → Fate) → List ℕ → Fate → ℕ
count_of f ns g = count_by (λ n. same_fate (f n) g) ns

count_more : (f : ℕ → Fate) (n : ℕ) (ns : List ℕ) (g : Fate) → count_of f (n ∷ ns) g ≡ cond (same_fate (f n) g) 1 0 + count_of f ns g
count_more f n ns g = sum_by-cons (λ n. cond (same_fate (f n) g) 1 0) n ns

counts_add_up : (f : ℕ → Fate) (ns : List ℕ) → count_of f ns live + count_of f ns awaiting + count_of f ns unregistered + count_of f ns taken ≡ length ns
counts_add_up f [] = refl
counts_add_up f (n ∷ ns) =
    omega (arith, one_fate (f n), count_more f n ns live, count_more f n ns awaiting, count_more f n ns unregistered, count_more f n ns taken, counts_add_up f ns)

pub tallies_add_up : (h : History) → tally h live + tally h awaiting + tally h unregistered + tally h taken ≡ registered h
tallies_add_up h = counts_add_up (fate h) (registrations h) ∙ length-range_with_len 1 (registered h)

-- Fates move forward

pub becomes_itself : (a : Fate) → may_become a a ≡ true
becomes_itself live = refl
becomes_itself awaiting = refl
becomes_itself unregistered = refl
becomes_itself taken = refl

pub becomes_on : (a b c : Fate) → may_become a b ≡ true → may_become b c ≡ true → may_become a c ≡ true
becomes_on live b c x y = refl
becomes_on awaiting live c x y = cc
becomes_on awaiting awaiting c x y = y
becomes_on awaiting unregistered live x y = cc
becomes_on awaiting unregistered awaiting x y = cc
becomes_on awaiting unregistered unregistered x y = refl
becomes_on awaiting unregistered taken x y = cc
becomes_on awaiting taken live x y = cc
becomes_on awaiting taken awaiting x y = cc
becomes_on awaiting taken unregistered x y = cc
becomes_on awaiting taken taken x y = refl
becomes_on unregistered unregistered c x y = y
becomes_on unregistered _ c x y = cc
becomes_on taken taken c x y = y
becomes_on taken _ c x y = cc

gone_later : (e : Event) (h : History) (i : ℕ) → is_gone h i ≡ true → is_gone (e ∷ h) i ≡ true
gone_later e h i g = in_both (empties e) (gone h) i ∙ or_right (is_in (empties e) i) (is_gone h i) g

-- what is out stays as it is
becomes_out : (e : Event) (h : History) (n : ℕ) (a b : Fate) → is_present a ≡ false → fate h n ≡ a → fate (e ∷ h) n ≡ b → may_become a b ≡ true
becomes_out e h n a b out is then =
    let same : b ≡ a = sym then ∙ (fate_absent e h n (ap is_present is ∙ out) ∙ is) in
    subst (λ f. may_become a f ≡ true) (sym same) (becomes_itself a)

next_forward : (e : Event) (h : History) (n : ℕ) → 0 < n → n ≤ registered h → (a b : Fate) → fate h n ≡ a → fate (e ∷ h) n ≡ b → may_become a b ≡ true
next_forward e h n low high live b is then = refl
next_forward e h n low high awaiting live is then =
    let made = has_cell h n low high in
    let there : is_gone (e ∷ h) made.0.target ≡ false = live_target (e ∷ h) n made.0 (cell_before e h n high ∙ made.1) then in
    absurd (false≢true (sym there ∙ gone_later e h made.0.target (awaiting_target h n made.0 made.1 is)))
next_forward e h n low high awaiting awaiting is then = refl
next_forward e h n low high awaiting unregistered is then = refl
next_forward e h n low high awaiting taken is then = refl
next_forward e h n low high unregistered b is then = becomes_out e h n unregistered b refl is then
next_forward e h n low high taken b is then = becomes_out e h n taken b refl is then

registered_later : (f h : History) → registered h ≤ registered (f ++ h)
registered_later [] h = omega arith
registered_later (e ∷ f) h = omega (arith, registered_later f h, registered_more e (f ++ h))

forward : (f h : History) (n : ℕ) → 0 < n → n ≤ registered h → may_become (fate h n) (fate (f ++ h) n) ≡ true
forward [] h n low high = becomes_itself (fate h n)
forward (e ∷ f) h n low high =
    becomes_on (fate h n) (fate (f ++ h) n) (fate (e ∷ (f ++ h)) n) (forward f h n low high)
    (next_forward e (f ++ h) n low (omega (arith, high, registered_later f h)) (fate (f ++ h) n) (fate (e ∷ (f ++ h)) n) refl refl)

pub move_forward : (f h : History) (n : ℕ) → is_registered h n ≡ true → may_become (fate h n) (fate (f ++ h) n) ≡ true
move_forward f h n is =
    let parts = and_parts (nat_lt 0 n) (nat_le n (registered h)) is in
    forward f h n (ltb-true 0 n parts.0) (leb-true n (registered h) parts.1)

-- Nothing is taken twice

out_stays : (f h : History) (n : ℕ) → is_present (fate h n) ≡ false → fate (f ++ h) n ≡ fate h n
out_stays [] h n out = refl
out_stays (e ∷ f) h n out = let before = out_stays f h n out in fate_absent e (f ++ h) n (ap is_present before ∙ out) ∙ before

legal_before : (over : Buffers) (into : Receivers) (f h : History) → LegalBy over into (f ++ h) → LegalBy over into h
legal_before over into [] h l = l
legal_before over into (e ∷ f) h l = legal_before over into f h l.1

pub not_twice : (over : Buffers) (into : Receivers) (f h : History) (n : ℕ) (v w : Value) → LegalBy over into (Taken n w ∷ (f ++ (Taken n v ∷ h))) → ⊥
not_twice over into f h n v w l =
    let first : fate (Taken n v ∷ h) n ≡ taken = fate_taken h n v (awaiting_present h n (legal_before over into f (Taken n v ∷ h) l.1).0.1) in
    let later : fate (f ++ (Taken n v ∷ h)) n ≡ taken = out_stays f (Taken n v ∷ h) n (ap is_present first) ∙ first in
    false≢true (ap is_present (sym later ∙ l.0.1))

-- What awaits its cleanup

-- registration n was made with the cell, and awaits its cleanup
pub record Awaits (h : History) (n : ℕ) (c : Cell) : Type 0 where
  pub is : cell h n ≡ Some c
  pub waits : fate h n ≡ awaiting

-- what has no cell is live
awaits_if : (h : History) (n : ℕ) (o : Option Cell) → cell h n ≡ o → fate h n ≡ awaiting → (c : Cell) × Awaits h n c
awaits_if h n (Some c) is e = (c, record { is = is; waits = e })
awaits_if h n None is e =
    let present : present_fate h n ≡ awaiting = sym (ap (λ o. unwrap_or o (present_fate h n)) (unremoved h n (awaiting_present h n e))) ∙ e in
    let alive : present_fate h n ≡ live = ap (λ o. cond (option_map_or (λ c. is_gone h c.target) o false) awaiting live) is in
    absurd (false≢true (ap (λ f. same_fate f awaiting) (sym alive ∙ present)))

pub awaits : (h : History) (n : ℕ) → fate h n ≡ awaiting → (c : Cell) × Awaits h n c
awaits h n e = awaits_if h n (cell h n) refl e

present_waits : (h : History) (n : ℕ) (c : Cell) (f : Fate) → cell h n ≡ Some c → is_gone h c.target ≡ true → fate h n ≡ f → is_present f ≡ true → f ≡ awaiting
present_waits h n c live is gone e p = absurd (false≢true (sym (live_target h n c is e) ∙ gone))
present_waits h n c awaiting is gone e p = refl
present_waits h n c unregistered is gone e p = cc
present_waits h n c taken is gone e p = cc

-- what awaits after an event that neither empties its target nor registers what is gone awaited before
pub awaited : (e : Event) (h : History) (n : ℕ) (c : Cell) → is_in (empties e) c.target ≡ false → ((d : Cell) → registers e ≡ Some d → is_gone h d.target ≡ false)
    → Awaits (e ∷ h) n c → Awaits h n c
awaited e h n c still fresh a =
    let before : is_gone h c.target ≡ true = elim (or_cases (is_in (empties e) c.target) (is_gone h c.target) (sym (in_both (empties e) (gone h) c.target) ∙ awaiting_target (e ∷ h) n c a.is a.waits)) [
      | inl now ↦ absurd (false≢true (sym still ∙ now))
      | inr old ↦ old
    ] in
    let was : is_present (fate h n) ≡ true = still_present e h n (awaiting_present (e ∷ h) n a.waits) in
    cell_either (Awaits h n c) e h n c
    (λ new next. absurd (false≢true (sym (fresh c new) ∙ before)))
    (λ old. record { is = old; waits = present_waits h n c (fate h n) old before refl was }) a.is

-- nothing comes to await its cleanup by the event
abbrev pub AwaitedBefore : Event → History → Type 0
AwaitedBefore e h = (n : ℕ) (c : Cell) → Awaits (e ∷ h) n c → Awaits h n c

pub is_same : (f : Fate) → same_fate f awaiting ≡ true → f ≡ awaiting
is_same awaiting e = refl
is_same live e = cc
is_same unregistered e = cc
is_same taken e = cc

pub same_from : (f : Fate) → f ≡ awaiting → same_fate f awaiting ≡ true
same_from f e = ap (λ f. same_fate f awaiting) e

tests_before : (e : Event) (h : History) → AwaitedBefore e h → (n : ℕ) → same_fate (fate (e ∷ h) n) awaiting ≡ true → (same_fate (fate h n) awaiting ≡ true) × (n < 1 + registered h)
tests_before e h before n t =
    let now = awaits (e ∷ h) n (is_same (fate (e ∷ h) n) t) in
    let was : Awaits h n now.0 = before n now.0 now.1 in
    let within = cell_within h n now.0 was.is in
    (same_from (fate h n) was.waits, omega (arith, within.1))

pub no_more : (e : Event) (h : History) → AwaitedBefore e h → tally (e ∷ h) awaiting ≤ tally h awaiting
no_more e h before = count_least (λ n. same_fate (fate (e ∷ h) n) awaiting) (λ n. same_fate (fate h n) awaiting) 1 (registered (e ∷ h)) (registered h) (tests_before e h before)

-- a cell that is taken leaves fewer

pub taken_before : (n : ℕ) (v : Value) (h : History) → AwaitedBefore (Taken n v) h
taken_before n v h m c a = awaited (Taken n v) h m c refl (λ d e. cc) a

pub fewer : (n : ℕ) (v : Value) (h : History) → fate h n ≡ awaiting → tally (Taken n v ∷ h) awaiting < tally h awaiting
fewer n v h e =
    let test : ℕ → Bool = λ m. same_fate (fate (Taken n v ∷ h) m) awaiting in
    let was = awaits h n e in
    let within = cell_within h n was.0 was.1.is in
    let same : registered (Taken n v ∷ h) ≡ registered h = registered_same (Taken n v) h refl in
    let out : same_fate (fate (Taken n v ∷ h) n) awaiting ≡ false = ap (λ f. same_fate f awaiting) (fate_taken h n v (awaiting_present h n e)) in
    subst (λ k. count_by test (range_with_len 1 k) < tally h awaiting) (sym same)
    (count_fewer test (λ m. same_fate (fate h m) awaiting) 1 (registered h) n (tests_before (Taken n v) h (taken_before n v h))
    (omega (arith, within.0)) (omega (arith, within.1)) out (same_from (fate h n) e))

-- where nothing awaits its cleanup, none is counted
pub none_awaits : (h : History) → ((n : ℕ) (c : Cell) → Awaits h n c → ⊥) → tally h awaiting ≡ 0
none_awaits h none =
    count_none (λ n. same_fate (fate h n) awaiting) 1 (registered h) (λ n t. let now = awaits h n (is_same (fate h n) t) in none n now.0 now.1)
