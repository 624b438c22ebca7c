-- What one more event leaves of cells, and of what became of each registration.
use Rattle.std.proofs.Common.{◌≡◌, ℕ, ◌+◌, ◌<◌, ◌≤◌, ◌==◌, ◌&&◌, ◌||◌, Bool, true, false, cond, sym, ◌∙◌, ap, refl, subst, arith, List, [], ◌∷◌, ◌++◌, Option, Some, None, inl, inr}
use Rattle.std.specs.Prelude.{unwrap_or, nat_lt}
use Rattle.std.specs.Option.{option_map, option_map_or, option_or}
use Rattle.std.proofs.lemmas.Bool.{eqb-true, eq-eqb, ltb-true, cases_Bool, false≢true, or_left}
use Rattle.std.proofs.lemmas.Bool.Decides.{nat_tests}
use Rattle.es_value.specs.declared.value.Value.{Value}
use Rattle.es_value.specs.declared.value.Value.TheVariants.{Object}
use Rattle.es_event.specs.declared.event.Answer.{Answer}
use Rattle.es_event.specs.declared.event.Event.{Event}
use Rattle.es_event.specs.declared.event.Event.TheVariants.{Did, Emptied, Taken}
use Rattle.es_event.specs.declared.command.Command.{Command}
use Rattle.es_event.specs.declared.command.Command.TheVariants.{Register, Unregister}
use Rattle.es_event.specs.Commands.{first, second, third, fourth}
use Rattle.es_event.specs.History.{History, earliest, at_key}
use Rattle.es_event.specs.Identities.{identity, is_in, is_gone, empties, gone}
use Rattle.es_event.specs.Jobs.{Receivers}
use Rattle.es_event.specs.Registrations.{Cell, registers, registered, numbered_cell, cell, Fate, live, awaiting, unregistered, taken, same_fate, has_token, is_under, unregisters_by, removes, present_fate, fate, is_present}
use Rattle.es_event.specs.Sharing.{Buffers}
use Rattle.es_event.specs.Legal.{Lawful, LegalBy}
use Rattle.es_event.proofs.Entries.{mapped, inner}
use Rattle.es_event.proofs.Lists.{in_both}
use Rattle.es_event.proofs.LookBacks.{at_either}

-- What a command registers

-- the registry is the first value read, the target has the identity of the second, the third is held, and the token has
-- the identity of the fourth
pub record Made (vs : List Value) (c : Cell) : Type 0 where
  pub registry : first vs ≡ Object c.registry
  pub target : identity (second vs) ≡ Some c.target
  pub held : third vs ≡ c.held
  pub token : identity (fourth vs) ≡ c.token

pub made_by : (c : Command) (vs : List Value) (r : Answer) (q : Cell) → registers (Did (c, vs, r)) ≡ Some q → Made vs q
made_by (Register x y v t) (Object r ∷ w ∷ held ∷ rest) a q e =
    let at = mapped (λ i. record { registry = r; target = i; held = held; token = identity (first rest) }) (identity w) q e in
    record { registry = ap (λ c. Object c.registry) at.2; target = at.1 ∙ ap (λ c. Some c.target) at.2; held = ap (λ c. c.held) at.2; token = ap (λ c. c.token) at.2 }
made_by _ vs a q e = cc

-- Cells

pub numbered : (h : History) (e : Event) (q : ℕ × Option Cell) → numbered_cell h e ≡ Some q → (c : Cell) × (registers e ≡ Some c) × (q.0 ≡ registered h + 1) × (q.1 ≡ Some c)
numbered h e q s = let at = mapped (λ c. (registered h + 1, Some c)) (registers e) q s in (at.0, at.1, sym (ap (λ q. q.0) at.2), sym (ap (λ q. q.1) at.2))

-- the event registers it, or it stood before
pub cell_either : (X : Type 0) (e : Event) (h : History) (n : ℕ) (c : Cell) → (registers e ≡ Some c → n ≡ registered h + 1 → X) → (cell h n ≡ Some c → X) → cell (e ∷ h) n ≡ Some c → X
cell_either X e h n c new old is =
    at_either (λ a. a ≡ Some c → X) (λ i j. i == j) n (numbered_cell h e) (cell h n)
    (λ q s t f. let at = numbered h e q s in new (at.1 ∙ (sym at.3 ∙ f)) (sym (eqb-true q.0 n t) ∙ at.2)) old is

-- a number that was given keeps its cell
pub cell_before : (e : Event) (h : History) (n : ℕ) → n ≤ registered h → cell (e ∷ h) n ≡ cell h n
cell_before e h n within =
    at_either (λ a. a ≡ cell h n) (λ i j. i == j) n (numbered_cell h e) (cell h n)
    (λ q s t. let same : q.0 ≡ n = eqb-true q.0 n t in let next : q.0 ≡ registered h + 1 = (numbered h e q s).2 in absurd (omega (arith, within, same, next))) refl

-- the next number gets the new cell
pub cell_new : (e : Event) (h : History) (c : Cell) → registers e ≡ Some c → cell (e ∷ h) (registered h + 1) ≡ Some c
cell_new e h c is =
    let n : ℕ = registered h + 1 in
    ap (λ r. unwrap_or (at_key (λ i j. i == j) n (option_map (λ c. (n, Some c)) r)) (cell h n)) is
    ∙ ap (λ b. unwrap_or (cond b (Some (Some c)) None) (cell h n)) (eq-eqb n n refl)

pub registered_more : (e : Event) (h : History) → registered h ≤ registered (e ∷ h)
registered_more e h = omega arith

pub registered_next : (e : Event) (h : History) (c : Cell) → registers e ≡ Some c → registered (e ∷ h) ≡ registered h + 1
registered_next e h c is = let one : ◌≡◌ {A = ℕ} (option_map_or (λ c. 1) (registers e) 0) 1 = ap (λ r. option_map_or (λ c. 1) r 0) is in omega (arith, one)

pub registered_same : (e : Event) (h : History) → registers e ≡ None → registered (e ∷ h) ≡ registered h
registered_same e h is = let none : ◌≡◌ {A = ℕ} (option_map_or (λ c. 1) (registers e) 0) 0 = ap (λ r. option_map_or (λ c. 1) r 0) is in omega (arith, none)

-- cells are numbered from 1 on
pub cell_within : (h : History) (n : ℕ) (c : Cell) → cell h n ≡ Some c → (0 < n) × (n ≤ registered h)
cell_within [] n c is = cc
cell_within (e ∷ h) n c is =
    cell_either ((0 < n) × (n ≤ registered (e ∷ h))) e h n c
    (λ new next. (omega (arith, next), omega (arith, next, registered_next e h c new)))
    (λ old. let w = cell_within h n c old in (w.0, omega (arith, w.1, registered_more e h))) is

has_new : (e : Event) (h : History) (n : ℕ) (r : Option Cell) → registers e ≡ r → registered h < n → n ≤ registered (e ∷ h) → (c : Cell) × (cell (e ∷ h) n ≡ Some c)
has_new e h n None is low high = absurd (omega (arith, low, high, registered_same e h is))
has_new e h n (Some c) is low high =
    let next : registered h + 1 ≡ n = omega (arith, low, high, registered_next e h c is) in
    (c, subst (λ k. cell (e ∷ h) k ≡ Some c) next (cell_new e h c is))

pub has_cell : (h : History) (n : ℕ) → 0 < n → n ≤ registered h → (c : Cell) × (cell h n ≡ Some c)
has_cell [] n low high = absurd (omega (arith, low, high))
has_cell (e ∷ h) n low high =
    elim (cases_Bool (nat_lt (registered h) n)) [
      | inl t ↦ has_new e h n (registers e) refl (ltb-true (registered h) n t) high
      | inr f ↦ let within : n ≤ registered h = grind (arith, nat_tests, f) in let c = has_cell h n low within in (c.0, cell_before e h n within ∙ c.1)
    ]

-- Removals

pub or_none : {A : Type 0} (a : Option A) → option_or a None ≡ a
or_none None = refl
or_none (Some x) = refl

or_neither : {A : Type 0} (a b : Option A) → option_or a b ≡ None → (a ≡ None) × (b ≡ None)
or_neither None b e = (refl, e)
or_neither (Some x) b e = cc

removed_cond : (b : Bool) (g f : Fate) → cond b (Some g) None ≡ Some f → g ≡ f
removed_cond true g f e = inner e
removed_cond false g f e = cc

-- what an event took out is no longer in its registry
removed_absent : (e : Event) (h : History) (n : ℕ) (f : Fate) → removes n h e ≡ Some f → is_present f ≡ false
removed_absent (Did (c, vs, r)) h n f is = ap is_present (sym (removed_cond (unregisters_by c vs h n) unregistered f is))
removed_absent (Taken m held) h n f is = ap is_present (sym (removed_cond (m == n) taken f is))
removed_absent _ h n f is = cc

either_absent : (a b : Option Fate) (f : Fate) → ((g : Fate) → a ≡ Some g → is_present g ≡ false) → ((g : Fate) → b ≡ Some g → is_present g ≡ false) → option_or a b ≡ Some f → is_present f ≡ false
either_absent None b f old new is = new f is
either_absent (Some g) b f old new is = old f is

earliest_absent : (h : History) (n : ℕ) (f : Fate) → earliest (removes n) h ≡ Some f → is_present f ≡ false
earliest_absent [] n f is = cc
earliest_absent (e ∷ h) n f is = either_absent (earliest (removes n) h) (removes n h e) f (earliest_absent h n) (removed_absent e h n) is

-- What is present

present_cond : (b : Bool) → is_present (cond b awaiting live) ≡ true
present_cond true = refl
present_cond false = refl

none_removed : (o : Option Fate) (f : Fate) → ((g : Fate) → o ≡ Some g → is_present g ≡ false) → is_present (unwrap_or o f) ≡ true → o ≡ None
none_removed None f out is = refl
none_removed (Some g) f out is = absurd (false≢true (sym (out g refl) ∙ is))

-- no event took it out
pub unremoved : (h : History) (n : ℕ) → is_present (fate h n) ≡ true → earliest (removes n) h ≡ None
unremoved h n is = none_removed (earliest (removes n) h) (present_fate h n) (earliest_absent h n) is

-- what is present now was so before
pub still_present : (e : Event) (h : History) (n : ℕ) → is_present (fate (e ∷ h) n) ≡ true → is_present (fate h n) ≡ true
still_present e h n is =
    let none = (or_neither (earliest (removes n) h) (removes n h e) (unremoved (e ∷ h) n is)).0 in
    ap (λ o. is_present (unwrap_or o (present_fate h n))) none ∙ present_cond (option_map_or (λ c. is_gone h c.target) (cell h n) false)

pub awaiting_present : (h : History) (n : ℕ) → fate h n ≡ awaiting → is_present (fate h n) ≡ true
awaiting_present h n is = ap is_present is

-- The target of a live one is there, and that of one that awaits its cleanup is gone

target_at : (o : Option Fate) (b : Bool) (f : Fate) → ((g : Fate) → o ≡ Some g → is_present g ≡ false) → is_present f ≡ true → unwrap_or o (cond b awaiting live) ≡ f → cond b awaiting live ≡ f
target_at None b f out is e = e
target_at (Some g) b f out is e = absurd (false≢true (sym (out g refl) ∙ (ap is_present e ∙ is)))

live_cond : (b : Bool) → cond b awaiting live ≡ live → b ≡ false
live_cond true e = cc
live_cond false e = refl

awaiting_cond : (b : Bool) → cond b awaiting live ≡ awaiting → b ≡ true
awaiting_cond true e = refl
awaiting_cond false e = cc

target_gone : (h : History) (n : ℕ) (c : Cell) → cell h n ≡ Some c → option_map_or (λ c. is_gone h c.target) (cell h n) false ≡ is_gone h c.target
target_gone h n c at = ap (λ k. option_map_or (λ c. is_gone h c.target) k false) at

pub live_target : (h : History) (n : ℕ) (c : Cell) → cell h n ≡ Some c → fate h n ≡ live → is_gone h c.target ≡ false
live_target h n c at is =
    let b : Bool = option_map_or (λ c. is_gone h c.target) (cell h n) false in
    sym (target_gone h n c at) ∙ live_cond b (target_at (earliest (removes n) h) b live (earliest_absent h n) refl is)

pub awaiting_target : (h : History) (n : ℕ) (c : Cell) → cell h n ≡ Some c → fate h n ≡ awaiting → is_gone h c.target ≡ true
awaiting_target h n c at is =
    let b : Bool = option_map_or (λ c. is_gone h c.target) (cell h n) false in
    sym (target_gone h n c at) ∙ awaiting_cond b (target_at (earliest (removes n) h) b awaiting (earliest_absent h n) refl is)

-- One more event

-- one that neither empties nor takes it out leaves its fate
pub fate_same : (e : Event) (h : History) (n : ℕ) → cell (e ∷ h) n ≡ cell h n → empties e ≡ [] → removes n h e ≡ None → fate (e ∷ h) n ≡ fate h n
fate_same e h n same nothing none =
    let before : Option Fate = earliest (removes n) h in
    ap (λ o. unwrap_or (option_or before o) (present_fate (e ∷ h) n)) none
    ∙ (ap (λ o. unwrap_or o (present_fate (e ∷ h) n)) (or_none before)
    ∙ (ap (λ ids. unwrap_or before (cond (option_map_or (λ c. is_in (ids ++ gone h) c.target) (cell (e ∷ h) n) false) awaiting live)) nothing
    ∙ ap (λ k. unwrap_or before (cond (option_map_or (λ c. is_gone h c.target) k false) awaiting live)) same))

pub fate_stays : (e : Event) (h : History) (n : ℕ) → n ≤ registered h → empties e ≡ [] → removes n h e ≡ None → fate (e ∷ h) n ≡ fate h n
fate_stays e h n within nothing none = fate_same e h n (cell_before e h n within) nothing none

absent_at : (o r : Option Fate) (p q : Fate) → is_present q ≡ true → is_present (unwrap_or o q) ≡ false → unwrap_or (option_or o r) p ≡ unwrap_or o q
absent_at None r p q is out = absurd (false≢true (sym out ∙ is))
absent_at (Some f) r p q is out = refl

-- what is no longer there keeps its fate
pub fate_absent : (e : Event) (h : History) (n : ℕ) → is_present (fate h n) ≡ false → fate (e ∷ h) n ≡ fate h n
fate_absent e h n out =
    absent_at (earliest (removes n) h) (removes n h e) (present_fate (e ∷ h) n) (present_fate h n) (present_cond (option_map_or (λ c. is_gone h c.target) (cell h n) false)) out

pub fate_removed : (e : Event) (h : History) (n : ℕ) (f : Fate) → is_present (fate h n) ≡ true → removes n h e ≡ Some f → fate (e ∷ h) n ≡ f
fate_removed e h n f is out =
    ap (λ o. unwrap_or (option_or o (removes n h e)) (present_fate (e ∷ h) n)) (unremoved h n is) ∙ ap (λ o. unwrap_or o (present_fate (e ∷ h) n)) out

-- A taking

pub fate_taken : (h : History) (n : ℕ) (held : Value) → is_present (fate h n) ≡ true → fate (Taken n held ∷ h) n ≡ taken
fate_taken h n held is = fate_removed (Taken n held) h n taken is (ap (λ b. cond b (Some taken) None) (eq-eqb n n refl))

pub fate_untaken : (h : History) (m n : ℕ) (held : Value) → (m == n) ≡ false → fate (Taken m held ∷ h) n ≡ fate h n
fate_untaken h m n held other = fate_same (Taken m held) h n refl refl (ap (λ b. cond b (Some taken) None) other)

-- A command

pub fate_unregistered : (c : Command) (vs : List Value) (r : Answer) (h : History) (n : ℕ) → is_present (fate h n) ≡ true → unregisters_by c vs h n ≡ true → fate (Did (c, vs, r) ∷ h) n ≡ unregistered
fate_unregistered c vs r h n is out = fate_removed (Did (c, vs, r)) h n unregistered is (ap (λ b. cond b (Some unregistered) None) out)

pub fate_left : (c : Command) (vs : List Value) (r : Answer) (h : History) (n : ℕ) → n ≤ registered h → unregisters_by c vs h n ≡ false → fate (Did (c, vs, r) ∷ h) n ≡ fate h n
fate_left c vs r h n within left = fate_stays (Did (c, vs, r)) h n within refl (ap (λ b. cond b (Some unregistered) None) left)

did_cond : (p u : Bool) (f g : Fate) → (p ≡ false → g ≡ f) → (p ≡ true → u ≡ true → g ≡ unregistered) → (u ≡ false → g ≡ f) → g ≡ cond (p && u) unregistered f
did_cond false u f g absent out left = absent refl
did_cond true true f g absent out left = out refl refl
did_cond true false f g absent out left = left refl

-- what a command unregisters that is present is unregistered, and all else stays
pub fate_did : (c : Command) (vs : List Value) (r : Answer) (h : History) (n : ℕ) → n ≤ registered h → fate (Did (c, vs, r) ∷ h) n ≡ cond (is_present (fate h n) && unregisters_by c vs h n) unregistered (fate h n)
fate_did c vs r h n within =
    did_cond (is_present (fate h n)) (unregisters_by c vs h n) (fate h n) (fate (Did (c, vs, r) ∷ h) n)
    (fate_absent (Did (c, vs, r)) h n) (fate_unregistered c vs r h n) (fate_left c vs r h n within)

-- an unregister under the registry o and the token t takes out what is under both
pub fate_under : (to q x : List ℕ) (o t : ℕ) (w : Value) (r : Answer) (h : History) (n : ℕ) → n ≤ registered h → identity w ≡ Some t
    → fate (Did (Unregister to q x, Object o ∷ w ∷ [], r) ∷ h) n ≡ cond (is_present (fate h n) && is_under h o t n) unregistered (fate h n)
fate_under to q x o t w r h n within token =
    fate_did (Unregister to q x) (Object o ∷ w ∷ []) r h n within
    ∙ ap (λ i. cond (is_present (fate h n) && option_map_or (λ i. is_under h o i n) i false) unregistered (fate h n)) token

-- An emptying

emptied_at : (o : Option Fate) (a b : Bool) → ((g : Fate) → o ≡ Some g → is_present g ≡ false)
    → unwrap_or (option_or o None) (cond (a || b) awaiting live) ≡ cond (same_fate (unwrap_or o (cond b awaiting live)) live && a) awaiting (unwrap_or o (cond b awaiting live))
emptied_at None true true out = refl
emptied_at None true false out = refl
emptied_at None false true out = refl
emptied_at None false false out = refl
emptied_at (Some live) a b out = absurd (false≢true (sym (out live refl)))
emptied_at (Some awaiting) a b out = absurd (false≢true (sym (out awaiting refl)))
emptied_at (Some unregistered) a b out = refl
emptied_at (Some taken) a b out = refl

-- a live one whose target is emptied awaits its cleanup, and all else stays
pub fate_emptied : (ids : List ℕ) (h : History) (n : ℕ) (c : Cell) → cell h n ≡ Some c → fate (Emptied ids ∷ h) n ≡ cond (same_fate (fate h n) live && is_in ids c.target) awaiting (fate h n)
fate_emptied ids h n c at =
    let before : Option Fate = earliest (removes n) h in
    ap (λ k. unwrap_or (option_or before None) (cond (option_map_or (λ c. is_in (ids ++ gone h) c.target) k false) awaiting live)) at
    ∙ (ap (λ b. unwrap_or (option_or before None) (cond b awaiting live)) (in_both ids (gone h) c.target)
    ∙ (emptied_at before (is_in ids c.target) (is_gone h c.target) (earliest_absent h n)
    ∙ ap (λ k. let f : Fate = unwrap_or before (cond (option_map_or (λ c. is_gone h c.target) k false) awaiting live) in cond (same_fate f live && is_in ids c.target) awaiting f) (sym at)))

-- one that is present awaits its cleanup once its target is emptied
pub fate_awaits : (ids : List ℕ) (h : History) (n : ℕ) (c : Cell) → cell h n ≡ Some c → is_present (fate h n) ≡ true → is_in ids c.target ≡ true → fate (Emptied ids ∷ h) n ≡ awaiting
fate_awaits ids h n c at is within =
    ap (λ o. unwrap_or (option_or o None) (present_fate (Emptied ids ∷ h) n)) (unremoved h n is)
    ∙ (ap (λ k. cond (option_map_or (λ c. is_in (ids ++ gone h) c.target) k false) awaiting live) at
    ∙ ap (λ b. cond b awaiting live) (in_both ids (gone h) c.target ∙ or_left (is_in ids c.target) (is_gone h c.target) within))

-- A registration

some_cell : (h : History) (n : ℕ) (k : Option Cell) → cell h n ≡ k → registered h < n → k ≡ None
some_cell h n None at late = refl
some_cell h n (Some c) at late = absurd (omega (arith, late, (cell_within h n c at).1))

pub no_cell : (h : History) (n : ℕ) → registered h < n → cell h n ≡ None
no_cell h n late = some_cell h n (cell h n) refl late

under_none : (h : History) (r n : ℕ) (i : Option ℕ) → cell h n ≡ None → option_map_or (λ i. is_under h r i n) i false ≡ false
under_none h r n None at = refl
under_none h r n (Some i) at = ap (λ k. option_map_or (has_token r i) k false) at

unregisters_none : (c : Command) (vs : List Value) (h : History) (n : ℕ) → cell h n ≡ None → unregisters_by c vs h n ≡ false
unregisters_none (Unregister to q t) (Object r ∷ w ∷ []) h n at = under_none h r n (identity w) at
unregisters_none _ vs h n at = refl

-- nothing takes out what is not yet registered
pub not_removed : (over : Buffers) (into : Receivers) (h : History) (e : Event) (n : ℕ) → Lawful over into h e → registered h < n → removes n h e ≡ None
not_removed over into h (Did (c, vs, r)) n l late = ap (λ b. cond b (Some unregistered) None) (unregisters_none c vs h n (no_cell h n late))
not_removed over into h (Taken m held) n l late =
    let at = mapped (λ c. c.held) (cell h m) held l.0 in
    elim (cases_Bool (m == n)) [
      | inl t ↦ absurd (omega (arith, late, (cell_within h m at.0 at.1).1, eqb-true m n t))
      | inr f ↦ ap (λ b. cond b (Some taken) None) f
    ]
not_removed over into h _ n l late = refl

pub unremoved_yet : (over : Buffers) (into : Receivers) (h : History) → LegalBy over into h → (n : ℕ) → registered h < n → earliest (removes n) h ≡ None
unremoved_yet over into [] l n late = refl
unremoved_yet over into (e ∷ h) l n late =
    let early : registered h < n = omega (arith, late, registered_more e h) in
    ap (λ o. option_or o (removes n h e)) (unremoved_yet over into h l.1 n early) ∙ not_removed over into h e n l.0 early

-- a new registration is live, where its target is there
pub fate_new : (over : Buffers) (into : Receivers) (h : History) (c : Command) (vs : List Value) (r : Answer) (k : Cell) → LegalBy over into (Did (c, vs, r) ∷ h) → registers (Did (c, vs, r)) ≡ Some k → is_gone h k.target ≡ false
    → fate (Did (c, vs, r) ∷ h) (registered h + 1) ≡ live
fate_new over into h c vs r k l new here =
    let e : Event = Did (c, vs, r) in
    let n : ℕ = registered h + 1 in
    let late : registered h < n = omega arith in
    ap (λ o. unwrap_or (option_or o (removes n h e)) (present_fate (e ∷ h) n)) (unremoved_yet over into h l.1 n late)
    ∙ (ap (λ o. unwrap_or o (present_fate (e ∷ h) n)) (not_removed over into h e n l.0 late)
    ∙ (ap (λ k. cond (option_map_or (λ c. is_gone h c.target) k false) awaiting live) (cell_new e h k new)
    ∙ ap (λ b. cond b awaiting live) here))
