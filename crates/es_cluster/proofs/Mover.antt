-- Which agents wait in vain, and which one moves next.
use Rattle.std.proofs.Common.{◌≡◌, ℕ, zero, suc, ◌+◌, ◌<◌, ◌==◌, ◌&&◌, ◌||◌, Bool, true, false, cond, not, sym, ◌∙◌, ap, refl, subst, arith, List, [], ◌∷◌, Option, Some, None, eq-eqb, inl, inr}
use Rattle.std.specs.Prelude.{is_some, slice_get}
use Rattle.std.specs.List.{position_from}
use Rattle.std.specs.Option.{option_map_or}
use Rattle.std.proofs.lemmas.Bool.{and_parts, cases_Bool, eqb-true, eqb-false}
use Rattle.es_event.specs.declared.ledger_event.LedgerEvent.TheVariants.{Acted}
use Rattle.es_event.specs.declared.ledger_event.Act.TheVariants.{Waiting as WaitingEvent, Passed}
use Rattle.es_event.specs.Ledger.{Ledger, ended, waits}
use Rattle.es_event.specs.Waiters.{asleep, is_listed}
use Rattle.es_event.specs.LegalLedger.{has_message, is_stuck, all_stuck, is_chosen, skips}
use Rattle.es_event.specs.Order.{Phase, between, handed, inside, stopped, ended as at_end, phase, due_at}
use Rattle.es_agent.specs.Tickets.{is_ended}
use Rattle.es_ledger.specs.Turns.{asked, judged, told}
use Rattle.es_ledger.specs.declared.turn.Turn.{Turn}
use Rattle.es_ledger.specs.declared.turn.Turn.TheVariants.{Ready, Stay, Skip}
use Rattle.es_cluster.proofs.Hearing.{where_stay}
use Rattle.es_record.specs.AgentView.{AgentView}
use Rattle.es_rules.specs.Needs.{Request, asks_ledger, asks_message, asks_nothing, need_of, need}
use Rattle.es_cluster.specs.Moves.{goes_on_by, goes_on, is_over}

-- The first that passes

first_from : {X : Type 0} (test : X → Bool) (xs : List X) (k n : ℕ) (x : X) → ((i : ℕ) (y : X) → i < n → slice_get xs i ≡ Some y → test y ≡ false) → slice_get xs n ≡ Some x → test x ≡ true → position_from test k xs ≡ Some (k + n)
first_from test [] k n x lower is passes = cc
first_from test (y ∷ ys) k zero x lower is passes =
    let same : y ≡ x = cc in
    let here : k ≡ k + 0 = omega arith in
    ap (λ b. cond b (Some k) (position_from test (k + 1) ys)) (ap test same ∙ passes) ∙ ap (λ i. Some i) here
first_from test (y ∷ ys) k (suc n) x lower is passes =
    let there : k + 1 + n ≡ k + suc n = omega arith in
    ap (λ b. cond b (Some k) (position_from test (k + 1) ys)) (lower 0 y (omega arith) refl)
    ∙ first_from test ys (k + 1) n x (λ i z less at. lower (suc i) z (omega (arith, less)) at) is passes
    ∙ ap (λ i. Some i) there

none_from : {X : Type 0} (test : X → Bool) (xs : List X) (k : ℕ) → ((i : ℕ) (y : X) → slice_get xs i ≡ Some y → test y ≡ false) → position_from test k xs ≡ None
none_from test [] k all = refl
none_from test (y ∷ ys) k all = ap (λ b. cond b (Some k) (position_from test (k + 1) ys)) (all 0 y refl) ∙ none_from test ys (k + 1) (λ i z at. all (suc i) z at)

pub first_at : {X : Type 0} (test : X → Bool) (xs : List X) (n : ℕ) (x : X) → ((i : ℕ) (y : X) → i < n → slice_get xs i ≡ Some y → test y ≡ false) → slice_get xs n ≡ Some x → test x ≡ true → position_from test 0 xs ≡ Some n
first_at test xs n x lower is passes = first_from test xs 0 n x lower is passes ∙ ap (λ i. Some i) (let same : 0 + n ≡ n = omega arith in same)

pub none_at_all : {X : Type 0} (test : X → Bool) (xs : List X) → ((i : ℕ) (y : X) → slice_get xs i ≡ Some y → test y ≡ false) → position_from test 0 xs ≡ None
none_at_all test xs all = none_from test xs 0 all

-- An agent that waits in vain

-- agent a has ended, or waits at an empty port whose sender has not
abbrev pub is_settled : Ledger → ℕ → Bool
is_settled l a = ended l a || is_stuck l a

pub settled_at : (l : Ledger) (n i : ℕ) → all_stuck l n ≡ true → i < n → is_settled l i ≡ true
settled_at l zero i all less = absurd (omega (arith, less))
settled_at l (suc n) i all less = elim (cases_Bool (i == n)) [
  | inl e ↦ ap (is_settled l) (eqb-true i n e) ∙ (and_parts (is_settled l n) (all_stuck l n) all).0
  | inr e ↦ let other = eqb-false i n e in settled_at l n i (and_parts (is_settled l n) (all_stuck l n) all).1 (below i n less other)
]
  where
    below : (i n : ℕ) → i < suc n → (i ≡ n → ⊥) → i < n
    below i n less other = omega (arith, less, other)

over_at : (b : AgentView) (at : Phase) → is_ended at ≡ true → need_of b (due_at b.plan b.history at) ≡ asks_nothing
over_at b between is = cc
over_at b handed is = cc
over_at b inside is = cc
over_at b stopped is = cc
over_at b at_end is = refl

-- an agent that has ended asks for nothing
pub over_asks_nothing : (b : AgentView) → is_over b ≡ true → need b ≡ asks_nothing
over_asks_nothing b is = over_at b (phase b.history) is

abbrev pub vain : Ledger → ℕ → Bool
vain l a = option_map_or (λ s. not (has_message l s a) && not (ended l s)) (waits l a) false

-- it does not go on
pub settled_stays : (l : Ledger) (b : AgentView) → ended l b.number ≡ is_over b → (is_listed l b.number ≡ true → (r : Request) × (need b ≡ asks_ledger r)) → ((s : ℕ) → waits l b.number ≡ Some s → need b ≡ asks_message s) → is_settled l b.number ≡ true → goes_on l b ≡ false
settled_stays l b over lists awaits is = by_end (ended l b.number) refl is
  where
    by_wait : (w : Option ℕ) → waits l b.number ≡ w → option_map_or (λ s. not (has_message l s b.number) && not (ended l s)) w false ≡ true → goes_on l b ≡ false
    by_wait None w stuck = cc
    by_wait (Some s) w stuck =
        let parts = and_parts (not (has_message l s b.number)) (not (ended l s)) stuck in
        ap (goes_on_by l b.number) (awaits s w) ∙ neither (has_message l s b.number) (ended l s) parts.0 parts.1
      where
        neither : (p q : Bool) → not p ≡ true → not q ≡ true → (p || q) ≡ false
        neither true q e f = cc
        neither false true e f = cc
        neither false false e f = refl

    by_end : (e : Bool) → ended l b.number ≡ e → (e || is_stuck l b.number) ≡ true → goes_on l b ≡ false
    by_end true e stuck = ap (goes_on_by l b.number) (over_asks_nothing b (sym over ∙ e))
    by_end false e stuck = by_list (is_listed l b.number) refl stuck
      where
        by_list : (t : Bool) → is_listed l b.number ≡ t → (t || vain l b.number) ≡ true → goes_on l b ≡ false
        by_list true t stuck = ap (goes_on_by l b.number) (lists t).1 ∙ ap not t
        by_list false t stuck = by_wait (waits l b.number) refl stuck

-- An agent that asks for a message

pub by_asked : (P : Ledger → Type 0) (l : Ledger) (a s : ℕ) → P l → P (Acted a (WaitingEvent s) ∷ l) → P (asked l a s)
by_asked P l a s was more = at (is_some (waits l a) || asleep l a)
  where
    at : (b : Bool) → P (cond b l (Acted a (WaitingEvent s) ∷ l))
    at true = was
    at false = more

pub asked_message : (l : Ledger) (a s t r : ℕ) → has_message (asked l a s) t r ≡ has_message l t r
asked_message l a s t r = by_asked (λ k. has_message k t r ≡ has_message l t r) l a s refl refl

pub asked_ends : (l : Ledger) (a s t : ℕ) → ended (asked l a s) t ≡ ended l t
asked_ends l a s t = by_asked (λ k. ended k t ≡ ended l t) l a s refl refl

pub asked_waits : (l : Ledger) (a s t : ℕ) → (t ≡ a → ⊥) → waits (asked l a s) t ≡ waits l t
asked_waits l a s t other = by_asked (λ k. waits k t ≡ waits l t) l a s refl (elim (cases_Bool (a == t)) [
  | inl e ↦ absurd (other (sym (eqb-true a t e)))
  | inr e ↦ ap (λ b. cond b (Some s) (waits l t)) e
])

-- its wait is recorded
pub asked_awaits : (b : AgentView) (l : Ledger) (s : ℕ) → asleep l b.number ≡ false → ((t : ℕ) → waits l b.number ≡ Some t → need b ≡ asks_message t) → need b ≡ asks_message s → waits (asked l b.number s) b.number ≡ Some s
asked_awaits b l s awake awaits is = subst (λ z. waits (cond (is_some (waits l b.number) || z) l (Acted b.number (WaitingEvent s) ∷ l)) b.number ≡ Some s) (sym awake) (at (waits l b.number) refl)
  where
    at : (w : Option ℕ) → waits l b.number ≡ w → waits (cond (is_some w || false) l (Acted b.number (WaitingEvent s) ∷ l)) b.number ≡ Some s
    at None w = ap (λ t. cond t (Some s) (waits l b.number)) (eq-eqb b.number b.number refl)
    at (Some t) w =
        let asks : asks_message s ≡ asks_message t = sym is ∙ awaits t w in
        let same : t ≡ s = cc in
        w ∙ ap (λ t. Some t) same

pub asked_lists : (l : Ledger) (a s t : ℕ) → is_listed (asked l a s) t ≡ is_listed l t
asked_lists l a s t = by_asked (λ k. is_listed k t ≡ is_listed l t) l a s refl refl

asked_vain : (l : Ledger) (a s t : ℕ) → (t ≡ a → ⊥) → vain (asked l a s) t ≡ vain l t
asked_vain l a s t other = at (waits (asked l a s) t) (waits l t) (asked_waits l a s t other)
  where
    at : (v w : Option ℕ) → v ≡ w
        → option_map_or (λ u. not (has_message (asked l a s) u t) && not (ended (asked l a s) u)) v false ≡ option_map_or (λ u. not (has_message l u t) && not (ended l u)) w false
    at None None same = refl
    at None (Some w) same = cc
    at (Some v) None same = cc
    at (Some v) (Some w) same =
        let u : v ≡ w = cc in
        subst (λ w. (not (has_message (asked l a s) v t) && not (ended (asked l a s) v)) ≡ (not (has_message l w t) && not (ended l w))) u
        (rw (asked_message l a s v t, asked_ends l a s v) refl)

pub asked_settled : (l : Ledger) (a s t : ℕ) → (t ≡ a → ⊥) → is_settled (asked l a s) t ≡ is_settled l t
asked_settled l a s t other =
    ap (λ e. e || is_stuck (asked l a s) t) (asked_ends l a s t)
    ∙ ap (λ b. ended l t || (b || vain (asked l a s) t)) (asked_lists l a s t)
    ∙ ap (λ v. ended l t || (is_listed l t || v)) (asked_vain l a s t other)

or_right : (b c : Bool) → c ≡ true → (b || c) ≡ true
or_right true c is = refl
or_right false c is = is

-- one that is told to stay waits in vain from then on, and is not the lowest of agents that all do
pub record StaysHere (l k : Ledger) (n : ℕ) (b : AgentView) (s : ℕ) : Type 0 where
  pub history : k ≡ asked l b.number s
  pub stuck : is_stuck k b.number ≡ true
  pub unchosen : is_chosen k n b.number ≡ false

pub stays_here : (b : AgentView) (l k : Ledger) (n s : ℕ) → asleep l b.number ≡ false → ((t : ℕ) → waits l b.number ≡ Some t → need b ≡ asks_message t) → need b ≡ asks_message s → ◌≡◌ {A = Turn × Ledger} (Stay, k) (told l n b.number s) → StaysHere l k n b s
stays_here b l k n s awake awaits is heard = subst (λ k. StaysHere l k n b s) (sym recorded) (at_port (has_message l s b.number) refl heard)
  where
    recorded : k ≡ asked l b.number s
    recorded = where_stay l k n b.number s heard

    waiting : waits (asked l b.number s) b.number ≡ Some s
    waiting = asked_awaits b l s awake awaits is

    here : has_message l s b.number ≡ false → (e c : Bool) → ended (asked l b.number s) s ≡ e → is_chosen (asked l b.number s) n b.number ≡ c → (e || c) ≡ false → StaysHere l (asked l b.number s) n b s
    here none true c e chosen neither = cc
    here none false true e chosen neither = cc
    here none false false e chosen neither = record {
      history = refl;
      stuck = or_right (is_listed (asked l b.number s) b.number) (vain (asked l b.number s) b.number) (rw (waiting, asked_message l b.number s s b.number, none, e) refl);
      unchosen = chosen;
    }

    at_skip : has_message l s b.number ≡ false → (u : Bool) → skips (asked l b.number s) n b.number s ≡ u → ◌≡◌ {A = Turn × Ledger} (Stay, k) (cond u (Skip, Acted b.number (Passed s) ∷ asked l b.number s) (Stay, asked l b.number s)) → StaysHere l (asked l b.number s) n b s
    at_skip none true u heard = let clash : Stay ≡ Skip = ap (λ p. p.0) heard in cc
    at_skip none false u heard =
        here none (ended (asked l b.number s) s) (is_chosen (asked l b.number s) n b.number) refl refl
        (sym (ap (λ m. not m && (ended (asked l b.number s) s || is_chosen (asked l b.number s) n b.number)) (asked_message l b.number s s b.number ∙ none)) ∙ u)

    at_port : (m : Bool) → has_message l s b.number ≡ m → ◌≡◌ {A = Turn × Ledger} (Stay, k) (cond m (Ready, l) (judged (asked l b.number s) n b.number s)) → StaysHere l (asked l b.number s) n b s
    at_port true m heard = let clash : Stay ≡ Ready = ap (λ p. p.0) heard in cc
    at_port false m heard =
        at_skip m (skips (asked l b.number s) n b.number s) refl
        (heard ∙ ap (λ w. cond (w && skips (asked l b.number s) n b.number s) (Skip, Acted b.number (Passed s) ∷ asked l b.number s) (Stay, asked l b.number s))
        (ap (λ w. option_map_or (λ t. t == s) w false) waiting ∙ eq-eqb s s refl))

-- one that is not told to stay goes on, or is the lowest of agents that all wait in vain once it is asked
pub goes_or_chosen : (b : AgentView) (l : Ledger) (n s : ℕ) → asleep l b.number ≡ false → ((t : ℕ) → waits l b.number ≡ Some t → need b ≡ asks_message t) → need b ≡ asks_message s → ((told l n b.number s).0 ≡ Stay → ⊥) → goes_on l b ≡ false
    → is_chosen (asked l b.number s) n b.number ≡ true
goes_or_chosen b l n s awake awaits is heard stays = at_port (has_message l s b.number) (ended l s) refl refl (sym (ap (goes_on_by l b.number) is) ∙ stays) heard
  where
    waiting : waits (asked l b.number s) b.number ≡ Some s
    waiting = asked_awaits b l s awake awaits is

    at_port : (m e : Bool) → has_message l s b.number ≡ m → ended l s ≡ e → (m || e) ≡ false → ((cond m (Ready, l) (judged (asked l b.number s) n b.number s)).0 ≡ Stay → ⊥) → is_chosen (asked l b.number s) n b.number ≡ true
    at_port true e m at none not_stay = cc
    at_port false true m at none not_stay = cc
    at_port false false m at none not_stay = by_choice (is_chosen (asked l b.number s) n b.number) refl
      where
        stay_there : is_chosen (asked l b.number s) n b.number ≡ false → (judged (asked l b.number s) n b.number s).0 ≡ Stay
        stay_there c = rw (waiting, eq-eqb s s refl, asked_message l b.number s s b.number, m, asked_ends l b.number s s, at, c) refl

        by_choice : (c : Bool) → is_chosen (asked l b.number s) n b.number ≡ c → is_chosen (asked l b.number s) n b.number ≡ true
        by_choice true c = c
        by_choice false c = absurd (not_stay (stay_there c))
