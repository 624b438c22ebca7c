-- How many blocks agents opened, and how many messages they posted and took, their histories say; and of all of them together the ledger.
use Rattle.std.proofs.Common.{◌≡◌, ℕ, ◌+◌, ◌<◌, ◌==◌, ◌&&◌, Bool, true, false, cond, not, sym, ◌∙◌, ap, refl, subst, arith, List, [], ◌∷◌, ◌++◌, Option, Some, None, eq-eqb}
use Rattle.std.specs.Option.{option_map, option_map_or}
use Rattle.std.specs.Prelude.{ℤ}
use Rattle.std.proofs.lemmas.Bool.{and_parts}
use Rattle.es_value.specs.declared.value.Value.{Value}
use Rattle.es_event.specs.declared.command.Command.{Command}
use Rattle.es_event.specs.declared.command.Command.TheVariants.{SharedArrayBuffer, Atomic}
use Rattle.es_event.specs.declared.event.Answer.{Answer}
use Rattle.es_event.specs.declared.event.Event.{Event}
use Rattle.es_event.specs.declared.event.Event.TheVariants.{Did, Refused}
use Rattle.es_event.specs.declared.ledger_event.Body.{Body}
use Rattle.es_event.specs.declared.ledger_event.Body.TheVariants.{Plain, Block}
use Rattle.es_event.specs.declared.ledger_event.LedgerEvent.{LedgerEvent}
use Rattle.es_event.specs.declared.ledger_event.LedgerEvent.TheVariants.{Opened, Posted, Taken, Spent, Accessed, Drained, Acted}
use Rattle.es_event.specs.declared.ledger_event.Act.{Act}
use Rattle.es_event.specs.declared.ledger_event.Act.TheVariants.{Waiting}
use Rattle.es_event.specs.declared.row.Row.{Row}
use Rattle.es_event.specs.declared.access.WaitResult.{WaitResult}
use Rattle.es_event.specs.declared.access.Task.{Task}
use Rattle.es_event.specs.Commands.{opens_words, first}
use Rattle.es_event.specs.History.{History}
use Rattle.es_event.specs.Ledger.{Ledger, front, holder_of, opened, opens}
use Rattle.es_event.specs.LegalLedger.{ComesNext, LegalSoFar, owed}
use Rattle.es_event.specs.Sharing.{blocks_opened, opens_at}
use Rattle.es_event.specs.Totals.{is_posted, is_taken, posted, taken}
use Rattle.es_event.specs.Heard.{wait_given}
use Rattle.es_event.specs.Numbers.{index_of, task_of}
use Rattle.es_event.proofs.Entries.{inner}
use Rattle.es_match.specs.Deeds.{Deed, Owned, Opens, Posts, Takes, Spends, Accesses, Waits, Passes, Ends, deed, is_wait, part, part_of, taking, acting, Notifies, Wakes, TimesOut, sleep_of}
use Rattle.es_match.specs.Asks.{Asking, nothing, to_open, to_measure, to_compare, to_access, to_miss, to_sleep, to_notify, to_post, to_receive, to_refuse, to_pass, to_empty, to_close, asks, asks_did, between_jobs, wants_room, asks_wait, asks_word, given}
use Rattle.es_match.specs.Cluster.{DeedsMeet}
use Rattle.es_match.specs.Meets.{Came, Tickets, after, is_access, is_pass, is_post, is_refusal, no_more, opening, pair, receiving, serials_of, spends_ticket_in, within, is_end_of_sleep, is_miss, is_notify}
use Rattle.es_match.specs.declared.deed.Sleep.{Sleep}
use Rattle.es_match.proofs.Bridge.{mapped}
use Rattle.es_ledger.specs.Laws.{sum_below}
use Rattle.es_ledger.proofs.Sums.{sum_none, sum_one, sum_plus, sum_same, sum_zero}
use Rattle.es_theorems.proofs.Commands.{none_more, one_of, sole_of, some_if_true}
use Rattle.es_theorems.specs.Found.{AreSpends}
use Rattle.es_theorems.proofs.Draining.{counted, its_agents}
use Rattle.es_theorems.specs.Doing.{event_of}
use Rattle.es_theorems.proofs.Doing.{event_is}
use Rattle.es_theorems.proofs.Playing.{spends_so}
use Rattle.es_cluster.specs.Tied.{AreDeedsOf}
use Rattle.es_theorems.specs.Weights.{asked_weight, event_weight, history_weight, ledger_weight, weigh, weight}
use Rattle.es_theorems.proofs.Spending.{test_turned}

-- Deeds that meet what is asked

pub weigh_more : (x y z : ℕ) (ds es : List Deed) → weigh x y z (ds ++ es) ≡ weigh x y z ds + weigh x y z es
weigh_more x y z [] es = omega arith
weigh_more x y z (d ∷ ds) es = let rest = weigh_more x y z ds es in omega (arith, rest)

sole_weight : (x y z : ℕ) (d : Deed) → weigh x y z (d ∷ []) ≡ weight x y z d
sole_weight x y z d = omega arith

spent_weight : (x y z : ℕ) (ds : List Deed) → AreSpends ds → weigh x y z ds ≡ 0
spent_weight x y z [] are = refl
spent_weight x y z (Spends s ∷ ds) are = let rest = spent_weight x y z ds are in omega (arith, rest)
spent_weight x y z (Ends ∷ ds) are = ap (λ ds. weigh x y z (Ends ∷ ds)) are
spent_weight x y z (_ ∷ ds) are = absurd are

refusal_weight : (x y z : ℕ) (ds : List Deed) → option_map_or (λ p. is_refusal p.0 p.1) (pair ds) false ≡ true → weigh x y z ds ≡ z
refusal_weight x y z [] met = cc
refusal_weight x y z (c ∷ []) met = cc
refusal_weight x y z (c ∷ d ∷ e ∷ ds) met = cc
refusal_weight x y z (c ∷ d ∷ []) met = first c met
  where
    second : (u w : ℕ) (m : Option Body) (d : Deed) → spends_ticket_in m d ≡ true → weigh x y z (Takes u m w ∷ d ∷ []) ≡ z
    second u w (Some (Block b k)) (Spends q) met = omega arith
    second u w (Some (Block b k)) _ met = cc
    second u w (Some (Plain v)) d met = cc
    second u w None d met = cc

    first : (c : Deed) → is_refusal c d ≡ true → weigh x y z (c ∷ d ∷ []) ≡ z
    first (Takes u m w) met = second u w m d met
    first _ met = cc

met_weight : (x y z : ℕ) (t left : Tickets) (q : Asking) (ds : List Deed) → after t q ds ≡ Some left → weigh x y z ds ≡ asked_weight x y z q
met_weight x y z t left nothing ds met = ap (weigh x y z) (none_more ds (some_if_true _ t left met))
met_weight x y z t left (to_measure b v) ds met = ap (weigh x y z) (none_more ds (and_parts (no_more ds) _ (some_if_true _ t left met)).0)
met_weight x y z t left (to_compare b c v) ds met = ap (weigh x y z) (none_more ds (and_parts (no_more ds) _ (some_if_true _ t left met)).0)
met_weight x y z t left (to_open n v) ds met = let one = sole_of (opening t n v) ds left met in ap (weigh x y z) one.1 ∙ sole_weight x y z one.0 ∙ at one.0 one.2
  where
    at : (d : Deed) → opening t n v d ≡ Some left → weight x y z d ≡ x
    at (Opens b w s) met = refl
    at _ met = cc
met_weight x y z t left (to_access b i m v) ds met = let one = one_of (is_access t b i m v) ds (some_if_true _ t left met) in ap (weigh x y z) one.1 ∙ sole_weight x y z one.0 ∙ at one.0 one.2
  where
    at : (d : Deed) → is_access t b i m v d ≡ true → weight x y z d ≡ 0
    at (Accesses s j done old) met = refl
    at _ met = cc
met_weight x y z t left (to_miss b i w) ds met = let one = one_of (is_miss t b i w) ds (some_if_true _ t left met) in ap (weigh x y z) one.1 ∙ sole_weight x y z one.0 ∙ at one.0 one.2
  where
    at : (d : Deed) → is_miss t b i w d ≡ true → weight x y z d ≡ 0
    at (Accesses s j done old) met = refl
    at _ met = cc
met_weight x y z t left (to_sleep b i w r) ds met = let one = one_of (is_end_of_sleep t b i w r) ds (some_if_true _ t left met) in ap (weigh x y z) one.1 ∙ sole_weight x y z one.0 ∙ at r one.0 one.2
  where
    at : (r : WaitResult) (d : Deed) → is_end_of_sleep t b i w r d ≡ true → weight x y z d ≡ 0
    at WaitResult.Woken (Wakes o) met = refl
    at WaitResult.TimedOut (TimesOut o) met = refl
    at _ _ met = cc
met_weight x y z t left (to_notify b i n v) ds met = let one = one_of (is_notify t b i n v) ds (some_if_true _ t left met) in ap (weigh x y z) one.1 ∙ sole_weight x y z one.0 ∙ at one.0 one.2
  where
    at : (d : Deed) → is_notify t b i n v d ≡ true → weight x y z d ≡ 0
    at (Notifies s j m k) met = refl
    at _ met = cc
met_weight x y z t left (to_post a v) ds met = let one = one_of (is_post t a v) ds (some_if_true _ t left met) in ap (weigh x y z) one.1 ∙ sole_weight x y z one.0 ∙ at one.0 one.2
  where
    at : (d : Deed) → is_post t a v d ≡ true → weight x y z d ≡ y
    at (Posts r m) met = refl
    at _ met = cc
met_weight x y z t left (to_receive s v) ds met = let one = sole_of (receiving t s v) ds left met in ap (weigh x y z) one.1 ∙ sole_weight x y z one.0 ∙ at one.0 one.2
  where
    at : (d : Deed) → receiving t s v d ≡ Some left → weight x y z d ≡ z
    at (Takes u m w) met = refl
    at _ met = cc
met_weight x y z t left to_refuse ds met = refusal_weight x y z ds (some_if_true _ t left met)
met_weight x y z t left (to_pass s) ds met = let one = one_of (is_pass s) ds (some_if_true _ t left met) in ap (weigh x y z) one.1 ∙ sole_weight x y z one.0 ∙ at one.0 one.2
  where
    at : (d : Deed) → is_pass s d ≡ true → weight x y z d ≡ 0
    at (Passes u) met = refl
    at _ met = cc
met_weight x y z t left (to_empty ids) ds met = spent_weight x y z ds (spends_so false (serials_of (within ids t)) ds (some_if_true _ _ left met)).1
met_weight x y z t left to_close ds met = spent_weight x y z ds (spends_so true (serials_of t) ds (some_if_true _ _ left met)).1

-- an agent's deeds, by its history
pub deeds_weight : (x y z : ℕ) (h : History) (ds : List Deed) (c : Came) → DeedsMeet h ds c → weigh x y z ds ≡ history_weight x y z h
deeds_weight x y z [] ds c m = ap (weigh x y z) m.0
deeds_weight x y z (e ∷ h) ds c m =
    let now = mapped _ (after m.2.tickets (asks (between_jobs h) e) m.1) c m.5 in
    let split = ap (weigh x y z) m.3 ∙ weigh_more x y z m.0 m.1 in
    let before = deeds_weight x y z h m.0 m.2 m.4 in
    let newest = met_weight x y z m.2.tickets now.0 (asks (between_jobs h) e) m.1 now.1 in
    omega (arith, split, before, newest)

-- which tells how many blocks it opened
opens_word : (b : Value) (i : ℤ) (t : Task) (v : Value) → asked_weight 1 0 0 (asks_word b i t v) ≡ 0
opens_word b i (Task.Access m) v = refl
opens_word b i (Task.Sleep w) v = ended (wait_given v)
  where
    ended : (r : WaitResult) → asked_weight 1 0 0 (asks_wait b i w r) ≡ 0
    ended WaitResult.Woken = refl
    ended _ = refl
opens_word b i (Task.Notify n) v = refl

opens_did : (c : Command) (vs : List Value) (r : Answer) → asked_weight 1 0 0 (asks_did c vs r) ≡ option_map_or {U = ℕ} (λ n. 1) (opens_words c) 0
opens_did (SharedArrayBuffer to n) vs r = refl
opens_did (Atomic a) vs r = opens_word (first vs) (index_of a vs) (task_of a vs) (given r)
opens_did _ vs r = refl

opens_event : (between : Bool) (e : Event) → asked_weight 1 0 0 (asks between e) ≡ opens_at e
opens_event between (Did (c, vs, r)) = opens_did c vs r
opens_event between (Refused code) = at (between && wants_room code)
  where
    at : (t : Bool) → asked_weight 1 0 0 (cond t to_refuse nothing) ≡ 0
    at true = refl
    at false = refl
opens_event between _ = refl

pub opened_weight : (h : History) → history_weight 1 0 0 h ≡ blocks_opened h
opened_weight [] = refl
opened_weight (e ∷ h) = ap (λ k. k + history_weight 1 0 0 h) (opens_event (between_jobs h) e) ∙ ap (λ k. opens_at e + k) (opened_weight h)

-- All agents' deeds, by the ledger

its_part : (x y z k : ℕ) (d : Deed) → is_wait d ≡ false → (a : ℕ) → weigh x y z (part_of a (Some (k, d))) ≡ cond (k == a) (weight x y z d) 0
its_part x y z k d plain a = ap (λ w. weigh x y z (cond ((k == a) && not w) (d ∷ []) [])) plain ∙ at (k == a)
  where
    at : (t : Bool) → weigh x y z (cond (t && true) (d ∷ []) []) ≡ cond t (weight x y z d) 0
    at true = sole_weight x y z d
    at false = refl

-- a deed of one of n agents is counted once
once : (n x y z k : ℕ) (d : Deed) → is_wait d ≡ false → k < n → sum_below n (λ a. weigh x y z (part_of a (Some (k, d)))) ≡ weight x y z d
once n x y z k d plain known =
    sum_same n (λ a. weigh x y z (part_of a (Some (k, d)))) (λ a. cond (a == k) (weight x y z d) 0) (λ a. its_part x y z k d plain a ∙ ap (λ t. cond t (weight x y z d) 0) (test_turned k a))
    ∙ sum_one n k (weight x y z d) known

deed_in : {k n : ℕ} {c d : Deed} → ◌≡◌ {A = Owned} (Some (k, c)) (Some (n, d)) → c ≡ d
deed_in is = ap (λ p. p.1) (inner is)

-- one that weighs nothing is not
light : (n x y z : ℕ) (o : Owned) → ((k : ℕ) (d : Deed) → o ≡ Some (k, d) → weight x y z d ≡ 0) → sum_below n (λ a. weigh x y z (part_of a o)) ≡ 0
light n x y z None none = sum_none n
light n x y z (Some p) none = sum_zero n (λ a. weigh x y z (part_of a (Some p))) (λ a less. at a ((p.0 == a) && not (is_wait p.1)))
  where
    at : (a : ℕ) (t : Bool) → weigh x y z (cond t (p.1 ∷ []) []) ≡ 0
    at a true = sole_weight x y z p.1 ∙ none p.0 p.1 refl
    at a false = refl

by_ticket : (n x y z : ℕ) (o : Option (ℕ × Row)) (d : Deed) → weight x y z d ≡ 0 → sum_below n (λ a. weigh x y z (part_of a (option_map (λ p. (p.0, d)) o))) ≡ 0
by_ticket n x y z None d none = sum_none n
by_ticket n x y z (Some p) d none = light n x y z (Some (p.0, d)) (λ k c is. ap (weight x y z) (sym (deed_in is)) ∙ none)

act_weight : (x y z : ℕ) (o : Option Sleep) (act : Act) → weight x y z (acting o act) ≡ 0
act_weight x y z o (Waiting s) = refl
act_weight x y z o _ = refl

event_once : (n x y z : ℕ) (l : Ledger) (e : LedgerEvent) (o : Option ℕ) → LegalSoFar n l → ComesNext n l e o → sum_below n (λ a. weigh x y z (part_of a (deed l e))) ≡ event_weight x y z e
event_once n x y z l e (Some k) legal comes = subst (λ e. sum_below n (λ a. weigh x y z (part_of a (deed l e))) ≡ event_weight x y z e) (sym comes) (by_ticket n x y z (holder_of l k) (Spends k) refl)
event_once n x y z l (Opened b w s a) None legal comes = once n x y z a (Opens b w s) refl comes.2
event_once n x y z l (Posted a r m) None legal comes = once n x y z a (Posts r m) refl comes.0
event_once n x y z l (Taken s r) None legal comes = once n x y z r (taking l s (front l s r)) refl (its_agents n l s r legal comes).1
event_once n x y z l (Spent k) None legal comes = by_ticket n x y z (holder_of l k) (Spends k) refl
event_once n x y z l (Accessed k i m old) None legal comes = by_ticket n x y z (holder_of l k) (Accesses k i m old) refl
event_once n x y z l (Acted a act) None legal comes = light n x y z (Some (a, acting (sleep_of l a) act)) (λ k d is. ap (weight x y z) (sym (deed_in is)) ∙ act_weight x y z (sleep_of l a) act)
event_once n x y z l (Drained s r) None legal comes = sum_none n

pub agents_weight : (n x y z : ℕ) (l : Ledger) → LegalSoFar n l → sum_below n (λ a. weigh x y z (part l a)) ≡ ledger_weight x y z l
agents_weight n x y z [] legal = sum_none n
agents_weight n x y z (e ∷ l) legal =
    let split = sum_plus n (λ a. weigh x y z (part (e ∷ l) a)) (λ a. weigh x y z (part l a)) (λ a. weigh x y z (part_of a (deed l e))) (λ a. weigh_more x y z (part l a) (part_of a (deed l e))) in
    let before = agents_weight n x y z l legal.1 in
    let newest = event_once n x y z l e (owed l) legal.1 legal.0 in
    omega (arith, split, before, newest)

-- which tells how many blocks were opened, and messages posted and taken

pub ledger_opened : (l : Ledger) → opened l ≡ ledger_weight 1 0 0 l
ledger_opened [] = refl
ledger_opened (e ∷ l) = ap (λ k. k + opened l) (one e) ∙ ap (λ k. event_weight 1 0 0 e + k) (ledger_opened l)
  where
    one : (e : LedgerEvent) → option_map_or {U = ℕ} (λ p. 1) (opens e) 0 ≡ event_weight 1 0 0 e
    one (Opened b w s a) = refl
    one _ = refl

pub ledger_posted : (l : Ledger) → posted l ≡ ledger_weight 0 1 0 l
ledger_posted [] = refl
ledger_posted (e ∷ l) = counted is_posted l e ∙ ap (λ k. k + posted l) (one e) ∙ ap (λ k. event_weight 0 1 0 e + k) (ledger_posted l)
  where
    one : (e : LedgerEvent) → cond {A = ℕ} (is_posted e) 1 0 ≡ event_weight 0 1 0 e
    one (Posted a r m) = refl
    one _ = refl

pub ledger_taken : (l : Ledger) → taken l ≡ ledger_weight 0 0 1 l
ledger_taken [] = refl
ledger_taken (e ∷ l) = counted is_taken l e ∙ ap (λ k. k + taken l) (one e) ∙ ap (λ k. event_weight 0 0 1 e + k) (ledger_taken l)
  where
    one : (e : LedgerEvent) → cond {A = ℕ} (is_taken e) 1 0 ≡ event_weight 0 0 1 e
    one (Taken s r) = refl
    one _ = refl

-- What one agent does

same_weight : (x y z n : ℕ) (d : Deed) → weight x y z d ≡ event_weight x y z (event_of n d)
same_weight x y z n Ends = refl
same_weight x y z n _ = refl

deed_weight : (x y z n : ℕ) (l : Ledger) (e : LedgerEvent) (d : Deed) → deed l e ≡ Some (n, d) → weight x y z d ≡ event_weight x y z e
deed_weight x y z n l e d is = same_weight x y z n d ∙ ap (event_weight x y z) (sym (event_is l e n d is))

own_weight : (x y z n : ℕ) (d : Deed) → weigh x y z (part_of n (Some (n, d))) ≡ weight x y z d
own_weight x y z n d = ap (λ t. weigh x y z (cond (t && not (is_wait d)) (d ∷ []) [])) (eq-eqb n n refl) ∙ at d
  where
    at : (d : Deed) → weigh x y z (cond (not (is_wait d)) (d ∷ []) []) ≡ weight x y z d
    at (Waits s) = refl
    at d = sole_weight x y z d

pub grown_weight : (x y z n : ℕ) (es : List LedgerEvent) (l : Ledger) → AreDeedsOf n es l → ledger_weight x y z (es ++ l) + weigh x y z (part l n) ≡ ledger_weight x y z l + weigh x y z (part (es ++ l) n)
grown_weight x y z n [] l are = refl
grown_weight x y z n (e ∷ es) l are =
    let before = grown_weight x y z n es l are.1 in
    let split = weigh_more x y z (part (es ++ l) n) (part_of n (deed (es ++ l) e)) in
    let own = ap (λ o. weigh x y z (part_of n o)) are.0.1 ∙ own_weight x y z n are.0.0 ∙ deed_weight x y z n (es ++ l) e are.0.0 are.0.1 in
    omega (arith, before, split, own)
