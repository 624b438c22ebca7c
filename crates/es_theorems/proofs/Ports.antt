-- The messages that lie in a port are those that its sender posted to it, less those that its receiver took; and so is what they tell.
use Rattle.std.proofs.Common.{◌≡◌, ℕ, zero, suc, ◌+◌, ◌<◌, ◌≤◌, ◌==◌, ◌&&◌, Bool, true, false, cond, sym, ◌∙◌, ap, refl, arith, List, [], ◌∷◌, ◌++◌, append-nil, drop, length, map, Option, Some, None, length-append, append_assoc}
use Rattle.std.specs.Prelude.{is_some, slice_get}
use Rattle.std.specs.Option.{option_map}
use Rattle.std.proofs.lemmas.Bool.{eqb-true}
use Rattle.es_event.specs.declared.ledger_event.Body.{Body}
use Rattle.es_event.specs.declared.ledger_event.LedgerEvent.{LedgerEvent}
use Rattle.es_event.specs.declared.ledger_event.LedgerEvent.TheVariants.{Opened, Posted, Taken, Spent, Accessed, Drained, Acted}
use Rattle.es_event.specs.declared.ledger_event.Act.TheVariants.{Waiting}
use Rattle.es_event.specs.declared.row.Row.{Row}
use Rattle.es_event.specs.Ledger.{Ledger, front, holder_of, is_at, port_of}
use Rattle.es_event.specs.LegalLedger.{ComesNext, LegalSoFar, has_message, owed}
use Rattle.es_event.specs.declared.ledger_event.Act.{Act}
use Rattle.es_match.specs.Deeds.{Deed, Opens, Posts, Takes, Spends, Accesses, deed, part, part_of, taking, acting, sleep_of}
use Rattle.es_match.specs.Patience.{has_drained}
use Rattle.es_match.specs.declared.deed.Sleep.{Sleep}
use Rattle.es_laws.specs.Races.{Mark, known}
use Rattle.es_theorems.specs.Alone.{Letter, addressed, times}
use Rattle.es_theorems.specs.Renamed.{IsPort, got_in, posted_in, sent_in, told_of, took_in}
use Rattle.es_theorems.proofs.Beyond.{addressed_more}
use Rattle.es_theorems.proofs.Touching.{drop_left}
use Rattle.es_theorems.proofs.Spending.{test_turned}

pub sent_more : (f : Body → Letter) (ds es : List Deed) → sent_in f (ds ++ es) ≡ sent_in f ds ++ sent_in f es
sent_more f [] es = refl
sent_more f (d ∷ ds) es = ap (λ x. posted_in f d ++ x) (sent_more f ds es) ∙ sym (append_assoc (posted_in f d) (sent_in f ds) (sent_in f es))

pub got_more : (ds es : List Deed) → got_in (ds ++ es) ≡ got_in ds ++ got_in es
got_more [] es = refl
got_more (d ∷ ds) es = ap (λ x. took_in d ++ x) (got_more ds es) ∙ sym (append_assoc (took_in d) (got_in ds) (got_in es))

times_more : (s : ℕ) (ts us : List ℕ) → times s (ts ++ us) ≡ times s ts + times s us
times_more s [] us = omega arith
times_more s (t ∷ ts) us = let rest = times_more s ts us in omega (arith, rest)

drop_end : {A : Type 0} (k : ℕ) (xs ys : List A) → k ≤ length xs → drop k (xs ++ ys) ≡ drop k xs ++ ys
drop_end zero xs ys less = refl
drop_end (suc k) [] ys less = absurd (omega (arith, less))
drop_end (suc k) (x ∷ xs) ys less = drop_end k xs ys (omega (arith, less))

drop_one : {A : Type 0} (k : ℕ) (xs : List A) → drop (suc k) xs ≡ drop 1 (drop k xs)
drop_one zero xs = refl
drop_one (suc k) [] = refl
drop_one (suc k) (x ∷ xs) = drop_one k xs

drop_mapped : {A B : Type 0} (f : A → B) (xs : List A) → map f (drop 1 xs) ≡ drop 1 (map f xs)
drop_mapped f [] = refl
drop_mapped f (x ∷ xs) = refl

map_more : {A B : Type 0} (f : A → B) (xs ys : List A) → map f (xs ++ ys) ≡ map f xs ++ map f ys
map_more f [] ys = refl
map_more f (x ∷ xs) ys = ap (λ zs. f x ∷ zs) (map_more f xs ys)

-- What one more event posts, and takes

abbrev sent_now : (Body → Letter) → Ledger → LedgerEvent → ℕ → List (ℕ × Letter)
sent_now f l e s = sent_in f (part_of s (deed l e))

abbrev got_now : Ledger → LedgerEvent → ℕ → List ℕ
got_now l e r = got_in (part_of r (deed l e))

-- a deed that posts nothing
none_sent : (f : Body → Letter) (b : Bool) (d : Deed) → posted_in f d ≡ [] → sent_in f (cond b (d ∷ []) []) ≡ []
none_sent f true d e = append-nil (posted_in f d) ∙ e
none_sent f false d e = refl

none_got : (b : Bool) (d : Deed) → took_in d ≡ [] → got_in (cond b (d ∷ []) []) ≡ []
none_got true d e = append-nil (took_in d) ∙ e
none_got false d e = refl

-- what is left of a port where nothing is posted to it and nothing taken
unmoved : (f : Body → Letter) (l : Ledger) (e : LedgerEvent) (s r : ℕ) → IsPort f l s r → port_of (e ∷ l) s r ≡ port_of l s r → (known (e ∷ l)).carried s r ≡ (known l).carried s r → told_of (e ∷ l) s r ≡ told_of l s r → addressed r (sent_now f l e s) ≡ [] → times s (got_now l e r) ≡ 0 → IsPort f (e ∷ l) s r
unmoved f l e s r is port carried told posts takes =
    let sent : addressed r (sent_in f (part (e ∷ l) s)) ≡ addressed r (sent_in f (part l s)) =
    ap (addressed r) (sent_more f (part l s) (part_of s (deed l e))) ∙ addressed_more r (sent_in f (part l s)) (sent_now f l e s) ∙ ap (λ x. addressed r (sent_in f (part l s)) ++ x) posts ∙ append-nil (addressed r (sent_in f (part l s))) in
    let got : times s (got_in (part (e ∷ l) r)) ≡ times s (got_in (part l r)) =
    (let more = ap (times s) (got_more (part l r) (part_of r (deed l e))) ∙ times_more s (got_in (part l r)) (got_now l e r) in omega (arith, more, takes)) in
    record {
      lies = ap (map f) port ∙ is.lies ∙ sym (ap (λ k. drop k (addressed r (sent_in f (part (e ∷ l) s)))) got ∙ ap (drop (times s (got_in (part l r)))) sent);
      within = (let size = ap length sent in let less = is.within in omega (arith, size, got, less));
      tells = carried ∙ is.tells ∙ sym (ap (λ k. drop k (told_of (e ∷ l) s r)) got ∙ ap (drop (times s (got_in (part l r)))) told);
      many = ap length told ∙ is.many ∙ sym (ap length sent);
    }

posted_more : (f : Body → Letter) (l : Ledger) (e : LedgerEvent) (s r : ℕ) (m : Body) (marks : List Mark) → IsPort f l s r → port_of (e ∷ l) s r ≡ port_of l s r ++ m ∷ [] → (known (e ∷ l)).carried s r ≡ (known l).carried s r ++ marks ∷ [] → told_of (e ∷ l) s r ≡ told_of l s r ++ marks ∷ [] → addressed r (sent_now f l e s) ≡ f m ∷ [] → times s (got_now l e r) ≡ 0 → IsPort f (e ∷ l) s r
posted_more f l e s r m marks is port carried told posts takes =
    let before = addressed r (sent_in f (part l s)) in
    let k = times s (got_in (part l r)) in
    let sent : addressed r (sent_in f (part (e ∷ l) s)) ≡ before ++ f m ∷ [] =
    ap (addressed r) (sent_more f (part l s) (part_of s (deed l e))) ∙ addressed_more r (sent_in f (part l s)) (sent_now f l e s) ∙ ap (λ x. before ++ x) posts in
    let got : times s (got_in (part (e ∷ l) r)) ≡ k =
    (let more = ap (times s) (got_more (part l r) (part_of r (deed l e))) ∙ times_more s (got_in (part l r)) (got_now l e r) in omega (arith, more, takes)) in
    record {
      lies = ap (map f) port ∙ map_more f (port_of l s r) (m ∷ []) ∙ ap (λ x. x ++ f m ∷ []) is.lies ∙ sym (drop_end k before (f m ∷ []) is.within)
          ∙ sym (ap (λ k. drop k (addressed r (sent_in f (part (e ∷ l) s)))) got ∙ ap (drop k) sent);
      within = (let size = ap length sent ∙ length-append before (f m ∷ []) in let less = is.within in omega (arith, size, got, less));
      tells = carried ∙ ap (λ x. x ++ marks ∷ []) is.tells ∙ sym (drop_end k (told_of l s r) (marks ∷ []) (let less = is.within in let same = is.many in omega (arith, less, same)))
          ∙ sym (ap (λ k. drop k (told_of (e ∷ l) s r)) got ∙ ap (drop k) told);
      many = (let size = ap length sent ∙ length-append before (f m ∷ []) in let more = ap length told ∙ length-append (told_of l s r) (marks ∷ []) in let same = is.many in omega (arith, size, more, same));
    }

taken_one : (f : Body → Letter) (l : Ledger) (e : LedgerEvent) (s r : ℕ) → IsPort f l s r → has_message l s r ≡ true → port_of (e ∷ l) s r ≡ drop 1 (port_of l s r) → (known (e ∷ l)).carried s r ≡ drop 1 ((known l).carried s r) → told_of (e ∷ l) s r ≡ told_of l s r → addressed r (sent_now f l e s) ≡ [] → times s (got_now l e r) ≡ 1 → IsPort f (e ∷ l) s r
taken_one f l e s r is there port carried told posts takes =
    let before = addressed r (sent_in f (part l s)) in
    let k = times s (got_in (part l r)) in
    let sent : addressed r (sent_in f (part (e ∷ l) s)) ≡ before =
    ap (addressed r) (sent_more f (part l s) (part_of s (deed l e))) ∙ addressed_more r (sent_in f (part l s)) (sent_now f l e s) ∙ ap (λ x. before ++ x) posts ∙ append-nil before in
    let got : times s (got_in (part (e ∷ l) r)) ≡ suc k =
    (let more = ap (times s) (got_more (part l r) (part_of r (deed l e))) ∙ times_more s (got_in (part l r)) (got_now l e r) in omega (arith, more, takes)) in
    record {
      lies = ap (map f) port ∙ drop_mapped f (port_of l s r) ∙ ap (drop 1) is.lies ∙ sym (drop_one k before) ∙ sym (ap (λ k. drop k (addressed r (sent_in f (part (e ∷ l) s)))) got ∙ ap (drop (suc k)) sent);
      within = (let size = ap length sent in let less = some_left (port_of l s r) there is.lies in omega (arith, size, got, less));
      tells = carried ∙ ap (drop 1) is.tells ∙ sym (drop_one k (told_of l s r)) ∙ sym (ap (λ k. drop k (told_of (e ∷ l) s r)) got ∙ ap (drop (suc k)) told);
      many = ap length told ∙ is.many ∙ sym (ap length sent);
    }
  where
    some_left : (ms : List Body) → is_some (slice_get ms 0) ≡ true → map f ms ≡ drop (times s (got_in (part l r))) (addressed r (sent_in f (part l s))) → times s (got_in (part l r)) < length (addressed r (sent_in f (part l s)))
    some_left [] there lies = cc
    some_left (m ∷ ms) there lies = drop_left (times s (got_in (part l r))) (addressed r (sent_in f (part l s))) (f m) (map f ms) (sym lies)

-- Event by event

quiet : (f : Body → Letter) (l : Ledger) (e : LedgerEvent) (s r : ℕ) → IsPort f l s r → port_of (e ∷ l) s r ≡ port_of l s r → (known (e ∷ l)).carried s r ≡ (known l).carried s r → told_of (e ∷ l) s r ≡ told_of l s r → sent_now f l e s ≡ [] → got_now l e r ≡ [] → IsPort f (e ∷ l) s r
quiet f l e s r is port carried told posts takes = unmoved f l e s r is port carried told (ap (addressed r) posts) (ap (times s) takes)

by_spender : (f : Body → Letter) (o : Option (ℕ × Row)) (d : Deed) (a : ℕ) → posted_in f d ≡ [] → took_in d ≡ [] → (sent_in f (part_of a (option_map (λ p. (p.0, d)) o)) ≡ []) × (got_in (part_of a (option_map (λ p. (p.0, d)) o)) ≡ [])
by_spender f None d a posts takes = (refl, refl)
by_spender f (Some p) d a posts takes = (none_sent f _ d posts, none_got _ d takes)

may_come : (n : ℕ) (l : Ledger) (s r : ℕ) (o : Option ℕ) → ComesNext n l (Taken s r) o → has_message l s r ≡ true
may_come n l s r None may = may
may_come n l s r (Some k) may = cc

-- a message of t to u, seen from s and r
post_here : (f : Body → Letter) (t u s r : ℕ) (m : Body) (a b : Bool) → (u == r) ≡ b → (t == s) ≡ a → addressed r (sent_in f (cond ((t == s) && true) (Posts u m ∷ []) [])) ≡ cond (a && b) (f m ∷ []) []
post_here f t u s r m true true right left = ap (λ a. addressed r (sent_in f (cond (a && true) (Posts u m ∷ []) []))) left ∙ ap (λ b. cond b (f m ∷ []) []) right
post_here f t u s r m true false right left = ap (λ a. addressed r (sent_in f (cond (a && true) (Posts u m ∷ []) []))) left ∙ ap (λ b. cond b (f m ∷ []) []) right
post_here f t u s r m false b right left = ap (λ a. addressed r (sent_in f (cond (a && true) (Posts u m ∷ []) []))) left

take_here : (t u s r : ℕ) (m : Option Body) (w : ℕ) (a b : Bool) → (u == r) ≡ b → (t == s) ≡ a → times s (got_in (cond ((u == r) && true) (Takes t m w ∷ []) [])) ≡ cond (a && b) 1 0
take_here t u s r m w true true right left = ap (λ b. times s (got_in (cond (b && true) (Takes t m w ∷ []) []))) right ∙ ap (λ a. cond a 1 0 + 0) left
take_here t u s r m w false true right left = ap (λ b. times s (got_in (cond (b && true) (Takes t m w ∷ []) []))) right ∙ ap (λ a. cond a 1 0 + 0) left
take_here t u s r m w true false right left = ap (λ b. times s (got_in (cond (b && true) (Takes t m w ∷ []) []))) right
take_here t u s r m w false false right left = ap (λ b. times s (got_in (cond (b && true) (Takes t m w ∷ []) []))) right

port_at : {A : Type 0} (t u s r : ℕ) (a b : Bool) (x y : A) → (t == s) ≡ a → (u == r) ≡ b → cond (is_at s r t u) x y ≡ cond (a && b) x y
port_at t u s r a b x y left right = ap (λ a. cond (a && (r == u)) x y) (test_turned s t ∙ left) ∙ ap (λ b. cond (a && b) x y) (test_turned r u ∙ right)

posted_at : (f : Body → Letter) (l : Ledger) (t u s r : ℕ) (m : Body) → IsPort f l s r → IsPort f (Posted t u m ∷ l) s r
posted_at f l t u s r m is = at (t == s) (u == r) refl refl
  where
    at : (a b : Bool) → (t == s) ≡ a → (u == r) ≡ b → IsPort f (Posted t u m ∷ l) s r
    at true true left right = posted_more f l (Posted t u m) s r m ((known l).knows s) is (port_at t u s r true true _ _ left right) (port_at t u s r true true _ _ left right) (port_at t u s r true true _ _ left right) (post_here f t u s r m true true right left) (ap (times s) (none_got ((t == r) && true) (Posts u m) refl))
    at true false left right = unmoved f l (Posted t u m) s r is (port_at t u s r true false _ _ left right) (port_at t u s r true false _ _ left right) (port_at t u s r true false _ _ left right) (post_here f t u s r m true false right left) (ap (times s) (none_got ((t == r) && true) (Posts u m) refl))
    at false b left right = unmoved f l (Posted t u m) s r is (port_at t u s r false b _ _ left right) (port_at t u s r false b _ _ left right) (port_at t u s r false b _ _ left right) (post_here f t u s r m false b right left) (ap (times s) (none_got ((t == r) && true) (Posts u m) refl))

taken_at : (f : Body → Letter) (l : Ledger) (t u s r : ℕ) → has_message l t u ≡ true → IsPort f l s r → IsPort f (Taken t u ∷ l) s r
taken_at f l t u s r there is = at (t == s) (u == r) refl refl
  where
    none : addressed r (sent_now f l (Taken t u) s) ≡ []
    none = ap (addressed r) (none_sent f ((u == s) && true) (taking l t (front l t u)) refl)

    at : (a b : Bool) → (t == s) ≡ a → (u == r) ≡ b → IsPort f (Taken t u ∷ l) s r
    at true true left right =
        taken_one f l (Taken t u) s r is (ap (λ s. has_message l s r) (sym (eqb-true t s left)) ∙ ap (λ r. has_message l t r) (sym (eqb-true u r right)) ∙ there) (port_at t u s r true true _ _ left right) (port_at t u s r true true _ _ left right) refl none (take_here t u s r _ _ true true right left)
    at true false left right = unmoved f l (Taken t u) s r is (port_at t u s r true false _ _ left right) (port_at t u s r true false _ _ left right) refl none (take_here t u s r _ _ true false right left)
    at false true left right = unmoved f l (Taken t u) s r is (port_at t u s r false true _ _ left right) (port_at t u s r false true _ _ left right) refl none (take_here t u s r _ _ false true right left)
    at false false left right = unmoved f l (Taken t u) s r is (port_at t u s r false false _ _ left right) (port_at t u s r false false _ _ left right) refl none (take_here t u s r _ _ false false right left)

act_sends : (f : Body → Letter) (o : Option Sleep) (act : Act) → posted_in f (acting o act) ≡ []
act_sends f o (Waiting s) = refl
act_sends f o _ = refl

act_takes : (o : Option Sleep) (act : Act) → took_in (acting o act) ≡ []
act_takes o (Waiting s) = refl
act_takes o _ = refl

pub is_port : (n : ℕ) (f : Body → Letter) (l : Ledger) (s r : ℕ) → LegalSoFar n l → has_drained l ≡ false → IsPort f l s r
is_port n f [] s r legal dry = record { lies = refl; within = omega arith; tells = refl; many = refl }
is_port n f (Posted t u m ∷ l) s r legal dry = posted_at f l t u s r m (is_port n f l s r legal.1 dry)
is_port n f (Taken t u ∷ l) s r legal dry = taken_at f l t u s r (may_come n l t u (owed l) legal.0) (is_port n f l s r legal.1 dry)
is_port n f (Opened b w k a ∷ l) s r legal dry = quiet f l (Opened b w k a) s r (is_port n f l s r legal.1 dry) refl refl refl (none_sent f _ (Opens b w k) refl) (none_got _ (Opens b w k) refl)
is_port n f (Spent k ∷ l) s r legal dry = quiet f l (Spent k) s r (is_port n f l s r legal.1 dry) refl refl refl (by_spender f (holder_of l k) (Spends k) s refl refl).0 (by_spender f (holder_of l k) (Spends k) r refl refl).1
is_port n f (Accessed k i m old ∷ l) s r legal dry =
    quiet f l (Accessed k i m old) s r (is_port n f l s r legal.1 dry) refl refl refl (by_spender f (holder_of l k) (Accesses k i m old) s refl refl).0 (by_spender f (holder_of l k) (Accesses k i m old) r refl refl).1
is_port n f (Acted a act ∷ l) s r legal dry = quiet f l (Acted a act) s r (is_port n f l s r legal.1 dry) refl refl refl (none_sent f _ (acting (sleep_of l a) act) (act_sends f (sleep_of l a) act)) (none_got _ (acting (sleep_of l a) act) (act_takes (sleep_of l a) act))
is_port n f (Drained t u ∷ l) s r legal dry = cc
