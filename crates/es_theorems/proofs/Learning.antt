-- What agents know after a turn, by the ledger, is what they know after it by their own names.
use Rattle.std.proofs.Common.{◌≡◌, ℕ, ◌+◌, ◌<◌, ◌≤◌, ◌==◌, ◌&&◌, Bool, true, false, cond, sym, ◌∙◌, ap, refl, subst, arith, List, [], ◌∷◌, ◌++◌, append-nil, drop, length, map, Option, Some, None, is_some, length-append, inl, inr}
use Rattle.std.specs.List.{sum_by}
use Rattle.std.proofs.lemmas.Bool.{cases_Bool, eqb-true}
use Rattle.std.proofs.lemmas.List.Sums.{sum_by-cons}
use Rattle.es_event.specs.declared.access.Change.{Change}
use Rattle.es_event.specs.declared.event.Event.{Event}
use Rattle.es_event.specs.declared.ledger_event.Body.{Body}
use Rattle.es_event.specs.declared.ledger_event.LedgerEvent.{LedgerEvent}
use Rattle.es_event.specs.declared.ledger_event.LedgerEvent.TheVariants.{Opened, Posted, Taken, Spent, Accessed, Drained, Acted}
use Rattle.es_event.specs.declared.row.Holder.TheVariants.{Agent}
use Rattle.es_event.specs.declared.row.Row.{Row}
use Rattle.es_event.specs.Access.{written, change_by}
use Rattle.es_event.specs.Ledger.{Ledger, holder_of, opened, table}
use Rattle.es_event.specs.LegalLedger.{LegalSoFar}
use Rattle.es_event.specs.Rows.{held_by, line_of}
use Rattle.es_match.specs.Deeds.{Deed, Opens, Posts, Takes, Spends, Accesses, Waits, Passes, Ends, part, Sleeps, Notifies, Wakes, TimesOut}
use Rattle.es_laws.specs.Memory.{WordAccess, access_by, accessed, accesses, is_write}
use Rattle.es_laws.specs.Races.{Mark, MarkedAccess, first_of, known, mark_of, marked, marked_after, marks_of}
use Rattle.es_ledger.proofs.Made.{IsMade, all_made}
use Rattle.es_record.specs.AgentView.{AgentView}
use Rattle.es_cluster.specs.State.{ClusterView}
use Rattle.es_theorems.specs.Doing.{did}
use Rattle.es_theorems.proofs.Holding.{held_line, each_line}
use Rattle.es_theorems.specs.Alone.{Letter, Local, Lore, Touch, Touched, changes, learned, lore_after, lore_with, new_lore, posted_by, times, touch_by, touched_by, Words, change_at}
use Rattle.es_theorems.specs.Renamed.{got_in, letter_of, local_of, lore_of, name, renamed, told_of, touched_as, touched_in, HasWords}
use Rattle.es_theorems.specs.Steps.{AreSilent, AtTurn, Does, IsTouch, is_quiet, posts, takes, touches, is_silent}
use Rattle.es_theorems.proofs.Names.{name_stays}
use Rattle.es_theorems.proofs.PlayingAlike.{Plays, SameLore, onward, plays, silent_leave}
use Rattle.es_theorems.proofs.Ports.{is_port}
use Rattle.es_theorems.proofs.Spending.{test_turned}

-- Accesses are of blocks that were opened

abbrev pub AllMarked : Ledger → List MarkedAccess → Type 0
AllMarked l [] = Unit {0}
AllMarked l (x ∷ xs) = ((0 < x.access.block) × (x.access.block ≤ opened l)) × AllMarked l xs

marked_later : (l : Ledger) (e : LedgerEvent) (xs : List MarkedAccess) → AllMarked l xs → AllMarked (e ∷ l) xs
marked_later l e [] all = tt
marked_later l e (x ∷ xs) all = ((all.0.0, (let less = all.0.1 in omega (arith, less))), marked_later l e xs all.1)

-- the block of what an agent holds
pub held_opened : (n : ℕ) (l : Ledger) (s a : ℕ) (r : Row) → LegalSoFar n l → holder_of l s ≡ Some (a, r) → IsMade l r
held_opened n l s a r legal is = each_line (IsMade l) s (table l) (held_by (Agent a) r) (all_made n l legal) (held_line (line_of s (table l)) a r is)

-- the word that an access finds, by the agents' own names
pub word_found : (n : ℕ) (l : Ledger) (words : Words) (i s j : ℕ) (h : Change) (old : ℕ) (t : Touch) → LegalSoFar n l → HasWords n l words → IsTouch n l i t s j h old → words t.block t.index ≡ old
word_found n l words i s j h old t legal holds its =
    let made : IsMade l its.row = held_opened n l s i its.row legal its.holder in
    ap (λ k. words k t.index) (sym its.block) ∙ ap (words (name n l its.row.block)) (sym its.index) ∙ holds.named_so its.row.block j made.0 made.1 ∙ sym its.old_is

marked_next : (n : ℕ) (l : Ledger) (s j old : ℕ) (c : Change) (o : Option (ℕ × Row)) → LegalSoFar n l → holder_of l s ≡ o → AllMarked (Accessed s j c old ∷ l) (marked l) → AllMarked (Accessed s j c old ∷ l) (map (marked_after l) (access_by o j c old) ++ marked l)
marked_next n l s j old c None legal is all = all
marked_next n l s j old c (Some p) legal is all = let made = held_opened n l s p.0 p.1 legal is in ((made.0, (let less = made.1 in omega (arith, less))), all)

pub all_marked : (n : ℕ) (l : Ledger) → LegalSoFar n l → AllMarked l (marked l)
all_marked n [] legal = tt
all_marked n (Accessed s j c old ∷ l) legal = marked_next n l s j old c (holder_of l s) legal.1 refl (marked_later l (Accessed s j c old) (marked l) (all_marked n l legal.1))
all_marked n (Opened b w s a ∷ l) legal = marked_later l (Opened b w s a) (marked l) (all_marked n l legal.1)
all_marked n (Posted t u m ∷ l) legal = marked_later l (Posted t u m) (marked l) (all_marked n l legal.1)
all_marked n (Taken t u ∷ l) legal = marked_later l (Taken t u) (marked l) (all_marked n l legal.1)
all_marked n (Spent s ∷ l) legal = marked_later l (Spent s) (marked l) (all_marked n l legal.1)
all_marked n (Acted a d ∷ l) legal = marked_later l (Acted a d) (marked l) (all_marked n l legal.1)
all_marked n (Drained t u ∷ l) legal = marked_later l (Drained t u) (marked l) (all_marked n l legal.1)

-- so under later names they are the same
named_later : (f g : ℕ → ℕ) (l : Ledger) → ((b : ℕ) → b ≤ opened l → f b ≡ g b) → (xs : List MarkedAccess) → AllMarked l xs → (i : ℕ) → touched_in f xs i ≡ touched_in g xs i
named_later f g l same [] all i = refl
named_later f g l same (x ∷ xs) all i =
    ap (λ b. cond (x.access.agent == i) (touched_in f xs i ++ record { block = b; index = x.access.index; writes = is_write x.access; knew = x.knew } ∷ []) (touched_in f xs i)) (same x.access.block all.0.1)
    ∙ ap (λ t. cond (x.access.agent == i) (t ++ touched_as g x ∷ []) t) (named_later f g l same xs all.1 i)

pub touched_later : (n : ℕ) (es : List LedgerEvent) (l : Ledger) → LegalSoFar n (es ++ l) → LegalSoFar n l → (i : ℕ) → touched_in (name n (es ++ l)) (marked l) i ≡ touched_in (name n l) (marked l) i
touched_later n es l legal before i = named_later (name n (es ++ l)) (name n l) l (λ b less. name_stays n es l legal b less) (marked l) (all_marked n l before) i

-- An access's mark is its place

counts : (f : ℕ → ℕ) (l : Ledger) (i : ℕ) (xs : List WordAccess) (ms : List MarkedAccess) (ys : List WordAccess) → length (touched_in f ms i) ≡ sum_by (λ y. cond (y.agent == i) 1 0) ys
    → length (touched_in f (map (marked_after l) xs ++ ms) i) ≡ sum_by (λ y. cond (y.agent == i) 1 0) (xs ++ ys)
counts f l i [] ms ys same = same
counts f l i (x ∷ xs) ms ys same =
    by_agent (x.agent == i) (counts f l i xs ms ys same) ∙ sym (sum_by-cons (λ (y : WordAccess). cond {A = ℕ} (y.agent == i) 1 0) x (xs ++ ys))
  where
    rest : List Touched
    rest = touched_in f (map (marked_after l) xs ++ ms) i

    by_agent : (b : Bool) → length rest ≡ sum_by (λ y. cond (y.agent == i) 1 0) (xs ++ ys)
        → length (cond b (rest ++ touched_as f (marked_after l x) ∷ []) rest) ≡ cond {A = ℕ} b 1 0 + sum_by (λ y. cond (y.agent == i) 1 0) (xs ++ ys)
    by_agent true is = (let more = length-append rest (touched_as f (marked_after l x) ∷ []) in omega (arith, more, is))
    by_agent false is = omega (arith, is)

pub how_many_touched : (f : ℕ → ℕ) (l : Ledger) (i : ℕ) → length (touched_in f (marked l) i) ≡ sum_by (λ y. cond (y.agent == i) 1 0) (accesses l)
how_many_touched f [] i = refl
how_many_touched f (e ∷ l) i = counts f l i (accessed l e) (marked l) (accesses l) (how_many_touched f l i)

-- After a turn

-- by agents
record LoreIs (n : ℕ) (m : Ledger) (l : Ledger) (i j : ℕ) (new : Lore) : Type 0 where
  knows : (known m).knows j ≡ cond (i == j) new.knows ((known l).knows j)
  told : (r : ℕ) → told_of m j r ≡ cond (i == j) (new.told r) (told_of l j r)
  touched : touched_in (name n m) (marked m) j ≡ cond (i == j) new.touched (touched_in (name n l) (marked l) j)

whole : (t : Bool) (x new old : Lore) → x.knows ≡ cond t new.knows old.knows → ((r : ℕ) → x.told r ≡ cond t (new.told r) (old.told r)) → x.touched ≡ cond t new.touched old.touched → x ≡ cond t new old
whole true x new old a b c = λ k. record { knows = a k; told = λ r. b r k; touched = c k }
whole false x new old a b c = λ k. record { knows = a k; told = λ r. b r k; touched = c k }

-- where nothing changes
unless : {A : Type 0} (f : ℕ → A) (i j : ℕ) → f j ≡ cond (i == j) (f i) (f j)
unless f i j = elim (cases_Bool (i == j)) [
  | inl e ↦ ap f (sym (eqb-true i j e)) ∙ sym (ap (λ b. cond b (f i) (f j)) e)
  | inr e ↦ sym (ap (λ b. cond b (f i) (f j)) e)
]

is_writing : (c : Change) (old : ℕ) → is_some (written c old) ≡ changes c
is_writing Change.Keep old = refl
is_writing _ old = refl

silent_none : (ds : List Deed) → AreSilent ds → got_in ds ≡ []
silent_none [] are = refl
silent_none (d ∷ ds) are = one d are.0 (silent_none ds are.1)
  where
    one : (d : Deed) → is_silent d ≡ true → got_in ds ≡ [] → got_in (d ∷ ds) ≡ []
    one (Opens b w s) is rest = rest
    one (Spends s) is rest = rest
    one (Waits s) is rest = rest
    one (Passes s) is rest = rest
    one Ends is rest = rest
    one (Sleeps s i w) is rest = rest
    one (Notifies s i m k) is rest = rest
    one (Wakes o) is rest = rest
    one (TimesOut o) is rest = rest
    one _ is rest = cc

pub learns : (n : ℕ) (c : ClusterView) (words : Words) (i : ℕ) (m : Ledger) (b : AgentView) (e : Event) (r : Option Row) (ds : List Deed) → HasWords n c.ledger.history words → AtTurn n c i m b e r ds → Does n c.ledger.history i (renamed (name n c.ledger.history) b.over) e ds
    → lore_of n m ≡ lore_after (lore_of n c.ledger.history) i (new_lore (lore_of n c.ledger.history i) i (learned (lore_of n c.ledger.history) i (local_of n c.ledger.history b) (got_in ds)) words (local_of n c.ledger.history b) e)
learns n c words i m b e r ds holds x does = λ k. λ j. at j k
  where
    l : Ledger
    l = c.ledger.history

    a : Local
    a = local_of n l b

    lore : ℕ → Lore
    lore = lore_of n l

    legal : LegalSoFar n (x.grows.0 ++ l)
    legal = subst (LegalSoFar n) x.grows.1 x.legal

    new : Lore
    new = new_lore (lore i) i (learned lore i a (got_in ds)) words a e

    number : b.number ≡ i
    number = (x.along.stands.each i b x.here).number

    played : Plays i l m ds
    played = plays n c i m b e r ds x

    names : (j : ℕ) → touched_in (name n m) (marked l) j ≡ touched_in (name n l) (marked l) j
    names j = ap (λ m. touched_in (name n m) (marked l) j) x.grows.1 ∙ touched_later n x.grows.0 l legal x.along.legal j

    -- no access, and nothing posted
    quiet_lore : (j : ℕ) (k : Ledger) → SameLore m k → (p : Option Touch) (ps : List (ℕ × Letter)) (marks : List Mark) → touch_by a.over e ≡ p → posted_by a.over e ≡ ps → learned lore i a (got_in ds) ≡ marks
        → (known k).knows j ≡ cond (i == j) (lore_with (lore i) i marks words p ps).knows ((known l).knows j)
        → ((r : ℕ) → told_of k j r ≡ cond (i == j) ((lore_with (lore i) i marks words p ps).told r) (told_of l j r))
        → touched_in (name n m) (marked k) j ≡ cond (i == j) (lore_with (lore i) i marks words p ps).touched (touched_in (name n l) (marked l) j)
        → LoreIs n m l i j new
    quiet_lore j k same p ps marks touch post marks_are knows told touched =
        let is : lore_with (lore i) i marks words p ps ≡ new =
        sym (ap (λ g. lore_with (lore i) i g words (touch_by a.over e) (posted_by a.over e)) marks_are ∙ ap (λ p. lore_with (lore i) i marks words p (posted_by a.over e)) touch ∙ ap (lore_with (lore i) i marks words p) post) in
        record {
          knows = ap (λ K. K.knows j) same.known ∙ knows ∙ ap (λ (o : Lore). cond (i == j) o.knows ((known l).knows j)) is;
          told = λ r. ap (λ f. f j r) same.told ∙ told r ∙ ap (λ (o : Lore). cond (i == j) (o.told r) (told_of l j r)) is;
          touched = ap (λ ms. touched_in (name n m) ms j) same.marked ∙ touched ∙ ap (λ (o : Lore). cond (i == j) o.touched (touched_in (name n l) (marked l) j)) is;
        }

    touched_same : (j : ℕ) → touched_in (name n m) (marked l) j ≡ cond (i == j) ((lore i).touched ++ []) (touched_in (name n l) (marked l) j)
    touched_same j = names j ∙ unless (touched_in (name n l) (marked l)) i j ∙ sym (ap (λ t. cond (i == j) t (touched_in (name n l) (marked l) j)) (append-nil (lore i).touched))

    told_same : (j r : ℕ) → told_of l j r ≡ cond (i == j) (told_of l i r ++ []) (told_of l j r)
    told_same j r = unless (λ j. told_of l j r) i j ∙ sym (ap (λ t. cond (i == j) t (told_of l j r)) (append-nil (told_of l i r)))

    by_quiet : (j : ℕ) → AreSilent ds → touch_by a.over e ≡ None → posted_by a.over e ≡ [] → LoreIs n m l i j new
    by_quiet j are touch post =
        quiet_lore j l (onward m (did i ds l) l played.lore (silent_leave i ds l are)) None [] [] touch post (ap (learned lore i a) (silent_none ds are))
        (unless (known l).knows i j) (told_same j) (touched_same j)

    by_post : (j t : ℕ) (q : Body) (y : Letter) → ds ≡ Posts t q ∷ [] → touch_by a.over e ≡ None → posted_by a.over e ≡ (t, y) ∷ [] → LoreIs n m l i j new
    by_post j t q y is touch post =
        quiet_lore j (Posted i t q ∷ l) (subst (λ ds. SameLore m (did i ds l)) is played.lore) None ((t, y) ∷ []) [] touch post (ap (λ ds. learned lore i a (got_in ds)) is)
        (unless (known l).knows i j) told (touched_same j)
      where
        told_here : (r : ℕ) (p q : Bool) → (t == r) ≡ q → (i == j) ≡ p → (j == i) ≡ p → (r == t) ≡ q
            → cond ((j == i) && (r == t)) (told_of l j r ++ (known l).knows j ∷ []) (told_of l j r) ≡ cond (i == j) (told_of l i r ++ map (λ m. (known l).knows i) (cond (t == r) (y ∷ []) [])) (told_of l j r)
        told_here r true true one two three four =
            let same = eqb-true i j two in
            ap (λ b. cond (b && (r == t)) (told_of l j r ++ (known l).knows j ∷ []) (told_of l j r)) three ∙ ap (λ b. cond b (told_of l j r ++ (known l).knows j ∷ []) (told_of l j r)) four
            ∙ ap (λ j. told_of l j r ++ (known l).knows j ∷ []) (sym same)
            ∙ sym (ap (λ b. cond b (told_of l i r ++ map (λ m. (known l).knows i) (cond (t == r) (y ∷ []) [])) (told_of l j r)) two ∙ ap (λ b. told_of l i r ++ map (λ m. (known l).knows i) (cond b (y ∷ []) [])) one)
        told_here r true false one two three four =
            let same = eqb-true i j two in
            ap (λ b. cond (b && (r == t)) (told_of l j r ++ (known l).knows j ∷ []) (told_of l j r)) three ∙ ap (λ b. cond b (told_of l j r ++ (known l).knows j ∷ []) (told_of l j r)) four
            ∙ ap (λ j. told_of l j r) (sym same)
            ∙ sym (ap (λ b. cond b (told_of l i r ++ map (λ m. (known l).knows i) (cond (t == r) (y ∷ []) [])) (told_of l j r)) two ∙ ap (λ b. told_of l i r ++ map (λ m. (known l).knows i) (cond b (y ∷ []) [])) one ∙ append-nil (told_of l i r))
        told_here r false q one two three four =
            ap (λ b. cond (b && (r == t)) (told_of l j r ++ (known l).knows j ∷ []) (told_of l j r)) three
            ∙ sym (ap (λ b. cond b (told_of l i r ++ map (λ m. (known l).knows i) (cond (t == r) (y ∷ []) [])) (told_of l j r)) two)

        told : (r : ℕ) → told_of (Posted i t q ∷ l) j r ≡ cond (i == j) ((lore_with (lore i) i [] words None ((t, y) ∷ [])).told r) (told_of l j r)
        told r = told_here r (i == j) (t == r) refl refl (test_turned j i) (test_turned r t)

    by_take : (j s : ℕ) (q : Option Body) (w : ℕ) (rest : List Deed) → ds ≡ Takes s q w ∷ rest → AreSilent rest → touch_by a.over e ≡ None → posted_by a.over e ≡ [] → LoreIs n m l i j new
    by_take j s q w rest is are touch post =
        quiet_lore j (Taken s i ∷ l) (onward m (did i ds l) (Taken s i ∷ l) played.lore (subst (λ ds. SameLore (did i ds l) (Taken s i ∷ l)) (sym is) (silent_leave i rest (Taken s i ∷ l) are))) None [] (first_of ((known l).carried s i)) touch post
        (ap (λ ds. learned lore i a (got_in ds)) is ∙ ap (λ k. first_of (drop (times s (got_in (part l k))) (told_of l s i))) number ∙ ap first_of (sym (is_port n (letter_of n l) l s i x.along.legal x.along.dry).tells))
        knows (told_same j) (touched_same j)
      where
        knows : (known (Taken s i ∷ l)).knows j ≡ cond (i == j) (first_of ((known l).carried s i) ++ ([] ++ (known l).knows i)) ((known l).knows j)
        knows = elim (cases_Bool (i == j)) [
          | inl e ↦ ap (λ b. cond b (first_of ((known l).carried s i) ++ (known l).knows j) ((known l).knows j)) e ∙ ap (λ j. first_of ((known l).carried s i) ++ (known l).knows j) (sym (eqb-true i j e))
              ∙ sym (ap (λ b. cond b (first_of ((known l).carried s i) ++ (known l).knows i) ((known l).knows j)) e)
          | inr e ↦ ap (λ b. cond b (first_of ((known l).carried s i) ++ (known l).knows j) ((known l).knows j)) e ∙ sym (ap (λ b. cond b (first_of ((known l).carried s i) ++ (known l).knows i) ((known l).knows j)) e)
        ]

    by_touch : (j s d : ℕ) (h : Change) (old : ℕ) (t : Touch) → ds ≡ Accesses s d h old ∷ [] → touch_by a.over e ≡ Some t → posted_by a.over e ≡ [] → IsTouch n l i t s d h old → LoreIs n m l i j new
    by_touch j s d h old t is touch post its =
        quiet_lore j (Accessed s d h old ∷ l) (subst (λ ds. SameLore m (did i ds l)) is played.lore) (Some t) [] [] touch post (ap (λ ds. learned lore i a (got_in ds)) is)
        knows (told_same j) touched
      where
        made : IsMade l its.row
        made = held_opened n l s i its.row x.along.legal its.holder

        w : WordAccess
        w = record { agent = i; block = its.row.block; index = d; change = h; old = old }

        place : ◌≡◌ {A = Mark} (mark_of (accesses l) w) (i, length (lore i).touched)
        place = ap (λ k. (i, k)) (sym (how_many_touched (name n l) l i))

        same_touch : touched_as (name n m) (marked_after l w) ≡ touched_by (lore i).knows words t
        same_touch =
            let block : name n m its.row.block ≡ t.block = ap (λ m. name n m its.row.block) x.grows.1 ∙ name_stays n x.grows.0 l legal its.row.block made.1 ∙ its.block in
            let writes : is_some (written h old) ≡ changes (change_at words t) = is_writing h old ∙ ap changes (its.change ∙ ap (change_by t.access.edit) (sym (word_found n l words i s d h old t x.along.legal holds its))) in
            λ k. record { block = block k; index = its.index k; writes = writes k; knew = (known l).knows i }

        knows : (known (Accessed s d h old ∷ l)).knows j ≡ cond (i == j) ((i, length (lore i).touched) ∷ [] ++ (known l).knows i) ((known l).knows j)
        knows = ap (λ o. marks_of j (accesses l) (access_by o d h old) ++ (known l).knows j) its.holder ∙ by_agent (i == j) refl
          where
            by_agent : (p : Bool) → (i == j) ≡ p → cond (i == j) (mark_of (accesses l) w ∷ []) [] ++ (known l).knows j ≡ cond (i == j) ((i, length (lore i).touched) ∷ [] ++ (known l).knows i) ((known l).knows j)
            by_agent true e =
                ap (λ b. cond b (mark_of (accesses l) w ∷ []) [] ++ (known l).knows j) e ∙ ap (λ k. k ∷ [] ++ (known l).knows j) place ∙ ap (λ j. (i, length (lore i).touched) ∷ [] ++ (known l).knows j) (sym (eqb-true i j e))
                ∙ sym (ap (λ b. cond b ((i, length (lore i).touched) ∷ [] ++ (known l).knows i) ((known l).knows j)) e)
            by_agent false e =
                ap (λ b. cond b (mark_of (accesses l) w ∷ []) [] ++ (known l).knows j) e ∙ sym (ap (λ b. cond b ((i, length (lore i).touched) ∷ [] ++ (known l).knows i) ((known l).knows j)) e)

        touched : touched_in (name n m) (marked (Accessed s d h old ∷ l)) j ≡ cond (i == j) ((lore i).touched ++ touched_by (lore i).knows words t ∷ []) (touched_in (name n l) (marked l) j)
        touched = ap (λ o. touched_in (name n m) (map (marked_after l) (access_by o d h old) ++ marked l) j) its.holder ∙ by_agent (i == j) refl
          where
            by_agent : (p : Bool) → (i == j) ≡ p → cond (i == j) (touched_in (name n m) (marked l) j ++ touched_as (name n m) (marked_after l w) ∷ []) (touched_in (name n m) (marked l) j)
                ≡ cond (i == j) ((lore i).touched ++ touched_by (lore i).knows words t ∷ []) (touched_in (name n l) (marked l) j)
            by_agent true e =
                ap (λ b. cond b (touched_in (name n m) (marked l) j ++ touched_as (name n m) (marked_after l w) ∷ []) (touched_in (name n m) (marked l) j)) e
                ∙ ap (λ ts. ts ++ touched_as (name n m) (marked_after l w) ∷ []) (names j ∙ ap (touched_in (name n l) (marked l)) (sym (eqb-true i j e)))
                ∙ ap (λ u. (lore i).touched ++ u ∷ []) same_touch
                ∙ sym (ap (λ b. cond b ((lore i).touched ++ touched_by (lore i).knows words t ∷ []) (touched_in (name n l) (marked l) j)) e)
            by_agent false e =
                ap (λ b. cond b (touched_in (name n m) (marked l) j ++ touched_as (name n m) (marked_after l w) ∷ []) (touched_in (name n m) (marked l) j)) e
                ∙ names j ∙ sym (ap (λ b. cond b ((lore i).touched ++ touched_by (lore i).knows words t ∷ []) (touched_in (name n l) (marked l) j)) e)

    by_does : (j : ℕ) → Does n l i a.over e ds → LoreIs n m l i j new
    by_does j (is_quiet are touch post) = by_quiet j are touch post
    by_does j (posts t q y is touch post) = by_post j t q y is touch post
    by_does j (takes s q w rest is are touch post) = by_take j s q w rest is are touch post
    by_does j (touches s d h old t is touch post its) = by_touch j s d h old t is touch post its

    at : (j : ℕ) → lore_of n m j ≡ lore_after lore i new j
    at j = let is = by_does j does in whole (i == j) (lore_of n m j) new (lore j) is.knows is.told is.touched
