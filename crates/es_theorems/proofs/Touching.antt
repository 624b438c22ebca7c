-- What accesses leave of words, and what agents know of them: two of two agents come to the same in either order, unless they are to one word
-- and one of them writes.
use Rattle.std.proofs.Common.{◌≡◌, ℕ, zero, suc, ◌+◌, ◌<◌, ◌≤◌, ◌==◌, ◌&&◌, ◌||◌, Bool, true, false, cond, sym, ◌∙◌, ap, refl, subst, arith, List, [], ◌∷◌, ◌++◌, drop, length, map, Option, Some, None, eq-eqb, length-append, ◌⊎◌, inl, inr}
use Rattle.std.specs.Prelude.{slice_get}
use Rattle.std.specs.List.{list_any}
use Rattle.std.proofs.lemmas.Bool.{and_parts, cases_Bool, eqb-false, eqb-true, false≢true, or_left, or_right}
use Rattle.std.proofs.Math.Bool.{or_comm}
use Rattle.es_event.specs.declared.access.Change.{Change}
use Rattle.es_event.specs.declared.event.Event.{Event}
use Rattle.es_event.specs.declared.row.Row.{Row}
use Rattle.es_event.specs.Access.{change_by}
use Rattle.es_event.specs.Order.{Due, receive}
use Rattle.es_event.specs.Heard.{a_word, silence}
use Rattle.es_laws.specs.Races.{Mark, first_of}
use Rattle.es_theorems.specs.Alone.{Finds, GoFar, Goes, Hears, IsSane, Letter, Local, Locals, Lore, Touch, Touched, Words, World, addressed, changes, clash, hears_at, is_known, is_over, learned, left_over, letters, lore_after, new_lore, over_block, plain, posted_by, sent_by, times, touch_by, touched_by, touched_now, words_after, change_at, lore_with, own_mark}
use Rattle.es_theorems.proofs.Spending.{test_turned}

-- Words

-- two accesses to one word, one of them a write where these are the words
abbrev pub clashes : Words → Option Touch → Option Touch → Bool
clashes m None q = false
clashes m (Some t) None = false
clashes m (Some t) (Some u) = clash (touched_by [] m t) (touched_by [] m u)

pub clash_turned : (x y : Touched) → clash x y ≡ clash y x
clash_turned x y =
    ap (λ b. (b && (x.index == y.index)) && (x.writes || y.writes)) (test_turned x.block y.block)
    ∙ ap (λ b. ((y.block == x.block) && b) && (x.writes || y.writes)) (test_turned x.index y.index)
    ∙ ap (λ b. ((y.block == x.block) && (y.index == x.index)) && b) (or_comm x.writes y.writes)

pub clashes_turned : (m : Words) (p q : Option Touch) → clashes m p q ≡ clashes m q p
clashes_turned m None None = refl
clashes_turned m None (Some u) = refl
clashes_turned m (Some t) None = refl
clashes_turned m (Some t) (Some u) = clash_turned (touched_by [] m t) (touched_by [] m u)

no_change : (c : Change) (old : ℕ) → changes c ≡ false → left_over c old ≡ old
no_change Change.Keep old e = refl
no_change (Change.Write w) old e = cc
no_change (Change.Add n) old e = cc

-- where both are to one word, neither writes
record NeitherWrites (m : Words) (t u : Touch) : Type 0 where
  first : changes (change_at m t) ≡ false
  second : changes (change_at m u) ≡ false

neither : (m : Words) (t u : Touch) → clash (touched_by [] m t) (touched_by [] m u) ≡ false → is_over u.block u.index t ≡ true → NeitherWrites m t u
neither m t u off here = at (changes (change_at m t)) (changes (change_at m u)) refl refl
  where
    none : (changes (change_at m t) || changes (change_at m u)) ≡ false
    none = sym (ap (λ b. b && (changes (change_at m t) || changes (change_at m u))) here) ∙ off

    at : (a b : Bool) → changes (change_at m t) ≡ a → changes (change_at m u) ≡ b → NeitherWrites m t u
    at false false x y = record { first = x; second = y }
    at true b x y = absurd (false≢true (sym none ∙ ap (λ a. a || changes (change_at m u)) x))
    at false true x y = absurd (false≢true (sym none ∙ (ap (λ a. a || changes (change_at m u)) x ∙ y)))

one_word : (m : Words) (t : Touch) (b x : ℕ) → is_over b x t ≡ true → m t.block t.index ≡ m b x
one_word m t b x here =
    let both = and_parts (t.block == b) (t.index == x) here in
    ap (λ b. m b t.index) (eqb-true t.block b both.0) ∙ ap (m b) (eqb-true t.index x both.1)

-- a word that an access does not write stays
pub word_kept : (m : Words) (t : Touch) (b x : ℕ) → (is_over b x t && changes (change_at m t)) ≡ false → words_after m (Some t) b x ≡ m b x
word_kept m t b x off = at (is_over b x t) refl
  where
    at : (p : Bool) → is_over b x t ≡ p → words_after m (Some t) b x ≡ m b x
    at true here =
        ap (λ p. cond p (left_over (change_at m t) (m t.block t.index)) (m b x)) here
        ∙ no_change (change_at m t) (m t.block t.index) (sym (ap (λ p. p && changes (change_at m t)) here) ∙ off) ∙ one_word m t b x here
    at false here = ap (λ p. cond p (left_over (change_at m t) (m t.block t.index)) (m b x)) here

first_off : (p a b : Bool) → (p && (a || b)) ≡ false → (p && a) ≡ false
first_off true true b e = cc
first_off true false b e = refl
first_off false a b e = refl

-- the one finds what it would find without the other
word_still : (m : Words) (t u : Touch) → clash (touched_by [] m t) (touched_by [] m u) ≡ false → words_after m (Some t) u.block u.index ≡ m u.block u.index
word_still m t u off = word_kept m t u.block u.index (first_off (is_over u.block u.index t) (changes (change_at m t)) (changes (change_at m u)) off)

swapped : {A : Type 0} (p q : Bool) (x y z : A) → (p ≡ true → q ≡ true → x ≡ y) → cond q x (cond p y z) ≡ cond p y (cond q x z)
swapped true true x y z same = same refl refl
swapped true false x y z same = refl
swapped false true x y z same = refl
swapped false false x y z same = refl

either_at : (m : Words) (t u : Touch) (b x : ℕ) → clash (touched_by [] m t) (touched_by [] m u) ≡ false → words_after (words_after m (Some t)) (Some u) b x ≡ words_after (words_after m (Some u)) (Some t) b x
either_at m t u b x off =
    ap (λ k. cond (is_over b x u) (left_over (change_by u.access.edit k) k) (words_after m (Some t) b x)) (word_still m t u off)
    ∙ swapped (is_over b x t) (is_over b x u) (left_over (change_at m u) (m u.block u.index)) (left_over (change_at m t) (m t.block t.index)) (m b x) same
    ∙ sym (ap (λ k. cond (is_over b x t) (left_over (change_by t.access.edit k) k) (words_after m (Some u) b x)) (word_still m u t (clash_turned (touched_by [] m u) (touched_by [] m t) ∙ off)))
  where
    same : is_over b x t ≡ true → is_over b x u ≡ true → left_over (change_at m u) (m u.block u.index) ≡ left_over (change_at m t) (m t.block t.index)
    same one two =
        let p = and_parts (t.block == b) (t.index == x) one in
        let q = and_parts (u.block == b) (u.index == x) two in
        let here : is_over u.block u.index t ≡ true =
        ap (λ c. c && (t.index == u.index)) (eq-eqb t.block u.block (eqb-true t.block b p.0 ∙ sym (eqb-true u.block b q.0)))
        ∙ eq-eqb t.index u.index (eqb-true t.index x p.1 ∙ sym (eqb-true u.index x q.1)) in
        let still = neither m t u off here in
        no_change (change_at m u) (m u.block u.index) still.second ∙ sym (one_word m t u.block u.index here) ∙ sym (no_change (change_at m t) (m t.block t.index) still.first)

pub words_either : (m : Words) (p q : Option Touch) → clashes m p q ≡ false → words_after (words_after m p) q ≡ words_after (words_after m q) p
words_either m None None off = refl
words_either m None (Some u) off = refl
words_either m (Some t) None off = refl
words_either m (Some t) (Some u) off = λ k. λ b x. either_at m t u b x off k

pub hears_same : (m : Words) (p q : Option Touch) → clashes m p q ≡ false → hears_at (words_after m p) q ≡ hears_at m q
hears_same m p None off = refl
hears_same m None (Some u) off = refl
hears_same m (Some t) (Some u) off = ap (λ k. cond u.access.gives_word (a_word k) silence) (word_still m t u off)

-- What the agents know

abbrev touched_at : List Mark → Touch → ℕ → List Touched
touched_at knew t old = record { block = t.block; index = t.index; writes = changes (change_by t.access.edit old); knew = knew } ∷ []

-- an access writes where it would write without the other
touched_still : (m : Words) (p q : Option Touch) (knew : List Mark) → clashes m p q ≡ false → touched_now knew (words_after m p) q ≡ touched_now knew m q
touched_still m p None knew off = refl
touched_still m None (Some u) knew off = refl
touched_still m (Some t) (Some u) knew off = ap (touched_at knew u) (word_still m t u off)

pub lore_still : (old : Lore) (i : ℕ) (marks : List Mark) (m : Words) (p q : Option Touch) (sent : List (ℕ × Letter)) → clashes m p q ≡ false → lore_with old i marks (words_after m p) q sent ≡ lore_with old i marks m q sent
lore_still old i marks m p q sent off = λ k. record {
  knows = marks ++ (own_mark i old.touched q ++ old.knows);
  told = λ r. old.told r ++ map (λ x. old.knows) (addressed r sent);
  touched = old.touched ++ touched_still m p q old.knows off k;
}

-- what the step of agent i leaves of what it knows
abbrev pub lore_of_step : (n : ℕ) (w : World) (i : ℕ) (t : World) → Goes n w i t → Lore
lore_of_step n w i t x = new_lore (w.lore i) i (learned w.lore i x.before x.got) w.words x.before x.event

pub lore_there : (f : ℕ → Lore) (i : ℕ) (x : Lore) (j : ℕ) → (i ≡ j → ⊥) → lore_after f i x j ≡ f j
lore_there f i x j other = elim (cases_Bool (i == j)) [
  | inl same ↦ absurd (other (eqb-true i j same))
  | inr off ↦ ap (λ b. cond b x (f j)) off
]

pub lore_here : (f : ℕ → Lore) (i : ℕ) (x : Lore) → lore_after f i x i ≡ x
lore_here f i x = ap (λ b. cond b x (f i)) (eq-eqb i i refl)

pub lore_either : (f : ℕ → Lore) (i j : ℕ) (x y : Lore) → (i ≡ j → ⊥) → lore_after (lore_after f i x) j y ≡ lore_after (lore_after f j y) i x
lore_either f i j x y other = λ k. λ a. swapped (i == a) (j == a) y x (f a) (λ p q. absurd (other (eqb-true i a p ∙ sym (eqb-true j a q)))) k

pub lore_mine : (n : ℕ) (w : World) (i : ℕ) (t : World) (x : Goes n w i t) → t.lore i ≡ lore_of_step n w i t x
lore_mine n w i t x = ap (λ v. v.lore i) x.is ∙ lore_here w.lore i (lore_of_step n w i t x)

pub lore_other : (n : ℕ) (w : World) (i : ℕ) (t : World) → Goes n w i t → (j : ℕ) → (i ≡ j → ⊥) → t.lore j ≡ w.lore j
lore_other n w i t x j other = ap (λ v. v.lore j) x.is ∙ lore_there w.lore i (lore_of_step n w i t x) j other

-- Lists

pub drop_left : {A : Type 0} (k : ℕ) (xs : List A) (y : A) (ys : List A) → drop k xs ≡ y ∷ ys → k < length xs
drop_left zero [] y ys e = cc
drop_left zero (x ∷ xs) y ys e = omega arith
drop_left (suc k) [] y ys e = cc
drop_left (suc k) (x ∷ xs) y ys e = let rest = drop_left k xs y ys e in omega (arith, rest)

first_stays : (k : ℕ) (xs ys : List (List Mark)) → k < length xs → first_of (drop k (xs ++ ys)) ≡ first_of (drop k xs)
first_stays k [] ys less = absurd (omega (arith, less))
first_stays zero (x ∷ xs) ys less = refl
first_stays (suc k) (x ∷ xs) ys less = first_stays k xs ys (omega (arith, less))

pub either : (a b : Bool) → (a || b) ≡ true → (a ≡ true) ⊎ (b ≡ true)
either true b e = inl refl
either false b e = inr e

pub any_parts : {A : Type 0} (p : A → Bool) (xs ys : List A) → list_any p (xs ++ ys) ≡ true → (list_any p xs ≡ true) ⊎ (list_any p ys ≡ true)
any_parts p [] ys e = inr e
any_parts p (x ∷ xs) ys e = elim (either (p x) (list_any p (xs ++ ys)) e) [
  | inl here ↦ inl (or_left (p x) (list_any p xs) here)
  | inr there ↦ elim (any_parts p xs ys there) [
    | inl one ↦ inl (or_right (p x) (list_any p xs) one)
    | inr two ↦ inr two
  ]
]

pub any_first : (x : Mark) (k : ℕ) (ts : List (List Mark)) → is_known x (first_of (drop k ts)) ≡ true → list_any (is_known x) ts ≡ true
any_first x zero [] e = cc
any_first x zero (t ∷ ts) e = or_left (is_known x t) (list_any (is_known x) ts) e
any_first x (suc k) [] e = cc
any_first x (suc k) (t ∷ ts) e = or_right (is_known x t) (list_any (is_known x) ts) (any_first x k ts e)

pub any_mapped : (x : Mark) (marks : List Mark) (ls : List Letter) → list_any (is_known x) (map (λ m. marks) ls) ≡ true → is_known x marks ≡ true
any_mapped x marks [] e = cc
any_mapped x marks (l ∷ ls) e = elim (either (is_known x marks) (list_any (is_known x) (map (λ m. marks) ls)) e) [
  | inl here ↦ here
  | inr there ↦ any_mapped x marks ls there
]

pub get_more : {A : Type 0} (xs ys : List A) (p : ℕ) (x : A) → slice_get xs p ≡ Some x → slice_get (xs ++ ys) p ≡ Some x
get_more [] ys p x e = cc
get_more (z ∷ xs) ys zero x e = e
get_more (z ∷ xs) ys (suc p) x e = get_more xs ys p x e

pub get_last : {A : Type 0} (xs : List A) (x : A) → slice_get (xs ++ x ∷ []) (length xs) ≡ Some x
get_last [] x = refl
get_last (z ∷ xs) x = get_last xs x

-- A message that an agent takes tells it the same after another's step

-- no message came, or the first of those that are there
abbrev pub Took : Locals → ℕ → Local → List ℕ → Type 0
Took all i a got = (got ≡ []) ⊎ ((s : ℕ) × (times s a.got < length (sent_by (slice_get all s) i)) × (got ≡ s ∷ []))

took_letter : (all : Locals) (i s : ℕ) (a : Local) (e : Event) (r : Option Row) (got : List ℕ) (ls : List Letter) → letters all s i a ≡ ls → Hears all i s a ls e r got → Took all i a got
took_letter all i s a e r got [] is h = inl h.2
took_letter all i s a e r got (plain v ∷ ls) is h = inr (s, drop_left (times s a.got) (sent_by (slice_get all s) i) (plain v) ls is, h.2)
took_letter all i s a e r got (over_block q ∷ ls) is h = inr (s, drop_left (times s a.got) (sent_by (slice_get all s) i) (over_block q) ls is, h.1)

pub took : (n : ℕ) (all : Locals) (m : Words) (i : ℕ) (a : Local) (d : Due) (e : Event) (r : Option Row) (got : List ℕ) → Finds n all m i a d e r got → Took all i a got
took n all m i a (receive k s) e r got f = took_letter all i s a e r got (letters all s i a) refl f
took n all m i a _ e r got f = inl f.1

pub learned_still : (n : ℕ) (w : World) (i : ℕ) (t : World) → IsSane w → Goes n w i t → (j : ℕ) (b : Local) (got : List ℕ) → Took w.locals j b got → learned t.lore j b got ≡ learned w.lore j b got
learned_still n w i t sane x j b got (inl none) = ap (learned t.lore j b) none ∙ sym (ap (learned w.lore j b) none)
learned_still n w i t sane x j b got (inr (s, less, is)) = ap (learned t.lore j b) is ∙ by_sender ∙ sym (ap (learned w.lore j b) is)
  where
    by_sender : first_of (drop (times s b.got) ((t.lore s).told j)) ≡ first_of (drop (times s b.got) ((w.lore s).told j))
    by_sender = elim (cases_Bool (i == s)) [
      | inr off ↦ ap (λ (o : Lore). first_of (drop (times s b.got) (o.told j))) (lore_other n w i t x s (eqb-false i s off))
      | inl here ↦ (
          let same = eqb-true i s here in
          let size : length ((w.lore i).told j) ≡ length (addressed j x.before.sent) = sane.parallel i j x.before x.at in
          let there : times s b.got < length (addressed j x.before.sent) = subst (λ o. times s b.got < length (sent_by o j)) (ap (slice_get w.locals) (sym same) ∙ x.at) less in
          ap (λ s'. first_of (drop (times s b.got) ((t.lore s').told j))) (sym same)
          ∙ ap (λ (o : Lore). first_of (drop (times s b.got) (o.told j))) (lore_mine n w i t x)
          ∙ first_stays (times s b.got) ((w.lore i).told j) (map (λ m. (w.lore i).knows) (addressed j (posted_by x.before.over x.event))) (omega (arith, size, there))
          ∙ ap (λ s'. first_of (drop (times s b.got) ((w.lore s').told j))) same)
    ]

-- Accesses that were made stay

pub touched_stays : (n : ℕ) (w : World) (i : ℕ) (t : World) → Goes n w i t → (j p : ℕ) (y : Touched) → slice_get (w.lore j).touched p ≡ Some y → slice_get (t.lore j).touched p ≡ Some y
touched_stays n w i t x j p y is = elim (cases_Bool (i == j)) [
  | inr off ↦ ap (λ (o : Lore). slice_get o.touched p) (lore_other n w i t x j (eqb-false i j off)) ∙ is
  | inl here ↦ (
      let same = eqb-true i j here in
      ap (λ k. slice_get (t.lore k).touched p) (sym same) ∙ ap (λ (o : Lore). slice_get o.touched p) (lore_mine n w i t x)
      ∙ get_more (w.lore i).touched (touched_now (w.lore i).knows w.words (touch_by x.before.over x.event)) p y (ap (λ k. slice_get (w.lore k).touched p) same ∙ is))
]

pub touched_far : (n k : ℕ) (w end : World) → GoFar n k w end → (j p : ℕ) (y : Touched) → slice_get (w.lore j).touched p ≡ Some y → slice_get (end.lore j).touched p ≡ Some y
touched_far n zero w end far j p y is = ap (λ (v : World). slice_get (v.lore j).touched p) far ∙ is
touched_far n (suc k) w end (i, mid, x, far) j p y is = touched_far n k mid end far j p y (touched_stays n w i mid x j p y is)

-- and are as many or more
pub touched_grow : (n : ℕ) (w : World) (i : ℕ) (t : World) → Goes n w i t → (j : ℕ) → length (w.lore j).touched ≤ length (t.lore j).touched
touched_grow n w i t x j = elim (cases_Bool (i == j)) [
  | inr off ↦ (let same = ap (λ (o : Lore). length o.touched) (lore_other n w i t x j (eqb-false i j off)) in omega (arith, same))
  | inl here ↦ (
      let same = eqb-true i j here in
      let now = touched_now (w.lore i).knows w.words (touch_by x.before.over x.event) in
      let size : length (t.lore j).touched ≡ length (w.lore i).touched + length now =
      ap (λ k. length (t.lore k).touched) (sym same) ∙ ap (λ (o : Lore). length o.touched) (lore_mine n w i t x) ∙ length-append (w.lore i).touched now in
      let old = ap (λ k. length (w.lore k).touched) same in
      omega (arith, size, old))
]
