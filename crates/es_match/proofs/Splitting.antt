-- A history of a ledger, split event by event into the agents' parts.
use Rattle.std.proofs.Common.{◌≡◌, ℕ, zero, suc, ◌<◌, ◌≤◌, ◌+◌, ◌-◌, Bool, true, false, ◌&&◌, ◌==◌, List, [], ◌∷◌, ◌++◌, length, take, drop, slice_index_or, refl, sym, subst, ◌∙◌, ap, arith, append_assoc, append-nil, Option, Some, None, Result, Ok, Err, if◌then◌else◌}
use Rattle.std.specs.Prelude.{reverse, slice_set, OnOk, IfSome, ⊤}
use Rattle.std.proofs.lemmas.List.{reverse-append, take_more, take-append-drop, get_or-set_same, get_or_default, length-drop}
use Rattle.std.proofs.Math.Seq.{drop-cons, take-add}
use Rattle.es_event.specs.declared.ledger_event.LedgerEvent.{LedgerEvent}
use Rattle.es_event.specs.declared.ledger_event.LedgerEvent.TheVariants.{Accessed}
use Rattle.es_event.specs.Ledger.{Ledger}
use Rattle.es_match.specs.declared.stretch.Stretch.{Stretch}
use Rattle.es_match.specs.Deeds.{Deed, Owned, deed, is_wait, part, part_of}
use Rattle.es_match.specs.Orderly.{may_come, orderly}
use Rattle.es_match.specs.Split.{IsSplit, IsStep, added, part_at, stretch_said, stretches_said}
use Rattle.es_match.specs.declared.ledger_pass.LedgerPass.{LedgerPass}
use Rattle.es_match.specs.LedgerPass.{Says}
use Rattle.es_match.specs.Words.{AreWordsAfter, AreWordsBy, is_word_by, words_said}
use Rattle.es_match.proofs.Running.{AreAfter, all_after, first_holds, more}

pub past : {A : Type 0} (xs : List A) (i : ℕ) (d : A) → length xs ≤ i → slice_index_or xs i d ≡ d
past [] i d h = refl
past (x ∷ xs) zero d h = absurd (omega arith)
past (x ∷ xs) (suc i) d h = past xs i d (omega arith)

-- what was passed over, with one more event
suc_last : (i : ℕ) → suc i ≡ i + 1
suc_last i = omega arith

first_more : {A : Type 0} (xs : List A) (i : ℕ) (x : A) → i < length xs → x ≡ slice_index_or xs i x → drop i xs ≡ x ∷ drop (i + 1) xs
first_more xs i x h is = drop-cons xs i x h ∙ ap (λ y. y ∷ drop (suc i) xs) (sym is) ∙ ap (λ k. x ∷ drop k xs) (suc_last i)

suc_is : (k : ℕ) → 1 + k ≡ suc k
suc_is k = omega arith

-- the same with some of those that follow
pub reverse_on : {A : Type 0} (xs : List A) (i k : ℕ) (x : A) → i < length xs → x ≡ slice_index_or xs i x
    → reverse (take (i + (1 + k)) xs) ≡ reverse (take k (drop (i + 1) xs)) ++ x ∷ reverse (take i xs)
reverse_on xs i k x h is =
    ap (λ m. reverse (take (i + m) xs)) (suc_is k)
    ∙ ap reverse (take-add i (suc k) xs) ∙ reverse-append (take i xs) (take (suc k) (drop i xs))
    ∙ ap (λ l. reverse (take (suc k) l) ++ reverse (take i xs)) (first_more xs i x h is)
    ∙ ap (λ l. l ++ reverse (take i xs)) (reverse-append (x ∷ []) (take k (drop (i + 1) xs)))
    ∙ append_assoc (reverse (take k (drop (i + 1) xs))) (x ∷ []) (reverse (take i xs))

-- the whole, from what was passed over, an event and what is left
whole : {A : Type 0} (xs : List A) (i : ℕ) (x : A) → i < length xs → x ≡ slice_index_or xs i x
    → reverse xs ≡ reverse (drop (suc i) xs) ++ x ∷ reverse (take i xs)
whole xs i x h is =
    ap reverse (sym (take-append-drop i xs)) ∙ reverse-append (take i xs) (drop i xs)
    ∙ ap (λ l. reverse l ++ reverse (take i xs)) (drop-cons xs i x h)
    ∙ ap (λ y. reverse (y ∷ drop (suc i) xs) ++ reverse (take i xs)) (sym is)
    ∙ ap (λ l. l ++ reverse (take i xs)) (reverse-append (x ∷ []) (drop (suc i) xs))
    ∙ append_assoc (reverse (drop (suc i) xs)) (x ∷ []) (reverse (take i xs))

and_false : (b c : Bool) → c ≡ false → (b && c) ≡ false
and_false true c e = e
and_false false c e = refl

later : (n : ℕ) (ys : List LedgerEvent) (l : Ledger) → orderly n l ≡ false → orderly n (ys ++ l) ≡ false
later n [] l e = e
later n (y ∷ ys) l e = and_false (may_come n (ys ++ l) (deed (ys ++ l) y)) (orderly n (ys ++ l)) (later n ys l e)

-- an event that may not come spoils the whole history
pub spoiled : (n : ℕ) (xs : List LedgerEvent) (i : ℕ) (x : LedgerEvent) → i < length xs → x ≡ slice_index_or xs i x
    → may_come n (reverse (take i xs)) (deed (reverse (take i xs)) x) ≡ false → orderly n (reverse xs) ≡ false
spoiled n xs i x h is e =
    ap (orderly n) (whole xs i x h is)
    ∙ later n (reverse (drop (suc i) xs)) (x ∷ reverse (take i xs)) (ap (λ b. b && orderly n (reverse (take i xs))) e)

-- One step of the pass

one_added : (a : ℕ) (o : Owned) → added a o [] ≡ part_of a o
one_added a None = refl
one_added a (Some p) = refl

split_more : (n : ℕ) (l : Ledger) (e : LedgerEvent) (ps qs : List (List Stretch)) (o : Owned) → o ≡ deed l e
    → may_come n l o ≡ true → length qs ≡ length ps → ((a : ℕ) → part_at qs a ≡ part_at ps a ++ added a o []) → IsSplit n l ps → IsSplit n (e ∷ l) qs
split_more n l e ps qs o is comes same more s = record {
  size = same ∙ s.size;
  order = ap (λ x. may_come n l x && orderly n l) (sym is) ∙ ap (λ b. b && orderly n l) comes ∙ s.order;
  parts = λ a. more a ∙ ap (λ p. p ++ added a o []) (s.parts a) ∙ ap (λ x. part l a ++ x) (one_added a o) ∙ ap (λ x. part l a ++ part_of a x) is;
}

words_added : (a b : ℕ) (d : Deed) (ws before : List Deed) → is_wait d ≡ false → before ++ added b (Some (a, d)) ws ≡ (before ++ part_of b (Some (a, d))) ++ more a b ws
words_added a b d ws before e = rw e (by_test (a == b) d ws before)
  where
    by_test : (x : Bool) (d : Deed) (ws before : List Deed) → before ++ (if x && true then d ∷ ws else []) ≡ (before ++ (if x && true then d ∷ [] else [])) ++ (if x then ws else [])
    by_test true d ws before = sym (append_assoc before (d ∷ []) ws)
    by_test false d ws before = sym (append_assoc before [] [])

-- with the words that follow a word
with_words : (n : ℕ) (l : Ledger) (e : LedgerEvent) (es : List LedgerEvent) (t : LedgerPass) (ps qs : List (List Stretch)) (a : ℕ) (d : Deed)
    → Some (a, d) ≡ deed l e → may_come n l (Some (a, d)) ≡ true → is_wait d ≡ false → AreAfter n (e ∷ l) a es → Says (e ∷ l) t
    → length qs ≡ length ps → ((b : ℕ) → part_at qs b ≡ part_at ps b ++ added b (Some (a, d)) (words_said es)) → IsSplit n l ps
    → Says (reverse es ++ e ∷ l) t × IsSplit n (reverse es ++ e ∷ l) qs
with_words n l e es t ps qs a d is comes no_wait after says same adds s = (
  after.says t says,
  record {
    size = same ∙ s.size;
    order = after.order ∙ ap (λ x. may_come n l x && orderly n l) (sym is) ∙ ap (λ b. b && orderly n l) comes ∙ s.order;
    parts = λ b. adds b ∙ ap (λ p. p ++ added b (Some (a, d)) (words_said es)) (s.parts b) ∙ words_added a b d (words_said es) (part l b) no_wait
        ∙ ap (λ x. (part l b ++ part_of b x) ++ more a b (words_said es)) is ∙ sym (after.parts b);
  },
)

without : (n : ℕ) (l : Ledger) (e : LedgerEvent) (es : List LedgerEvent) (t : LedgerPass) (ps qs : List (List Stretch)) (o : Owned) → es ≡ []
    → o ≡ deed l e → may_come n l o ≡ true → Says (e ∷ l) t
    → length qs ≡ length ps → ((a : ℕ) → part_at qs a ≡ part_at ps a ++ added a o (words_said es)) → IsSplit n l ps
    → Says (reverse es ++ e ∷ l) t × IsSplit n (reverse es ++ e ∷ l) qs
without n l e es t ps qs o none is comes says same adds s =
    subst (λ (ys : List LedgerEvent). Says (reverse ys ++ e ∷ l) t × IsSplit n (reverse ys ++ e ∷ l) qs) (sym none)
    (says, split_more n l e ps qs o is comes same (λ a. adds a ∙ ap (λ ys. part_at ps a ++ added a o (words_said ys)) none) s)

-- the parts have their number
pub for_number : (n : ℕ) (l m : Ledger) (t : LedgerPass) (ps qs : List (List Stretch)) → IsSplit n l ps
    → (IsSplit (length ps) l ps → Says m t × IsSplit (length ps) m qs) → Says m t × IsSplit n m qs
for_number n l m t ps qs s step = subst (λ (k : ℕ). Says m t × IsSplit k m qs) s.size (step (subst (λ (k : ℕ). IsSplit k l ps) (sym s.size) s))

pub split_on : (n : ℕ) (l : Ledger) (e : LedgerEvent) (es : List LedgerEvent) (t : LedgerPass) (ps qs : List (List Stretch)) (o : Owned)
    → (o ≡ None → es ≡ []) → AreWordsAfter e es → o ≡ deed l e → may_come n l o ≡ true → Says (e ∷ l) t
    → length qs ≡ length ps → ((a : ℕ) → part_at qs a ≡ part_at ps a ++ added a o (words_said es)) → IsSplit n l ps
    → Says (reverse es ++ e ∷ l) t × IsSplit n (reverse es ++ e ∷ l) qs
split_on n l e es t ps qs None nobody are is comes says same adds s = without n l e es t ps qs None (nobody refl) is comes says same adds s
split_on n l (Accessed k i m old) es t ps qs (Some p) nobody are is comes says same adds s =
    let first = first_holds n l p.0 p.1 k i m old is comes in
    with_words n l (Accessed k i m old) es t ps qs p.0 p.1 is comes first.2
    (all_after n k p.0 es (Accessed k i m old ∷ l) first.0 first.1 are) says same adds s
split_on n l _ es t ps qs (Some p) nobody are is comes says same adds s = without n l _ es t ps qs (Some p) are is comes says same adds s

-- The parts, as the code has them

stretches_append : (ss rs : List Stretch) → stretches_said (ss ++ rs) ≡ stretches_said ss ++ stretches_said rs
stretches_append [] rs = refl
stretches_append (s ∷ ss) rs = ap (λ ds. stretch_said s ++ ds) (stretches_append ss rs) ∙ sym (append_assoc (stretch_said s) (stretches_said ss) (stretches_said rs))

pub one_stretch : (ss : List Stretch) (s : Stretch) → stretches_said (ss ++ s ∷ []) ≡ stretches_said ss ++ stretch_said s
one_stretch ss s = stretches_append ss (s ∷ []) ∙ ap (λ ds. stretches_said ss ++ ds) (append-nil (stretch_said s))

-- One more word

words_append : (s : ℕ) (es fs : List LedgerEvent) → AreWordsBy s es → AreWordsBy s fs → AreWordsBy s (es ++ fs)
words_append s [] fs are more = more
words_append s (e ∷ es) fs are more = (are.0, words_append s es fs are.1 more)

pub one_more_word : (s : ℕ) (es : List LedgerEvent) (i : ℕ) (e : LedgerEvent) → i < length es → e ≡ slice_index_or es i e → is_word_by s e ≡ true
    → AreWordsBy s (take i es) → AreWordsBy s (take (i + 1) es)
one_more_word s es i e h is word are = subst (AreWordsBy s) (sym (take_more es i e h ∙ ap (λ x. take i es ++ x ∷ []) (sym is))) (words_append s (take i es) (e ∷ []) are (word, tt))

pub take_all : {A : Type 0} (xs : List A) (i : ℕ) → length xs ≤ i → take i xs ≡ xs
take_all [] zero h = refl
take_all [] (suc i) h = refl
take_all (x ∷ xs) zero h = absurd (omega arith)
take_all (x ∷ xs) (suc i) h = ap (λ l. x ∷ l) (take_all xs i (omega arith))

-- a stretch that was pushed at a part
pub pushed : {E : Type 0} (r : Result ⊤ E) (ps : List (List Stretch)) (a : ℕ) (after before : List Stretch) (s : Stretch) → a < length ps
    → before ≡ slice_index_or ps a before → OnOk r (after ≡ before ++ s ∷ []) → OnOk r (part_at (slice_set ps a after) a ≡ part_at ps a ++ stretch_said s)
pushed (Err e) ps a after before s h at more = tt
pushed (Ok u) ps a after before s h at more =
    ap stretches_said (get_or-set_same ps a after [] h ∙ more) ∙ one_stretch before s
    ∙ ap (λ ss. stretches_said ss ++ stretch_said s) (at ∙ get_or_default ps a before [] h)

-- what a step came to

pub stepped : (o : Option ℕ) (k n : ℕ) (l : Ledger) (e : LedgerEvent) (later : List LedgerEvent) (t : LedgerPass) (qs : List (List Stretch)) → o ≡ Some k
    → IsStep o n l e later t qs → Says (reverse (take k later) ++ e ∷ l) t × IsSplit n (reverse (take k later) ++ e ∷ l) qs
stepped o k n l e later t qs is step = subst (λ (p : Option ℕ). IsStep p n l e later t qs) is step

pub may_not_come : (o : Option ℕ) (n : ℕ) (l : Ledger) (e : LedgerEvent) (later : List LedgerEvent) (t : LedgerPass) (qs : List (List Stretch)) → o ≡ None
    → IsStep o n l e later t qs → may_come n l (deed l e) ≡ false
may_not_come o n l e later t qs is step = subst (λ (p : Option ℕ). IsStep p n l e later t qs) is step

-- a step stays within the history
pub within_all : (xs later : List LedgerEvent) (i k : ℕ) (o : Option ℕ) → o ≡ Some k → IfSome o (λ j. j ≤ length later) → later ≡ drop (i + 1) xs → i < length xs
    → i + (1 + k) ≤ length xs
within_all xs later i k o is within at h =
    let few : k ≤ length later = subst (λ (p : Option ℕ). IfSome p (λ j. j ≤ length later)) is within in
    let left : length later ≡ length xs - (i + 1) = ap length at ∙ length-drop (i + 1) xs in
    omega arith
