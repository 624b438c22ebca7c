-- Accesses to words: each finds what the newest before it left; sums; and receipts come after their posts.
use Rattle.std.proofs.Common.{◌≡◌, ℕ, ◌+◌, ◌%◌, ◌^◌, ◌≤◌, ◌==◌, ◌&&◌, not, Bool, true, false, cond, sym, ◌∙◌, ap, refl, subst, arith, List, [], ◌∷◌, ◌++◌, append_assoc, drop, eq-eqb, length, Option, Some, None, is_some, unwrap_or, ◌⊎◌, inl, inr}
use Rattle.std.specs.Prelude.{slice_get}
use Rattle.std.specs.List.{list_all, sum_by}
use Rattle.std.specs.Option.{option_and_then, option_map}
use Rattle.std.proofs.lemmas.Bool.{and_parts, eqb-true, false≢true}
use Rattle.std.proofs.lemmas.List.{length-append}
use Rattle.std.proofs.lemmas.List.Sums.{sum_by-cons}
use Rattle.es_event.specs.declared.access.Change.{Change}
use Rattle.es_event.specs.declared.ledger_event.Body.{Body}
use Rattle.es_event.specs.declared.ledger_event.LedgerEvent.{LedgerEvent}
use Rattle.es_event.specs.declared.ledger_event.LedgerEvent.TheVariants.{Posted, Taken, Accessed, Drained}
use Rattle.es_event.specs.declared.row.Row.{Row}
use Rattle.es_event.specs.Access.{IsStorable, written}
use Rattle.es_event.specs.Ledger.{Ledger, holder_of, is_at, newest_word, port_of, word}
use Rattle.es_event.specs.LegalLedger.{ComesNext, LegalSoFar, Reaches, has_message, owed}
use Rattle.es_laws.specs.Memory.{FindTheNewest, WordAccess, access_by, accessed, accesses, addend, how_many, is_of, is_store, is_write, left, left_by, posts, takes}

-- A word is what the newest access left

one_word : (l : Ledger) (b i c j : ℕ) → (c == b) && (j == i) ≡ true → word l c j ≡ word l b i
one_word l b i c j is =
    let same = and_parts (c == b) (j == i) is in
    ap (λ c. word l c j) (eqb-true c b same.0) ∙ ap (word l b) (eqb-true j i same.1)

newest_left : (o : Option (ℕ × Row)) (l : Ledger) (b i j old : ℕ) (m : Change) → Reaches o j (λ r. (old ≡ word l r.block j) × IsStorable m) → word l b i ≡ left (accesses l) b i
    → newest_word (option_and_then (λ w. option_map (λ p. (p.1.block, j, w)) o) (written m old)) b i (word l b i) ≡ left (access_by o j m old ++ accesses l) b i
newest_left None l b i j old m reaches same = absurd reaches
newest_left (Some p) l b i j old Change.Keep reaches same = by ((p.1.block == b) && (j == i)) refl
  where
    by : (c : Bool) → ((p.1.block == b) && (j == i)) ≡ c → word l b i ≡ cond c old (left (accesses l) b i)
    by true is = sym (reaches.1.0 ∙ one_word l b i p.1.block j is)
    by false is = same
newest_left (Some p) l b i j old (Change.Write w) reaches same = ap (cond ((p.1.block == b) && (j == i)) w) same
newest_left (Some p) l b i j old (Change.Add n) reaches same = ap (cond ((p.1.block == b) && (j == i)) ((old + n) % 2 ^ 32)) same

left_next : (n : ℕ) (l : Ledger) (e : LedgerEvent) (o : Option ℕ) (b i : ℕ) → ComesNext n l e o → word l b i ≡ left (accesses l) b i → word (e ∷ l) b i ≡ left (accesses (e ∷ l)) b i
left_next n l e (Some k) b i c same = subst (λ e. word (e ∷ l) b i ≡ left (accesses (e ∷ l)) b i) (sym c) same
left_next n l (Accessed s j m old) None b i c same = newest_left (holder_of l s) l b i j old m c same
left_next n l _ None b i c same = same

word_left : (n : ℕ) (l : Ledger) → LegalSoFar n l → (b i : ℕ) → word l b i ≡ left (accesses l) b i
word_left n [] legal b i = refl
word_left n (e ∷ l) legal b i = left_next n l e (owed l) b i legal.0 (word_left n l legal.1 b i)

-- One order

finds_next : (o : Option (ℕ × Row)) (l : Ledger) (j old : ℕ) (m : Change) → Reaches o j (λ r. (old ≡ word l r.block j) × IsStorable m) → ((b i : ℕ) → word l b i ≡ left (accesses l) b i) → FindTheNewest (accesses l)
    → FindTheNewest (access_by o j m old ++ accesses l)
finds_next None l j old m reaches same finds = finds
finds_next (Some p) l j old m reaches same finds = (reaches.1.0 ∙ same p.1.block j, finds)

order_next : (n : ℕ) (l : Ledger) (e : LedgerEvent) (o : Option ℕ) → ComesNext n l e o → LegalSoFar n l → FindTheNewest (accesses l) → FindTheNewest (accesses (e ∷ l))
order_next n l e (Some k) c legal finds = subst (λ e. FindTheNewest (accesses (e ∷ l))) (sym c) finds
order_next n l (Accessed s j m old) None c legal finds = finds_next (holder_of l s) l j old m c (word_left n l legal) finds
order_next n l _ None c legal finds = finds

pub one_order : (n : ℕ) (l : Ledger) → LegalSoFar n l → FindTheNewest (accesses l)
one_order n [] legal = tt
one_order n (e ∷ l) legal = order_next n l e (owed l) legal.0 legal.1 (one_order n l legal.1)

finds_rest : (xs ys : List WordAccess) → FindTheNewest (xs ++ ys) → FindTheNewest ys
finds_rest [] ys finds = finds
finds_rest (x ∷ xs) ys finds = finds_rest xs ys finds.1

left_one : (xs : List WordAccess) (b i c j : ℕ) → (c == b) && (j == i) ≡ true → left xs c j ≡ left xs b i
left_one xs b i c j is =
    let same = and_parts (c == b) (j == i) is in
    ap (λ c. left xs c j) (eqb-true c b same.0) ∙ ap (left xs b) (eqb-true j i same.1)

-- what does not write leaves what it found
no_write : (x : WordAccess) → is_write x ≡ false → left_by x ≡ x.old
no_write x is = by (written x.change x.old) is
  where
    by : (o : Option ℕ) → is_some o ≡ false → unwrap_or o x.old ≡ x.old
    by None is = refl
    by (Some w) is = cc

through : (b i : ℕ) (mid rest : List WordAccess) → FindTheNewest (mid ++ rest) → list_all (λ z. not (is_of b i z && is_write z)) mid ≡ true → left (mid ++ rest) b i ≡ left rest b i
through b i [] rest finds none = refl
through b i (z ∷ mid) rest finds none =
    let parts = and_parts (not (is_of b i z && is_write z)) (list_all (λ z. not (is_of b i z && is_write z)) mid) none in
    by (is_of b i z) (is_write z) refl refl parts.0 (through b i mid rest finds.1 parts.1)
  where
    by : (c w : Bool) → is_of b i z ≡ c → is_write z ≡ w → not (c && w) ≡ true → left (mid ++ rest) b i ≡ left rest b i → cond c (left_by z) (left (mid ++ rest) b i) ≡ left rest b i
    by true true is writes ok same = cc
    by true false is writes ok same = no_write z writes ∙ finds.0 ∙ left_one (mid ++ rest) b i z.block z.index is ∙ same
    by false w is writes ok same = same

pub stays : (n : ℕ) (l : Ledger) (later mid earlier : List WordAccess) (x y : WordAccess) → LegalSoFar n l → accesses l ≡ later ++ x ∷ (mid ++ y ∷ earlier) → is_of y.block y.index x ≡ true
    → list_all (λ z. not (is_of y.block y.index z && is_write z)) mid ≡ true → x.old ≡ left_by y
stays n l later mid earlier x y legal is same none =
    let finds : FindTheNewest (x ∷ (mid ++ y ∷ earlier)) = finds_rest later (x ∷ (mid ++ y ∷ earlier)) (subst FindTheNewest is (one_order n l legal)) in
    finds.0 ∙ left_one (mid ++ y ∷ earlier) y.block y.index x.block x.index same ∙ through y.block y.index mid (y ∷ earlier) finds.1 none
    ∙ ap (λ c. cond c (left_by y) (left earlier y.block y.index)) (here y)
  where
    here : (y : WordAccess) → is_of y.block y.index y ≡ true
    here y = rw (eq-eqb y.block y.block refl, eq-eqb y.index y.index refl) refl

-- Sums

abbrev weight : ℕ → ℕ → WordAccess → ℕ
weight b i x = cond (is_of b i x) (addend x.change) 0

added_next : (b i sum : ℕ) (x : WordAccess) (xs : List WordAccess) → not (is_of b i x && is_store x.change) ≡ true → x.old ≡ left xs x.block x.index → left xs b i ≡ sum % 2 ^ 32
    → cond (is_of b i x) (left_by x) (left xs b i) ≡ (weight b i x + sum) % 2 ^ 32
added_next b i sum x xs none found same = by (is_of b i x) refl x.change refl none
  where
    by : (c : Bool) → is_of b i x ≡ c → (m : Change) → x.change ≡ m → not (c && is_store x.change) ≡ true
        → cond c (left_by x) (left xs b i) ≡ (cond {A = ℕ} c (addend x.change) 0 + sum) % 2 ^ 32
    by false is m change none = same ∙ ap (λ k. k % 2 ^ 32) (let zero : sum ≡ 0 + sum = omega arith in zero)
    by true is Change.Keep change none =
        let old : x.old ≡ sum % 2 ^ 32 = found ∙ left_one xs b i x.block x.index is ∙ same in
        rw change (old ∙ ap (λ k. k % 2 ^ 32) (let zero : sum ≡ 0 + sum = omega arith in zero))
    by true is (Change.Write w) change none = let clash : not (is_store x.change) ≡ false = rw change refl in absurd (false≢true (sym clash ∙ none))
    by true is (Change.Add k) change none =
        let old : x.old ≡ sum % 2 ^ 32 = found ∙ left_one xs b i x.block x.index is ∙ same in
        rw change (ap (λ o. (o + k) % 2 ^ 32) old ∙ (omega arith))

all_left : (b i : ℕ) (xs : List WordAccess) → FindTheNewest xs → list_all (λ x. not (is_of b i x && is_store x.change)) xs ≡ true → left xs b i ≡ sum_by (weight b i) xs % 2 ^ 32
all_left b i [] finds none = refl
all_left b i (x ∷ xs) finds none =
    let parts = and_parts (not (is_of b i x && is_store x.change)) (list_all (λ x. not (is_of b i x && is_store x.change)) xs) none in
    added_next b i (sum_by (weight b i) xs) x xs parts.0 finds.0 (all_left b i xs finds.1 parts.1) ∙ ap (λ k. k % 2 ^ 32) (sym (sum_by-cons (weight b i) x xs))

pub all_added : (n : ℕ) (l : Ledger) (b i : ℕ) → LegalSoFar n l → list_all (λ x. not (is_of b i x && is_store x.change)) (accesses l) ≡ true → word l b i ≡ sum_by (weight b i) (accesses l) % 2 ^ 32
all_added n l b i legal none = word_left n l legal b i ∙ all_left b i (accesses l) (one_order n l legal) none

-- Receipts

at_itself : (s r : ℕ) → is_at s r s r ≡ true
at_itself s r = rw (eq-eqb s s refl, eq-eqb r r refl) refl

here : (l : Ledger) (s r t u : ℕ) → is_at s r t u ≡ true → has_message l t u ≡ true → has_message l s r ≡ true
here l s r t u is has =
    let same = and_parts (s == t) (r == u) is in
    ap (λ s. has_message l s r) (eqb-true s t same.0) ∙ ap (has_message l t) (eqb-true r u same.1) ∙ has

has_one : (ms : List Body) → is_some (slice_get ms 0) ≡ true → length (drop 1 ms) + 1 ≡ length ms
has_one [] is = cc
has_one (m ∷ ms) is = omega arith

-- what a port has, with what was taken of it, is what was posted
lies_next : (n : ℕ) (l : Ledger) (e : LedgerEvent) (o : Option ℕ) (s r : ℕ) → ComesNext n l e o → how_many (takes s r) l + length (port_of l s r) ≡ how_many (posts s r) l
    → how_many (takes s r) (e ∷ l) + length (port_of (e ∷ l) s r) ≡ how_many (posts s r) (e ∷ l)
lies_next n l e (Some k) s r c same = subst (λ e. how_many (takes s r) (e ∷ l) + length (port_of (e ∷ l) s r) ≡ how_many (posts s r) (e ∷ l)) (sym c) (omega (arith, same))
lies_next n l (Posted t u m) None s r c same = by (is_at s r t u)
  where
    by : (b : Bool) → 0 + how_many (takes s r) l + length (cond b (port_of l s r ++ m ∷ []) (port_of l s r)) ≡ cond {A = ℕ} b 1 0 + how_many (posts s r) l
    by true = let more = length-append (port_of l s r) (m ∷ []) in omega (arith, same, more)
    by false = omega (arith, same)
lies_next n l (Taken t u) None s r c same = taken_off (is_at s r t u) refl
  where
    taken_off : (b : Bool) → is_at s r t u ≡ b → (cond {A = ℕ} b 1 0 + how_many (takes s r) l) + length (cond b (drop 1 (port_of l s r)) (port_of l s r)) ≡ 0 + how_many (posts s r) l
    taken_off true is = let some = has_one (port_of l s r) (here l s r t u is c) in omega (arith, same, some)
    taken_off false is = omega (arith, same)
lies_next n l (Drained t u) None s r c same = taken_off (is_at s r t u) refl
  where
    taken_off : (b : Bool) → is_at s r t u ≡ b → (cond {A = ℕ} b 1 0 + how_many (takes s r) l) + length (cond b (drop 1 (port_of l s r)) (port_of l s r)) ≡ 0 + how_many (posts s r) l
    taken_off true is = let some = has_one (port_of l s r) (here l s r t u is c.1) in omega (arith, same, some)
    taken_off false is = omega (arith, same)
lies_next n l _ None s r c same = omega (arith, same)

lies : (n : ℕ) (l : Ledger) (s r : ℕ) → LegalSoFar n l → how_many (takes s r) l + length (port_of l s r) ≡ how_many (posts s r) l
lies n [] s r legal = refl
lies n (e ∷ l) s r legal = lies_next n l e (owed l) s r legal.0 (lies n l s r legal.1)

legal_before : (n : ℕ) (later l : Ledger) → LegalSoFar n (later ++ l) → LegalSoFar n l
legal_before n [] l legal = legal
legal_before n (e ∷ later) l legal = legal_before n later l legal.1

-- of two parts of one history up to some moment, the one is the beginning of the other
begins : (a b p t : Ledger) → a ++ p ≡ b ++ t → ((c : Ledger) × (p ≡ c ++ t)) ⊎ ((c : Ledger) × (t ≡ c ++ p))
begins [] b p t is = inl (b, is)
begins (x ∷ a) [] p t is = inr (x ∷ a, sym is)
begins (x ∷ a) (y ∷ b) p t is = begins a b p t (let rest : a ++ p ≡ b ++ t = cc in rest)

more_posts : (s r : ℕ) (c l : Ledger) → how_many (posts s r) l ≤ how_many (posts s r) (c ++ l)
more_posts s r [] l = omega arith
more_posts s r (e ∷ c) l = let rest = more_posts s r c l in omega (arith, rest)

more_accesses : (c l : Ledger) → (more : List WordAccess) × (accesses (c ++ l) ≡ more ++ accesses l)
more_accesses [] l = ([], refl)
more_accesses (e ∷ c) l =
    let rest = more_accesses c l in
    (accessed (c ++ l) e ++ rest.0, ap (λ xs. accessed (c ++ l) e ++ xs) rest.1 ∙ sym (append_assoc (accessed (c ++ l) e) rest.0 (accesses l)))

-- it can't be taken before it is posted
not_before : (n s r : ℕ) (m : Body) (earlier before c : Ledger) → LegalSoFar n (Posted s r m ∷ earlier) → how_many (posts s r) earlier ≡ how_many (takes s r) before → Posted s r m ∷ earlier ≡ c ++ Taken s r ∷ before → ⊥
not_before n s r m earlier before [] legal same is = let clash : Posted s r m ∷ earlier ≡ Taken s r ∷ before = is in cc
not_before n s r m earlier before (e ∷ c) legal same is =
    let rest : earlier ≡ c ++ Taken s r ∷ before = cc in
    let took = legal_before n c (Taken s r ∷ before) (subst (LegalSoFar n) rest legal.1) in
    let all = lies n (Taken s r ∷ before) s r took in
    let one : cond {A = ℕ} (is_at s r s r) 1 0 ≡ 1 = ap (λ b. cond {A = ℕ} b 1 0) (at_itself s r) in
    let fewer = more_posts s r c (Taken s r ∷ before) in
    let here = ap (how_many (posts s r)) rest in
    absurd (omega (arith, all, one, fewer, here, same))

pub seen : (n : ℕ) (s r : ℕ) (m : Body) (l earlier before since after : Ledger) → LegalSoFar n l
    → l ≡ since ++ Posted s r m ∷ earlier → l ≡ after ++ Taken s r ∷ before → how_many (posts s r) earlier ≡ how_many (takes s r) before
    → (between : Ledger) × (more : List WordAccess) × (before ≡ between ++ Posted s r m ∷ earlier) × (accesses before ≡ more ++ accesses earlier)
seen n s r m l earlier before since after legal posted taken same = elim (begins since after (Posted s r m ∷ earlier) (Taken s r ∷ before) (sym posted ∙ taken)) [
  | inl e ↦ absurd (not_before n s r m earlier before e.0 (legal_before n since (Posted s r m ∷ earlier) (subst (LegalSoFar n) posted legal)) same e.1)
  | inr e ↦ after_it e.0 e.1
]
  where
    after_it : (c : Ledger) → Taken s r ∷ before ≡ c ++ Posted s r m ∷ earlier
        → (between : Ledger) × (more : List WordAccess) × (before ≡ between ++ Posted s r m ∷ earlier) × (accesses before ≡ more ++ accesses earlier)
    after_it [] is = let clash : Taken s r ∷ before ≡ Posted s r m ∷ earlier = is in cc
    after_it (x ∷ c) is =
        let rest : before ≡ c ++ Posted s r m ∷ earlier = cc in
        let more = more_accesses c (Posted s r m ∷ earlier) in
        (c, more.0, rest, ap accesses rest ∙ more.1)
