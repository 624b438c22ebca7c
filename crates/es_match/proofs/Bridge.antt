-- Going through a history from its oldest event finds whether an agent's deeds are what it asks.
use Rattle.std.proofs.lemmas.Bool.{and_parts}
use Rattle.std.proofs.Common.{append-nil}
use Rattle.std.proofs.Common.{◌≡◌, ℕ, zero, suc, ◌+◌, Bool, true, false, true≢false, cond, sym, ◌∙◌, ap, refl, subst, arith, List, [], ◌∷◌, ◌++◌, length, take, drop, Option, Some, None, append_assoc, ◌==◌}
use Rattle.std.specs.Prelude.{reverse}
use Rattle.std.specs.Option.{option_and_then, option_map, option_map_or}
use Rattle.std.proofs.lemmas.List.{reverse-append, reverse-reverse, take-append-drop}
use Rattle.es_event.specs.declared.event.Event.{Event}
use Rattle.es_event.specs.History.{History}
use Rattle.es_match.specs.Deeds.{Deed, Spends, Ends}
use Rattle.es_match.specs.Asks.{Asking, nothing, to_open, to_measure, to_compare, to_access, to_miss, to_sleep, to_notify, to_post, to_receive, to_refuse, to_pass, to_empty, to_close, between_jobs, ends_job, asks}
use Rattle.es_match.specs.Meets.{Tickets, Came, after, came_after, nothing_came, spends, ends, strike, serials_of, within, some_if, no_more, sole, pair, is_one}
use Rattle.es_match.specs.Cluster.{DeedsMeet}
use Rattle.es_match.specs.Goes.{asked, goes}

-- How many deeds are asked

one_less-case : (b : Bool) (n m : ℕ) (ns ms : List ℕ) (o : Option (List ℕ)) → ((l : List ℕ) → o ≡ Some l → length l + 1 ≡ length ns)
    → cond b (Some ns) (option_map (λ l. m ∷ l) o) ≡ Some ms → length ms + 1 ≡ suc (length ns)
one_less-case true n m ns ms o ih e = let s : ns ≡ ms = cc in rw (← s) (omega arith)
one_less-case false n m ns ms None ih e = absurd (cc)
one_less-case false n m ns ms (Some l) ih e = let s : (m ∷ l) ≡ ms = cc in let i = ih l refl in rw (← s) (omega arith)

one_less : (n : ℕ) (ns ms : List ℕ) → strike n ns ≡ Some ms → length ms + 1 ≡ length ns
one_less n [] ms e = absurd (cc)
one_less n (m ∷ ns) ms e = one_less-case (m == n) n m ns ms (strike n ns) (λ l is. one_less n ns l is) e

abbrev last_one : Bool → ℕ
last_one true = 1
last_one false = 0

ends-length : (closing : Bool) (ds : List Deed) → ends closing ds ≡ true → length ds ≡ last_one closing
ends-length false [] e = refl
ends-length true (Ends ∷ []) e = refl
ends-length _ _ e = absurd (cc)

mutual_case : {A : Type 0} (o : Option A) (f : A → Bool) → option_map_or f o false ≡ true → (a : A) × (o ≡ Some a) × (f a ≡ true)
mutual_case None f e = absurd (true≢false (sym e))
mutual_case (Some a) f e = (a, refl, e)

spends-length : (closing : Bool) (ns : List ℕ) (ds : List Deed) → spends closing ns ds ≡ true
    → length ds ≡ length ns + last_one closing
spends-length closing [] ds e = let c = ends-length closing ds e in omega arith
spends-length closing (n ∷ ns) (Spends s ∷ ds) e =
    let b = mutual_case (strike s (n ∷ ns)) (λ ms. spends closing ms ds) e in
    let i = spends-length closing b.0 ds b.2 in
    let l = one_less s (n ∷ ns) b.0 b.1 in omega (arith, i, l)
spends-length closing (n ∷ ns) _ e = absurd (cc)

some_if-true : {A : Type 0} (b : Bool) (t u : A) → some_if b t ≡ Some u → b ≡ true
some_if-true true t u e = refl
some_if-true false t u e = absurd (cc)

serials-length : (t : Tickets) → length (serials_of t) ≡ length t
serials-length [] = refl
serials-length (p ∷ ps) = ap suc (serials-length ps)

no-length : (ds : List Deed) → no_more ds ≡ true → length ds ≡ 0
no-length [] e = refl
no-length (d ∷ ds) e = absurd (cc)

one-length : (ds : List Deed) (f : Deed → Option Tickets) (u : Tickets) → option_and_then f (sole ds) ≡ Some u → length ds ≡ 1
one-length (d ∷ []) f u e = refl
one-length [] f u e = absurd (cc)
one-length (d ∷ c ∷ ds) f u e = absurd (cc)

is_one-length : (ds : List Deed) (f : Deed → Bool) → is_one f ds ≡ true → length ds ≡ 1
is_one-length (d ∷ []) f e = refl
is_one-length [] f e = absurd (cc)
is_one-length (d ∷ c ∷ ds) f e = absurd (cc)

two-length : (ds : List Deed) (f : Deed × Deed → Bool) → option_map_or f (pair ds) false ≡ true → length ds ≡ 2
two-length (d ∷ c ∷ []) f e = refl
two-length [] f e = absurd (cc)
two-length (d ∷ []) f e = absurd (cc)
two-length (d ∷ c ∷ b ∷ ds) f e = absurd (cc)

-- the deeds are as many as are asked
after-length : (t : Tickets) (w : Asking) (ds : List Deed) (u : Tickets) → after t w ds ≡ Some u → length ds ≡ asked t w
after-length t nothing ds u e = no-length ds (some_if-true _ _ _ e)
after-length t (to_open n v) ds u e = one-length ds _ u e
after-length t (to_measure b v) ds u e = no-length ds (and_parts _ _ (some_if-true _ _ _ e)).0
after-length t (to_compare b c v) ds u e = no-length ds (and_parts _ _ (some_if-true _ _ _ e)).0
after-length t (to_access b i m v) ds u e = is_one-length ds _ (some_if-true _ _ _ e)
after-length t (to_miss b i w) ds u e = is_one-length ds _ (some_if-true _ _ _ e)
after-length t (to_sleep b i w r) ds u e = is_one-length ds _ (some_if-true _ _ _ e)
after-length t (to_notify b i n v) ds u e = is_one-length ds _ (some_if-true _ _ _ e)
after-length t (to_post a v) ds u e = is_one-length ds _ (some_if-true _ _ _ e)
after-length t (to_receive s v) ds u e = one-length ds _ u e
after-length t to_refuse ds u e = two-length ds _ (some_if-true _ _ _ e)
after-length t (to_pass s) ds u e = is_one-length ds _ (some_if-true _ _ _ e)
after-length t (to_empty ids) ds u e =
    let s = spends-length false (serials_of (within ids t)) ds (some_if-true _ _ _ e) in
    let l = serials-length (within ids t) in omega (arith, s, l)
after-length t to_close ds u e =
    let s = spends-length true (serials_of t) ds (some_if-true _ _ _ e) in
    let l = serials-length t in omega (arith, s, l)

-- what was found of an option was there
pub mapped : {A B : Type 0} (f : A → B) (o : Option A) (b : B) → option_map f o ≡ Some b → (a : A) × (o ≡ Some a) × (f a ≡ b)
mapped f None b e = cc
mapped f (Some a) b e = (a, refl, let same : Some (f a) ≡ Some b = e in cc)

pub came-length : (c : Came) (w : Asking) (ds : List Deed) (d : Came) → came_after c w ds ≡ Some d → length ds ≡ asked c.tickets w
came-length c w ds d e = let m = mapped _ (after c.tickets w ds) d e in after-length c.tickets w ds m.0 m.1

-- Lists

take-front : {A : Type 0} (xs ys : List A) (n : ℕ) → length xs ≡ n → take n (xs ++ ys) ≡ xs
take-front [] ys n e = let z : n ≡ 0 = sym e in rw z refl
take-front (x ∷ xs) ys zero e = absurd (omega arith)
take-front (x ∷ xs) ys (suc n) e = ap (λ l. x ∷ l) (take-front xs ys n (omega arith))

drop-front : {A : Type 0} (xs ys : List A) (n : ℕ) → length xs ≡ n → drop n (xs ++ ys) ≡ ys
drop-front [] ys n e = let z : n ≡ 0 = sym e in rw z refl
drop-front (x ∷ xs) ys zero e = absurd (omega arith)
drop-front (x ∷ xs) ys (suc n) e = drop-front xs ys n (omega arith)

pub reverse_cons : {A : Type 0} (x : A) (xs ys : List A) → reverse (x ∷ xs) ++ ys ≡ reverse xs ++ x ∷ ys
reverse_cons x xs ys = ap (λ l. l ++ ys) (reverse-append (x ∷ []) xs) ∙ append_assoc (reverse xs) (x ∷ []) ys

none_more : (ds : List Deed) → no_more ds ≡ true → ds ≡ []
none_more [] e = refl
none_more (d ∷ ds) e = absurd (cc)

-- One way

one_step : (h : History) (c d : Came) (e : Event) (es : List Event) (ds rest : List Deed)
    → came_after c (asks (between_jobs h) e) ds ≡ Some d
    → goes (between_jobs h) c (e ∷ es) (ds ++ rest) ≡ goes (ends_job e) d es rest
one_step h c d e es ds rest a =
    let n = came-length c (asks (between_jobs h) e) ds d a in
    let k : take (asked c.tickets (asks (between_jobs h) e)) (ds ++ rest) ≡ ds = take-front ds rest _ n in
    let r : drop (asked c.tickets (asks (between_jobs h) e)) (ds ++ rest) ≡ rest = drop-front ds rest _ n in
    rw k (rw r (rw a refl))

pub ties-go : (h : History) (p : List Deed) (c : Came) → DeedsMeet h p c → (es : List Event) (rest : List Deed)
    → goes true nothing_came (reverse h ++ es) (p ++ rest) ≡ goes (between_jobs h) c es rest
ties-go [] p c ties es rest = rw (ties.0) (rw (ties.1) refl)
ties-go (e ∷ h) p c (q, ds, b, split, ties, a) es rest =
    ap (λ l. goes true nothing_came l (p ++ rest)) (reverse_cons e h es)
    ∙ ap (goes true nothing_came (reverse h ++ e ∷ es)) (ap (λ l. l ++ rest) split ∙ append_assoc q ds rest)
    ∙ ties-go h q b ties (e ∷ es) (ds ++ rest)
    ∙ one_step h b c e es ds rest a

-- The other way

pub chained : {A B : Type 0} (f : A → Option B) (o : Option A) (b : B) → option_and_then f o ≡ Some b → (a : A) × (o ≡ Some a) × (f a ≡ Some b)
chained f None b e = cc
chained f (Some a) b e = (a, refl, e)

at_end : (b : Bool) (c d : Came) → some_if b c ≡ Some d → (b ≡ true) × (c ≡ d)
at_end true c d e = (refl, cc)
at_end false c d e = cc

goes-tie : (h : History) (p : List Deed) (c : Came) → DeedsMeet h p c → (es : List Event) (rest : List Deed) (d : Came)
    → goes (between_jobs h) c es rest ≡ Some d → DeedsMeet (reverse es ++ h) (p ++ rest) d
goes-tie h p c ties [] rest d go =
    let end = at_end (no_more rest) c d go in
    subst (λ (l : List Deed). DeedsMeet h l d) (sym (ap (λ l. p ++ l) (none_more rest end.0) ∙ append-nil p)) (subst (DeedsMeet h p) end.1 ties)
goes-tie h p c ties (e ∷ es) rest d go =
    let k : ℕ = asked c.tickets (asks (between_jobs h) e) in
    let s = chained _ (came_after c (asks (between_jobs h) e) (take k rest)) d go in
    let further = goes-tie (e ∷ h) (p ++ take k rest) s.0 (p, take k rest, c, refl, ties, s.1) es (drop k rest) d s.2 in
    subst (λ (l : List Event). DeedsMeet l (p ++ rest) d) (sym (reverse_cons e es h))
    (subst (λ (l : List Deed). DeedsMeet (reverse es ++ e ∷ h) l d) (append_assoc p (take k rest) (drop k rest)
    ∙ ap (λ l. p ++ l) (take-append-drop k rest)) further)

-- Both

pub goes_means_ties : (h : History) (p : List Deed) (c : Came) → goes true nothing_came (reverse h) p ≡ Some c → DeedsMeet h p c
goes_means_ties h p c go =
    let found = goes-tie [] [] nothing_came (refl, refl) (reverse h) p c go in
    subst (λ (l : List Event). DeedsMeet l p c) (append-nil (reverse (reverse h)) ∙ reverse-reverse h) found

pub ties_mean_goes : (h : History) (p : List Deed) (c : Came) → DeedsMeet h p c → goes true nothing_came (reverse h) p ≡ Some c
ties_mean_goes h p c ties =
    ap (λ l. goes true nothing_came l p) (sym (append-nil (reverse h))) ∙ ap (goes true nothing_came (reverse h ++ [])) (sym (append-nil p))
    ∙ ties-go h p c ties [] []
