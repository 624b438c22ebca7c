-- What the parts of a ledger's history decide.
use Rattle.std.proofs.lemmas.Bool.{and_parts}
use Rattle.std.proofs.Common.{◌≡◌, ◌↔◌, ℕ, ◌<◌, ◌≤◌, Bool, true, false, true≢false, ◌||◌, ◌==◌, not, List, [], ◌∷◌, ◌++◌, length, slice_index_or, Option, Some, None, refl, sym, ◌∙◌, ap, subst, arith, eq-eqb, eqb-true, nat_lt, Result, Ok, Err, IfOk, IfSome, IfNone, is_some}
use Rattle.std.specs.Prelude.{reverse, map}
use Rattle.std.proofs.lemmas.List.{length-map, reverse-reverse}
use Rattle.std.proofs.Math.ListN.{get_or-map}
use Rattle.std.proofs.lemmas.Bool.Decides.{nat_tests}
use Rattle.es_event.specs.declared.event.Event.{Event}
use Rattle.es_event.specs.History.{History}
use Rattle.es_event.specs.Ledger.{Ledger}
use Rattle.es_match.specs.declared.stretch.Stretch.{Stretch}
use Rattle.es_match.specs.Deeds.{Deed as DeedSaid, Owned, deed, part, part_of, is_wait}
use Rattle.es_match.specs.Meets.{Came, nothing_came}
use Rattle.es_match.specs.Patience.{patient, drained_last, has_drained, is_patient, is_nobodys}
use Rattle.es_match.specs.Cluster.{DeedsMeet, HaveCome, IsCluster, history_of}
use Rattle.es_match.specs.Goes.{goes}
use Rattle.es_match.specs.Orderly.{is_known, may_come, orderly}
use Rattle.es_match.specs.Split.{IsSplit, part_at}
use Rattle.es_match.specs.Going.{AllGo, SomeStops}
use Rattle.es_match.proofs.Bridge.{goes_means_ties, ties_mean_goes}
use Rattle.es_match.proofs.Splitting.{past}

-- From the order

pub order_patient : (n : ℕ) (l : Ledger) → orderly n l ≡ true → patient l ≡ true
order_patient n [] e = refl
order_patient n (x ∷ l) e =
    let b = and_parts (may_come n l (deed l x)) (orderly n l) e in
    let here : is_patient l (deed l x) ≡ true = (and_parts _ _ b.0).0 in
    rw here (order_patient n l b.1)

pub order_drains : (n : ℕ) (l : Ledger) → orderly n l ≡ true → drained_last l ≡ true
order_drains n [] e = refl
order_drains n (x ∷ l) e =
    let b = and_parts (may_come n l (deed l x)) (orderly n l) e in
    let here : (is_nobodys (deed l x) || not (has_drained l)) ≡ true = (and_parts _ _ (and_parts _ _ b.0).1).0 in
    rw here (order_drains n l b.1)

unknown : (n a : ℕ) (o : Owned) → n ≤ a → is_known n o ≡ true → part_of a o ≡ []
unknown n a None far e = refl
unknown n a (Some (b, d)) far e = case-of (b == a) (is_wait d) refl refl
  where
    case-of : (s w : Bool) → (b == a) ≡ s → is_wait d ≡ w → part_of a (Some (b, d)) ≡ []
    case-of false w other is = rw other refl
    case-of true true same is = rw same (rw is refl)
    case-of true false same is =
        let here : b ≡ a = eqb-true b a same in
        let near : nat_lt b n ≡ true = rw is at e in
        absurd (let lt : b < n = grind (arith, nat_tests) in omega arith)

-- an agent that is not there has no part
pub strangers : (n : ℕ) (l : Ledger) → orderly n l ≡ true → (a : ℕ) → n ≤ a → part l a ≡ []
strangers n [] e a far = refl
strangers n (x ∷ l) e a far =
    let b = and_parts (may_come n l (deed l x)) (orderly n l) e in
    let known_here : is_known n (deed l x) ≡ true = (and_parts _ _ (and_parts _ _ b.0).1).1 in
    rw (strangers n l b.1 a far) (unknown n a (deed l x) far known_here)

-- To the order

none_left : {A : Type 0} (xs ys : List A) → xs ++ ys ≡ [] → (xs ≡ []) × (ys ≡ [])
none_left [] ys e = (refl, e)
none_left (x ∷ xs) ys e = absurd (cc)

-- a deed of which no agent from n on has a part
known : (n : ℕ) (o : Owned) → ((a : ℕ) → n ≤ a → part_of a o ≡ []) → is_known n o ≡ true
known n None e = refl
known n (Some (a, d)) e = case-of (is_wait d) (nat_lt a n) refl refl
  where
    case-of : (w b : Bool) → is_wait d ≡ w → nat_lt a n ≡ b → (is_wait d || nat_lt a n) ≡ true
    case-of true b is lt = rw is refl
    case-of false true is lt = rw is lt
    case-of false false is lt =
        let far : n ≤ a = grind (arith, nat_tests) in
        let same : (a == a) ≡ true = eq-eqb a a refl in
        let mine : part_of a (Some (a, d)) ≡ d ∷ [] = rw same (rw is refl) in
        absurd (let none : d ∷ [] ≡ [] = sym mine ∙ e a far in cc)

pub orders : (n : ℕ) (l : Ledger) → patient l ≡ true → drained_last l ≡ true → ((a : ℕ) → n ≤ a → part l a ≡ [])
    → orderly n l ≡ true
orders n [] p d none = refl
orders n (x ∷ l) p d none =
    let p2 = and_parts (is_patient l (deed l x)) (patient l) p in
    let d2 = and_parts (is_nobodys (deed l x) || not (has_drained l)) (drained_last l) d in
    let k = known n (deed l x) (λ a far. (none_left (part l a) (part_of a (deed l x)) (none a far)).1) in
    rw (p2.0) (rw (d2.0) (rw k (orders n l p2.1 d2.1 (λ a far. (none_left (part l a) (part_of a (deed l x)) (none a far)).0))))

-- The whole

history_said : (hs : List (List Event)) (a : ℕ) → history_of (map reverse hs) a ≡ reverse (slice_index_or hs a [])
history_said hs a = get_or-map reverse hs a []

-- what has come to an agent that is not there
none_came : (hs : List (List Event)) (cs : List Came) (a : ℕ) → length cs ≡ length hs → length hs ≤ a → slice_index_or cs a nothing_came ≡ nothing_came
none_came hs cs a size far = past cs a nothing_came (omega (arith, size, far))

all : (hs : List (List Event)) (l : Ledger) (ps : List (List Stretch)) (cs : List Came) → IsSplit (length hs) l ps → length cs ≡ length hs → AllGo hs ps cs
    → (a : ℕ) → goes true nothing_came (slice_index_or hs a []) (part_at ps a) ≡ Some (slice_index_or cs a nothing_came)
all hs l ps cs s size go a = case-of (nat_lt a (length hs)) refl
  where
    case-of : (b : Bool) → nat_lt a (length hs) ≡ b → goes true nothing_came (slice_index_or hs a []) (part_at ps a) ≡ Some (slice_index_or cs a nothing_came)
    case-of true is = go a (grind (arith, nat_tests))
    case-of false is =
        let far : length hs ≤ a = grind (arith, nat_tests) in
        let n = s.size in
        let off : length ps ≤ a = omega (arith, n, far) in
        rw (past hs a [] far) (rw (past ps a [] off) (rw (none_came hs cs a size far) refl))

ties_at : (hs : List (List Event)) (l : Ledger) (ps : List (List Stretch)) (cs : List Came) → IsSplit (length hs) l ps → length cs ≡ length hs → AllGo hs ps cs
    → (a : ℕ) → DeedsMeet (history_of (map reverse hs) a) (part l a) (slice_index_or cs a nothing_came)
ties_at hs l ps cs s size go a =
    let here = subst (λ (h : List Event). goes true nothing_came h (part_at ps a) ≡ Some (slice_index_or cs a nothing_came))
    (sym (reverse-reverse (slice_index_or hs a []))) (all hs l ps cs s size go a) in
    let tied = goes_means_ties (reverse (slice_index_or hs a [])) (part_at ps a) (slice_index_or cs a nothing_came) here in
    subst (λ (h : History). DeedsMeet h (part l a) (slice_index_or cs a nothing_came)) (sym (history_said hs a))
    (subst (λ (p : List DeedSaid). DeedsMeet (reverse (slice_index_or hs a [])) p (slice_index_or cs a nothing_came)) (s.parts a) tied)

pub makes_cluster : (hs : List (List Event)) (l : Ledger) (ps : List (List Stretch)) (cs : List Came) → IsSplit (length hs) l ps → length cs ≡ length hs → AllGo hs ps cs
    → HaveCome (map reverse hs) l cs
makes_cluster hs l ps cs s size go = record {
  cluster = record {
    parts = λ a. (slice_index_or cs a nothing_came, ties_at hs l ps cs s size go a);
    waits = order_patient (length hs) l s.order;
    drains = order_drains (length hs) l s.order;
  };
  size = size ∙ sym (length-map hs reverse);
  each = λ a near. ties_at hs l ps cs s size go a;
}

went : (hs : List (List Event)) (l : Ledger) (c : IsCluster (map reverse hs) l) (a : ℕ)
    → goes true nothing_came (slice_index_or hs a []) (part l a) ≡ Some (c.parts a).0
went hs l c a =
    ap (λ h. goes true nothing_came h (part l a)) (sym (reverse-reverse (slice_index_or hs a [])) ∙ ap reverse (sym (history_said hs a)))
    ∙ ties_mean_goes (history_of (map reverse hs) a) (part l a) (c.parts a).0 (c.parts a).1

-- one that stops is that of no cluster
pub stops : (hs : List (List Event)) (l : Ledger) (ps : List (List Stretch)) → IsSplit (length hs) l ps → SomeStops hs ps → IsCluster (map reverse hs) l → ⊥
stops hs l ps s some c =
    let on = went hs l c some.0 in
    let off = ap (goes true nothing_came (slice_index_or hs some.0 [])) (sym (s.parts some.0)) ∙ some.1 in
    let clash : Some (c.parts some.0).0 ≡ None = sym on ∙ off in
    cc

no_deeds : (h : History) (ds : List DeedSaid) (c : Came) → h ≡ [] → DeedsMeet h ds c → ds ≡ []
no_deeds [] ds c e ties = ties.0
no_deeds (x ∷ h) ds c e ties = absurd (cc)

pub cluster_orders : (hs : List (List Event)) (l : Ledger) → IsCluster (map reverse hs) l → orderly (length hs) l ≡ true
cluster_orders hs l c = orders (length hs) l c.waits c.drains
    (λ a far. no_deeds (history_of (map reverse hs) a) (part l a) (c.parts a).0 (history_said hs a
    ∙ ap reverse (past hs a [] far)) (c.parts a).1)

-- what each history's way decides
pub all_came : {E X : Type 0} (items : X → List Came) (r : Result (Option X) E) (hs : List (List Event)) (l : Ledger) (ps qs : List (List Stretch))
    → IsSplit (length hs) l ps → qs ≡ ps → IfOk r (λ o. IfSome o (λ cs. length (items cs) ≡ length hs)) → IfOk r (λ o. IfSome o (λ cs. AllGo hs qs (items cs)))
    → IfOk r (λ o. IfSome o (λ cs. HaveCome (map reverse hs) l (items cs)))
all_came items (Err e) hs l ps qs s same size go = tt
all_came items (Ok None) hs l ps qs s same size go = tt
all_came items (Ok (Some cs)) hs l ps qs s same size go = makes_cluster hs l ps (items cs) s size (subst (λ (p : List (List Stretch)). AllGo hs p (items cs)) same go)

pub some_stops : {E X : Type 0} (r : Result (Option X) E) (hs : List (List Event)) (l : Ledger) (ps qs : List (List Stretch))
    → IsSplit (length hs) l ps → qs ≡ ps → IfOk r (λ o. IfNone o (SomeStops hs qs)) → IfOk r (λ o. IfNone o (IsCluster (map reverse hs) l → ⊥))
some_stops (Err e) hs l ps qs s same none = tt
some_stops (Ok None) hs l ps qs s same none = stops hs l ps s (subst (SomeStops hs) same none)
some_stops (Ok (Some cs)) hs l ps qs s same none = tt

pub refuted : (hs : List (List Event)) (l : Ledger) → orderly (length hs) l ≡ false → IsCluster (map reverse hs) l → ⊥
refuted hs l e c = true≢false (sym (cluster_orders hs l c) ∙ e)

-- whether anything was found
pub decided : {X : Type 0} (items : X → List Came) (o : Option X) (hs : List (List Event)) (l : Ledger) (b : Bool) → is_some o ≡ b
    → IfSome o (λ cs. HaveCome (map reverse hs) l (items cs)) → IfNone o (IsCluster (map reverse hs) l → ⊥) → (b ≡ true) ↔ IsCluster (map reverse hs) l
decided items None hs l b is some none = ((λ yes. absurd (true≢false (sym yes ∙ sym is))), (λ c. absurd (none c)))
decided items (Some cs) hs l b is some none = ((λ yes. some.cluster), (λ c. sym is))
