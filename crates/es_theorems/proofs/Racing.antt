-- No two accesses race by the ledger where, by the agents' own names, of any two to one word one agent knew of the other.
use Rattle.std.proofs.Common.{◌≡◌, ℕ, ◌≤◌, ◌==◌, ◌&&◌, ◌||◌, not, Bool, true, false, cond, sym, ◌∙◌, ap, refl, subst, List, [], ◌∷◌, ◌++◌, length, map, Option, Some, None, eq-eqb, ◌⊎◌, inl, inr}
use Rattle.std.specs.Prelude.{slice_get}
use Rattle.std.specs.List.{list_all}
use Rattle.std.proofs.lemmas.Bool.{and_parts, eqb-false, eqb-true, false≢true, ne_eqb}
use Rattle.es_event.specs.declared.ledger_event.LedgerEvent.TheVariants.{Accessed}
use Rattle.es_event.specs.declared.row.Row.{Row}
use Rattle.es_event.specs.Ledger.{Ledger, holder_of, opened}
use Rattle.es_event.specs.LegalLedger.{LegalSoFar}
use Rattle.es_laws.specs.Memory.{WordAccess, access_by, is_write}
use Rattle.es_laws.specs.Races.{Mark, MarkedAccess, conflict, happens_before, has_no_race, marked, marked_after, race}
use Rattle.es_cluster.specs.State.{ClusterView}
use Rattle.es_theorems.specs.Alone.{IsFree, Touched, Words, clash, is_known}
use Rattle.es_theorems.specs.Renamed.{name, touched_as, touched_in, world_of}
use Rattle.es_theorems.proofs.Learning.{AllMarked, all_marked, how_many_touched}
use Rattle.es_theorems.proofs.Names.{name_test}
use Rattle.es_theorems.proofs.Touching.{get_last, get_more}
use Rattle.es_ledger.proofs.Beginning.{got_new}

-- Lists

abbrev IsIn : {A : Type 0} → A → List A → Type 0
IsIn x [] = ⊥
IsIn x (y ∷ ys) = (x ≡ y) ⊎ IsIn x ys

all_of : {A : Type 0} (p : A → Bool) (xs : List A) (x : A) → list_all p xs ≡ true → IsIn x xs → p x ≡ true
all_of p [] x all is = absurd is
all_of p (y ∷ ys) x all (inl same) = ap p same ∙ (and_parts (p y) (list_all p ys) all).0
all_of p (y ∷ ys) x all (inr there) = all_of p ys x (and_parts (p y) (list_all p ys) all).1 there

all_from : {A : Type 0} (p : A → Bool) (xs : List A) → ((x : A) → IsIn x xs → p x ≡ true) → list_all p xs ≡ true
all_from p [] each = refl
all_from p (x ∷ xs) each = ap (λ b. b && list_all p xs) (each x (inl refl)) ∙ all_from p xs (λ y there. each y (inr there))

-- An access and its place

-- one that stands at this place of this agent's
record Found (f : ℕ → ℕ) (ms : List MarkedAccess) (i p : ℕ) (y : Touched) : Type 0 where
  access : MarkedAccess
  among : IsIn access ms
  agent : access.access.agent ≡ i
  mark : ◌≡◌ {A = Mark} access.mark (i, p)
  is : touched_as f access ≡ y

-- its mark tells its place
abbrev IsPlaced : (ℕ → ℕ) → List MarkedAccess → MarkedAccess → Type 0
IsPlaced f ms z = ◌≡◌ {A = Mark} z.mark (z.access.agent, length (touched_in f ms z.access.agent))

found_next : (f : ℕ → ℕ) (ms : List MarkedAccess) (z : MarkedAccess) (i p : ℕ) (y : Touched) → IsPlaced f ms z → (slice_get (touched_in f ms i) p ≡ Some y → Found f ms i p y) → slice_get (touched_in f (z ∷ ms) i) p ≡ Some y → Found f (z ∷ ms) i p y
found_next f ms z i p y placed old at = by_agent (z.access.agent == i) refl
  where
    older : Found f ms i p y → Found f (z ∷ ms) i p y
    older x = record { access = x.access; among = inr x.among; agent = x.agent; mark = x.mark; is = x.is }

    by_agent : (b : Bool) → (z.access.agent == i) ≡ b → Found f (z ∷ ms) i p y
    by_agent false e = older (old (sym (ap (λ b. slice_get (cond b (touched_in f ms i ++ touched_as f z ∷ []) (touched_in f ms i)) p) e) ∙ at))
    by_agent true e =
        let same = eqb-true z.access.agent i e in
        elim (got_new (touched_in f ms i) (touched_as f z) y p (sym (ap (λ b. slice_get (cond b (touched_in f ms i ++ touched_as f z ∷ []) (touched_in f ms i)) p) e) ∙ at)) [
          | inl there ↦ older (old there)
          | inr new ↦ record { access = z; among = inl refl; agent = same; mark = placed ∙ ap (λ i. (i, length (touched_in f ms i))) same ∙ ap (λ k. (i, k)) (sym new.0); is = new.1 }
        ]

placed_now : (f : ℕ → ℕ) (l : Ledger) (w : WordAccess) → IsPlaced f (marked l) (marked_after l w)
placed_now f l w = ap (λ k. (w.agent, k)) (sym (how_many_touched f l w.agent))

found : (f : ℕ → ℕ) (l : Ledger) (i p : ℕ) (y : Touched) → slice_get (touched_in f (marked l) i) p ≡ Some y → Found f (marked l) i p y
found f [] i p y at = cc
found f (Accessed s j c old ∷ l) i p y at = by_holder (holder_of l s) (found f l i p y) at
  where
    by_holder : (o : Option (ℕ × Row)) → (slice_get (touched_in f (marked l) i) p ≡ Some y → Found f (marked l) i p y) → slice_get (touched_in f (map (marked_after l) (access_by o j c old) ++ marked l) i) p ≡ Some y → Found f (map (marked_after l) (access_by o j c old) ++ marked l) i p y
    by_holder None old at = old at
    by_holder (Some q) earlier at =
        let w : WordAccess = record { agent = q.0; block = q.1.block; index = j; change = c; old = old } in
        found_next f (marked l) (marked_after l w) i p y (placed_now f l w) earlier at
found f (_ ∷ l) i p y at = found f l i p y at

-- each is where its mark says
record Stands (f : ℕ → ℕ) (ms : List MarkedAccess) (z : MarkedAccess) : Type 0 where
  place : ℕ
  mark : ◌≡◌ {A = Mark} z.mark (z.access.agent, place)
  at : slice_get (touched_in f ms z.access.agent) place ≡ Some (touched_as f z)

stands_next : (f : ℕ → ℕ) (ms : List MarkedAccess) (x z : MarkedAccess) → Stands f ms z → Stands f (x ∷ ms) z
stands_next f ms x z is = record { place = is.place; mark = is.mark; at = by_agent (x.access.agent == z.access.agent) }
  where
    by_agent : (b : Bool) → slice_get (cond b (touched_in f ms z.access.agent ++ touched_as f x ∷ []) (touched_in f ms z.access.agent)) is.place ≡ Some (touched_as f z)
    by_agent true = get_more (touched_in f ms z.access.agent) (touched_as f x ∷ []) is.place (touched_as f z) is.at
    by_agent false = is.at

stands_now : (f : ℕ → ℕ) (ms : List MarkedAccess) (z : MarkedAccess) → IsPlaced f ms z → Stands f (z ∷ ms) z
stands_now f ms z placed = record {
  place = length (touched_in f ms z.access.agent);
  mark = placed;
  at = ap (λ b. slice_get (cond b (touched_in f ms z.access.agent ++ touched_as f z ∷ []) (touched_in f ms z.access.agent)) (length (touched_in f ms z.access.agent))) (eq-eqb z.access.agent z.access.agent refl)
      ∙ get_last (touched_in f ms z.access.agent) (touched_as f z);
}

stands : (f : ℕ → ℕ) (l : Ledger) (z : MarkedAccess) → IsIn z (marked l) → Stands f (marked l) z
stands f [] z is = absurd is
stands f (Accessed s j c old ∷ l) z is = by_holder (holder_of l s) (stands f l z) is
  where
    by_holder : (o : Option (ℕ × Row)) → (IsIn z (marked l) → Stands f (marked l) z) → IsIn z (map (marked_after l) (access_by o j c old) ++ marked l) → Stands f (map (marked_after l) (access_by o j c old) ++ marked l) z
    by_holder None earlier is = earlier is
    by_holder (Some q) earlier (inl same) =
        let w : WordAccess = record { agent = q.0; block = q.1.block; index = j; change = c; old = old } in
        subst (Stands f (marked_after l w ∷ marked l)) (sym same) (stands_now f (marked l) (marked_after l w) (placed_now f l w))
    by_holder (Some q) earlier (inr there) = stands_next f (marked l) (marked_after l (record { agent = q.0; block = q.1.block; index = j; change = c; old = old })) z (earlier there)
stands f (_ ∷ l) z is = stands f l z is

-- Names tell words apart

opened_in : (l : Ledger) (ms : List MarkedAccess) (z : MarkedAccess) → AllMarked l ms → IsIn z ms → z.access.block ≤ opened l
opened_in l [] z all is = absurd is
opened_in l (x ∷ ms) z all (inl same) = subst (λ z. z.access.block ≤ opened l) (sym same) all.0.1
opened_in l (x ∷ ms) z all (inr there) = opened_in l ms z all.1 there

clash_is : (n : ℕ) (l : Ledger) → LegalSoFar n l → (u v : MarkedAccess) → IsIn u (marked l) → IsIn v (marked l)
    → clash (touched_as (name n l) u) (touched_as (name n l) v) ≡ ((u.access.block == v.access.block) && (u.access.index == v.access.index)) && (is_write u.access || is_write v.access)
clash_is n l legal u v in_u in_v =
    ap (λ b. (b && (u.access.index == v.access.index)) && (is_write u.access || is_write v.access))
    (name_test n l legal u.access.block v.access.block (opened_in l (marked l) u (all_marked n l legal) in_u) (opened_in l (marked l) v (all_marked n l legal) in_v))

-- where they clash, one happens before the other
ordered : (c h : Bool) → not (c && not h) ≡ true → c ≡ true → h ≡ true
ordered true true e is = refl
ordered true false e is = cc
ordered false h e is = cc

unordered : (c h : Bool) → (c ≡ true → h ≡ true) → not (c && not h) ≡ true
unordered true true so = refl
unordered true false so = absurd (false≢true (so refl))
unordered false h so = refl

differ : (s d w : Bool) → s && w ≡ true → d ≡ false → s && (not d && w) ≡ true
differ s true w e off = cc
differ s false w e off = e

same_parts : (s d w : Bool) → s && (not d && w) ≡ true → (s && w ≡ true) × (d ≡ false)
same_parts true true w e = cc
same_parts true false w e = (e, refl)
same_parts false d w e = cc

free_of : (n : ℕ) (l : Ledger) → LegalSoFar n l → has_no_race l ≡ true → (i j p q : ℕ) (x y : Touched) → (i ≡ j → ⊥) → slice_get (touched_in (name n l) (marked l) i) p ≡ Some x → slice_get (touched_in (name n l) (marked l) j) q ≡ Some y → clash x y ≡ true
    → (is_known (i, p) y.knew || is_known (j, q) x.knew) ≡ true
free_of n l legal none i j p q x y other at_i at_j clashes =
    let u = found (name n l) l i p x at_i in
    let v = found (name n l) l j q y at_j in
    let apart : (u.access.access.agent == v.access.access.agent) ≡ false = ne_eqb u.access.access.agent v.access.access.agent (λ same. other (sym u.agent ∙ (same ∙ v.agent))) in
    let on : clash (touched_as (name n l) u.access) (touched_as (name n l) v.access) ≡ true = ap (λ x. clash x (touched_as (name n l) v.access)) u.is ∙ ap (clash x) v.is ∙ clashes in
    let meet : conflict u.access.access v.access.access ≡ true =
    differ ((u.access.access.block == v.access.access.block) && (u.access.access.index == v.access.access.index)) (u.access.access.agent == v.access.access.agent) (is_write u.access.access || is_write v.access.access)
    (sym (clash_is n l legal u.access v.access u.among v.among) ∙ on) apart in
    let free : not (race u.access v.access) ≡ true = all_of (λ y. not (race u.access y)) (marked l) v.access (all_of (λ x. list_all (λ y. not (race x y)) (marked l)) (marked l) u.access none u.among) v.among in
    let one : happens_before u.access v.access ≡ is_known (i, p) y.knew = ap (λ m. is_known m v.access.knew) u.mark ∙ ap (λ (y : Touched). is_known (i, p) y.knew) v.is in
    let two : happens_before v.access u.access ≡ is_known (j, q) x.knew = ap (λ m. is_known m u.access.knew) v.mark ∙ ap (λ (x : Touched). is_known (j, q) x.knew) u.is in
    sym (ap (λ b. b || happens_before v.access u.access) one ∙ ap (λ b. is_known (i, p) y.knew || b) two)
    ∙ ordered (conflict u.access.access v.access.access) (happens_before u.access v.access || happens_before v.access u.access) free meet

no_race_of : (n : ℕ) (l : Ledger) → LegalSoFar n l
    → ((i j p q : ℕ) (x y : Touched) → (i ≡ j → ⊥) → slice_get (touched_in (name n l) (marked l) i) p ≡ Some x → slice_get (touched_in (name n l) (marked l) j) q ≡ Some y → clash x y ≡ true → (is_known (i, p) y.knew || is_known (j, q) x.knew) ≡ true)
    → has_no_race l ≡ true
no_race_of n l legal free = all_from (λ x. list_all (λ y. not (race x y)) (marked l)) (marked l) (λ u in_u. all_from (λ y. not (race u y)) (marked l) (λ v in_v. unordered (conflict u.access v.access) (happens_before u v || happens_before v u) (known_of u v in_u in_v)))
  where
    known_of : (u v : MarkedAccess) → IsIn u (marked l) → IsIn v (marked l) → conflict u.access v.access ≡ true → (happens_before u v || happens_before v u) ≡ true
    known_of u v in_u in_v meet =
        let x = stands (name n l) l u in_u in
        let y = stands (name n l) l v in_v in
        let parts = same_parts ((u.access.block == v.access.block) && (u.access.index == v.access.index)) (u.access.agent == v.access.agent) (is_write u.access || is_write v.access) meet in
        ap (λ m. is_known m v.knew || is_known v.mark u.knew) x.mark ∙ ap (λ m. is_known (u.access.agent, x.place) v.knew || is_known m u.knew) y.mark
        ∙ free u.access.agent v.access.agent x.place y.place (touched_as (name n l) u) (touched_as (name n l) v) (eqb-false u.access.agent v.access.agent parts.1) x.at y.at (clash_is n l legal u v in_u in_v ∙ parts.0)

-- A cluster

pub free_by_names : (n : ℕ) (c : ClusterView) (words : Words) → c.ledger.agents ≡ n → LegalSoFar n c.ledger.history → has_no_race c.ledger.history ≡ true → IsFree (world_of c words)
free_by_names n c words size legal none = free_of c.ledger.agents c.ledger.history (subst (λ n. LegalSoFar n c.ledger.history) (sym size) legal) none

pub no_race_by_names : (n : ℕ) (c : ClusterView) (words : Words) → c.ledger.agents ≡ n → LegalSoFar n c.ledger.history → IsFree (world_of c words) → has_no_race c.ledger.history ≡ true
no_race_by_names n c words size legal free = no_race_of c.ledger.agents c.ledger.history (subst (λ n. LegalSoFar n c.ledger.history) (sym size) legal) free
