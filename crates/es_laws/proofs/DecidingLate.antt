-- Tests of a history and two lists that show what is late: the one list is closed, has what derefs gave, and is reached from these and the
-- roots; the other is the rest of what was there.
use Rattle.std.proofs.Common.{◌≡◌, ℕ, ◌==◌, ◌&&◌, ◌||◌, not, Bool, true, false, sym, ◌∙◌, refl, subst, nat_lt, nat_le, List, [], ◌∷◌, Some, inl, inr}
use Rattle.std.specs.List.{list_all}
use Rattle.std.proofs.lemmas.Bool.{cases_Bool, false≢true, and_parts, ltb-true, leb-true, eqb-true, not-true}
use Rattle.es_value.specs.declared.value.Value.{Value}
use Rattle.es_event.specs.History.{History}
use Rattle.es_event.specs.Identities.{identity, is_in, is_gone, is_there, made}
use Rattle.es_event.specs.Jobs.{Receivers}
use Rattle.es_event.specs.Properties.{prop}
use Rattle.es_event.specs.Ephemerons.{entry}
use Rattle.es_event.specs.Late.{IsReachedWith, IsLate, AreLate}
use Rattle.es_event.specs.Reach.{IsReached}
use Rattle.es_event.proofs.Deciding.{all_numbered, within, is_closed, closed_by, each_is_somewhere, each_is_unreached}
use Rattle.es_event.proofs.Lists.{all_in}

abbrev pub AllReachedWith : Receivers → History → List ℕ → List ℕ → Type 0
AllReachedWith into p more [] = Unit {0}
AllReachedWith into p more (i ∷ is) = IsReachedWith into p more i × AllReachedWith into p more is

-- from a root, from what a deref gave, and on from these

pub by_root : (into : Receivers) (p : History) (more : List ℕ) (i : ℕ) → IsReached into p i → IsReachedWith into p more i
by_root into p more i r = λ m closed has. r m closed

pub by_deref : (into : Receivers) (p : History) (more : List ℕ) (i : ℕ) → is_in more i ≡ true → IsReachedWith into p more i
by_deref into p more i e = λ m closed has. has i e

pub on_by_property : (into : Receivers) (p : History) (more : List ℕ) (o : ℕ) (k : List ℕ) (v : Value) (i : ℕ) → IsReachedWith into p more o → prop p o k ≡ Some v → identity v ≡ Some i → IsReachedWith into p more i
on_by_property into p more o k v i r e f = λ m closed has. closed.properties o k v i (r m closed has) e f

pub on_by_entry : (into : Receivers) (p : History) (more : List ℕ) (w k : ℕ) (v : Value) (i : ℕ) → IsReachedWith into p more w → IsReachedWith into p more k → entry p w k ≡ Some v → identity v ≡ Some i → IsReachedWith into p more i
on_by_entry into p more w k v i r s e f = λ m closed has. closed.entries w k v i (r m closed has) (s m closed has) e f

reached_in : (into : Receivers) (p : History) (more ids : List ℕ) → AllReachedWith into p more ids → (i : ℕ) → is_in ids i ≡ true → IsReachedWith into p more i
reached_in into p more [] r i e = absurd (false≢true e)
reached_in into p more (x ∷ xs) r i e =
    elim (cases_Bool (x == i)) [
      | inl t ↦ subst (IsReachedWith into p more) (eqb-true x i t) r.0
      | inr t ↦ reached_in into p more xs r.1 i (subst (λ b. (b || is_in xs i) ≡ true) t e)
    ]

not_both : (b : Bool) → b ≡ true → b ≡ false → ⊥
not_both b e f = false≢true (sym f ∙ e)

-- ids is closed and has what derefs gave, and s is the rest of what was there
abbrev pub divides_with : Receivers → History → List ℕ → List ℕ → List ℕ → Bool
divides_with into p more ids s = is_closed into p ids && (list_all (is_in ids) more && (each_is_unreached p ids s && each_is_somewhere p ids s))

module _ (into : Receivers) (p : History) (more ids s : List ℕ) (test : divides_with into p more ids s ≡ true) (reached : AllReachedWith into p more ids) where
  closed : is_closed into p ids ≡ true
  closed = (and_parts (is_closed into p ids) _ test).0

  from_given : (list_all (is_in ids) more && (each_is_unreached p ids s && each_is_somewhere p ids s)) ≡ true
  from_given = (and_parts (is_closed into p ids) _ test).1

  from_unreached : (each_is_unreached p ids s && each_is_somewhere p ids s) ≡ true
  from_unreached = (and_parts (list_all (is_in ids) more) _ from_given).1

  member_late : (i : ℕ) → is_in s i ≡ true → IsLate into p more i
  member_late i e =
      let both = and_parts (is_there p i) (not (is_in ids i)) (all_in (λ j. is_there p j && not (is_in ids j)) s (and_parts (each_is_unreached p ids s) _ from_unreached).0 i e) in
      record {
        there = both.0;
        unreached = λ r.
            not_both (is_in ids i) (r (is_in ids) (closed_by into p ids closed) (all_in (is_in ids) more (and_parts (list_all (is_in ids) more) _ from_given).0)) (not-true (is_in ids i) both.1);
      }

  where_is : (i : ℕ) (a b c : Bool) → is_in s i ≡ a → is_gone p i ≡ b → is_in ids i ≡ c → IsLate into p more i → ((a || b) || c) ≡ true → is_in s i ≡ true
  where_is i true b c ea eb ec l e = ea
  where_is i false true c ea eb ec l e = absurd (not_both (is_gone p i) eb (not-true (is_gone p i) (and_parts _ (not (is_gone p i)) l.there).1))
  where_is i false false true ea eb ec l e = absurd (l.unreached (reached_in into p more ids reached i ec))
  where_is i false false false ea eb ec l e = absurd (false≢true e)

  late_member : (i : ℕ) → IsLate into p more i → is_in s i ≡ true
  late_member i l =
      let bounds = and_parts (nat_lt 0 i) (nat_le i (made p)) (and_parts (nat_lt 0 i && nat_le i (made p)) (not (is_gone p i)) l.there).0 in
      where_is i _ _ _ refl refl refl l
      (all_numbered (λ j. (is_in s j || is_gone p j) || is_in ids j) 1 (made p) (and_parts (each_is_unreached p ids s) _ from_unreached).1 i (ltb-true 0 i bounds.0) (within i (made p) (leb-true i (made p) bounds.1)))

  -- s is all that is late
  pub late_by : AreLate into p more s
  late_by = record { only = member_late; every = late_member }

-- two sets of all that is late have the same members
pub other_late : (into : Receivers) (p : History) (more s t : List ℕ) (i : ℕ) → AreLate into p more s → AreLate into p more t → is_in s i ≡ true → is_in t i ≡ false → ⊥
other_late into p more s t i a b e f = not_both (is_in t i) (b.every i (a.only i e)) f
