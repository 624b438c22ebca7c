-- What is late is not live at the end of the history that went on since.
use Rattle.std.proofs.Common.{◌≡◌, ℕ, ◌<◌, ◌≤◌, ◌==◌, ◌||◌, ◌&&◌, not, Bool, true, false, sym, ◌∙◌, ap, refl, subst, arith, nat_lt, nat_le, List, [], ◌∷◌, ◌++◌, Option, Some, None, inl, inr, ◌↔◌}
use Rattle.std.specs.List.{filter, range_with_len}
use Rattle.std.specs.Option.{option_map_or, option_to_list}
use Rattle.std.proofs.lemmas.Bool.{cases_Bool, false≢true, and_parts, and_from, or_cases, or_left, or_right, le-leb, ltb-true, leb-true, eq-eqb, not-true}
use Rattle.es_value.specs.declared.value.Value.{Value}
use Rattle.es_value.specs.declared.value.Value.TheVariants.{Undefined}
use Rattle.es_event.specs.declared.event.Answer.{Answer}
use Rattle.es_event.specs.declared.event.Answer.TheVariants.{Gives}
use Rattle.es_event.specs.declared.event.Event.{Event}
use Rattle.es_event.specs.declared.event.Event.TheVariants.{Did, Emptied}
use Rattle.es_event.specs.declared.command.Command.TheVariants.{Deref}
use Rattle.es_event.specs.Commands.{first}
use Rattle.es_event.specs.History.{History}
use Rattle.es_event.specs.Identities.{identity, is_in, is_gone, is_made, is_there, has_identity_in, made, gone}
use Rattle.es_event.specs.Jobs.{Receivers}
use Rattle.es_event.specs.WeakRefs.{kept, identity_given, first_target, target}
use Rattle.es_event.specs.Sharing.{Buffers}
use Rattle.es_event.specs.Rules.{target_of, or_undefined}
use Rattle.es_event.specs.Heard.{silence}
use Rattle.es_event.specs.Legal.{is_rising, Lawful, LegalBy}
use Rattle.es_event.specs.Live.{refers_into, DerefOf, ObliviousOf, Oblivious, Live}
use Rattle.es_event.specs.Reach.{IsClosed, IsClosedBeside, with_later, AreDead}
use Rattle.es_event.specs.Derefs.{derefs}
use Rattle.es_event.specs.Late.{derefed, IsReachedWith, IsLate, AreLate}
use Rattle.es_event.proofs.Accepted.{is_result}
use Rattle.es_event.proofs.Lists.{all_in, in_both, out_of_both}
use Rattle.es_event.proofs.Targets.{target_from}
use Rattle.es_event.proofs.Holds.{at_object}
use Rattle.es_event.proofs.Closure.{Closing, rules_of, closing_of, closing_closed}
use Rattle.es_event.proofs.Staying.{not_gone, made_more, not_out, stays_closed}
use Rattle.es_event.proofs.Dead.{lacked_not_live}
use Rattle.es_event.proofs.Rising.{same_rising, rising_numbers, all_pass, in_numbers, in_filter}

-- An execution whose derefs give nothing of s is oblivious of it

member : (s : List ℕ) (o : Option ℕ) → option_map_or (is_in s) o false ≡ true → (i : ℕ) × (o ≡ Some i) × (is_in s i ≡ true)
member s None e = absurd (false≢true e)
member s (Some i) e = (i, refl, e)

own : (o : Option ℕ) (i : ℕ) → o ≡ Some i → is_in (option_to_list o) i ≡ true
own None i e = cc
own (Some j) i e = let same : j ≡ i = cc in rw same (or_left (i == i) false (eq-eqb i i refl))

-- what is given by a target in s is in s
no_target : (s : List ℕ) (h : History) (a v : Value) → refers_into s h a ≡ true → target_of h a ≡ Some v → has_identity_in s v ≡ true
no_target s h a v into e = at_object (has_identity_in s v ≡ true) (target h) a v (λ w at aims.
    let from = target_from (gone h) (first_target h w) v aims in
    sym (ap (refers_into s h) at ∙ ap (λ o. option_map_or (has_identity_in s) o false) from.0) ∙ into) e

given : (s : List ℕ) (h : History) (a : Value) (t : Option Value) (r : Answer) → target_of h a ≡ t → refers_into s h a ≡ true → or_undefined t ≡ r
    → ((i : ℕ) → is_in s i ≡ true → is_in (identity_given r) i ≡ false) → r ≡ Gives Undefined
given s h a None r e into is apart = sym is
given s h a (Some v) r e into is apart =
    let in_s = member s (identity v) (no_target s h a v into e) in
    let out : is_in (identity_given (Gives v)) in_s.0 ≡ false = subst (λ a. is_in (identity_given a) in_s.0 ≡ false) (sym is) (apart in_s.0 in_s.2) in
    absurd (false≢true (sym out ∙ own (identity v) in_s.0 in_s.1))

deref_oblivious : (over : Buffers) (into : Receivers) (s : List ℕ) (h : History) (to w : List ℕ) (vs : List Value) (r : Answer) (b : Bool) → refers_into s h (first vs) ≡ b → Lawful over into h (Did (Deref to w, vs, r))
    → ((i : ℕ) → is_in s i ≡ true → is_in (identity_given r) i ≡ false) → DerefOf b over into h (Deref to w) vs r
deref_oblivious over into s h to w vs r false e l apart = l
deref_oblivious over into s h to w vs r true e l apart = (l.0, given s h (first vs) (target_of h (first vs)) r refl e (is_result over h (Deref to w) vs silence r l.1) apart)

event_oblivious : (over : Buffers) (into : Receivers) (s : List ℕ) (h : History) (e : Event) → Lawful over into h e → ((i : ℕ) → is_in s i ≡ true → is_in (derefs e) i ≡ false) → ObliviousOf s over into h e
event_oblivious over into s h (Did (Deref to w, vs, r)) l apart = deref_oblivious over into s h to w vs r (refers_into s h (first vs)) refl l apart
event_oblivious over into s h (Did (c, vs, r)) l apart = l
event_oblivious over into s h (Emptied ids) l apart = tt
event_oblivious over into s h e l apart = l

pub legal_oblivious : (over : Buffers) (into : Receivers) (p : History) (s : List ℕ) (g : History) → LegalBy over into (g ++ p) → ((i : ℕ) → is_in s i ≡ true → is_in (derefed g) i ≡ false) → Oblivious s over into p g
legal_oblivious over into p s [] l apart = l
legal_oblivious over into p s (e ∷ g) l apart = (
  event_oblivious over into s (g ++ p) e l.0 (λ i m. (out_of_both (derefs e) (derefed g) i (apart i m)).0),
  legal_oblivious over into p s g l.1 (λ i m. (out_of_both (derefs e) (derefed g) i (apart i m)).1),
)

-- What is reached with these

module _ (into : Receivers) (p : History) (more : List ℕ) where
  reached_with_closed : IsClosed into p (IsReachedWith into p more)
  reached_with_closed = record {
    variables = λ x i e m closed has. closed.variables x i e;
    kept = λ i e m closed has. closed.kept i e;
    registries = λ r c e m closed has. closed.registries r c e;
    cells = λ n c i e present is m closed has. closed.cells n c i e present is;
    properties = λ o k v i r e is m closed has. closed.properties o k v i (r m closed has) e is;
    entries = λ w k v i a b e is m closed has. closed.entries w k v i (a m closed has) (b m closed has) e is;
  }

  seeds : (i : ℕ) → is_in (kept p ++ more) i ≡ true → IsReachedWith into p more i
  seeds i e m closed has = elim (or_cases (is_in (kept p) i) (is_in more i) (sym (in_both (kept p) more i) ∙ e)) [ inl a ↦ closed.kept i a | inr b ↦ has i b ]

  all : Closing (IsReachedWith into p more) (rules_of into p) (kept p ++ more)
  all = closing_of (IsReachedWith into p more) into p reached_with_closed (kept p ++ more) seeds

  had : ℕ → Bool
  had i = is_in all.list i

  had_closed : IsClosed into p (λ j. had j ≡ true)
  unfolding had
  had_closed = closing_closed (IsReachedWith into p more) into p (kept p ++ more) all (λ i e. in_both (kept p) more i ∙ or_left (is_in (kept p) i) (is_in more i) e)

  had_more : (i : ℕ) → is_in more i ≡ true → had i ≡ true
  unfolding had
  had_more i e = all.grows i (in_both (kept p) more i ∙ or_right (is_in (kept p) i) (is_in more i) e)

  had_only : (i : ℕ) → had i ≡ true → IsReachedWith into p more i
  unfolding had
  had_only i e = all.only i e

  module _ (s : List ℕ) (late : AreLate into p more s) where
    lacks_it : (i : ℕ) → is_in s i ≡ true → had i ≡ false
    lacks_it i e = elim (cases_Bool (had i)) [ inl m ↦ absurd ((late.only i e).unreached (had_only i m)) | inr n ↦ n ]

    beside : IsClosedBeside s into p had
    beside = record {
      closed = had_closed;
      others = λ i there out. elim (cases_Bool (had i)) [
        | inl e ↦ e
        | inr e ↦ absurd (false≢true (sym out ∙ late.every i (record { there = there; unreached = λ r. false≢true (sym e ∙ r had had_closed had_more) })))
      ];
    }

    -- what derefs gave is not in s
    apart_from : (i : ℕ) → is_in s i ≡ true → is_in more i ≡ false
    apart_from i e = elim (cases_Bool (is_in more i)) [ inl m ↦ absurd ((late.only i e).unreached (λ t closed has. has i m)) | inr n ↦ n ]

    was_made : (i : ℕ) → is_in s i ≡ true → is_made p i ≡ true
    was_made i e = (and_parts (is_made p i) (not (is_gone p i)) (late.only i e).there).0

still_made : (p g : History) (i : ℕ) → is_made p i ≡ true → is_made (g ++ p) i ≡ true
still_made p g i e =
    let parts = and_parts (nat_lt 0 i) (nat_le i (made p)) e in
    and_from (nat_lt 0 i) (nat_le i (made (g ++ p))) parts.0 (le-leb i (made (g ++ p)) (omega (arith, leb-true i (made p) parts.1, made_more g p)))

-- the closed set beside what is late, at the end of g
module _ (over : Buffers) (into : Receivers) (p g : History) (s : List ℕ) (legal : LegalBy over into (g ++ p)) (late : AreLate into p (derefed g) s) where
  pub beside_late : ℕ → Bool
  beside_late = with_later p (had into p (derefed g))

  not_true : (b : Bool) → not b ≡ true → b ≡ false
  not_true true e = absurd (false≢true e)
  not_true false e = refl

  both_false : (a b : Bool) → a ≡ false → b ≡ false → (a || b) ≡ false
  both_false a b e f = rw (e, f) refl

  pub late_beside : IsClosedBeside s into (g ++ p) beside_late
  unfolding beside_late
  late_beside =
      let m : ℕ → Bool = had into p (derefed g) in
      let base : IsClosedBeside s into p m = beside into p (derefed g) s late in
      record {
        closed = stays_closed over into p s m base g (legal_oblivious over into p s g legal (apart_from into p (derefed g) s late));
        others = λ i there out. not_out into p s m base i out (not_gone g p i (not_true (is_gone (g ++ p) i) (and_parts (is_made (g ++ p) i) (not (is_gone (g ++ p) i)) there).1));
      }

  pub late_lacks : (i : ℕ) → is_in s i ≡ true → beside_late i ≡ false
  unfolding beside_late
  late_lacks i e = both_false (had into p (derefed g) i) (not (is_made p i)) (lacks_it into p (derefed g) s late i e) (ap not (was_made into p (derefed g) s late i e))

  -- what is late is not live
  pub late_not_live : Live into (g ++ p) s → ⊥
  late_not_live live = lacked_not_live into (g ++ p) s beside_late late_beside (λ i e. (still_made p g i (was_made into p (derefed g) s late i e), late_lacks i e)) live

-- what is late, as a list

is_left : History → List ℕ → ℕ → Bool
is_left h ids i = is_there h i && not (is_in ids i)

module _ (into : Receivers) (p : History) (more : List ℕ) where
  late_list : List ℕ
  late_list = filter (is_left p (all into p more).list) (range_with_len 1 (made p))

  late_only : (i : ℕ) → is_in late_list i ≡ true → IsLate into p more i
  unfolding late_list is_left had
  late_only i e =
      let test = is_left p (all into p more).list in
      let both = and_parts (is_there p i) (not (is_in (all into p more).list i)) (all_in test late_list (all_pass test (range_with_len 1 (made p))) i e) in
      record {
        there = both.0;
        unreached = λ r. false≢true (sym (not-true (is_in (all into p more).list i) both.1) ∙ r (had into p more) (had_closed into p more) (had_more into p more));
      }

  late_every : (i : ℕ) → IsLate into p more i → is_in late_list i ≡ true
  unfolding late_list is_left
  late_every i d =
      let test = is_left p (all into p more).list in
      let bounds = and_parts (nat_lt 0 i) (nat_le i (made p)) (and_parts (nat_lt 0 i && nat_le i (made p)) (not (is_gone p i)) d.there).0 in
      let positive : 0 < i = ltb-true 0 i bounds.0 in
      let within : i ≤ made p = leb-true i (made p) bounds.1 in
      let outside : not (is_in (all into p more).list i) ≡ true = elim (cases_Bool (is_in (all into p more).list i)) [ inl e ↦ absurd (d.unreached ((all into p more).only i e)) | inr e ↦ ap not e ] in
      in_filter test (range_with_len 1 (made p)) i
      ∙ and_from (test i) (is_in (range_with_len 1 (made p)) i) (and_from (is_there p i) (not (is_in (all into p more).list i)) d.there outside) (in_numbers 1 (made p) i (omega arith) (omega arith))

  pub the_late : (s : List ℕ) × AreLate into p more s × (is_rising s ≡ true)
  unfolding late_list
  the_late = (late_list, record { only = late_only; every = late_every }, rising_numbers (is_left p (all into p more).list) 1 (made p))

-- it is one list
pub one_late_list : (into : Receivers) (p : History) (more s t : List ℕ) → AreLate into p more s → AreLate into p more t → is_rising s ≡ true → is_rising t ≡ true → s ≡ t
one_late_list into p more s t a b e f = same_rising s t e f (λ i m. b.every i (a.only i m)) (λ i m. a.every i (b.only i m))

-- where no deref gave anything, what is late is what is dead
pub late_is_dead : (into : Receivers) (h : History) (s : List ℕ) → AreLate into h [] s → AreDead into h s
late_is_dead into h s late = record {
  only = λ i e. let l = late.only i e in record { there = l.there; unreached = λ r. l.unreached (λ m closed has. r m closed) };
  every = λ i d. late.every i (record { there = d.there; unreached = λ r. d.unreached (λ m closed. r m closed (λ j f. absurd (false≢true f))) });
}

pub late_are_dead : (into : Receivers) (h : History) (s : List ℕ) → AreLate into h [] s ↔ AreDead into h s
late_are_dead into h s = (
  late_is_dead into h s,
  λ dead. record {
    only = λ i e. let d = dead.only i e in record { there = d.there; unreached = λ r. d.unreached (λ m closed. r m closed (λ j f. absurd (false≢true f))) };
    every = λ i l. dead.every i (record { there = l.there; unreached = λ r. l.unreached (λ m closed has. r m closed) });
  },
)

-- what a deref gave is not late, nor what is reached from it
pub given_stays : (into : Receivers) (p : History) (more s : List ℕ) → AreLate into p more s → ((i : ℕ) → is_in more i ≡ true → is_in s i ≡ false) × ((i : ℕ) → IsReachedWith into p more i → is_in s i ≡ false)
given_stays into p more s late = (
  λ i e. elim (cases_Bool (is_in s i)) [ inl m ↦ absurd ((late.only i m).unreached (λ t closed has. has i e)) | inr n ↦ n ],
  λ i r. elim (cases_Bool (is_in s i)) [ inl m ↦ absurd ((late.only i m).unreached r) | inr n ↦ n ],
)

-- what a closed set lacks is late, where it is the least that has what derefs gave of those that were made at p
pub late_from_least : (over : Buffers) (into : Receivers) (p : History) (more s : List ℕ) (m : ℕ → Bool) → LegalBy over into p → IsClosed into p (λ j. m j ≡ true)
    → ((j : ℕ) → is_in more j ≡ true → is_made p j ≡ true → m j ≡ true) → ((i : ℕ) → m i ≡ true → IsReachedWith into p more i)
    → ((i : ℕ) → is_in s i ≡ true → (is_there p i ≡ true) × (m i ≡ false)) → ((i : ℕ) → is_there p i ≡ true → m i ≡ false → is_in s i ≡ true) → AreLate into p more s
late_from_least over into p more s m legal closed has least only every =
    let base : IsClosedBeside s into p m = record {
      closed = closed;
      others = λ i there out. elim (cases_Bool (m i)) [ inl e ↦ e | inr e ↦ absurd (false≢true (sym out ∙ every i there e)) ];
    } in
    record {
      only = λ i e. let o = only i e in record {
        there = o.0;
        unreached = λ r.
            let here : with_later p m i ≡ true = r (with_later p m) (stays_closed over into p s m base [] legal) (λ j f. elim (cases_Bool (is_made p j)) [
              | inl a ↦ or_left (m j) (not (is_made p j)) (has j f a)
              | inr b ↦ or_right (m j) (not (is_made p j)) (ap not b)
            ]) in
            elim (or_cases (m i) (not (is_made p i)) here) [
              | inl a ↦ false≢true (sym o.1 ∙ a)
              | inr b ↦ false≢true (sym (ap not (and_parts (is_made p i) (not (is_gone p i)) o.0).0) ∙ b)
            ];
      };
      every = λ i l. every i l.there (elim (cases_Bool (m i)) [ inl e ↦ absurd (l.unreached (least i e)) | inr e ↦ e ]);
    }
