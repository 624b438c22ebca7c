-- What has a tag and is not marked, by rising identity, is all that is dead.
use Rattle.std.proofs.Common.{◌≡◌, ℕ, zero, suc, ◌+◌, ◌<◌, ◌≤◌, ◌==◌, ◌&&◌, ◌||◌, not, Bool, true, false, nat_lt, nat_le, sym, ◌∙◌, ap, refl, subst, arith, List, [], ◌∷◌, Option, Some, None, inl, inr, if◌then◌else◌}
use Rattle.std.specs.Prelude.{is_some}
use Rattle.std.specs.List.{list_all}
use Rattle.std.proofs.lemmas.Bool.{cases_Bool, ltb-true, leb-true, lt-ltb, false≢true, and_parts, and_from}
use Rattle.std.proofs.lemmas.Bool.Decides.{nat_tests}
use Rattle.es_event.specs.History.{History}
use Rattle.es_event.specs.Identities.{is_in, is_gone, is_there, made, kind}
use Rattle.es_event.specs.Jobs.{receivers}
use Rattle.es_event.specs.Sharing.{Buffers}
use Rattle.es_event.specs.Legal.{LegalBy, is_rising}
use Rattle.es_event.specs.Reach.{AreDead}
use Rattle.es_event.proofs.Alive.{Stays, stays_along, is_not}
use Rattle.es_mark.specs.Marks.{is_marked}
use Rattle.es_tables.specs.declared.tags.Tag.{Tag}
use Rattle.es_record.specs.AgentView.{AgentView}
use Rattle.es_record.specs.Graph.{AreMarksOf}
use Rattle.es_event.specs.declared.cursor.Cursor.{Cursor}
use Rattle.es_tables.specs.Tables.{TablesView}
use Rattle.es_record.specs.Ties.{RecordTies}
use Rattle.es_tables.specs.Tags.{tag_at, tag_of, tag_said}
use Rattle.es_tables.proofs.Passing.{passing}
use Rattle.es_record.proofs.Reached.{marked_reached, reached_marked}

-- Numbers that pass a test

pub passing_in : (p : ℕ → Bool) (a n i : ℕ) → is_in (passing p a n) i ≡ ((nat_le a i && nat_lt i (a + n)) && p i)
passing_in p a zero i = grind (arith, nat_tests)
passing_in p a (suc n) i =
    let rest : is_in (passing p (a + 1) n) i ≡ ((nat_le (a + 1) i && nat_lt i (a + 1 + n)) && p i) = passing_in p (a + 1) n i in
    let same : a ≡ i → p a ≡ p i = ap p in
    elim (cases_Bool (p a)) [
      | inl t ↦ rw t (grind (arith, nat_tests, rest, same, t))
      | inr t ↦ rw t (grind (arith, nat_tests, rest, same, t))
    ]

rising_past : (p : ℕ → Bool) (a n j : ℕ) → j < a → is_rising (j ∷ passing p a n) ≡ true
rising_past p a zero j l = refl
rising_past p a (suc n) j l = elim (cases_Bool (p a)) [
  | inl t ↦ rw t (and_from (nat_lt j a) (is_rising (a ∷ passing p (a + 1) n)) (lt-ltb j a l) (rising_past p (a + 1) n a (omega arith)))
  | inr t ↦ rw t (rising_past p (a + 1) n j (omega arith))
]

rising_rest : (j : ℕ) (is : List ℕ) → is_rising (j ∷ is) ≡ true → is_rising is ≡ true
rising_rest j [] e = refl
rising_rest j (i ∷ is) e = (and_parts (nat_lt j i) (is_rising (i ∷ is)) e).1

pub passing_rises : (p : ℕ → Bool) (n : ℕ) → is_rising (passing p 1 n) ≡ true
passing_rises p n = rising_rest 0 (passing p 1 n) (rising_past p 1 n 0 (omega arith))

pub all_from : (q : ℕ → Bool) (ids : List ℕ) → ((i : ℕ) → is_in ids i ≡ true → q i ≡ true) → list_all q ids ≡ true
all_from q [] each = refl
all_from q (i ∷ ids) each =
    and_from (q i) (list_all q ids) (each i (grind (arith, nat_tests))) (all_from q ids (λ j e. each j (or_later (i == j) (is_in ids j) e)))
  where
    or_later : (a b : Bool) → b ≡ true → (a || b) ≡ true
    or_later true b e = refl
    or_later false b e = e

-- What has a tag and is not marked

abbrev pub is_left : List (Option Tag) → List Bool → ℕ → Bool
is_left tags marks i = is_some (tag_at tags i) && not (is_marked marks i)

shown : (b : Bool) (t : Tag) → is_some (if b then Some t else None) ≡ b
shown true t = refl
shown false t = refl

pub tagged : (h : History) (i : ℕ) → is_some (tag_said h i) ≡ is_there h i
tagged h i = shown (is_there h i) (tag_of (kind h i))

pub in_range : (n i : ℕ) (g : Bool) → (nat_le 1 i && nat_lt i (1 + n)) ≡ true → 0 < i
in_range n i g e = let l : 1 ≤ i = leb-true 1 i (and_parts (nat_le 1 i) (nat_lt i (1 + n)) e).0 in omega (arith, l)

pub record AreLeft (h : History) (marks : List Bool) (ids : List ℕ) : Type 0 where
  pub only : (i : ℕ) → is_in ids i ≡ true → (is_there h i ≡ true) × (is_marked marks i ≡ false)
  pub every : (i : ℕ) → is_there h i ≡ true → is_marked marks i ≡ false → is_in ids i ≡ true

pub within_range : (h : History) (i : ℕ) → is_there h i ≡ true → (nat_le 1 i && nat_lt i (1 + made h)) ≡ true
within_range h i there =
    let parts = and_parts (nat_lt 0 i) (nat_le i (made h)) (and_parts (nat_lt 0 i && nat_le i (made h)) (not (is_gone h i)) there).0 in
    let low : 0 < i = ltb-true 0 i parts.0 in
    let high : i ≤ made h = leb-true i (made h) parts.1 in
    grind (arith, nat_tests, low, high)

left_are : (h : History) (tags : List (Option Tag)) (marks : List Bool) (n : ℕ) → n ≡ made h → ((i : ℕ) → 0 < i → tag_at tags i ≡ tag_said h i) → AreLeft h marks (passing (is_left tags marks) 1 n)
left_are h tags marks n count says = record {
  only = λ i e.
      let parts = and_parts (nat_le 1 i && nat_lt i (1 + n)) (is_left tags marks i) (sym (passing_in (is_left tags marks) 1 n i) ∙ e) in
      let left = and_parts (is_some (tag_at tags i)) (not (is_marked marks i)) parts.1 in
      (sym (ap is_some (says i (in_range n i true parts.0)) ∙ tagged h i) ∙ left.0, is_not (is_marked marks i) left.1);
  every = λ i there unmarked.
      let range = within_range h i there in
      let here = ap is_some (says i (in_range (made h) i true range)) ∙ tagged h i ∙ there in
      passing_in (is_left tags marks) 1 n i
      ∙ and_from (nat_le 1 i && nat_lt i (1 + n)) (is_left tags marks i) (ap (λ m. nat_le 1 i && nat_lt i (1 + m)) count ∙ range)
      (and_from (is_some (tag_at tags i)) (not (is_marked marks i)) here (ap not unmarked));
}

left_there : (h : History) (marks : List Bool) (ids : List ℕ) → AreLeft h marks ids → list_all (is_there h) ids ≡ true
left_there h marks ids left = all_from (is_there h) ids (λ i e. (left.only i e).0)

-- So it is all that is dead

left_dead : (over : Buffers) (b : AgentView) (marks : List Bool) (ids : List ℕ) → LegalBy over (receivers b.plan.jobs) b.history → Stays (receivers b.plan.jobs) b.history → AreMarksOf b marks
    → AreLeft b.history marks ids → AreDead (receivers b.plan.jobs) b.history ids
left_dead over b marks ids legal stays least left = record {
  only = λ i e. record {
    there = (left.only i e).0;
    unreached = λ reached. false≢true (sym (left.only i e).1 ∙ reached_marked over b marks legal stays least i reached);
  };
  every = λ i dead. left.every i dead.there (elim (cases_Bool (is_marked marks i)) [
    | inl m ↦ absurd (dead.unreached (marked_reached b marks least i m))
    | inr m ↦ m
  ]);
}

-- all that is dead, in order
pub record Dead (b : AgentView) (ids : List ℕ) : Type 0 where
  pub dead : AreDead (receivers b.plan.jobs) b.history ids
  pub there : list_all (is_there b.history) ids ≡ true
  pub rising : is_rising ids ≡ true

pub all_dead : (b : AgentView) (s : TablesView) (c : Cursor) (marks : List Bool) (ids : List ℕ) → RecordTies b.over b.plan b.history s c → AreMarksOf b marks
    → (n : ℕ) → n ≡ made b.history → ids ≡ passing (is_left s.tags.all marks) 1 n → Dead b ids
all_dead b s c marks ids ties least n all is =
    let left = subst (AreLeft b.history marks) (sym is) (left_are b.history s.tags.all marks n all ties.says.tags) in
    record {
      dead = left_dead b.over b marks ids ties.legal (stays_along b.over b.plan b.history ties.legal ties.follows) least left;
      there = left_there b.history marks ids left;
      rising = subst (λ l. is_rising l ≡ true) (sym is) (passing_rises (is_left s.tags.all marks) n);
    }
