-- What is held weakly was made, and the flags have it once identities and registrations were gone through.
use Rattle.std.proofs.Common.{◌≡◌, ℕ, suc, ◌+◌, ◌<◌, ◌≤◌, ◌==◌, ◌&&◌, ◌||◌, not, Bool, true, false, cond, nat_lt, nat_le, sym, ◌∙◌, ap, subst, arith, List, [], ◌∷◌, ◌++◌, length, Option, Some, None, inl, inr, refl}
use Rattle.std.specs.List.{AllByRecursion}
use Rattle.std.specs.Option.{option_and_then}
use Rattle.std.proofs.lemmas.Bool.{cases_Bool, or_cases, or_left, and_parts, and_from, eqb-true, eq-eqb, ltb-true, leb-true, false≢true}
use Rattle.es_value.specs.declared.value.Value.{Value}
use Rattle.es_ephemeron.specs.Ephemerons.{held_by}
use Rattle.es_event.specs.declared.event.Event.{Event}
use Rattle.es_event.specs.declared.event.Event.TheVariants.{Did}
use Rattle.es_event.specs.Commands.{first, second, reads}
use Rattle.es_event.specs.History.{History}
use Rattle.es_event.specs.Identities.{identity, is_in, made, gone, is_gone, is_there}
use Rattle.es_event.specs.Jobs.{Receivers}
use Rattle.es_event.specs.WeakRefs.{target, first_target}
use Rattle.es_event.specs.Ephemerons.{entry, is_member, first_member, joined, same_pair}
use Rattle.es_event.specs.Registrations.{Cell, Fate, live, awaiting, unregistered, taken, cell, fate, registered, same_fate, is_present}
use Rattle.es_event.specs.Sharing.{Buffers}
use Rattle.es_event.specs.Legal.{LegalBy}
use Rattle.es_event.proofs.Born.{IsMade}
use Rattle.es_event.proofs.Cells.{cell_within}
use Rattle.es_event.proofs.Entries.{joins}
use Rattle.es_event.proofs.Holds.{first_of, second_of}
use Rattle.es_event.proofs.LookBacks.{at_either}
use Rattle.es_event.proofs.Objects.{held_made, made_within, map_within, key_within}
use Rattle.es_event.proofs.Registries.{watched_within, token_within}
use Rattle.es_event.proofs.Targets.{target_from}
use Rattle.es_record.specs.Leading.{AddsUnder, AddsSets, registration_in, registration_said}
use Rattle.es_record.proofs.Reached.{both_of, here_of, is_within}
use Rattle.es_why.specs.Flags.{is_set, is_this, Sets}
use Rattle.es_why.specs.Kept.{IsHeldWeakly, by_weakref, by_entry, by_member, by_target, by_token}
use Rattle.es_why.specs.Weakly.{target_of, is_watched, TellsEntry, TellsMember, Passed, AreFlagged}
use Rattle.es_why.proofs.Parts.{both_some}
use Rattle.es_why.proofs.Setting.{set_before, set_added, set_either, this_one, is_that}

there_within : (h : History) (i : ℕ) → is_there h i ≡ true → (0 < i) × (i ≤ made h)
there_within h i there =
    let parts = and_parts (nat_lt 0 i) (nat_le i (made h)) (both_of (nat_lt 0 i && nat_le i (made h)) (is_gone h i) there).0 in
    (ltb-true 0 i parts.0, leb-true i (made h) parts.1)

-- A WeakSet and its member were made

record Joining (h : History) (s k : ℕ) : Type 0 where
  set : (0 < s) × (s ≤ made h)
  member : (0 < k) × (k ≤ made h)

joining_later : (e : Event) (h : History) (s k : ℕ) → Joining h s k → Joining (e ∷ h) s k
joining_later e h s k was =
    let set = was.set.1 in
    let member = was.member.1 in
    record { set = (was.set.0, omega (arith, set)); member = (was.member.0, omega (arith, member)) }

members_made : (over : Buffers) (into : Receivers) (h : History) → LegalBy over into h → (s k : ℕ) → first_member h s k ≡ true → Joining h s k
members_made over into [] l s k e = cc
members_made over into (Did (c, vs, r) ∷ h) l s k e =
    joining_later (Did (c, vs, r)) h s k (
    at_either (λ a. a ≡ true → Joining h s k) same_pair (s, k) (joined (Did (c, vs, r))) (first_member h s k)
    (λ q js t f.
    let parts = and_parts (q.0.0 == s) (q.0.1 == k) t in
    let j = joins c vs r q js in
    let held = (held_made over into h l.1).held in
    let of_first : IsMade h (first vs) = subst (IsMade h) (ap first (sym l.0.0)) (first_of (IsMade h) into h (reads c) held) in
    let of_second : IsMade h (second vs) = subst (IsMade h) (ap second (sym l.0.0)) (second_of (IsMade h) into h (reads c) held) in
    record {
      set = subst (λ i. (0 < i) × (i ≤ made h)) (eqb-true q.0.0 s parts.0) (made_within over into h l.1 (first vs) q.0.0 of_first (ap identity j.set));
      member = subst (λ i. (0 < i) × (i ≤ made h)) (eqb-true q.0.1 k parts.1) (made_within over into h l.1 (second vs) q.0.1 of_second j.member);
    })
    (λ f. members_made over into h l.1 s k f) e)
members_made over into (x ∷ h) l s k e = joining_later x h s k (members_made over into h l.1 s k e)

member_cond : (g m : Bool) → cond g false m ≡ true → m ≡ true
member_cond true m e = cc
member_cond false m e = e

joining : (over : Buffers) (into : Receivers) (h : History) → LegalBy over into h → (s k : ℕ) → is_member h s k ≡ true → Joining h s k
joining over into h l s k e = members_made over into h l s k (member_cond (is_gone h k) (first_member h s k) e)

-- Targets

target_parts : (b : Bool) (o : Option ℕ) (i : ℕ) → cond b o None ≡ Some i → (b ≡ true) × (o ≡ Some i)
target_parts true o i e = (refl, e)
target_parts false o i e = cc

target_weak : (h : History) (w i : ℕ) → target_of h w ≡ Some i → IsHeldWeakly h i
target_weak h w i e =
    let parts = target_parts (is_there h w) (option_and_then identity (target h w)) i e in
    let at = both_some identity (target h w) i parts.1 in
    by_weakref w at.0 i parts.0 at.1 at.2

target_made : (over : Buffers) (into : Receivers) (h : History) → LegalBy over into h → (w i : ℕ) → target_of h w ≡ Some i → i ≤ made h
target_made over into h l w i e =
    let parts = target_parts (is_there h w) (option_and_then identity (target h w)) i e in
    let at = both_some identity (target h w) i parts.1 in
    (made_within over into h l at.0 i ((held_made over into h l).targets w at.0 (target_from (gone h) (first_target h w) at.0 at.1).0) at.2).1

-- Keys and members

not_none : (n : ℕ) → not (suc n == 0) ≡ true
not_none n = elim (cases_Bool (suc n == 0)) [
  | inl t ↦ absurd (let z : suc n ≡ 0 = eqb-true (suc n) 0 t in omega (arith, z))
  | inr f ↦ ap not f
]

one_of : {X : Type 0} (P : X → Type 0) (xs : List X) → AllByRecursion P xs → not (length xs == 0) ≡ true → (x : X) × P x
one_of P [] all e = absurd (false≢true e)
one_of P (x ∷ xs) all e = (x, all.0)

some_held : (es : List (ℕ × Value)) (m : ℕ) (v : Value) → held_by es m ≡ Some v → not (length es == 0) ≡ true
some_held [] m v e = cc
some_held (x ∷ es) m v e = not_none (length es)

some_in : (xs : List ℕ) (i : ℕ) → is_in xs i ≡ true → not (length xs == 0) ≡ true
some_in [] i e = absurd (false≢true e)
some_in (x ∷ xs) i e = not_none (length xs)

pub tells_entry : (over : Buffers) (into : Receivers) (h : History) → LegalBy over into h → (k : ℕ) (old new : List (ℕ × Value)) (b : Bool)
    → old ≡ [] → AddsUnder h k old new → b ≡ not (length new == 0) → TellsEntry h k b
tells_entry over into h l k old new b none adds is =
    let all : new ≡ adds.entries = adds.added ∙ ap (λ (es : List (ℕ × Value)). es ++ adds.entries) none in
    let same : b ≡ not (length adds.entries == 0) = is ∙ ap (λ (es : List (ℕ × Value)). not (length es == 0)) all in
    record {
      only = λ e.
          let at = one_of (λ x. (is_gone h x.0 ≡ false) × (entry h x.0 k ≡ Some x.1)) adds.entries adds.only (sym same ∙ e) in
          by_entry at.0.0 k at.0.1 (is_within h at.0.0 (map_within over into h l at.0.0 k at.0.1 at.1.1) at.1.0) at.1.1;
      every = λ m v here e. same ∙ some_held adds.entries m v (adds.every m v here e);
    }

pub tells_member : (over : Buffers) (into : Receivers) (h : History) → LegalBy over into h → (k : ℕ) (old new : List ℕ) (b : Bool)
    → old ≡ [] → AddsSets h k old new → b ≡ not (length new == 0) → TellsMember h k b
tells_member over into h l k old new b none adds is =
    let all : new ≡ adds.sets = adds.added ∙ ap (λ (es : List ℕ). es ++ adds.sets) none in
    let same : b ≡ not (length adds.sets == 0) = is ∙ ap (λ (es : List ℕ). not (length es == 0)) all in
    record {
      only = λ e.
          let at = one_of (λ s. (is_gone h s ≡ false) × (is_member h s k ≡ true)) adds.sets adds.only (sym same ∙ e) in
          by_member at.0 k (is_within h at.0 (joining over into h l at.0 k at.1.1).set at.1.0) at.1.1;
      every = λ s here e. same ∙ some_in adds.sets s (adds.every s here e);
    }

-- Registrations

watched_weak : (h : History) (n i : ℕ) (f : Fate) (k : Option Cell) → fate h n ≡ f → cell h n ≡ k → is_watched (option_and_then (registration_in n f) k) i ≡ true → IsHeldWeakly h i
watched_weak h n i f None is at e = absurd (false≢true e)
watched_weak h n i live (Some c) is at e = elim (or_cases (c.target == i) (is_this c.token i) e) [
  | inl a ↦ by_target n c i at (ap (λ g. same_fate g live) is) (eqb-true c.target i a)
  | inr b ↦ by_token n c i at (ap is_present is) (this_one c.token i b)
]
watched_weak h n i awaiting (Some c) is at e = by_token n c i at (ap is_present is) (this_one c.token i e)
watched_weak h n i unregistered (Some c) is at e = absurd (false≢true e)
watched_weak h n i taken (Some c) is at e = absurd (false≢true e)

target_watched : (n : ℕ) (f : Fate) (c : Cell) → same_fate f live ≡ true → is_watched (registration_in n f c) c.target ≡ true
target_watched n live c e = or_left (c.target == c.target) (is_this c.token c.target) (eq-eqb c.target c.target refl)
target_watched n awaiting c e = absurd (false≢true e)
target_watched n unregistered c e = absurd (false≢true e)
target_watched n taken c e = absurd (false≢true e)

or_last : (a b : Bool) → b ≡ true → (a || b) ≡ true
or_last true b e = refl
or_last false b e = e

token_watched : (n i : ℕ) (f : Fate) (c : Cell) → is_present f ≡ true → c.token ≡ Some i → is_watched (registration_in n f c) i ≡ true
token_watched n i live c e is = or_last (c.target == i) (is_this c.token i) (is_that c.token i is)
token_watched n i awaiting c e is = is_that c.token i is
token_watched n i unregistered c e is = absurd (false≢true e)
token_watched n i taken c e is = absurd (false≢true e)

-- Going through

-- more that is held weakly is added
passed_more : (h : History) (a n : ℕ) (test : ℕ → Bool) (f g : List Bool) → Passed h a n f → Sets test f g → ((i : ℕ) → test i ≡ true → IsHeldWeakly h i) → Passed h a n g
passed_more h a n test f g was sets weak = record {
  room = (let room = was.room in let places = sets.places in omega (arith, room, places));
  only = λ i e. set_either test f g sets (IsHeldWeakly h i) i (weak i) (was.only i) e;
  targets = λ w i l m e. set_before test f g sets i (was.targets w i l m e);
  entries = λ m i v l u here e. set_before test f g sets i (was.entries m i v l u here e);
  members = λ s i l u here e. set_before test f g sets i (was.members s i l u here e);
  cells = λ n c l u at e. set_before test f g sets c.target (was.cells n c l u at e);
  tokens = λ n i c l u at e is. set_before test f g sets i (was.tokens n i c l u at e is);
}

-- the number is the last, or one of those before
last_or : (X : Type 0) (a i : ℕ) → i ≤ a + 1 → (i ≤ a → X) → (a + 1 ≡ i → X) → X
last_or X a i u before last = elim (cases_Bool (a + 1 == i)) [
  | inl t ↦ last (eqb-true (a + 1) i t)
  | inr f ↦ before (let other : a + 1 ≡ i → ⊥ = λ e. false≢true (sym f ∙ eq-eqb (a + 1) i e) in omega (arith, u, other))
]

-- one identity more
passed_identity : (h : History) (a : ℕ) (g : List Bool) → Passed h a 0 g → ((i : ℕ) → target_of h (a + 1) ≡ Some i → is_set g i ≡ true)
    → ((m : ℕ) (v : Value) → is_gone h m ≡ false → entry h m (a + 1) ≡ Some v → is_set g (a + 1) ≡ true)
    → ((s : ℕ) → is_gone h s ≡ false → is_member h s (a + 1) ≡ true → is_set g (a + 1) ≡ true) → Passed h (a + 1) 0 g
passed_identity h a g was target key member = record {
  room = was.room;
  only = was.only;
  targets = λ w i l u e. last_or (is_set g i ≡ true) a w u (λ m. was.targets w i l m e) (λ same. target i (ap (target_of h) same ∙ e));
  entries = λ m i v l u here e. last_or (is_set g i ≡ true) a i u (λ k. was.entries m i v l k here e)
      (λ same. subst (λ j. is_set g j ≡ true) same (key m v here (ap (entry h m) same ∙ e)));
  members = λ s i l u here e. last_or (is_set g i ≡ true) a i u (λ k. was.members s i l k here e)
      (λ same. subst (λ j. is_set g j ≡ true) same (member s here (ap (is_member h s) same ∙ e)));
  cells = was.cells;
  tokens = was.tokens;
}

where_both : (b : Bool) (m i : ℕ) → (b && (m == i)) ≡ true → (b ≡ true) × (m ≡ i)
where_both b m i e = let parts = and_parts b (m == i) e in (parts.0, eqb-true m i parts.1)

key_weak : (h : History) (m i : ℕ) (b : Bool) → (b ≡ true → IsHeldWeakly h m) → (b && (m == i)) ≡ true → IsHeldWeakly h i
key_weak h m i b only e = let parts = where_both b m i e in subst (IsHeldWeakly h) parts.1 (only parts.0)

pub passed_one : (over : Buffers) (into : Receivers) (h : History) → LegalBy over into h → (a m : ℕ) (f f1 f2 g : List Bool) (o : Option ℕ) (b d : Bool)
    → m ≡ a + 1 → a < made h → Passed h a 0 f → o ≡ target_of h m → Sets (is_this o) f f1 → TellsEntry h m b → Sets (λ i. b && (m == i)) f1 f2
    → TellsMember h m d → Sets (λ i. d && (m == i)) f2 g → Passed h (a + 1) 0 g
passed_one over into h l a m f f1 f2 g o b d number less was is one entries two members three =
    let next : o ≡ target_of h (a + 1) = is ∙ ap (target_of h) number in
    let p1 : Passed h a 0 f1 = passed_more h a 0 (is_this o) f f1 was one (λ i e. target_weak h m i (sym is ∙ this_one o i e)) in
    let p2 : Passed h a 0 f2 = passed_more h a 0 (λ i. b && (m == i)) f1 f2 p1 two (λ i e. key_weak h m i b entries.only e) in
    let p3 : Passed h a 0 g = passed_more h a 0 (λ i. d && (m == i)) f2 g p2 three (λ i e. key_weak h m i d members.only e) in
    let r0 = was.room in
    let r1 = p1.room in
    let r2 = p2.room in
    let at_m : m < length f1 = omega (arith, number, less, r1) in
    let at_m2 : m < length f2 = omega (arith, number, less, r2) in
    passed_identity h a g p3
    (λ i e.
    let i_made : i ≤ made h = target_made over into h l (a + 1) i e in
    let i_in : i < length f = omega (arith, i_made, r0) in
    set_before (λ j. d && (m == j)) f2 g three i
    (set_before (λ j. b && (m == j)) f1 f2 two i (set_added (is_this o) f f1 one i i_in (is_that o i (next ∙ e)))))
    (λ k v here e.
    let has : b ≡ true = entries.every k v here (ap (entry h k) number ∙ e) in
    subst (λ j. is_set g j ≡ true) number
    (set_before (λ j. d && (m == j)) f2 g three m (set_added (λ j. b && (m == j)) f1 f2 two m at_m (and_from b (m == m) has (eq-eqb m m refl)))))
    (λ s here e.
    let has : d ≡ true = members.every s here (ap (is_member h s) number ∙ e) in
    subst (λ j. is_set g j ≡ true) number (set_added (λ j. d && (m == j)) f2 g three m at_m2 (and_from d (m == m) has (eq-eqb m m refl))))

-- one registration more
pub passed_registration : (over : Buffers) (into : Receivers) (h : History) → LegalBy over into h → (a n : ℕ) (f g : List Bool)
    → Passed h a n f → Sets (is_watched (registration_said h (n + 1))) f g → Passed h a (n + 1) g
passed_registration over into h l a n f g was sets =
    let test : ℕ → Bool = is_watched (registration_said h (n + 1)) in
    let more : Passed h a n g = passed_more h a n test f g was sets (λ i e. watched_weak h (n + 1) i (fate h (n + 1)) (cell h (n + 1)) refl refl e) in
    let room = was.room in
    record {
      room = more.room;
      only = more.only;
      targets = more.targets;
      entries = more.entries;
      members = more.members;
      cells = λ k c low u at e. last_or (is_set g c.target ≡ true) n k u (λ m. more.cells k c low m at e)
          (λ same.
          let here : cell h (n + 1) ≡ Some c = ap (cell h) same ∙ at in
          let is_live : same_fate (fate h (n + 1)) live ≡ true = ap (λ j. same_fate (fate h j) live) same ∙ e in
          let within = (watched_within over into h l k c at).1 in
          set_added test f g sets c.target (omega (arith, within, room))
          (ap (λ o. is_watched (option_and_then (registration_in (n + 1) (fate h (n + 1))) o) c.target) here ∙ target_watched (n + 1) (fate h (n + 1)) c is_live));
      tokens = λ k i c low u at e is. last_or (is_set g i ≡ true) n k u (λ m. more.tokens k i c low m at e is)
          (λ same.
          let here : cell h (n + 1) ≡ Some c = ap (cell h) same ∙ at in
          let stays : is_present (fate h (n + 1)) ≡ true = ap (λ j. is_present (fate h j)) same ∙ e in
          let within = (token_within over into h l k c i at is).1 in
          set_added test f g sets i (omega (arith, within, room))
          (ap (λ o. is_watched (option_and_then (registration_in (n + 1) (fate h (n + 1))) o) i) here ∙ token_watched (n + 1) i (fate h (n + 1)) c stays is));
    }

-- all were gone through

module _ (over : Buffers) (into : Receivers) (h : History) (legal : LegalBy over into h) (f : List Bool) (p : Passed h (made h) (registered h) f) where
  found : {i : ℕ} → IsHeldWeakly h i → is_set f i ≡ true
  found (by_weakref w v i there t is) =
      let within = there_within h w there in
      p.targets w i within.0 within.1 (ap (λ b. cond b (option_and_then identity (target h w)) None) there ∙ ap (option_and_then identity) t ∙ is)
  found (by_entry m i v there e) = let within = key_within over into h legal m i v e in p.entries m i v within.0 within.1 (here_of h m there) e
  found (by_member s i there e) = let within = (joining over into h legal s i e).member in p.members s i within.0 within.1 (here_of h s there) e
  found (by_target n c i at e is) = let within = cell_within h n c at in subst (λ j. is_set f j ≡ true) is (p.cells n c within.0 within.1 at e)
  found (by_token n c i at e is) = let within = cell_within h n c at in p.tokens n i c within.0 within.1 at e is

  pub all_flagged : AreFlagged h f
  all_flagged i = (p.only i, λ e. found e)
