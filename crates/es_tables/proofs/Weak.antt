-- What the tables say of entries of WeakMaps and members of WeakSets, after one more event and after values were emptied.
use Rattle.std.proofs.Common.{◌≡◌, ℕ, ◌==◌, ◌||◌, Bool, true, false, cond, sym, ◌∙◌, ap, refl, subst, List, ◌++◌, Option, Some, None}
use Rattle.std.specs.Prelude.{unwrap_or}
use Rattle.std.proofs.lemmas.Bool.{eqb-true, and_parts}
use Rattle.es_value.specs.declared.value.Value.{Value}
use Rattle.es_event.specs.declared.event.Event.{Event}
use Rattle.es_event.specs.declared.event.Event.TheVariants.{Did}
use Rattle.es_event.specs.Commands.{first, second, reads}
use Rattle.es_event.specs.Sharing.{Buffers}
use Rattle.es_event.specs.History.{History, at_key}
use Rattle.es_event.specs.Identities.{identity, gone, is_gone, is_in}
use Rattle.es_event.specs.Jobs.{Receivers}
use Rattle.es_event.specs.Ephemerons.{same_pair, entered, joined}
use Rattle.es_event.specs.Legal.{Lawful, values_of}
use Rattle.es_event.proofs.Alive.{Stays, Alive, alive_at}
use Rattle.es_event.proofs.Entries.{wrote, joins}
use Rattle.es_event.proofs.Holds.{first_of, second_of}
use Rattle.es_event.proofs.Lists.{in_both}

-- what is left of a record: nothing, where its holder or its key is emptied
abbrev pub left_of : {A : Type 0} → A → Bool → Bool → A → A
left_of none m k a = cond m none (cond k none a)

-- One more event

-- a holder and a key that are written are there
pub written : {A : Type 0} (none : A) (m k : ℕ) (says : Option ((ℕ × ℕ) × A)) (gm gk : Bool) (before : A)
    → ((q : (ℕ × ℕ) × A) → says ≡ Some q → (q.0.0 ≡ m → gm ≡ false) × (q.0.1 ≡ k → gk ≡ false))
    → unwrap_or (at_key same_pair (m, k) says) (left_of none gm gk before) ≡ left_of none gm gk (unwrap_or (at_key same_pair (m, k) says) before)
written none m k None gm gk before there = refl
written none m k (Some q) gm gk before there =
    elim (same_pair q.0 (m, k)) as (λ b. same_pair q.0 (m, k) ≡ b → unwrap_or (cond b (Some q.1) None) (left_of none gm gk before) ≡ left_of none gm gk (unwrap_or (cond b (Some q.1) None) before)) [
      | true ↦ λ t.
          let parts = and_parts (q.0.0 == m) (q.0.1 == k) t in
          let here = there q refl in
          sym (ap (λ b. cond b none (cond gk none q.1)) (here.0 (eqb-true q.0.0 m parts.0)) ∙ ap (λ b. cond b none q.1) (here.1 (eqb-true q.0.1 k parts.1)))
      | false ↦ λ t. refl
    ] refl

first_alive : (into : Receivers) (h : History) (xs : List (List ℕ)) (vs : List Value) (i : ℕ) → vs ≡ values_of into h xs → Stays into h → identity (first vs) ≡ Some i → is_gone h i ≡ false
first_alive into h xs vs i e stays is = alive_at h (first vs) i (subst (Alive h) (ap first (sym e)) (first_of (Alive h) into h xs stays.held)) is

second_alive : (into : Receivers) (h : History) (xs : List (List ℕ)) (vs : List Value) (i : ℕ) → vs ≡ values_of into h xs → Stays into h → identity (second vs) ≡ Some i → is_gone h i ≡ false
second_alive into h xs vs i e stays is = alive_at h (second vs) i (subst (Alive h) (ap second (sym e)) (second_of (Alive h) into h xs stays.held)) is

pub entered_there : (over : Buffers) (into : Receivers) (h : History) (e : Event) (m k : ℕ) → Lawful over into h e → Stays into h
    → (q : (ℕ × ℕ) × Option Value) → entered e ≡ Some q → (q.0.0 ≡ m → is_gone h m ≡ false) × (q.0.1 ≡ k → is_gone h k ≡ false)
entered_there over into h (Did (c, vs, r)) m k lawful stays q is =
    let w = wrote c vs r q is in (
      λ same. subst (λ i. is_gone h i ≡ false) same (first_alive into h (reads c) vs q.0.0 lawful.0 stays (ap identity w.map)),
      λ same. subst (λ i. is_gone h i ≡ false) same (second_alive into h (reads c) vs q.0.1 lawful.0 stays w.key),
    )
entered_there over into h _ m k lawful stays q is = cc

pub joined_there : (over : Buffers) (into : Receivers) (h : History) (e : Event) (m k : ℕ) → Lawful over into h e → Stays into h
    → (q : (ℕ × ℕ) × Bool) → joined e ≡ Some q → (q.0.0 ≡ m → is_gone h m ≡ false) × (q.0.1 ≡ k → is_gone h k ≡ false)
joined_there over into h (Did (c, vs, r)) m k lawful stays q is =
    let w = joins c vs r q is in (
      λ same. subst (λ i. is_gone h i ≡ false) same (first_alive into h (reads c) vs q.0.0 lawful.0 stays (ap identity w.set)),
      λ same. subst (λ i. is_gone h i ≡ false) same (second_alive into h (reads c) vs q.0.1 lawful.0 stays w.member),
    )
joined_there over into h _ m k lawful stays q is = cc

-- Values emptied

dropped_by : {A : Type 0} (none : A) (im ik gm gk : Bool) (before : A) → cond (im || ik) none (left_of none gm gk before) ≡ left_of none (im || gm) (ik || gk) before
dropped_by none true ik gm gk before = refl
dropped_by none false true true gk before = refl
dropped_by none false true false gk before = refl
dropped_by none false false gm gk before = refl

-- by the identities emptied now, and those that were emptied before
pub dropped : {A : Type 0} (none : A) (ids : List ℕ) (h : History) (m k : ℕ) (before : A)
    → cond (is_in ids m || is_in ids k) none (left_of none (is_gone h m) (is_gone h k) before) ≡ left_of none (is_in (ids ++ gone h) m) (is_in (ids ++ gone h) k) before
dropped none ids h m k before =
    dropped_by none (is_in ids m) (is_in ids k) (is_gone h m) (is_gone h k) before
    ∙ ap (λ b. left_of none b (is_in ids k || is_gone h k) before) (sym (in_both ids (gone h) m))
    ∙ ap (λ b. left_of none (is_in (ids ++ gone h) m) b before) (sym (in_both ids (gone h) k))
