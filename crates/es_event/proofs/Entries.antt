-- What one more event leaves of the entries of WeakMaps, and what a command writes there and into WeakSets.
use Rattle.std.proofs.Common.{◌≡◌, ℕ, ◌==◌, Bool, true, false, cond, sym, ◌∙◌, ap, refl, List, [], ◌∷◌, Option, Some, None}
use Rattle.std.specs.Option.{option_map}
use Rattle.std.proofs.lemmas.Bool.{or_parts}
use Rattle.std.proofs.lemmas.List.Folds.{list_any-append}
use Rattle.es_value.specs.declared.value.Value.{Value}
use Rattle.es_value.specs.declared.value.Value.TheVariants.{Object}
use Rattle.es_event.specs.declared.event.Answer.{Answer}
use Rattle.es_event.specs.declared.event.Event.{Event}
use Rattle.es_event.specs.declared.event.Event.TheVariants.{Did}
use Rattle.es_event.specs.declared.command.Command.{Command}
use Rattle.es_event.specs.declared.command.Command.TheVariants.{WeakMapSet, WeakMapDelete, WeakSetAdd, WeakSetDelete}
use Rattle.es_event.specs.Commands.{first, second, third}
use Rattle.es_event.specs.History.{History}
use Rattle.es_event.specs.Identities.{identity, is_in, is_gone, empties, gone}
use Rattle.es_event.specs.Ephemerons.{same_pair, entered, first_entry, entry, joined}
use Rattle.es_event.proofs.LookBacks.{at_either}

pub still_there : (e : Event) (g : History) (i : ℕ) → is_gone (e ∷ g) i ≡ false → is_gone g i ≡ false
still_there e g i f = (or_parts (is_in (empties e) i) (is_gone g i) (sym (list_any-append (λ j. j == i) (empties e) (gone g)) ∙ f)).1

-- An entry is what was written, and its key is not emptied

entry_cond : (b : Bool) (o : Option Value) (v : Value) → cond b None o ≡ Some v → (b ≡ false) × (o ≡ Some v)
entry_cond true o v e = cc
entry_cond false o v e = (refl, e)

pub entry_parts : (h : History) (m k : ℕ) (v : Value) → entry h m k ≡ Some v → (is_gone h k ≡ false) × (first_entry h m k ≡ Some v)
entry_parts h m k v e = entry_cond (is_gone h k) (first_entry h m k) v e

pub entry_from : (h : History) (m k : ℕ) (v : Value) → is_gone h k ≡ false → first_entry h m k ≡ Some v → entry h m k ≡ Some v
entry_from h m k v here e = ap (λ b. cond b None (first_entry h m k)) here ∙ e

-- the event writes the entry, or it stood before
pub entry_either : (X : Type 0) (e : Event) (g : History) (m k : ℕ) (v : Value)
    → ((q : (ℕ × ℕ) × Option Value) → entered e ≡ Some q → same_pair q.0 (m, k) ≡ true → q.1 ≡ Some v → X) → (entry g m k ≡ Some v → X) → entry (e ∷ g) m k ≡ Some v → X
entry_either X e g m k v new old f =
    let parts = entry_parts (e ∷ g) m k v f in
    at_either (λ a. a ≡ Some v → X) same_pair (m, k) (entered e) (first_entry g m k) (λ q s t is. new q s t is) (λ is. old (entry_from g m k v (still_there e g k parts.0) is)) parts.1

-- What a command writes

pub mapped : {A B : Type 0} (f : A → B) (o : Option A) (q : B) → option_map f o ≡ Some q → (a : A) × (o ≡ Some a) × (f a ≡ q)
mapped f None q e = cc
mapped f (Some a) q e = (a, refl, cc)

pub inner : {A : Type 0} {a b : A} → ◌≡◌ {A = Option A} (Some a) (Some b) → a ≡ b
inner e = cc

-- the WeakMap is the first value read, the key that of the second, and the new value the third
pub record Wrote (vs : List Value) (q : (ℕ × ℕ) × Option Value) : Type 0 where
  pub map : first vs ≡ Object q.0.0
  pub key : identity (second vs) ≡ Some q.0.1
  pub value : (w : Value) → q.1 ≡ Some w → third vs ≡ w

pub wrote : (c : Command) (vs : List Value) (r : Answer) (q : (ℕ × ℕ) × Option Value) → entered (Did (c, vs, r)) ≡ Some q → Wrote vs q
wrote (WeakMapSet m k y) (Object i ∷ w ∷ v ∷ []) r q e =
    let at = mapped (λ j. ((i, j), Some v)) (identity w) q e in
    record { map = ap (λ q. Object q.0.0) at.2; key = at.1 ∙ ap (λ q. Some q.0.1) at.2; value = λ u f. inner (ap (λ q. q.1) at.2 ∙ f) }
wrote (WeakMapDelete to m k) (Object i ∷ w ∷ []) r q e =
    let at = mapped (λ j. ((i, j), None)) (identity w) q e in
    record { map = ap (λ q. Object q.0.0) at.2; key = at.1 ∙ ap (λ q. Some q.0.1) at.2; value = λ u f. let h : ◌≡◌ {A = Option Value} None (Some u) = ap (λ q. q.1) at.2 ∙ f in cc }
wrote _ vs r q e = cc

-- the WeakSet is the first value read, and the member that of the second
pub record Joined (vs : List Value) (q : (ℕ × ℕ) × Bool) : Type 0 where
  pub set : first vs ≡ Object q.0.0
  pub member : identity (second vs) ≡ Some q.0.1

pub joins : (c : Command) (vs : List Value) (r : Answer) (q : (ℕ × ℕ) × Bool) → joined (Did (c, vs, r)) ≡ Some q → Joined vs q
joins (WeakSetAdd s y) (Object i ∷ w ∷ []) r q e =
    let at = mapped (λ j. ((i, j), true)) (identity w) q e in
    record { set = ap (λ q. Object q.0.0) at.2; member = at.1 ∙ ap (λ q. Some q.0.1) at.2 }
joins (WeakSetDelete to s y) (Object i ∷ w ∷ []) r q e =
    let at = mapped (λ j. ((i, j), false)) (identity w) q e in
    record { set = ap (λ q. Object q.0.0) at.2; member = at.1 ∙ ap (λ q. Some q.0.1) at.2 }
joins _ vs r q e = cc
