-- In a legal history what has an entry is a WeakMap.
use Rattle.std.proofs.Common.{◌≡◌, ℕ, ◌+◌, ◌==◌, true, ◌∙◌, ap, refl, subst, arith, List, [], ◌∷◌, Option, Some, None}
use Rattle.std.specs.Prelude.{is_some}
use Rattle.std.proofs.lemmas.Bool.{eqb-true, and_parts}
use Rattle.es_value.specs.declared.value.Value.{Value}
use Rattle.es_value.specs.declared.value.Value.TheVariants.{Object}
use Rattle.es_event.specs.declared.event.Event.{Event}
use Rattle.es_event.specs.declared.event.Event.TheVariants.{Did}
use Rattle.es_event.specs.declared.event.Refusal.TheVariants.{NotAWeakMap}
use Rattle.es_event.specs.declared.command.Command.{Command}
use Rattle.es_event.specs.declared.command.Command.TheVariants.{WeakMapSet, WeakMapDelete}
use Rattle.es_event.specs.Commands.{first, second, Kind}
use Rattle.es_event.specs.History.{History}
use Rattle.es_event.specs.Identities.{made, kind, born}
use Rattle.es_event.specs.Jobs.{Receivers}
use Rattle.es_event.specs.Ephemerons.{same_pair, entered, entered_by, first_entry}
use Rattle.es_event.specs.Sharing.{Buffers}
use Rattle.es_event.specs.Rules.{is_weakmap, kind_of, of_held_weakly, tests, first_refusal}
use Rattle.es_event.specs.Heard.{heard_by}
use Rattle.es_event.specs.Legal.{LegalBy}
use Rattle.es_event.proofs.Accepted.{is_accepted, first_holds}
use Rattle.es_event.proofs.LookBacks.{at_either}
use Rattle.es_event.proofs.Births.{born_next}
use Rattle.es_event.proofs.Objects.{object_within}
use Rattle.es_event.proofs.Entries.{wrote}

-- what is made is none of what was made, so an object keeps its kind
pub kind_same : (over : Buffers) (into : Receivers) (e : Event) (h : History) → LegalBy over into (e ∷ h) → (o : ℕ) → is_some (kind h o) ≡ true → kind (e ∷ h) o ≡ kind h o
kind_same over into e h l o is =
    at_either (λ k. k ≡ kind h o) (λ i j. i == j) o (born e) (kind h o)
    (λ q s t.
    let late : made h + 1 ≡ q.0 = born_next over into h e q l.0 s in
    let early = object_within over into h l.1 o is in
    absurd (omega (arith, late, early.1, eqb-true q.0 o t))) refl

a_kind : (k : Option Kind) → is_weakmap k ≡ true → is_some k ≡ true
a_kind None e = cc
a_kind (Some k) e = refl

map_stays : (over : Buffers) (into : Receivers) (e : Event) (h : History) → LegalBy over into (e ∷ h) → (m : ℕ) → is_weakmap (kind h m) ≡ true → is_weakmap (kind (e ∷ h) m) ≡ true
map_stays over into e h l m is = ap is_weakmap (kind_same over into e h l m (a_kind (kind h m) is)) ∙ is

-- What writes an entry is given a WeakMap

map_test : (over : Buffers) (h : History) (c : Command) (vs : List Value) (q : (ℕ × ℕ) × Option Value) → entered_by c vs ≡ Some q → first_refusal (tests over h c vs) ≡ None → is_weakmap (kind_of h (first vs)) ≡ true
map_test over h (WeakMapSet m k y) vs q e f = (first_holds (is_weakmap (kind_of h (first vs))) NotAWeakMap (of_held_weakly (second vs) ∷ []) f).0
map_test over h (WeakMapDelete to m k) vs q e f = (first_holds (is_weakmap (kind_of h (first vs))) NotAWeakMap [] f).0
map_test over h _ vs q e f = cc

pub entry_in_map : (over : Buffers) (into : Receivers) (h : History) → LegalBy over into h → (m k : ℕ) (v : Value) → first_entry h m k ≡ Some v → is_weakmap (kind h m) ≡ true
entry_in_map over into [] l m k v e = cc
entry_in_map over into (Did (c, vs, r) ∷ h) l m k v e =
    map_stays over into (Did (c, vs, r)) h l m
    (at_either (λ a. a ≡ Some v → is_weakmap (kind h m) ≡ true) same_pair (m, k) (entered (Did (c, vs, r))) (first_entry h m k)
    (λ q s t f.
    let at : first vs ≡ Object m = (wrote c vs r q s).map ∙ ap Object (eqb-true q.0.0 m (and_parts (q.0.0 == m) (q.0.1 == k) t).0) in
    subst (λ w. is_weakmap (kind_of h w) ≡ true) at (map_test over h c vs q s (is_accepted over h c vs (heard_by c r) r l.0.1)))
    (λ f. entry_in_map over into h l.1 m k v f) e)
entry_in_map over into (x ∷ h) l m k v e = map_stays over into x h l m (entry_in_map over into h l.1 m k v e)
