-- What variables, properties and entries hold can be observed: an execution brings it into a variable of its own, and says
-- it. And what a cell holds: its target is emptied, and its cleanup takes it.
use Rattle.std.proofs.Common.{◌≡◌, ℕ, zero, suc, ◌+◌, ◌<◌, ◌≤◌, ◌==◌, true, false, cond, sym, ◌∙◌, ap, refl, arith, List, [], ◌∷◌, ◌++◌, length, Option, Some, None, Ok, inl, inr}
use Rattle.std.specs.Prelude.{unwrap_or}
use Rattle.std.specs.Option.{option_map, option_and_then}
use Rattle.std.specs.Str.{bytes_eq}
use Rattle.std.proofs.lemmas.Bool.{eq-eqb, or_left, cases_Bool}
use Rattle.std.proofs.lemmas.Slice.Eq.{bytes_eq-Decides}
use Rattle.es_value.specs.declared.value.Value.{Value}
use Rattle.es_value.specs.declared.value.Value.TheVariants.{Object}
use Rattle.es_event.specs.declared.event.Answer.TheVariants.{Nothing, Gives}
use Rattle.es_event.specs.declared.event.Event.TheVariants.{Did, Emptied, Taken}
use Rattle.es_event.specs.declared.event.Refusal.TheVariants.{NotAWeakMap}
use Rattle.es_event.specs.declared.command.Command.{Command}
use Rattle.es_event.specs.declared.command.Command.TheVariants.{Say, Get, WeakMapGet}
use Rattle.es_event.specs.Commands.{assigns, Kind, kind_made}
use Rattle.es_event.specs.History.{History, at_key}
use Rattle.es_event.specs.Identities.{identity, object_of, has_identity_in, is_gone, kind}
use Rattle.es_event.specs.Jobs.{Receivers}
use Rattle.es_event.specs.Variables.{var}
use Rattle.es_event.specs.Properties.{prop, put_by, same_key}
use Rattle.es_event.specs.Ephemerons.{same_pair, entered_by, first_entry, entry}
use Rattle.es_event.specs.Registrations.{Cell, cell, fate, is_present}
use Rattle.es_event.specs.Sharing.{Buffers}
use Rattle.es_event.specs.Rules.{is_weakmap, refuse_or, or_undefined}
use Rattle.es_event.specs.Legal.{LegalBy}
use Rattle.es_event.specs.Live.{AgreeAlong, ObliviousDid, Oblivious, Live}
use Rattle.es_event.specs.Reach.{IsHeld, in_variable, in_property, in_entry}
use Rattle.es_event.proofs.Cells.{fate_awaits}
use Rattle.es_event.proofs.Entries.{entry_parts}
use Rattle.es_event.proofs.Maps.{entry_in_map}

agrees : (into : Receivers) (h : History) → AgreeAlong h into into
agrees into [] = tt
agrees into (e ∷ h) = (refl, agrees into h)

-- Names of variables, told apart by their lengths

abbrev word : ℕ → List ℕ
word zero = []
word (suc n) = 97 ∷ word n

word_length : (n : ℕ) → length (word n) ≡ n
word_length zero = refl
word_length (suc n) = ap suc (word_length n)

same_name : (x : List ℕ) → bytes_eq x x ≡ true
same_name x = (bytes_eq-Decides x x).1 refl

other_name : (n : ℕ) (x : List ℕ) → length x < n → bytes_eq (word n) x ≡ false
other_name n x short =
    elim (cases_Bool (bytes_eq (word n) x)) [
      | inl t ↦ let same : length (word n) ≡ length x = ap length ((bytes_eq-Decides (word n) x).0 t) in absurd (omega (arith, short, same, word_length n))
      | inr f ↦ f
    ]

-- each variable in which something is held has a shorter name
abbrev bound : (into : Receivers) (h : History) (v : Value) → IsHeld into h v → ℕ
bound into h v (in_variable x w e) = 1 + length x
bound into h v (in_property o k w held e) = bound into h (Object o) held
bound into h v (in_entry m k w u map key is e) = bound into h (Object m) map + bound into h w key

-- Executions that only read

-- one that is oblivious of s, and leaves alone all that is held but in variables of names of b bytes and more
record Reading (over : Buffers) (into : Receivers) (h : History) (s : List ℕ) (b : ℕ) (later : History) : Type 0 where
  oblivious : Oblivious s over into h later
  variables : (x : List ℕ) → length x < b → var into (later ++ h) x ≡ var into h x
  properties : (o : ℕ) (k : List ℕ) → prop (later ++ h) o k ≡ prop h o k
  entries : (m k : ℕ) → entry (later ++ h) m k ≡ entry h m k
  kinds : (o : ℕ) → kind (later ++ h) o ≡ kind h o

-- one after now that has the value in a variable, and leaves alone those of names of less than n bytes
record Brought (over : Buffers) (into : Receivers) (h : History) (s : List ℕ) (b n : ℕ) (now : History) (v : Value) : Type 0 where
  later : History
  reading : Reading over into h s b later
  place : List ℕ
  there : var into (later ++ h) place ≡ v
  others : (x : List ℕ) → length x < n → var into (later ++ h) x ≡ var into (now ++ h) x

no_birth : (o : Option ℕ) (k : Option Kind) → k ≡ None → ◌≡◌ {A = Option (ℕ × Option Kind)} (option_and_then (λ i. option_map (λ k. (i, Some k)) k) o) None
no_birth None k e = refl
no_birth (Some i) k e = ap (option_map (λ k. (i, Some k))) e

-- a command that gives v to the variable of n letters, and writes nothing else
read_next : (over : Buffers) (into : Receivers) (h : History) (s : List ℕ) (b n : ℕ) (now later : History) (c : Command) (vs : List Value) (v : Value)
    → b ≤ n → assigns c ≡ Some (word n) → kind_made c vs ≡ None → put_by c vs ≡ None → entered_by c vs ≡ None
    → ObliviousDid s over into (later ++ h) c vs (Gives v) → Reading over into h s b later
    → ((x : List ℕ) → length x < n → var into (later ++ h) x ≡ var into (now ++ h) x) → Brought over into h s b n now v
read_next over into h s b n now later c vs v above to makes puts enters did before others =
    let g : History = later ++ h in
    let var_after : (x : List ℕ) → var into (Did (c, vs, Gives v) ∷ g) x ≡ unwrap_or (cond (bytes_eq (word n) x) (Some v) None) (var into g x)
    = λ x. ap (λ t. unwrap_or (at_key bytes_eq x (option_map (λ y. (y, v)) t)) (var into g x)) to in
    let left : (x : List ℕ) → length x < n → var into (Did (c, vs, Gives v) ∷ g) x ≡ var into g x
    = λ x short. var_after x ∙ ap (λ t. unwrap_or (cond t (Some v) None) (var into g x)) (other_name n x short) in
    record {
      later = Did (c, vs, Gives v) ∷ later;
      reading = record {
        oblivious = (did, before.oblivious);
        variables = λ x short. left x (omega (arith, short, above)) ∙ before.variables x short;
        properties = λ o k. ap (λ q. unwrap_or (at_key same_key (o, k) q) (prop g o k)) puts ∙ before.properties o k;
        entries = λ m k. ap (λ q. cond (is_gone g k) None (unwrap_or (at_key same_pair (m, k) q) (first_entry g m k))) enters ∙ before.entries m k;
        kinds = λ o. ap (λ q. unwrap_or (at_key (λ i j. i == j) o q) (kind g o)) (no_birth (object_of v) (kind_made c vs) makes) ∙ before.kinds o;
      };
      place = word n;
      there = var_after (word n) ∙ ap (λ t. unwrap_or (cond t (Some v) None) (var into g (word n))) (same_name (word n));
      others = λ x short. left x short ∙ others x short;
    }

-- What is held is brought into a variable

property_next : (over : Buffers) (into : Receivers) (h : History) (s : List ℕ) (b n : ℕ) (now : History) → b ≤ n → (o : ℕ) (k : List ℕ) (v : Value)
    → Brought over into h s b n now (Object o) → prop h o k ≡ Some v → Brought over into h s b n now v
property_next over into h s b n now above o k v r e =
    let gives : or_undefined (prop (r.later ++ h) o k) ≡ Gives v = ap or_undefined (r.reading.properties o k ∙ e) in
    read_next over into h s b n now r.later (Get (word n) r.place k) (Object o ∷ []) v above refl refl refl refl
    (ap (λ a. a ∷ []) (sym r.there), ap Ok gives, refl, tt) r.reading r.others

-- the WeakMap first, and then the key into another variable
entry_next : (over : Buffers) (into : Receivers) (h : History) (s : List ℕ) (b n : ℕ) (now : History) → b ≤ n → LegalBy over into h → (m k : ℕ) (w v : Value)
    → (r : Brought over into h s b n now (Object m)) → Brought over into h s b (n + (1 + length r.place)) r.later w → identity w ≡ Some k → entry h m k ≡ Some v → Brought over into h s b n now v
entry_next over into h s b n now above legal m k w v r q is e =
    let g : History = q.later ++ h in
    let map : var into g r.place ≡ Object m = q.others r.place (omega arith) ∙ r.there in
    let kind_there : is_weakmap (kind g m) ≡ true = ap is_weakmap (q.reading.kinds m) ∙ entry_in_map over into h legal m k v (entry_parts h m k v e).1 in
    read_next over into h s b n now q.later (WeakMapGet (word n) r.place q.place) (Object m ∷ w ∷ []) v above refl refl refl refl (
      ap (λ a. a ∷ w ∷ []) (sym map) ∙ ap (λ a. var into g r.place ∷ a ∷ []) (sym q.there),
      ap (λ t. refuse_or (cond t None (Some NotAWeakMap)) (or_undefined (option_and_then (entry g m) (identity w)))) kind_there
          ∙ ap (λ t. Ok (or_undefined (option_and_then (entry g m) t))) is ∙ ap (λ t. Ok (or_undefined t)) (q.reading.entries m k ∙ e),
      refl,
      tt,
    )
    q.reading (λ x short. q.others x (omega (arith, short)) ∙ r.others x short)

brought : (over : Buffers) (into : Receivers) (h : History) (s : List ℕ) (b : ℕ) → LegalBy over into h → (v : Value) (held : IsHeld into h v) → bound into h v held ≤ b
    → (n : ℕ) → b ≤ n → (now : History) → Reading over into h s b now → Brought over into h s b n now v
brought over into h s b l v (in_variable x w e) within n above now before =
    let short : 1 + length x ≤ b = within in
    record { later = now; reading = before; place = x; there = before.variables x (omega (arith, short)) ∙ e; others = λ y less. refl }
brought over into h s b l v (in_property o k w held e) within n above now before = property_next over into h s b n now above o k v (brought over into h s b l (Object o) held within n above now before) e
brought over into h s b l v (in_entry m k w u map key is e) within n above now before =
    let both : bound into h (Object m) map + bound into h w key ≤ b = within in
    let r = brought over into h s b l (Object m) map (omega (arith, both)) n above now before in
    entry_next over into h s b n now above l m k w v r (brought over into h s b l w key (omega (arith, both)) (n + (1 + length r.place)) (omega (arith, above)) r.later r.reading) is e

pub held_live : (over : Buffers) (into : Receivers) (h : History) (s : List ℕ) (v : Value) → LegalBy over into h → IsHeld into h v → has_identity_in s v ≡ true → Live into h s
held_live over into h s v l held e =
    let b : ℕ = bound into h v held in
    let start : Reading over into h s b [] = record { oblivious = l; variables = λ x short. refl; properties = λ o k. refl; entries = λ m k. refl; kinds = λ o. refl } in
    let r : Brought over into h s b b [] v = brought over into h s b l v held (omega arith) b (omega arith) [] start in
    inr (record {
      over = over;
      other = into;
      agree = agrees into h;
      before = r.later;
      event = Did (Say r.place, v ∷ [], Nothing);
      oblivious = ((ap (λ a. a ∷ []) (sym r.there), refl, refl, tt), r.reading.oblivious);
      observed = or_left (has_identity_in s v) false e;
    })

-- What a cell holds that is in its registry

pub holding_live : (over : Buffers) (into : Receivers) (h : History) (s : List ℕ) (n : ℕ) (c : Cell) → LegalBy over into h → cell h n ≡ Some c → is_present (fate h n) ≡ true → has_identity_in s c.held ≡ true → Live into h s
holding_live over into h s n c l at present e =
    inr (record {
      over = over;
      other = into;
      agree = agrees into h;
      before = Emptied (c.target ∷ []) ∷ [];
      event = Taken n c.held;
      oblivious = ((ap (option_map (λ c. c.held)) at, fate_awaits (c.target ∷ []) h n c at present (or_left (c.target == c.target) false (eq-eqb c.target c.target refl))), (tt, l));
      observed = e;
    })
