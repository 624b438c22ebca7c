-- A closed set stays closed, along every execution that is oblivious of what it lacks.
use Rattle.std.proofs.Common.{◌≡◌, ℕ, ◌+◌, ◌<◌, ◌≤◌, not, Bool, true, false, sym, ◌∙◌, ap, refl, subst, arith, nat_lt, nat_le, List, [], ◌∷◌, ◌++◌, Some, inl, inr}
use Rattle.std.specs.Prelude.{unwrap_or}
use Rattle.std.specs.Option.{option_map_or}
use Rattle.std.specs.Str.{bytes_eq}
use Rattle.std.proofs.lemmas.Bool.{cases_Bool, and_from, and_right, or_cases, or_left, or_right, lt-ltb, le-leb, lt-leb, false≢true}
use Rattle.es_value.specs.declared.value.Value.{Value}
use Rattle.es_value.specs.declared.value.Value.TheVariants.{Undefined, Object}
use Rattle.es_event.specs.declared.event.Answer.{Answer}
use Rattle.es_event.specs.declared.event.Answer.TheVariants.{Gives}
use Rattle.es_event.specs.declared.event.Event.{Event}
use Rattle.es_event.specs.declared.event.Event.TheVariants.{Received, Did, Taken, JobEnded}
use Rattle.es_event.specs.declared.command.Command.{Command}
use Rattle.es_event.specs.declared.command.Command.TheVariants.{Deref}
use Rattle.es_event.specs.Commands.{first, reads}
use Rattle.es_event.specs.History.{History, at_key}
use Rattle.es_event.specs.Identities.{identity, is_in, is_gone, is_made, has_identity_in, made, gone}
use Rattle.es_event.specs.Jobs.{Receivers}
use Rattle.es_event.specs.Variables.{var, assigned}
use Rattle.es_event.specs.WeakRefs.{kept, first_target, target}
use Rattle.es_event.specs.Sharing.{Buffers}
use Rattle.es_event.specs.Rules.{target_of}
use Rattle.es_event.specs.Heard.{heard_by}
use Rattle.es_event.specs.Legal.{Lawful, LegalBy, values_of}
use Rattle.es_event.specs.Live.{AgreeAlong, refers_into, DerefOf, ObliviousOf, Oblivious}
use Rattle.es_event.specs.Reach.{IsClosed, IsClosedBeside, with_later}
use Rattle.es_event.proofs.Accepted.{is_result}
use Rattle.es_event.proofs.Entries.{still_there}
use Rattle.es_event.proofs.Source.{IsDeref, source, fresh_number}
use Rattle.es_event.proofs.Holds.{Holds, holds_after, arrives_held, holds_received, holds_did, holds_taken, first_of, at_object, gives_held}
use Rattle.es_event.proofs.Keeping.{kept_by, kept_either}
use Rattle.es_event.proofs.Objects.{object_within, prop_owner, map_within, key_within}
use Rattle.es_event.proofs.Targets.{target_from}

-- Later histories

pub not_gone : (f h : History) (i : ℕ) → is_gone (f ++ h) i ≡ false → is_gone h i ≡ false
not_gone [] h i e = e
not_gone (x ∷ f) h i e = not_gone f h i (still_there x (f ++ h) i e)

pub made_more : (f h : History) → made h ≤ made (f ++ h)
made_more [] h = omega arith
made_more (e ∷ f) h = omega (arith, made_more f h)

-- What the set has

-- an identity of the value is in m, or was made later
abbrev pub Held : History → (ℕ → Bool) → Value → Type 0
Held h m v = (i : ℕ) → identity v ≡ Some i → with_later h m i ≡ true

by_set : (h : History) (m : ℕ → Bool) (i : ℕ) → m i ≡ true → with_later h m i ≡ true
by_set h m i e = or_left (m i) (not (is_made h i)) e

held_object : (h : History) (m : ℕ → Bool) (p : ℕ) → with_later h m p ≡ true → Held h m (Object p)
held_object h m p has j at = let same : p ≡ j = cc in subst (λ j. with_later h m j ≡ true) same has

by_number : (h : History) (m : ℕ → Bool) (i : ℕ) → is_made h i ≡ false → with_later h m i ≡ true
by_number h m i e = or_right (m i) (not (is_made h i)) (ap not e)

made_later : (h g : History) (m : ℕ → Bool) (i : ℕ) → made h ≤ made g → i ≡ made g + 1 → with_later h m i ≡ true
made_later h g m i l e = by_number h m i (and_right (nat_lt 0 i) (nat_le i (made h)) (lt-leb i (made h) (omega arith)))

pub in_set : (s : List ℕ) (v : Value) (i : ℕ) → has_identity_in s v ≡ false → identity v ≡ Some i → is_in s i ≡ false
in_set s v i e f = sym (ap (λ o. option_map_or (is_in s) o false) f) ∙ e

-- what is neither in s nor emptied
pub not_out : (into : Receivers) (h : History) (s : List ℕ) (m : ℕ → Bool) → IsClosedBeside s into h m → (i : ℕ) → is_in s i ≡ false → is_gone h i ≡ false → with_later h m i ≡ true
not_out into h s m all i out here =
    elim (cases_Bool (is_made h i)) [
      | inl e ↦ by_set h m i (all.others i (and_from (is_made h i) (not (is_gone h i)) e (ap not here)) out)
      | inr e ↦ by_number h m i e
    ]

-- At the end of h

same_assigned : (into other : Receivers) (h : History) (e : Event) → other h ≡ into h → assigned other h e ≡ assigned into h e
same_assigned into other h (Received t v) a = ap (λ x. Some (x, v)) a
same_assigned into other h (Did (c, vs, r)) a = refl
same_assigned into other h _ a = refl

-- receivers that agree along a history say the same of its variables
pub same_var : (into other : Receivers) (h : History) → AgreeAlong h into other → (x : List ℕ) → var other h x ≡ var into h x
same_var into other [] agree x = refl
same_var into other (e ∷ h) agree x =
    ap (λ p. unwrap_or (at_key bytes_eq x p) (var other h x)) (same_assigned into other h e agree.0)
    ∙ ap (unwrap_or (at_key bytes_eq x (assigned into h e))) (same_var into other h agree.1 x)

-- and a set that is closed by the one is closed by the other
pub beside_other : (into other : Receivers) (h : History) (s : List ℕ) (m : ℕ → Bool) → AgreeAlong h into other → IsClosedBeside s into h m → IsClosedBeside s other h m
beside_other into other h s m agree all = record {
  closed = record {
    variables = λ x i e. all.closed.variables x i (ap identity (sym (same_var into other h agree x)) ∙ e);
    kept = all.closed.kept;
    registries = all.closed.registries;
    cells = all.closed.cells;
    properties = all.closed.properties;
    entries = all.closed.entries;
  };
  others = all.others;
}

was_made : (h : History) (i : ℕ) → (0 < i) × (i ≤ made h) → is_made h i ≡ true
was_made h i w = and_from (nat_lt 0 i) (nat_le i (made h)) (lt-ltb 0 i w.0) (le-leb i (made h) w.1)

-- what was made at h and is had, is in m
in_m : (h : History) (m : ℕ → Bool) (i : ℕ) → (0 < i) × (i ≤ made h) → with_later h m i ≡ true → m i ≡ true
in_m h m i w e = elim (or_cases (m i) (not (is_made h i)) e) [ inl a ↦ a | inr b ↦ absurd (false≢true (sym (ap not (was_made h i w)) ∙ b)) ]

held_at : (over : Buffers) (other : Receivers) (h : History) (s : List ℕ) (m : ℕ → Bool) → IsClosedBeside s other h m → LegalBy over other h → Holds (Held h m) other h
held_at over other h s m all l = record {
  plain = λ v e i f. cc;
  variables = λ x i e. by_set h m i (all.closed.variables x i e);
  registries = λ r c e. held_object h m r (by_set h m r (all.closed.registries r c e));
  cells = λ n c e present i is. by_set h m i (all.closed.cells n c i e present is);
  properties = λ o k v held e i f. by_set h m i (all.closed.properties o k v i (in_m h m o (object_within over other h l o (prop_owner over other h l o k v e)) (held o refl)) e f);
  entries = λ a k w v map key is e i f. by_set h m i (all.closed.entries a k v i
      (in_m h m a (map_within over other h l a k v e) (map a refl)) (in_m h m k (key_within over other h l a k v e) (key k is)) e f);
}

-- What a command reads and gives

pub record Gave (P : Value → Type 0) (into : Receivers) (g : History) (c : Command) (vs : List Value) (r : Answer) : Type 0 where
  pub values : vs ≡ values_of into g (reads c)
  pub answer : (v : Value) → r ≡ Gives v → P v

-- a target outside s that is not emptied
held_target : (into : Receivers) (h : History) (s : List ℕ) (m : ℕ → Bool) → IsClosedBeside s into h m → (f : History) (a v : Value)
    → refers_into s (f ++ h) a ≡ false → target_of (f ++ h) a ≡ Some v → Held h m v
held_target into h s m all f a v outside e = at_object (Held h m v) (target (f ++ h)) a v (λ w at aims i is.
    let from = target_from (gone (f ++ h)) (first_target (f ++ h) w) v aims in
    let out : has_identity_in s v ≡ false = sym (ap (refers_into s (f ++ h)) at ∙ ap (λ o. option_map_or (has_identity_in s) o false) from.0) ∙ outside in
    not_out into h s m all i (in_set s v i out is) (not_gone f h i (in_set (gone (f ++ h)) v i from.1 is))) e

gave_lawful : (over : Buffers) (other : Receivers) (h : History) (s : List ℕ) (m : ℕ → Bool) → IsClosedBeside s other h m → (f : History) (c : Command) (vs : List Value) (r : Answer)
    → Holds (Held h m) other (f ++ h) → (IsDeref c → refers_into s (f ++ h) (first vs) ≡ false) → Lawful over other (f ++ h) (Did (c, vs, r)) → Gave (Held h m) other (f ++ h) c vs r
gave_lawful over other h s m all f c vs r holds outside l = record {
  values = l.0;
  answer = λ v e. gives_held (Held h m) other (f ++ h) c vs v holds l.0
      (λ n i is. made_later h (f ++ h) m i (made_more f h) (fresh_number (f ++ h) c vs v i n is))
      (λ d aims. held_target other h s m all f (first vs) v (outside d) aims)
      (source over (f ++ h) c vs (heard_by c r) v (is_result over (f ++ h) c vs (heard_by c r) r l.1 ∙ e));
}

undefined_held : (P : Value → Type 0) (r : Answer) (v : Value) → P Undefined → r ≡ Gives Undefined → r ≡ Gives v → P v
undefined_held P r v p e f = let same : Undefined ≡ v = cc in subst P same p

gave_deref : (over : Buffers) (other : Receivers) (h : History) (s : List ℕ) (m : ℕ → Bool) → IsClosedBeside s other h m → (f : History) (to w : List ℕ) (vs : List Value) (r : Answer) (b : Bool)
    → Holds (Held h m) other (f ++ h) → refers_into s (f ++ h) (first vs) ≡ b → DerefOf b over other (f ++ h) (Deref to w) vs r → Gave (Held h m) other (f ++ h) (Deref to w) vs r
gave_deref over other h s m all f to w vs r true holds e l = record { values = l.0; answer = λ v g. undefined_held (Held h m) r v (holds.plain Undefined refl) l.1 g }
gave_deref over other h s m all f to w vs r false holds e l = gave_lawful over other h s m all f (Deref to w) vs r holds (λ d. e) l

pub gave : (over : Buffers) (other : Receivers) (h : History) (s : List ℕ) (m : ℕ → Bool) → IsClosedBeside s other h m → (f : History) (c : Command) (vs : List Value) (r : Answer)
    → Holds (Held h m) other (f ++ h) → ObliviousOf s over other (f ++ h) (Did (c, vs, r)) → Gave (Held h m) other (f ++ h) c vs r
gave over other h s m all f (Deref to w) vs r holds l = gave_deref over other h s m all f to w vs r _ holds refl l
gave over other h s m all f c vs r holds l = gave_lawful over other h s m all f c vs r holds (λ d. absurd d) l

-- Every execution that is oblivious of s holds and keeps what the set has

pub holds_along : (over : Buffers) (other : Receivers) (h : History) (s : List ℕ) (m : ℕ → Bool) → IsClosedBeside s other h m → (f : History) → Oblivious s over other h f → Holds (Held h m) other (f ++ h)
holds_along over other h s m all [] o = held_at over other h s m all o
holds_along over other h s m all (Received t v ∷ f) o =
    let before = holds_along over other h s m all f o.1 in
    holds_received (Held h m) other (f ++ h) t v before
    (arrives_held (Held h m) over (f ++ h) v before.plain (λ i n. held_object h m i (made_later h (f ++ h) m i (made_more f h) n)) o.0)
holds_along over other h s m all (Did (c, vs, r) ∷ f) o =
    let before = holds_along over other h s m all f o.1 in
    let given = gave over other h s m all f c vs r before o.0 in
    holds_did (Held h m) other (f ++ h) c vs r before given.values given.answer
holds_along over other h s m all (Taken n held ∷ f) o = holds_taken (Held h m) other (f ++ h) n held (holds_along over other h s m all f o.1) o.0.0 o.0.1
holds_along over other h s m all (e ∷ f) o =
    holds_after (Held h m) other (f ++ h) e (holds_along over other h s m all f o.1) (λ q t. cc) (λ q w t at. cc) (λ q w t at. cc) (λ q t. cc) (λ c t. cc)

keeps_along : (over : Buffers) (other : Receivers) (h : History) (s : List ℕ) (m : ℕ → Bool) → IsClosedBeside s other h m → (f : History) → Oblivious s over other h f
    → (i : ℕ) → is_in (kept (f ++ h)) i ≡ true → with_later h m i ≡ true
keeps_along over other h s m all [] o i e = by_set h m i (all.closed.kept i e)
keeps_along over other h s m all (Did (c, vs, r) ∷ f) o i e =
    let before = holds_along over other h s m all f o.1 in
    let given = gave over other h s m all f c vs r before o.0 in
    let read : Held h m (first vs) = subst (Held h m) (ap first (sym given.values)) (first_of (Held h m) other (f ++ h) (reads c) before) in
    kept_either (with_later h m i ≡ true) c vs r (f ++ h) i
    (λ a. kept_by (λ j. with_later h m j ≡ true) c vs r read (λ d v g. given.answer v g) i a)
    (λ b. keeps_along over other h s m all f o.1 i b) e
keeps_along over other h s m all (JobEnded ∷ f) o i e = cc
keeps_along over other h s m all (x ∷ f) o i e = keeps_along over other h s m all f o.1 i e

pub stays_closed : (over : Buffers) (other : Receivers) (h : History) (s : List ℕ) (m : ℕ → Bool) → IsClosedBeside s other h m → (f : History) → Oblivious s over other h f
    → IsClosed other (f ++ h) (λ j. with_later h m j ≡ true)
stays_closed over other h s m all f o =
    let holds = holds_along over other h s m all f o in
    record {
      variables = λ x i e. holds.variables x i e;
      registries = λ r c e. holds.registries r c e r refl;
      cells = λ n c i e present is. holds.cells n c e present i is;
      kept = keeps_along over other h s m all f o;
      properties = λ p k v i has e is. holds.properties p k v (held_object h m p has) e i is;
      entries = λ p k v i map key e is. holds.entries p k (Object k) v (held_object h m p map) (held_object h m k key) refl e i is;
    }
